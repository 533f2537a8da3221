use Rattle.std.proofs.Common.{◌≡◌, ◌<◌, ℕ, List, length, true, Option, Result, Err, sym, subst}
use Rattle.std.specs.Option.{option_map_or}
use Rattle.std.specs.List.{list_all}
use Rattle.pc_base.specs.Name.{is_name}
use Rattle.pc_base.specs.Recipient.{shown_of}
use Rattle.pc_base.specs.declared.refusal.Refusal.TheVariants.{UnknownRecipient}
use Rattle.pc_base.specs.AskFault.{Tells}
use Rattle.pc_message.specs.Recipients.{RecipientsOutcome, addresses_of, distinct}
use Rattle.pc_message.specs.declared.addresses.RecipientFault.{RecipientFault}
use Rattle.pc_office_history.specs.Allowed.{are_apart}
use Rattle.pc_office_history.specs.Known.{said_by}
use Rattle.pc_office_holdings.specs.Held.{record_in}
use Rattle.pc_office.specs.Plan.{sent_to_names}
use Rattle.pc_office.proofs.Sending.{apart-distinct, some-distinct, names-distinct}
use Rattle.pc_office.proofs.planning.send.Goals as goal

pub send_to-requires-clause-some : goal.send_to-requires-clause-some
send_to-requires-clause-some c =
    let addresses = addresses_of c.args.message.now in
    let outcome = subst (λ (told : Result (List (List ℕ)) RecipientFault). RecipientsOutcome addresses told) c.in-Ok.is c.recipients.ensures in
    subst (λ (names : List (List ℕ)). 0 < length names) (sym outcome.1) (some-distinct addresses outcome.0)

pub send_to-requires-clause-apart : goal.send_to-requires-clause-apart
send_to-requires-clause-apart c =
    let addresses = addresses_of c.args.message.now in
    let outcome = subst (λ (told : Result (List (List ℕ)) RecipientFault). RecipientsOutcome addresses told) c.in-Ok.is c.recipients.ensures in
    subst (λ (names : List (List ℕ)). are_apart names ≡ true) (sym outcome.1) (apart-distinct addresses)

pub send_to-requires-clause-names : goal.send_to-requires-clause-names
send_to-requires-clause-names c =
    let addresses = addresses_of c.args.message.now in
    let outcome = subst (λ (told : Result (List (List ℕ)) RecipientFault). RecipientsOutcome addresses told) c.in-Ok.is c.recipients.ensures in
    subst (λ (names : List (List ℕ)). list_all is_name names ≡ true) (sym outcome.1) (names-distinct addresses outcome.0)

pub returns-clause-tells : goal.returns-clause-tells
returns-clause-tells c =
    let k = said_by (record_in c.args.holdings.now) in
    let addresses = addresses_of c.args.message.now in
    let outcome = subst (λ (told : Result (List (List ℕ)) RecipientFault). RecipientsOutcome addresses told) c.in-Ok.is c.recipients.ensures in
    let told = subst (λ (names : List (List ℕ)). Tells (sent_to_names k c.args.message.now names) c.send_to.result) outcome.1 c.send_to.ensures.tells in
    subst (λ (unknown : Option (List ℕ)). Tells (option_map_or (λ address. Err (UnknownRecipient (shown_of address))) unknown (sent_to_names k c.args.message.now (distinct addresses))) c.send_to.result) (sym outcome.0) told
