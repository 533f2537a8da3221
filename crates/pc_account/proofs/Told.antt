-- Answers of what stands under a mailbox's name.
use Rattle.std.proofs.Common.{◌≡◌, ℕ, ◌==◌, true, false, List, [], ◌∷◌, map, length, Option, None, Some, option_map, is_some, MatchOption, Ok, Err, refl, sym, ◌∙◌, ap}
use Rattle.std.specs.Prelude.{⊤}
use Rattle.std.specs.Option.{option_map_or}
use Rattle.std.specs.List.{AllByRecursion as Every}
use Rattle.std.specs.Map.{lookup, keys_of}
use Rattle.std.proofs.lemmas.Bool.{eqb-true}
use Rattle.pc_base.specs.declared.refusal.Refusal.TheVariants.{NoSuchMessage}
use Rattle.pc_message.specs.declared.descriptor.Change.TheVariants.{Present, Expunged}
use Rattle.pc_message.specs.declared.descriptor.Descriptor.{Descriptor}
use Rattle.pc_message.specs.Descriptor.{descriptor_of}
use Rattle.pc_account_history.specs.declared.kept.Kept.{Kept}
use Rattle.pc_tables.specs.Table.{same, is_among}
use Rattle.pc_account_history.specs.Record.{MailboxRecord, AccountRecord, kept_at}
use Rattle.pc_account_history.specs.Known.{said_by}
use Rattle.pc_account_history.specs.Legal.{IsWellFormed}
use Rattle.pc_tables.proofs.Table.{is_among-keys}
use Rattle.pc_tables.proofs.Options.{some-same, some-none}
use Rattle.pc_tables.proofs.Lists.{found-passes}
use Rattle.pc_tables.proofs.Distinct.{Every-from_lookups}
use Rattle.pc_account.specs.declared.answer.Answer.TheVariants as answer
use Rattle.pc_base.specs.declared.ask_fault.AskFault.TheVariants.{Refused}
use Rattle.pc_base.specs.AskFault.{Tells}
use Rattle.pc_account.specs.Answers.{row_of, row_in, told_at, IsPlain}
use Rattle.pc_account.proofs.Found.{live-found, live-messages}
use Rattle.pc_account.proofs.Changed.{distinct-front}

-- ---- a mailbox that lives, and one that doesn't

pub lives : (r : AccountRecord) (mailbox : List ℕ) (box : MailboxRecord) → Some box ≡ lookup (same mailbox) r.live → is_among mailbox (keys_of r.live) ≡ true
lives r mailbox box found = is_among-keys mailbox r.live ∙ sym (ap is_some found)

pub dead : (r : AccountRecord) (mailbox : List ℕ) → lookup (same mailbox) r.live ≡ None → is_among mailbox (keys_of r.live) ≡ false
dead r mailbox none = is_among-keys mailbox r.live ∙ ap is_some none

-- ---- a message

pub letter-gone : (found : Option Kept) → None ≡ option_map (λ (kept : Kept). kept.message) found → Tells (option_map_or (λ (kept : Kept). Ok (answer.Letter kept.message)) found (Err NoSuchMessage)) (Err (Refused NoSuchMessage))
letter-gone None h = refl
letter-gone (Some kept) h = absurd (some-none kept.message (sym h))

pub letter-there : (found : Option Kept) (message : List (List ℕ)) → Some message ≡ option_map (λ (kept : Kept). kept.message) found → Tells (option_map_or (λ (kept : Kept). Ok (answer.Letter kept.message)) found (Err NoSuchMessage)) (Ok (answer.Letter message))
letter-there None message h = absurd (some-none message h)
letter-there (Some kept) message h = ap answer.Letter (some-same message kept.message h)

-- a message that is there isn't told plainly
pub letter-taken : (found : Option Kept) (message : List (List ℕ)) → Some message ≡ option_map (λ (kept : Kept). kept.message) found → IsPlain (option_map_or (λ (kept : Kept). Ok (answer.Letter kept.message)) found (Err NoSuchMessage)) → ⊥
letter-taken None message h plain = absurd (some-none message h)
letter-taken (Some kept) message h plain = plain

-- ---- what is told of a uid

present-step : (uid flags : ℕ) (message : List (List ℕ)) (found : Option Kept) → MatchOption found ⊤ (λ kept. kept.uid ≡ uid) → Some flags ≡ option_map (λ (kept : Kept). kept.flags) found → Some message ≡ option_map (λ (kept : Kept). kept.message) found → Present (descriptor_of message uid flags) ≡ option_map_or (λ (kept : Kept). Present (descriptor_of kept.message kept.uid kept.flags)) found (Expunged uid)
present-step uid flags message None own f m = absurd (some-none flags f)
present-step uid flags message (Some kept) own f m =
    (λ i. Present (descriptor_of (some-same message kept.message m i) (sym own i) (some-same flags kept.flags f i)))

own-uid : (uid : ℕ) (kepts : List Kept) (found : Option Kept) → kept_at uid kepts ≡ found → MatchOption found ⊤ (λ kept. kept.uid ≡ uid)
own-uid uid kepts None e = tt
own-uid uid kepts (Some kept) e = eqb-true kept.uid uid (found-passes (λ (k : Kept). k.uid == uid) kepts kept e)

pub told-present : (uid flags : ℕ) (message : List (List ℕ)) (box : MailboxRecord) (descriptor : Descriptor) → Some flags ≡ option_map (λ (kept : Kept). kept.flags) (kept_at uid box.messages) → Some message ≡ option_map (λ (kept : Kept). kept.message) (kept_at uid box.messages) → descriptor ≡ descriptor_of message uid flags → Present descriptor ≡ told_at uid box
told-present uid flags message box descriptor f m d = ap Present d ∙ present-step uid flags message (kept_at uid box.messages) (own-uid uid box.messages (kept_at uid box.messages) refl) f m

-- ---- rows

row-found : (r : AccountRecord) (number : ℕ) (name : List ℕ) → IsWellFormed r number → (found : Option MailboxRecord) → lookup (same name) r.live ≡ found → MatchOption found ⊤ (λ box. row_of (said_by r number) name ≡ row_in (name, box))
row-found r number name formed None e = tt
row-found r number name formed (Some box) e = λ i. record { name = name; live = length (live-messages r number name box formed (sym e) i); highest = (live-found r name box (sym e) i).highest }

rows-equal : (r : AccountRecord) (number : ℕ) (table : List (List ℕ × MailboxRecord)) → Every (λ (entry : List ℕ × MailboxRecord). row_of (said_by r number) entry.0 ≡ row_in (entry.0, entry.1)) table → map (row_of (said_by r number)) (keys_of table) ≡ map row_in table
rows-equal r number [] h = refl
rows-equal r number (entry ∷ table) h = λ i. h.0 i ∷ rows-equal r number table h.1 i

pub rows-there : (r : AccountRecord) (number : ℕ) → IsWellFormed r number → map (row_of (said_by r number)) (keys_of r.live) ≡ map row_in r.live
rows-there r number formed = rows-equal r number r.live (Every-from_lookups (λ name box. row_of (said_by r number) name ≡ row_in (name, box)) r.live (distinct-front (keys_of r.live) (keys_of r.dropped) formed.mailbox_names) (λ name. row-found r number name formed (lookup (same name) r.live) refl))
