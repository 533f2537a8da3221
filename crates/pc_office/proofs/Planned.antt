-- What a wish comes to may come next.
use Rattle.std.proofs.Common.{IfOk, ◌≡◌, ℕ, suc, ◌<◌, Bool, true, false, cond, not, ◌&&◌, ◌||◌, nat_lt, List, [], ◌∷◌, length, Option, None, Some, is_none, is_some, Result, Ok, Err, IsTrue, refl, sym, ap, ◌∙◌, arith, lt-ltb, inl, inr, true≢false}
use Rattle.std.specs.Option.{option_map_or}
use Rattle.std.specs.List.{find, list_all}
use Rattle.std.proofs.lemmas.Bool.{and_from, cases_lt}
use Rattle.pc_base.specs.declared.refusal.Refusal.TheVariants.{LimitReached, NoSuchAddress, AddressTaken, UnknownRecipient}
use Rattle.pc_base.specs.declared.refusal.LimitWord.{LimitWord}
use Rattle.pc_base.specs.declared.refusal.LimitWord.TheVariants as limit
use Rattle.pc_base.specs.Recipient.{shown_of}
use Rattle.pc_message.specs.Recipients.{addresses_of, distinct, unknown_of}
use Rattle.pc_base.specs.declared.ask_fault.AskFault.{AskFault}
use Rattle.pc_base.specs.AskFault.{Tells}
use Rattle.pc_tables.specs.Table.{same}
use Rattle.pc_message.specs.declared.limits.TheConstants.{LAST_MAIL}
use Rattle.pc_tables.proofs.Options.{some-none}
use Rattle.pc_office_history.specs.declared.kept.Target.{Target}
use Rattle.pc_office_history.specs.declared.limits.TheConstants.{MOST_RECIPIENTS}
use Rattle.pc_office_history.specs.declared.entry.OfficeEntry.{OfficeEntry}
use Rattle.pc_office_history.specs.declared.entry.OfficeEntry.TheVariants as entry
use Rattle.pc_office_history.specs.Known.{Known, said_by}
use Rattle.pc_office_history.specs.Record.{OfficeRecord}
use Rattle.pc_office_spelling.specs.EntryForm.{entry_fits}
use Rattle.pc_office.specs.Machine.{accepts}
use Rattle.pc_office_history.specs.Allowed.{is_allowed, is_user, is_free, is_recipient, are_apart}
use Rattle.pc_office_history.specs.Limits.{limit_passed, would_pass}
use Rattle.pc_office.specs.declared.wish.OfficeWish.{OfficeWish}
use Rattle.pc_office.specs.declared.wish.OfficeWish.TheVariants as wish
use Rattle.pc_office_holdings.specs.State.{may_follow}
use Rattle.pc_office.specs.Plan.{within_limits, if_free, may_give_up, first_stranger, sent_to_names, sent, planned}
use Rattle.pc_office.proofs.Sending.{apart-distinct, some-distinct, none-strange}

-- an entry that is told is one that passes no limit
within-none : (k : Known) (e : OfficeEntry) (told : OfficeEntry) → Tells (within_limits k e) (Ok told) → (limit_passed k e ≡ None) × (told ≡ e)
within-none k e told h = elim (limit_passed k e) as (λ o. Tells (option_map_or (λ passed. Err (LimitReached passed)) o (Ok e)) (Ok told) → (o ≡ None) × (told ≡ e)) [
  | None ↦ λ is. (refl, is)
  | Some passed ↦ λ no. absurd no
] h

follows : (k : Known) (e told : OfficeEntry) → is_allowed k e ≡ true → limit_passed k e ≡ None → told ≡ e → may_follow k told ≡ true
follows k e told allowed none is = ap (λ (x : OfficeEntry). may_follow k x) is ∙ and_from (is_allowed k e) (is_none (limit_passed k e)) allowed (ap is_none none)

-- a new name
free-follows : (k : Known) (name : List ℕ) (e told : OfficeEntry) → (is_free k name ≡ true → is_allowed k e ≡ true) → Tells (if_free k name e) (Ok told) → may_follow k told ≡ true
free-follows k name e told allowed h = elim (is_free k name) as (λ b. is_free k name ≡ b → Tells (cond b (within_limits k e) (Err AddressTaken)) (Ok told) → may_follow k told ≡ true) [
  | true ↦ λ free told_is. let parts = within-none k e told told_is in follows k e told (allowed free) parts.0 parts.1
  | false ↦ λ _ no. absurd no
] refl h

take-follows : (k : Known) (address user mailbox : List ℕ) (told : OfficeEntry) → Tells (planned k (wish.TakeAddress address user mailbox)) (Ok told) → may_follow k told ≡ true
take-follows k address user mailbox told h = elim (is_user k user) as (λ b. is_user k user ≡ b → Tells (cond b (if_free k address (entry.TakeAddress address user mailbox)) (Err NoSuchAddress)) (Ok told) → may_follow k told ≡ true) [
  | true ↦ λ is rest. free-follows k address (entry.TakeAddress address user mailbox) told (λ free. and_from (is_free k address) (is_user k user) free is) rest
  | false ↦ λ _ no. absurd no
] refl h

-- an address that may be given up is one
given-up : (k : Known) (user address : List ℕ) → may_give_up k user address ≡ true → is_allowed k (entry.DropAddress address) ≡ true
given-up k user address h = elim (k.owner address) as (λ o. (option_map_or (λ (target : Target). same user target.user) o false && not (is_user k address)) ≡ true → (is_some o && not (is_user k address)) ≡ true) [
  | None ↦ λ no. absurd (true≢false (sym no))
  | Some target ↦ λ both. second (same user target.user) (not (is_user k address)) both
] h
  where
    second : (a b : Bool) → (a && b) ≡ true → b ≡ true
    second true b e = e
    second false b e = absurd (true≢false (sym e))

drop-follows : (k : Known) (address user : List ℕ) (told : OfficeEntry) → Tells (planned k (wish.DropAddress address user)) (Ok told) → may_follow k told ≡ true
drop-follows k address user told h = elim (may_give_up k user address) as (λ b. may_give_up k user address ≡ b → Tells (cond b (Ok (entry.DropAddress address)) (Err NoSuchAddress)) (Ok told) → may_follow k told ≡ true) [
  | true ↦ λ may is. follows k (entry.DropAddress address) told (given-up k user address may) refl is
  | false ↦ λ _ no. absurd no
] refl h

-- where no limit is passed, there is a number for the mail
numbered : (k : Known) (names message : List (List ℕ)) → limit_passed k (entry.Accept names message) ≡ None → nat_lt k.accepted LAST_MAIL ≡ true
numbered k names message h =
    let waits = second (would_pass k (entry.Accept names message) limit.Recipients) (would_pass k (entry.Accept names message) limit.Waiting) (find (would_pass k (entry.Accept names message)) (limit.Board ∷ [])) h in
    below k.accepted (last _ (nat_lt LAST_MAIL (suc k.accepted)) waits)
  where
    second : (a b : Bool) (rest : Option LimitWord) → cond a (Some limit.Recipients) (cond b (Some limit.Waiting) rest) ≡ None → b ≡ false
    second true b rest e = absurd (some-none limit.Recipients e)
    second false true rest e = absurd (some-none limit.Waiting e)
    second false false rest e = refl

    last : (a b : Bool) → (a || b) ≡ false → b ≡ false
    last true b e = absurd (true≢false e)
    last false b e = e

    below : (count : ℕ) → nat_lt LAST_MAIL (suc count) ≡ false → nat_lt count LAST_MAIL ≡ true
    below count e = elim (cases_lt count LAST_MAIL) [
      | inl under ↦ lt-ltb count LAST_MAIL under
      | inr over ↦ absurd (true≢false (sym (lt-ltb LAST_MAIL (suc count) (omega (arith, over))) ∙ e))
    ]

all-four : (a b c d : Bool) → a ≡ true → b ≡ true → c ≡ true → d ≡ true → (a && b && c && d) ≡ true
all-four a b c d first second third fourth = rw (first, second, third) fourth

-- a message that is sent
sent-follows : (k : Known) (message : List (List ℕ)) (told : OfficeEntry) → Tells (sent k message) (Ok told) → may_follow k told ≡ true
sent-follows k message told h =
    let names = distinct (addresses_of message) in
    elim (unknown_of (addresses_of message)) as (λ o. unknown_of (addresses_of message) ≡ o → Tells (option_map_or (λ address. Err (UnknownRecipient (shown_of address))) o (sent_to_names k message names)) (Ok told) → may_follow k told ≡ true) [
      | Some address ↦ λ _ no. absurd no
      | None ↦ λ none rest. few names none (nat_lt MOST_RECIPIENTS (length names)) rest
    ] refl h
  where
    known_names : (names : List (List ℕ)) → 0 < length names → are_apart names ≡ true → (found : Option (List ℕ)) → first_stranger k names ≡ found → Tells (option_map_or (λ name. Err (UnknownRecipient (shown_of name))) found (within_limits k (entry.Accept names message))) (Ok told) → may_follow k told ≡ true
    known_names names some apart (Some name) found never = absurd never
    known_names names some apart None found rest =
        let parts = within-none k (entry.Accept names message) told rest in
        let counted : nat_lt 0 (length names) ≡ true = lt-ltb 0 (length names) some in
        let all = none-strange (is_recipient k) names found in
        follows k (entry.Accept names message) told (all-four (nat_lt 0 (length names)) (are_apart names) (list_all (is_recipient k) names) (nat_lt k.accepted LAST_MAIL) counted apart all (numbered k names message parts.0)) parts.0 parts.1

    few : (names : List (List ℕ)) → unknown_of (addresses_of message) ≡ None → (many : Bool) → Tells (cond many (Err (LimitReached limit.Recipients)) (option_map_or (λ name. Err (UnknownRecipient (shown_of name))) (first_stranger k (distinct (addresses_of message))) (within_limits k (entry.Accept (distinct (addresses_of message)) message)))) (Ok told) → may_follow k told ≡ true
    few names none true never = absurd never
    few names none false rest = known_names (distinct (addresses_of message)) (some-distinct (addresses_of message) none) (apart-distinct (addresses_of message)) (first_stranger k (distinct (addresses_of message))) refl rest

-- whatever a wish comes to, where it is an entry, may come next
pub planned-follows : (k : Known) (w : OfficeWish) (told : OfficeEntry) → Tells (planned k w) (Ok told) → may_follow k told ≡ true
planned-follows k (wish.AddUser user) told h = free-follows k user (entry.AddUser user) told (λ free. free) h
planned-follows k (wish.AddBoard board) told h = free-follows k board (entry.AddBoard board) told (λ free. free) h
planned-follows k (wish.TakeAddress address user mailbox) told h = take-follows k address user mailbox told h
planned-follows k (wish.DropAddress address user) told h = drop-follows k address user told h
planned-follows k (wish.Accept message) told h = sent-follows k message told h

-- the same of what is told
pub told-follows : (k : Known) (w : OfficeWish) (told : Result OfficeEntry AskFault) → Tells (planned k w) told → IfOk told (λ e. IsTrue (may_follow k e))
told-follows k w (Ok e) h = planned-follows k w e h
told-follows k w (Err fault) h = tt

-- a store may commit what is told, where it fits its fields
pub told-accepted : (r : OfficeRecord) (w : OfficeWish) (told : Result OfficeEntry AskFault) → Tells (planned (said_by r) w) told → IfOk told (λ e. IsTrue (entry_fits e)) → IfOk told (λ e. IsTrue (accepts r e))
told-accepted r w (Ok e) h fits = and_from (may_follow (said_by r) e) (entry_fits e) (planned-follows (said_by r) w e h) fits
told-accepted r w (Err fault) h fits = tt
