-- What an entry that may come next finds in the holdings.
use Rattle.std.proofs.Common.{◌≡◌, ℕ, suc, Bool, true, false, not, cond, IsTrue, List, [], ◌∷◌, ◌++◌, Option, None, Some, IfSome, is_some, unwrap_or, refl, sym, ap, ◌∙◌, subst, true≢false}
use Rattle.std.proofs.lemmas.Bool.{and_parts}
use Rattle.std.specs.List.{AllByRecursion as Every}
use Rattle.std.specs.Option.{option_map_or}
use Rattle.std.specs.Map.{lookup, keys_of}
use Rattle.pc_account_history.specs.declared.kept.Kept.{Kept}
use Rattle.pc_account_history.specs.declared.entry.Entry.TheVariants as entry
use Rattle.pc_tables.specs.Table.{same}
use Rattle.pc_account_history.specs.Record.{MailboxRecord, AccountRecord, mailbox_of, new_mailbox, kept_at}
use Rattle.pc_account_history.specs.Allowed.{is_mailbox}
use Rattle.pc_tables.specs.Order.{AreDistinct}
use Rattle.pc_account_history.specs.Legal.{IsCanonical}
use Rattle.pc_account_history.specs.Effect.{copy_as}
use Rattle.pc_account_history.specs.Step.{after, at_mailbox, with_message}
use Rattle.pc_tables.proofs.Table.{is_among-keys, lookup-absent, same-true}
use Rattle.pc_tables.proofs.Lists.{Every-split}
use Rattle.pc_account_history.proofs.Needs.{copy-parts}
use Rattle.pc_account_holdings.specs.Mailboxes.{Table, HasRoom, AreRoomFor}
use Rattle.pc_account_holdings.specs.State.{State, said, may_follow}
use Rattle.pc_account_holdings.specs.Following.{may-parts, canonical-after}
use Rattle.pc_account_holdings.proofs.States.{with_letters-live}
use Rattle.pc_account_holdings.proofs.Rooms.{within-limits, rooms, had-room, set-own, same-grown}

no-some : {X : Type 0} (o : Option X) → is_some o ≡ false → o ≡ None
no-some None h = refl
no-some (Some x) h = absurd (true≢false h)

not-true : (b : Bool) → not b ≡ true → b ≡ false
not-true true h = absurd (true≢false (sym h))
not-true false h = refl

module _ (s : State) where
  lives : (name : List ℕ) → is_mailbox (said s) name ≡ true → is_some (lookup (same name) s.held.live) ≡ true
  lives name h = sym (is_among-keys name s.held.live) ∙ h

  pub make-absent : (name : List ℕ) → IsTrue (may_follow (said s) (entry.MakeMailbox name)) → lookup (same name) s.held.live ≡ None
  make-absent name h =
      let allowed = (may-parts (said s) (entry.MakeMailbox name) h).0 in
      no-some (lookup (same name) s.held.live) (sym (is_among-keys name s.held.live) ∙ not-true (is_mailbox (said s) name) allowed)

  pub drop-live : (name : List ℕ) → IsTrue (may_follow (said s) (entry.DropMailbox name)) → is_some (lookup (same name) s.held.live) ≡ true
  drop-live name h = lives name (and_parts _ _ (may-parts (said s) (entry.DropMailbox name) h).0).0

  pub copy-live : (name target : List ℕ) (uid : ℕ) → IsTrue (may_follow (said s) (entry.Copy name uid target)) → is_some (lookup (same name) s.held.live) ≡ true
  copy-live name target uid h = lives name (copy-parts (said s) name uid target (may-parts (said s) (entry.Copy name uid target) h).0).0

  pub subscribe-absent : (board : List ℕ) → IsTrue (may_follow (said s) (entry.Subscribe board)) → lookup (same board) s.held.subscriptions ≡ None
  subscribe-absent board h = no-some (lookup (same board) s.held.subscriptions) (not-true (is_some (lookup (same board) s.held.subscriptions)) (may-parts (said s) (entry.Subscribe board) h).0)

-- ---- no name is in both tables

both-tables : (b : Bool) (name : List ℕ) (entry : List ℕ × MailboxRecord) (found : Option MailboxRecord) (live dropped : Table) → same name entry.0 ≡ b → AreDistinct (keys_of (entry ∷ live) ++ keys_of dropped) → (is_some found ≡ true → lookup (same name) dropped ≡ None) → is_some (cond b (Some entry.1) found) ≡ true → lookup (same name) dropped ≡ None
both-tables true name entry found live dropped e distinct h some = lookup-absent name dropped (subst (λ (n : List ℕ). Every (λ (other : List ℕ). same n other ≡ false) (keys_of dropped)) (sym (same-true name entry.0 e)) (Every-split (λ (other : List ℕ). same entry.0 other ≡ false) (keys_of live) (keys_of dropped) distinct.0).1)
both-tables false name entry found live dropped e distinct h some = h some

pub not-dropped : (name : List ℕ) (live dropped : Table) → AreDistinct (keys_of live ++ keys_of dropped) → is_some (lookup (same name) live) ≡ true → lookup (same name) dropped ≡ None
not-dropped name [] dropped distinct some = absurd (true≢false (sym some))
not-dropped name (entry ∷ live) dropped distinct some = both-tables (same name entry.0) name entry (lookup (same name) live) live dropped refl distinct (not-dropped name live dropped distinct.1) some

-- ---- room for what comes

copy-room-at : (r : AccountRecord) (number : ℕ) (target : List ℕ) (kept : Kept) → IsCanonical (at_mailbox target (λ box. with_message number (copy_as (suc box.highest) kept) box) r) (suc number) → (o : Option MailboxRecord) → lookup (same target) r.live ≡ o → IfSome o HasRoom
copy-room-at r number target kept canonical None e = tt
copy-room-at r number target kept canonical (Some box) e =
    let change = λ (b : MailboxRecord). with_message number (copy_as (suc b.highest) kept) b in
    let other = unwrap_or (lookup (same target) r.dropped) (new_mailbox r.clients) in
    let found = set-own target r.live (change (mailbox_of r target)) box e ∙ ap (λ (o : Option MailboxRecord). Some (change (unwrap_or o other))) e in
    let within = within-limits (at_mailbox target change r) (suc number) canonical target (change box) found in
    had-room number (copy_as 0 kept).flags kept.message box (change box) (same-grown (change box)) within

copy-room-by : (r : AccountRecord) (number : ℕ) (target : List ℕ) (found : Option Kept) → is_some found ≡ true → IsCanonical (option_map_or (λ kept. at_mailbox target (λ box. with_message number (copy_as (suc box.highest) kept) box) r) found r) (suc number) → IfSome (lookup (same target) r.live) HasRoom
copy-room-by r number target None some canonical = absurd (true≢false (sym some))
copy-room-by r number target (Some kept) some canonical = copy-room-at r number target kept canonical (lookup (same target) r.live) refl

pub copy-room : (s : State) (name target : List ℕ) (uid : ℕ) → IsCanonical s.held s.next → IsTrue (may_follow (said s) (entry.Copy name uid target)) → IfSome (lookup (same target) s.held.live) HasRoom
copy-room s name target uid canonical h =
    copy-room-by s.held s.next target (kept_at uid (mailbox_of s.held name).messages)
    (copy-parts (said s) name uid target (may-parts (said s) (entry.Copy name uid target) h).0).2
    (canonical-after s (entry.Copy name uid target) canonical h)

pub pull-room : (s : State) (upto : ℕ) (letters : List (List ℕ × List (List ℕ))) → IsCanonical s.held s.next → IsTrue (may_follow (said s) (entry.Pull upto letters)) → AreRoomFor s.next letters s.held.live
pull-room s upto letters canonical h =
    let later = canonical-after s (entry.Pull upto letters) canonical h in
    rooms s.next letters s.held.live (λ name box found.
    within-limits (after s.held s.next (entry.Pull upto letters)) (suc s.next) later name box
    (ap (λ (r : AccountRecord). lookup (same name) r.live) (with_letters-live s.next letters s.held) ∙ found))
