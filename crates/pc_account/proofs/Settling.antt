-- What a wish comes to, case by case.
use Rattle.std.proofs.Common.{◌≡◌, ℕ, ◌≤◌, ◌==◌, Bool, true, false, cond, not, ◌&&◌, nat_le, Option, None, Some, is_none, is_some, Result, Ok, Err, IsTrue, IfOk, IfSome, refl, sym, ap, subst, arith, true≢false}
use Rattle.std.specs.Option.{option_map_or}
use Rattle.std.specs.Map.{lookup}
use Rattle.std.proofs.lemmas.Bool.{and_from}
use Rattle.pc_base.specs.declared.refusal.Refusal.{Refusal}
use Rattle.pc_base.specs.declared.refusal.Refusal.TheVariants.{LimitReached, NoSuchMessage}
use Rattle.pc_base.specs.declared.refusal.LimitWord.{LimitWord}
use Rattle.pc_account_history.specs.declared.kept.Kept.{Kept}
use Rattle.pc_account_history.specs.declared.entry.Entry.{Entry}
use Rattle.pc_message.specs.Flags.{flag_of}
use Rattle.pc_tables.specs.Table.{same}
use Rattle.pc_account_history.specs.Known.{Known}
use Rattle.pc_account_history.specs.Allowed.{is_allowed, is_mailbox, is_client}
use Rattle.pc_account_history.specs.Limits.{limit_passed}
use Rattle.pc_tables.proofs.Options.{some-none, some-same}
use Rattle.pc_base.specs.declared.ask_fault.AskFault.{AskFault}
use Rattle.pc_base.specs.declared.ask_fault.AskFault.TheVariants.{Refused}
use Rattle.pc_base.specs.AskFault.{Tells}
use Rattle.pc_account.specs.declared.wish.Wish.{Wish}
use Rattle.pc_account.specs.declared.wish.Wish.TheVariants as wish
use Rattle.pc_account.specs.Plan.{refused_where, refusal_of, holds, entry_of, within_limits, planned, IsWish}
use Rattle.pc_account_holdings.specs.State.{may_follow}
use Rattle.pc_account.proofs.TakenAllowed.{forget-allowed}
use Rattle.pc_account.proofs.Waiting.{front-allowed}

-- ---- the cases

module _ (k : Known) (w : Wish) where
  pub settled-refused : (refusal : Refusal) → Some refusal ≡ refusal_of k w → Tells (planned k w) (Err (Refused refusal))
  settled-refused refusal h = rw (sym h) refl

  pub settled-holds : None ≡ refusal_of k w → holds k w ≡ true → Tells (planned k w) (Ok None)
  settled-holds h g = rw (sym h, g) refl

  pub settled-limit : (limit : LimitWord) → None ≡ refusal_of k w → holds k w ≡ false → Some limit ≡ limit_passed k (entry_of k w) → Tells (planned k w) (Err (Refused (LimitReached limit)))
  settled-limit limit h g l = rw (sym h, g, sym l) refl

  pub settled-entry : (e : Entry) → None ≡ refusal_of k w → holds k w ≡ false → None ≡ limit_passed k (entry_of k w) → e ≡ entry_of k w → Tells (planned k w) (Ok (Some e))
  settled-entry e h g l same_entry = rw (sym h, g, sym l) (ap (λ (x : Entry). Some x) same_entry)

-- ---- what isn't refused is allowed

right : (wrong : Bool) (refusal : Refusal) (others : Option Refusal) → None ≡ refused_where wrong refusal others → (wrong ≡ false) × (None ≡ others)
right true refusal others h = absurd (some-none refusal (sym h))
right false refusal others h = (refl, h)

not-true : (b : Bool) → not b ≡ false → b ≡ true
not-true true h = refl
not-true false h = absurd (true≢false h)

flag-other : (on f : Bool) → cond on f (not f) ≡ false → cond on (not f) f ≡ true
flag-other true true h = absurd (true≢false h)
flag-other true false h = refl
flag-other false true h = refl
flag-other false false h = absurd (true≢false h)

flag-changes : (found : Option Kept) (flag : ℕ) (on : Bool) → None ≡ refused_where (is_none found) NoSuchMessage None → option_map_or (λ (kept : Kept). cond on (flag_of kept.flags flag) (not (flag_of kept.flags flag))) found false ≡ false → option_map_or (λ (kept : Kept). cond on (not (flag_of kept.flags flag)) (flag_of kept.flags flag)) found false ≡ true
flag-changes None flag on h g = absurd (some-none NoSuchMessage (sym h))
flag-changes (Some kept) flag on h g = flag-other on (flag_of kept.flags flag) g

mark-changes : (found : Option ℕ) (uid : ℕ) → is_some found ≡ true → option_map_or (λ (mark : ℕ). mark == uid) found false ≡ false → option_map_or (λ (mark : ℕ). not (mark == uid)) found false ≡ true
mark-changes None uid h g = absurd (true≢false (sym h))
mark-changes (Some mark) uid h g = ap not g

some-there : {X : Type 0} (found : Option X) (refusal : Refusal) → None ≡ refused_where (is_none found) refusal None → is_some found ≡ true
some-there None refusal h = absurd (some-none refusal (sym h))
some-there (Some x) refusal h = refl

le-true : (a b : ℕ) → a ≤ b → nat_le a b ≡ true
le-true a b h = grind (arith, h)

pub settled-allowed : (k : Known) (w : Wish) → IsWish k w → None ≡ refusal_of k w → holds k w ≡ false → is_allowed k (entry_of k w) ≡ true
settled-allowed k (wish.MakeMailbox mailbox) i h g = ap not (right _ _ _ h).0
settled-allowed k (wish.DropMailbox mailbox) i h g = let p = right _ _ _ h in and_from _ _ (not-true _ p.0) (ap not (right _ _ _ p.1).0)
settled-allowed k (wish.Flag mailbox uid flag on) i h g = let p = right _ _ _ h in and_from _ _ (le-true flag 15 i) (flag-changes (k.kept mailbox uid) flag on p.1 g)
settled-allowed k (wish.Expunge mailbox) i h g = and_from _ _ (not-true _ (right _ _ _ h).0) (not-true _ g)
settled-allowed k (wish.Copy mailbox uid target) i h g =
    let p = right (not (is_mailbox k mailbox)) _ _ h in
    let q = right (is_none (k.kept mailbox uid)) _ _ p.1 in
    and_from (is_mailbox k mailbox && is_mailbox k target) (is_some (k.kept mailbox uid)) (and_from (is_mailbox k mailbox) (is_mailbox k target) (not-true (is_mailbox k mailbox) p.0) (not-true (is_mailbox k target) (right (not (is_mailbox k target)) _ _ q.1).0)) (some-kept (k.kept mailbox uid) q.0)
  where
    some-kept : (found : Option Kept) → is_none found ≡ false → is_some found ≡ true
    some-kept None e = absurd (true≢false e)
    some-kept (Some kept) e = refl
settled-allowed k (wish.MakeClient client) i h g = ap not (right _ _ _ h).0
settled-allowed k (wish.DropClient client) i h g = not-true _ (right _ _ _ h).0
settled-allowed k (wish.ResetClient client) i h g = not-true _ (right _ _ _ h).0
settled-allowed k (wish.ResetMailbox client mailbox) i h g = let p = right (not (is_client k client)) _ _ h in and_from (is_client k client) (is_mailbox k mailbox) (not-true (is_client k client) p.0) (not-true (is_mailbox k mailbox) (right (not (is_mailbox k mailbox)) _ _ p.1).0)
settled-allowed k (wish.Forget client mailbox low high shown) i h g =
    let p = right (not (is_client k client)) _ _ h in
    forget-allowed k client mailbox low high shown (not-true (is_client k client) p.0) (not-true (is_mailbox k mailbox) (right (not (is_mailbox k mailbox)) _ _ p.1).0) g
settled-allowed k (wish.Take mails room) i h g = front-allowed k room mails i.0 i.1 g
settled-allowed k (wish.Password digest) i h g = ap not g
settled-allowed k (wish.Subscribe board) i h g = ap not (right _ _ _ h).0
settled-allowed k (wish.Unsubscribe board) i h g = not-true _ (right _ _ _ h).0
settled-allowed k (wish.Mark board uid) i h g = mark-changes (lookup (same board) k.subscriptions) uid (not-true _ (right _ _ _ h).0) g

-- ---- what a plan allows

pub planned-follows : (k : Known) (w : Wish) (e : Entry) → IsWish k w → Tells (planned k w) (Ok (Some e)) → IsTrue (may_follow k e)
planned-follows k w e i told = by_refusal (refusal_of k w) refl told
  where
    by_limit : (limit : Option LimitWord) → limit_passed k (entry_of k w) ≡ limit → is_allowed k (entry_of k w) ≡ true → Tells (option_map_or (λ (l : LimitWord). Err (LimitReached l)) limit (Ok (Some (entry_of k w)))) (Ok (Some e)) → IsTrue (may_follow k e)
    by_limit None l allowed t = subst (λ (x : Entry). (is_allowed k x && is_none (limit_passed k x)) ≡ true) (sym (some-same e (entry_of k w) t)) (and_from (is_allowed k (entry_of k w)) (is_none (limit_passed k (entry_of k w))) allowed (ap is_none l))
    by_limit (Some limit) l allowed t = absurd t

    by_holding : (b : Bool) → holds k w ≡ b → None ≡ refusal_of k w → Tells (cond b (Ok None) (within_limits k (entry_of k w))) (Ok (Some e)) → IsTrue (may_follow k e)
    by_holding true h none t = absurd (some-none e t)
    by_holding false h none t = by_limit (limit_passed k (entry_of k w)) refl (settled-allowed k w i none h) t

    by_refusal : (refusal : Option Refusal) → refusal_of k w ≡ refusal → Tells (option_map_or Err refusal (cond (holds k w) (Ok None) (within_limits k (entry_of k w)))) (Ok (Some e)) → IsTrue (may_follow k e)
    by_refusal None h t = by_holding (holds k w) refl (sym h) t
    by_refusal (Some refusal) h t = absurd t

pub plan-follows : (k : Known) (w : Wish) → IsWish k w → (result : Result (Option Entry) AskFault) → Tells (planned k w) result → IfOk result (λ plan. IfSome plan (λ entry. IsTrue (may_follow k entry)))
plan-follows k w i (Ok None) told = tt
plan-follows k w i (Ok (Some e)) told = planned-follows k w e i told
plan-follows k w i (Err fault) told = tt
