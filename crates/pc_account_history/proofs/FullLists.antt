-- Accounts with as many changes on their lists as they may have.
use Rattle.std.proofs.Common.{◌≡◌, ℕ, zero, suc, ◌+◌, ◌<◌, ◌≤◌, true, false, cond, not, ◌&&◌, nat_le, List, [], ◌∷◌, map, length, None, Some, refl, ◌∙◌, ap, subst, arith, le_refl}
use Rattle.std.specs.List.{AllByRecursion as Every}
use Rattle.std.specs.Map.{keys_of}
use Rattle.std.proofs.lemmas.Bool.{lt-ltb, le-ltb, le-leb, ne_eqb}
use Rattle.pc_base.specs.declared.refusal.LimitWord.TheVariants as limit
use Rattle.pc_tables.specs.Table.{same, numbers, total, map_values}
use Rattle.pc_tables.specs.Order.{Ordered, AreDistinct}
use Rattle.pc_account_history.specs.declared.kept.Listed.{Listed}
use Rattle.pc_account_history.specs.declared.entry.Entry.TheVariants.{MakeClient, ResetClient, MakeMailbox}
use Rattle.pc_account_history.specs.History.{start}
use Rattle.pc_account_history.specs.Limits.{limits_of_bases}
use Rattle.pc_account_history.specs.Step.{after, stamped}
use Rattle.pc_account_history.specs.Legal.{IsUpdateList, IsWellFormed, IsCanonical}
use Rattle.pc_account_history.specs.Samples.{box, first_client, born_after, untaken, passes, PassesLimit, ChangesAtLimit, TwoLimits}
use Rattle.pc_account_history.proofs.Formed.{AreUids, AreUids-numbers, IsUpdateList-touched}
use Rattle.pc_account_history.proofs.Mailboxes.{AreListsOf-new}
use Rattle.pc_account_history.proofs.AtLimits.{holds_more, held-canonical, more-changes, passed-after, told-after, told-of-two}

Every-born : (P : List ℕ × ℕ → Type 0) (low count : ℕ) → ((birth : ℕ) → low < birth → birth ≤ low + count → P (110 ∷ birth ∷ [], birth)) → Every P (born_after low count)
Every-born P low zero f = tt
Every-born P low (suc count) f = (f (suc low) (omega arith) (omega arith), Every-born P (suc low) count (λ birth above upto. f birth (omega (arith, above)) (omega (arith, upto))))

Every-name : (P : List ℕ → Type 0) (low count : ℕ) → ((birth : ℕ) → low < birth → P (110 ∷ birth ∷ [])) → Every P (keys_of (born_after low count))
Every-name P low zero f = tt
Every-name P low (suc count) f = (f (suc low) (omega arith), Every-name P (suc low) count (λ birth above. f birth (omega (arith, above))))

rising-born : (low count : ℕ) → Ordered (λ (client later : List ℕ × ℕ). client.1 < later.1) (born_after low count)
rising-born low zero = tt
rising-born low (suc count) = (Every-born (λ (later : List ℕ × ℕ). suc low < later.1) (suc low) count (λ birth above upto. above), rising-born (suc low) count)

distinct-born : (low count : ℕ) → AreDistinct (keys_of (born_after low count))
distinct-born low zero = tt
distinct-born low (suc count) = (Every-name (λ later. same (110 ∷ suc low ∷ []) later ≡ false) (suc low) count (λ birth above. λ i. ne_eqb (suc low) birth (λ e. absurd (omega (arith, above, e))) i && true), distinct-born (suc low) count)

all-listed : (count : ℕ) → IsUpdateList 99 count 1 (stamped 98 (numbers 0 count))
all-listed count =
    let zero-more : 0 + count ≡ count = omega arith in
    IsUpdateList-touched 98 count count 1 (numbers 0 count) [] (le_refl count) (omega arith) (subst (λ n. AreUids n (numbers 0 count)) zero-more (AreUids-numbers 0 count)) (record { in_order = tt; distinct = tt; changes = tt })

formed : (others count : ℕ) → others ≤ 97 → 0 < count → IsWellFormed (untaken others count) 99
formed others count few some = record {
  positive = omega arith;
  births_rise = (Every-born (λ (later : List ℕ × ℕ). 1 < later.1) 1 others (λ birth above upto. above), rising-born 1 others);
  births = ((omega arith, omega arith), Every-born (λ (client : List ℕ × ℕ). (0 < client.1) × (client.1 < 99)) 1 others (λ birth above upto. (omega (arith, above), omega (arith, upto, few))));
  client_names = (Every-name (λ later. same first_client later ≡ false) 1 others (λ birth above. refl), distinct-born 1 others);
  mailbox_names = (tt, tt);
  live = (record { messages = record { rising = (tt, tt); given = ((omega arith, omega (arith, some)), tt) }; lists = (refl, all-listed count, AreListsOf-new 99 count (born_after 1 others)) }, tt);
  dropped = tt;
  boards = tt;
  pulled = omega arith;
}

length-stamped : (low count : ℕ) → length (stamped 98 (numbers low count)) ≡ count
length-stamped low zero = refl
length-stamped low (suc count) = ap suc (length-stamped (suc low) count)

none-listed : (clients : List (List ℕ × ℕ)) → total (λ (list : List ℕ × List Listed). length list.1) (map_values (λ _. []) clients) ≡ 0
none-listed [] = refl
none-listed (client ∷ clients) = omega (arith, none-listed clients)

few-uids : (count : ℕ) → count ≤ 1000000000 → not (nat_le count 1000000000 && true) ≡ false
few-uids count few = λ i. not (le-leb count 1000000000 few i && true)

canonical : (others count : ℕ) → others ≤ 97 → 0 < count → count ≤ 1048576 → holds_more (untaken others count) limit.Clients ≡ false → IsCanonical (untaken others count) 99
canonical others count few some most clients = held-canonical (untaken others count) 99 (formed others count few some) clients refl (few-uids count (omega (arith, most))) refl refl (le-ltb 1048576 _ (omega (arith, most, length-stamped 0 count, none-listed (born_after 1 others)))) refl

passing : (others count : ℕ) → others ≤ 97 → 1048576 < count → PassesLimit (untaken others count)
passing others count few many =
    let is = formed others count few (omega (arith, many)) in
    (is, more-changes (untaken others count) 99 is (lt-ltb 1048576 _ (omega (arith, many, length-stamped 0 count, none-listed (born_after 1 others)))))

-- ---- one change more

room : (count : ℕ) → count ≡ 1048575 → passes (start (untaken 1 count) 99) (MakeClient box ∷ ResetClient (110 ∷ 2 ∷ []) ∷ []) ≡ None ∷ None ∷ []
room count is =
    let listed = length-stamped 0 count in
    let good = formed 1 count (omega arith) (omega (arith, is)) in
    let made = told-after (untaken 1 count) 99 (MakeClient box) good refl ∙ told-of-two (holds_more (after (untaken 1 count) 99 (MakeClient box))) refl (le-ltb 1048576 _ (omega (arith, is, listed))) in
    let reset = told-after (untaken 1 count) 99 (ResetClient (110 ∷ 2 ∷ [])) good refl ∙ ap (λ more. cond more (Some limit.Changes) None) (le-ltb 1048576 _ (omega (arith, is, listed))) in
    λ i. made i ∷ reset i ∷ []

full : (count : ℕ) → count ≡ 1048576 → passes (start (untaken 1 count) 99) (MakeClient box ∷ ResetClient (110 ∷ 2 ∷ []) ∷ MakeMailbox box ∷ []) ≡ Some limit.Changes ∷ Some limit.Changes ∷ None ∷ []
full count is =
    let listed = length-stamped 0 count in
    let good = formed 1 count (omega arith) (omega (arith, is)) in
    let made = told-after (untaken 1 count) 99 (MakeClient box) good refl ∙ told-of-two (holds_more (after (untaken 1 count) 99 (MakeClient box))) refl (lt-ltb 1048576 _ (omega (arith, is, listed))) in
    let reset = told-after (untaken 1 count) 99 (ResetClient (110 ∷ 2 ∷ [])) good refl ∙ ap (λ more. cond more (Some limit.Changes) None) (lt-ltb 1048576 _ (omega (arith, is, listed))) in
    let named = told-after (untaken 1 count) 99 (MakeMailbox box) good refl in
    λ i. made i ∷ reset i ∷ named i ∷ []

pub changes-at-limit : ChangesAtLimit
changes-at-limit count = (
  λ is. room count is,
  (λ is. (canonical 1 count (omega arith) (omega (arith, is)) (omega (arith, is)) refl, full count is)),
  λ is. passing 1 count (omega arith) (omega (arith, is)),
)

pub two-limits : TwoLimits
two-limits count is =
    let listed = length-stamped 0 count in
    let fifteen = formed 15 count (omega arith) (omega (arith, is)) in
    let fourteen = formed 14 count (omega arith) (omega (arith, is)) in
    let both = passed-after (untaken 15 count) 99 (MakeClient box) fifteen refl in
    let changes : holds_more (after (untaken 15 count) 99 (MakeClient box)) limit.Changes ≡ true = lt-ltb 1048576 _ (omega (arith, is, listed)) in
    let uids = few-uids count (omega (arith, is)) in
    let first = told-after (untaken 15 count) 99 (MakeClient box) fifteen refl in
    let alone = told-after (untaken 14 count) 99 (MakeClient box) fourteen refl ∙ told-of-two (holds_more (after (untaken 14 count) 99 (MakeClient box))) refl (lt-ltb 1048576 _ (omega (arith, is, listed))) in (
      canonical 15 count (omega arith) (omega (arith, is)) (omega (arith, is)) refl,
      refl,
      ap (λ passes. map passes limits_of_bases) both ∙ (λ i. true ∷ false ∷ uids i ∷ false ∷ false ∷ changes i ∷ false ∷ []),
      (λ i. first i ∷ []),
      (λ i. alone i ∷ []),
    )
