-- Records at their limits.
use Rattle.std.proofs.Common.{◌≡◌, ℕ, zero, suc, ◌+◌, ◌<◌, ◌≤◌, ◌==◌, Bool, true, false, ◌&&◌, List, [], ◌∷◌, ◌++◌, map, refl, ap, subst, ◌∙◌, arith, append-nil, ne_eqb, true≢false}
use Rattle.std.specs.List.{AllByRecursion as Every}
use Rattle.std.specs.Map.{keys_of}
use Rattle.pc_message.specs.declared.limits.TheConstants.{LAST_MAIL}
use Rattle.pc_tables.specs.Table.{same, is_among, numbers}
use Rattle.pc_tables.specs.Order.{Ordered, AreDistinct}
use Rattle.pc_tables.proofs.Lists.{Every-append, Every-weaker}
use Rattle.pc_office_history.specs.declared.kept.Target.{Target}
use Rattle.pc_office_history.specs.declared.kept.KeptMail.{KeptMail}
use Rattle.pc_office_history.specs.Legal.{IsKept, IsWellFormed}
use Rattle.pc_office_history.specs.Step.{record_of}
use Rattle.pc_office_history.specs.Samples.{ann, box, work, target, kept_for, waiting_for_ann, named, board_numbered, filled, laden, WaitingAtLimit, TwoLimits, ThreeLimits}

-- what is made of each number has the property, where the numbers' have it
Every-made : {X : Type 0} (f : ℕ → X) (P : X → Type 0) (low count : ℕ) → ((number : ℕ) → low < number → number ≤ low + count → P (f number)) → Every P (map f (numbers low count))
Every-made f P low zero h = tt
Every-made f P low (suc count) h = (h (suc low) (omega arith) (omega arith), Every-made f P (suc low) count (λ number above upto. h number (omega (arith, above)) (omega (arith, upto))))

-- ---- waiting mail

abbrev for_ann : ℕ → KeptMail
for_ann number = kept_for number (target ann box ∷ [])

rising-for_ann : (low count : ℕ) → Ordered (λ (mail later : KeptMail). mail.number < later.number) (map for_ann (numbers low count))
rising-for_ann low zero = tt
rising-for_ann low (suc count) = (Every-made for_ann (λ (later : KeptMail). suc low < later.number) (suc low) count (λ number above upto. above), rising-for_ann (suc low) count)

formed : (count : ℕ) → count ≤ LAST_MAIL → IsWellFormed (waiting_for_ann count)
formed count few = record {
  user_names = ((refl, (refl, tt)), ((refl, tt), (tt, tt)));
  address_names = ((refl, (refl, tt)), ((refl, tt), (tt, tt)));
  owners = (refl, (refl, tt));
  noted = (omega arith, (omega arith, tt));
  rising = rising-for_ann 0 count;
  kept = Every-made for_ann (IsKept (waiting_for_ann count).users count) 0 count (λ number above upto. record { waits = refl; apart = (tt, tt); unpulled = (above, tt); so_far = omega (arith, upto) });
  accepted = few;
}

pub waiting-at-limit : WaitingAtLimit
waiting-at-limit = (
  record { well_formed = formed 1024 (omega arith); within = (refl, (refl, (refl, (refl, (refl, tt))))) },
  (formed 1025 (omega arith), λ canonical. true≢false canonical.within.1.1.1.0),
)

-- ---- names by numbers

other-number : (letter number later : ℕ) → number < later → same (letter ∷ number ∷ []) (letter ∷ later ∷ []) ≡ false
other-number letter number later below = ap (λ b. (letter == letter) && (b && true)) (ne_eqb number later (λ e. omega (arith, e, below))) ∙ and-false (letter == letter)
  where
    and-false : (b : Bool) → (b && false) ≡ false
    and-false true = refl
    and-false false = refl

-- a table of names that are a letter and a number
abbrev table : {X : Type 0} → ℕ → (ℕ → X) → ℕ → ℕ → List (List ℕ × X)
table letter f low count = map (λ number. (letter ∷ number ∷ [], f number)) (numbers low count)

-- another name is none of a letter and a number
abbrev IsOther : ℕ → List ℕ → Type 0
IsOther letter other = (number : ℕ) → same (letter ∷ number ∷ []) other ≡ false

later-numbers : {X : Type 0} (letter : ℕ) (f : ℕ → X) (low from count : ℕ) → low ≤ from → Every (λ later. same (letter ∷ low ∷ []) later ≡ false) (keys_of (table letter f from count))
later-numbers letter f low from zero above = tt
later-numbers letter f low from (suc count) above = (other-number letter low (suc from) (omega (arith, above)), later-numbers letter f low (suc from) count (omega (arith, above)))

-- names of a letter and different numbers are distinct, and so with others behind
distinct-numbered : {X : Type 0} (letter : ℕ) (f : ℕ → X) (low count : ℕ) (others : List (List ℕ)) → Every (IsOther letter) others → AreDistinct others → AreDistinct (keys_of (table letter f low count) ++ others)
distinct-numbered letter f low zero others apart distinct = distinct
distinct-numbered letter f low (suc count) others apart distinct = (
  Every-append (λ later. same (letter ∷ suc low ∷ []) later ≡ false) (keys_of (table letter f (suc low) count)) others
      (later-numbers letter f (suc low) (suc low) count (omega arith))
      (Every-weaker (IsOther letter) (λ later. same (letter ∷ suc low ∷ []) later ≡ false) (λ other is_other. is_other (suc low)) others apart),
  distinct-numbered letter f (suc low) count others apart distinct,
)

-- ---- more limits than one

boards-other : (low count : ℕ) → Every (IsOther 110) (keys_of (map board_numbered (numbers low count)))
boards-other low zero = tt
boards-other low (suc count) = (λ number. refl, boards-other (suc low) count)

boards-distinct : (count : ℕ) → AreDistinct (keys_of (map board_numbered (numbers 0 count)))
boards-distinct count = let boards = keys_of (map board_numbered (numbers 0 count)) in subst AreDistinct (append-nil boards) (distinct-numbered 98 (λ number. (board_numbered number).1) 0 count [] tt tt)

filled-formed : (users boards addresses : ℕ) → IsWellFormed (filled (suc users) boards addresses)
filled-formed users boards addresses =
    let r = filled (suc users) boards addresses in
    record {
      user_names = distinct-numbered 110 (λ number. 0) 0 (suc users) (keys_of r.boards) (boards-other 0 boards) (boards-distinct boards);
      address_names = distinct-numbered 110 (λ number. target (named 1) box) 0 addresses (keys_of r.boards) (boards-other 0 boards) (boards-distinct boards);
      owners = Every-made (λ number. (named number, target (named 1) box)) (λ (address : List ℕ × Target). is_among address.1.user (keys_of r.users) ≡ true) 0 addresses (λ number above upto. refl);
      noted = Every-made (λ number. (named number, 0)) (λ (user : List ℕ × ℕ). user.1 ≤ 0) 0 (suc users) (λ number above upto. omega arith);
      rising = tt;
      kept = tt;
      accepted = omega arith;
    }

pub two-limits : TwoLimits
two-limits = (record { well_formed = filled-formed 31 64 1024; within = (refl, (refl, (refl, (refl, (refl, tt))))) }, refl, refl, refl)

laden-formed : IsWellFormed (record_of laden)
laden-formed =
    let r = record_of laden in
    let waits = formed 1024 (omega arith) in
    record {
      user_names = ((refl, (refl, tt)), ((refl, tt), (tt, tt)));
      address_names = distinct-numbered 110 (λ number. target ann box) 0 64 (work ∷ []) (λ number. refl, tt) (tt, tt);
      owners = Every-made (λ number. (named number, target ann box)) (λ (address : List ℕ × Target). is_among address.1.user (keys_of r.users) ≡ true) 0 64 (λ number above upto. refl);
      noted = waits.noted;
      rising = waits.rising;
      kept = waits.kept;
      accepted = waits.accepted;
    }

pub three-limits : ThreeLimits
three-limits = (record { well_formed = laden-formed; within = (refl, (refl, (refl, (refl, (refl, tt))))) }, refl, refl, refl, refl, refl, refl)
