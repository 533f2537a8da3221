-- Uids that are touched or taken one after the other.
use Rattle.std.proofs.Common.{◌≡◌, ℕ, zero, suc, ◌<◌, ◌+◌, nat_eq, ◌==◌, Bool, true, false, not, cond, ◌&&◌, ◌||◌, List, [], ◌∷◌, ◌++◌, take, length, get_or, Option, Some, is_some, option_map, refl, ap, ◌∙◌, arith, append_assoc, rules}
use Rattle.std.specs.List.{AllByRecursion, filter, list_all}
use Rattle.std.specs.Cmp.{nat_eq_equiv}
use Rattle.std.proofs.lemmas.Bool.{ne_eqb, eqb-true}
use Rattle.std.proofs.lemmas.List.{map-append, take_more}
use Rattle.pc_account_history.specs.declared.kept.Listed.{Listed}
use Rattle.pc_tables.specs.Table.{has_number}
use Rattle.pc_account_history.specs.Step.{without, touched, stamped}
use Rattle.pc_tables.proofs.Numbers.{has_number-append}
use Rattle.pc_mailbox.specs.UpdateList.{is_on, are_on, Rise}

or-assoc : (a b c : Bool) → (a || (b || c)) ≡ ((a || b) || c)
or-assoc true b c = refl
or-assoc false b c = refl

pub and-first : (a b : Bool) → (a && b) ≡ true → a ≡ true
and-first true b h = refl
and-first false b h = cc

pub and-second : (a b : Bool) → (a && b) ≡ true → b ≡ true
and-second true b h = h
and-second false b h = cc

pub filter-append : (p : Listed → Bool) (xs ys : List Listed) → filter p (xs ++ ys) ≡ filter p xs ++ filter p ys
filter-append p [] ys = refl
filter-append p (x ∷ xs) ys = elim (p x) as (λ b. cond b (x ∷ filter p (xs ++ ys)) (filter p (xs ++ ys)) ≡ cond b (x ∷ filter p xs) (filter p xs) ++ filter p ys) [
  | true ↦ ap (λ (l : List Listed). x ∷ l) (filter-append p xs ys)
  | false ↦ filter-append p xs ys
]

-- ---- taken off

pub without-none : (list : List Listed) → without [] list ≡ list
without-none [] = refl
without-none (listed ∷ list) = ap (λ (l : List Listed). listed ∷ l) (without-none list)

more-step : (a b : Bool) (x : Listed) (inner whole : List Listed) (uid : ℕ) → (uid == x.uid) ≡ b → without (uid ∷ []) inner ≡ whole → without (uid ∷ []) (cond (not a) (x ∷ inner) inner) ≡ cond (not (a || (b || false))) (x ∷ whole) whole
more-step true b x inner whole uid e h = h
more-step false true x inner whole uid e h = rw e h
more-step false false x inner whole uid e h = rw e (ap (λ (l : List Listed). x ∷ l) h)

pub without-more : (uid : ℕ) (uids : List ℕ) (list : List Listed) → without (uid ∷ []) (without uids list) ≡ without (uids ++ uid ∷ []) list
without-more uid uids [] = refl
without-more uid uids (x ∷ list) = rw (has_number-append x.uid uids (uid ∷ [])) (more-step (has_number x.uid uids) (uid == x.uid) x (without uids list) (without (uids ++ uid ∷ []) list) uid refl (without-more uid uids list))

-- ---- touched

pub touched-none : (at : ℕ) (list : List Listed) → touched at [] list ≡ list
touched-none at list = rw (without-none list) (search rules)

stamped-step : (a : Bool) (at uid other : ℕ) (rest : List Listed) → (other == uid) ≡ a → a ≡ false → without (uid ∷ []) rest ≡ rest → without (uid ∷ []) (record { uid = other; stamp = at } ∷ rest) ≡ record { uid = other; stamp = at } ∷ rest
stamped-step a at uid other rest e f h = let g : nat_eq uid other ≡ false = nat_eq_equiv.symm uid other ∙ e ∙ f in rw g (ap (λ (l : List Listed). record { uid = other; stamp = at } ∷ l) h)

pub or-false : (a b : Bool) → (a || b) ≡ false → (a ≡ false) × (b ≡ false)
or-false true b h = cc
or-false false b h = (refl, h)

pub stamped-apart : (at uid : ℕ) (uids : List ℕ) → has_number uid uids ≡ false → without (uid ∷ []) (stamped at uids) ≡ stamped at uids
stamped-apart at uid [] h = refl
stamped-apart at uid (other ∷ uids) h = let parts = or-false (other == uid) (has_number uid uids) h in stamped-step (other == uid) at uid other (stamped at uids) refl parts.0 (stamped-apart at uid uids parts.1)

pub touched-more : (at uid : ℕ) (uids : List ℕ) (list : List Listed) → has_number uid uids ≡ false → touched at (uid ∷ []) (touched at uids list) ≡ touched at (uids ++ uid ∷ []) list
touched-more at uid uids list apart =
    rw (filter-append (λ (listed : Listed). not (has_number listed.uid (uid ∷ []))) (without uids list) (stamped at uids), without-more uid uids list, stamped-apart at uid uids apart, map-append {B = Listed} (λ (u : ℕ). record { uid = u; stamp = at }) uids (uid ∷ []))
    (append_assoc (without (uids ++ uid ∷ []) list) (stamped at uids) (stamped at (uid ∷ [])))

-- ---- what is on the list

on-cond : (b : Bool) (x : Listed) (found : Option Listed) → is_some (option_map (λ (l : Listed). l.stamp) (cond b (Some x) found)) ≡ (b || is_some (option_map (λ (l : Listed). l.stamp) found))
on-cond true x found = refl
on-cond false x found = refl

pub on-cons : (x : Listed) (list : List Listed) (uid : ℕ) → is_on (x ∷ list) uid ≡ ((x.uid == uid) || is_on list uid)
on-cons x list uid = on-cond (x.uid == uid) x _

left-step : (a b : Bool) (x : Listed) (rest list : List Listed) (uid : ℕ) → (x.uid == uid) ≡ b → (b ≡ true → a ≡ false) → is_on rest uid ≡ is_on list uid → is_on (cond (not a) (x ∷ rest) rest) uid ≡ (b || is_on list uid)
left-step true true x rest list uid e f h = let g = f refl in cc
left-step true false x rest list uid e f h = h
left-step false b x rest list uid e f h = rw (on-cons x rest uid, e, h) refl

-- what isn't taken off stays on the list
pub on-without : (uids : List ℕ) (list : List Listed) (uid : ℕ) → has_number uid uids ≡ false → is_on (without uids list) uid ≡ is_on list uid
on-without uids [] uid h = refl
on-without uids (x ∷ list) uid h = rw (on-cons x list uid) (left-step (has_number x.uid uids) (x.uid == uid) x (without uids list) list uid refl (λ e. let same : x.uid ≡ uid = eqb-true x.uid uid e in rw same h) (on-without uids list uid h))

pub on-append : (xs ys : List Listed) (uid : ℕ) → is_on (xs ++ ys) uid ≡ (is_on xs uid || is_on ys uid)
on-append [] ys uid = refl
on-append (x ∷ xs) ys uid = rw (on-cons x (xs ++ ys) uid, on-cons x xs uid, on-append xs ys uid) (or-assoc (x.uid == uid) (is_on xs uid) (is_on ys uid))

-- what is on the list stays there when others are touched
pub on-touched : (at : ℕ) (uids : List ℕ) (list : List Listed) (uid : ℕ) → has_number uid uids ≡ false → is_on list uid ≡ true → is_on (touched at uids list) uid ≡ true
on-touched at uids list uid apart on = rw (on-append (without uids list) (stamped at uids) uid, on-without uids list uid apart, on) refl

-- ---- uids that rise

pub all-at : (P : ℕ → Type 0) (uids : List ℕ) (i d : ℕ) → AllByRecursion P uids → i < length uids → P (get_or uids i d)
all-at P [] i d h lt = absurd (omega (arith, lt))
all-at P (uid ∷ uids) zero d h lt = h.0
all-at P (uid ∷ uids) (suc i) d h lt = all-at P uids i d h.1 (omega (arith, lt))

-- a uid isn't among those before it
pub rise-apart : (uids : List ℕ) (i d : ℕ) → Rise uids → i < length uids → has_number (get_or uids i d) (take i uids) ≡ false
rise-apart [] i d h lt = absurd (omega (arith, lt))
rise-apart (uid ∷ uids) zero d h lt = refl
rise-apart (uid ∷ uids) (suc i) d h lt =
    let here : i < length uids = omega (arith, lt) in
    let below : uid < get_or uids i d = all-at (λ (later : ℕ). uid < later) uids i d h.0 here in
    let differs : (uid == get_or uids i d) ≡ false = ne_eqb uid (get_or uids i d) (λ e. omega arith) in
    rw differs (rise-apart uids i d h.1 here)

pub list_all-at : (p : ℕ → Bool) (uids : List ℕ) (i d : ℕ) → list_all p uids ≡ true → i < length uids → p (get_or uids i d) ≡ true
list_all-at p [] i d h lt = absurd (omega (arith, lt))
list_all-at p (uid ∷ uids) zero d h lt = and-first (p uid) (list_all p uids) h
list_all-at p (uid ∷ uids) (suc i) d h lt = list_all-at p uids i d (and-second (p uid) (list_all p uids) h) (omega (arith, lt))

-- where all are on the list, the next one still is when those before it are touched
pub next-on : (at : ℕ) (uids : List ℕ) (list : List Listed) (i d : ℕ) → Rise uids → i < length uids → are_on uids list ≡ true → is_on (touched at (take i uids) list) (get_or uids i d) ≡ true
next-on at uids list i d h lt on = on-touched at (take i uids) list (get_or uids i d) (rise-apart uids i d h lt) (list_all-at (is_on list) uids i d on lt)

-- one uid more is touched
pub touched-next : (at : ℕ) (uids : List ℕ) (list : List Listed) (i d : ℕ) → Rise uids → i < length uids → touched at (get_or uids i d ∷ []) (touched at (take i uids) list) ≡ touched at (take (i + 1) uids) list
touched-next at uids list i d h lt = rw (take_more uids i d lt) (touched-more at (get_or uids i d) (take i uids) list (rise-apart uids i d h lt))

-- one uid more is taken off
pub without-next : (uids : List ℕ) (list : List Listed) (i d : ℕ) → i < length uids → without (get_or uids i d ∷ []) (without (take i uids) list) ≡ without (take (i + 1) uids) list
without-next uids list i d lt = rw (take_more uids i d lt) (without-more (get_or uids i d) (take i uids) list)
