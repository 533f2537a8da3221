-- Lists that are made longer before they are touched.
use Rattle.std.proofs.Common.{◌≡◌, ℕ, zero, suc, ◌+◌, ◌<◌, ◌≤◌, ◌==◌, Bool, true, false, not, ◌||◌, List, [], ◌∷◌, ◌++◌, take, length, get_or, refl, sym, ap, ◌∙◌, arith, append_assoc, Result, Ok, Err, OnOk, OnErr, IsOk, is_err}
use Rattle.std.proofs.Math.ListN.{set}
use Rattle.std.proofs.Math.Seq.{take-append_seam}
use Rattle.std.specs.List.{list_all}
use Rattle.std.specs.Cmp.{nat_eq_equiv}
use Rattle.std.proofs.lemmas.List.{append-nil, take_more}
use Rattle.std.proofs.lemmas.List.Folds.{list_all-append}
use Rattle.pc_account_history.specs.declared.kept.Listed.{Listed}
use Rattle.pc_tables.specs.Table.{has_number}
use Rattle.pc_account_history.specs.Step.{without, touched, stamped}
use Rattle.pc_mailbox.specs.UpdateList.{is_on, are_on, Grown, back_mapped, touched_entry}
use Rattle.pc_mailbox.proofs.Touches.{filter-append, or-false, on-cons, on-append, and-first, and-second}

-- ---- one list

off-step : (x : Listed) (list : List Listed) (uid : ℕ) → (x.uid == uid) ≡ false → without (uid ∷ []) list ≡ list → without (uid ∷ []) (x ∷ list) ≡ x ∷ list
off-step x list uid e h = let other : (uid == x.uid) ≡ false = nat_eq_equiv.symm uid x.uid ∙ e in rw other (ap (λ (l : List Listed). x ∷ l) h)

-- a uid that isn't on the list isn't taken off
off-without : (list : List Listed) (uid : ℕ) → is_on list uid ≡ false → without (uid ∷ []) list ≡ list
off-without [] uid h = refl
off-without (x ∷ list) uid h = let parts = or-false (x.uid == uid) (is_on list uid) (sym (on-cons x list uid) ∙ h) in off-step x list uid parts.0 (off-without list uid parts.1)

pub touched-new : (at uid : ℕ) (list : List Listed) → is_on list uid ≡ false → touched at (uid ∷ []) list ≡ list ++ stamped at (uid ∷ [])
touched-new at uid list h = rw (off-without list uid h) refl

pub grown-none : (uids : List ℕ) (list : List Listed) → Grown uids list list
grown-none uids list = record { more = []; grown = sym (append-nil list); among = refl }

one-among : (at uid : ℕ) (uids : List ℕ) → has_number uid uids ≡ true → without uids (stamped at (uid ∷ [])) ≡ []
one-among at uid uids h = rw h refl

pub grown-touch : (at uid : ℕ) (uids : List ℕ) (old mid : List Listed) → Grown uids old mid → has_number uid uids ≡ true → is_on mid uid ≡ false → Grown uids old (touched at (uid ∷ []) mid)
grown-touch at uid uids old mid h among off = record {
  more = h.more ++ stamped at (uid ∷ []);
  grown = touched-new at uid mid off ∙ (ap (λ (l : List Listed). l ++ stamped at (uid ∷ [])) h.grown ∙ append_assoc old h.more (stamped at (uid ∷ [])));
  among = filter-append (λ (listed : Listed). not (has_number listed.uid uids)) h.more (stamped at (uid ∷ [])) ∙ rw (h.among, one-among at uid uids among) refl;
}

pub grown-front : (uids : List ℕ) (old new : List Listed) → Grown uids old new → take (length old) new ≡ old
grown-front uids old new h = rw h.grown (take-append_seam old h.more)

pub grown-touched : (at : ℕ) (uids : List ℕ) (old new : List Listed) → Grown uids old new → touched at uids new ≡ touched at uids old
grown-touched at uids old new h =
    let rest : without uids new ≡ without uids old = rw (h.grown, filter-append (λ (listed : Listed). not (has_number listed.uid uids)) old h.more, h.among) (append-nil (without uids old)) in
    ap (λ (l : List Listed). l ++ stamped at uids) rest

pub grown-on : (uids : List ℕ) (old new : List Listed) (uid : ℕ) → Grown uids old new → is_on old uid ≡ true → is_on new uid ≡ true
grown-on uids old new uid h on = rw (h.grown, on-append old h.more uid, on) refl

or-second : (a b : Bool) → b ≡ true → (a || b) ≡ true
or-second true b h = refl
or-second false b h = h

pub number-at : (uids : List ℕ) (i d : ℕ) → i < length uids → has_number (get_or uids i d) uids ≡ true
number-at [] i d lt = absurd (omega (arith, lt))
number-at (uid ∷ uids) zero d lt = let same = nat_eq_equiv.refl uid in rw same refl
number-at (uid ∷ uids) (suc i) d lt = or-second (uid == get_or uids i d) (has_number (get_or uids i d) uids) (number-at uids i d (omega (arith, lt)))

are_on-weaker : (uids : List ℕ) (old new : List Listed) → ((uid : ℕ) → is_on old uid ≡ true → is_on new uid ≡ true) → are_on uids old ≡ true → are_on uids new ≡ true
are_on-weaker [] old new f h = refl
are_on-weaker (uid ∷ uids) old new f h = rw (f uid (and-first (is_on old uid) (are_on uids old) h)) (are_on-weaker uids old new f (and-second (is_on old uid) (are_on uids old) h))

-- the next uid is on the list too
pub on-next : (uids : List ℕ) (list : List Listed) (i d : ℕ) → i < length uids → are_on (take i uids) list ≡ true → is_on list (get_or uids i d) ≡ true → are_on (take (i + 1) uids) list ≡ true
on-next uids list i d lt front on = rw (take_more uids i d lt, list_all-append (is_on list) (take i uids) (get_or uids i d ∷ []), front, on) refl

on-self : (at uid : ℕ) (list : List Listed) → is_on list uid ≡ false → is_on (touched at (uid ∷ []) list) uid ≡ true
on-self at uid list off = let same = nat_eq_equiv.refl uid in rw (touched-new at uid list off, on-append list (stamped at (uid ∷ [])) uid, off, same) refl

pub on-touch : (at : ℕ) (uids : List ℕ) (list : List Listed) (i d : ℕ) → i < length uids → are_on (take i uids) list ≡ true → is_on list (get_or uids i d) ≡ false → are_on (take (i + 1) uids) (touched at (get_or uids i d ∷ []) list) ≡ true
on-touch at uids list i d lt front off =
    let kept : (u : ℕ) → is_on list u ≡ true → is_on (touched at (get_or uids i d ∷ []) list) u ≡ true = λ u on. rw (touched-new at (get_or uids i d) list off, on-append list (stamped at (get_or uids i d ∷ [])) u, on) refl in
    on-next uids (touched at (get_or uids i d ∷ []) list) i d lt (are_on-weaker (take i uids) list (touched at (get_or uids i d ∷ []) list) kept front) (on-self at (get_or uids i d) list off)

-- ---- the lists from a place on

pub set-back : {X : Type 0} (xs : List X) (i : ℕ) (y d : X) → i < length xs → set (set xs i y) i (get_or xs i d) ≡ xs
set-back [] i y d lt = absurd (omega (arith, lt))
set-back (x ∷ xs) zero y d lt = refl
set-back {X = X} (x ∷ xs) (suc i) y d lt = ap (λ (l : List X). x ∷ l) (set-back xs i y d (omega (arith, lt)))

pub get-set : {X : Type 0} (xs : List X) (i : ℕ) (y d : X) → i < length xs → get_or (set xs i y) i d ≡ y
get-set [] i y d lt = absurd (omega (arith, lt))
get-set (x ∷ xs) zero y d lt = refl
get-set (x ∷ xs) (suc i) y d lt = get-set xs i y d (omega (arith, lt))

module _ {X : Type 0} (f : X → X) where
  pub back-end : (xs : List X) (i : ℕ) → length xs ≤ i → back_mapped f i xs ≡ xs
  back-end [] zero h = refl
  back-end [] (suc i) h = refl
  back-end (x ∷ xs) zero h = absurd (omega (arith, h))
  back-end (x ∷ xs) (suc i) h = ap (λ (l : List X). x ∷ l) (back-end xs i (omega (arith, h)))

  back-step : (xs : List X) (i : ℕ) (y d : X) → i < length xs → set (back_mapped f (suc i) (set xs i y)) i (f (get_or xs i d)) ≡ back_mapped f i xs
  back-step [] i y d lt = absurd (omega (arith, lt))
  back-step (x ∷ xs) zero y d lt = refl
  back-step (x ∷ xs) (suc i) y d lt = ap (λ (l : List X). x ∷ l) (back-step xs i y d (omega (arith, lt)))

  back-kept : (xs : List X) (i : ℕ) (y d : X) → i < length xs → get_or (back_mapped f (suc i) (set xs i y)) i d ≡ y
  back-kept [] i y d lt = absurd (omega (arith, lt))
  back-kept (x ∷ xs) zero y d lt = refl
  back-kept (x ∷ xs) (suc i) y d lt = back-kept xs i y d (omega (arith, lt))

  -- the item at a place that was changed for a time, and those from the next one on
  pub back-next : (xs ys : List X) (i : ℕ) (y d : X) → i < length xs → ys ≡ back_mapped f (i + 1) (set xs i y) → set ys i (f (get_or xs i d)) ≡ back_mapped f i xs
  back-next xs ys i y d lt e = let one : i + 1 ≡ suc i = omega arith in rw (e, one) (back-step xs i y d lt)

  pub back-here : (xs ys : List X) (i : ℕ) (y d : X) → i < length xs → ys ≡ back_mapped f (i + 1) (set xs i y) → get_or ys i d ≡ y
  back-here xs ys i y d lt e = let one : i + 1 ≡ suc i = omega arith in rw (e, one) (back-kept xs i y d lt)

-- ---- one list of the table, for a time and for good

get-any : {X : Type 0} (xs : List X) (i : ℕ) (d e : X) → i < length xs → get_or xs i d ≡ get_or xs i e
get-any [] i d e lt = absurd (omega (arith, lt))
get-any (x ∷ xs) zero d e lt = refl
get-any (x ∷ xs) (suc i) d e lt = get-any xs i d e (omega (arith, lt))

pub set-same : {X : Type 0} (xs : List X) (i : ℕ) (d : X) → set xs i (get_or xs i d) ≡ xs
set-same [] i d = refl
set-same (x ∷ xs) zero d = refl
set-same {X = X} (x ∷ xs) (suc i) d = ap (λ (l : List X). x ∷ l) (set-same xs i d)

pub all-set : {X : Type 0} (p : X → Bool) (xs : List X) (i : ℕ) (y : X) → list_all p xs ≡ true → p y ≡ true → list_all p (set xs i y) ≡ true
all-set p [] i y h k = refl
all-set p (x ∷ xs) zero y h k = rw k (and-second (p x) (list_all p xs) h)
all-set p (x ∷ xs) (suc i) y h k = rw (and-first (p x) (list_all p xs) h) (all-set p xs i y (and-second (p x) (list_all p xs) h) k)

pub on-err : {T E : Type 0} (r : Result T E) (P : Type 0) → is_err r ≡ true → OnErr r P → P
on-err (Ok x) P e h = cc
on-err (Err x) P e h = h

pub on-ok : {T E : Type 0} (r : Result T E) (P : Type 0) → is_err r ≡ false → OnOk r P → P
on-ok (Ok x) P e h = h
on-ok (Err x) P e h = cc

pub err-holds : {T E : Type 0} (r : Result T E) (P : Type 0) → P → OnErr r P
err-holds (Ok x) P h = tt
err-holds (Err x) P h = h

pub not-both : {T E : Type 0} (r : Result T E) → is_err r ≡ true → IsOk r → false ≡ true
not-both (Ok x) e h = e
not-both (Err x) e h = h

module _ (lists ys : List (List ℕ × List Listed)) (i : ℕ) (uids : List ℕ) (d : List ℕ × List Listed) (mid : List Listed) (lt : i < length lists) (grown : Grown uids (get_or lists i d).1 mid) where
  abbrev pub admitted : List ℕ × List Listed
  admitted = ((get_or lists i d).0, mid)

  -- what was admitted is cut off again
  pub restored : (d1 d3 : List ℕ × List Listed) (count : ℕ) (left : List Listed) → ys ≡ set lists i admitted → count ≡ length (get_or lists i d1).1 → left ≡ take count (get_or ys i d3).1 → set ys i ((get_or ys i d3).0, left) ≡ lists
  restored d1 d3 count left h n e =
      let here : get_or ys i d3 ≡ admitted = ap (λ (l : List (List ℕ × List Listed)). get_or l i d3) h ∙ get-set lists i admitted d3 lt in
      let count-is : count ≡ length (get_or lists i d).1 = n ∙ ap (λ (p : List ℕ × List Listed). length p.1) (get-any lists i d1 d lt) in
      let front : take count mid ≡ (get_or lists i d).1 = rw count-is (grown-front uids (get_or lists i d).1 mid grown) in
      let back : left ≡ (get_or lists i d).1 = e ∙ (ap (λ (p : List ℕ × List Listed). take count p.1) here ∙ front) in
      rw (here, back, h) (set-back lists i admitted d lt)

  -- the list is touched, after those behind it
  pub finished : (at : ℕ) (d4 : List ℕ × List Listed) (new : List Listed) → ys ≡ back_mapped (touched_entry at uids) (i + 1) (set lists i admitted) → new ≡ touched at uids (get_or ys i d4).1 → set ys i ((get_or ys i d4).0, new) ≡ back_mapped (touched_entry at uids) i lists
  finished at d4 new h e =
      let here : get_or ys i d4 ≡ admitted = back-here (touched_entry at uids) lists ys i admitted d4 lt h in
      let n : new ≡ touched at uids (get_or lists i d).1 = e ∙ (ap (λ (p : List ℕ × List Listed). touched at uids p.1) here ∙ grown-touched at uids (get_or lists i d).1 mid grown) in
      rw (here, n) (back-next (touched_entry at uids) lists ys i admitted d lt h)

  -- the list is still as it was admitted, while those behind it are touched
  pub still-on : (at : ℕ) (d4 : List ℕ × List Listed) → ys ≡ back_mapped (touched_entry at uids) (i + 1) (set lists i admitted) → are_on uids mid ≡ true → are_on uids (get_or ys i d4).1 ≡ true
  still-on at d4 h on = ap (λ (p : List ℕ × List Listed). are_on uids p.1) (back-here (touched_entry at uids) lists ys i admitted d4 lt h) ∙ on
