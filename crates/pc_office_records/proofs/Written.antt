-- The fields of a record, written one after the other.
use Rattle.std.proofs.Common.{◌≡◌, ℕ, ◌+◌, ◌<◌, ◌≤◌, nat_lt, List, [], ◌∷◌, ◌++◌, length, drop, get_or, Result, Ok, Err, OnOk, sym, ap, subst, ◌∙◌, append_assoc, arith}
use Rattle.std.specs.List.{concat, list_any, AllByRecursion as Every}
use Rattle.std.specs.Map.{keys_of}
use Rattle.std.proofs.lemmas.Bool.{or_parts}
use Rattle.std.proofs.lemmas.List.{drop_more}
use Rattle.pc_tables.specs.Table.{total}
use Rattle.pc_tables.proofs.Lists.{Every-weaker}
use Rattle.pc_fields.proofs.Loops.{concat-append}
use Rattle.pc_office_history.specs.declared.limits.TheConstants.{MOST_BOARD_MESSAGES, MOST_BOARD_WEIGHT}
use Rattle.pc_office_history.specs.declared.kept.KeptMail.{KeptMail}
use Rattle.pc_office_history.specs.Record.{OfficeRecord}
use Rattle.pc_office_history.specs.Known.{said_by}
use Rattle.pc_office_history.specs.Limits.{board_weight}
use Rattle.pc_office_history.specs.Legal.{IsCanonical}
use Rattle.pc_office_history.proofs.Names.{read-off}
use Rattle.pc_office_history.proofs.Bounds.{bounded}
use Rattle.pc_office_spelling.proofs.Limits.{short-each}
use Rattle.pc_office_records.specs.Saving.{HaveFewMessages, HaveFewTargets}

pub on_ok : {T E : Type 0} (result : Result T E) (P Q : Type 0) → (P → Q) → OnOk result P → OnOk result Q
on_ok (Ok value) P Q f h = f h
on_ok (Err error) P Q f h = h

-- ---- what is written, put together

pub all-written : (out : List ℕ) (us these bs : List (List ℕ)) (n : List ℕ) (ks : List (List ℕ)) (o1 o2 o3 o4 o5 : List ℕ)
    → o1 ≡ out ++ concat us → o2 ≡ o1 ++ concat these → o3 ≡ o2 ++ concat bs → o4 ≡ o3 ++ n → o5 ≡ o4 ++ concat ks
    → o5 ≡ out ++ concat (((us ++ these) ++ bs) ++ (n ∷ ks))
all-written out us these bs n ks o1 o2 o3 o4 o5 e1 e2 e3 e4 e5 =
    let f2 = ap (λ (t : List ℕ). t ++ concat these) e1 in
    let f3 = ap (λ (t : List ℕ). t ++ concat bs) (e2 ∙ f2) in
    let f4 = ap (λ (t : List ℕ). t ++ n) (e3 ∙ f3) in
    let f5 = ap (λ (t : List ℕ). t ++ concat ks) (e4 ∙ f4) in
    e5 ∙ f5 ∙ five
  where
    five : ((((out ++ concat us) ++ concat these) ++ concat bs) ++ n) ++ concat ks ≡ out ++ concat (((us ++ these) ++ bs) ++ (n ∷ ks))
    five = simp (concat-append, append_assoc)

-- the item at an index, and those behind it, are as all are
pub each-dropped : {X : Type 0} (P : X → Type 0) (xs : List X) (i : ℕ) (x : X) → i < length xs → x ≡ get_or xs i x → Every P (drop i xs) → P x × Every P (drop (i + 1) xs)
each-dropped {X} P xs i x lt is every =
    let split : drop i xs ≡ x ∷ drop (i + 1) xs = drop_more xs i x lt ∙ ap (λ y. y ∷ drop (i + 1) xs) (sym is) in
    let both : Every P (x ∷ drop (i + 1) xs) = subst (Every P) split every in
    (both.0, both.1)

pub kept-written : (out : List ℕ) (n : List ℕ) (ts ms : List (List ℕ)) (o1 o2 o3 : List ℕ) → o1 ≡ out ++ n → o2 ≡ o1 ++ concat ts → o3 ≡ o2 ++ concat ms → o3 ≡ out ++ concat ((n ∷ ts) ++ ms)
kept-written out n ts ms o1 o2 o3 e1 e2 e3 =
    let f2 = ap (λ (t : List ℕ). t ++ concat ts) e1 in
    let f3 = ap (λ (t : List ℕ). t ++ concat ms) (e2 ∙ f2) in
    e3 ∙ f3 ∙ three
  where
    three : ((out ++ n) ++ concat ts) ++ concat ms ≡ out ++ concat ((n ∷ ts) ++ ms)
    three = simp (concat-append, append_assoc)

-- ---- a canonical record has few of each

module _ (r : OfficeRecord) (canonical : IsCanonical r) where
  pub few-kept : length r.kept < 4294967296
  few-kept = let is = bounded r canonical in let mails = is.mails in let targets = is.targets in omega (arith, mails, targets)

  pub few-messages : HaveFewMessages r.boards
  few-messages =
      let parts = or_parts (list_any (λ board. nat_lt MOST_BOARD_MESSAGES (length ((said_by r).messages board))) (keys_of r.boards)) (nat_lt MOST_BOARD_WEIGHT (board_weight (said_by r))) canonical.within.1.1.1.1.0 in
      Every-weaker (λ (board : List ℕ × List (List (List ℕ))). length board.1 ≤ 4096) (λ (board : List ℕ × List (List (List ℕ))). length board.1 < 4294967296) (λ board le. omega (arith, le)) r.boards
      (short-each (said_by r).messages r.boards (read-off r canonical.well_formed).messages parts.0)

  pub few-targets : HaveFewTargets r.kept
  few-targets = each-few r.kept (let is = bounded r canonical in let targets = is.targets in omega (arith, targets))
    where
      each-few : (kept : List KeptMail) → total (λ (mail : KeptMail). length mail.targets) kept < 65536 → HaveFewTargets kept
      each-few [] lt = tt
      each-few (mail ∷ kept) lt = (omega (arith, lt), each-few kept (omega (arith, lt)))
