-- What the limits of a canonical record say of its tables, and names that are apart.
use Rattle.std.proofs.Common.{◌≡◌, ℕ, ◌≤◌, true, false, ◌||◌, nat_lt, nat_le, List, [], ◌∷◌, ◌++◌, length, refl, sym, ap, ◌∙◌, arith}
use Rattle.std.specs.List.{list_all, list_any, AllByRecursion as Every}
use Rattle.std.specs.Map.{keys_of}
use Rattle.std.proofs.lemmas.Bool.{ltb-false, le-ltb, leb-true, le-leb, or_parts, and_parts, and_from}
use Rattle.std.proofs.lemmas.List.Folds.{list_any-append}
use Rattle.pc_base.specs.Name.{is_name}
use Rattle.pc_tables.specs.Table.{same, is_among}
use Rattle.pc_tables.specs.Order.{AreDistinct}
use Rattle.pc_tables.proofs.Table.{same-sym}
use Rattle.pc_tables.proofs.Order.{Ordered-append}
use Rattle.pc_office_history.specs.declared.limits.TheConstants.{MOST_WAITING, MOST_WAITING_WEIGHT}
use Rattle.pc_office_history.specs.declared.kept.KeptMail.{KeptMail}
use Rattle.pc_office_history.specs.Record.{mails_for}
use Rattle.pc_office_history.specs.Limits.{mail_weight, are_too_many}
use Rattle.pc_office_spelling.specs.RecordForm.{user_fits}
use Rattle.pc_office_spelling.proofs.Waits.{AreFew}

abbrev pub Boards : Type 0
Boards = List (List ℕ × List (List (List ℕ)))

-- ---- mails that wait

pub none-many : (users : List (List ℕ × ℕ)) (kept : List KeptMail) → AreFew users kept → list_any (λ user. are_too_many (mails_for user kept)) (keys_of users) ≡ false
none-many [] kept few = refl
none-many (user ∷ users) kept few =
    let long = few.0.0 in
    let heavy = few.0.1 in
    λ i. (le-ltb MOST_WAITING (length (mails_for user.0 kept)) long i || le-ltb MOST_WAITING_WEIGHT (mail_weight (mails_for user.0 kept)) heavy i) || none-many users kept few.1 i

pub few-each : (users : List (List ℕ × ℕ)) (kept : List KeptMail) → list_any (λ user. are_too_many (mails_for user kept)) (keys_of users) ≡ false → AreFew users kept
few-each [] kept none = tt
few-each (user ∷ users) kept none =
    let parts = or_parts (are_too_many (mails_for user.0 kept)) (list_any (λ name. are_too_many (mails_for name kept)) (keys_of users)) none in
    let here = or_parts (nat_lt MOST_WAITING (length (mails_for user.0 kept))) (nat_lt MOST_WAITING_WEIGHT (mail_weight (mails_for user.0 kept))) parts.0 in
    ((ltb-false MOST_WAITING (length (mails_for user.0 kept)) here.0, ltb-false MOST_WAITING_WEIGHT (mail_weight (mails_for user.0 kept)) here.1), few-each users kept parts.1)

-- ---- boards

module _ (messages : List ℕ → List (List (List ℕ))) where
  pub none-long : (boards : Boards) → Every (λ (board : List ℕ × List (List (List ℕ))). messages board.0 ≡ board.1) boards → Every (λ (board : List ℕ × List (List (List ℕ))). length board.1 ≤ 4096) boards → list_any (λ name. nat_lt 4096 (length (messages name))) (keys_of boards) ≡ false
  none-long [] read short = refl
  none-long (board ∷ boards) read short =
      let is = ap length read.0 in
      let few = short.0 in
      λ i. le-ltb 4096 (length (messages board.0)) (omega (arith, is, few)) i || none-long boards read.1 short.1 i

  pub short-each : (boards : Boards) → Every (λ (board : List ℕ × List (List (List ℕ))). messages board.0 ≡ board.1) boards → list_any (λ name. nat_lt 4096 (length (messages name))) (keys_of boards) ≡ false → Every (λ (board : List ℕ × List (List (List ℕ))). length board.1 ≤ 4096) boards
  short-each [] read none = tt
  short-each (board ∷ boards) read none =
      let parts = or_parts (nat_lt 4096 (length (messages board.0))) (list_any (λ name. nat_lt 4096 (length (messages name))) (keys_of boards)) none in
      let is = ap length read.0 in
      let few = ltb-false 4096 (length (messages board.0)) parts.0 in
      (omega (arith, is, few), short-each boards read.1 parts.1)

-- ---- names that are apart

abbrev pub AreApart : List (List ℕ) → Boards → Type 0
AreApart names boards = Every (λ (board : List ℕ × List (List (List ℕ))). is_among board.0 names ≡ false) boards

pub apart-parts : (xs ys : List (List ℕ)) (boards : Boards) → AreApart (xs ++ ys) boards → AreApart xs boards × AreApart ys boards
apart-parts xs ys [] apart = (tt, tt)
apart-parts xs ys (board ∷ boards) apart =
    let here = or_parts (is_among board.0 xs) (is_among board.0 ys) (sym (list_any-append (same board.0) xs ys) ∙ apart.0) in
    let rest = apart-parts xs ys boards apart.1 in
    ((here.0, rest.0), (here.1, rest.1))

pub apart-both : (xs ys : List (List ℕ)) (boards : Boards) → AreApart xs boards → AreApart ys boards → AreApart (xs ++ ys) boards
apart-both xs ys [] first second = tt
apart-both xs ys (board ∷ boards) first second = (list_any-append (same board.0) xs ys ∙ (λ i. first.0 i || second.0 i), apart-both xs ys boards first.1 second.1)

apart-name : (name : List ℕ) (names : List (List ℕ)) (boards : Boards) → AreApart (name ∷ names) boards → Every (λ (later : List ℕ). same name later ≡ false) (keys_of boards) × AreApart names boards
apart-name name names [] apart = (tt, tt)
apart-name name names (board ∷ boards) apart =
    let here = or_parts (same board.0 name) (is_among board.0 names) apart.0 in
    let rest = apart-name name names boards apart.1 in
    ((same-sym name board.0 ∙ here.0, rest.0), (here.1, rest.1))

apart-each : (names : List (List ℕ)) (boards : Boards) → AreApart names boards → Every (λ (name : List ℕ). Every (λ (later : List ℕ). same name later ≡ false) (keys_of boards)) names
apart-each [] boards apart = tt
apart-each (name ∷ names) boards apart = let parts = apart-name name names boards apart in (parts.0, apart-each names boards parts.1)

pub distinct-with : (names : List (List ℕ)) (boards : Boards) → AreDistinct names → AreDistinct (keys_of boards) → AreApart names boards → AreDistinct (names ++ keys_of boards)
distinct-with names boards first second apart = Ordered-append (λ (name later : List ℕ). same name later ≡ false) names (keys_of boards) first second (apart-each names boards apart)

every-split : (P : List ℕ → Type 0) (xs ys : List (List ℕ)) → Every P (xs ++ ys) → Every P xs × Every P ys
every-split P [] ys all = (tt, all)
every-split P (x ∷ xs) ys all = let rest = every-split P xs ys all.1 in ((all.0, rest.0), rest.1)

pub distinct-first : (names more : List (List ℕ)) → AreDistinct (names ++ more) → AreDistinct names
distinct-first [] more distinct = tt
distinct-first (name ∷ names) more distinct = ((every-split (λ (later : List ℕ). same name later ≡ false) names more distinct.0).0, distinct-first names more distinct.1)

pub distinct-second : (names more : List (List ℕ)) → AreDistinct (names ++ more) → AreDistinct more
distinct-second [] more distinct = distinct
distinct-second (name ∷ names) more distinct = distinct-second names more distinct.1

apart-none : (boards : Boards) → AreApart [] boards
apart-none [] = tt
apart-none (board ∷ boards) = (refl, apart-none boards)

apart-more : (name : List ℕ) (names : List (List ℕ)) (boards : Boards) → Every (λ (later : List ℕ). same name later ≡ false) (keys_of boards) → AreApart names boards → AreApart (name ∷ names) boards
apart-more name names [] differs apart = tt
apart-more name names (board ∷ boards) differs apart = ((λ i. (same-sym board.0 name ∙ differs.0) i || apart.0 i), apart-more name names boards differs.1 apart.1)

pub distinct-apart : (names : List (List ℕ)) (boards : Boards) → AreDistinct (names ++ keys_of boards) → AreApart names boards
distinct-apart [] boards distinct = apart-none boards
distinct-apart (name ∷ names) boards distinct = apart-more name names boards (every-split (λ (later : List ℕ). same name later ≡ false) names (keys_of boards) distinct.0).1 (distinct-apart names boards distinct.1)

-- ---- users

pub names-fit : (users : List (List ℕ × ℕ)) → list_all user_fits users ≡ true → list_all is_name (keys_of users) ≡ true
names-fit [] fit = refl
names-fit (user ∷ users) fit = let parts = and_parts (is_name user.0) (list_all user_fits users) fit in and_from (is_name user.0) (list_all is_name (keys_of users)) parts.0 (names-fit users parts.1)

pub noted-each : (accepted : ℕ) (users : List (List ℕ × ℕ)) → list_all (λ (user : List ℕ × ℕ). nat_le user.1 accepted) users ≡ true → Every (λ (user : List ℕ × ℕ). user.1 ≤ accepted) users
noted-each accepted [] all = tt
noted-each accepted (user ∷ users) all = let parts = and_parts (nat_le user.1 accepted) (list_all (λ (other : List ℕ × ℕ). nat_le other.1 accepted) users) all in (leb-true user.1 accepted parts.0, noted-each accepted users parts.1)

pub each-noted : (accepted : ℕ) (users : List (List ℕ × ℕ)) → Every (λ (user : List ℕ × ℕ). user.1 ≤ accepted) users → list_all (λ (user : List ℕ × ℕ). nat_le user.1 accepted) users ≡ true
each-noted accepted [] all = refl
each-noted accepted (user ∷ users) all = and_from (nat_le user.1 accepted) (list_all (λ (other : List ℕ × ℕ). nat_le other.1 accepted) users) (le-leb user.1 accepted all.0) (each-noted accepted users all.1)
