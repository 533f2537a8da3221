-- Empty lists under names that differ.
use Rattle.std.proofs.Common.{◌≡◌, ℕ, zero, suc, ◌+◌, ◌<◌, Bool, false, not, cond, List, [], ◌∷◌, ◌++◌, map, take, length, get_or, refl, sym, ap, ◌∙◌, arith}
use Rattle.std.specs.List.{IsDistinct, AllByRecursion}
use Rattle.std.specs.Map.{keys_of}
use Rattle.pc_account_history.specs.declared.kept.Listed.{Listed}
use Rattle.pc_tables.specs.Table.{same, others, map_values}
use Rattle.pc_account_history.specs.Record.{MailboxRecord, new_mailbox}
use Rattle.pc_account_history.specs.Step.{with_client}
use Rattle.pc_tables.proofs.Table.{same-sym}
use Rattle.pc_account_holdings.specs.Mailboxes.{empty_for}

abbrev pub Lists : Type 0
Lists = List (List ℕ × List Listed)

abbrev pub empty_lists : List (List ℕ) → Lists
empty_lists names = map (λ (name : List ℕ). (name, [])) names

apart : (first : List ℕ) (names : List (List ℕ)) (place : ℕ) (d : List ℕ) → AllByRecursion (λ (name : List ℕ). same first name ≡ false) names → place < length names → same (get_or names place d) first ≡ false
apart first [] place d h lt = absurd (omega (arith, lt))
apart first (name ∷ names) zero d h lt = same-sym name first ∙ h.0
apart first (name ∷ names) (suc place) d h lt = apart first names place d h.1 (omega (arith, lt))

others-first : (b : Bool) (entry : List ℕ × List Listed) (rest : Lists) → b ≡ false → cond (not b) (entry ∷ rest) rest ≡ entry ∷ rest
others-first b entry rest e = rw e refl

-- none of the names before a place is the one there
others-before : (names : List (List ℕ)) (place : ℕ) (d : List ℕ) → IsDistinct same names → place < length names → others (get_or names place d) (empty_lists (take place names)) ≡ empty_lists (take place names)
unfolding IsDistinct
others-before [] place d h lt = absurd (omega (arith, lt))
others-before (name ∷ names) zero d h lt = refl
others-before (name ∷ names) (suc place) d h lt =
    ap (λ (rest : Lists). cond (not (same (get_or names place d) name)) ((name, []) ∷ rest) rest) (others-before names place d h.1 (omega (arith, lt)))
    ∙ others-first (same (get_or names place d) name) (name, []) (empty_lists (take place names)) (apart name names place d h.0 (omega (arith, lt)))

take-none : (l : List (List ℕ)) → take 0 l ≡ []
take-none [] = refl
take-none (x ∷ xs) = refl

take-next : (names : List (List ℕ)) (place : ℕ) (d : List ℕ) → place < length names → empty_lists (take place names) ++ (get_or names place d, []) ∷ [] ≡ empty_lists (take (place + 1) names)
take-next [] place d lt = absurd (omega (arith, lt))
take-next (name ∷ names) zero d lt = ap (λ (l : List (List ℕ)). (name, []) ∷ empty_lists l) (sym (take-none names))
take-next (name ∷ names) (suc place) d lt = let one : suc place + 1 ≡ suc (place + 1) = omega arith in rw one (ap (λ (l : Lists). (name, []) ∷ l) (take-next names place d (omega (arith, lt))))

abbrev with_lists : Lists → MailboxRecord
with_lists lists = record { highest = 0; messages = []; lists = lists }

-- the next client gets its list
pub client-next : (names : List (List ℕ)) (place : ℕ) (name : List ℕ) → IsDistinct same names → place < length names → name ≡ get_or names place name → with_client 0 name (empty_for (take place names)) ≡ empty_for (take (place + 1) names)
client-next names place name distinct lt here =
    ap (λ (lists : Lists). with_lists lists) (
    ap (λ (n : List ℕ). others n (empty_lists (take place names)) ++ (n, []) ∷ []) here
    ∙ ap (λ (l : Lists). l ++ (get_or names place name, []) ∷ []) (others-before names place name distinct lt)
    ∙ take-next names place name lt)

lists-for : (table : List (List ℕ × ℕ)) → empty_lists (keys_of table) ≡ map_values (λ _. []) table
lists-for [] = refl
lists-for (entry ∷ table) = ap (λ (l : Lists). (entry.0, []) ∷ l) (lists-for table)

pub new-for : (table : List (List ℕ × ℕ)) → empty_for (keys_of table) ≡ new_mailbox table
new-for table = ap (λ (lists : Lists). with_lists lists) (lists-for table)
