-- Letters that are put into their mailboxes one after the other.
use Rattle.std.proofs.Common.{◌≡◌, ℕ, zero, suc, ◌+◌, ◌<◌, List, [], ◌∷◌, length, drop, get_or, IfSome, refl, sym, ap, ◌∙◌, subst, arith}
use Rattle.std.specs.Map.{lookup}
use Rattle.pc_tables.specs.Table.{same}
use Rattle.pc_account_holdings.specs.Mailboxes.{Table, HasRoom, changed_at, added, delivered, AreRoomFor}

abbrev pub Letter : Type 0
Letter = List ℕ × List (List ℕ)

pub drop-none : (letters : List Letter) → drop 0 letters ≡ letters
drop-none [] = refl
drop-none (letter ∷ letters) = refl

drop-next : (letters : List Letter) (place : ℕ) (d : Letter) → place < length letters → drop place letters ≡ get_or letters place d ∷ drop (place + 1) letters
drop-next [] place d lt = absurd (omega (arith, lt))
drop-next (letter ∷ letters) zero d lt = ap (λ (rest : List Letter). letter ∷ rest) (sym (drop-none letters))
drop-next (letter ∷ letters) (suc place) d lt = let one : suc place + 1 ≡ suc (place + 1) = omega arith in rw one (drop-next letters place d (omega (arith, lt)))

pub drop-all : (letters : List Letter) → drop (length letters) letters ≡ []
drop-all [] = refl
drop-all (letter ∷ letters) = drop-all letters

module _ (number : ℕ) (letters : List Letter) (place : ℕ) (letter : Letter) (table : Table) (lt : place < length letters) (here : letter ≡ get_or letters place letter) where
  splits : drop place letters ≡ letter ∷ drop (place + 1) letters
  splits = drop-next letters place letter lt ∙ ap (λ (first : Letter). first ∷ drop (place + 1) letters) (sym here)

  pub room-here : AreRoomFor number (drop place letters) table → IfSome (lookup (same letter.0) table) HasRoom
  room-here room = (subst (λ (rest : List Letter). AreRoomFor number rest table) splits room).0

  module _ (table' : Table) (put : table' ≡ changed_at letter.0 (added number 0 letter.1) table) where
    pub room-next : AreRoomFor number (drop place letters) table → AreRoomFor number (drop (place + 1) letters) table'
    room-next room = subst (AreRoomFor number (drop (place + 1) letters)) (sym put) (subst (λ (rest : List Letter). AreRoomFor number rest table) splits room).1

    pub delivered-next : delivered number (drop (place + 1) letters) table' ≡ delivered number (drop place letters) table
    delivered-next = ap (delivered number (drop (place + 1) letters)) put ∙ sym (ap (λ (rest : List Letter). delivered number rest table) splits)
