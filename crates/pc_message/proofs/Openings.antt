-- The last `<` of an item, one byte on.
use Rattle.std.proofs.Common.{◌≡◌, ◌==◌, ◌<◌, ◌≤◌, ◌+◌, ℕ, Bool, true, false, not, ◌&&◌, cond, List, length, get_or, drop, Option, Some, None, IfSome, refl, sym, ap, ◌∙◌, arith}
use Rattle.std.proofs.lemmas.List.{at_drop_more, at_drop_all}
use Rattle.std.specs.Option.{option_map, option_or}
use Rattle.pc_message.specs.Recipients.{after_opening, quoted_after}

-- the last `<` outside quotes is among the bytes from a place on, or the one found before it
pub record IsLast (item : List ℕ) (place : ℕ) (quoted : Bool) (start : Option ℕ) : Type 0 where
  pub bound : IfSome start (λ end. end ≤ length item)
  pub rest : after_opening false item ≡ option_or (after_opening quoted (drop place item)) (option_map (λ end. drop end item) start)

option_or-none : (o : Option (List ℕ)) → option_or o None ≡ o
option_or-none None = refl
option_or-none (Some x) = refl

option_or-assoc : (a b o : Option (List ℕ)) → option_or (option_or a b) o ≡ option_or a (option_or b o)
option_or-assoc None b o = refl
option_or-assoc (Some x) b o = refl

after_opening-drop : (quoted : Bool) (item : List ℕ) (place byte : ℕ) → place < length item → byte ≡ get_or item place 0 → after_opening quoted (drop place item) ≡ option_or (after_opening (quoted_after quoted byte) (drop (place + 1) item)) (cond (byte == 60 && not quoted) (Some (drop (place + 1) item)) None)
unfolding after_opening
after_opening-drop quoted item place byte within read = rw read (at_drop_more (after_opening quoted) item place 0 within)

pub IsLast-none : (item : List ℕ) → IsLast item 0 false None
IsLast-none item = record { bound = tt; rest = sym (option_or-none (after_opening false item)) }

pub IsLast-hit : (item : List ℕ) (place byte : ℕ) (quoted : Bool) (start : Option ℕ) → place < length item → byte ≡ get_or item place 0 → (byte == 60 && not quoted) ≡ true → IsLast item place quoted start → IsLast item (place + 1) (quoted_after quoted byte) (Some (place + 1))
IsLast-hit item place byte quoted start within read hit last =
    let rest = drop (place + 1) item in
    let later = after_opening (quoted_after quoted byte) rest in
    let found = option_map (λ end. drop end item) start in
    let next : after_opening quoted (drop place item) ≡ option_or later (Some rest) = after_opening-drop quoted item place byte within read ∙ ap (λ here. option_or later (cond here (Some rest) None)) hit in
    record { bound = omega arith; rest = last.rest ∙ ap (λ o. option_or o found) next ∙ option_or-assoc later (Some rest) found }

pub IsLast-miss : (item : List ℕ) (place byte : ℕ) (quoted : Bool) (start : Option ℕ) → place < length item → byte ≡ get_or item place 0 → (byte == 60 && not quoted) ≡ false → IsLast item place quoted start → IsLast item (place + 1) (quoted_after quoted byte) start
IsLast-miss item place byte quoted start within read miss last =
    let rest = drop (place + 1) item in
    let later = after_opening (quoted_after quoted byte) rest in
    let found = option_map (λ end. drop end item) start in
    let next : after_opening quoted (drop place item) ≡ option_or later None = after_opening-drop quoted item place byte within read ∙ ap (λ here. option_or later (cond here (Some rest) None)) miss in
    record { bound = last.bound; rest = last.rest ∙ ap (λ o. option_or o found) next ∙ option_or-assoc later None found }

pub IsLast-end : (item : List ℕ) (place : ℕ) (quoted : Bool) (start : Option ℕ) → length item ≤ place → IsLast item place quoted start → option_map (λ end. drop end item) start ≡ after_opening false item
unfolding after_opening
IsLast-end item place quoted start all last =
    sym (last.rest ∙ ap (λ o. option_or o (option_map (λ end. drop end item) start)) (at_drop_all (after_opening quoted) item place all))
