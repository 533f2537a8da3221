-- What the first bytes of an area tell.
use Rattle.std.proofs.Common.{◌≡◌, ℕ, ◌+◌, min, true, List, [], ◌∷◌, ◌++◌, length, take, drop, Option, None, Some, Result, Ok, Err, refl, sym, ap, ◌∙◌, append-nil, arith}
use Rattle.std.proofs.lemmas.List.{take_min}
use Rattle.pc_log.specs.declared.head.Numbers.{Numbers}
use Rattle.pc_log.specs.declared.fault.LogFault.{LogFault}
use Rattle.pc_log.specs.declared.fault.LogFault.TheVariants.{Device, Malformed, Memory}
use Rattle.pc_log.specs.Area.{Head, IsHead, head_bytes, is_made}
use Rattle.pc_log.specs.Numbers.{AreNumbers, SpellsNumbers}
use Rattle.pc_log.specs.Reading.{◌>>=◌, bytes_at, numbers_of, head_of, Reached, opened, entry_at, next_of}
use Rattle.pc_log.specs.Opening.{BeginsWith, Parses, Peeks, Gives, Starts, bytes_of_next}
use Rattle.pc_log.proofs.Heads.{bind_is, head_takes}

-- what a read gave is what stands there, as far as there is room for it
pub given : (bytes buffer : List ℕ) (count room : ℕ) → length buffer ≡ room → (count ≡ min (length bytes) (length buffer)) × (take count buffer ≡ take count bytes) → take count buffer ≡ take room bytes
given bytes buffer count room long e =
    let least : count ≡ min room (length bytes) = omega (arith, e.0, long) in
    e.1 ∙ ap (λ (k : ℕ). take k bytes) least ∙ take_min room bytes

made_is : (area : List ℕ) → is_made (take 30 area) ≡ is_made area
made_is [] = refl
made_is (gate ∷ []) = refl
made_is (gate ∷ next ∷ rest) = refl

behind_is : (area : List ℕ) → drop 1 (take 30 area) ≡ take 29 (drop 1 area)
behind_is [] = refl
behind_is (gate ∷ rest) = refl

-- the first bytes of an area, as they were read
pub record IsFront (area front : List ℕ) : Type 0 where
  pub made : is_made front ≡ is_made area
  pub behind : drop 1 front ≡ take 29 (drop 1 area)

pub front_read : (area buffer : List ℕ) (count : ℕ) → length buffer ≡ 30 → (count ≡ min (length area) (length buffer)) × (take count buffer ≡ take count area) → IsFront area (take count buffer)
front_read area buffer count long e =
    let same = given area buffer count 30 long e in
    record { made = ap is_made same ∙ made_is area; behind = ap (drop 1) same ∙ behind_is area }

-- the numbers behind the gate, as they were read
pub record AreRead (area rest : List ℕ) : Type 0 where
  pub made : is_made area ≡ true
  pub behind : rest ≡ take 29 (drop 1 area)

pub are_read : (area front rest : List ℕ) → IsFront area front → (is_made front ≡ true) × (rest ≡ drop 1 front) → AreRead area rest
are_read area front rest is e = record { made = sym is.made ∙ e.0; behind = e.1 ∙ is.behind }

pub peeks_fault : (fault : LogFault) (kind : ℕ) (area rest : List ℕ) → AreRead area rest → Parses {X = Numbers} {Y = Numbers} (λ n. n) (Err fault) (numbers_of kind rest) → Peeks (Err fault) kind area
peeks_fault Device kind area rest are e = absurd e
peeks_fault (Malformed place) kind area rest are e = (are.made, ap (numbers_of kind) (sym are.behind) ∙ e)
peeks_fault Memory kind area rest are e = absurd e

pub peeks : (kind : ℕ) (area rest : List ℕ) (n : Numbers) → AreRead area rest → numbers_of kind rest ≡ Ok n → Peeks (Ok (Some n)) kind area
peeks kind area rest n are e = (are.made, ap (numbers_of kind) (sym are.behind) ∙ e)

abbrev made_of : ℕ → Numbers → List ℕ → Result Head ℕ
made_of kind n base = Ok (record { kind = kind; generation = n.generation; first = n.first; base = base })

pub numbers_fault : (fault : LogFault) (kind : ℕ) (area : List ℕ) → Peeks (Err fault) kind area → Starts (Err fault) kind area
unfolding head_of
numbers_fault Device kind area peeked = tt
numbers_fault (Malformed place) kind area peeked = (peeked.0, ap (λ (r : Result Numbers ℕ). r >>= λ n. bytes_at 30 n.size area >>= λ base. made_of kind n base) peeked.1)
numbers_fault Memory kind area peeked = absurd peeked

pub base_fault : (fault : LogFault) (kind : ℕ) (area : List ℕ) (n : Numbers) → Peeks (Ok (Some n)) kind area → Gives {X = List ℕ} {Y = List ℕ} (λ bytes. bytes) (Err fault) (bytes_at 30 n.size area) → Starts (Err fault) kind area
unfolding head_of
base_fault Device kind area n peeked e = tt
base_fault (Malformed place) kind area n peeked e = (
  peeked.0,
  bind_is (numbers_of kind (take 29 (drop 1 area))) n (λ n. bytes_at 30 n.size area >>= λ base. made_of kind n base) peeked.1
      ∙ ap (λ (r : Result (List ℕ) ℕ). r >>= λ base. made_of kind n base) e,
)
base_fault Memory kind area n peeked e = tt

pub head_read : (kind : ℕ) (area : List ℕ) (n : Numbers) (base : List ℕ) → Peeks (Ok (Some n)) kind area → bytes_at 30 n.size area ≡ Ok base
    → (is_made area ≡ true) × (head_of kind area ≡ Ok (record { kind = kind; generation = n.generation; first = n.first; base = base }))
unfolding head_of
head_read kind area n base peeked based = (
  peeked.0,
  bind_is (numbers_of kind (take 29 (drop 1 area))) n (λ n. bytes_at 30 n.size area >>= λ base. made_of kind n base) peeked.1
      ∙ bind_is (bytes_at 30 n.size area) base (λ base. made_of kind n base) based,
)

-- the numbers that were read are such as a head may have
pub head_right : (kind : ℕ) (n : Numbers) (base : List ℕ) → AreNumbers kind n → length base ≡ n.size → IsHead (record { kind = kind; generation = n.generation; first = n.first; base = base })
head_right kind n base right size = record {
  kind = (right.kind_least, right.kind_most);
  generation = (right.generation_least, omega (arith, right.generation_most));
  first = (right.first_least, right.first_most);
  base = omega (arith, size, right.size_most);
}

pub begins : (kind : ℕ) (area : List ℕ) (n : Numbers) (base : List ℕ) → is_made area ≡ true → SpellsNumbers kind (take 29 (drop 1 area)) n → bytes_at 30 n.size area ≡ Ok base
    → BeginsWith (record { kind = kind; generation = n.generation; first = n.first; base = base }) area
begins kind area n base made spelled based =
    let t = head_takes kind area n base made spelled based in
    let head : Head = record { kind = kind; generation = n.generation; first = n.first; base = base } in
    record { right = t.right; bytes = t.bytes ∙ ap (λ (xs : List ℕ). 1 ∷ (xs ++ drop (30 + length base) area)) (sym (append-nil (head_bytes head))) }

-- ---- the next entry

pub gate_fault : (fault : LogFault) (reached : Reached) (area bytes : List ℕ) → bytes ≡ take 5 (drop reached.gate area) → Parses {X = Option ℕ} {Y = Option ℕ} (λ size. size) (Err fault) (opened reached bytes) → Gives bytes_of_next (Err fault) (next_of reached area)
unfolding next_of
gate_fault Device reached area bytes is e = tt
gate_fault (Malformed place) reached area bytes is e = ap (λ (r : Result (Option ℕ) ℕ). r >>= λ size. entry_at reached size area) (ap (opened reached) (sym is) ∙ e)
gate_fault Memory reached area bytes is e = tt

pub closed_read : (reached : Reached) (area bytes : List ℕ) → bytes ≡ take 5 (drop reached.gate area) → opened reached bytes ≡ Ok None → next_of reached area ≡ Ok None
unfolding next_of
closed_read reached area bytes is e = bind_is (opened reached (take 5 (drop reached.gate area))) None (λ size. entry_at reached size area) (ap (opened reached) (sym is) ∙ e)

abbrev next_is : List ℕ → Result (Option (List ℕ)) ℕ
next_is entry = Ok (Some entry)

pub entry_fault : (fault : LogFault) (reached : Reached) (area bytes : List ℕ) (size : ℕ) → bytes ≡ take 5 (drop reached.gate area) → opened reached bytes ≡ Ok (Some size)
    → Gives {X = List ℕ} {Y = List ℕ} (λ bytes. bytes) (Err fault) (bytes_at (reached.gate + 5) size area) → Gives bytes_of_next (Err fault) (next_of reached area)
unfolding next_of
entry_fault Device reached area bytes size is e based = tt
entry_fault (Malformed place) reached area bytes size is e based =
    bind_is (opened reached (take 5 (drop reached.gate area))) (Some size) (λ size. entry_at reached size area) (ap (opened reached) (sym is) ∙ e) ∙ ap (λ (r : Result (List ℕ) ℕ). r >>= λ entry. next_is entry) based
entry_fault Memory reached area bytes size is e based = tt

pub entry_read : (reached : Reached) (area bytes : List ℕ) (size : ℕ) (entry : List ℕ) → bytes ≡ take 5 (drop reached.gate area) → opened reached bytes ≡ Ok (Some size) → bytes_at (reached.gate + 5) size area ≡ Ok entry → next_of reached area ≡ Ok (Some entry)
unfolding next_of
entry_read reached area bytes size entry is e based =
    bind_is (opened reached (take 5 (drop reached.gate area))) (Some size) (λ size. entry_at reached size area) (ap (opened reached) (sym is) ∙ e) ∙ bind_is (bytes_at (reached.gate + 5) size area) entry (λ entry. next_is entry) based
