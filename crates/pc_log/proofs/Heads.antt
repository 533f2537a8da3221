-- The head of an area: what is read stands there, and what stands there is read.
use Rattle.std.proofs.Common.{◌≡◌, ℕ, ◌+◌, ◌-◌, ◌^◌, ◌≤◌, max, min, Bool, true, false, cond, leb, List, [], ◌∷◌, ◌++◌, length, take, drop, Result, Ok, Err, refl, sym, ap, subst, ◌∙◌, append_assoc, append-nil, arith}
use Rattle.std.specs.Int.{w8, w32, w64, to_be_bytes}
use Rattle.std.proofs.lemmas.Bool.{leb-true, le-leb, eqb-true}
use Rattle.std.proofs.lemmas.List.{take_at, drop_at, take-append-drop, length-append, length-take, length-drop, drop-drop, nil_from_length}
use Rattle.std.specs.Prelude.{IfOk}
use Rattle.pc_log.specs.declared.head.Numbers.{Numbers}
use Rattle.pc_log.specs.declared.fault.LogFault.{LogFault}
use Rattle.pc_log.specs.Opening.{Parses}
use Rattle.pc_log.specs.Area.{Head, IsHead, head_bytes, is_made, magic}
use Rattle.pc_log.specs.Numbers.{numbers_bytes, AreNumbers, SpellsNumbers}
use Rattle.pc_log.specs.Reading.{◌>>=◌, number_at, bytes_at, numbers_of, head_of}
use Rattle.pc_log.proofs.Fields.{IsBytes, bind_ok, guard_ok, Takes, Takes-then, wide8, wide32, wide64, number_takes, number_again}

pub record TakesNumbers (kind : ℕ) (bytes : List ℕ) (n : Numbers) : Type 0 where
  pub rest : List ℕ
  pub takes : Takes bytes (numbers_bytes kind n) rest
  pub right : AreNumbers kind n

abbrev read : Numbers → Result Numbers ℕ
read n = Ok n

made_is : (m n : Numbers) → read m ≡ read n → m ≡ n
made_is m n e = cc

pub numbers_take : (kind : ℕ) (bytes : List ℕ) (n : Numbers) → IsBytes bytes → numbers_of kind bytes ≡ Ok n → TakesNumbers kind bytes n
unfolding numbers_of
numbers_take kind bytes n fits e =
    let last = λ (generation first size : ℕ × List ℕ). read (record { generation = generation.0; first = first.0; size = size.0 }) in
    let a = bind_ok (number_at w64 1 magic magic bytes) (λ name. number_at w8 9 (max kind 1) (min kind 3) name.1 >>= λ of_kind. number_at w64 10 1 (2 ^ 63 - 1) of_kind.1 >>= λ generation. number_at w64 18 1 (2 ^ 63) generation.1 >>= λ first. number_at w32 26 0 1073741824 first.1 >>= λ size. last generation first size) n e in
    let b = bind_ok (number_at w8 9 (max kind 1) (min kind 3) a.0.1) (λ of_kind. number_at w64 10 1 (2 ^ 63 - 1) of_kind.1 >>= λ generation. number_at w64 18 1 (2 ^ 63) generation.1 >>= λ first. number_at w32 26 0 1073741824 first.1 >>= λ size. last generation first size) n a.2 in
    let c = bind_ok (number_at w64 10 1 (2 ^ 63 - 1) b.0.1) (λ generation. number_at w64 18 1 (2 ^ 63) generation.1 >>= λ first. number_at w32 26 0 1073741824 first.1 >>= λ size. last generation first size) n b.2 in
    let d = bind_ok (number_at w64 18 1 (2 ^ 63) c.0.1) (λ first. number_at w32 26 0 1073741824 first.1 >>= λ size. last c.0 first size) n c.2 in
    let s = bind_ok (number_at w32 26 0 1073741824 d.0.1) (λ size. last c.0 d.0 size) n d.2 in
    let name = number_takes w64 (2 ^ 64) wide64 1 magic magic bytes a.0 fits a.1 in
    let of_kind = number_takes w8 (2 ^ 8) wide8 9 (max kind 1) (min kind 3) a.0.1 b.0 name.takes.rest_fits b.1 in
    let generation = number_takes w64 (2 ^ 64) wide64 10 1 (2 ^ 63 - 1) b.0.1 c.0 of_kind.takes.rest_fits c.1 in
    let first = number_takes w64 (2 ^ 64) wide64 18 1 (2 ^ 63) c.0.1 d.0 generation.takes.rest_fits d.1 in
    let size = number_takes w32 (2 ^ 32) wide32 26 0 1073741824 d.0.1 s.0 first.takes.rest_fits s.1 in
    let is_name : a.0.0 ≡ magic = omega (arith, name.low, name.high) in
    let is_kind : b.0.0 ≡ kind = omega (arith, of_kind.low, of_kind.high) in
    let four = Takes-then c.0.1 (to_be_bytes w64 d.0.0) d.0.1 (to_be_bytes w32 s.0.0) s.0.1 first.takes size.takes in
    let three = Takes-then b.0.1 (to_be_bytes w64 c.0.0) c.0.1 (to_be_bytes w64 d.0.0 ++ to_be_bytes w32 s.0.0) s.0.1 generation.takes four in
    let two = Takes-then a.0.1 (to_be_bytes w8 b.0.0) b.0.1 (to_be_bytes w64 c.0.0 ++ (to_be_bytes w64 d.0.0 ++ to_be_bytes w32 s.0.0)) s.0.1 of_kind.takes three in
    let one = Takes-then bytes (to_be_bytes w64 a.0.0) a.0.1 (to_be_bytes w8 b.0.0 ++ (to_be_bytes w64 c.0.0 ++ (to_be_bytes w64 d.0.0 ++ to_be_bytes w32 s.0.0))) s.0.1 name.takes two in
    let made : Numbers = record { generation = c.0.0; first = d.0.0; size = s.0.0 } in
    let with_name : Takes bytes (to_be_bytes w64 magic ++ (to_be_bytes w8 b.0.0 ++ (to_be_bytes w64 c.0.0 ++ (to_be_bytes w64 d.0.0 ++ to_be_bytes w32 s.0.0)))) s.0.1 =
    subst (λ (k : ℕ). Takes bytes (to_be_bytes w64 k ++ (to_be_bytes w8 b.0.0 ++ (to_be_bytes w64 c.0.0 ++ (to_be_bytes w64 d.0.0 ++ to_be_bytes w32 s.0.0)))) s.0.1) is_name one in
    let with_kind : Takes bytes (numbers_bytes kind made) s.0.1 =
    subst (λ (k : ℕ). Takes bytes (to_be_bytes w64 magic ++ (to_be_bytes w8 k ++ (to_be_bytes w64 c.0.0 ++ (to_be_bytes w64 d.0.0 ++ to_be_bytes w32 s.0.0)))) s.0.1) is_kind with_name in
    let whole : TakesNumbers kind bytes made = record {
      rest = s.0.1;
      takes = with_kind;
      right = record {
        kind_least = omega (arith, of_kind.low, is_kind);
        kind_most = omega (arith, of_kind.high, is_kind);
        generation_least = generation.low;
        generation_most = generation.high;
        first_least = first.low;
        first_most = first.high;
        size_most = size.high;
      };
    } in
    subst (λ (m : Numbers). TakesNumbers kind bytes m) (made_is made n s.2) whole

-- ---- the whole head

-- a made area has its gate in front
pub made_front : (area : List ℕ) → is_made area ≡ true → area ≡ 1 ∷ drop 1 area
made_front [] e = absurd cc
made_front (gate ∷ []) e = absurd cc
made_front (gate ∷ next ∷ rest) e = ap (λ g. g ∷ (next ∷ rest)) (eqb-true gate 1 e)

regroup : (a b c d e base rest : List ℕ) → (a ++ (b ++ (c ++ (d ++ e)))) ++ (base ++ rest) ≡ (a ++ (b ++ (c ++ (d ++ (e ++ base))))) ++ rest
regroup a b c d e base rest = simp append_assoc

pub record TakesHead (kind : ℕ) (area : List ℕ) (head : Head) : Type 0 where
  pub right : IsHead head
  pub bytes : area ≡ 1 ∷ (head_bytes head ++ drop (30 + length head.base) area)

head_laid : (kind : ℕ) (area : List ℕ) (n : Numbers) (rest base : List ℕ) → is_made area ≡ true → take 29 (drop 1 area) ≡ numbers_bytes kind n ++ rest → AreNumbers kind n
    → 30 + n.size ≤ length area → base ≡ take n.size (drop 30 area) → TakesHead kind area (record { kind = kind; generation = n.generation; first = n.first; base = base })
unfolding head_bytes
head_laid kind area n rest base made parts right long is =
    let long' : n.size ≤ length (drop 30 area) = omega (arith, length-drop 30 area) in
    let size : length base ≡ n.size = ap length is ∙ omega (arith, length-take n.size (drop 30 area)) in
    let nothing : rest ≡ [] = nil_from_length rest (omega (arith, ap length parts, length-take 29 (drop 1 area), length-append (numbers_bytes kind n) rest)) in
    let numbers : take 29 (drop 1 area) ≡ numbers_bytes kind n = parts ∙ ap (λ (r : List ℕ). numbers_bytes kind n ++ r) nothing ∙ append-nil (numbers_bytes kind n) in
    let behind : drop 1 area ≡ numbers_bytes kind n ++ drop 30 area = sym (take-append-drop 29 (drop 1 area)) ∙ ap (λ (t : List ℕ). t ++ drop 29 (drop 1 area)) numbers ∙ ap (λ (t : List ℕ). numbers_bytes kind n ++ t) (drop-drop 29 1 area) in
    let based : drop 30 area ≡ base ++ drop (30 + length base) area =
    sym (take-append-drop n.size (drop 30 area)) ∙ ap (λ (t : List ℕ). t ++ drop n.size (drop 30 area)) (sym is) ∙ ap (λ (t : List ℕ). base ++ t) (drop-drop n.size 30 area ∙ ap (λ (k : ℕ). drop (30 + k) area) (sym size)) in
    let sized : Numbers = record { generation = n.generation; first = n.first; size = length base } in
    let renamed : numbers_bytes kind n ≡ numbers_bytes kind sized = ap (λ (k : ℕ). numbers_bytes kind (record { generation = n.generation; first = n.first; size = k })) (sym size) in
    record {
      right = record {
        kind = (right.kind_least, right.kind_most);
        generation = (right.generation_least, omega (arith, right.generation_most));
        first = (right.first_least, right.first_most);
        base = omega (arith, size, right.size_most);
      };
      bytes = made_front area made ∙ ap (λ (t : List ℕ). 1 ∷ t) (behind ∙ ap (λ (t : List ℕ). numbers_bytes kind n ++ t) based ∙ ap (λ (t : List ℕ). t ++ (base ++ drop (30 + length base) area)) renamed
          ∙ regroup (to_be_bytes w64 magic) (to_be_bytes w8 kind) (to_be_bytes w64 n.generation) (to_be_bytes w64 n.first) (to_be_bytes w32 (length base)) base (drop (30 + length base) area));
    }

pub numbers_spelled : (kind : ℕ) (bytes : List ℕ) (r : Result Numbers LogFault) → IsBytes bytes → Parses {X = Numbers} {Y = Numbers} (λ n. n) r (numbers_of kind bytes) → IfOk r (SpellsNumbers kind bytes)
numbers_spelled kind bytes (Ok n) fits e = let t = numbers_take kind bytes n fits e in record { rest = t.rest; parts = t.takes.parts; right = t.right }
numbers_spelled kind bytes (Err fault) fits e = tt

-- what is read of a head stands there
pub head_takes : (kind : ℕ) (area : List ℕ) (n : Numbers) (base : List ℕ) → is_made area ≡ true → SpellsNumbers kind (take 29 (drop 1 area)) n → bytes_at 30 n.size area ≡ Ok base
    → TakesHead kind area (record { kind = kind; generation = n.generation; first = n.first; base = base })
head_takes kind area n base made spelled based =
    let b = guard_ok (leb (30 + n.size) (length area)) 30 (take n.size (drop 30 area)) base based in
    head_laid kind area n spelled.rest base made spelled.parts spelled.right (leb-true _ _ b.0) (sym b.1)

-- ---- what stands there is read

pub bind_is : {A B : Type 0} (r : Result A ℕ) (x : A) (f : A → Result B ℕ) → r ≡ Ok x → (r >>= f) ≡ f x
bind_is r x f e = ap (λ q. q >>= f) e

numbers_again : (kind : ℕ) (n : Numbers) → AreNumbers kind n → numbers_of kind (numbers_bytes kind n) ≡ Ok n
unfolding numbers_of
numbers_again kind n right =
    let last = λ (generation first size : ℕ × List ℕ). read (record { generation = generation.0; first = first.0; size = size.0 }) in
    let e : List ℕ = to_be_bytes w32 n.size in
    let d : List ℕ = to_be_bytes w64 n.first ++ e in
    let c : List ℕ = to_be_bytes w64 n.generation ++ d in
    let b : List ℕ = to_be_bytes w8 kind ++ c in
    bind_is (number_at w64 1 magic magic (to_be_bytes w64 magic ++ b)) (magic, b) (λ name. number_at w8 9 (max kind 1) (min kind 3) name.1 >>= λ of_kind. number_at w64 10 1 (2 ^ 63 - 1) of_kind.1 >>= λ generation. number_at w64 18 1 (2 ^ 63) generation.1 >>= λ first. number_at w32 26 0 1073741824 first.1 >>= λ size. last generation first size)
    (number_again w64 (2 ^ 64) wide64 1 magic magic magic b (omega arith) (omega arith) (omega arith))
    ∙ bind_is (number_at w8 9 (max kind 1) (min kind 3) b) (kind, c) (λ of_kind. number_at w64 10 1 (2 ^ 63 - 1) of_kind.1 >>= λ generation. number_at w64 18 1 (2 ^ 63) generation.1 >>= λ first. number_at w32 26 0 1073741824 first.1 >>= λ size. last generation first size)
    (number_again w8 (2 ^ 8) wide8 9 (max kind 1) (min kind 3) kind c (omega (arith, right.kind_most)) (omega (arith, right.kind_least)) (omega (arith, right.kind_most)))
    ∙ bind_is (number_at w64 10 1 (2 ^ 63 - 1) c) (n.generation, d) (λ generation. number_at w64 18 1 (2 ^ 63) generation.1 >>= λ first. number_at w32 26 0 1073741824 first.1 >>= λ size. last generation first size)
    (number_again w64 (2 ^ 64) wide64 10 1 (2 ^ 63 - 1) n.generation d (omega (arith, right.generation_most)) right.generation_least right.generation_most)
    ∙ bind_is (number_at w64 18 1 (2 ^ 63) d) (n.first, e) (λ first. number_at w32 26 0 1073741824 first.1 >>= λ size. last (n.generation, d) first size)
    (number_again w64 (2 ^ 64) wide64 18 1 (2 ^ 63) n.first e (omega (arith, right.first_most)) right.first_least right.first_most)
    ∙ bind_is (number_at w32 26 0 1073741824 e) (n.size, []) (λ size. last (n.generation, d) (n.first, e) size)
    (number_again w32 (2 ^ 32) wide32 26 0 1073741824 n.size [] (omega (arith, right.size_most)) (omega arith) right.size_most)

base_is : (b : Bool) (x y : List ℕ) → b ≡ true → x ≡ y → (let r : Result (List ℕ) ℕ = cond b (Ok x) (Err 30) in r) ≡ Ok y
base_is true x y e same = ap (λ (t : List ℕ). let r : Result (List ℕ) ℕ = Ok t in r) same
base_is false x y e same = absurd cc

-- the head that an area begins with is read
pub head_again : (head : Head) (rest : List ℕ) → IsHead head → head_of head.kind (1 ∷ (head_bytes head ++ rest)) ≡ Ok head
unfolding head_of head_bytes
head_again head rest right =
    let n : Numbers = record { generation = head.generation; first = head.first; size = length head.base } in
    let whole : List ℕ = numbers_bytes head.kind n ++ (head.base ++ rest) in
    let area : List ℕ = 1 ∷ whole in
    let laid : head_bytes head ++ rest ≡ whole = sym (regroup (to_be_bytes w64 magic) (to_be_bytes w8 head.kind) (to_be_bytes w64 head.generation) (to_be_bytes w64 head.first) (to_be_bytes w32 (length head.base)) head.base rest) in
    let are : AreNumbers head.kind n = record {
      kind_least = right.kind.0;
      kind_most = right.kind.1;
      generation_least = right.generation.0;
      generation_most = omega (arith, right.generation.1);
      first_least = right.first.0;
      first_most = right.first.1;
      size_most = right.base;
    } in
    let front : take 29 whole ≡ numbers_bytes head.kind n = take_at (numbers_bytes head.kind n) (head.base ++ rest) 29 refl in
    let numbers : numbers_of head.kind (take 29 whole) ≡ Ok n = ap (numbers_of head.kind) front ∙ numbers_again head.kind n are in
    let behind : drop 29 whole ≡ head.base ++ rest = drop_at (numbers_bytes head.kind n) (head.base ++ rest) 29 refl in
    let base : take (length head.base) (drop 29 whole) ≡ head.base = ap (take (length head.base)) behind ∙ take_at head.base rest (length head.base) refl in
    let long : leb (30 + length head.base) (length area) ≡ true = le-leb _ _ (omega (arith, length-append (numbers_bytes head.kind n) (head.base ++ rest), length-append head.base rest)) in
    let based : bytes_at 30 (length head.base) area ≡ Ok head.base = base_is (leb (30 + length head.base) (length area)) (take (length head.base) (drop 29 whole)) head.base long base in
    let made = λ (n : Numbers) (base : List ℕ). let r : Result Head ℕ = Ok (record { kind = head.kind; generation = n.generation; first = n.first; base = base }) in r in
    ap (λ (t : List ℕ). head_of head.kind (1 ∷ t)) laid
    ∙ bind_is (numbers_of head.kind (take 29 whole)) n (λ m. bytes_at 30 m.size area >>= λ base. made m base) numbers
    ∙ bind_is (bytes_at 30 (length head.base) area) head.base (λ base. made n base) based
