-- An entry behind its gate: what is read stands there, and what stands there is read.
use Rattle.std.proofs.Common.{◌≡◌, ℕ, suc, ◌+◌, ◌^◌, ◌≤◌, Bool, true, false, cond, leb, eqb, List, [], ◌∷◌, ◌++◌, length, take, drop, Option, None, Some, Result, Ok, Err, refl, sym, ap, ◌∙◌, append_assoc, append-nil, arith}
use Rattle.std.specs.Int.{w32, to_be_bytes}
use Rattle.std.proofs.lemmas.Bool.{leb-true, le-leb, eqb-true, eqb-false, ne_eqb}
use Rattle.std.proofs.lemmas.List.{take_at, take-append-drop, length-append, length-take, length-drop, drop-drop, nil_from_length}
use Rattle.pc_log.specs.Area.{IsEntry, SpellsSize, entry_bytes}
use Rattle.std.specs.Prelude.{IfOk, IfSome}
use Rattle.pc_log.specs.declared.fault.LogFault.{LogFault}
use Rattle.pc_log.specs.Opening.{Parses}
use Rattle.pc_log.specs.Reading.{◌>>=◌, number_at, bytes_at, Reached, has_room, size_of, opened, entry_at, next_of}
use Rattle.pc_log.proofs.Fields.{IsBytes, bind_ok, guard_ok, wide32, number_takes, number_again}
use Rattle.pc_log.proofs.Heads.{bind_is}

pub length-entry_bytes : (entry : List ℕ) → length (entry_bytes entry) ≡ 5 + length entry
unfolding entry_bytes
length-entry_bytes entry = omega arith

abbrev pub sized : ℕ → Result (Option ℕ) ℕ
sized size = Ok (Some size)

pub guard_sized : (b : Bool) (r : Result ℕ ℕ) (size : ℕ) → cond b (r >>= λ n. sized n) (Ok None) ≡ sized size → (b ≡ true) × (r ≡ Ok size)
guard_sized true (Ok n) size e = (refl, cc)
guard_sized true (Err p) size e = absurd cc
guard_sized false r size e = absurd cc

guard_closed : (b : Bool) (r : Result ℕ ℕ) → cond b (r >>= λ n. sized n) (Ok None) ≡ Ok None → b ≡ false
guard_closed true (Ok n) e = absurd cc
guard_closed true (Err p) e = absurd cc
guard_closed false r e = refl

-- an open gate and a length that were read stand there
size_takes : (reached : Reached) (bytes : List ℕ) (size : ℕ) → IsBytes bytes → opened reached bytes ≡ Ok (Some size) → SpellsSize bytes size
unfolding size_of
size_takes reached [] size fits e = absurd cc
size_takes reached (gate ∷ bytes) size fits e =
    let a = guard_sized (eqb gate 1) (size_of reached bytes) size e in
    let b = bind_ok (number_at w32 (reached.gate + 1) 1 8388608 bytes) (λ n. cond (has_room reached n.0) (Ok n.0) (Err reached.gate)) size a.1 in
    let c = guard_ok (has_room reached b.0.0) reached.gate b.0.0 size b.2 in
    let n = number_takes w32 (2 ^ 32) wide32 (reached.gate + 1) 1 8388608 bytes b.0 (λ i. fits (suc i)) b.1 in
    let front : bytes ≡ to_be_bytes w32 size ++ b.0.1 = n.takes.parts ∙ ap (λ (k : ℕ). to_be_bytes w32 k ++ b.0.1) c.1 in
    record { rest = b.0.1; parts = ap (λ (t : List ℕ). gate ∷ t) front ∙ ap (λ (g : ℕ). g ∷ (to_be_bytes w32 size ++ b.0.1)) (eqb-true gate 1 a.0) }

pub size_spelled : (reached : Reached) (bytes : List ℕ) (r : Result (Option ℕ) LogFault) → IsBytes bytes → Parses {X = Option ℕ} {Y = Option ℕ} (λ size. size) r (opened reached bytes) → IfOk r (λ size. IfSome size (λ size. SpellsSize bytes size))
size_spelled reached bytes (Ok None) fits e = tt
size_spelled reached bytes (Ok (Some size)) fits e = size_takes reached bytes size fits e
size_spelled reached bytes (Err fault) fits e = tt

-- the gate and the length were read, and the bytes go on
front_parts : (bytes : List ℕ) (size : ℕ) → SpellsSize (take 5 bytes) size → bytes ≡ 1 ∷ (to_be_bytes w32 size ++ drop 5 bytes)
front_parts bytes size spelled =
    let nothing : spelled.rest ≡ [] = nil_from_length spelled.rest (omega (arith, ap length spelled.parts, length-take 5 bytes, length-append (to_be_bytes w32 size) spelled.rest)) in
    let front : take 5 bytes ≡ 1 ∷ to_be_bytes w32 size = spelled.parts ∙ ap (λ (t : List ℕ). 1 ∷ (to_be_bytes w32 size ++ t)) nothing ∙ ap (λ (t : List ℕ). 1 ∷ t) (append-nil (to_be_bytes w32 size)) in
    sym (take-append-drop 5 bytes) ∙ ap (λ (t : List ℕ). t ++ drop 5 bytes) front

regroup : (size entry rest : List ℕ) → 1 ∷ (size ++ (entry ++ rest)) ≡ (1 ∷ (size ++ entry)) ++ rest
regroup size entry rest = ap (λ (t : List ℕ). 1 ∷ t) (sym (append_assoc size entry rest))

-- an entry that was read stands at its gate
pub entry_takes : (reached : Reached) (area : List ℕ) (size : ℕ) (entry : List ℕ) → SpellsSize (take 5 (drop reached.gate area)) size → bytes_at (reached.gate + 5) size area ≡ Ok entry → drop reached.gate area ≡ entry_bytes entry ++ drop (reached.gate + 5 + length entry) area
unfolding entry_bytes
entry_takes reached area size entry spelled based =
    let b = guard_ok (leb (reached.gate + 5 + size) (length area)) (reached.gate + 5) (take size (drop (reached.gate + 5) area)) entry based in
    let long : reached.gate + 5 + size ≤ length area = leb-true _ _ b.0 in
    let count : length entry ≡ size = ap length (sym b.1) ∙ omega (arith, length-take size (drop (reached.gate + 5) area), length-drop (reached.gate + 5) area) in
    let behind : drop 5 (drop reached.gate area) ≡ entry ++ drop (reached.gate + 5 + length entry) area =
    drop-drop 5 reached.gate area ∙ sym (take-append-drop size (drop (reached.gate + 5) area)) ∙ ap (λ (t : List ℕ). t ++ drop size (drop (reached.gate + 5) area)) b.1
    ∙ ap (λ (t : List ℕ). entry ++ t) (drop-drop size (reached.gate + 5) area ∙ ap (λ (k : ℕ). drop (reached.gate + 5 + k) area) (sym count)) in
    front_parts (drop reached.gate area) size spelled ∙ ap (λ (t : List ℕ). 1 ∷ (to_be_bytes w32 size ++ t)) behind ∙ ap (λ (k : ℕ). 1 ∷ (to_be_bytes w32 k ++ (entry ++ drop (reached.gate + 5 + length entry) area))) (sym count)
    ∙ regroup (to_be_bytes w32 (length entry)) entry (drop (reached.gate + 5 + length entry) area)

-- a closed gate that was read stands there
pub record TakesClosed (bytes : List ℕ) : Type 0 where
  pub gate : ℕ
  pub rest : List ℕ
  pub bytes_are : bytes ≡ gate ∷ rest
  pub closed : gate ≡ 1 → ⊥

opened_closed : (reached : Reached) (bytes : List ℕ) → opened reached (take 5 bytes) ≡ Ok None → TakesClosed bytes
opened_closed reached [] e = absurd cc
opened_closed reached (gate ∷ bytes) e = record { gate = gate; rest = bytes; bytes_are = refl; closed = eqb-false gate 1 (guard_closed (eqb gate 1) (size_of reached (take 4 bytes)) e) }

abbrev nothing_next : Result (Option (List ℕ)) ℕ
nothing_next = Ok None

not_some : (r : Result (List ℕ) ℕ) → (r >>= λ entry. (let x : Result (Option (List ℕ)) ℕ = Ok (Some entry) in x)) ≡ nothing_next → ⊥
not_some (Ok entry) e = cc
not_some (Err p) e = cc

closed_at : (reached : Reached) (area : List ℕ) (size : Option ℕ) → opened reached (take 5 (drop reached.gate area)) ≡ Ok size → entry_at reached size area ≡ Ok None → TakesClosed (drop reached.gate area)
closed_at reached area None open_at e = opened_closed reached (drop reached.gate area) open_at
closed_at reached area (Some size) open_at e = absurd (not_some (bytes_at (reached.gate + 5) size area) e)

pub closed_takes : (reached : Reached) (area : List ℕ) → next_of reached area ≡ Ok None → TakesClosed (drop reached.gate area)
unfolding next_of
closed_takes reached area e =
    let a = bind_ok (opened reached (take 5 (drop reached.gate area))) (λ size. entry_at reached size area) None e in
    closed_at reached area a.0 a.1 a.2

-- ---- what stands there is read

cond_is : {A : Type 0} (b : Bool) (x y : A) → b ≡ true → cond b x y ≡ x
cond_is true x y e = refl
cond_is false x y e = absurd cc

cond_not : {A : Type 0} (b : Bool) (x y : A) → b ≡ false → cond b x y ≡ y
cond_not true x y e = absurd cc
cond_not false x y e = refl

size_again : (reached : Reached) (size : ℕ) (rest : List ℕ) → 1 ≤ size → size ≤ 8388608 → has_room reached size ≡ true → opened reached (take 5 (1 ∷ (to_be_bytes w32 size ++ rest))) ≡ Ok (Some size)
unfolding size_of
size_again reached size rest least most room =
    let front : take 4 (to_be_bytes w32 size ++ rest) ≡ to_be_bytes w32 size ++ [] = take_at (to_be_bytes w32 size) rest 4 refl ∙ sym (append-nil (to_be_bytes w32 size)) in
    let number : number_at w32 (reached.gate + 1) 1 8388608 (take 4 (to_be_bytes w32 size ++ rest)) ≡ Ok (size, []) =
    ap (number_at w32 (reached.gate + 1) 1 8388608) front ∙ number_again w32 (2 ^ 32) wide32 (reached.gate + 1) 1 8388608 size [] (omega arith) least most in
    let inner : size_of reached (take 4 (to_be_bytes w32 size ++ rest)) ≡ Ok size =
    bind_is (number_at w32 (reached.gate + 1) 1 8388608 (take 4 (to_be_bytes w32 size ++ rest))) (size, []) (λ n. cond (has_room reached n.0) (Ok n.0) (Err reached.gate)) number
    ∙ cond_is (has_room reached size) (Ok size) (Err reached.gate) room in
    bind_is (size_of reached (take 4 (to_be_bytes w32 size ++ rest))) size (λ n. sized n) inner

-- an entry that stands at a gate is read
pub entry_again : (reached : Reached) (area entry rest : List ℕ) → drop reached.gate area ≡ entry_bytes entry ++ rest → IsEntry entry → has_room reached (length entry) ≡ true → next_of reached area ≡ Ok (Some entry)
unfolding next_of entry_bytes
entry_again reached area entry rest parts fits room =
    let size : ℕ = length entry in
    let laid : drop reached.gate area ≡ 1 ∷ (to_be_bytes w32 size ++ (entry ++ rest)) = parts ∙ sym (regroup (to_be_bytes w32 size) entry rest) in
    let open_at : opened reached (take 5 (drop reached.gate area)) ≡ Ok (Some size) = ap (λ (t : List ℕ). opened reached (take 5 t)) laid ∙ size_again reached size (entry ++ rest) fits.0 fits.1 room in
    let count : length (drop reached.gate area) ≡ 5 + size + length rest = ap length laid ∙ omega (arith, length-append entry rest) in
    let long : leb (reached.gate + 5 + size) (length area) ≡ true = le-leb _ _ (omega (arith, count, length-drop reached.gate area)) in
    let behind : drop (reached.gate + 5) area ≡ entry ++ rest = sym (drop-drop 5 reached.gate area) ∙ ap (drop 5) laid in
    let taken : take size (drop (reached.gate + 5) area) ≡ entry = ap (take size) behind ∙ take_at entry rest size refl in
    let based : bytes_at (reached.gate + 5) size area ≡ Ok entry = cond_is (leb (reached.gate + 5 + size) (length area)) (Ok (take size (drop (reached.gate + 5) area))) (Err (reached.gate + 5)) long ∙ ap (λ (t : List ℕ). let r : Result (List ℕ) ℕ = Ok t in r) taken in
    bind_is (opened reached (take 5 (drop reached.gate area))) (Some size) (λ s. entry_at reached s area) open_at
    ∙ bind_is (bytes_at (reached.gate + 5) size area) entry (λ e. let r : Result (Option (List ℕ)) ℕ = Ok (Some e) in r) based

-- a closed gate is read
pub closed_again : (reached : Reached) (area : List ℕ) (gate : ℕ) (rest : List ℕ) → drop reached.gate area ≡ gate ∷ rest → (gate ≡ 1 → ⊥) → next_of reached area ≡ Ok None
unfolding next_of
closed_again reached area gate rest parts closed =
    let shut : opened reached (take 5 (gate ∷ rest)) ≡ Ok None = cond_not (eqb gate 1) (size_of reached (take 4 rest) >>= λ n. sized n) (Ok None) (ne_eqb gate 1 closed) in
    let open_at : opened reached (take 5 (drop reached.gate area)) ≡ Ok None = ap (λ (t : List ℕ). opened reached (take 5 t)) parts ∙ shut in
    bind_is (opened reached (take 5 (drop reached.gate area))) None (λ s. entry_at reached s area) open_at
