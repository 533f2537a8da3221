-- One note more.
use Rattle.std.proofs.Common.{◌≡◌, ◌∙◌, ℕ, ◌+◌, ◌≤◌, List, [], ◌∷◌, ◌++◌, length, take, drop, refl, ap, arith, length-append}
use Rattle.std.proofs.lemmas.Grind.{common_steps}
use Rattle.std.proofs.lemmas.List.{take-append-le, drop-append-le, length-drop}
use Rattle.pc_disk.specs.declared.note.Note.{Note}
use Rattle.pc_disk.specs.declared.note.NotedCall.{NotedCall}
use Rattle.pc_disk.specs.declared.note.NotedCall.TheVariants as noted
use Rattle.pc_disk.specs.declared.fate.Fate.{Fate}
use Rattle.pc_disk.specs.declared.fate.Fate.TheVariants as fate
use Rattle.pc_disk.specs.Deeds.{Write, deed_of, pending}
use Rattle.pc_disk.specs.Notes.{call_of, told_one, told, IsWithin, AreWithin, AreNoted}

pub length_told : (pool : List ℕ) (notes : List Note) → length (told pool notes) ≡ length notes
length_told pool [] = refl
length_told pool (note ∷ notes) = omega (arith, length-append (told pool notes) (told_one pool note ∷ []), length_told pool notes)

pub told_push : (pool : List ℕ) (notes : List Note) (note : Note) → told pool (notes ++ note ∷ []) ≡ told_one pool note ∷ told pool notes
told_push pool [] note = refl
told_push pool (first ∷ notes) note = ap (λ deeds. deeds ++ told_one pool first ∷ []) (told_push pool notes note)

pub AreWithin-push : (written : ℕ) (notes : List Note) (note : Note) → AreWithin written notes → IsWithin written note.call → AreWithin written (notes ++ note ∷ [])
AreWithin-push written [] note are is = (is, tt)
AreWithin-push written (first ∷ notes) note are is = (are.0, AreWithin-push written notes note are.1 is)

pub IsWithin-more : (written more : ℕ) (call : NotedCall) → written ≤ more → IsWithin written call → IsWithin more call
IsWithin-more written more (noted.Write area at start count) le is = omega arith
IsWithin-more written more (noted.Cut area to) le is = tt
IsWithin-more written more noted.Sync le is = tt

pub AreWithin-more : (written more : ℕ) (notes : List Note) → written ≤ more → AreWithin written notes → AreWithin more notes
AreWithin-more written more [] le are = tt
AreWithin-more written more (note ∷ notes) le are = (IsWithin-more written more note.call le are.0, AreWithin-more written more notes le are.1)

slice-more : (start count : ℕ) (pool more : List ℕ) → start + count ≤ length pool → take count (drop start (pool ++ more)) ≡ take count (drop start pool)
slice-more start count pool more le =
    let low : start ≤ length pool = omega arith in
    let rest : count ≤ length (drop start pool) = omega (arith, length-drop start pool) in
    ap (take count) (drop-append-le start pool more low) ∙ take-append-le count (drop start pool) more rest

call_of-more : (pool more : List ℕ) (call : NotedCall) → IsWithin (length pool) call → call_of (pool ++ more) call ≡ call_of pool call
call_of-more pool more (noted.Write area at start count) is = ap (Write area at) (slice-more start count pool more is)
call_of-more pool more (noted.Cut area to) is = refl
call_of-more pool more noted.Sync is = refl

pub told_more : (pool more : List ℕ) (notes : List Note) → AreWithin (length pool) notes → told (pool ++ more) notes ≡ told pool notes
told_more pool more [] are = refl
told_more pool more (note ∷ notes) are =
    ap (λ deeds. deeds ++ told_one (pool ++ more) note ∷ []) (told_more pool more notes are.1)
    ∙ ap (λ call. told pool notes ++ deed_of note.fate call ∷ []) (call_of-more pool more note.call are.0)

-- the deeds after one note more
pub told_next : (pool more : List ℕ) (notes : List Note) (note : Note) → AreWithin (length pool) notes
    → told (pool ++ more) (notes ++ note ∷ []) ≡ told_one (pool ++ more) note ∷ told pool notes
told_next pool more notes note are = told_push (pool ++ more) notes note ∙ ap (λ deeds. told_one (pool ++ more) note ∷ deeds) (told_more pool more notes are)

AreNoted-push : (pool more : List ℕ) (notes : List Note) (note : Note) (settled : ℕ) → AreNoted pool notes settled → IsWithin (length (pool ++ more)) note.call
    → pending (told_one (pool ++ more) note ∷ told pool notes) ≡ 1 + pending (told pool notes) → AreNoted (pool ++ more) (notes ++ note ∷ []) settled
AreNoted-push pool more notes note settled are is one =
    let next = told_next pool more notes note are.within in
    record {
      within = AreWithin-push (length (pool ++ more)) notes note (AreWithin-more (length pool) (length (pool ++ more)) notes (omega (arith, length-append pool more)) are.within) is;
      rest = rw next (omega (arith, are.rest, one, length-append notes (note ∷ [])));
    }

AreNoted-stays : (pool : List ℕ) (notes : List Note) (note : Note) (settled : ℕ) → AreNoted pool notes settled → IsWithin (length pool) note.call
    → pending (told_one pool note ∷ told pool notes) ≡ 1 + pending (told pool notes) → AreNoted pool (notes ++ note ∷ []) settled
AreNoted-stays pool notes note settled are is one =
    let next = told_push pool notes note in
    record {
      within = AreWithin-push (length pool) notes note are.within is;
      rest = rw next (omega (arith, are.rest, one, length-append notes (note ∷ [])));
    }

-- a write
AreNoted-write-at : (fate : Fate) (pool bytes : List ℕ) (notes : List Note) (area at settled : ℕ) → AreNoted pool notes settled
    → AreNoted (pool ++ bytes) (notes ++ (record { fate = fate; call = noted.Write area at (length pool) (length bytes) }) ∷ []) settled
AreNoted-write-at fate.Made pool bytes notes area at settled are = AreNoted-push pool bytes notes _ settled are (omega (arith, length-append pool bytes)) refl
AreNoted-write-at fate.Stopped pool bytes notes area at settled are = AreNoted-push pool bytes notes _ settled are (omega (arith, length-append pool bytes)) refl
AreNoted-write-at fate.Failed pool bytes notes area at settled are = AreNoted-push pool bytes notes _ settled are (omega (arith, length-append pool bytes)) refl

pub AreNoted-write : (fate : Fate) (pool new_pool bytes : List ℕ) (notes new_notes : List Note) (area at start settled : ℕ) → AreNoted pool notes settled
    → new_pool ≡ pool ++ bytes → start ≡ length pool → new_notes ≡ notes ++ (record { fate = fate; call = noted.Write area at start (length bytes) }) ∷ []
    → AreNoted new_pool new_notes settled
AreNoted-write fate pool new_pool bytes notes new_notes area at start settled are longer begins more = rw (more, longer, begins) (AreNoted-write-at fate pool bytes notes area at settled are)

slice-last : (pool bytes : List ℕ) → take (length bytes) (drop (length pool) (pool ++ bytes)) ≡ bytes
slice-last pool bytes = grind (arith, common_steps)

pub told_write : (fate : Fate) (pool new_pool bytes : List ℕ) (notes new_notes : List Note) (area at start : ℕ) → AreWithin (length pool) notes
    → new_pool ≡ pool ++ bytes → start ≡ length pool → new_notes ≡ notes ++ (record { fate = fate; call = noted.Write area at start (length bytes) }) ∷ []
    → told new_pool new_notes ≡ deed_of fate (Write area at bytes) ∷ told pool notes
told_write fate pool new_pool bytes notes new_notes area at start are longer begins more =
    rw (more, longer, begins) (told_next pool bytes notes _ are ∙ ap (λ written. deed_of fate (Write area at written) ∷ told pool notes) (slice-last pool bytes))

-- a cut
AreNoted-cut-at : (fate : Fate) (pool : List ℕ) (notes : List Note) (area to settled : ℕ) → AreNoted pool notes settled
    → AreNoted pool (notes ++ (record { fate = fate; call = noted.Cut area to }) ∷ []) settled
AreNoted-cut-at fate.Made pool notes area to settled are = AreNoted-stays pool notes _ settled are tt refl
AreNoted-cut-at fate.Stopped pool notes area to settled are = AreNoted-stays pool notes _ settled are tt refl
AreNoted-cut-at fate.Failed pool notes area to settled are = AreNoted-stays pool notes _ settled are tt refl

pub AreNoted-cut : (fate : Fate) (pool : List ℕ) (notes new_notes : List Note) (area to settled : ℕ) → AreNoted pool notes settled
    → new_notes ≡ notes ++ (record { fate = fate; call = noted.Cut area to }) ∷ [] → AreNoted pool new_notes settled
AreNoted-cut fate pool notes new_notes area to settled are more = rw more (AreNoted-cut-at fate pool notes area to settled are)

-- a sync
pub AreNoted-synced : (met : Fate) (pool : List ℕ) (notes new_notes : List Note) (settled : ℕ) → AreWithin (length pool) notes → met ≡ fate.Made
    → new_notes ≡ notes ++ (record { fate = met; call = noted.Sync }) ∷ [] → settled ≡ length new_notes → AreNoted pool new_notes settled
AreNoted-synced met pool notes new_notes settled are is more all = rw (all, more, is) record {
  within = AreWithin-push (length pool) notes _ are tt;
  rest = rw (told_push pool notes (record { fate = fate.Made; call = noted.Sync })) (omega arith);
}

AreNoted-unsynced-at : (met : Fate) (pool : List ℕ) (notes : List Note) (settled : ℕ) → AreNoted pool notes settled → (met ≡ fate.Made → ⊥)
    → AreNoted pool (notes ++ (record { fate = met; call = noted.Sync }) ∷ []) settled
AreNoted-unsynced-at fate.Made pool notes settled are isnt = absurd (isnt refl)
AreNoted-unsynced-at fate.Stopped pool notes settled are isnt = AreNoted-stays pool notes _ settled are tt refl
AreNoted-unsynced-at fate.Failed pool notes settled are isnt = AreNoted-stays pool notes _ settled are tt refl

pub AreNoted-unsynced : (met : Fate) (pool : List ℕ) (notes new_notes : List Note) (settled : ℕ) → AreNoted pool notes settled → (met ≡ fate.Made → ⊥)
    → new_notes ≡ notes ++ (record { fate = met; call = noted.Sync }) ∷ [] → AreNoted pool new_notes settled
AreNoted-unsynced met pool notes new_notes settled are isnt more = rw more (AreNoted-unsynced-at met pool notes settled are isnt)
