-- Deeds done one after the other, the oldest first.
use Rattle.std.proofs.Common.{zero, ◌<◌, take, get_or, ◌≡◌, ◌∙◌, ℕ, suc, ◌+◌, ◌≤◌, List, [], ◌∷◌, ◌++◌, length, drop, refl, ap, sym, subst, arith, append_assoc, append-nil}
use Rattle.pc_disk.specs.declared.note.Note.{Note}
use Rattle.pc_disk.specs.declared.choice.Choice.{Choice}
use Rattle.pc_disk.specs.declared.choice.Choice.TheVariants.{Keep, Lose, Fill}
use Rattle.pc_disk.specs.declared.fate.Fate.{Fate}
use Rattle.pc_disk.specs.declared.fate.Fate.TheVariants as fate
use Rattle.std.proofs.lemmas.List.{take_more, take-append-drop, length-drop}
use Rattle.pc_disk.proofs.NoteLemmas.{told_push, length_told}
use Rattle.pc_disk.specs.Images.{Images}
use Rattle.pc_disk.specs.Deeds.{Call, Write, Cut, Sync, Deed, Made, Stopped, Failed, made, reads, chosen, pends, pending, stands, deed_of, reach, deed_reach, Fits}
use Rattle.pc_disk.specs.Notes.{call_of, told_one, told, IsWithin, AreWithin, pended, AreNoted}

pub Fits_front : (limit : ℕ) (deeds older : List Deed) → Fits limit (deeds ++ older) → Fits limit deeds
Fits_front limit [] older fits = tt
Fits_front limit (deed ∷ deeds) older fits = (fits.0, Fits_front limit deeds older fits.1)

pub Fits_back : (limit : ℕ) (deeds older : List Deed) → Fits limit (deeds ++ older) → Fits limit older
Fits_back limit [] older fits = fits
Fits_back limit (deed ∷ deeds) older fits = Fits_back limit deeds older fits.1

pub Fits_more : (limit more : ℕ) (deeds : List Deed) → limit ≤ more → Fits limit deeds → Fits more deeds
Fits_more limit more [] le fits = tt
Fits_more limit more (deed ∷ deeds) le fits = (omega (arith, fits.0), Fits_more limit more deeds le fits.1)

pub told_append : (pool : List ℕ) (notes later : List Note) → told pool (notes ++ later) ≡ told pool later ++ told pool notes
told_append pool [] later = sym (append-nil (told pool later))
told_append pool (note ∷ notes) later =
    ap (λ deeds. deeds ++ told_one pool note ∷ []) (told_append pool notes later) ∙ append_assoc (told pool later) (told pool notes) (told_one pool note ∷ [])

pub AreWithin_front : (written : ℕ) (notes later : List Note) → AreWithin written (notes ++ later) → AreWithin written notes
AreWithin_front written [] later are = tt
AreWithin_front written (note ∷ notes) later are = (are.0, AreWithin_front written notes later are.1)

pub AreWithin_back : (written : ℕ) (notes later : List Note) → AreWithin written (notes ++ later) → AreWithin written later
AreWithin_back written [] later are = are
AreWithin_back written (note ∷ notes) later are = AreWithin_back written notes later are.1

-- where nothing came after the last sync, a crash leaves what a read gives
chosen-synced : (choice : Choice) (first : Images) (deeds : List Deed) → pending deeds ≡ 0 → chosen choice first deeds ≡ reads first deeds
chosen-synced choice first [] none = refl
chosen-synced choice first (Made Sync ∷ deeds) none = refl
chosen-synced choice first (Made (Write area at bytes) ∷ deeds) none = absurd (omega arith)
chosen-synced choice first (Made (Cut area to) ∷ deeds) none = absurd (omega arith)
chosen-synced choice first (Stopped call ∷ deeds) none = absurd (omega arith)
chosen-synced choice first (Failed ∷ deeds) none = absurd (omega arith)

-- what a crash leaves is made of what was synced and of what came after it
pub chosen_splits : (choice : Choice) (first : Images) (newer older : List Deed) → pending (newer ++ older) ≡ length newer
    → chosen choice first (newer ++ older) ≡ pended choice (reads first older) newer
chosen_splits choice first [] older all = chosen-synced choice first older all
chosen_splits choice first (Made Sync ∷ newer) older all = absurd (omega arith)
chosen_splits choice first (Made (Write area at bytes) ∷ newer) older all =
    ap (λ left. pends choice (Made (Write area at bytes)) left left) (chosen_splits choice first newer older (omega arith))
chosen_splits choice first (Made (Cut area to) ∷ newer) older all =
    ap (λ left. pends choice (Made (Cut area to)) left left) (chosen_splits choice first newer older (omega arith))
chosen_splits choice first (Stopped call ∷ newer) older all =
    ap (λ left. pends choice (Stopped call) left left) (chosen_splits choice first newer older (omega arith))
chosen_splits choice first (Failed ∷ newer) older all = chosen_splits choice first newer older (omega arith)

-- the note at a place
told_take : (pool : List ℕ) (notes : List Note) (place : ℕ) (other : Note) → place < length notes
    → told pool (take (place + 1) notes) ≡ told_one pool (get_or notes place other) ∷ told pool (take place notes)
told_take pool notes place other le =
    let next = take_more notes place other le in
    rw next (told_push pool (take place notes) (get_or notes place other))

pub AreWithin_at : (written : ℕ) (notes : List Note) (place : ℕ) (other : Note) → place < length notes → AreWithin written notes → IsWithin written (get_or notes place other).call
AreWithin_at written [] place other le are = absurd (omega arith)
AreWithin_at written (note ∷ notes) zero other le are = are.0
AreWithin_at written (note ∷ notes) (suc place) other le are = AreWithin_at written notes place other (omega arith) are.1

Fits_at : (limit : ℕ) (pool : List ℕ) (notes : List Note) (place : ℕ) (other : Note) → place < length notes → Fits limit (told pool notes)
    → deed_reach (told_one pool (get_or notes place other)) ≤ limit
Fits_at limit pool [] place other le fits = absurd (omega arith)
Fits_at limit pool (note ∷ notes) zero other le fits = (Fits_back limit (told pool notes) (told_one pool note ∷ []) fits).0
Fits_at limit pool (note ∷ notes) (suc place) other le fits = Fits_at limit pool notes place other (omega arith) (Fits_front limit (told pool notes) (told_one pool note ∷ []) fits)

reach-fate : (met : Fate) (call : Call) → (met ≡ fate.Failed → ⊥) → deed_reach (deed_of met call) ≡ reach call
reach-fate fate.Made call isnt = refl
reach-fate fate.Stopped call isnt = refl
reach-fate fate.Failed call isnt = absurd (isnt refl)

reach-made : (met : Fate) (call : Call) → met ≡ fate.Made → deed_reach (deed_of met call) ≡ reach call
reach-made met call is = rw is refl

pub call_fits : (limit : ℕ) (pool : List ℕ) (notes : List Note) (place : ℕ) (other : Note) → place < length notes → Fits limit (told pool notes)
    → ((get_or notes place other).fate ≡ fate.Failed → ⊥) → reach (call_of pool (get_or notes place other).call) ≤ limit
call_fits limit pool notes place other le fits isnt =
    let note = get_or notes place other in
    omega (arith, Fits_at limit pool notes place other le fits, reach-fate note.fate (call_of pool note.call) isnt)

pub call_fits-made : (limit : ℕ) (pool : List ℕ) (notes : List Note) (place : ℕ) (other : Note) → place < length notes → Fits limit (told pool notes)
    → (get_or notes place other).fate ≡ fate.Made → reach (call_of pool (get_or notes place other).call) ≤ limit
call_fits-made limit pool notes place other le fits is =
    let note = get_or notes place other in
    omega (arith, Fits_at limit pool notes place other le fits, reach-made note.fate (call_of pool note.call) is)

-- one note more is done
made-is : (met : Fate) (call : Call) (images : Images) → met ≡ fate.Made → made (deed_of met call) images ≡ stands Keep call images
made-is met call images is = rw is refl

made-isnt : (met : Fate) (call : Call) (images : Images) → (met ≡ fate.Made → ⊥) → made (deed_of met call) images ≡ images
made-isnt fate.Made call images isnt = absurd (isnt refl)
made-isnt fate.Stopped call images isnt = refl
made-isnt fate.Failed call images isnt = refl

pub replay_made : (pool : List ℕ) (notes : List Note) (place : ℕ) (other : Note) (first held now : Images) → place < length notes → held ≡ reads first (told pool (take place notes))
    → (get_or notes place other).fate ≡ fate.Made → now ≡ stands Keep (call_of pool (get_or notes place other).call) held → now ≡ reads first (told pool (take (place + 1) notes))
replay_made pool notes place other first held now le so_far is does =
    let note = get_or notes place other in
    does ∙ sym (made-is note.fate (call_of pool note.call) held is) ∙ ap (made (told_one pool note)) so_far ∙ sym (ap (reads first) (told_take pool notes place other le))

pub replay_other : (pool : List ℕ) (notes : List Note) (place : ℕ) (other : Note) (first held : Images) → place < length notes → held ≡ reads first (told pool (take place notes))
    → ((get_or notes place other).fate ≡ fate.Made → ⊥) → held ≡ reads first (told pool (take (place + 1) notes))
replay_other pool notes place other first held le so_far isnt =
    let note = get_or notes place other in
    sym (made-isnt note.fate (call_of pool note.call) held isnt) ∙ ap (made (told_one pool note)) so_far ∙ sym (ap (reads first) (told_take pool notes place other le))

pends-sync : (choice : Choice) (images : Images) → stands choice Sync images ≡ images
pends-sync Keep images = refl
pends-sync Lose images = refl
pends-sync (Fill byte) images = refl

pends-is : (choice : Choice) (met : Fate) (call : Call) (images : Images) → (met ≡ fate.Failed → ⊥) → pends choice (deed_of met call) images images ≡ stands choice call images
pends-is choice fate.Made (Write area at bytes) images isnt = refl
pends-is choice fate.Made (Cut area to) images isnt = refl
pends-is choice fate.Made Sync images isnt = sym (pends-sync choice images)
pends-is choice fate.Stopped call images isnt = refl
pends-is choice fate.Failed call images isnt = absurd (isnt refl)

pends-failed : (choice : Choice) (met : Fate) (call : Call) (images : Images) → met ≡ fate.Failed → pends choice (deed_of met call) images images ≡ images
pends-failed choice met call images is = rw is refl

pub pend_done : (choice : Choice) (pool : List ℕ) (notes : List Note) (place : ℕ) (other : Note) (first held now : Images) → place < length notes
    → held ≡ pended choice first (told pool (take place notes)) → ((get_or notes place other).fate ≡ fate.Failed → ⊥)
    → now ≡ stands choice (call_of pool (get_or notes place other).call) held → now ≡ pended choice first (told pool (take (place + 1) notes))
pend_done choice pool notes place other first held now le so_far isnt does =
    let note = get_or notes place other in
    does ∙ sym (pends-is choice note.fate (call_of pool note.call) held isnt) ∙ ap (λ images. pends choice (told_one pool note) images images) so_far
    ∙ sym (ap (pended choice first) (told_take pool notes place other le))

pub pend_failed : (choice : Choice) (pool : List ℕ) (notes : List Note) (place : ℕ) (other : Note) (first held : Images) → place < length notes
    → held ≡ pended choice first (told pool (take place notes)) → (get_or notes place other).fate ≡ fate.Failed → held ≡ pended choice first (told pool (take (place + 1) notes))
pend_failed choice pool notes place other first held le so_far is =
    let note = get_or notes place other in
    sym (pends-failed choice note.fate (call_of pool note.call) held is) ∙ ap (λ images. pends choice (told_one pool note) images images) so_far
    ∙ sym (ap (pended choice first) (told_take pool notes place other le))

-- the notes up to the last sync and those behind it
pub AreWithin_take : (written place : ℕ) (notes : List Note) → AreWithin written notes → AreWithin written (take place notes)
AreWithin_take written place notes are = AreWithin_front written (take place notes) (drop place notes) (rw take-append-drop are)

pub AreWithin_drop : (written place : ℕ) (notes : List Note) → AreWithin written notes → AreWithin written (drop place notes)
AreWithin_drop written place notes are = AreWithin_back written (take place notes) (drop place notes) (rw take-append-drop are)

told_parts : (pool : List ℕ) (place : ℕ) (notes : List Note) → told pool notes ≡ told pool (drop place notes) ++ told pool (take place notes)
told_parts pool place notes = ap (told pool) (sym (take-append-drop place notes)) ∙ told_append pool (take place notes) (drop place notes)

pub Fits_take : (limit : ℕ) (pool : List ℕ) (place : ℕ) (notes : List Note) → Fits limit (told pool notes) → Fits limit (told pool (take place notes))
Fits_take limit pool place notes fits =
    Fits_back limit (told pool (drop place notes)) (told pool (take place notes)) (subst (λ deeds. Fits limit deeds) (told_parts pool place notes) fits)

pub Fits_drop : (limit : ℕ) (pool : List ℕ) (place : ℕ) (notes : List Note) → Fits limit (told pool notes) → Fits limit (told pool (drop place notes))
Fits_drop limit pool place notes fits =
    Fits_front limit (told pool (drop place notes)) (told pool (take place notes)) (subst (λ deeds. Fits limit deeds) (told_parts pool place notes) fits)

pub crash_held : (choice : Choice) (pool : List ℕ) (notes : List Note) (settled : ℕ) (first synced now : Images) → AreNoted pool notes settled
    → synced ≡ reads first (told pool (take settled notes)) → now ≡ pended choice synced (told pool (drop settled notes)) → now ≡ chosen choice first (told pool notes)
crash_held choice pool notes settled first synced now are read pend =
    let newer = told pool (drop settled notes) in
    let older = told pool (take settled notes) in
    let all : pending (newer ++ older) ≡ length newer =
    omega (arith, are.rest, ap pending (told_parts pool settled notes), length_told pool (drop settled notes), length-drop settled notes) in
    pend ∙ ap (λ images. pended choice images newer) read ∙ sym (chosen_splits choice first newer older all) ∙ sym (ap (chosen choice first) (told_parts pool settled notes))
