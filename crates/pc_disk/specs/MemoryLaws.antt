-- A record of device calls keeps the model of crashes.
use Rattle.std.proofs.Common.{◌≡◌, ◌∙◌, ℕ, ◌+◌, ◌≤◌, List, [], ◌∷◌, ◌++◌, length, take, drop, refl, ap, sym, subst, arith, append_assoc}
use Rattle.std.proofs.lemmas.List.{take-append-drop, length-take, length-drop, drop-drop, append-nil, length-replicate}
use Rattle.pc_disk.specs.declared.choice.Choice.{Choice}
use Rattle.pc_disk.specs.declared.choice.Choice.TheVariants.{Keep, Lose, Fill}
use Rattle.pc_disk.specs.Images.{Images, area_of, with_area, overwritten, Torn, TornCut, InArea}
use Rattle.pc_disk.specs.ImageLaws.{area_of-with_area, other_of-with_area}
use Rattle.pc_disk.specs.Deeds.{Call, Write, Cut, Sync, Deed, Made, Stopped, Failed, effect, reads, tears, MayLeave, LeftSince, stands, chosen}

-- a step in an area that comes to these bytes
in_area : (area : ℕ) (step : List ℕ → List ℕ → Type 0) (images : Images) (bytes : List ℕ) → step (area_of area images) bytes → InArea area step images (with_area area bytes images)
in_area area step images bytes does = record {
  here = subst (λ new. step (area_of area images) new) (sym (area_of-with_area area bytes images)) does;
  there = other_of-with_area area bytes images;
}

torn_overwritten : (at count : ℕ) (bytes old : List ℕ) → length bytes ≡ count → Torn at count old (overwritten at bytes old)
torn_overwritten at count bytes old same = record {
  middle = bytes;
  bytes = ap (λ n. take at old ++ bytes ++ drop (at + n) old) same;
  at_least = omega arith;
  at_most = omega arith;
}

torn_same : (at count : ℕ) (old : List ℕ) → Torn at count old old
torn_same at count old = record {
  middle = take count (drop at old);
  bytes = sym (take-append-drop at old) ∙ ap (λ rest. take at old ++ rest) (sym (take-append-drop count (drop at old)) ∙ ap (λ rest. take count (drop at old) ++ rest) (drop-drop count at old))
      ∙ sym (append_assoc (take at old) (take count (drop at old)) (drop (at + count) old));
  at_least = omega (arith, length-take count (drop at old), length-drop at old);
  at_most = omega (arith, length-take count (drop at old));
}

torn_cut : (to : ℕ) (old : List ℕ) → TornCut to old (take to old)
torn_cut to old = record { tail = []; bytes = sym (append-nil (take to old)); at_most = omega arith }

torn_cut_same : (to : ℕ) (old : List ℕ) → TornCut to old old
torn_cut_same to old = record { tail = drop to old; bytes = sym (take-append-drop to old); at_most = omega (arith, length-drop to old) }

pub tears_same : (call : Call) (images : Images) → tears call images images
tears_same (Write area at bytes) images = record { here = torn_same at (length bytes) (area_of area images); there = refl }
tears_same (Cut area to) images = record { here = torn_cut_same to (area_of area images); there = refl }
tears_same Sync images = refl

tears_effect : (call : Call) (images : Images) → tears call images (effect call images)
tears_effect (Write area at bytes) images = in_area area (Torn at (length bytes)) images _ (torn_overwritten at (length bytes) bytes (area_of area images) refl)
tears_effect (Cut area to) images = in_area area (TornCut to) images _ (torn_cut to (area_of area images))
tears_effect Sync images = refl

tears_stands : (choice : Choice) (call : Call) (images : Images) → tears call images (stands choice call images)
tears_stands Keep call images = tears_effect call images
tears_stands Lose call images = tears_same call images
tears_stands (Fill byte) (Write area at bytes) images =
    in_area area (Torn at (length bytes)) images _ (torn_overwritten at (length bytes) _ (area_of area images) (length-replicate (length bytes) byte))
tears_stands (Fill byte) (Cut area to) images = tears_effect (Cut area to) images
tears_stands (Fill byte) Sync images = refl

-- what a read gives, a crash may leave
pub reads_possible : (first : Images) (deeds : List Deed) → MayLeave first deeds (reads first deeds)
reads_possible first [] = refl
reads_possible first (Made (Write area at bytes) ∷ deeds) = (reads first deeds, reads_possible first deeds, tears_effect (Write area at bytes) (reads first deeds))
reads_possible first (Made (Cut area to) ∷ deeds) = (reads first deeds, reads_possible first deeds, tears_effect (Cut area to) (reads first deeds))
reads_possible first (Made Sync ∷ deeds) = refl
reads_possible first (Stopped call ∷ deeds) = (reads first deeds, reads_possible first deeds, tears_same call (reads first deeds))
reads_possible first (Failed ∷ deeds) = reads_possible first deeds

-- what a crash leaves by choice, it may leave
pub chosen_possible : (choice : Choice) (first : Images) (deeds : List Deed) → MayLeave first deeds (chosen choice first deeds)
chosen_possible choice first [] = refl
chosen_possible choice first (Made (Write area at bytes) ∷ deeds) = (chosen choice first deeds, chosen_possible choice first deeds, tears_stands choice (Write area at bytes) (chosen choice first deeds))
chosen_possible choice first (Made (Cut area to) ∷ deeds) = (chosen choice first deeds, chosen_possible choice first deeds, tears_stands choice (Cut area to) (chosen choice first deeds))
chosen_possible choice first (Made Sync ∷ deeds) = refl
chosen_possible choice first (Stopped call ∷ deeds) = (chosen choice first deeds, chosen_possible choice first deeds, tears_stands choice call (chosen choice first deeds))
chosen_possible choice first (Failed ∷ deeds) = chosen_possible choice first deeds

-- this moment is one of those since an earlier one
pub counts_this_moment : (first : Images) (deeds : List Deed) (earlier : ℕ) (left : Images) → earlier ≤ length deeds → MayLeave first deeds left → LeftSince first deeds earlier left
counts_this_moment first deeds earlier left le may = (0, omega arith, may)

-- since this moment there is no other
pub only_this_moment : (first : Images) (deeds : List Deed) (left : Images) → LeftSince first deeds (length deeds) left → MayLeave first deeds left
only_this_moment first deeds left (back, le, may) =
    let none : back ≡ 0 = omega arith in
    subst (λ k. MayLeave first (drop k deeds) left) none may
