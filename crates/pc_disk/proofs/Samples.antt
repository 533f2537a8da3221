-- Rows that were worked out by hand: a write, a sync, a write over it and a cut.
use Rattle.std.proofs.Common.{◌≡◌, List, [], ◌∷◌, refl, arith}
use Rattle.pc_disk.specs.declared.choice.Choice.TheVariants.{Keep, Lose, Fill}
use Rattle.pc_disk.specs.Images.{overwritten, Torn, TornCut}
use Rattle.pc_disk.specs.Deeds.{Write, Cut, Sync, Deed, Made, Stopped, Failed, reads, chosen, pending}

abbrev pub over : List Deed
over = Made (Write 0 0 (7 ∷ (8 ∷ []))) ∷ (Made Sync ∷ (Made (Write 0 0 (1 ∷ (2 ∷ (3 ∷ [])))) ∷ []))

all-read : reads ([], []) (Made (Cut 0 1) ∷ over) ≡ (7 ∷ [], [])
all-read = refl

all-kept : chosen Keep ([], []) (Made (Cut 0 1) ∷ over) ≡ (7 ∷ [], [])
all-kept = refl

all-lost : chosen Lose ([], []) (Made (Cut 0 1) ∷ over) ≡ (1 ∷ (2 ∷ (3 ∷ [])), [])
all-lost = refl

all-filled : chosen (Fill 9) ([], []) (Made (Cut 0 1) ∷ over) ≡ (9 ∷ [], [])
all-filled = refl

-- the disk stops at the cut: reads don't give it, and a crash that keeps has it
stopped-read : reads ([], []) (Stopped (Cut 0 1) ∷ over) ≡ (7 ∷ (8 ∷ (3 ∷ [])), [])
stopped-read = refl

stopped-kept : chosen Keep ([], []) (Stopped (Cut 0 1) ∷ over) ≡ (7 ∷ [], [])
stopped-kept = refl

-- a call that failed changes neither
failed-filled : chosen (Fill 9) ([], []) (Failed ∷ over) ≡ (9 ∷ (9 ∷ (3 ∷ [])), [])
failed-filled = refl

-- a write past the end
past-the-end : overwritten 2 (7 ∷ (8 ∷ [])) (1 ∷ (2 ∷ (3 ∷ []))) ≡ 1 ∷ (2 ∷ (7 ∷ (8 ∷ [])))
past-the-end = refl

-- a torn write may leave other bytes in its range, and one less past the end
torn-within : Torn 2 2 (1 ∷ (2 ∷ (3 ∷ []))) (1 ∷ (2 ∷ (5 ∷ [])))
torn-within = record { middle = 5 ∷ []; bytes = refl; at_least = omega arith; at_most = omega arith }

-- but none in front of it
not-before : Torn 1 1 (1 ∷ (2 ∷ [])) (9 ∷ (2 ∷ [])) → ⊥
not-before torn = cc torn.bytes

-- after a cut any bytes may stand behind the new end, as many as were cut at most
torn-cut : TornCut 1 (1 ∷ (2 ∷ (3 ∷ []))) (1 ∷ (6 ∷ []))
torn-cut = record { tail = 6 ∷ []; bytes = refl; at_most = omega arith }

counted-since : pending over ≡ 1
counted-since = refl
