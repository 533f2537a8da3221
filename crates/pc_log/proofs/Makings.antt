-- What a crash may leave of an area that is made anew.
use Rattle.std.proofs.Common.{◌≡◌, ℕ, zero, suc, ◌+◌, ◌≤◌, false, List, [], ◌∷◌, ◌++◌, length, drop, refl, sym, ap, subst, ◌∙◌, append-nil, arith, inl, inr, ⊎_elim}
use Rattle.std.proofs.lemmas.Bool.{cases_eq, ne_eqb}
use Rattle.std.proofs.lemmas.List.{drop_all}
use Rattle.pc_disk.specs.Images.{Images, area_of, other_of, with_area, overwritten, Torn, TornCut, InArea}
use Rattle.pc_disk.specs.ImageLaws.{area_of-with_area, other_of-with_area}
use Rattle.pc_disk.specs.Outcomes.{Only}
use Rattle.pc_disk.specs.StepFaults.{LeadsOn}
use Rattle.pc_disk.proofs.StepRuns.{from_settled}
use Rattle.pc_log.specs.Area.{Head, fresh, head_bytes, is_made}
use Rattle.pc_log.specs.Logs.{LogState, IsLogOf, Stands}
use Rattle.pc_log.proofs.Trails.{length-front}
use Rattle.pc_log.specs.Making.{OldOrUnmade, UnmadeOrNew, OldUnmadeOrNew}

-- ---- one area

closed_unmade : (gate : ℕ) (rest : List ℕ) → (gate ≡ 1 → ⊥) → is_made (gate ∷ rest) ≡ false
closed_unmade gate [] shut = refl
closed_unmade gate (next ∷ rest) shut = ne_eqb gate 1 shut

one_byte : (xs : List ℕ) → 1 ≤ length xs → length xs ≤ 1 → (byte : ℕ) × (xs ≡ byte ∷ [])
one_byte [] low high = absurd (omega arith)
one_byte (byte ∷ []) low high = (byte, refl)
one_byte (byte ∷ next ∷ xs) low high = absurd (omega arith)

-- the gate is written over
torn_gate : (gate : ℕ) (rest new : List ℕ) → Torn 0 1 (gate ∷ rest) new → (byte : ℕ) × (new ≡ byte ∷ rest)
torn_gate gate rest new torn =
    let one = one_byte torn.middle (omega (arith, torn.at_least)) torn.at_most in
    (one.0, torn.bytes ∙ ap (λ (xs : List ℕ). xs ++ rest) one.1)

pub gate_torn : (gate : ℕ) (rest new : List ℕ) → gate ≡ 1 → Torn 0 1 (gate ∷ rest) new → OldOrUnmade (gate ∷ rest) new
gate_torn gate rest new is_open torn =
    let t = torn_gate gate rest new torn in
    elim (cases_eq t.0 1) [
      | inl open_now ↦ inl (t.1 ∙ ap (λ (b : ℕ). b ∷ rest) (open_now ∙ sym is_open))
      | inr shut ↦ inr (ap is_made t.1 ∙ closed_unmade t.0 rest shut)
    ]

pub gate_opens : (gate : ℕ) (bytes new : List ℕ) → Torn 0 1 (gate ∷ bytes) new → UnmadeOrNew bytes (gate ∷ bytes) new
gate_opens gate bytes new torn =
    let t = torn_gate gate bytes new torn in
    elim (cases_eq t.0 1) [
      | inl open_now ↦ inr (t.1 ∙ ap (λ (b : ℕ). b ∷ bytes) open_now)
      | inr shut ↦ inl (ap is_made t.1 ∙ closed_unmade t.0 bytes shut)
    ]

pub gate_closed : (rest : List ℕ) → overwritten 0 (0 ∷ []) (1 ∷ rest) ≡ 0 ∷ rest
gate_closed rest = refl

pub cut_closed : (gate : ℕ) (rest new : List ℕ) → (gate ≡ 1 → ⊥) → TornCut 1 (gate ∷ rest) new → is_made new ≡ false
cut_closed gate rest new shut torn = ap is_made torn.bytes ∙ closed_unmade gate torn.tail shut

pub written_closed : (gate count : ℕ) (new : List ℕ) → (gate ≡ 1 → ⊥) → Torn 1 count (gate ∷ []) new → is_made new ≡ false
written_closed gate count new shut torn = ap is_made torn.bytes ∙ closed_unmade gate (torn.middle ++ drop (1 + count) (gate ∷ [])) shut

pub behind_closed : (gate : ℕ) (bytes : List ℕ) → overwritten 1 bytes (gate ∷ []) ≡ gate ∷ bytes
behind_closed gate bytes = ap (λ (xs : List ℕ). (gate ∷ bytes) ++ xs) (drop_all (1 + length bytes) (gate ∷ []) (omega arith)) ∙ append-nil (gate ∷ bytes)

-- ---- images

-- a step over a settled disk that leads from one area to what an outcome says
pub in_area : (area : ℕ) (seen : Images) (may_leave : Images → Type 0) (step outcome : List ℕ → List ℕ → Type 0) (old : List ℕ) → Only seen may_leave → area_of area seen ≡ old → ((new : List ℕ) → step old new → outcome old new)
    → (left : Images) → LeadsOn (InArea area step) may_leave left → InArea area outcome seen left
in_area area seen may_leave step outcome old settled is leads left step_to =
    let there = from_settled seen (InArea area step) may_leave settled left step_to in
    let here = subst (λ (xs : List ℕ). step xs (area_of area left)) is there.here in
    record { here = subst (λ (xs : List ℕ). outcome xs (area_of area left)) (sym is) (leads (area_of area left) here); there = there.there }

-- a second step, over what the first one wrote
pub in_area_next : (area : ℕ) (seen seen' : Images) (may_leave' : Images → Type 0) (step outcome : List ℕ → List ℕ → Type 0) (mid : List ℕ) → Only seen' may_leave' → seen' ≡ with_area area mid seen → ((new : List ℕ) → step mid new → outcome (area_of area seen) new)
    → (left : Images) → LeadsOn (InArea area step) may_leave' left → InArea area outcome seen left
in_area_next area seen seen' may_leave' step outcome mid settled written leads left step_to =
    let there = from_settled seen' (InArea area step) may_leave' settled left step_to in
    let is : area_of area seen' ≡ mid = ap (area_of area) written ∙ area_of-with_area area mid seen in
    let here = subst (λ (xs : List ℕ). step xs (area_of area left)) is there.here in
    record { here = leads (area_of area left) here; there = there.there ∙ ap (other_of area) written ∙ other_of-with_area area mid seen }

-- an area that is cleared and then filled
pub cleared_counts : (area : ℕ) (head : Head) (seen left : Images) → InArea area OldOrUnmade seen left → InArea area (OldUnmadeOrNew head) seen left
cleared_counts area head seen left is = record { here = inl is.here; there = is.there }

fresh_is : (head : Head) (bytes : List ℕ) → bytes ≡ head_bytes head ++ 0 ∷ [] → 1 ∷ bytes ≡ fresh head
fresh_is head bytes is = ap (λ (xs : List ℕ). 1 ∷ xs) (is ∙ ap (λ (xs : List ℕ). xs ++ 0 ∷ []) (sym (append-nil (head_bytes head))))

pub filled_counts : (area : ℕ) (head : Head) (bytes mid : List ℕ) (seen seen' left : Images) → bytes ≡ head_bytes head ++ 0 ∷ [] → seen' ≡ with_area area mid seen → InArea area (UnmadeOrNew bytes) seen' left → InArea area (OldUnmadeOrNew head) seen left
filled_counts area head bytes mid seen seen' left spelled written is = record {
  here = ⊎_elim (λ unmade. inl (inr unmade)) (λ new. inr (new ∙ fresh_is head bytes spelled)) is.here;
  there = is.there ∙ ap (other_of area) written ∙ other_of-with_area area mid seen;
}

with_area-twice : (area : ℕ) (mid bytes : List ℕ) (images : Images) → with_area area bytes (with_area area mid images) ≡ with_area area bytes images
with_area-twice zero mid bytes images = refl
with_area-twice (suc area) mid bytes images = refl

pub made_whole : (area : ℕ) (head : Head) (bytes mid : List ℕ) (seen seen' seen'' : Images) → bytes ≡ head_bytes head ++ 0 ∷ [] → seen' ≡ with_area area mid seen → seen'' ≡ with_area area (1 ∷ bytes) seen' → seen'' ≡ with_area area (fresh head) seen
made_whole area head bytes mid seen seen' seen'' spelled written filled =
    filled ∙ ap (with_area area (1 ∷ bytes)) written ∙ with_area-twice area mid (1 ∷ bytes) seen ∙ ap (λ (xs : List ℕ). with_area area xs seen) (fresh_is head bytes spelled)

-- an area that was made is a log without entries
pub fresh_stands : (log : LogState) (head : Head) (seen seen' : Images) (may_leave : Images → Type 0) → seen' ≡ with_area log.area (fresh head) seen → Only seen' may_leave → log.gate ≡ 30 + length head.base → Stands log head [] seen' may_leave
fresh_stands log head seen seen' may_leave made settled at =
    let now : IsLogOf log head [] seen' = record {
      spelled = record { gate = 0; rest = []; bytes = ap (area_of log.area) made ∙ area_of-with_area log.area (fresh head) seen; closed = λ e. omega (arith, e) };
      gate = omega (arith, at, length-front head []);
    } in
    record { reads = now; leaves = λ left may. subst (λ (images : Images). IsLogOf log head [] images) (sym (settled left may)) now }
