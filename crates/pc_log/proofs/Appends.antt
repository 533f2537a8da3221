-- What an append makes of an area, and what a crash inside it may leave.
use Rattle.std.proofs.Common.{◌≡◌, ℕ, zero, suc, ◌+◌, ◌<◌, ◌≤◌, List, [], ◌∷◌, ◌++◌, length, take, drop, Err, refl, sym, ap, subst, ◌∙◌, append_assoc, arith, inl, inr}
use Rattle.std.specs.List.{flat_map}
use Rattle.std.specs.Int.{w32, to_be_bytes}
use Rattle.std.proofs.lemmas.Bool.{cases_eq}
use Rattle.std.proofs.lemmas.List.{take_at, drop_at, length-append, flat_map_more}
use Rattle.pc_base.specs.Frame.{framed}
use Rattle.pc_disk.specs.declared.steps.StepFault.{StepFault}
use Rattle.pc_disk.specs.declared.steps.StepFault.TheVariants.{Call, Sync}
use Rattle.pc_disk.specs.Images.{Images, area_of, other_of, with_area, overwritten, Torn, InArea}
use Rattle.pc_disk.specs.ImageLaws.{area_of-with_area, other_of-with_area}
use Rattle.pc_disk.specs.Outcomes.{Only, SameDue}
use Rattle.pc_disk.specs.Steps.{step_calls}
use Rattle.pc_disk.specs.StepFaults.{FailsWhereDue, LeadsOn}
use Rattle.pc_log.specs.Area.{Head, Spelled, front, head_bytes, entry_bytes}
use Rattle.pc_log.specs.Logs.{LogState, IsLogOf, Stands, Without, WithOrWithout, FailsAtFirstDue}
use Rattle.pc_log.proofs.Entries.{length-entry_bytes}

-- ---- one area

regroup : (f m d : List ℕ) (g : ℕ) → ((f ++ g ∷ []) ++ m) ++ d ≡ f ++ g ∷ (m ++ d)
regroup f m d g = simp append_assoc

-- bytes put behind the gate of what is spelled
behind_gate : (head : Head) (entries : List (List ℕ)) (area : List ℕ) (gate : ℕ) (spelled : Spelled head entries area) → gate ≡ length (front head entries) → (middle rest : List ℕ)
    → take (gate + 1) area ++ middle ++ rest ≡ front head entries ++ spelled.gate ∷ (middle ++ rest)
behind_gate head entries area gate spelled at middle rest =
    let f : List ℕ = front head entries in
    let parts : area ≡ (f ++ spelled.gate ∷ []) ++ spelled.rest = spelled.bytes ∙ sym (append_assoc f (spelled.gate ∷ []) spelled.rest) in
    let count : length (f ++ spelled.gate ∷ []) ≡ gate + 1 = omega (arith, at, length-append f (spelled.gate ∷ [])) in
    let taken : take (gate + 1) area ≡ f ++ spelled.gate ∷ [] = ap (take (gate + 1)) parts ∙ take_at (f ++ spelled.gate ∷ []) spelled.rest (gate + 1) count in
    ap (λ (xs : List ℕ). xs ++ middle ++ rest) taken ∙ regroup f middle rest spelled.gate

-- behind the gate anything may stand
pub torn_record : (head : Head) (entries : List (List ℕ)) (area new : List ℕ) (gate count : ℕ) → Spelled head entries area → gate ≡ length (front head entries) → Torn (gate + 1) count area new → Spelled head entries new
torn_record head entries area new gate count spelled at torn = record {
  gate = spelled.gate;
  rest = torn.middle ++ drop (gate + 1 + count) area;
  bytes = torn.bytes ∙ behind_gate head entries area gate spelled at torn.middle (drop (gate + 1 + count) area);
  closed = spelled.closed;
}

-- the record stands behind the closed gate
pub record HasRecord (head : Head) (entries : List (List ℕ)) (entry area : List ℕ) : Type 0 where
  pub gate : ℕ
  pub rest : List ℕ
  pub bytes : area ≡ front head entries ++ gate ∷ (framed entry ++ rest)
  pub closed : gate ≡ 1 → ⊥

pub record_written : (head : Head) (entries : List (List ℕ)) (entry area : List ℕ) (gate : ℕ) → Spelled head entries area → gate ≡ length (front head entries) → HasRecord head entries entry (overwritten (gate + 1) (framed entry) area)
record_written head entries entry area gate spelled at = record {
  gate = spelled.gate;
  rest = drop (gate + 1 + length (framed entry)) area;
  bytes = behind_gate head entries area gate spelled at (framed entry) (drop (gate + 1 + length (framed entry)) area);
  closed = spelled.closed;
}

-- the area with another byte at the gate
regated : (head : Head) (entries : List (List ℕ)) (entry area : List ℕ) (gate byte : ℕ) (has : HasRecord head entries entry area) → gate ≡ length (front head entries)
    → take gate area ++ (byte ∷ []) ++ drop (gate + 1) area ≡ front head entries ++ byte ∷ (framed entry ++ has.rest)
regated head entries entry area gate byte has at =
    let f : List ℕ = front head entries in
    let more : List ℕ = framed entry ++ has.rest in
    let count : length (f ++ has.gate ∷ []) ≡ gate + 1 = omega (arith, at, length-append f (has.gate ∷ [])) in
    let taken : take gate area ≡ f = ap (take gate) has.bytes ∙ take_at f (has.gate ∷ more) gate (sym at) in
    let dropped : drop (gate + 1) area ≡ more = ap (drop (gate + 1)) (has.bytes ∙ sym (append_assoc f (has.gate ∷ []) more)) ∙ drop_at (f ++ has.gate ∷ []) more (gate + 1) count in
    ap (λ (xs : List ℕ). xs ++ (byte ∷ []) ++ drop (gate + 1) area) taken ∙ ap (λ (xs : List ℕ). f ++ (byte ∷ []) ++ xs) dropped ∙ append_assoc f (byte ∷ []) more

rejoin : (hb es size entry rest : List ℕ) → (1 ∷ (hb ++ es)) ++ 1 ∷ ((size ++ entry ++ 0 ∷ []) ++ rest) ≡ (1 ∷ (hb ++ (es ++ (1 ∷ (size ++ entry))))) ++ 0 ∷ rest
rejoin hb es size entry rest = simp append_assoc

-- with the gate open the entry counts
pub counted : (head : Head) (entries : List (List ℕ)) (entry rest : List ℕ) → front head entries ++ 1 ∷ (framed entry ++ rest) ≡ front head (entries ++ entry ∷ []) ++ 0 ∷ rest
unfolding entry_bytes
counted head entries entry rest =
    rejoin (head_bytes head) (flat_map entry_bytes entries) (to_be_bytes w32 (length entry)) entry rest
    ∙ ap (λ (xs : List ℕ). (1 ∷ (head_bytes head ++ xs)) ++ 0 ∷ rest) (flat_map_more entry_bytes [] entries entry)

opened_gate : (head : Head) (entries : List (List ℕ)) (entry area rest : List ℕ) → area ≡ front head entries ++ 1 ∷ (framed entry ++ rest) → Spelled head (entries ++ entry ∷ []) area
opened_gate head entries entry area rest is = record { gate = 0; rest = rest; bytes = is ∙ counted head entries entry rest; closed = λ e. omega (arith, e) }

pub gate_written : (head : Head) (entries : List (List ℕ)) (entry area : List ℕ) (gate : ℕ) → HasRecord head entries entry area → gate ≡ length (front head entries) → Spelled head (entries ++ entry ∷ []) (overwritten gate (1 ∷ []) area)
gate_written head entries entry area gate has at = opened_gate head entries entry (overwritten gate (1 ∷ []) area) has.rest (regated head entries entry area gate 1 has at)

one_byte : (xs : List ℕ) → 1 ≤ length xs → length xs ≤ 1 → (byte : ℕ) × (xs ≡ byte ∷ [])
one_byte [] low high = absurd (omega arith)
one_byte (byte ∷ []) low high = (byte, refl)
one_byte (byte ∷ next ∷ xs) low high = absurd (omega arith)

pub torn_gate : (head : Head) (entries : List (List ℕ)) (entry area new : List ℕ) (gate : ℕ) → HasRecord head entries entry area → gate ≡ length (front head entries) → Torn gate 1 area new → WithOrWithout head entries entry area new
torn_gate head entries entry area new gate has at torn =
    let long : gate + 1 ≤ length area = omega (arith, at, ap length has.bytes, length-append (front head entries) (has.gate ∷ (framed entry ++ has.rest))) in
    let one = one_byte torn.middle (omega (arith, torn.at_least, long)) torn.at_most in
    let is : new ≡ front head entries ++ one.0 ∷ (framed entry ++ has.rest) = torn.bytes ∙ ap (λ (xs : List ℕ). take gate area ++ xs ++ drop (gate + 1) area) one.1 ∙ regated head entries entry area gate one.0 has at in
    elim (cases_eq one.0 1) [
      | inl open_now ↦ inr (opened_gate head entries entry new has.rest (is ∙ ap (λ (b : ℕ). front head entries ++ b ∷ (framed entry ++ has.rest)) open_now))
      | inr shut ↦ inl (record { gate = one.0; rest = framed entry ++ has.rest; bytes = is; closed = shut })
    ]

-- ---- images

-- the first step: a crash leaves what stood, without the entry
pub first_step : (log : LogState) (head : Head) (entries : List (List ℕ)) (seen : Images) (may_leave : Images → Type 0) (count : ℕ) → Stands log head entries seen may_leave
    → (left : Images) → LeadsOn (InArea log.area (Torn (log.gate + 1) count)) may_leave left → LeadsOn (InArea log.area (Without head entries)) may_leave left
first_step log head entries seen may_leave count stands left leads =
    let was = stands.leaves leads.0 leads.1 in
    (leads.0, leads.1, record { here = torn_record head entries (area_of log.area leads.0) (area_of log.area left) log.gate count was.spelled was.gate leads.2.here; there = leads.2.there })

-- it leaves the entries with or without it all the more
pub without_counts : (log : LogState) (head : Head) (entries : List (List ℕ)) (entry : List ℕ) (may_leave : Images → Type 0) (left : Images) → LeadsOn (InArea log.area (Without head entries)) may_leave left → LeadsOn (InArea log.area (WithOrWithout head entries entry)) may_leave left
without_counts log head entries entry may_leave left leads = (leads.0, leads.1, record { here = inl leads.2.here; there = leads.2.there })

-- what the first step wrote
pub record_stands : (log : LogState) (head : Head) (entries : List (List ℕ)) (entry : List ℕ) (seen seen' : Images) (may_leave : Images → Type 0) → Stands log head entries seen may_leave
    → seen' ≡ with_area log.area (overwritten (log.gate + 1) (framed entry) (area_of log.area seen)) seen → HasRecord head entries entry (area_of log.area seen')
record_stands log head entries entry seen seen' may_leave stands written =
    let bytes : List ℕ = overwritten (log.gate + 1) (framed entry) (area_of log.area seen) in
    let is : bytes ≡ area_of log.area seen' = sym (ap (area_of log.area) written ∙ area_of-with_area log.area bytes seen) in
    subst (λ (xs : List ℕ). HasRecord head entries entry xs) is (record_written head entries entry (area_of log.area seen) log.gate stands.reads.spelled stands.reads.gate)

-- the second step: a crash leaves the entries with or without the new one
pub second_step : (log : LogState) (head : Head) (entries : List (List ℕ)) (entry : List ℕ) (seen seen' : Images) (may_leave may_leave' : Images → Type 0) → Stands log head entries seen may_leave → may_leave seen
    → seen' ≡ with_area log.area (overwritten (log.gate + 1) (framed entry) (area_of log.area seen)) seen → Only seen' may_leave'
    → (left : Images) → LeadsOn (InArea log.area (Torn log.gate 1)) may_leave' left → LeadsOn (InArea log.area (WithOrWithout head entries entry)) may_leave left
second_step log head entries entry seen seen' may_leave may_leave' stands present written settled left leads =
    let has = record_stands log head entries entry seen seen' may_leave stands written in
    let step = subst (λ (images : Images). InArea log.area (Torn log.gate 1) images left) (settled leads.0 leads.1) leads.2 in
    let bytes : List ℕ = overwritten (log.gate + 1) (framed entry) (area_of log.area seen) in (
      seen,
      present,
      record {
        here = torn_gate head entries entry (area_of log.area seen') (area_of log.area left) log.gate has stands.reads.gate step.here;
        there = step.there ∙ ap (other_of log.area) written ∙ other_of-with_area log.area bytes seen;
      },
    )

length-more : (head : Head) (entries : List (List ℕ)) (entry : List ℕ) → length (front head (entries ++ entry ∷ [])) ≡ length (front head entries) + 5 + length entry
length-more head entries entry =
    ap (λ (xs : List ℕ). length (1 ∷ (head_bytes head ++ xs))) (sym (flat_map_more entry_bytes [] entries entry))
    ∙ omega (arith, length-append (head_bytes head) (flat_map entry_bytes entries ++ entry_bytes entry), length-append (head_bytes head) (flat_map entry_bytes entries), length-append (flat_map entry_bytes entries) (entry_bytes entry), length-entry_bytes entry)

-- after both the entry stands
pub appended : (log log' : LogState) (head : Head) (entries : List (List ℕ)) (entry : List ℕ) (seen seen' seen'' : Images) (may_leave may_leave'' : Images → Type 0) → Stands log head entries seen may_leave
    → seen' ≡ with_area log.area (overwritten (log.gate + 1) (framed entry) (area_of log.area seen)) seen
    → seen'' ≡ with_area log.area (overwritten log.gate (1 ∷ []) (area_of log.area seen')) seen' → Only seen'' may_leave''
    → log'.area ≡ log.area → log'.gate ≡ log.gate + 5 + length entry → Stands log' head (entries ++ entry ∷ []) seen'' may_leave''
appended log log' head entries entry seen seen' seen'' may_leave may_leave'' stands written opened settled same_area at =
    let has = record_stands log head entries entry seen seen' may_leave stands written in
    let bytes : List ℕ = overwritten log.gate (1 ∷ []) (area_of log.area seen') in
    let is : bytes ≡ area_of log'.area seen'' = sym (ap (λ (a : ℕ). area_of a seen'') same_area ∙ ap (area_of log.area) opened ∙ area_of-with_area log.area bytes seen') in
    let now : IsLogOf log' head (entries ++ entry ∷ []) seen'' = record {
      spelled = subst (λ (xs : List ℕ). Spelled head (entries ++ entry ∷ []) xs) is (gate_written head entries entry (area_of log.area seen') log.gate has stands.reads.gate);
      gate = omega (arith, at, stands.reads.gate, length-more head entries entry);
    } in
    record { reads = now; leaves = λ left may. subst (λ (images : Images). IsLogOf log' head (entries ++ entry ∷ []) images) (sym (settled left may)) now }

-- ---- which call fails

not_due_2 : (due : ℕ → Type 0) (moment : ℕ) → (due moment → ⊥) → (due (moment + 1) → ⊥) → (k : ℕ) → k < 2 → due (moment + k) → ⊥
not_due_2 due moment first second zero lt is = first (subst due (let e : moment + 0 ≡ moment = omega arith in e) is)
not_due_2 due moment first second (suc zero) lt is = second (subst due (let e : moment + suc zero ≡ moment + 1 = omega arith in e) is)
not_due_2 due moment first second (suc (suc k)) lt is = absurd (omega arith)

not_due_3 : (due : ℕ → Type 0) (moment : ℕ) → (due moment → ⊥) → (due (moment + 1) → ⊥) → (due (moment + 2) → ⊥) → (k : ℕ) → k < 3 → due (moment + k) → ⊥
not_due_3 due moment first second third zero lt is = first (subst due (let e : moment + 0 ≡ moment = omega arith in e) is)
not_due_3 due moment first second third (suc zero) lt is = second (subst due (let e : moment + suc zero ≡ moment + 1 = omega arith in e) is)
not_due_3 due moment first second third (suc (suc zero)) lt is = third (subst due (let e : moment + suc (suc zero) ≡ moment + 2 = omega arith in e) is)
not_due_3 due moment first second third (suc (suc (suc k))) lt is = absurd (omega arith)

-- the second step fails after the first was made
pub second_due : (fault : StepFault) (call moment mid : ℕ) (due due' : ℕ → Type 0) → (due moment → ⊥) × (due (moment + 1) → ⊥) → mid ≡ moment + 2 → SameDue mid due due' → FailsWhereDue {T = ℕ} (Err fault) mid due' → call ≡ 2 + step_calls {T = ℕ} (Err fault)
    → FailsAtFirstDue {T = ℕ} (Err (record { call = call })) moment due
second_due Call call moment mid due due' first at same fails is =
    let here : due (moment + 2) = subst due at ((same mid (omega arith)).0 fails) in
    (2, omega (arith, is), here, not_due_2 due moment first.0 first.1)
second_due Sync call moment mid due due' first at same fails is =
    let next : mid + 1 ≡ moment + 3 = omega (arith, at) in
    let here : due (moment + 3) = subst due next ((same (mid + 1) (omega arith)).0 fails.1) in
    let third : due (moment + 2) → ⊥ = λ d. fails.0 ((same mid (omega arith)).1 (subst due (sym at) d)) in
    (3, omega (arith, is), here, not_due_3 due moment first.0 first.1 third)
