-- Uids that rise, what a list of messages has at a uid, and which uids pass a test.
use Rattle.std.proofs.Common.{◌≡◌, ℕ, zero, suc, ◌+◌, ◌<◌, ◌≤◌, ◌==◌, Bool, true, false, cond, List, [], ◌∷◌, filter, None, refl, sym, ◌∙◌, ap, arith, inl, inr, eq-eqb, ne_eqb}
use Rattle.std.proofs.lemmas.Bool.{cases_eq}
use Rattle.std.specs.List.{AllByRecursion as Every, filter_map, cons_option}
use Rattle.std.specs.Option.{option_map_or}
use Rattle.pc_account_history.specs.declared.kept.Kept.{Kept}
use Rattle.pc_tables.specs.Table.{has_number, numbers}
use Rattle.pc_account_history.specs.Record.{kept_at}
use Rattle.pc_account_history.specs.Step.{uids_of}
use Rattle.pc_tables.specs.Order.{Ordered}
use Rattle.pc_tables.proofs.Lists.{Every-weaker, Every-from, Every-zip, filter-agree, filter-false, filter_map-agree, filter_map-none}
use Rattle.pc_tables.proofs.Numbers.{Every-numbers}

-- ---- the message at a uid

pub kept_at-none : (uid : ℕ) (messages : List Kept) → Every (λ (kept : Kept). (kept.uid == uid) ≡ false) messages → kept_at uid messages ≡ None
kept_at-none uid [] h = refl
kept_at-none uid (kept ∷ messages) h = rw h.0 (kept_at-none uid messages h.1)

pub kept_at-below : (uid : ℕ) (messages : List Kept) → Every (λ (kept : Kept). uid < kept.uid) messages → kept_at uid messages ≡ None
kept_at-below uid messages h = kept_at-none uid messages (Every-weaker (λ (kept : Kept). uid < kept.uid) (λ (kept : Kept). (kept.uid == uid) ≡ false) (λ kept g. ne_eqb kept.uid uid (λ e. absurd (omega arith))) messages h)

pub kept_at-above : (uid : ℕ) (messages : List Kept) → Every (λ (kept : Kept). kept.uid < uid) messages → kept_at uid messages ≡ None
kept_at-above uid messages h = kept_at-none uid messages (Every-weaker (λ (kept : Kept). kept.uid < uid) (λ (kept : Kept). (kept.uid == uid) ≡ false) (λ kept g. ne_eqb kept.uid uid (λ e. absurd (omega arith))) messages h)

-- ---- uids whose messages pass a test of uid and flags

abbrev pub hits : (ℕ → ℕ → Bool) → List Kept → ℕ → Bool
hits test messages uid = option_map_or (λ kept. test uid kept.flags) (kept_at uid messages) false

abbrev pub Rising : List Kept → Type 0
Rising = Ordered (λ (kept later : Kept). kept.uid < later.uid)

pub hits-none : (test : ℕ → ℕ → Bool) (messages : List Kept) (uid : ℕ) → kept_at uid messages ≡ None → hits test messages uid ≡ false
hits-none test messages uid h = ap (λ found. option_map_or (λ kept. test uid kept.flags) found false) h

hits-other : (test : ℕ → ℕ → Bool) (kept : Kept) (messages : List Kept) (uid : ℕ) → (kept.uid ≡ uid → ⊥) → hits test (kept ∷ messages) uid ≡ hits test messages uid
hits-other test kept messages uid h = rw (ne_eqb kept.uid uid h)

hits-here : (test : ℕ → ℕ → Bool) (kept : Kept) (messages : List Kept) (uid : ℕ) → kept.uid ≡ uid → hits test (kept ∷ messages) uid ≡ test kept.uid kept.flags
hits-here test kept messages uid e = rw (eq-eqb kept.uid uid e) (ap (λ n. test n kept.flags) (sym e))

here_step : (b : Bool) (first uid : ℕ) (uids : List ℕ) → (first == uid) ≡ true → has_number uid uids ≡ false → has_number uid (cond b (first ∷ uids) uids) ≡ b
here_step true first uid uids h g = rw h
here_step false first uid uids h g = g

other_step : (b : Bool) (first uid : ℕ) (uids : List ℕ) → (first == uid) ≡ false → has_number uid (cond b (first ∷ uids) uids) ≡ has_number uid uids
other_step true first uid uids h = rw h
other_step false first uid uids h = refl

uids_of-cond : (b : Bool) (kept : Kept) (messages : List Kept) → uids_of (cond b (kept ∷ messages) messages) ≡ cond b (kept.uid ∷ uids_of messages) (uids_of messages)
uids_of-cond true kept messages = refl
uids_of-cond false kept messages = refl

-- the uids up to a bound whose messages pass are those of the messages that pass
pub hits-numbers : (test : ℕ → ℕ → Bool) (low count : ℕ) (messages : List Kept) → Rising messages → Every (λ (kept : Kept). (low < kept.uid) × (kept.uid ≤ low + count)) messages → filter (hits test messages) (numbers low count) ≡ uids_of (filter (λ kept. test kept.uid kept.flags) messages)
hits-numbers test low zero [] r h = refl
hits-numbers test low zero (kept ∷ messages) r h = absurd (omega (arith, h.0.0, h.0.1))
hits-numbers test low (suc count) [] r h = filter-false (numbers (suc low) count)
hits-numbers test low (suc count) (kept ∷ messages) r h =
    elim (cases_eq (suc low) kept.uid) [
      | inl e ↦
          let later : Every (λ (k : Kept). (suc low < k.uid) × (k.uid ≤ suc low + count)) messages = Every-zip (λ (k : Kept). kept.uid < k.uid) (λ (k : Kept). (low < k.uid) × (k.uid ≤ low + suc count)) (λ (k : Kept). (suc low < k.uid) × (k.uid ≤ suc low + count)) (λ k a b. (omega arith, omega (arith, b.1))) messages r.0 h.1 in
          let rest = filter-agree (hits test (kept ∷ messages)) (hits test messages) (numbers (suc low) count) (Every-numbers (λ uid. hits test (kept ∷ messages) uid ≡ hits test messages uid) (suc low) count (λ uid a b. hits-other test kept messages uid (λ same. absurd (omega arith)))) in
          let passed : filter (hits test (kept ∷ messages)) (numbers (suc low) count) ≡ uids_of (filter (λ k. test k.uid k.flags) messages) = rest ∙ hits-numbers test (suc low) count messages r.1 later in
          let here = hits-here test kept messages (suc low) (sym e) in
          (λ i. cond (here i) (suc low ∷ passed i) (passed i)) ∙ (λ i. cond (test kept.uid kept.flags) (e i ∷ uids_of (filter (λ k. test k.uid k.flags) messages)) (uids_of (filter (λ k. test k.uid k.flags) messages))) ∙ sym (uids_of-cond (test kept.uid kept.flags) kept (filter (λ k. test k.uid k.flags) messages))
      | inr ne ↦
          let above : suc low < kept.uid = omega (arith, h.0.0) in
          let later : Every (λ (k : Kept). (suc low < k.uid) × (k.uid ≤ suc low + count)) messages = Every-zip (λ (k : Kept). kept.uid < k.uid) (λ (k : Kept). (low < k.uid) × (k.uid ≤ low + suc count)) (λ (k : Kept). (suc low < k.uid) × (k.uid ≤ suc low + count)) (λ k a b. (omega arith, omega (arith, b.1))) messages r.0 h.1 in
          let none = hits-none test (kept ∷ messages) (suc low) (kept_at-below (suc low) (kept ∷ messages) (above, Every-weaker (λ (k : Kept). (suc low < k.uid) × (k.uid ≤ suc low + count)) (λ (k : Kept). suc low < k.uid) (λ k a. a.0) messages later)) in
          (λ i. cond (none i) (suc low ∷ filter (hits test (kept ∷ messages)) (numbers (suc low) count)) (filter (hits test (kept ∷ messages)) (numbers (suc low) count))) ∙ hits-numbers test (suc low) count (kept ∷ messages) r ((above, omega (arith, h.0.1)), later)
    ]

-- a uid is among those of the messages that pass where its message passes
pub has_number-uids : (test : ℕ → ℕ → Bool) (uid : ℕ) (messages : List Kept) → Rising messages → has_number uid (uids_of (filter (λ kept. test kept.uid kept.flags) messages)) ≡ hits test messages uid
has_number-uids test uid [] r = refl
has_number-uids test uid (kept ∷ messages) r =
    let split = ap (has_number uid) (uids_of-cond (test kept.uid kept.flags) kept (filter (λ k. test k.uid k.flags) messages)) in
    let ih = has_number-uids test uid messages r.1 in
    elim (cases_eq kept.uid uid) [
      | inl e ↦
          let none = hits-none test messages uid (kept_at-below uid messages (Every-weaker (λ (k : Kept). kept.uid < k.uid) (λ (k : Kept). uid < k.uid) (λ k a. omega arith) messages r.0)) in
          split ∙ here_step (test kept.uid kept.flags) kept.uid uid (uids_of (filter (λ k. test k.uid k.flags) messages)) (eq-eqb kept.uid uid e) (ih ∙ none) ∙ sym (hits-here test kept messages uid e)
      | inr ne ↦ split ∙ other_step (test kept.uid kept.flags) kept.uid uid (uids_of (filter (λ k. test k.uid k.flags) messages)) (ne_eqb kept.uid uid ne) ∙ ih ∙ sym (hits-other test kept messages uid ne)
    ]

-- ---- all messages, uid by uid

-- the messages at the uids up to a bound are all of them
pub kept_at-all : (low count : ℕ) (messages : List Kept) → Rising messages → Every (λ (kept : Kept). (low < kept.uid) × (kept.uid ≤ low + count)) messages → filter_map (λ uid. kept_at uid messages) (numbers low count) ≡ messages
kept_at-all low zero [] r h = refl
kept_at-all low zero (kept ∷ messages) r h = absurd (omega (arith, h.0.0, h.0.1))
kept_at-all low (suc count) [] r h = filter_map-none (λ uid. kept_at uid []) (numbers (suc low) count) (Every-from (λ uid. kept_at uid [] ≡ None) (λ uid. refl) (numbers (suc low) count))
kept_at-all low (suc count) (kept ∷ messages) r h =
    let later : Every (λ (k : Kept). (suc low < k.uid) × (k.uid ≤ suc low + count)) messages = Every-zip (λ (k : Kept). kept.uid < k.uid) (λ (k : Kept). (low < k.uid) × (k.uid ≤ low + suc count)) (λ (k : Kept). (suc low < k.uid) × (k.uid ≤ suc low + count)) (λ k a b. (omega (arith, h.0.0), omega (arith, b.1))) messages r.0 h.1 in
    elim (cases_eq kept.uid (suc low)) [
      | inl e ↦
          let rest = filter_map-agree (λ uid. kept_at uid (kept ∷ messages)) (λ uid. kept_at uid messages) (numbers (suc low) count) (Every-numbers (λ uid. kept_at uid (kept ∷ messages) ≡ kept_at uid messages) (suc low) count (λ uid a b. rw (ne_eqb kept.uid uid (λ same. absurd (omega arith))))) in
          rw (eq-eqb kept.uid (suc low) e) (ap (λ list. kept ∷ list) (rest ∙ kept_at-all (suc low) count messages r.1 later))
      | inr ne ↦
          let above : suc low < kept.uid = omega (arith, h.0.0) in
          let none = kept_at-below (suc low) (kept ∷ messages) (above, Every-weaker (λ (k : Kept). (suc low < k.uid) × (k.uid ≤ suc low + count)) (λ (k : Kept). suc low < k.uid) (λ k a. a.0) messages later) in
          (λ i. cons_option (none i) (filter_map (λ uid. kept_at uid (kept ∷ messages)) (numbers (suc low) count))) ∙ kept_at-all (suc low) count (kept ∷ messages) r ((above, omega (arith, h.0.1)), later)
    ]
