use Rattle.std.proofs.Common.{◌≡◌, ℕ, suc, Bool, true, false, cond, List, length, slice_get, Option, Some, sym, ap, ◌∙◌}
use Rattle.std.specs.Map.{values_of}
use Rattle.std.specs.Option.{option_map_or, is_some}
use Rattle.indexmap.specs.IndexMap.{set_value_at}
use Rattle.indexmap.specs.Layout.{length-set_value_at}
use Rattle.pc_office_history.specs.declared.kept.Target.{Target}
use Rattle.pc_office_history.specs.Record.{target_of}
use Rattle.pc_office_holdings.specs.declared.users.Standing.{Standing}
use Rattle.pc_tables.specs.Fronts.{front_mapped}
use Rattle.pc_office_holdings.specs.Step.{awaited, with_mail}
use Rattle.pc_tables.proofs.Fronts.{item-at, front-kept, front-set, keys-set-at, value-at, none-at, within-values}
use Rattle.pc_office_holdings.proofs.users.Users.await_at.Goals as goal
use Rattle.pc_office_holdings.proofs.users.Users.await_at.Goals.{in-Some, in_default}

abbrev Table : Type 0
Table = List (List ℕ × Standing)

abbrev IsOne : List Target → List ℕ × Standing → Bool
IsOne targets user = is_some (target_of user.0 targets)

-- whether the user of an entry that is found is a target
told : (targets : List Target) (table : Table) (place : ℕ) (user : List ℕ × Standing) (answer : Bool) → answer ≡ option_map_or (IsOne targets) (slice_get table place) false → slice_get table place ≡ Some user → IsOne targets user ≡ answer
told targets table place user answer e found = sym (e ∙ ap (λ (o : Option (List ℕ × Standing)). option_map_or (IsOne targets) o false) found)

pub returns-then-not-is_target-clause-changed : goal.returns-then-not-is_target-clause-changed
returns-then-not-is_target-clause-changed c = λ all e.
    let targets = c.args.targets.now in
    let found = item-at c.args.index c.args.self.now c.requires in
    let other : IsOne targets found.0 ≡ false = told targets c.args.self.now c.args.index found.0 false c.if-not-is_target.ensures found.1 in
    let kept : awaited targets c.args.weight found.0 ≡ found.0 = ap (λ b. (found.0.0, cond b (with_mail c.args.weight found.0.1) found.0.1)) other in
    e ∙ front-kept (awaited targets c.args.weight) c.args.index all found.0 (ap (λ (t : Table). slice_get t c.args.index) (sym e) ∙ found.1) kept

pub invariant_of-self : goal.invariant_of-self
invariant_of-self c = elim c.match-get_index_mut.branch [
  | in-Some w ↦ rw w.self-inside-is (c.self.invariant ∙ sym (keys-set-at c.self.inside.table.entries c.args.index w.add.new.self))
  | in_default w ↦ rw w.self-inside-is c.self.invariant
]

-- the user at a place is counted one mail more
counted : (targets : List Target) (weight place : ℕ) (table inside all : Table) (user : List ℕ × Standing) (old new : Standing) → inside ≡ table → table ≡ front_mapped (awaited targets weight) place all → slice_get table place ≡ Some user → IsOne targets user ≡ true → Some old ≡ slice_get (values_of inside) place → new ≡ with_mail weight old → set_value_at inside place new ≡ front_mapped (awaited targets weight) (suc place) all
counted targets weight place table inside all user old new same e found one value h =
    let here : user.1 ≡ old = value-at table place user old found (ap (λ (t : Table). slice_get (values_of t) place) (sym same) ∙ sym value) in
    let changed : awaited targets weight user ≡ (user.0, new) = ap (λ b. (user.0, cond b (with_mail weight user.1) user.1)) one ∙ ap (λ standing. (user.0, standing)) (ap (with_mail weight) here ∙ sym h) in
    ap (λ (t : Table). set_value_at t place new) (same ∙ e) ∙ front-set (awaited targets weight) place all user new (ap (λ (t : Table). slice_get t place) (sym e) ∙ found) changed

pub returns-clause-changed : goal.returns-clause-changed
returns-clause-changed c = λ all e.
    let targets = c.args.targets.now in
    let found = item-at c.args.index c.args.self.now c.requires in
    let one : IsOne targets found.0 ≡ true = told targets c.args.self.now c.args.index found.0 true c.if-not-is_target.ensures found.1 in
    elim c.match-get_index_mut.branch [
      | in-Some w ↦ rw w.self-inside-is (counted targets c.args.weight c.args.index c.args.self.now c.self.inside.table.entries all found.0 w.in-Some.standing.now w.add.new.self c.self.view_is e found.1 one w.in-Some.ensures.value w.add.ensures)
      | in_default w ↦ absurd (none-at c.args.index (values_of c.self.inside.table.entries) (rw (within-values c.self.inside.table.entries, c.self.view_is) c.requires) (sym w.in_default.ensures.value))
    ]

pub returns-clause-count : goal.returns-clause-count
returns-clause-count c = elim c.match-get_index_mut.branch [
  | in-Some w ↦ rw w.self-inside-is (length-set_value_at c.self.inside.table.entries c.args.index w.add.new.self ∙ ap (λ (t : Table). length t) c.self.view_is)
  | in_default w ↦ rw w.self-inside-is (ap (λ (t : Table). length t) c.self.view_is)
]
