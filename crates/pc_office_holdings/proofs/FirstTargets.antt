-- The targets of names, found one name after the other.
use Rattle.std.proofs.Common.{◌≡◌, ℕ, ◌+◌, ◌<◌, ◌≤◌, Bool, true, false, cond, not, List, [], ◌∷◌, ◌++◌, length, take, slice_index_or, Option, None, Some, is_some, refl, sym, ap, ◌∙◌, append-nil}
use Rattle.std.specs.Option.{option_map_or}
use Rattle.std.proofs.lemmas.List.{take_more, take_all}
use Rattle.std.proofs.lemmas.List.Elements.{filter-append}
use Rattle.pc_tables.specs.Table.{same}
use Rattle.pc_tables.proofs.Table.{same-sym}
use Rattle.pc_office_history.specs.declared.kept.Target.{Target}
use Rattle.pc_office_history.specs.Record.{target_of}
use Rattle.pc_office_history.specs.Effect.{other_targets, targets_of}
use Rattle.pc_office_history.proofs.Mails.{target_of-others}
use Rattle.pc_office_holdings.specs.Step.{with_target}

others-append : (user : List ℕ) (targets more : List Target) → other_targets user (targets ++ more) ≡ other_targets user targets ++ other_targets user more
others-append user targets more = filter-append (λ (target : Target). not (same user target.user)) targets more

abbrev joined : Bool → Target → List Target → List Target
joined there target targets = cond there targets (targets ++ target ∷ [])

-- a target of the first user isn't put behind the others
own-step : (first target : Target) (targets : List Target) (there : Bool) → same first.user target.user ≡ true → other_targets first.user (joined there target targets) ≡ other_targets first.user targets
own-step first target targets true e = refl
own-step first target targets false e = others-append first.user targets (target ∷ []) ∙ ap (λ b. other_targets first.user targets ++ cond (not b) (target ∷ []) []) e ∙ append-nil (other_targets first.user targets)

-- one of another user is
other-step : (first target : Target) (targets : List Target) (there : Bool) → same first.user target.user ≡ false → first ∷ other_targets first.user (joined there target targets) ≡ joined there target (first ∷ other_targets first.user targets)
other-step first target targets true e = refl
other-step first target targets false e = ap (λ rest. first ∷ rest) (others-append first.user targets (target ∷ []) ∙ ap (λ b. other_targets first.user targets ++ cond (not b) (target ∷ []) []) e)

some-step : (first target : Target) (targets : List Target) (b : Bool) → same target.user first.user ≡ b → first ∷ other_targets first.user (joined (is_some (target_of target.user targets)) target targets) ≡ joined (is_some (cond b (Some first) (target_of target.user (other_targets first.user targets)))) target (first ∷ other_targets first.user targets)
some-step first target targets true e = ap (λ rest. first ∷ rest) (own-step first target targets (is_some (target_of target.user targets)) (same-sym first.user target.user ∙ e))
some-step first target targets false e =
    let other = same-sym first.user target.user ∙ e in
    let there = target_of-others first.user target.user targets ∙ ap (λ b. cond b None (target_of target.user targets)) other in
    other-step first target targets (is_some (target_of target.user targets)) other
    ∙ ap (λ (found : Option Target). joined (is_some found) target (first ∷ other_targets first.user targets)) (sym there)

first-step : (owner found : Option Target) (targets : List Target) → option_map_or (λ (first : Target). first ∷ other_targets first.user (with_target found targets)) owner (with_target found targets) ≡ with_target found (option_map_or (λ (first : Target). first ∷ other_targets first.user targets) owner targets)
first-step None found targets = refl
first-step (Some first) None targets = refl
first-step (Some first) (Some target) targets = some-step first target targets (same target.user first.user) refl

last-step : (found : Option Target) → option_map_or (λ (first : Target). first ∷ other_targets first.user []) found [] ≡ with_target found []
last-step None = refl
last-step (Some target) = refl

-- a name more adds its user, unless it is there
pub targets-more : (owner : List ℕ → Option Target) (names : List (List ℕ)) (name : List ℕ) → targets_of owner (names ++ name ∷ []) ≡ with_target (owner name) (targets_of owner names)
targets-more owner [] name = last-step (owner name)
targets-more owner (first ∷ names) name =
    ap (λ (targets : List Target). option_map_or (λ (one : Target). one ∷ other_targets one.user targets) (owner first) targets) (targets-more owner names name)
    ∙ first-step (owner first) (owner name) (targets_of owner names)

-- so too for the front of the names
pub front-targets : (owner : List ℕ → Option Target) (names : List (List ℕ)) (place : ℕ) (name : List ℕ) (before now : List Target) → place < length names → name ≡ slice_index_or names place name → before ≡ targets_of owner (take place names) → now ≡ with_target (owner name) before → now ≡ targets_of owner (take (place + 1) names)
front-targets owner names place name before now within is e step =
    step ∙ ap (with_target (owner name)) e ∙ sym (targets-more owner (take place names) name)
    ∙ ap (λ n. targets_of owner (take place names ++ n ∷ [])) is ∙ sym (ap (targets_of owner) (take_more names place name within))

pub all-targets : (owner : List ℕ → Option Target) (names : List (List ℕ)) (place : ℕ) → length names ≤ place → targets_of owner (take place names) ≡ targets_of owner names
all-targets owner names place past = ap (targets_of owner) (take_all place names past)
