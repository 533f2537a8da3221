-- The names to which a message is sent, and what a plan allows.
use Rattle.std.proofs.Common.{◌≡◌, ℕ, ◌<◌, ◌≤◌, Bool, true, false, cond, not, ◌&&◌, ◌||◌, List, [], ◌∷◌, length, Option, None, Some, Ok, Err, refl, sym, ap, ◌∙◌, subst, arith, le-ltb, true≢false}
use Rattle.std.specs.Option.{option_map_or}
use Rattle.std.specs.List.{filter, find, list_all}
use Rattle.std.specs.Str.{bytes_eq}
use Rattle.std.proofs.lemmas.Bool.{and_parts}
use Rattle.std.proofs.lemmas.Slice.Eq.{bytes_eq-Decides}
use Rattle.pc_base.specs.Name.{is_name}
use Rattle.pc_message.specs.Recipients.{distinct, unknown_of}
use Rattle.pc_tables.specs.Table.{same, is_among}
use Rattle.pc_tables.proofs.Table.{same-true}
use Rattle.pc_tables.proofs.Lists.{list_all-filter}
use Rattle.pc_tables.proofs.Options.{some-none}
use Rattle.pc_base.specs.declared.refusal.LimitWord.{LimitWord}
use Rattle.pc_base.specs.declared.refusal.Refusal.TheVariants.{LimitReached, UnknownRecipient}
use Rattle.pc_base.specs.declared.refusal.LimitWord.TheVariants as limit
use Rattle.pc_base.specs.Recipient.{shown_of}
use Rattle.pc_base.specs.AskFault.{Tells}
use Rattle.pc_office_history.specs.declared.entry.OfficeEntry.TheVariants.{Accept}
use Rattle.pc_office_history.specs.declared.limits.TheConstants.{MOST_RECIPIENTS}
use Rattle.pc_office_history.specs.Known.{Known}
use Rattle.pc_office_history.specs.Limits.{limit_passed}
use Rattle.pc_office_history.specs.Allowed.{are_apart}
use Rattle.pc_office.specs.Plan.{within_limits, first_stranger, sent_to_names}

-- names that are left of others don't hold one that is taken out
taken-out : (text : List ℕ) (texts : List (List ℕ)) → is_among text (filter (λ other. not (bytes_eq other text)) texts) ≡ false
taken-out text [] = refl
taken-out text (other ∷ texts) =
    let rest = filter (λ here. not (bytes_eq here text)) texts in
    elim (bytes_eq other text) as (λ b. bytes_eq other text ≡ b → is_among text (cond (not b) (other ∷ rest) rest) ≡ false) [
      | true ↦ λ _. taken-out text texts
      | false ↦ λ apart. elim (same text other) as (λ b. same text other ≡ b → (b || is_among text rest) ≡ false) [
        | true ↦ λ e. absurd (true≢false (sym ((bytes_eq-Decides other text).1 (sym (same-true text other e))) ∙ apart))
        | false ↦ λ _. taken-out text texts
      ] refl
    ] refl

-- what isn't among names isn't among those of them that pass a test
not-among-filter : (test : List ℕ → Bool) (text : List ℕ) (texts : List (List ℕ)) → is_among text texts ≡ false → is_among text (filter test texts) ≡ false
not-among-filter test text [] h = refl
not-among-filter test text (other ∷ texts) h =
    let parts = not-either (same text other) (is_among text texts) h in
    elim (test other) as (λ b. is_among text (cond b (other ∷ filter test texts) (filter test texts)) ≡ false) [
      | true ↦ rw parts.0 (not-among-filter test text texts parts.1)
      | false ↦ not-among-filter test text texts parts.1
    ]
  where
    not-either : (a b : Bool) → (a || b) ≡ false → (a ≡ false) × (b ≡ false)
    not-either true b e = absurd (true≢false e)
    not-either false b e = (refl, e)

-- names that differ still differ where some are left out
apart-filter : (test : List ℕ → Bool) (names : List (List ℕ)) → are_apart names ≡ true → are_apart (filter test names) ≡ true
apart-filter test [] h = refl
apart-filter test (name ∷ names) h =
    let parts = both (is_among name names) (are_apart names) h in
    elim (test name) as (λ b. are_apart (cond b (name ∷ filter test names) (filter test names)) ≡ true) [
      | true ↦ rw (not-among-filter test name names parts.0) (apart-filter test names parts.1)
      | false ↦ apart-filter test names parts.1
    ]
  where
    both : (a b : Bool) → (not a && b) ≡ true → (a ≡ false) × (b ≡ true)
    both true b e = absurd (true≢false (sym e))
    both false b e = (refl, e)

-- distinct names differ
pub apart-distinct : (texts : List (List ℕ)) → are_apart (distinct texts) ≡ true
unfolding distinct
apart-distinct [] = refl
apart-distinct (text ∷ texts) = rw (taken-out text (distinct texts)) (apart-filter (λ other. not (bytes_eq other text)) (distinct texts) (apart-distinct texts))

-- where no address is told as unknown, there is a name
pub some-distinct : (texts : List (List ℕ)) → unknown_of texts ≡ None → 0 < length (distinct texts)
unfolding distinct
some-distinct [] h = absurd (some-none [] h)
some-distinct (text ∷ texts) h = omega arith

-- where none is a stranger, all are known
pub none-strange : (known : List ℕ → Bool) (names : List (List ℕ)) → find (λ name. not (known name)) names ≡ None → list_all known names ≡ true
none-strange known [] h = refl
none-strange known (name ∷ names) h = elim (known name) as (λ b. cond (not b) (Some name) (find (λ other. not (known other)) names) ≡ None → (b && list_all known names) ≡ true) [
  | true ↦ λ rest. none-strange known names rest
  | false ↦ λ found. absurd (some-none name found)
] h

all-distinct : (test : List ℕ → Bool) (texts : List (List ℕ)) → list_all test texts ≡ true → list_all test (distinct texts) ≡ true
unfolding distinct
all-distinct test [] h = refl
all-distinct test (text ∷ texts) h =
    let parts = and_parts (test text) (list_all test texts) h in
    rw parts.0 (list_all-filter test (λ other. not (bytes_eq other text)) (distinct texts) (all-distinct test texts parts.1))

-- where no address is told as unknown, all are names
pub names-distinct : (texts : List (List ℕ)) → unknown_of texts ≡ None → list_all is_name (distinct texts) ≡ true
names-distinct [] h = absurd (some-none [] h)
names-distinct (text ∷ texts) h = all-distinct is_name (text ∷ texts) (none-strange is_name (text ∷ texts) h)

-- what is sent to names that are few and known, where no limit is passed, is told
pub tells-sent : (k : Known) (names message copy : List (List ℕ)) → length names ≤ MOST_RECIPIENTS → first_stranger k names ≡ None → limit_passed k (Accept names message) ≡ None → copy ≡ message → Tells (sent_to_names k message names) (Ok (Accept names copy))
tells-sent k names message copy few none within same_text =
    let entry = Ok (Accept names copy) in
    let told = subst (λ (passed : Option LimitWord). Tells (option_map_or (λ limit. Err (LimitReached limit)) passed (Ok (Accept names message))) entry) (sym within) (ap (λ (text : List (List ℕ)). Accept names text) same_text) in
    let known = subst (λ (found : Option (List ℕ)). Tells (option_map_or (λ name. Err (UnknownRecipient (shown_of name))) found (within_limits k (Accept names message))) entry) (sym none) told in
    subst (λ many. Tells (cond many (Err (LimitReached limit.Recipients)) (option_map_or (λ name. Err (UnknownRecipient (shown_of name))) (first_stranger k names) (within_limits k (Accept names message)))) entry) (sym (le-ltb MOST_RECIPIENTS (length names) few)) known
