-- One entry more: what the record says after it is what is known after it.
use Rattle.std.proofs.Common.{◌≡◌, ℕ, ◌==◌, Bool, true, false, cond, not, ◌&&◌, nat_le, List, [], ◌∷◌, ◌++◌, length, map, filter, Option, None, Some, is_some, unwrap_or, option_map, refl, sym, ◌∙◌, ap, true≢false}
use Rattle.std.specs.List.{list_all}
use Rattle.std.specs.Map.{lookup, keys_of, set_value}
use Rattle.std.specs.Option.{option_or}
use Rattle.std.proofs.lemmas.Bool.{and_parts}
use Rattle.pc_message.specs.declared.descriptor.Descriptor.{Descriptor}
use Rattle.pc_message.specs.declared.descriptor.Change.{Change}
use Rattle.pc_tables.specs.Table.{same, is_among}
use Rattle.pc_tables.proofs.Booleans.{and3, cond_same}
use Rattle.pc_tables.proofs.Table.{same-true, same-sym, same-refl, lookup-append, lookup-set_value, keys-append, keys-set_value, is_among-keys}
use Rattle.pc_tables.proofs.Options.{option_or-none}
use Rattle.pc_cache_history.specs.declared.limits.TheConstants.{MOST_TAKEN}
use Rattle.pc_cache_history.specs.declared.entry.CacheEntry.{CacheEntry}
use Rattle.pc_cache_history.specs.declared.entry.CacheEntry.TheVariants.{Begin, Synced, Took, Kept, Queue, Answered}
use Rattle.pc_cache_history.specs.Entry.{uid_of}
use Rattle.pc_cache_history.specs.Record.{CacheRecord, descriptors_in, descriptor_at}
use Rattle.pc_cache_history.specs.Effect.{with_changes, birth_after, resetting_after, mailboxes_after, base_after, descriptors_after, last_after, queue_after, shown}
use Rattle.pc_cache_history.specs.Known.{Known, said_by, after_entry}
use Rattle.pc_cache_history.specs.Allowed.{are_different, has_flags, are_changes, is_short, has_room, is_allowed}
use Rattle.pc_cache_history.specs.Step.{with_value, under, after}
use Rattle.pc_cache_history.proofs.Descriptors.{descriptor_at-changes}

-- ---- what an allowed entry has

pub took-parts : (k : Known) (mailbox : List ℕ) (changes : List Change) → is_allowed k (Took mailbox changes) ≡ true → (not k.resetting ≡ true) × (are_changes changes ≡ true) × (is_short mailbox changes ≡ true) × (has_room (after_entry k (Took mailbox changes)) ≡ true)
took-parts k mailbox changes h =
    let room = and_parts (not k.resetting && are_changes changes && is_short mailbox changes) (has_room (after_entry k (Took mailbox changes))) h in
    let parts = and3 (not k.resetting) (are_changes changes) (is_short mailbox changes) room.0 in
    (parts.0, parts.1, parts.2, room.1)

pub changes-parts : (changes : List Change) → are_changes changes ≡ true → (nat_le (length changes) MOST_TAKEN ≡ true) × (are_different ◌==◌ (map uid_of changes) ≡ true) × (list_all has_flags changes ≡ true)
changes-parts changes h = and3 (nat_le (length changes) MOST_TAKEN) (are_different ◌==◌ (map uid_of changes)) (list_all has_flags changes) h

-- ---- tables

module _ {X : Type 0} where
  found-anew : (value : X) (found : Option X) → is_some found ≡ true → option_map (λ _. value) found ≡ Some value
  found-anew value None h = absurd (true≢false (sym h))
  found-anew value (Some x) h = refl

  pub absent : (found : Option X) → is_some found ≡ false → found ≡ None
  absent None h = refl
  absent (Some x) h = absurd (true≢false h)

  lookup-push : (name asked : List ℕ) (value : X) (table : List (List ℕ × X)) → lookup (same name) table ≡ None → lookup (same asked) (table ++ (name, value) ∷ []) ≡ cond (same name asked) (Some value) (lookup (same asked) table)
  lookup-push name asked value table free = lookup-append (same asked) table ((name, value) ∷ []) ∙ elim (same name asked) as (λ b. same name asked ≡ b → option_or (lookup (same asked) table) (cond (same asked name) (Some value) None) ≡ cond b (Some value) (lookup (same asked) table)) [
    | true ↦ λ e. ap (λ n. option_or (lookup (same n) table) (cond (same n name) (Some value) None)) (sym (same-true name asked e)) ∙ (λ i. option_or (free i) (cond (same-refl name i) (Some value) None))
    | false ↦ λ e. ap (λ b. option_or (lookup (same asked) table) (cond b (Some value) None)) (same-sym asked name ∙ e) ∙ option_or-none (lookup (same asked) table)
  ] refl

  pub lookup-with_value : (name asked : List ℕ) (value : X) (table : List (List ℕ × X)) → lookup (same asked) (with_value name value table) ≡ cond (same name asked) (Some value) (lookup (same asked) table)
  lookup-with_value name asked value table = elim (is_some (lookup (same name) table)) as (λ b. is_some (lookup (same name) table) ≡ b → lookup (same asked) (cond b (set_value (same name) table value) (table ++ (name, value) ∷ [])) ≡ cond (same name asked) (Some value) (lookup (same asked) table)) [
    | true ↦ λ e. lookup-set_value name asked table value ∙ ap (λ found. cond (same name asked) found (lookup (same asked) table)) (found-anew value (lookup (same name) table) e)
    | false ↦ λ e. lookup-push name asked value table (absent (lookup (same name) table) e)
  ] refl

  pub keys-with_value : (name : List ℕ) (value : X) (table : List (List ℕ × X)) → keys_of (with_value name value table) ≡ cond (is_among name (keys_of table)) (keys_of table) (keys_of table ++ name ∷ [])
  keys-with_value name value table =
      elim (is_some (lookup (same name) table)) as (λ b. keys_of (cond b (set_value (same name) table value) (table ++ (name, value) ∷ [])) ≡ cond b (keys_of table) (keys_of table ++ name ∷ [])) [ true ↦ keys-set_value (same name) table value | false ↦ keys-append table ((name, value) ∷ []) ]
      ∙ ap (λ b. cond b (keys_of table) (keys_of table ++ name ∷ [])) (sym (is_among-keys name table))

  under-step : (a b c : Bool) (entry : List ℕ × X) (rest : List (List ℕ × X)) (found : Option X) (asked : List ℕ) → same asked entry.0 ≡ b → (b ≡ true → a ≡ c) → lookup (same asked) rest ≡ cond c found None → lookup (same asked) (cond a (entry ∷ rest) rest) ≡ cond c (cond b (Some entry.1) found) None
  under-step true true true entry rest found asked h g ih = rw h
  under-step true true false entry rest found asked h g ih = absurd (true≢false (g refl))
  under-step true false c entry rest found asked h g ih = rw h ih
  under-step false true true entry rest found asked h g ih = absurd (true≢false (sym (g refl)))
  under-step false true false entry rest found asked h g ih = ih
  under-step false false c entry rest found asked h g ih = ih

  pub lookup-under : (names : List (List ℕ)) (asked : List ℕ) (table : List (List ℕ × X)) → lookup (same asked) (under names table) ≡ cond (is_among asked names) (lookup (same asked) table) None
  lookup-under names asked [] = cond_same (is_among asked names) None
  lookup-under names asked (entry ∷ table) = under-step (is_among entry.0 names) (same asked entry.0) (is_among asked names) entry (under names table) (lookup (same asked) table) asked refl (λ e. ap (λ n. is_among n names) (sym (same-true asked entry.0 e))) (lookup-under names asked table)

  pub keys-under : (names : List (List ℕ)) (table : List (List ℕ × X)) → keys_of (under names table) ≡ filter (λ name. is_among name names) (keys_of table)
  keys-under names [] = refl
  keys-under names (entry ∷ table) = elim (is_among entry.0 names) as (λ b. keys_of (cond b (entry ∷ under names table) (under names table)) ≡ cond b (entry.0 ∷ filter (λ name. is_among name names) (keys_of table)) (filter (λ name. is_among name names) (keys_of table))) [ true ↦ ap (λ keys. entry.0 ∷ keys) (keys-under names table) | false ↦ keys-under names table ]

-- ---- all together

-- what is known of one uid is what stands in the list
pub base-listed : (k : Known) (e : CacheEntry) → is_allowed k e ≡ true → (mailbox : List ℕ) (uid : ℕ) (descriptors : List Descriptor) → base_after e mailbox uid (descriptor_at uid descriptors) ≡ descriptor_at uid (descriptors_after e mailbox descriptors)
base-listed k (Took taken changes) h mailbox uid descriptors = elim (same taken mailbox) as (λ b. cond b (shown changes uid (descriptor_at uid descriptors)) (descriptor_at uid descriptors) ≡ descriptor_at uid (cond b (with_changes changes descriptors) descriptors)) [
  | true ↦ sym (descriptor_at-changes uid changes descriptors (changes-parts changes (took-parts k taken changes h).1).1)
  | false ↦ refl
]
base-listed k (Kept names) h mailbox uid descriptors = elim (is_among mailbox names) as (λ b. cond b (descriptor_at uid descriptors) None ≡ descriptor_at uid (cond b descriptors [])) [ true ↦ refl | false ↦ refl ]
base-listed k (Begin birth) h mailbox uid descriptors = refl
base-listed k _ h mailbox uid descriptors = refl

module _ (r : CacheRecord) where
  pub mailboxes-step : (e : CacheEntry) → mailboxes_after e (keys_of r.mailboxes) ≡ keys_of (after r e).mailboxes
  mailboxes-step (Took mailbox changes) = sym (keys-with_value mailbox (with_changes changes (descriptors_in r mailbox)) r.mailboxes)
  mailboxes-step (Kept names) = sym (keys-under names r.mailboxes)
  mailboxes-step (Begin birth) = refl
  mailboxes-step _ = refl

  descriptors-step : (e : CacheEntry) (mailbox : List ℕ) → descriptors_after e mailbox (descriptors_in r mailbox) ≡ descriptors_in (after r e) mailbox
  descriptors-step (Took taken changes) mailbox = sym (
      ap (λ found. unwrap_or found []) (lookup-with_value taken mailbox (with_changes changes (descriptors_in r taken)) r.mailboxes)
      ∙ elim (same taken mailbox) as (λ b. same taken mailbox ≡ b → unwrap_or (cond b (Some (with_changes changes (descriptors_in r taken))) (lookup (same mailbox) r.mailboxes)) [] ≡ cond b (with_changes changes (descriptors_in r mailbox)) (descriptors_in r mailbox)) [
        | true ↦ λ e. ap (λ name. with_changes changes (descriptors_in r name)) (same-true taken mailbox e)
        | false ↦ λ e. refl
      ] refl
      )
  descriptors-step (Kept names) mailbox = sym (
      ap (λ found. unwrap_or found []) (lookup-under names mailbox r.mailboxes)
      ∙ elim (is_among mailbox names) as (λ b. unwrap_or (cond b (lookup (same mailbox) r.mailboxes) None) [] ≡ cond b (descriptors_in r mailbox) []) [ true ↦ refl | false ↦ refl ]
      )
  descriptors-step (Begin birth) mailbox = refl
  descriptors-step _ mailbox = refl

  birth-step : (e : CacheEntry) → birth_after e r.birth ≡ (after r e).birth
  birth-step (Begin birth) = refl
  birth-step Synced = refl
  birth-step _ = refl

  resetting-step : (e : CacheEntry) → resetting_after e r.resetting ≡ (after r e).resetting
  resetting-step (Begin birth) = refl
  resetting-step Synced = refl
  resetting-step _ = refl

  last-step : (e : CacheEntry) → last_after e r.last ≡ (after r e).last
  last-step (Queue mailbox uid flag on) = refl
  last-step Synced = refl
  last-step _ = refl

  queue-step : (e : CacheEntry) → queue_after e r.last r.queue ≡ (after r e).queue
  queue-step (Queue mailbox uid flag on) = refl
  queue-step (Answered number) = refl
  queue-step Synced = refl
  queue-step _ = refl

  -- what is known after an entry is what the record says after it
  pub after-said_by : (e : CacheEntry) → is_allowed (said_by r) e ≡ true → after_entry (said_by r) e ≡ said_by (after r e)
  after-said_by e allowed = λ i. record {
    birth = birth-step e i;
    resetting = resetting-step e i;
    mailboxes = mailboxes-step e i;
    base = λ mailbox uid. (base-listed (said_by r) e allowed mailbox uid (descriptors_in r mailbox) ∙ ap (descriptor_at uid) (descriptors-step e mailbox)) i;
    descriptors = λ mailbox. descriptors-step e mailbox i;
    last = last-step e i;
    queue = queue-step e i;
  }
