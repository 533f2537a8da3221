-- Lists of descriptors by rising uid, and what changes make of them.
use Rattle.std.proofs.Common.{◌≡◌, ℕ, ◌<◌, ◌==◌, Bool, true, false, cond, not, nat_lt, List, [], ◌∷◌, ◌++◌, map, filter, find, Option, None, Some, refl, sym, ◌∙◌, ap, subst, inl, inr, arith, eq-eqb, ne_eqb, lt-ltb, le-ltb, true≢false}
use Rattle.std.specs.List.{AllByRecursion as Every, list_any, list_all}
use Rattle.std.specs.Option.{option_or, option_map_or}
use Rattle.std.proofs.lemmas.Bool.{cases_eq, cases_order, and_parts, or_parts, not-true, ltb-true, eqb-true}
use Rattle.pc_message.specs.declared.descriptor.Descriptor.{Descriptor}
use Rattle.pc_message.specs.declared.descriptor.Change.{Change}
use Rattle.pc_message.specs.declared.descriptor.Change.TheVariants.{Present, Expunged}
use Rattle.pc_tables.proofs.Booleans.{cond_same}
use Rattle.pc_tables.proofs.Lists.{Every-weaker, Every-append, Every-filter, Every-passes}
use Rattle.pc_tables.proofs.Options.{option_or-none}
use Rattle.pc_tables.proofs.Order.{Ordered-filter, Ordered-append}
use Rattle.pc_cache_history.specs.Entry.{uid_of, shown_by}
use Rattle.pc_cache_history.specs.Record.{descriptor_at}
use Rattle.pc_cache_history.specs.Effect.{with_descriptor, with_change, with_changes, shown}
use Rattle.pc_cache_history.specs.Allowed.{are_different, has_flags}
use Rattle.pc_cache_history.specs.Legal.{AreRising, AreDescriptors}

pub eqb-sym : (a b : ℕ) → (a == b) ≡ (b == a)
eqb-sym a b = elim (cases_eq a b) [ inl e ↦ eq-eqb a b e ∙ sym (eq-eqb b a (sym e)) | inr ne ↦ ne_eqb a b ne ∙ sym (ne_eqb b a (λ e. ne (sym e))) ]

-- ---- the descriptor at a uid

filter-step : (a b c : Bool) (descriptor : Descriptor) (rest : List Descriptor) (found : Option Descriptor) (uid : ℕ) → (descriptor.uid == uid) ≡ b → (b ≡ true → a ≡ c) → descriptor_at uid rest ≡ cond c found None → descriptor_at uid (cond a (descriptor ∷ rest) rest) ≡ cond c (cond b (Some descriptor) found) None
filter-step true true true descriptor rest found uid h g ih = rw h
filter-step true true false descriptor rest found uid h g ih = absurd (true≢false (g refl))
filter-step true false c descriptor rest found uid h g ih = rw h ih
filter-step false true true descriptor rest found uid h g ih = absurd (true≢false (sym (g refl)))
filter-step false true false descriptor rest found uid h g ih = ih
filter-step false false c descriptor rest found uid h g ih = ih

pub descriptor_at-filter : (p : ℕ → Bool) (uid : ℕ) (descriptors : List Descriptor) → descriptor_at uid (filter (λ descriptor. p descriptor.uid) descriptors) ≡ cond (p uid) (descriptor_at uid descriptors) None
descriptor_at-filter p uid [] = cond_same (p uid) None
descriptor_at-filter p uid (descriptor ∷ descriptors) = filter-step (p descriptor.uid) (descriptor.uid == uid) (p uid) descriptor (filter (λ other. p other.uid) descriptors) (descriptor_at uid descriptors) uid refl (λ e. ap p (eqb-true descriptor.uid uid e)) (descriptor_at-filter p uid descriptors)

descriptor_at-append : (uid : ℕ) (before behind : List Descriptor) → descriptor_at uid (before ++ behind) ≡ option_or (descriptor_at uid before) (descriptor_at uid behind)
descriptor_at-append uid [] behind = refl
descriptor_at-append uid (descriptor ∷ before) behind = elim (descriptor.uid == uid) as (λ b. cond b (Some descriptor) (descriptor_at uid (before ++ behind)) ≡ option_or (cond b (Some descriptor) (descriptor_at uid before)) (descriptor_at uid behind)) [ true ↦ refl | false ↦ descriptor_at-append uid before behind ]

-- one of three places
placed-step : (uid new : ℕ) (found added : Option Descriptor) → option_or (cond (nat_lt uid new) found None) (cond (new == uid) added (cond (nat_lt new uid) found None)) ≡ option_or (cond (new == uid) added None) (cond (new == uid) None found)
placed-step uid new found added =
    elim (cases_order new uid) [
      | inl e ↦ rw (eq-eqb new uid e, le-ltb uid new (omega arith)) (sym (option_or-none added))
      | inr o ↦ elim o [
        | inl above ↦ rw (ne_eqb new uid (λ e. absurd (omega arith)), le-ltb uid new (omega arith), lt-ltb new uid above)
        | inr below ↦ rw (ne_eqb new uid (λ e. absurd (omega arith)), lt-ltb uid new below, le-ltb new uid (omega arith)) (option_or-none found)
      ]
    ]

descriptor_at-placed : (uid : ℕ) (new : Descriptor) (descriptors : List Descriptor) → descriptor_at uid (with_descriptor new descriptors) ≡ cond (new.uid == uid) (Some new) (descriptor_at uid descriptors)
descriptor_at-placed uid new descriptors =
    descriptor_at-append uid (filter (λ descriptor. nat_lt descriptor.uid new.uid) descriptors) (new ∷ filter (λ descriptor. nat_lt new.uid descriptor.uid) descriptors)
    ∙ (λ i. option_or (descriptor_at-filter (λ n. nat_lt n new.uid) uid descriptors i) (cond (new.uid == uid) (Some new) (descriptor_at-filter (λ n. nat_lt new.uid n) uid descriptors i)))
    ∙ placed-step uid new.uid (descriptor_at uid descriptors) (Some new)
    ∙ elim (new.uid == uid) as (λ b. option_or (cond b (Some new) None) (cond b None (descriptor_at uid descriptors)) ≡ cond b (Some new) (descriptor_at uid descriptors)) [ true ↦ refl | false ↦ refl ]

pub descriptor_at-change : (uid : ℕ) (change : Change) (descriptors : List Descriptor) → descriptor_at uid (with_change change descriptors) ≡ cond (uid_of change == uid) (shown_by change) (descriptor_at uid descriptors)
descriptor_at-change uid (Present new) descriptors = descriptor_at-placed uid new descriptors
descriptor_at-change uid (Expunged gone) descriptors =
    descriptor_at-filter (λ n. not (n == gone)) uid descriptors
    ∙ (λ i. cond (not (eqb-sym uid gone i)) (descriptor_at uid descriptors) None)
    ∙ elim (gone == uid) as (λ b. cond (not b) (descriptor_at uid descriptors) None ≡ cond b None (descriptor_at uid descriptors)) [ true ↦ refl | false ↦ refl ]

-- no change names the uid
unnamed : (uid : ℕ) (changes : List Change) → list_any (λ other. uid == other) (map uid_of changes) ≡ false → ◌≡◌ {A = Option Change} (find (λ change. uid_of change == uid) changes) None
unnamed uid [] h = refl
unnamed uid (change ∷ changes) h =
    let parts = or_parts (uid == uid_of change) (list_any (λ other. uid == other) (map uid_of changes)) h in
    rw (eqb-sym (uid_of change) uid ∙ parts.0) (unnamed uid changes parts.1)

-- these changes name other uids
pub differ : (uid : ℕ) (changes : List Change) → list_any (λ other. uid == other) (map uid_of changes) ≡ false → Every (λ (change : Change). (uid == uid_of change) ≡ false) changes
differ uid [] h = tt
differ uid (change ∷ changes) h = let parts = or_parts (uid == uid_of change) (list_any (λ other. uid == other) (map uid_of changes)) h in (parts.0, differ uid changes parts.1)

pub descriptor_at-changes : (uid : ℕ) (changes : List Change) (descriptors : List Descriptor) → are_different ◌==◌ (map uid_of changes) ≡ true → descriptor_at uid (with_changes changes descriptors) ≡ shown changes uid (descriptor_at uid descriptors)
descriptor_at-changes uid [] descriptors h = refl
descriptor_at-changes uid (change ∷ changes) descriptors h =
    let parts = and_parts (not (list_any (λ other. uid_of change == other) (map uid_of changes))) (are_different ◌==◌ (map uid_of changes)) h in
    let before = descriptor_at uid descriptors in
    descriptor_at-changes uid changes (with_change change descriptors) parts.1
    ∙ ap (shown changes uid) (descriptor_at-change uid change descriptors)
    ∙ elim (uid_of change == uid) as (λ b. (uid_of change == uid) ≡ b → shown changes uid (cond b (shown_by change) before) ≡ option_map_or shown_by (cond b (Some change) (find (λ other. uid_of other == uid) changes)) before) [
      | true ↦ λ e. ap (λ found. option_map_or shown_by found (shown_by change)) (unnamed uid changes (subst (λ n. list_any (λ other. n == other) (map uid_of changes) ≡ false) (eqb-true (uid_of change) uid e) (not-true (list_any (λ other. uid_of change == other) (map uid_of changes)) parts.0)))
      | false ↦ λ e. refl
    ] refl

-- ---- uids rise

pub rising-placed : (new : Descriptor) (descriptors : List Descriptor) → AreRising descriptors → AreRising (with_descriptor new descriptors)
rising-placed new descriptors h =
    let R = λ (descriptor later : Descriptor). descriptor.uid < later.uid in
    let below = filter (λ (descriptor : Descriptor). nat_lt descriptor.uid new.uid) descriptors in
    let above = filter (λ (descriptor : Descriptor). nat_lt new.uid descriptor.uid) descriptors in
    let above_new : Every (λ (descriptor : Descriptor). new.uid < descriptor.uid) above = Every-weaker (λ (descriptor : Descriptor). nat_lt new.uid descriptor.uid ≡ true) (λ (descriptor : Descriptor). new.uid < descriptor.uid) (λ descriptor e. ltb-true new.uid descriptor.uid e) above (Every-passes (λ (descriptor : Descriptor). nat_lt new.uid descriptor.uid) descriptors) in
    Ordered-append R below (new ∷ above)
    (Ordered-filter R (λ descriptor. nat_lt descriptor.uid new.uid) descriptors h)
    (above_new, Ordered-filter R (λ descriptor. nat_lt new.uid descriptor.uid) descriptors h)
    (Every-weaker (λ (descriptor : Descriptor). nat_lt descriptor.uid new.uid ≡ true) (λ (descriptor : Descriptor). Every (R descriptor) (new ∷ above)) (λ descriptor e. let under = ltb-true descriptor.uid new.uid e in (under, Every-weaker (λ (later : Descriptor). new.uid < later.uid) (R descriptor) (λ later g. omega arith) above above_new)) below (Every-passes (λ (descriptor : Descriptor). nat_lt descriptor.uid new.uid) descriptors))

pub AreDescriptors-change : (change : Change) (descriptors : List Descriptor) → has_flags change ≡ true → AreDescriptors descriptors → AreDescriptors (with_change change descriptors)
AreDescriptors-change (Present new) descriptors e h = record {
  rising = rising-placed new descriptors h.rising;
  flags = Every-append (λ (descriptor : Descriptor). descriptor.flags < 65536) (filter (λ (descriptor : Descriptor). nat_lt descriptor.uid new.uid) descriptors) (new ∷ filter (λ (descriptor : Descriptor). nat_lt new.uid descriptor.uid) descriptors) (Every-filter (λ (descriptor : Descriptor). descriptor.flags < 65536) (λ descriptor. nat_lt descriptor.uid new.uid) descriptors h.flags) (ltb-true new.flags 65536 e, Every-filter (λ (descriptor : Descriptor). descriptor.flags < 65536) (λ descriptor. nat_lt new.uid descriptor.uid) descriptors h.flags);
}
AreDescriptors-change (Expunged uid) descriptors e h = record {
  rising = Ordered-filter (λ (descriptor later : Descriptor). descriptor.uid < later.uid) (λ descriptor. not (descriptor.uid == uid)) descriptors h.rising;
  flags = Every-filter (λ (descriptor : Descriptor). descriptor.flags < 65536) (λ descriptor. not (descriptor.uid == uid)) descriptors h.flags;
}

pub AreDescriptors-changes : (changes : List Change) (descriptors : List Descriptor) → list_all has_flags changes ≡ true → AreDescriptors descriptors → AreDescriptors (with_changes changes descriptors)
AreDescriptors-changes [] descriptors e h = h
AreDescriptors-changes (change ∷ changes) descriptors e h = let parts = and_parts (has_flags change) (list_all has_flags changes) e in AreDescriptors-changes changes (with_change change descriptors) parts.1 (AreDescriptors-change change descriptors parts.0 h)
