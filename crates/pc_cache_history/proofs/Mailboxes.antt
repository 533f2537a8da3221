-- The mailboxes of a cache, and what is known of their messages.
use Rattle.std.proofs.Common.{◌≡◌, ℕ, ◌+◌, ◌<◌, ◌≤◌, ◌==◌, Bool, true, false, cond, not, ◌&&◌, ◌||◌, List, [], ◌∷◌, ◌++◌, length, map, filter, find, Option, None, Some, unwrap_or, refl, sym, ◌∙◌, ap, subst, eq-eqb, arith, true≢false}
use Rattle.std.specs.List.{AllByRecursion as Every, list_any}
use Rattle.std.specs.Map.{lookup, keys_of}
use Rattle.std.specs.Option.{option_map_or}
use Rattle.std.proofs.lemmas.Bool.{and_parts, or_parts, not-true, leb-true}
use Rattle.std.proofs.lemmas.List.Folds.{list_any-append}
use Rattle.pc_message.specs.declared.descriptor.Descriptor.{Descriptor}
use Rattle.pc_message.specs.declared.descriptor.Change.{Change}
use Rattle.pc_tables.specs.Table.{same, is_among, total}
use Rattle.pc_tables.specs.Order.{AreDistinct}
use Rattle.pc_tables.proofs.Table.{same-true, same-sym, same-refl, is_among-keys}
use Rattle.pc_tables.proofs.Lists.{Every-weaker, Every-zip}
use Rattle.pc_cache_history.specs.declared.limits.TheConstants.{MOST_TAKEN_BYTES}
use Rattle.pc_cache_history.specs.declared.entry.CacheEntry.{CacheEntry}
use Rattle.pc_cache_history.specs.declared.entry.CacheEntry.TheVariants.{Begin, Synced, Took, Kept, Queue, Answered}
use Rattle.pc_cache_history.specs.Entry.{uid_of, shown_by}
use Rattle.pc_cache_history.specs.Record.{CacheRecord, descriptors_in}
use Rattle.pc_cache_history.specs.Effect.{shown}
use Rattle.pc_cache_history.specs.Known.{Known, after_entry}
use Rattle.pc_cache_history.specs.History.{History, start, ◌▻◌, ◌▻▻◌, known}
use Rattle.pc_cache_history.specs.Allowed.{are_different, took_bytes, is_allowed, IsWithin}
use Rattle.pc_cache_history.specs.Step.{record_of}
use Rattle.pc_cache_history.specs.Legal.{IsCanonical, IsLegal}
use Rattle.pc_cache_history.specs.Laws.{IsReadOff, is_cached, AreCached, IsListed, is_named, IsReplaced, IsCutTo, IsBegun, IsEmptyWhereResetting, ResettingIsEmpty, NewCacheIsLegal}
use Rattle.pc_cache_history.proofs.Descriptors.{differ}
use Rattle.pc_cache_history.proofs.Agreement.{absent, took-parts, changes-parts}
use Rattle.pc_cache_history.proofs.FormedAfter.{AreDescriptors-in}
use Rattle.pc_cache_history.proofs.Histories.{Stands-legal, legal-front}
use Rattle.pc_cache_history.proofs.Lists.{found-own}

-- ---- tables in which no name comes twice

module _ {X : Type 0} where
  lookup-own : (table : List (List ℕ × X)) → AreDistinct (keys_of table) → Every (λ (entry : List ℕ × X). lookup (same entry.0) table ≡ Some entry.1) table
  lookup-own [] h = tt
  lookup-own (first ∷ table) h = (
    ap (λ b. cond b (Some first.1) (lookup (same first.0) table)) (same-refl first.0),
    Every-zip (λ (entry : List ℕ × X). same first.0 entry.0 ≡ false) (λ (entry : List ℕ × X). lookup (same entry.0) table ≡ Some entry.1) (λ (entry : List ℕ × X). lookup (same entry.0) (first ∷ table) ≡ Some entry.1) (λ entry e found. ap (λ b. cond b (Some first.1) (lookup (same entry.0) table)) (same-sym entry.0 first.0 ∙ e) ∙ found) table (Every-keys first.0 table h.0) (lookup-own table h.1),
  )
    where
      Every-keys : (name : List ℕ) (rest : List (List ℕ × X)) → Every (λ other. same name other ≡ false) (keys_of rest) → Every (λ (entry : List ℕ × X). same name entry.0 ≡ false) rest
      Every-keys name [] g = g
      Every-keys name (entry ∷ rest) g = (g.0, Every-keys name rest g.1)

  total-keys : (f : List ℕ → ℕ) (g : X → ℕ) (table : List (List ℕ × X)) → Every (λ (entry : List ℕ × X). f entry.0 ≡ g entry.1) table → total f (keys_of table) ≡ total (λ entry. g entry.1) table
  total-keys f g [] h = refl
  total-keys f g (entry ∷ table) h = λ i. h.0 i + total-keys f g table h.1 i

pub read-off : (r : CacheRecord) → IsCanonical r → IsReadOff r
read-off r canonical =
    let own : Every (λ (mailbox : List ℕ × List Descriptor). descriptors_in r mailbox.0 ≡ mailbox.1) r.mailboxes = Every-weaker (λ (mailbox : List ℕ × List Descriptor). lookup (same mailbox.0) r.mailboxes ≡ Some mailbox.1) (λ (mailbox : List ℕ × List Descriptor). descriptors_in r mailbox.0 ≡ mailbox.1) (λ mailbox e. ap (λ found. unwrap_or found []) e) r.mailboxes (lookup-own r.mailboxes canonical.names) in
    record {
      mailboxes = own;
      count = total-keys (λ mailbox. length (descriptors_in r mailbox)) length r.mailboxes (Every-weaker (λ (mailbox : List ℕ × List Descriptor). descriptors_in r mailbox.0 ≡ mailbox.1) (λ (mailbox : List ℕ × List Descriptor). length (descriptors_in r mailbox.0) ≡ length mailbox.1) (λ mailbox e. ap length e) r.mailboxes own);
    }

-- ---- which mailboxes there are

or-false : (b : Bool) → (b || false) ≡ b
or-false true = refl
or-false false = refl

among-taken : (asked taken : List ℕ) (names : List (List ℕ)) → is_among asked (cond (is_among taken names) names (names ++ taken ∷ [])) ≡ (is_among asked names || same asked taken)
among-taken asked taken names = elim (is_among taken names) as (λ b. is_among taken names ≡ b → is_among asked (cond b names (names ++ taken ∷ [])) ≡ (is_among asked names || same asked taken)) [
  | true ↦ λ e. elim (same asked taken) as (λ b. same asked taken ≡ b → is_among asked names ≡ (is_among asked names || b)) [
    | true ↦ λ g. let there : is_among asked names ≡ true = ap (λ name. is_among name names) (same-true asked taken g) ∙ e in there ∙ sym (ap (λ b. b || true) there)
    | false ↦ λ g. sym (or-false (is_among asked names))
  ] refl
  | false ↦ λ e. list_any-append (same asked) names (taken ∷ []) ∙ ap (λ b. is_among asked names || b) (or-false (same asked taken))
] refl

among-kept : (asked : List ℕ) (kept names : List (List ℕ)) → is_among asked (filter (λ name. is_among name kept) names) ≡ (is_among asked names && is_among asked kept)
among-kept asked kept [] = refl
among-kept asked kept (name ∷ names) = step (is_among name kept) (same asked name) (is_among asked kept) refl (λ e. ap (λ n. is_among n kept) (sym (same-true asked name e))) (among-kept asked kept names)
  where
    step : (a b c : Bool) → same asked name ≡ b → (b ≡ true → a ≡ c) → is_among asked (filter (λ other. is_among other kept) names) ≡ (is_among asked names && c) → is_among asked (cond a (name ∷ filter (λ other. is_among other kept) names) (filter (λ other. is_among other kept) names)) ≡ ((b || is_among asked names) && c)
    step true true true h g ih = rw h
    step true true false h g ih = absurd (true≢false (g refl))
    step true false c h g ih = rw h ih
    step false true true h g ih = absurd (true≢false (sym (g refl)))
    step false true false h g ih = ih ∙ elim (is_among asked names) as (λ b. (b && false) ≡ false) [ true ↦ refl | false ↦ refl ]
    step false false c h g ih = ih

pub members : (h : History) (mailbox : List ℕ) → is_among mailbox (known h).mailboxes ≡ is_cached h mailbox
members (start r number) mailbox = refl
members (h ▻ Begin birth) mailbox = refl
members (h ▻ Took taken changes) mailbox = among-taken mailbox taken (known h).mailboxes ∙ ap (λ b. b || same mailbox taken) (members h mailbox)
members (h ▻ Kept names) mailbox = among-kept mailbox names (known h).mailboxes ∙ ap (λ b. b && is_among mailbox names) (members h mailbox)
members (h ▻ Synced) mailbox = members h mailbox
members (h ▻ _) mailbox = members h mailbox

nothing-in : (r : CacheRecord) (mailbox : List ℕ) → is_among mailbox (keys_of r.mailboxes) ≡ false → descriptors_in r mailbox ≡ []
nothing-in r mailbox h = ap (λ found. unwrap_or found []) (absent (lookup (same mailbox) r.mailboxes) (sym (is_among-keys mailbox r.mailboxes) ∙ h))

pub cached : (h : History) → IsLegal h → AreCached h
cached h legal =
    let stands = Stands-legal h legal in
    record {
      members = members h;
      distinct = subst (λ (k : Known). AreDistinct k.mailboxes) (sym stands.alike) stands.canonical.names;
      nothing = λ mailbox e. subst (λ (k : Known). is_among mailbox k.mailboxes ≡ false → k.descriptors mailbox ≡ []) (sym stands.alike) (nothing-in (record_of h) mailbox) (members h mailbox ∙ e);
    }

pub limits-hold : (h : History) → IsLegal h → IsWithin (known h)
limits-hold h legal = let stands = Stands-legal h legal in subst IsWithin (sym stands.alike) stands.canonical.within

pub new-cache : NewCacheIsLegal
new-cache = record { names = tt; mailboxes = tt; rising = tt; items = tt; within = record { mailboxes = omega arith; descriptors = omega arith; queue = omega arith; last = omega arith } }

-- ---- the base

pub listed : (h : History) → IsLegal h → (mailbox : List ℕ) → IsListed (known h) mailbox
listed h legal mailbox =
    let stands = Stands-legal h legal in
    subst (λ k. IsListed k mailbox) (sym stands.alike) (record { rising = (AreDescriptors-in (record_of h) stands.canonical mailbox).rising; shown = λ uid. refl })

pub of-its-uids : (h : History) → IsLegal h → (mailbox : List ℕ) (uid : ℕ) (descriptor : Descriptor) → (known h).base mailbox uid ≡ Some descriptor → (descriptor.uid ≡ uid) × (descriptor.flags < 65536)
of-its-uids h legal mailbox uid descriptor e =
    let stands = Stands-legal h legal in
    let are = AreDescriptors-in (record_of h) stands.canonical mailbox in
    found-own (λ (found : Descriptor). found.flags < 65536) uid descriptor (descriptors_in (record_of h) mailbox) are.flags (subst (λ (k : Known). k.base mailbox uid ≡ Some descriptor) stands.alike e)

none-named : (uid : ℕ) (changes : List Change) → is_named uid changes ≡ false → ◌≡◌ {A = Option Change} (find (λ change. uid_of change == uid) changes) None
none-named uid [] h = refl
none-named uid (change ∷ changes) h = let parts = or_parts (uid_of change == uid) (is_named uid changes) h in rw parts.0 (none-named uid changes parts.1)

-- what different changes say of a uid that one of them names is what it says
SaysOwn : List Change → Change → Type 0
SaysOwn changes change = (before : Option Descriptor) → shown changes (uid_of change) before ≡ shown_by change

says-own : (changes : List Change) → are_different ◌==◌ (map uid_of changes) ≡ true → Every (SaysOwn changes) changes
unfolding SaysOwn
says-own [] h = tt
says-own (first ∷ changes) h =
    let parts = and_parts (not (list_any (λ other. uid_of first == other) (map uid_of changes))) (are_different ◌==◌ (map uid_of changes)) h in (
      λ before. ap (λ b. option_map_or shown_by (cond b (Some first) (find (λ other. uid_of other == uid_of first) changes)) before) (eq-eqb (uid_of first) (uid_of first) refl),
      Every-zip (λ (change : Change). (uid_of first == uid_of change) ≡ false) (SaysOwn changes) (SaysOwn (first ∷ changes)) (λ change e own before. ap (λ b. option_map_or shown_by (cond b (Some first) (find (λ other. uid_of other == uid_of change) changes)) before) e ∙ own before) changes (differ (uid_of first) changes (not-true (list_any (λ other. uid_of first == other) (map uid_of changes)) parts.0)) (says-own changes parts.1),
    )

pub replaced : (h : History) (mailbox : List ℕ) (changes : List Change) → is_allowed (known h) (Took mailbox changes) ≡ true → IsReplaced (known h) (known (h ▻ Took mailbox changes)) mailbox changes
unfolding SaysOwn
replaced h mailbox changes allowed =
    let different = (changes-parts changes (took-parts (known h) mailbox changes allowed).1).1 in
    let base = (known h).base in
    let here : (uid : ℕ) → cond (same mailbox mailbox) (shown changes uid (base mailbox uid)) (base mailbox uid) ≡ shown changes uid (base mailbox uid) = λ uid. ap (λ b. cond b (shown changes uid (base mailbox uid)) (base mailbox uid)) (same-refl mailbox) in
    record {
      named = Every-weaker (SaysOwn changes) (λ (change : Change). cond (same mailbox mailbox) (shown changes (uid_of change) (base mailbox (uid_of change))) (base mailbox (uid_of change)) ≡ shown_by change) (λ change own. here (uid_of change) ∙ own (base mailbox (uid_of change))) changes (says-own changes different);
      unnamed = λ uid e. here uid ∙ ap (λ found. option_map_or shown_by found (base mailbox uid)) (none-named uid changes e);
      others = λ other uid e. rw e;
      other_lists = λ other e. rw e;
    }

pub taken-short : (h : History) (mailbox : List ℕ) (changes : List Change) → is_allowed (known h) (Took mailbox changes) ≡ true → took_bytes mailbox changes ≤ MOST_TAKEN_BYTES
taken-short h mailbox changes allowed = leb-true (took_bytes mailbox changes) MOST_TAKEN_BYTES (took-parts (known h) mailbox changes allowed).2

pub cut-to : (h : History) (names : List (List ℕ)) → IsCutTo (known h) (known (h ▻ Kept names)) names
cut-to h names = record { named = λ mailbox uid e. rw e; unnamed = λ mailbox uid e. rw e; queue = refl }

pub begun : (h : History) (birth : ℕ) → IsBegun (known h) (known (h ▻ Begin birth)) birth
begun h birth = record { birth_is = refl; resetting = refl; mailboxes = refl; base = λ mailbox uid. refl; descriptors = λ mailbox. refl; last = refl; queue = refl }

-- ---- what is resetting is empty

not-both : (b : Bool) {P : Type 0} → not b ≡ true → b ≡ true → P
not-both true h g = absurd (true≢false (sym h))
not-both false h g = absurd (true≢false (sym g))

empty-after : (k : Known) (e : CacheEntry) → is_allowed k e ≡ true → IsEmptyWhereResetting k → IsEmptyWhereResetting (after_entry k e)
empty-after k (Begin birth) allowed h = λ g. refl
empty-after k Synced allowed h = λ g. absurd (true≢false (sym g))
empty-after k (Took mailbox changes) allowed h = λ g. not-both k.resetting (took-parts k mailbox changes allowed).0 g
empty-after k (Kept names) allowed h = λ g. ap (λ (all : List (List ℕ)). filter (λ name. is_among name names) all) (h g)
empty-after k (Queue mailbox uid flag on) allowed h = h
empty-after k (Answered number) allowed h = h

empty-behind : (h : History) (entries : List CacheEntry) → IsLegal (h ▻▻ entries) → IsEmptyWhereResetting (known h) → IsEmptyWhereResetting (known (h ▻▻ entries))
empty-behind h [] legal empty = empty
empty-behind h (e ∷ entries) legal empty = empty-behind (h ▻ e) entries legal (empty-after (known h) e (legal-front (h ▻ e) entries legal).1 empty)

pub resetting-empty : ResettingIsEmpty
resetting-empty = (λ g. refl, empty-behind)
