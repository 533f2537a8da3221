-- The record after an allowed entry is canonical again.
use Rattle.std.proofs.Common.{◌≡◌, ℕ, suc, ◌<◌, ◌≤◌, ◌==◌, Bool, true, false, cond, not, ◌&&◌, nat_le, List, [], ◌∷◌, ◌++◌, length, filter, Some, is_some, unwrap_or, refl, ◌∙◌, subst, arith, length-append}
use Rattle.std.specs.List.{AllByRecursion as Every}
use Rattle.std.specs.Map.{lookup, keys_of, set_value}
use Rattle.std.proofs.lemmas.Bool.{and_parts, or_parts, not-true, leb-true, leb-false}
use Rattle.pc_message.specs.declared.descriptor.Descriptor.{Descriptor}
use Rattle.pc_tables.specs.Table.{same, is_among}
use Rattle.pc_tables.specs.Order.{AreDistinct}
use Rattle.pc_tables.proofs.Booleans.{and3}
use Rattle.pc_tables.proofs.Table.{same-sym}
use Rattle.pc_tables.proofs.Lists.{Every-weaker, Every-append, Every-filter, length-filter-le}
use Rattle.pc_tables.proofs.Order.{Ordered-filter, Ordered-push}
use Rattle.pc_tables.proofs.Totals.{total-le, total-filter}
use Rattle.pc_cache_history.specs.declared.limits.TheConstants.{MOST_CACHED, MOST_DESCRIPTORS, MOST_QUEUED, LAST_QUEUED}
use Rattle.pc_cache_history.specs.declared.item.Item.{Item}
use Rattle.pc_cache_history.specs.declared.entry.CacheEntry.{CacheEntry}
use Rattle.pc_cache_history.specs.declared.entry.CacheEntry.TheVariants.{Begin, Synced, Took, Kept, Queue, Answered}
use Rattle.pc_cache_history.specs.Record.{CacheRecord, descriptors_in}
use Rattle.pc_cache_history.specs.Effect.{with_changes, mailboxes_after, new_items}
use Rattle.pc_cache_history.specs.Known.{Known, has, said_by, after_entry}
use Rattle.pc_cache_history.specs.Allowed.{descriptor_count, queue_is_full, no_number_is_left, is_allowed, IsWithin}
use Rattle.pc_cache_history.specs.Step.{with_value, after}
use Rattle.pc_cache_history.specs.Legal.{AreDescriptors, IsItem, AreInOrder, IsCanonical}
use Rattle.pc_cache_history.proofs.Descriptors.{AreDescriptors-changes}
use Rattle.pc_cache_history.proofs.Agreement.{took-parts, changes-parts, mailboxes-step, after-said_by}

-- ---- limits

pub queue-parts : (k : Known) (mailbox : List ℕ) (uid flag : ℕ) (on : Bool) → is_allowed k (Queue mailbox uid flag on) ≡ true → (has k mailbox uid ≡ true) × (flag ≤ 15) × (length k.queue < MOST_QUEUED) × (k.last < LAST_QUEUED)
queue-parts k mailbox uid flag on h =
    let numbered = and_parts (has k mailbox uid && nat_le flag 15 && not (queue_is_full k)) (not (no_number_is_left k)) h in
    let parts = and3 (has k mailbox uid) (nat_le flag 15) (not (queue_is_full k)) numbered.0 in
    (parts.0, leb-true flag 15 parts.1, leb-false MOST_QUEUED (length k.queue) (not-true (queue_is_full k) parts.2), leb-false LAST_QUEUED k.last (not-true (no_number_is_left k) numbered.1))

kept-less : (b : Bool) (descriptors : List Descriptor) → length (cond b descriptors []) ≤ length descriptors
kept-less true descriptors = omega arith
kept-less false descriptors = omega arith

pub IsWithin-after : (k : Known) (e : CacheEntry) → is_allowed k e ≡ true → IsWithin k → IsWithin (after_entry k e)
IsWithin-after k (Took mailbox changes) allowed h =
    let after_it = after_entry k (Took mailbox changes) in
    let room = and_parts (nat_le (length after_it.mailboxes) MOST_CACHED) (nat_le (descriptor_count after_it) MOST_DESCRIPTORS) (took-parts k mailbox changes allowed).3 in
    record { mailboxes = leb-true (length after_it.mailboxes) MOST_CACHED room.0; descriptors = leb-true (descriptor_count after_it) MOST_DESCRIPTORS room.1; queue = h.queue; last = h.last }
IsWithin-after k (Kept names) allowed h = record {
  mailboxes = omega (arith, h.mailboxes, length-filter-le (λ name. is_among name names) k.mailboxes);
  descriptors = omega (arith, h.descriptors, total-filter (λ mailbox. length (k.descriptors mailbox)) (λ name. is_among name names) k.mailboxes, total-le (λ mailbox. length (k.descriptors mailbox)) (λ mailbox. length (cond (is_among mailbox names) (k.descriptors mailbox) [])) (filter (λ name. is_among name names) k.mailboxes) (λ mailbox. kept-less (is_among mailbox names) (k.descriptors mailbox)));
  queue = h.queue;
  last = h.last;
}
IsWithin-after k (Begin birth) allowed h = record { mailboxes = omega arith; descriptors = omega arith; queue = h.queue; last = h.last }
IsWithin-after k (Queue mailbox uid flag on) allowed h =
    let parts = queue-parts k mailbox uid flag on allowed in
    record { mailboxes = h.mailboxes; descriptors = h.descriptors; queue = omega (arith, parts.2, length-append k.queue (new_items (Queue mailbox uid flag on) k.last)); last = omega (arith, parts.3) }
IsWithin-after k (Answered number) allowed h = record { mailboxes = h.mailboxes; descriptors = h.descriptors; queue = omega (arith, h.queue, length-filter-le (λ (item : Item). not (item.number == number)) k.queue); last = h.last }
IsWithin-after k Synced allowed h = record { mailboxes = h.mailboxes; descriptors = h.descriptors; queue = h.queue; last = h.last }

-- ---- names

differs-behind : (name : List ℕ) (names : List (List ℕ)) → is_among name names ≡ false → Every (λ other. same other name ≡ false) names
differs-behind name [] h = tt
differs-behind name (other ∷ names) h = let parts = or_parts (same name other) (is_among name names) h in (same-sym other name ∙ parts.0, differs-behind name names parts.1)

pub distinct-after : (e : CacheEntry) (names : List (List ℕ)) → AreDistinct names → AreDistinct (mailboxes_after e names)
distinct-after (Took mailbox changes) names h = elim (is_among mailbox names) as (λ b. is_among mailbox names ≡ b → AreDistinct (cond b names (names ++ mailbox ∷ []))) [
  | true ↦ λ e. h
  | false ↦ λ e. Ordered-push (λ (name later : List ℕ). same name later ≡ false) names mailbox h (differs-behind mailbox names e)
] refl
distinct-after (Kept kept) names h = Ordered-filter (λ (name later : List ℕ). same name later ≡ false) (λ name. is_among name kept) names h
distinct-after (Begin birth) names h = tt
distinct-after _ names h = h

-- ---- mailboxes

module _ {X : Type 0} (P : X → Type 0) where
  Every-set_value : (p : List ℕ → Bool) (value : X) (table : List (List ℕ × X)) → P value → Every (λ (entry : List ℕ × X). P entry.1) table → Every (λ (entry : List ℕ × X). P entry.1) (set_value p table value)
  Every-set_value p value [] g h = h
  Every-set_value p value (entry ∷ table) g h = elim (p entry.0) as (λ b. Every (λ (one : List ℕ × X). P one.1) (cond b ((entry.0, value) ∷ table) (entry ∷ set_value p table value))) [ true ↦ (g, h.1) | false ↦ (h.0, Every-set_value p value table g h.1) ]

  Every-with_value : (name : List ℕ) (value : X) (table : List (List ℕ × X)) → P value → Every (λ (entry : List ℕ × X). P entry.1) table → Every (λ (entry : List ℕ × X). P entry.1) (with_value name value table)
  Every-with_value name value table g h = elim (is_some (lookup (same name) table)) as (λ b. Every (λ (one : List ℕ × X). P one.1) (cond b (set_value (same name) table value) (table ++ (name, value) ∷ []))) [
    | true ↦ Every-set_value (same name) value table g h
    | false ↦ Every-append (λ (one : List ℕ × X). P one.1) table ((name, value) ∷ []) h (g, tt)
  ]

  pub Every-found : (p : List ℕ → Bool) (default : X) (table : List (List ℕ × X)) → P default → Every (λ (entry : List ℕ × X). P entry.1) table → P (unwrap_or (lookup p table) default)
  Every-found p default [] g h = g
  Every-found p default (entry ∷ table) g h = elim (p entry.0) as (λ b. P (unwrap_or (cond b (Some entry.1) (lookup p table)) default)) [ true ↦ h.0 | false ↦ Every-found p default table g h.1 ]

pub AreDescriptors-in : (r : CacheRecord) → IsCanonical r → (mailbox : List ℕ) → AreDescriptors (descriptors_in r mailbox)
AreDescriptors-in r h mailbox = Every-found AreDescriptors (same mailbox) [] r.mailboxes (record { rising = tt; flags = tt }) h.mailboxes

mailboxes-again : (r : CacheRecord) (e : CacheEntry) → is_allowed (said_by r) e ≡ true → IsCanonical r → Every (λ (mailbox : List ℕ × List Descriptor). AreDescriptors mailbox.1) (after r e).mailboxes
mailboxes-again r (Took mailbox changes) allowed h = Every-with_value AreDescriptors mailbox (with_changes changes (descriptors_in r mailbox)) r.mailboxes (AreDescriptors-changes changes (descriptors_in r mailbox) (changes-parts changes (took-parts (said_by r) mailbox changes allowed).1).2 (AreDescriptors-in r h mailbox)) h.mailboxes
mailboxes-again r (Kept names) allowed h = Every-filter (λ (mailbox : List ℕ × List Descriptor). AreDescriptors mailbox.1) (λ mailbox. is_among mailbox.0 names) r.mailboxes h.mailboxes
mailboxes-again r (Begin birth) allowed h = tt
mailboxes-again r Synced allowed h = h.mailboxes
mailboxes-again r _ allowed h = h.mailboxes

-- ---- the queue

rising-again : (r : CacheRecord) (e : CacheEntry) → IsCanonical r → AreInOrder (after r e).queue
rising-again r (Queue mailbox uid flag on) h = Ordered-push (λ (item later : Item). item.number < later.number) r.queue (record { number = suc r.last; mailbox = mailbox; uid = uid; flag = flag; on = on }) h.rising (Every-weaker (IsItem r.last) (λ (item : Item). item.number < suc r.last) (λ item g. omega (arith, g.given)) r.queue h.items)
rising-again r (Answered number) h = Ordered-filter (λ (item later : Item). item.number < later.number) (λ item. not (item.number == number)) r.queue h.rising
rising-again r Synced h = h.rising
rising-again r _ h = h.rising

items-again : (r : CacheRecord) (e : CacheEntry) → is_allowed (said_by r) e ≡ true → IsCanonical r → Every (IsItem (after r e).last) (after r e).queue
items-again r (Queue mailbox uid flag on) allowed h = Every-append (IsItem (suc r.last)) r.queue (new_items (Queue mailbox uid flag on) r.last) (Every-weaker (IsItem r.last) (IsItem (suc r.last)) (λ item g. record { positive = g.positive; given = omega (arith, g.given); flag = g.flag }) r.queue h.items) (record { positive = omega arith; given = omega arith; flag = (queue-parts (said_by r) mailbox uid flag on allowed).1 }, tt)
items-again r (Answered number) allowed h = Every-filter (IsItem r.last) (λ item. not (item.number == number)) r.queue h.items
items-again r Synced allowed h = h.items
items-again r _ allowed h = h.items

-- the record after an allowed entry is canonical again
pub IsCanonical-after : (r : CacheRecord) (e : CacheEntry) → is_allowed (said_by r) e ≡ true → IsCanonical r → IsCanonical (after r e)
IsCanonical-after r e allowed h = record {
  names = subst AreDistinct (mailboxes-step r e) (distinct-after e (keys_of r.mailboxes) h.names);
  mailboxes = mailboxes-again r e allowed h;
  rising = rising-again r e h;
  items = items-again r e allowed h;
  within = subst IsWithin (after-said_by r e allowed) (IsWithin-after (said_by r) e allowed h.within);
}
