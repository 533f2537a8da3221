-- Whether there is room for changes.
use Rattle.std.proofs.Common.{◌≡◌, ℕ, suc, ◌+◌, ◌≤◌, Bool, true, false, cond, ◌&&◌, nat_lt, nat_le, List, [], ◌∷◌, ◌++◌, length, is_some, inl, inr, refl, sym, ap, ◌∙◌, arith, lt-ltb, le-ltb, le-leb, length-append}
use Rattle.std.specs.List.{filter}
use Rattle.std.specs.Map.{lookup, keys_of}
use Rattle.std.proofs.lemmas.Bool.{cases_lt, lt-leb}
use Rattle.pc_message.specs.declared.descriptor.Change.{Change}
use Rattle.pc_tables.specs.Table.{same}
use Rattle.pc_tables.proofs.Table.{is_among-keys}
use Rattle.pc_cache_history.specs.declared.entry.CacheEntry.TheVariants.{Took}
use Rattle.pc_cache_history.specs.Record.{CacheRecord, descriptors_in}
use Rattle.pc_cache_history.specs.Effect.{mailboxes_after}
use Rattle.pc_cache_history.specs.Known.{said_by, after_entry}
use Rattle.pc_cache_history.specs.History.{start}
use Rattle.pc_cache_history.specs.Allowed.{descriptor_count, are_changes, has_room}
use Rattle.pc_cache_history.specs.Legal.{IsCanonical}
use Rattle.pc_cache_history.specs.Laws.{takes_away, brings}
use Rattle.pc_cache_history.proofs.Agreement.{changes-parts}
use Rattle.pc_cache_history.proofs.FormedAfter.{AreDescriptors-in}
use Rattle.pc_cache_history.proofs.Lists.{changes-counted}
use Rattle.pc_cache_history.proofs.Mailboxes.{read-off}
use Rattle.pc_cache_history.proofs.Order.{count-of-mailbox}
use Rattle.pc_cache.specs.Mailboxes.{Table, count_in}

-- ---- mailboxes

pub length-keys : (table : Table) → length (keys_of table) ≡ length table
length-keys [] = refl
length-keys (entry ∷ table) = ap suc (length-keys table)

-- how many mailboxes there are with this one
abbrev many : List ℕ → Table → Bool → ℕ
many name table there = length (cond there (keys_of table) (keys_of table ++ name ∷ []))

pub place-there : (name : List ℕ) (table : Table) → length table ≤ 32768 → is_some (lookup (same name) table) ≡ true → nat_le (length (mailboxes_after (Took name []) (keys_of table))) 32768 ≡ true
place-there name table few there = ap (λ b. nat_le (many name table b) 32768) (is_among-keys name table ∙ there) ∙ le-leb (length (keys_of table)) 32768 (omega (arith, length-keys table, few))

pub place-new : (name : List ℕ) (table : Table) → is_some (lookup (same name) table) ≡ false → nat_lt (length table) 32768 ≡ nat_le (length (mailboxes_after (Took name []) (keys_of table))) 32768
place-new name table new =
    let keys = keys_of table in
    let more : length (keys ++ name ∷ []) ≡ length table + 1 = omega (arith, length-append keys (name ∷ []), length-keys table) in
    elim (cases_lt (length table) 32768) as (λ _. nat_lt (length table) 32768 ≡ nat_le (length (keys ++ name ∷ [])) 32768) [
      | inl below ↦ lt-ltb (length table) 32768 below ∙ sym (le-leb (length (keys ++ name ∷ [])) 32768 (omega (arith, more, below)))
      | inr from ↦ le-ltb (length table) 32768 from ∙ sym (lt-leb (length (keys ++ name ∷ [])) 32768 (omega (arith, more, from)))
    ]
    ∙ sym (ap (λ b. nat_le (many name table b) 32768) (is_among-keys name table ∙ new))

-- ---- descriptors

-- the descriptors of a canonical record are those that are counted
pub counted-all : (r : CacheRecord) → IsCanonical r → (descriptor_count (said_by r) ≡ count_in r.mailboxes) × (count_in r.mailboxes ≤ 131072)
counted-all r canonical =
    let count = (read-off r canonical).count in
    (count, omega (arith, count, canonical.within.descriptors))

le-moved : (before more fewer behind : ℕ) → behind + fewer ≡ before + more → nat_le (before + more) (131072 + fewer) ≡ nat_le behind 131072
le-moved before more fewer behind e = elim (cases_lt 131072 behind) as (λ _. nat_le (before + more) (131072 + fewer) ≡ nat_le behind 131072) [
  | inl over ↦ lt-leb (before + more) (131072 + fewer) (omega (arith, e, over)) ∙ sym (lt-leb behind 131072 over)
  | inr within ↦ le-leb (before + more) (131072 + fewer) (omega (arith, e, within)) ∙ sym (le-leb behind 131072 within)
]

module _ (r : CacheRecord) (mailbox : List ℕ) (changes : List Change) (canonical : IsCanonical r) (fit : are_changes changes ≡ true) where
  count-after : descriptor_count (after_entry (said_by r) (Took mailbox changes)) + length (filter (takes_away (descriptors_in r mailbox)) changes) ≡ count_in r.mailboxes + length (filter (brings (descriptors_in r mailbox)) changes)
  count-after =
      let moved = count-of-mailbox (start r 1) mailbox changes canonical in
      let counted = changes-counted changes (descriptors_in r mailbox) (AreDescriptors-in r canonical mailbox).rising (changes-parts changes fit).1 in
      omega (arith, moved, counted, (counted-all r canonical).0)

  -- there is a place for the mailbox, and the counts tell whether there is room
  pub room-counted : (count more fewer : ℕ) → count ≡ count_in r.mailboxes → more ≡ length (filter (brings (descriptors_in r mailbox)) changes) → fewer ≡ length (filter (takes_away (descriptors_in r mailbox)) changes) → nat_le (length (mailboxes_after (Took mailbox []) (keys_of r.mailboxes))) 32768 ≡ true → nat_le (count + more) (131072 + fewer) ≡ has_room (after_entry (said_by r) (Took mailbox changes))
  room-counted count more fewer e f g place =
      le-moved count more fewer (descriptor_count (after_entry (said_by r) (Took mailbox changes))) (omega (arith, count-after, e, f, g))
      ∙ sym (ap (λ b. b && nat_le (descriptor_count (after_entry (said_by r) (Took mailbox changes))) 131072) place)

  pub no-place : nat_le (length (mailboxes_after (Took mailbox []) (keys_of r.mailboxes))) 32768 ≡ false → false ≡ has_room (after_entry (said_by r) (Took mailbox changes))
  no-place place = sym (ap (λ b. b && nat_le (descriptor_count (after_entry (said_by r) (Took mailbox changes))) 131072) place)
