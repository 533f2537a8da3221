-- What an entry makes of the record of a cache.
use Rattle.std.specs.Prelude.{ℕ, suc, true, false, List, [], ◌∷◌, ◌++◌, is_some, if◌then◌else◌}
use Rattle.std.specs.List.{filter}
use Rattle.std.specs.Map.{lookup, set_value}
use Rattle.pc_tables.specs.Table.{same, is_among}
use Rattle.pc_cache_history.specs.declared.entry.CacheEntry.{CacheEntry}
use Rattle.pc_cache_history.specs.declared.entry.CacheEntry.TheVariants.{Begin, Synced, Took, Kept, Queue, Answered}
use Rattle.pc_cache_history.specs.Record.{CacheRecord, descriptors_in}
use Rattle.pc_cache_history.specs.Effect.{with_changes, new_items, other_items}
use Rattle.pc_cache_history.specs.History.{History, start, ◌▻◌}

-- a table with this value under a name, in the place of the one that was there, or behind all others
abbrev pub with_value : {X : Type 0} → List ℕ → X → List (List ℕ × X) → List (List ℕ × X)
with_value name value table = if is_some (lookup (same name) table) then set_value (same name) table value else table ++ (name, value) ∷ []

-- what stands under these names
abbrev pub under : {X : Type 0} → List (List ℕ) → List (List ℕ × X) → List (List ℕ × X)
under names table = filter (λ entry. is_among entry.0 names) table

-- the record after an entry
abbrev pub after : CacheRecord → CacheEntry → CacheRecord
after r (Begin birth) = record r { birth = birth; resetting = true; mailboxes = [] }
after r Synced = record r { resetting = false }
after r (Took mailbox changes) = record r { mailboxes = with_value mailbox (with_changes changes (descriptors_in r mailbox)) r.mailboxes }
after r (Kept names) = record r { mailboxes = under names r.mailboxes }
after r (Queue mailbox uid flag on) = record r { last = suc r.last; queue = r.queue ++ new_items (Queue mailbox uid flag on) r.last }
after r (Answered number) = record r { queue = other_items number r.queue }

-- the record that stands for a history
abbrev pub record_of : History → CacheRecord
record_of (start r number) = r
record_of (h ▻ e) = after (record_of h) e
