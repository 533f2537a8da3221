-- Histories of a cache.
use Rattle.std.specs.Prelude.{ℕ, suc, List, [], ◌∷◌}
use Rattle.pc_cache_history.specs.declared.entry.CacheEntry.{CacheEntry}
use Rattle.pc_cache_history.specs.Record.{CacheRecord, empty_record}
use Rattle.pc_cache_history.specs.Known.{Known, said_by, after_entry}

infixl 20 ◌▻◌
-- a base, which is a record with the number of the first entry behind it, and entries, the newest last
pub data History : Type 0 where
  start : CacheRecord → ℕ → History
  ◌▻◌ : History → CacheEntry → History

-- the history of a new cache
abbrev pub new_cache : History
new_cache = start empty_record 1

-- the history with these entries behind it
infixl 20 ◌▻▻◌
abbrev pub ◌▻▻◌ : History → List CacheEntry → History
h ▻▻ [] = h
h ▻▻ (e ∷ es) = (h ▻ e) ▻▻ es

-- what is known at the end of a history
abbrev pub known : History → Known
known (start r number) = said_by r
known (h ▻ e) = after_entry (known h) e

-- the number of the next entry
abbrev pub next : History → ℕ
next (start r number) = number
next (h ▻ e) = suc (next h)
