-- A record that stands for a history says what is known at its end.
use Rattle.std.proofs.Common.{◌≡◌, IsTrue, sym, ap, ◌∙◌}
use Rattle.pc_cache_history.specs.declared.entry.CacheEntry.{CacheEntry}
use Rattle.pc_cache_history.specs.Record.{CacheRecord}
use Rattle.pc_cache_history.specs.Known.{Known, said_by}
use Rattle.pc_cache_history.specs.History.{History, ◌▻◌, known}
use Rattle.pc_cache_history.specs.Allowed.{is_allowed}
use Rattle.pc_cache_history.specs.Step.{after}
use Rattle.pc_cache_history.proofs.Histories.{Stands-legal}
use Rattle.pc_cache.specs.State.{StandsFor}

pub said_is_known : (r : CacheRecord) (h : History) → StandsFor r h → said_by r ≡ known h
said_is_known r h stands = ap said_by (sym stands.held) ∙ sym (Stands-legal h stands.legal).alike

-- the step of a record stands for the history with the entry
pub StandsFor-after : (r : CacheRecord) (e : CacheEntry) → IsTrue (is_allowed (said_by r) e) → (h : History) → StandsFor r h → StandsFor (after r e) (h ▻ e)
StandsFor-after r e allowed h stands = record {
  legal = (stands.legal, ap (λ (k : Known). is_allowed k e) (sym (said_is_known r h stands)) ∙ allowed);
  held = ap (λ (before : CacheRecord). after before e) stands.held;
}
