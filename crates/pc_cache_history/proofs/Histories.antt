-- The record of a legal history answers as the history does.
use Rattle.std.proofs.Common.{◌≡◌, suc, true, List, [], ◌∷◌, refl, sym, ◌∙◌, ap}
use Rattle.pc_cache_history.specs.declared.entry.CacheEntry.{CacheEntry}
use Rattle.pc_cache_history.specs.Known.{Known, said_by, after_entry}
use Rattle.pc_cache_history.specs.View.{view, view_at}
use Rattle.pc_cache_history.specs.History.{History, start, ◌▻◌, ◌▻▻◌, known, next}
use Rattle.pc_cache_history.specs.Allowed.{descriptor_count, base_is_empty, is_allowed}
use Rattle.pc_cache_history.specs.Step.{after, record_of}
use Rattle.pc_cache_history.specs.Legal.{IsCanonical, IsLegal}
use Rattle.pc_cache_history.specs.Laws.{AnswerAlike}
use Rattle.pc_cache_history.proofs.Agreement.{after-said_by}
use Rattle.pc_cache_history.proofs.FormedAfter.{IsCanonical-after}

-- ---- the record stands for the history

pub record Stands (h : History) : Type 0 where
  pub canonical : IsCanonical (record_of h)
  pub alike : known h ≡ said_by (record_of h)

pub Stands-legal : (h : History) → IsLegal h → Stands h
Stands-legal (start r number) legal = record { canonical = legal; alike = refl }
Stands-legal (h ▻ e) legal =
    let before = Stands-legal h legal.0 in
    let allowed : is_allowed (said_by (record_of h)) e ≡ true = ap (λ k. is_allowed k e) (sym before.alike) ∙ legal.1 in
    record {
      canonical = IsCanonical-after (record_of h) e allowed before.canonical;
      alike = ap (λ k. after_entry k e) before.alike ∙ after-said_by (record_of h) e allowed;
    }

pub IsCanonical-legal : (h : History) → IsLegal h → IsCanonical (record_of h)
IsCanonical-legal h legal = (Stands-legal h legal).canonical

-- ---- histories of which the same is known

pub AnswerAlike-known : (g h : History) → next g ≡ next h → known g ≡ known h → AnswerAlike g h
AnswerAlike-known g h n e = record {
  number = n;
  birth = ap (λ (k : Known). k.birth) e;
  resetting = ap (λ (k : Known). k.resetting) e;
  mailboxes = ap (λ (k : Known). k.mailboxes) e;
  base = λ mailbox uid. ap (λ (k : Known). k.base mailbox uid) e;
  descriptors = λ mailbox. ap (λ (k : Known). k.descriptors mailbox) e;
  count = ap (λ (k : Known). descriptor_count k) e;
  empty = ap (λ (k : Known). base_is_empty k) e;
  last = ap (λ (k : Known). k.last) e;
  queue = ap (λ (k : Known). k.queue) e;
  view = λ mailbox. ap (λ (k : Known). view k mailbox) e;
  view_at = λ mailbox uid. ap (λ (k : Known). view_at k mailbox uid) e;
  allowed = λ entry. ap (λ (k : Known). is_allowed k entry) e;
}

-- ---- more entries behind

pub known-behind : (g h : History) (es : List CacheEntry) → known g ≡ known h → known (g ▻▻ es) ≡ known (h ▻▻ es)
known-behind g h [] alike = alike
known-behind g h (e ∷ es) alike = known-behind (g ▻ e) (h ▻ e) es (ap (λ k. after_entry k e) alike)

pub next-behind : (g h : History) (es : List CacheEntry) → next g ≡ next h → next (g ▻▻ es) ≡ next (h ▻▻ es)
next-behind g h [] alike = alike
next-behind g h (e ∷ es) alike = next-behind (g ▻ e) (h ▻ e) es (ap suc alike)

pub IsLegal-behind : (g h : History) (es : List CacheEntry) → known g ≡ known h → (IsLegal g → IsLegal h) → IsLegal (g ▻▻ es) → IsLegal (h ▻▻ es)
IsLegal-behind g h [] alike f legal = f legal
IsLegal-behind g h (e ∷ es) alike f legal = IsLegal-behind (g ▻ e) (h ▻ e) es (ap (λ k. after_entry k e) alike) (λ l. (f l.0, ap (λ k. is_allowed k e) (sym alike) ∙ l.1)) legal

pub record_of-behind : (g h : History) (es : List CacheEntry) → record_of g ≡ record_of h → record_of (g ▻▻ es) ≡ record_of (h ▻▻ es)
record_of-behind g h [] e = e
record_of-behind g h (entry ∷ es) e = record_of-behind (g ▻ entry) (h ▻ entry) es (ap (λ r. after r entry) e)

-- the front of a legal history is legal
pub legal-front : (h : History) (es : List CacheEntry) → IsLegal (h ▻▻ es) → IsLegal h
legal-front h [] legal = legal
legal-front h (e ∷ es) legal = (legal-front (h ▻ e) es legal).0
