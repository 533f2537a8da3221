-- The queue holds what was queued and isn't answered, by numbers that rise.
use Rattle.std.proofs.Common.{◌≡◌, ℕ, suc, ◌+◌, ◌<◌, ◌≤◌, ◌==◌, Bool, true, false, cond, not, ◌||◌, List, [], ◌∷◌, ◌++◌, map, refl, sym, ◌∙◌, ap, subst, arith, append-nil, append_assoc, ne_eqb, true≢false}
use Rattle.std.specs.List.{AllByRecursion as Every, list_any}
use Rattle.std.proofs.lemmas.Bool.{eqb-true}
use Rattle.std.proofs.lemmas.List.Elements.{filter-append}
use Rattle.pc_tables.specs.Table.{numbers}
use Rattle.pc_tables.proofs.Lists.{Every-weaker, filter-agree, filter-true}
use Rattle.pc_cache_history.specs.declared.item.Item.{Item}
use Rattle.pc_cache_history.specs.declared.entry.CacheEntry.{CacheEntry}
use Rattle.pc_cache_history.specs.declared.entry.CacheEntry.TheVariants.{Synced, Queue, Answered}
use Rattle.pc_cache_history.specs.Effect.{last_after, new_items, other_items, queue_after}
use Rattle.pc_cache_history.specs.History.{History, ◌▻◌, ◌▻▻◌, known}
use Rattle.pc_cache_history.specs.Legal.{IsItem, IsLegal}
use Rattle.pc_cache_history.specs.Laws.{items_of, answers, unanswered, AreNumbered, queue_count, AreNumberedOn}
use Rattle.pc_cache_history.proofs.Descriptors.{eqb-sym}
use Rattle.pc_cache_history.proofs.Histories.{Stands-legal, legal-front}

-- ---- numbers

pub numbered : (h : History) → IsLegal h → AreNumbered (known h)
numbered h legal = let stands = Stands-legal h legal in subst AreNumbered (sym stands.alike) (record { rising = stands.canonical.rising; items = stands.canonical.items })

last-further : (e : CacheEntry) (last : ℕ) → last_after e last ≡ last + last_after e 0
last-further (Queue mailbox uid flag on) last = omega arith
last-further Synced last = omega arith
last-further _ last = omega arith

last-behind : (h : History) (entries : List CacheEntry) → (known (h ▻▻ entries)).last ≡ (known h).last + queue_count entries
last-behind h [] = omega arith
last-behind h (e ∷ entries) = omega (arith, last-behind (h ▻ e) entries, last-further e (known h).last)

given-numbers : (last : ℕ) (entries : List CacheEntry) → map (λ (item : Item). item.number) (items_of last entries) ≡ numbers last (queue_count entries)
given-numbers last [] = refl
given-numbers last (Queue mailbox uid flag on ∷ entries) = let more : 1 + queue_count entries ≡ suc (queue_count entries) = omega arith in ap (λ rest. suc last ∷ rest) (given-numbers (suc last) entries) ∙ ap (numbers last) (sym more)
given-numbers last (Synced ∷ entries) = let same : 0 + queue_count entries ≡ queue_count entries = omega arith in given-numbers last entries ∙ ap (numbers last) (sym same)
given-numbers last (_ ∷ entries) = let same : 0 + queue_count entries ≡ queue_count entries = omega arith in given-numbers last entries ∙ ap (numbers last) (sym same)

later-items : (low last : ℕ) (entries : List CacheEntry) → low ≤ last → Every (λ (item : Item). low < item.number) (items_of last entries)
later-items low last [] h = tt
later-items low last (Queue mailbox uid flag on ∷ entries) h = (omega arith, later-items low (suc last) entries (omega arith))
later-items low last (Synced ∷ entries) h = later-items low last entries h
later-items low last (_ ∷ entries) h = later-items low last entries h

pub numbered-on : (h : History) (entries : List CacheEntry) → AreNumberedOn h entries
numbered-on h entries = record { last = last-behind h entries; given = given-numbers (known h).last entries; later = later-items (known h).last (known h).last entries (omega arith) }

-- ---- what isn't answered

queued-given : (last number : ℕ) (items : List Item) → Every (IsItem last) items → list_any (λ (item : Item). item.number == number) items ≡ true → number ≤ last
queued-given last number [] h g = absurd (true≢false (sym g))
queued-given last number (item ∷ items) h g = elim (item.number == number) as (λ b. (item.number == number) ≡ b → (b || list_any (λ (other : Item). other.number == number) items) ≡ true → number ≤ last) [
  | true ↦ λ e f. let same = eqb-true item.number number e in omega (arith, h.0.given)
  | false ↦ λ e f. queued-given last number items h.1 f
] refl g

-- an answer to one change, and then those of other entries
answered-first : (number : ℕ) (entries : List CacheEntry) (items : List Item) → unanswered entries (other_items number items) ≡ unanswered (Answered number ∷ entries) items
answered-first number entries [] = refl
answered-first number entries (item ∷ items) = step (item.number == number) (number == item.number) (eqb-sym item.number number) (answered-first number entries items)
  where
    step : (a b : Bool) → a ≡ b → unanswered entries (other_items number items) ≡ unanswered (Answered number ∷ entries) items → unanswered entries (cond (not a) (item ∷ other_items number items) (other_items number items)) ≡ cond (not (b || list_any (answers item.number) entries)) (item ∷ unanswered (Answered number ∷ entries) items) (unanswered (Answered number ∷ entries) items)
    step true true e rest = rest
    step true false e rest = absurd (true≢false e)
    step false true e rest = absurd (true≢false (sym e))
    step false false e rest = ap (λ left. cond (not (list_any (answers item.number) entries)) (item ∷ left) left) rest

-- an answer to a change that was queued before answers none of these
answered-before : (number last : ℕ) (entries : List CacheEntry) (items : List Item) → number ≤ last → Every (λ (item : Item). last < item.number) items → unanswered entries items ≡ unanswered (Answered number ∷ entries) items
answered-before number last entries items h later = filter-agree (λ item. not (list_any (answers item.number) entries)) (λ item. not ((number == item.number) || list_any (answers item.number) entries)) items (Every-weaker (λ (item : Item). last < item.number) (λ (item : Item). not (list_any (answers item.number) entries) ≡ not ((number == item.number) || list_any (answers item.number) entries)) (λ item g. ap (λ b. not (b || list_any (answers item.number) entries)) (sym (ne_eqb number item.number (λ e. absurd (omega arith))))) items later)

none-answered : (items : List Item) → items ≡ unanswered [] items ++ []
none-answered items = sym (append-nil (unanswered [] items) ∙ filter-true items)

pub queue-unanswered : (h : History) (entries : List CacheEntry) → IsLegal (h ▻▻ entries) → (known (h ▻▻ entries)).queue ≡ unanswered entries (known h).queue ++ unanswered entries (items_of (known h).last entries)
queue-unanswered h [] legal = none-answered (known h).queue
queue-unanswered h (e ∷ entries) legal = queue-unanswered (h ▻ e) entries legal ∙ step e (legal-front (h ▻ e) entries legal)
  where
    step : (e' : CacheEntry) → IsLegal (h ▻ e') → unanswered entries (queue_after e' (known h).last (known h).queue) ++ unanswered entries (items_of (last_after e' (known h).last) entries) ≡ unanswered (e' ∷ entries) (known h).queue ++ unanswered (e' ∷ entries) (items_of (known h).last (e' ∷ entries))
    step (Queue mailbox uid flag on) front =
        let stays = λ (item : Item). not (list_any (answers item.number) entries) in
        let item = new_items (Queue mailbox uid flag on) (known h).last in
        let later = items_of (suc (known h).last) entries in
        ap (λ front_items. front_items ++ unanswered entries later) (filter-append stays (known h).queue item)
        ∙ append_assoc (unanswered entries (known h).queue) (unanswered entries item) (unanswered entries later)
        ∙ ap (λ rest. unanswered entries (known h).queue ++ rest) (sym (filter-append stays item later))
    step (Answered number) front =
        let given = queued-given (known h).last number (known h).queue (numbered h front.0).items front.1 in
        (λ i. answered-first number entries (known h).queue i ++ answered-before number (known h).last entries (items_of (known h).last entries) given (later-items (known h).last (known h).last entries (omega arith)) i)
    step Synced front = refl
    step _ front = refl
