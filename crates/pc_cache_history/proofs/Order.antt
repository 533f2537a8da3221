-- The order of the mailboxes, and how many descriptors there are after changes are taken.
use Rattle.std.proofs.Common.{◌≡◌, ℕ, ◌+◌, Bool, true, false, cond, ◌&&◌, ◌||◌, List, [], ◌∷◌, ◌++◌, length, filter, refl, sym, ◌∙◌, ap, arith, append-nil, true≢false}
use Rattle.std.specs.List.{AllByRecursion as Every}
use Rattle.std.proofs.lemmas.Bool.{or_parts}
use Rattle.pc_message.specs.declared.descriptor.Descriptor.{Descriptor}
use Rattle.pc_message.specs.declared.descriptor.Change.{Change}
use Rattle.pc_tables.specs.Table.{same, is_among, total}
use Rattle.pc_tables.specs.Order.{AreDistinct}
use Rattle.pc_tables.proofs.Table.{same-true, same-refl}
use Rattle.pc_tables.proofs.Lists.{Every-weaker, filter-agree, filter-true, filter-false}
use Rattle.pc_tables.proofs.Totals.{total-append}
use Rattle.pc_cache_history.specs.declared.entry.CacheEntry.{CacheEntry}
use Rattle.pc_cache_history.specs.declared.entry.CacheEntry.TheVariants.{Begin, Synced, Took, Kept, Queue, Answered}
use Rattle.pc_cache_history.specs.Effect.{with_changes}
use Rattle.pc_cache_history.specs.History.{History, ◌▻◌, known}
use Rattle.pc_cache_history.specs.Allowed.{descriptor_count}
use Rattle.pc_cache_history.specs.Legal.{IsLegal}
use Rattle.pc_cache_history.specs.Laws.{is_cached, KeepOrder}
use Rattle.pc_cache_history.proofs.Mailboxes.{members, cached}

-- ---- order

self-among : (names : List (List ℕ)) → Every (λ name. is_among name names ≡ true) names
self-among [] = tt
self-among (first ∷ names) = (ap (λ b. b || is_among first names) (same-refl first), Every-weaker (λ name. is_among name names ≡ true) (λ name. is_among name (first ∷ names) ≡ true) (λ name h. ap (λ b. same name first || b) h ∙ or-true (same name first)) names (self-among names))
  where
    or-true : (b : Bool) → (b || true) ≡ true
    or-true true = refl
    or-true false = refl

filter-all : (p : List ℕ → Bool) (names : List (List ℕ)) → Every (λ name. p name ≡ true) names → filter p names ≡ names
filter-all p names h = filter-agree p (λ _. true) names h ∙ filter-true names

module _ (h : History) where
  abbrev names : List (List ℕ)
  names = (known h).mailboxes

  each-cached : Every (λ name. is_cached h name ≡ true) names
  each-cached = Every-weaker (λ name. is_among name names ≡ true) (λ name. is_cached h name ≡ true) (λ name e. sym (members h name) ∙ e) names (self-among names)

  -- where the others are left as they are, nothing comes behind them
  all-stay : names ≡ filter (λ name. is_cached h name) names ++ []
  all-stay = sym (append-nil (filter (λ name. is_cached h name) names) ∙ filter-all (λ name. is_cached h name) names each-cached)

  taken-stay : (taken : List ℕ) → filter (λ name. is_cached h name || same name taken) names ≡ names
  taken-stay taken = filter-all (λ name. is_cached h name || same name taken) names (Every-weaker (λ name. is_cached h name ≡ true) (λ name. (is_cached h name || same name taken) ≡ true) (λ name e. ap (λ b. b || same name taken) e) names each-cached)

  pub keep-order : (e : CacheEntry) → KeepOrder h e
  keep-order (Begin birth) = ([], sym (append-nil (filter (λ _. false) names) ∙ filter-false names), tt)
  keep-order (Took taken changes) = elim (is_among taken names) as (λ b. is_among taken names ≡ b → (more : List (List ℕ)) × (cond b names (names ++ taken ∷ []) ≡ filter (λ name. is_cached h name || same name taken) names ++ more) × Every (λ name. is_cached h name ≡ false) more) [
    | true ↦ λ e. ([], sym (append-nil (filter (λ name. is_cached h name || same name taken) names) ∙ taken-stay taken), tt)
    | false ↦ λ e. (taken ∷ [], ap (λ front. front ++ taken ∷ []) (sym (taken-stay taken)), (sym (members h taken) ∙ e, tt))
  ] refl
  keep-order (Kept kept) = (
    [],
    filter-agree (λ name. is_among name kept) (λ name. is_cached h name && is_among name kept) names (Every-weaker (λ name. is_cached h name ≡ true) (λ name. is_among name kept ≡ (is_cached h name && is_among name kept)) (λ name e. sym (ap (λ b. b && is_among name kept) e)) names each-cached)
        ∙ sym (append-nil (filter (λ name. is_cached h name && is_among name kept) names)),
    tt,
  )
  keep-order Synced = ([], all-stay, tt)
  keep-order (Queue mailbox uid flag on) = ([], all-stay, tt)
  keep-order (Answered number) = ([], all-stay, tt)

-- ---- numbers of descriptors

-- two counts that differ at one name alone
module _ (f g : List ℕ → ℕ) (name : List ℕ) (agree : (other : List ℕ) → same name other ≡ false → g other ≡ f other) where
  total-elsewhere : (names : List (List ℕ)) → Every (λ other. same name other ≡ false) names → total g names ≡ total f names
  total-elsewhere [] h = refl
  total-elsewhere (other ∷ names) h = omega (arith, agree other h.0, total-elsewhere names h.1)

  total-there : (names : List (List ℕ)) → AreDistinct names → is_among name names ≡ true → total g names + f name ≡ total f names + g name
  total-there [] distinct h = absurd (true≢false (sym h))
  total-there (other ∷ names) distinct h = elim (same name other) as (λ b. same name other ≡ b → (b || is_among name names) ≡ true → (g other + total g names) + f name ≡ (f other + total f names) + g name) [
    | true ↦ λ e _.
        let same_name = same-true name other e in
        let f_same : f name ≡ f other = ap f same_name in
        let g_same : g name ≡ g other = ap g same_name in
        let rest : Every (λ later. same name later ≡ false) names = Every-weaker (λ later. same other later ≡ false) (λ later. same name later ≡ false) (λ later d. ap (λ n. same n later) same_name ∙ d) names distinct.0 in
        omega (arith, f_same, g_same, total-elsewhere names rest)
    | false ↦ λ e there. omega (arith, agree other e, total-there names distinct.1 there)
  ] refl h

differs-before : (name : List ℕ) (names : List (List ℕ)) → is_among name names ≡ false → Every (λ other. same name other ≡ false) names
differs-before name [] h = tt
differs-before name (other ∷ names) h = let parts = or_parts (same name other) (is_among name names) h in (parts.0, differs-before name names parts.1)

pub count-of-mailbox : (h : History) (mailbox : List ℕ) (changes : List Change) → IsLegal h → descriptor_count (known (h ▻ Took mailbox changes)) + length ((known h).descriptors mailbox) ≡ descriptor_count (known h) + length (with_changes changes ((known h).descriptors mailbox))
count-of-mailbox h mailbox changes legal =
    let k = known h in
    let are = cached h legal in
    let f : List ℕ → ℕ = λ name. length (k.descriptors name) in
    let g : List ℕ → ℕ = λ name. length (cond (same mailbox name) (with_changes changes (k.descriptors name)) (k.descriptors name)) in
    let agree : (other : List ℕ) → same mailbox other ≡ false → g other ≡ f other = λ other e. ap (λ b. length (cond b (with_changes changes (k.descriptors other)) (k.descriptors other))) e in
    let own : g mailbox ≡ length (with_changes changes (k.descriptors mailbox)) = ap (λ b. length (cond b (with_changes changes (k.descriptors mailbox)) (k.descriptors mailbox))) (same-refl mailbox) in
    elim (is_among mailbox k.mailboxes) as (λ b. is_among mailbox k.mailboxes ≡ b → total g (cond b k.mailboxes (k.mailboxes ++ mailbox ∷ [])) + f mailbox ≡ total f k.mailboxes + length (with_changes changes (k.descriptors mailbox))) [
      | true ↦ λ e. omega (arith, own, total-there f g mailbox agree k.mailboxes are.distinct e)
      | false ↦ λ e.
          let nothing : f mailbox ≡ 0 = ap (λ (descriptors : List Descriptor). length descriptors) (are.nothing mailbox (sym (are.members mailbox) ∙ e)) in
          omega (arith, own, nothing, total-append g k.mailboxes (mailbox ∷ []), total-elsewhere f g mailbox agree k.mailboxes (differs-before mailbox k.mailboxes e))
    ] refl
