-- Names that are distinct, and tables under them.
use Rattle.std.proofs.Common.{◌≡◌, ℕ, true, false, cond, not, List, [], ◌∷◌, ◌++◌, Option, Some, refl, sym, ap, ◌∙◌, subst, MatchOption, append_assoc, length, suc, ◌||◌, true≢false}
use Rattle.std.specs.Map.{lookup, keys_of}
use Rattle.std.specs.List.{AllByRecursion as Every}
use Rattle.std.proofs.lemmas.Bool.{not-true, or_parts}
use Rattle.std.specs.Prelude.{⊤}
use Rattle.std.proofs.lemmas.List.Elements.{filter-append}
use Rattle.pc_tables.specs.Table.{same, other_names, others, is_among}
use Rattle.pc_tables.specs.Order.{AreDistinct}
use Rattle.pc_tables.proofs.Lists.{Every-weaker, Every-append, Every-passes}
use Rattle.pc_tables.proofs.Table.{same-refl, same-true, same-sym, keys-others, keys-append, lookup-absent}
use Rattle.pc_tables.proofs.Order.{Ordered-filter, Ordered-push, Ordered-insert}

-- what holds of all that is found holds of the whole table, where no name comes twice
pub Every-from_lookups : {X : Type 0} (P : List ℕ → X → Type 0) (table : List (List ℕ × X)) → AreDistinct (keys_of table) → ((asked : List ℕ) → MatchOption (lookup (same asked) table) ⊤ (P asked)) → Every (λ (entry : List ℕ × X). P entry.0 entry.1) table
Every-from_lookups P [] distinct f = tt
Every-from_lookups {X} P (entry ∷ table) distinct f =
    let here : MatchOption (cond true (Some entry.1) (lookup (same entry.0) table)) ⊤ (P entry.0) = subst (λ b. MatchOption (cond b (Some entry.1) (lookup (same entry.0) table)) ⊤ (P entry.0)) (same-refl entry.0) (f entry.0) in (
      here,
      Every-from_lookups P table distinct.1 (λ asked. elim (same asked entry.0) as (λ b. same asked entry.0 ≡ b → MatchOption (cond b (Some entry.1) (lookup (same asked) table)) ⊤ (P asked) → MatchOption (lookup (same asked) table) ⊤ (P asked)) [
        | true ↦ λ e g. subst (λ (o : Option X). MatchOption o ⊤ (P asked)) (sym (lookup-absent asked table (Every-weaker (λ name. same entry.0 name ≡ false) (λ name. same asked name ≡ false) (λ name a. rw (same-true asked entry.0 e) a) (keys_of table) distinct.0))) tt
        | false ↦ λ e g. g
      ] refl (f asked)),
    )

pub other-than : (name : List ℕ) (names : List (List ℕ)) → Every (λ (other : List ℕ). same name other ≡ false) (other_names name names)
other-than name names = Every-weaker (λ (other : List ℕ). not (same name other) ≡ true) (λ (other : List ℕ). same name other ≡ false) (λ other h. not-true (same name other) h) (other_names name names) (Every-passes (λ other. not (same name other)) names)

pub than-other : (name : List ℕ) (names : List (List ℕ)) → Every (λ (other : List ℕ). same other name ≡ false) (other_names name names)
than-other name names = Every-weaker (λ (other : List ℕ). same name other ≡ false) (λ (other : List ℕ). same other name ≡ false) (λ other h. same-sym other name ∙ h) (other_names name names) (other-than name names)

module _ (name : List ℕ) (names more : List (List ℕ)) (distinct : AreDistinct (names ++ more)) where
  pub both-others : AreDistinct (other_names name names ++ other_names name more)
  both-others = subst AreDistinct (filter-append (λ other. not (same name other)) names more) (Ordered-filter (λ (a b : List ℕ). same a b ≡ false) (λ other. not (same name other)) (names ++ more) distinct)

  pub distinct-between : AreDistinct ((other_names name names ++ name ∷ []) ++ other_names name more)
  distinct-between = Ordered-insert (λ (a b : List ℕ). same a b ≡ false) (other_names name names) (other_names name more) name both-others (than-other name names) (other-than name more)

  pub distinct-behind : AreDistinct (other_names name names ++ (other_names name more ++ name ∷ []))
  distinct-behind = subst AreDistinct (append_assoc (other_names name names) (other_names name more) (name ∷ [])) (Ordered-push (λ (a b : List ℕ). same a b ≡ false) (other_names name names ++ other_names name more) name both-others (Every-append (λ (other : List ℕ). same other name ≡ false) (other_names name names) (other_names name more) (than-other name names) (than-other name more)))

pub keys-distinct : {X : Type 0} (name : List ℕ) (value : X) (table : List (List ℕ × X)) → AreDistinct (keys_of table) → AreDistinct (keys_of (others name table ++ (name, value) ∷ []))
keys-distinct name value table h = subst AreDistinct (sym (keys-append (others name table) ((name, value) ∷ []) ∙ ap (λ names. names ++ name ∷ []) (keys-others name table))) (Ordered-push (λ (a b : List ℕ). same a b ≡ false) (other_names name (keys_of table)) name (Ordered-filter (λ (a b : List ℕ). same a b ≡ false) (λ other. not (same name other)) (keys_of table) h) (than-other name (keys_of table)))

pub others-distinct : {X : Type 0} (name : List ℕ) (table : List (List ℕ × X)) → AreDistinct (keys_of table) → AreDistinct (keys_of (others name table))
others-distinct name table h = subst AreDistinct (sym (keys-others name table)) (Ordered-filter (λ (a b : List ℕ). same a b ≡ false) (λ other. not (same name other)) (keys_of table) h)

-- ---- names that are among others

not-same : (name : List ℕ) (names : List (List ℕ)) → is_among name names ≡ false → Every (λ (other : List ℕ). same other name ≡ false) names
not-same name [] e = tt
not-same name (other ∷ names) e = let parts = or_parts (same name other) (is_among name names) e in (same-sym other name ∙ parts.0, not-same name names parts.1)

pub distinct-push : (names : List (List ℕ)) (name : List ℕ) → AreDistinct names → not (is_among name names) ≡ true → AreDistinct (names ++ name ∷ [])
distinct-push names name distinct new = Ordered-push (λ (a b : List ℕ). same a b ≡ false) names name distinct (not-same name names (not-true (is_among name names) new))

pub not-among : (name : List ℕ) (names : List (List ℕ)) → Every (λ (other : List ℕ). same name other ≡ false) names → is_among name names ≡ false
not-among name [] h = refl
not-among name (x ∷ names) h = rw h.0 (not-among name names h.1)

pub others-as-before : (name : List ℕ) (names : List (List ℕ)) → is_among name names ≡ false → length (other_names name names) ≡ length names
others-as-before name [] h = refl
others-as-before name (x ∷ names) h = elim (same name x) as (λ b. (b || is_among name names) ≡ false → length (cond (not b) (x ∷ other_names name names) (other_names name names)) ≡ suc (length names)) [
  | true ↦ λ g. absurd (true≢false g)
  | false ↦ λ g. ap suc (others-as-before name names g)
] h

pub others-fewer : (name : List ℕ) (names : List (List ℕ)) → AreDistinct names → is_among name names ≡ true → suc (length (other_names name names)) ≡ length names
others-fewer name [] d h = absurd (true≢false (sym h))
others-fewer name (x ∷ names) d h = elim (same name x) as (λ b. same name x ≡ b → (b || is_among name names) ≡ true → suc (length (cond (not b) (x ∷ other_names name names) (other_names name names))) ≡ suc (length names)) [
  | true ↦ λ e g. let here = same-true name x e in ap suc (others-as-before name names (rw here (not-among x names d.0)))
  | false ↦ λ e g. ap suc (others-fewer name names d.1 g)
] refl h
