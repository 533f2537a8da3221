-- What is counted over a table, once one mailbox or each is changed.
use Rattle.std.proofs.Common.{◌≡◌, ℕ, zero, suc, ◌+◌, ◌%◌, Bool, true, false, cond, List, [], ◌∷◌, ◌++◌, length, slice_get, Option, None, Some, refl, sym, ap, ◌∙◌, subst, arith}
use Rattle.std.specs.Map.{lookup, set_value, remove_entry, values_of}
use Rattle.std.proofs.lemmas.Map.Steps.{set_value_same}
use Rattle.indexmap.specs.IndexMap.{set_value_at}
use Rattle.pc_tables.specs.Table.{same, total, map_values}
use Rattle.pc_account_history.specs.Record.{MailboxRecord}
use Rattle.pc_tables.proofs.Options.{some-same, some-none}
use Rattle.pc_account_holdings.specs.Mailboxes.{Table, AreCounted, weight_in, listed_in, weight_held, listed_held, front_changed}
use Rattle.pc_tables.proofs.Totals.{total-set, total-removed}
use Rattle.pc_tables.proofs.Fronts.{total-set-at}

abbrev pub nothing : Option MailboxRecord
nothing = None

module _ (f : MailboxRecord → ℕ) where
  abbrev held : Table → ℕ
  held table = total (λ (entry : List ℕ × MailboxRecord). f entry.1) table

  held-append : (table : Table) (entry : List ℕ × MailboxRecord) → held (table ++ entry ∷ []) ≡ held table + f entry.1
  held-append [] entry = omega arith
  held-append (first ∷ table) entry = let rest = held-append table entry in omega (arith, rest)

unremoved-step : (b : Bool) (entry : List ℕ × MailboxRecord) (table rest : Table) (found : Option MailboxRecord) → (nothing ≡ found → rest ≡ table) → nothing ≡ cond b (Some entry.1) found → cond b table (entry ∷ rest) ≡ entry ∷ table
unremoved-step true entry table rest found h e = absurd (some-none entry.1 (sym e))
unremoved-step false entry table rest found h e = ap (λ (l : Table). entry ∷ l) (h e)

-- nothing is taken out where nothing is found
pub unremoved : (name : List ℕ) (table : Table) → nothing ≡ lookup (same name) table → remove_entry (same name) table ≡ table
unremoved name [] e = refl
unremoved name (entry ∷ table) e = unremoved-step (same name entry.0) entry table (remove_entry (same name) table) (lookup (same name) table) (unremoved name table) e

-- ---- each mailbox in turn

module _ (change : MailboxRecord → MailboxRecord) where
  pub front-step : (table : Table) (place : ℕ) (old : MailboxRecord) → slice_get (values_of (front_changed change place table)) place ≡ Some old → set_value_at (front_changed change place table) place (change old) ≡ front_changed change (suc place) table
  front-step [] zero old e = refl
  front-step [] (suc place) old e = refl
  front-step (entry ∷ table) zero old e = let same-box = some-same entry.1 old e in ap (λ box. (entry.0, change box) ∷ table) (sym same-box)
  front-step (entry ∷ table) (suc place) old e = ap (λ (rest : Table). (entry.0, change entry.1) ∷ rest) (front-step table place old e)

  pub front-all : (table : Table) → front_changed change (length table) table ≡ map_values change table
  front-all [] = refl
  front-all (entry ∷ table) = ap (λ (rest : Table). (entry.0, change entry.1) ∷ rest) (front-all table)

-- a sum of 64 bits follows: where one part goes from `before` to `now`
abbrev pub Follows : ℕ → ℕ → ℕ → ℕ → Type 0
Follows sum sum' before now = (old new : ℕ) → new + before ≡ old + now → sum ≡ old % 18446744073709551616 → sum' ≡ new % 18446744073709551616

pub counted-untaken : (weight changes : ℕ) (name : List ℕ) (table entries : Table) → nothing ≡ lookup (same name) table → entries ≡ remove_entry (same name) table → AreCounted weight changes table → AreCounted weight changes entries
counted-untaken weight changes name table entries found taken counted = subst (AreCounted weight changes) (sym (taken ∙ unremoved name table found)) counted

module _ (weight changes weight' changes' : ℕ) (name : List ℕ) (table entries : Table) (old new : MailboxRecord) where
  -- the counts follow the change of one mailbox
  pub counted-set : (before-weight before-changes now-weight now-changes : ℕ)
      → before-weight ≡ weight_in old → before-changes ≡ listed_in old → now-weight ≡ weight_in new → now-changes ≡ listed_in new
      → Some old ≡ lookup (same name) table → entries ≡ set_value (same name) table new
      → Follows weight weight' before-weight now-weight → Follows changes changes' before-changes now-changes
      → AreCounted weight changes table → AreCounted weight' changes' entries
  counted-set bw bc nw nc ebw ebc enw enc found set follows-weight follows-changes counted = record {
    weighed = rw set (follows-weight (weight_held table) (weight_held (set_value (same name) table new)) (rw (ebw, enw) (total-set weight_in name table old new (sym found))) counted.weighed);
    listed = rw set (follows-changes (listed_held table) (listed_held (set_value (same name) table new)) (rw (ebc, enc) (total-set listed_in name table old new (sym found))) counted.listed);
  }

  -- a mailbox that is as it was leaves the counts
  pub counted-same : Some old ≡ lookup (same name) table → entries ≡ set_value (same name) table new → new ≡ old → AreCounted weight changes table → AreCounted weight changes entries
  counted-same found set is counted = rw (set, is, set_value_same (same name) table old (sym found)) counted

  -- the counts follow a mailbox that is put behind the others
  pub counted-put : (before-weight before-changes now-weight now-changes : ℕ)
      → before-weight ≡ 0 → before-changes ≡ 0 → now-weight ≡ weight_in new → now-changes ≡ listed_in new
      → entries ≡ table ++ (name, new) ∷ []
      → Follows weight weight' before-weight now-weight → Follows changes changes' before-changes now-changes
      → AreCounted weight changes table → AreCounted weight' changes' entries
  counted-put bw bc nw nc ebw ebc enw enc put follows-weight follows-changes counted =
      let heavier = held-append weight_in table (name, new) in
      let longer = held-append listed_in table (name, new) in record {
        weighed = rw put (follows-weight (weight_held table) (weight_held (table ++ (name, new) ∷ [])) (omega (arith, heavier, ebw, enw)) counted.weighed);
        listed = rw put (follows-changes (listed_held table) (listed_held (table ++ (name, new) ∷ [])) (omega (arith, longer, ebc, enc)) counted.listed);
      }

  -- the counts follow a mailbox that is taken out
  pub counted-taken : (before-weight before-changes now-weight now-changes : ℕ)
      → before-weight ≡ weight_in old → before-changes ≡ listed_in old → now-weight ≡ 0 → now-changes ≡ 0
      → Some old ≡ lookup (same name) table → entries ≡ remove_entry (same name) table
      → Follows weight weight' before-weight now-weight → Follows changes changes' before-changes now-changes
      → AreCounted weight changes table → AreCounted weight' changes' entries
  counted-taken bw bc nw nc ebw ebc enw enc found taken follows-weight follows-changes counted =
      let lighter = total-removed weight_in name table old (sym found) in
      let shorter = total-removed listed_in name table old (sym found) in record {
        weighed = rw taken (follows-weight (weight_held table) (weight_held (remove_entry (same name) table)) (omega (arith, lighter, ebw, enw)) counted.weighed);
        listed = rw taken (follows-changes (listed_held table) (listed_held (remove_entry (same name) table)) (omega (arith, shorter, ebc, enc)) counted.listed);
      }

  -- the counts follow the change of the mailbox at a place
  pub counted-set-at : (place before-weight before-changes now-weight now-changes : ℕ)
      → before-weight ≡ weight_in old → before-changes ≡ listed_in old → now-weight ≡ weight_in new → now-changes ≡ listed_in new
      → Some old ≡ slice_get (values_of table) place → entries ≡ set_value_at table place new
      → Follows weight weight' before-weight now-weight → Follows changes changes' before-changes now-changes
      → AreCounted weight changes table → AreCounted weight' changes' entries
  counted-set-at place bw bc nw nc ebw ebc enw enc found set follows-weight follows-changes counted = record {
    weighed = rw set (follows-weight (weight_held table) (weight_held (set_value_at table place new)) (rw (ebw, enw) (total-set-at weight_in table place old new (sym found))) counted.weighed);
    listed = rw set (follows-changes (listed_held table) (listed_held (set_value_at table place new)) (rw (ebc, enc) (total-set-at listed_in table place old new (sym found))) counted.listed);
  }
