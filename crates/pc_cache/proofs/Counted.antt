-- How many descriptors there are in a table, once one mailbox is changed or put behind the others.
use Rattle.std.proofs.Common.{◌≡◌, ℕ, ◌+◌, ◌%◌, List, [], ◌∷◌, ◌++◌, length, Some, sym, ap, ◌∙◌, arith}
use Rattle.std.specs.Map.{lookup, keys_of, set_value}
use Rattle.pc_message.specs.declared.descriptor.Descriptor.{Descriptor}
use Rattle.pc_tables.specs.Table.{same}
use Rattle.pc_tables.proofs.Table.{keys-append, keys-set_value}
use Rattle.pc_tables.proofs.Totals.{total-append, total-set}
use Rattle.pc_cache.specs.Mailboxes.{Table, count_in}

-- the names and the count of a table
abbrev pub AreKept : List (List ℕ) → ℕ → Table → Type 0
AreKept names count table = (names ≡ keys_of table) × (count ≡ count_in table % 18446744073709551616)

-- they follow a mailbox that is put behind the others
pub kept-put : (names all : List (List ℕ)) (count more : ℕ) (table entries : Table) (mailbox : List ℕ) (descriptors : List Descriptor) → all ≡ names ++ mailbox ∷ [] → more ≡ length descriptors → entries ≡ table ++ (mailbox, descriptors) ∷ [] → AreKept names count table → AreKept all ((count + more) % 18446744073709551616) entries
kept-put names all count more table entries mailbox descriptors push long put kept =
    let counted : count_in entries ≡ count_in table + count_in ((mailbox, descriptors) ∷ []) = ap count_in put ∙ total-append (λ (one : List ℕ × List Descriptor). length one.1) table ((mailbox, descriptors) ∷ []) in
    let one : count_in ((mailbox, descriptors) ∷ []) ≡ length descriptors = omega arith in
    let before : count ≡ count_in table % 18446744073709551616 = kept.1 in
    (push ∙ ap (λ (front : List (List ℕ)). front ++ mailbox ∷ []) kept.0 ∙ sym (ap keys_of put ∙ keys-append table ((mailbox, descriptors) ∷ [])), omega (arith, counted, one, before, long))

-- they follow the change of a mailbox
pub kept-set : (names : List (List ℕ)) (count new_count before behind : ℕ) (table entries : Table) (mailbox : List ℕ) (old new : List Descriptor) → Some old ≡ lookup (same mailbox) table → entries ≡ set_value (same mailbox) table new → before ≡ length old → behind ≡ length new → ((from to : ℕ) → to + before ≡ from + behind → count ≡ from % 18446744073709551616 → new_count ≡ to % 18446744073709551616) → AreKept names count table → AreKept names new_count entries
kept-set names count new_count before behind table entries mailbox old new found set is_before is_behind follows kept =
    let counted = total-set (λ (list : List Descriptor). length list) mailbox table old new (sym found) in
    let followed = follows (count_in table) (count_in (set_value (same mailbox) table new)) (omega (arith, counted, is_before, is_behind)) kept.1 in
    (kept.0 ∙ sym (ap keys_of set ∙ keys-set_value (same mailbox) table new), followed ∙ ap (λ (t : Table). count_in t % 18446744073709551616) (sym set))
