-- What an entry that fits says of its lists.
use Rattle.std.proofs.Common.{ℕ, ◌<◌, ◌≤◌, ◌&&◌, List, length, IsTrue, nat_lt, nat_le}
use Rattle.std.specs.List.{list_all}
use Rattle.std.proofs.lemmas.Bool.{and_parts, ltb-true, leb-true}
use Rattle.pc_base.specs.Name.{is_name}
use Rattle.pc_account_history.specs.declared.entry.Entry.TheVariants.{Forget, Pull}
use Rattle.pc_fields.specs.Fitting.{is_u32}
use Rattle.pc_account_spelling.specs.EntryForm.{is_letter, entry_fits}

pub forget_count : (client mailbox uids : List ℕ) → IsTrue (entry_fits (Forget client mailbox uids)) → length uids < 4294967296
forget_count client mailbox uids fits =
    let first = and_parts (is_name client && is_name mailbox && is_u32 (length uids)) (list_all is_u32 uids) fits in
    let second = and_parts (is_name client && is_name mailbox) (is_u32 (length uids)) first.0 in
    ltb-true (length uids) 4294967296 second.1

pub pull_count : (upto : ℕ) (letters : List (List ℕ × List (List ℕ))) → IsTrue (entry_fits (Pull upto letters)) → length letters ≤ 64
pull_count upto letters fits =
    let first = and_parts (nat_lt upto 18446744073709551616 && nat_lt 0 (length letters) && nat_le (length letters) 64) (list_all is_letter letters) fits in
    let second = and_parts (nat_lt upto 18446744073709551616 && nat_lt 0 (length letters)) (nat_le (length letters) 64) first.0 in
    leb-true (length letters) 64 second.1
