-- What an allowed entry of several needs has, need by need.
use Rattle.std.proofs.Common.{◌≡◌, ℕ, true, nat_lt, nat_le, List, length, is_some}
use Rattle.std.specs.List.{list_all}
use Rattle.pc_account_history.specs.declared.entry.Entry.TheVariants.{Copy, Forget, Pull}
use Rattle.pc_message.specs.declared.limits.TheConstants.{MOST_LETTERS, LAST_MAIL}
use Rattle.pc_account_history.specs.Known.{Known}
use Rattle.pc_tables.specs.Order.{rises_from}
use Rattle.pc_account_history.specs.Allowed.{is_allowed, is_mailbox, is_client}
use Rattle.pc_tables.proofs.Booleans.{and3, and5}

pub copy-parts : (k : Known) (mailbox : List ℕ) (uid : ℕ) (target : List ℕ) → is_allowed k (Copy mailbox uid target) ≡ true → (is_mailbox k mailbox ≡ true) × (is_mailbox k target ≡ true) × (is_some (k.kept mailbox uid) ≡ true)
copy-parts k mailbox uid target h = and3 (is_mailbox k mailbox) (is_mailbox k target) (is_some (k.kept mailbox uid)) h

pub forget-parts : (k : Known) (client mailbox uids : List ℕ) → is_allowed k (Forget client mailbox uids) ≡ true → (is_client k client ≡ true) × (is_mailbox k mailbox ≡ true) × (rises_from 0 uids ≡ true) × (nat_lt 0 (length uids) ≡ true) × (list_all (λ uid. is_some (k.listed client mailbox uid)) uids ≡ true)
forget-parts k client mailbox uids h = and5 (is_client k client) (is_mailbox k mailbox) (rises_from 0 uids) (nat_lt 0 (length uids)) (list_all (λ uid. is_some (k.listed client mailbox uid)) uids) h

pub pull-parts : (k : Known) (upto : ℕ) (letters : List (List ℕ × List (List ℕ))) → is_allowed k (Pull upto letters) ≡ true → (nat_lt k.pulled upto ≡ true) × (nat_le upto LAST_MAIL ≡ true) × (nat_lt 0 (length letters) ≡ true) × (nat_le (length letters) MOST_LETTERS ≡ true) × (list_all (λ letter. is_mailbox k letter.0) letters ≡ true)
pull-parts k upto letters h = and5 (nat_lt k.pulled upto) (nat_le upto LAST_MAIL) (nat_lt 0 (length letters)) (nat_le (length letters) MOST_LETTERS) (list_all (λ letter. is_mailbox k letter.0) letters) h
