-- What a session was told of its changes.
use Rattle.std.specs.Prelude.{ℕ, Bool, false, List, reverse, Option, None, Some, if◌then◌else◌}
use Rattle.std.specs.Option.{option_map_or}
use Rattle.std.specs.List.{find}
use Rattle.pc_base.specs.declared.name.StoreName.{StoreName}
use Rattle.pc_base.specs.declared.name.StoreName.TheVariants.{Office, Account}
use Rattle.pc_account_history.specs.declared.entry.Entry.{Entry}
use Rattle.pc_tables.specs.Table.{same}
use Rattle.pc_account_history.specs.History.{History}
use Rattle.pc_account_spelling.specs.Spelling.{spelled_entry}
use Rattle.pc_session.specs.declared.receipts.Receipt.{Receipt}
use Rattle.pc_session.specs.Desk.{entry_at}

-- the receipt of an entry of a user's account
abbrev pub receipt_of : List ℕ → ℕ → Entry → Receipt
receipt_of user number entry = record { owner = Account user; number = number; entry = spelled_entry entry }

-- the store is this user's account
abbrev pub is_account_of : List ℕ → StoreName → Bool
is_account_of user Office = false
is_account_of user (Account owner) = same owner user
is_account_of user _ = false

-- the pass of a user's account: the last receipt of it
abbrev pub pass_of : List ℕ → List Receipt → Option Receipt
pass_of user receipts = find (λ (receipt : Receipt). is_account_of user receipt.owner) (reverse receipts)

-- the history has the entry of the receipt at its number
abbrev pub is_kept : History → Receipt → Bool
is_kept h receipt = option_map_or (λ (entry : Entry). same (spelled_entry entry) receipt.entry) (entry_at h receipt.number) false

-- the number of the pass, where the history lacks its entry
abbrev pub missing_in : History → Receipt → Option ℕ
missing_in h receipt = if is_kept h receipt then None else Some receipt.number

abbrev pub missing : List ℕ → List Receipt → History → Option ℕ
missing user receipts h = option_map_or (missing_in h) (pass_of user receipts) None

-- the number of the pass, or 0 where there is none
abbrev pub number_of_pass : List ℕ → List Receipt → ℕ
number_of_pass user receipts = option_map_or (λ (receipt : Receipt). receipt.number) (pass_of user receipts) 0
