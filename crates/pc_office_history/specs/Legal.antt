-- Canonical records, and legal histories.
use Rattle.std.specs.Prelude.{◌≡◌, ℕ, ◌<◌, ◌≤◌, true, false, List, ◌++◌, MatchOption, None}
use Rattle.std.specs.List.{AllByRecursion}
use Rattle.std.specs.Map.{lookup, keys_of}
use Rattle.pc_message.specs.declared.limits.TheConstants.{LAST_MAIL}
use Rattle.pc_tables.specs.Table.{same, is_among}
use Rattle.pc_tables.specs.Order.{Ordered, AreDistinct}
use Rattle.pc_office_history.specs.declared.kept.Target.{Target}
use Rattle.pc_office_history.specs.declared.kept.KeptMail.{KeptMail}
use Rattle.pc_office_history.specs.Record.{OfficeRecord}
use Rattle.pc_office_history.specs.Known.{said_by}
use Rattle.pc_office_history.specs.History.{History, start, ◌▹◌, known}
use Rattle.pc_office_history.specs.Allowed.{is_allowed}
use Rattle.pc_office_history.specs.Limits.{limit_passed, IsWithin, limits_of_bases}
use Rattle.pc_office_history.specs.Step.{is_awaited}

-- two targets are of different users
abbrev pub HasOtherUser : Target → Target → Type 0
HasOtherUser target later = same target.user later.user ≡ false

-- the target is a user's, who isn't noted to have pulled the mail of this number
abbrev pub IsUnpulled : List (List ℕ × ℕ) → ℕ → Target → Type 0
IsUnpulled users number target = MatchOption (lookup (same target.user) users) ⊥ (λ noted. noted < number)

-- an accepted mail that waits for one user or more, and for each once
pub record IsKept (users : List (List ℕ × ℕ)) (accepted : ℕ) (mail : KeptMail) : Type 0 where
  pub waits : is_awaited mail.targets ≡ true
  pub apart : Ordered HasOtherUser mail.targets
  pub unpulled : AllByRecursion (IsUnpulled users mail.number) mail.targets
  pub so_far : mail.number ≤ accepted

-- a well-formed record: canonical but for the limits
pub record IsWellFormed (r : OfficeRecord) : Type 0 where
  -- no board has the name of a user or an address
  pub user_names : AreDistinct (keys_of r.users ++ keys_of r.boards)
  pub address_names : AreDistinct (keys_of r.addresses ++ keys_of r.boards)
  pub owners : AllByRecursion (λ (address : List ℕ × Target). is_among address.1.user (keys_of r.users) ≡ true) r.addresses
  pub noted : AllByRecursion (λ (user : List ℕ × ℕ). user.1 ≤ r.accepted) r.users
  pub rising : Ordered (λ (mail later : KeptMail). mail.number < later.number) r.kept
  pub kept : AllByRecursion (IsKept r.users r.accepted) r.kept
  pub accepted : r.accepted ≤ LAST_MAIL

-- a canonical record
pub record IsCanonical (r : OfficeRecord) : Type 0 where
  pub well_formed : IsWellFormed r
  pub within : IsWithin (said_by r) limits_of_bases

-- the base is canonical, each entry was allowed, and none passed a limit; the number of the first entry is any,
-- since of all that is known of the office only the number of the next entry depends on it
abbrev pub IsLegal : History → Type 0
IsLegal (start r number) = IsCanonical r
IsLegal (h ▹ e) = IsLegal h × (is_allowed (known h) e ≡ true) × (limit_passed (known h) e ≡ None)
