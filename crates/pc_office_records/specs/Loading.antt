-- What is loaded of an office.
use Rattle.std.specs.Prelude.{◌≡◌, ℕ, ◌&&◌, nat_le, Bool, List}
use Rattle.std.specs.List.{AllByRecursion, list_all}
use Rattle.pc_message.specs.declared.limits.TheConstants.{LAST_MAIL}
use Rattle.pc_office_holdings.specs.declared.users.Standing.{Standing}

-- nothing is counted of a user
pub record IsUncounted (user : List ℕ × Standing) : Type 0 where
  pub mails : user.1.mails ≡ 0
  pub weight : user.1.weight ≡ 0

-- nothing is counted of anyone
abbrev pub AreUncounted : List (List ℕ × Standing) → Type 0
AreUncounted users = AllByRecursion IsUncounted users

-- so many mails can have been accepted, where this is noted of the users
abbrev pub is_accepted : List (List ℕ × ℕ) → ℕ → Bool
is_accepted users accepted = list_all (λ (user : List ℕ × ℕ). nat_le user.1 accepted) users && nat_le accepted LAST_MAIL
