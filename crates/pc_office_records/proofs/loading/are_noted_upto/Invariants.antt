use Rattle.std.proofs.Common.{◌≡◌, ℕ, nat_le, List, map}
use Rattle.std.specs.List.{list_all}
use Rattle.pc_office_holdings.specs.Held.{noted_of}
use Rattle.pc_office_records.proofs.loading.are_noted_upto.Given as goal

-- those that are left decide
abbrev pub invariant-loop-standing : goal.invariant-loop-standing
invariant-loop-standing l = list_all (λ (user : List ℕ × ℕ). nat_le user.1 l.accepted) (map noted_of l.standing-iterator) ≡ list_all (λ (user : List ℕ × ℕ). nat_le user.1 l.accepted) (map noted_of l.users)
