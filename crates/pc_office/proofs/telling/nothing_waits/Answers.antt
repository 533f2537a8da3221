use Rattle.std.proofs.Common.{ℕ, List, sym, ap, ◌∙◌}
use Rattle.std.specs.Map.{lookup}
use Rattle.pc_tables.specs.Table.{same}
use Rattle.pc_office_holdings.specs.declared.users.Standing.{Standing}
use Rattle.pc_office.proofs.NothingWaits.{counted-none, for-no_user}
use Rattle.pc_office.proofs.telling.nothing_waits.Goals as goal

pub returns-in-Some : goal.returns-in-Some
returns-in-Some c = counted-none c.args.holdings.now c.requires c.args.user.now c.in-Some.standing (ap (λ (users : List (List ℕ × Standing)). lookup (same c.args.user.now) users) (sym c.users.ensures) ∙ sym c.get.ensures ∙ c.in-Some.is)

pub returns-in-None : goal.returns-in-None
returns-in-None c = for-no_user c.args.holdings.now c.requires c.args.user.now (ap (λ (users : List (List ℕ × Standing)). lookup (same c.args.user.now) users) (sym c.users.ensures) ∙ sym c.get.ensures ∙ c.in-None.is)
