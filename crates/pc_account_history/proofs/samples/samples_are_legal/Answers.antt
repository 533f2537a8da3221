-- Each entry computes to an allowed one that passes no limit.
use Rattle.std.proofs.Common.{refl, lit≤}
use Rattle.pc_account_history.specs.History.{new_account}
use Rattle.pc_account_history.specs.Legal.{IsLegal}
use Rattle.pc_account_history.specs.Samples.{enrolled, five_pulled, touched_again, one_taken, work_pulled}
use Rattle.pc_account_history.proofs.samples.samples_are_legal.Goals as goal

new-legal : IsLegal new_account
new-legal = record { well_formed = record { positive = lit≤ tt; births_rise = tt; births = tt; client_names = tt; mailbox_names = tt; live = tt; dropped = tt; boards = tt; pulled = lit≤ tt }; within = (refl, (refl, (refl, (refl, (refl, (refl, (refl, tt))))))) }

enrolled-legal : IsLegal enrolled
enrolled-legal = ((new-legal, refl, refl), refl, refl)

five_pulled-legal : IsLegal five_pulled
five_pulled-legal = (((enrolled-legal, refl, refl), refl, refl), refl, refl)

touched_again-legal : IsLegal touched_again
touched_again-legal = ((((five_pulled-legal, refl, refl), refl, refl), refl, refl), refl, refl)

one_taken-legal : IsLegal one_taken
one_taken-legal = ((((enrolled-legal, refl, refl), refl, refl), refl, refl), refl, refl)

work_pulled-legal : IsLegal work_pulled
work_pulled-legal = (((enrolled-legal, refl, refl), refl, refl), refl, refl)

pub returns : goal.returns
returns c = (
  new-legal,
  touched_again-legal,
  (((one_taken-legal, refl, refl), refl, refl), refl, refl),
  (((work_pulled-legal, refl, refl), refl, refl), refl, refl),
  ((((work_pulled-legal, refl, refl), refl, refl), refl, refl), refl, refl),
  ((one_taken-legal, refl, refl), refl, refl),
)
