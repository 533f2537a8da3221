use Rattle.std.proofs.Common.{◌≡◌, ℕ, List, length, map, take, subst}
use Rattle.pc_world.specs.Rows.{lines_of}
use Rattle.pc_world.specs.Runs.{text_of}
use Rattle.pc_world.specs.Steps.{indented}
use Rattle.pc_world.proofs.Adding.{front_stays}
use Rattle.pc_world.proofs.transcript.print_rows.Goals as goal

pub returns-in_default : goal.returns-in_default
returns-in_default c =
    let printed = text_of (map indented (lines_of (take c.loop-row.row-index c.args.rows.now))) in
    front_stays c.args.text.now.items printed c.print_row.new.text.items
    (subst (λ (text : List ℕ). take (length text) c.print_row.new.text.items ≡ text) c.loop-row.invariant c.in_default.ensures)
