use Rattle.std.proofs.Common.{◌≡◌, false, sym, ◌∙◌, arith}
use Rattle.pc_world.specs.Events.{is_silent}
use Rattle.pc_world.proofs.OneEvent.{said_ok, said_only, said_bad}
use Rattle.pc_world.proofs.reading.read_event.Goals as goal

loud : (c : goal.After-said) → is_silent c.args.line.now ≡ false
loud c = sym c.is_silent_line.ensures ∙ c.if-is_silent_line.false

pub returns-clause-ok : goal.returns-clause-ok
returns-clause-ok c = said_ok c.args.line.now c.said.result (omega arith) (loud c) c.said.ensures

pub returns-clause-only : goal.returns-clause-only
returns-clause-only c = said_only c.args.line.now c.said.result (loud c) c.said.ensures

pub returns-clause-bad : goal.returns-clause-bad
returns-clause-bad c = said_bad c.args.line.now c.said.result (loud c) c.said.ensures
