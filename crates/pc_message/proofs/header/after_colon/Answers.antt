use Rattle.std.proofs.Common.{◌==◌, ◌+◌, sym, ◌∙◌}
use Rattle.std.proofs.lemmas.List.{take_rest}
use Rattle.pc_message.proofs.Places.{after_first-some, after_first-none}
use Rattle.pc_message.proofs.header.after_colon.Goals as goal

pub returns-in-Some : goal.returns-in-Some
returns-in-Some c =
    let line = c.args.line.now in
    let place = c.in-Some.colon in
    take_rest line (place + 1) ∙ sym (after_first-some (λ byte. byte == 58) line place (sym c.in-Some.ensures.place))

pub returns-in-None : goal.returns-in-None
returns-in-None c = sym (after_first-none (λ byte. byte == 58) c.args.line.now (sym c.in-None.ensures.place))
