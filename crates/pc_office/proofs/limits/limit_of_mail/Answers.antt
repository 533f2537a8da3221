use Rattle.std.proofs.Common.{◌∙◌, nat_le, length, refl, sym, ap, arith, le-ltb, le-leb}
use Rattle.std.specs.List.{list_any, list_all}
use Rattle.std.proofs.lemmas.Bool.{and_from}
use Rattle.pc_base.specs.Line.{is_line}
use Rattle.pc_message.specs.Message.{size_of}
use Rattle.pc_office_history.specs.declared.limits.TheConstants.{MOST_RECIPIENTS}
use Rattle.pc_office_history.specs.Known.{said_by}
use Rattle.pc_office_holdings.specs.Held.{record_in}
use Rattle.pc_office.specs.Limits.{is_over, are_full}
use Rattle.pc_office.proofs.MailWaits.{waits-over}
use Rattle.pc_office.proofs.MailOnBoards.{boards-full}
use Rattle.pc_office.proofs.MailPasses.{mail-passes}
use Rattle.pc_office.proofs.limits.limit_of_mail.Goals as goal

pub returns-then-too_much_waits-clause-limit : goal.returns-then-too_much_waits-clause-limit
returns-then-too_much_waits-clause-limit c =
    let held = c.args.holdings.now in
    let names = c.args.names.now in
    let message = c.args.message.now in
    let few = le-ltb MOST_RECIPIENTS (length names) c.if-names-gt-MOST_RECIPIENTS.false in
    let waits = waits-over held c.requires.sound names message c.requires.names (omega arith) ∙ ap (λ weight. list_any (is_over weight held) names) (sym c.weight-weight.ensures.weight) ∙ sym c.too_much_waits.ensures ∙ c.if-too_much_waits.true in
    sym (mail-passes (said_by (record_in held)) names message _ _ _ few waits refl)

pub returns-then-boards_are_full-clause-limit : goal.returns-then-boards_are_full-clause-limit
returns-then-boards_are_full-clause-limit c =
    let held = c.args.holdings.now in
    let names = c.args.names.now in
    let message = c.args.message.now in
    let few = le-ltb MOST_RECIPIENTS (length names) c.if-names-gt-MOST_RECIPIENTS.false in
    let waits = waits-over held c.requires.sound names message c.requires.names (omega arith) ∙ ap (λ weight. list_any (is_over weight held) names) (sym c.weight-weight.ensures.weight) ∙ sym c.too_much_waits.ensures ∙ c.if-too_much_waits.false in
    let full = boards-full held c.requires.sound names message c.requires.names.apart ∙ ap (λ weight. are_full weight held names) (sym c.weight-weight.ensures.weight) ∙ sym c.boards_are_full.ensures ∙ c.if-boards_are_full.true in
    sym (mail-passes (said_by (record_in held)) names message _ _ _ few waits full)

pub returns-clause-limit : goal.returns-clause-limit
returns-clause-limit c =
    let held = c.args.holdings.now in
    let names = c.args.names.now in
    let message = c.args.message.now in
    let few = le-ltb MOST_RECIPIENTS (length names) c.if-names-gt-MOST_RECIPIENTS.false in
    let waits = waits-over held c.requires.sound names message c.requires.names (omega arith) ∙ ap (λ weight. list_any (is_over weight held) names) (sym c.weight-weight.ensures.weight) ∙ sym c.too_much_waits.ensures ∙ c.if-too_much_waits.false in
    let full = boards-full held c.requires.sound names message c.requires.names.apart ∙ ap (λ weight. are_full weight held names) (sym c.weight-weight.ensures.weight) ∙ sym c.boards_are_full.ensures ∙ c.if-boards_are_full.false in
    sym (mail-passes (said_by (record_in held)) names message _ _ _ few waits full)

pub returns-clause-fits : goal.returns-clause-fits
returns-clause-fits c = λ _.
    let message = c.args.message.now in
    and_from (list_all is_line message) (nat_le (size_of message) 65536) c.weight-weight.ensures.lines (le-leb (size_of message) 65536 (omega (arith, c.weight-weight.ensures.weight, c.weight-weight.ensures.bound)))
