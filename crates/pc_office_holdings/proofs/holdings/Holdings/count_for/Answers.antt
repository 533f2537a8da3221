use Rattle.std.proofs.Common.{◌≡◌, Bool, true, false, Option, Some, None, is_some, List, Bor, refl, sym, ap, ◌∙◌}
use Rattle.std.specs.Option.{option_copied}
use Rattle.pc_office_history.specs.declared.kept.KeptMail.{KeptMail}
use Rattle.pc_office_history.specs.declared.kept.Target.{Target}
use Rattle.pc_office_history.specs.Record.{target_of, mails_for}
use Rattle.pc_office_holdings.specs.declared.users.Standing.{Standing}
use Rattle.pc_office_holdings.specs.Held.{Held}
use Rattle.pc_office_holdings.specs.Step.{standing_of, with_mail}
use Rattle.pc_office_holdings.proofs.Standings.{front-counted, front-uncounted, all-counted}
use Rattle.pc_office_holdings.proofs.holdings.Holdings.count_for.Goals as goal
use Rattle.pc_office_holdings.proofs.holdings.Holdings.count_for.Goals.{then-is_some, else-is_some}

pub loop-mail-init : goal.loop-mail-init
loop-mail-init c = ap (λ (standing : Standing). record standing { noted = c.args.number }) c.new-standing.ensures

copied-some : (found : Option (Bor Target)) → is_some (option_copied found) ≡ is_some found
copied-some None = refl
copied-some (Some target) = refl

is-some : (found : Option (Bor Target)) (target : Option Target) (answer : Bool) → answer ≡ is_some found → option_copied found ≡ target → is_some target ≡ answer
is-some found target answer e same = ap (λ (o : Option Target). is_some o) (sym same) ∙ copied-some found ∙ sym e

pub loop-mail-preserved : goal.loop-mail-preserved
loop-mail-preserved c = elim c.if-is_some.branch [
  | then-is_some w ↦ front-counted c.args.user.now c.args.number c.deref-mail-items.result.now c.loop-mail.mail-index c.mail-item.result c.loop-mail.standing c.if-is_some.standing c.loop-mail-test.true c.mail-item.is c.loop-mail.invariant
      (is-some c.of.result (target_of c.args.user.now c.mail-item.result.targets) true w.if-is_some.ensures c.of.ensures)
      (w.standing-is ∙ w.add.ensures ∙ ap (λ weight. with_mail weight c.loop-mail.standing) w.weight.ensures.weight)
  | else-is_some w ↦ front-uncounted c.args.user.now c.args.number c.deref-mail-items.result.now c.loop-mail.mail-index c.mail-item.result c.loop-mail.standing c.if-is_some.standing c.loop-mail-test.true c.mail-item.is c.loop-mail.invariant
      (is-some c.of.result (target_of c.args.user.now c.mail-item.result.targets) false w.if-is_some.ensures c.of.ensures)
      w.standing-is
]

pub returns : goal.returns
returns c =
    let same = c.deref-mail-items.ensures.value in
    c.loop-mail.invariant ∙ all-counted c.args.user.now c.args.number c.deref-mail-items.result.now c.loop-mail.mail-index c.loop-mail-test.false
    ∙ ap (λ (kept : List KeptMail). standing_of c.args.number (mails_for c.args.user.now kept)) (same ∙ ap (λ (held : Held). held.kept) c.self.view_is)
