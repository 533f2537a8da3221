use Rattle.std.proofs.Common.{◌≡◌, ◌<◌, List, length, sym, ap, ◌∙◌, arith}
use Rattle.pc_message.specs.declared.lists.Mail.{Mail}
use Rattle.pc_office.proofs.Told.{told-more, told-on_the_way, told-at_the_end}
use Rattle.pc_office.proofs.telling.first_for.Goals as goal

pub returns-then-as_slice-eq-MOST_LETTERS : goal.returns-then-as_slice-eq-MOST_LETTERS
returns-then-as_slice-eq-MOST_LETTERS c = told-on_the_way c.args.user.now c.args.kept.now c.loop-mail.mail-index c.loop-mail.mails c.loop-mail.invariant (ap (λ (mails : List Mail). length mails) (sym c.as_slice.ensures) ∙ c.if-as_slice-eq-MOST_LETTERS.true)

pub loop-mail-preserved : goal.loop-mail-preserved
loop-mail-preserved c =
    let same_length : length c.as_slice.result.now ≡ length c.loop-mail.mails = ap (λ (mails : List Mail). length mails) c.as_slice.ensures in
    let fewer : length c.loop-mail.mails < 64 = omega (arith, same_length, c.if-as_slice-eq-MOST_LETTERS.false, c.loop-mail.invariant.few) in
    told-more c.args.user.now c.args.kept.now c.loop-mail.mail-index c.mail-item.result c.loop-mail.mails c.tell.new.mails c.loop-mail-test.true (sym c.mail-item.is) c.loop-mail.invariant fewer c.in_ok-tell.ensures

pub returns : goal.returns
returns c = told-at_the_end c.args.user.now c.args.kept.now c.loop-mail.mail-index c.loop-mail.mails c.loop-mail.invariant c.loop-mail-test.false
