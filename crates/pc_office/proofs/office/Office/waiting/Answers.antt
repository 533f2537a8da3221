use Rattle.std.proofs.Common.{◌≡◌, List, [], IfOk, take, sym, ap, ◌∙◌, subst}
use Rattle.std.specs.List.{filter}
use Rattle.pc_message.specs.declared.lists.Mail.{Mail}
use Rattle.pc_office_history.specs.declared.kept.KeptMail.{KeptMail}
use Rattle.pc_office_history.specs.Record.{OfficeRecord, mails_for}
use Rattle.pc_office_history.specs.Known.{Known, is_past}
use Rattle.pc_office_history.specs.Answers.{waiting_past}
use Rattle.pc_office.proofs.NothingWaits.{empty}
use Rattle.pc_office.proofs.Standing.{said_is_known}
use Rattle.pc_office.proofs.office.Office.waiting.Goals as goal

pub returns-then-nothing_waits-clause-held : goal.returns-then-nothing_waits-clause-held
returns-then-nothing_waits-clause-held c =
    let user = c.args.user.now in
    let none : mails_for user c.args.self.now.kept ≡ [] = ap (λ (r : OfficeRecord). mails_for user r.kept) (sym c.self.view_is) ∙ empty (mails_for user c.self.inside.holdings.kept) (sym c.nothing_waits.ensures ∙ c.if-nothing_waits.true) in
    c.new.ensures ∙ sym (ap (λ (mails : List Mail). take 64 (filter (is_past c.args.after) mails)) none)

pub returns-then-nothing_waits-clause-history : goal.returns-then-nothing_waits-clause-history
returns-then-nothing_waits-clause-history c = λ h stands. returns-then-nothing_waits-clause-held c ∙ ap (λ (k : Known). waiting_past k c.args.user.now c.args.after) (said_is_known c.args.self.now h stands)

pub returns-clause-held : goal.returns-clause-held
returns-clause-held c =
    let user = c.args.user.now in
    let kept : c.kept.result.now ≡ c.args.self.now.kept = c.kept.ensures ∙ ap (λ (r : OfficeRecord). r.kept) c.self.view_is in
    let told : mails_for user c.past.result.now ≡ filter (is_past c.args.after) (mails_for user c.args.self.now.kept) = c.past.ensures user ∙ ap (λ (all : List KeptMail). filter (is_past c.args.after) (mails_for user all)) kept in
    subst (λ (all : List Mail). IfOk c.first_for.result (λ (mails : List Mail). mails ≡ take 64 all)) told c.first_for.ensures

pub returns-clause-history : goal.returns-clause-history
returns-clause-history c = λ h stands. subst (λ (k : Known). IfOk c.first_for.result (λ (mails : List Mail). mails ≡ waiting_past k c.args.user.now c.args.after)) (said_is_known c.args.self.now h stands) (returns-clause-held c)
