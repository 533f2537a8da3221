use Rattle.std.proofs.Common.{◌≡◌, List, [], Ok, Err, ap, ◌∙◌}
use Rattle.pc_office_history.specs.declared.kept.Target.{Target}
use Rattle.pc_office_records.specs.ReadKept.{rows_in}
use Rattle.pc_office_records.proofs.ReadMails.{number_by, many_by, mail_no_number, mail_no_many, mail_no_targets, mail_no_message, mail_read, number-past}
use Rattle.pc_office_records.proofs.loading.kept.read_mail.Goals as goal

pub returns-in_err-number-clause-read : goal.returns-in_err-number-clause-read
returns-in_err-number-clause-read c = λ before tallied is.
    let users = c.args.users.now in
    let are : c.deref.result.now ≡ rows_in [] users = c.deref.ensures.value ∙ c.in_ok-rows.ensures ∙ ap (λ (t : List Target). rows_in t users) c.new.ensures in
    mail_no_number users c.args.accepted c.args.left c.args.last before tallied is c.args.cursor.now c.read_number.new.cursor c.in_err-number.field-0.0 c.from_residual-in_err-number.result
    (number_by c.args.last users c.args.accepted c.args.left c.deref.result.now c.args.cursor.now c.read_number.new.cursor (Err c.in_err-number.field-0.0) are c.in_err-number.ensures)
    c.from_residual-in_err-number.ensures

pub returns-in_err-many-clause-read : goal.returns-in_err-many-clause-read
returns-in_err-many-clause-read c = λ before tallied is.
    let users = c.args.users.now in
    let are : c.deref.result.now ≡ rows_in [] users = c.deref.ensures.value ∙ c.in_ok-rows.ensures ∙ ap (λ (t : List Target). rows_in t users) c.new.ensures in
    let again : c.deref-2.result.now ≡ rows_in [] users = c.deref-2.ensures.value ∙ c.in_ok-rows.ensures ∙ ap (λ (t : List Target). rows_in t users) c.new.ensures in
    mail_no_many users c.args.accepted c.args.left c.args.last before tallied is c.args.cursor.now c.read_number.new.cursor c.in_ok-number.number
    (number_by c.args.last users c.args.accepted c.args.left c.deref.result.now c.args.cursor.now c.read_number.new.cursor (Ok c.in_ok-number.number) are c.in_ok-number.ensures)
    c.read_many.new.cursor c.in_err-many.field-0.0 c.from_residual-in_err-many.result
    (many_by users c.in_ok-number.number c.args.accepted c.args.left c.deref-2.result.now c.read_number.new.cursor c.read_many.new.cursor (Err c.in_err-many.field-0.0) again c.in_err-many.ensures)
    c.from_residual-in_err-many.ensures

pub returns-in_err-targets-clause-read : goal.returns-in_err-targets-clause-read
returns-in_err-targets-clause-read c = λ before tallied is.
    let users = c.args.users.now in
    let are : c.deref.result.now ≡ rows_in [] users = c.deref.ensures.value ∙ c.in_ok-rows.ensures ∙ ap (λ (t : List Target). rows_in t users) c.new.ensures in
    let again : c.deref-2.result.now ≡ rows_in [] users = c.deref-2.ensures.value ∙ c.in_ok-rows.ensures ∙ ap (λ (t : List Target). rows_in t users) c.new.ensures in
    mail_no_targets users c.args.accepted c.args.left c.args.last before tallied is c.args.cursor.now c.read_number.new.cursor c.in_ok-number.number
    (number_by c.args.last users c.args.accepted c.args.left c.deref.result.now c.args.cursor.now c.read_number.new.cursor (Ok c.in_ok-number.number) are c.in_ok-number.ensures)
    c.read_many.new.cursor c.in_ok-many.many
    (many_by users c.in_ok-number.number c.args.accepted c.args.left c.deref-2.result.now c.read_number.new.cursor c.read_many.new.cursor (Ok c.in_ok-many.many) again c.in_ok-many.ensures)
    c.read_targets.new.cursor c.in_err-targets.field-0.0 c.from_residual-in_err-targets.result c.in_err-targets.ensures.read c.from_residual-in_err-targets.ensures

pub returns-in_err-message-clause-read : goal.returns-in_err-message-clause-read
returns-in_err-message-clause-read c = λ before tallied is.
    let users = c.args.users.now in
    let are : c.deref.result.now ≡ rows_in [] users = c.deref.ensures.value ∙ c.in_ok-rows.ensures ∙ ap (λ (t : List Target). rows_in t users) c.new.ensures in
    let again : c.deref-2.result.now ≡ rows_in [] users = c.deref-2.ensures.value ∙ c.in_ok-rows.ensures ∙ ap (λ (t : List Target). rows_in t users) c.new.ensures in
    mail_no_message users c.args.accepted c.args.left c.args.last before tallied is c.args.cursor.now c.read_number.new.cursor c.in_ok-number.number
    (number_by c.args.last users c.args.accepted c.args.left c.deref.result.now c.args.cursor.now c.read_number.new.cursor (Ok c.in_ok-number.number) are c.in_ok-number.ensures)
    c.read_many.new.cursor c.in_ok-many.many
    (many_by users c.in_ok-number.number c.args.accepted c.args.left c.deref-2.result.now c.read_number.new.cursor c.read_many.new.cursor (Ok c.in_ok-many.many) again c.in_ok-many.ensures)
    c.read_targets.new.cursor c.in_ok-targets.targets c.in_ok-targets.ensures.open c.in_ok-targets.ensures.read
    c.read_waiting.new.cursor c.in_err-message.field-0.0 c.from_residual-in_err-message.result c.in_err-message.ensures.read c.from_residual-in_err-message.ensures

pub returns-clause-read : goal.returns-clause-read
returns-clause-read c = λ before tallied is.
    let users = c.args.users.now in
    let are : c.deref.result.now ≡ rows_in [] users = c.deref.ensures.value ∙ c.in_ok-rows.ensures ∙ ap (λ (t : List Target). rows_in t users) c.new.ensures in
    let again : c.deref-2.result.now ≡ rows_in [] users = c.deref-2.ensures.value ∙ c.in_ok-rows.ensures ∙ ap (λ (t : List Target). rows_in t users) c.new.ensures in
    mail_read users c.args.accepted c.args.left c.args.last before tallied is c.args.cursor.now c.read_number.new.cursor c.in_ok-number.number
    (number_by c.args.last users c.args.accepted c.args.left c.deref.result.now c.args.cursor.now c.read_number.new.cursor (Ok c.in_ok-number.number) are c.in_ok-number.ensures)
    c.read_many.new.cursor c.in_ok-many.many
    (many_by users c.in_ok-number.number c.args.accepted c.args.left c.deref-2.result.now c.read_number.new.cursor c.read_many.new.cursor (Ok c.in_ok-many.many) again c.in_ok-many.ensures)
    c.read_targets.new.cursor c.in_ok-targets.targets c.in_ok-targets.ensures.open c.in_ok-targets.ensures.read
    c.read_waiting.new.cursor c.in_ok-message.message c.in_ok-message.ensures.read

pub returns-clause-past : goal.returns-clause-past
returns-clause-past c =
    let users = c.args.users.now in
    let are : c.deref.result.now ≡ rows_in [] users = c.deref.ensures.value ∙ c.in_ok-rows.ensures ∙ ap (λ (t : List Target). rows_in t users) c.new.ensures in
    number-past c.args.last users c.args.accepted c.args.left c.in_ok-number.number c.args.cursor.now c.read_number.new.cursor
    (number_by c.args.last users c.args.accepted c.args.left c.deref.result.now c.args.cursor.now c.read_number.new.cursor (Ok c.in_ok-number.number) are c.in_ok-number.ensures)
