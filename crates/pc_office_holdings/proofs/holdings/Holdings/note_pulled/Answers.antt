use Rattle.std.proofs.Common.{◌≡◌, suc, ◌+◌, List, length, map, slice_set, slice_index_or, sym, ap, ◌∙◌, arith, rules}
use Rattle.std.specs.Map.{set_value}
use Rattle.std.proofs.lemmas.Fn.{filter_same}
use Rattle.pc_tables.specs.Table.{same}
use Rattle.pc_office_history.specs.declared.kept.KeptMail.{KeptMail}
use Rattle.pc_office_history.specs.Record.{mails_for}
use Rattle.pc_office_history.specs.Step.{is_awaited, pulled_by, still_waiting}
use Rattle.pc_office_holdings.specs.Held.{Held}
use Rattle.pc_tables.specs.Fronts.{front_mapped}
use Rattle.pc_office_holdings.specs.Step.{standing_of, kept_after}
use Rattle.pc_tables.proofs.Fronts.{front-all, front-put, written-back}
use Rattle.pc_office_holdings.proofs.holdings.Holdings.note_pulled.Goals as goal

pub loop-mail-preserved : goal.loop-mail-preserved
loop-mail-preserved c =
    let change = pulled_by c.args.user.now c.args.number in
    let all = c.deref_mut-mail-items.result.now in
    let place = c.loop-mail.mail-index in
    ap (λ (mails : List KeptMail). slice_set mails place c.note.new.self) c.loop-mail.invariant
    ∙ front-put change place all c.mail-item.result c.note.new.self c.loop-mail-test.true (c.note.ensures ∙ ap (λ (mails : List KeptMail). change (slice_index_or mails place c.mail-item.result)) c.loop-mail.invariant)
    ∙ ap (λ n. front_mapped change n all) (let next : suc place ≡ place + 1 = omega arith in next)

pub returns : goal.returns
returns c =
    let user = c.args.user.now in
    let change = pulled_by user c.args.number in
    let all = c.deref_mut-mail-items.result.now in
    let full : c.loop-mail.mail-index ≡ length all = omega (arith, c.loop-mail-test.false, c.loop-mail.auto.mail-index-end) in
    let noted : c.loop-mail.mail-items ≡ map change c.args.self.now.kept = c.loop-mail.invariant ∙ ap (λ n. front_mapped change n all) full ∙ front-all change all ∙ ap (map change) (c.deref_mut-mail-items.ensures.value ∙ ap (λ (held : Held). held.kept) c.self.view_is) in
    let as-long : length c.loop-mail.mail-items ≡ length c.self.inside.kept.items = c.loop-mail.auto.mail-items ∙ ap (λ (mails : List KeptMail). length mails) c.deref_mut-mail-items.ensures.value in
    let whole : length c.self.inside.kept.items ≡ c.self.inside.kept.len = ap (λ (mails : List KeptMail). length mails) (sym c.deref_mut-mail-items.ensures.value) ∙ c.deref_mut-mail-items.ensures.len in
    let kept : c.retain.new.self.items ≡ kept_after user c.args.number c.args.self.now.kept = filter_same _ (λ (mail : KeptMail). is_awaited mail.targets) _ (λ x b f' k. search rules) _ _ c.retain.ensures.filtered ∙ ap still_waiting (written-back c.self.inside.kept.len c.loop-mail.mail-items c.self.inside.kept.items whole as-long ∙ noted) in
    let standing = c.count_for-standing.ensures ∙ ap (λ (mails : List KeptMail). standing_of c.args.number (mails_for user mails)) kept in
    let users : c.set.new.self ≡ set_value (same user) c.args.self.now.users (standing_of c.args.number (mails_for user (kept_after user c.args.number c.args.self.now.kept))) = c.set.ensures ∙ (λ i. set_value (same user) (c.self.view_is i).users (standing i)) in
    λ i. record { users = users i; addresses = (c.self.view_is i).addresses; boards = (c.self.view_is i).boards; accepted = (c.self.view_is i).accepted; kept = kept i }
