use Rattle.std.proofs.Common.{◌≡◌, List, ℕ, [], Ok, sym, ap, subst, ◌∙◌}
use Rattle.pc_fields.specs.Fields.{u32_kind, within, FieldReads}
use Rattle.pc_fields.proofs.TestedFields.{field_fails}
use Rattle.pc_office_history.specs.declared.kept.Target.{Target}
use Rattle.pc_office_records.specs.declared.loading.kept.Row.{Row}
use Rattle.pc_office_records.specs.ReadKept.{rows_in, follow_in}
use Rattle.pc_office_records.proofs.loading.kept.read_count.Goals as goal

pub returns-then-not-can_follow : goal.returns-then-not-can_follow
returns-then-not-can_follow c =
    let range = within 0 4294967295 in
    let users = c.args.users.now in
    let are : c.deref.result.now ≡ rows_in [] users = c.deref.ensures.value ∙ c.in_ok-rows.ensures ∙ ap (λ (t : List Target). rows_in t users) c.new.ensures in
    field_fails u32_kind range (λ count. follow_in (rows_in [] users) 0 c.args.accepted count 0) c.args.cursor.now c.u32.new.self c.in_ok-count.count
    (subst (λ (from : List ℕ). FieldReads u32_kind range from c.u32.new.self (Ok c.in_ok-count.count)) c.ahead-ahead.ensures c.in_ok-count.ensures)
    (ap (λ (rows : List Row). follow_in rows 0 c.args.accepted c.in_ok-count.count 0) (sym are) ∙ sym c.can_follow.ensures ∙ c.if-not-can_follow.true)
