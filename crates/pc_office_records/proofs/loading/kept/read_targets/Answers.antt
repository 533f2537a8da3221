use Rattle.std.proofs.Common.{◌≡◌, true, [], ◌∷◌}
use Rattle.pc_tables.proofs.Lists.{Every-append}
use Rattle.pc_tables.specs.Table.{is_among}
use Rattle.pc_office_history.specs.declared.kept.Target.{Target}
use Rattle.pc_fields.specs.Format.{Reads}
use Rattle.pc_office_spelling.specs.RecordFormat.{items_from, target_format}
use Rattle.pc_office_records.specs.ReadKept.{open_in}
use Rattle.pc_office_records.proofs.ReadItems.{as_err, items_first, items_more, items_halt, items_last}
use Rattle.pc_office_records.proofs.loading.kept.read_targets.Goals as goal

pub returns-in_err-target-clause-read : goal.returns-in_err-target-clause-read
returns-in_err-target-clause-read c =
    let format = target_format (open_in c.args.users.now c.args.number) in
    as_err c.from_residual.result c.in_err-target.field-0.0 (λ read. Reads (items_from format c.args.many []) c.args.cursor.now c.read_target.new.cursor read) c.from_residual.ensures
    (items_halt format c.args.many c.loop-taken._taken c.loop-taken.targets (items_from format c.args.many []) c.args.cursor.now c.loop-taken.cursor c.loop-taken-test.true c.loop-taken.invariant.follows c.read_target.new.cursor c.in_err-target.field-0.0 c.in_err-target.ensures.read)

pub loop-taken-init : goal.loop-taken-init
loop-taken-init c = rw c.new-targets.ensures (record { follows = items_first (target_format (open_in c.args.users.now c.args.number)) c.args.many c.args.cursor.now; opens = tt })

pub loop-taken-preserved : goal.loop-taken-preserved
loop-taken-preserved c =
    let format = target_format (open_in c.args.users.now c.args.number) in
    rw c.in_ok-push.ensures.ok (record {
      follows = items_more format c.args.many c.loop-taken._taken c.loop-taken.targets (items_from format c.args.many []) c.args.cursor.now c.loop-taken.cursor c.loop-taken-test.true c.loop-taken.invariant.follows c.read_target.new.cursor c.in_ok-target.target c.in_ok-target.ensures.read;
      opens = Every-append (λ (target : Target). is_among target.user (open_in c.args.users.now c.args.number) ≡ true) c.loop-taken.targets (c.in_ok-target.target ∷ []) c.loop-taken.invariant.opens c.in_ok-target.ensures.open;
    })

pub returns-clause-read : goal.returns-clause-read
returns-clause-read c =
    let format = target_format (open_in c.args.users.now c.args.number) in
    items_last format c.args.many c.loop-taken._taken c.loop-taken.targets (items_from format c.args.many []) c.args.cursor.now c.loop-taken.cursor c.loop-taken-test.false c.loop-taken.invariant.follows
