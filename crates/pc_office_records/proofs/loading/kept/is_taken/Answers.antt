use Rattle.std.proofs.Common.{◌≡◌, is_some, ◌∙◌}
use Rattle.pc_office_history.specs.Record.{target_of}
use Rattle.std.proofs.Common.{rules}
use Rattle.pc_office_records.proofs.Rows.{target-among}
use Rattle.pc_office_records.proofs.loading.kept.is_taken.Goals as goal

pub returns : goal.returns
returns c =
    let told : c.is_some.result ≡ is_some (target_of c.args.user.now c.args.targets.now) = search rules in
    told ∙ target-among c.args.user.now c.args.targets.now
