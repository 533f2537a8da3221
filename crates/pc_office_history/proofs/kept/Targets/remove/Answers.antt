use Rattle.std.proofs.Common.{rules, not, ◌∙◌, ap}
use Rattle.std.proofs.lemmas.Fn.{filter_same}
use Rattle.pc_tables.specs.Table.{same}
use Rattle.pc_office_history.specs.declared.kept.Target.{Target}
use Rattle.pc_office_history.specs.Effect.{other_targets}
use Rattle.pc_office_history.proofs.kept.Targets.remove.Goals as goal

pub returns : goal.returns
returns c =
    filter_same _ (λ (target : Target). not (same c.args.user.now target.user)) _ (λ x b f' k. search rules) _ _ c.retain.ensures.filtered
    ∙ ap (other_targets c.args.user.now) c.self.view_is
