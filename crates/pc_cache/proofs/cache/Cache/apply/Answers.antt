use Rattle.std.proofs.Common.{IsTrue, sym, ap, ◌∙◌, subst}
use Rattle.pc_base.proofs.Results.{from-ok}
use Rattle.pc_cache_history.specs.Record.{CacheRecord}
use Rattle.pc_cache_history.specs.Known.{said_by}
use Rattle.pc_cache_history.specs.History.{◌▻◌}
use Rattle.pc_cache_history.specs.Allowed.{is_allowed}
use Rattle.pc_cache_history.specs.Step.{after}
use Rattle.pc_cache_history.specs.Legal.{IsCanonical}
use Rattle.pc_cache_history.proofs.FormedAfter.{IsCanonical-after}
use Rattle.pc_cache.specs.State.{StandsFor}
use Rattle.pc_cache.proofs.Standing.{StandsFor-after}
use Rattle.pc_cache.proofs.cache.Cache.apply.Goals as goal

pub invariant_of-self-else-is_err : goal.invariant_of-self-else-is_err
invariant_of-self-else-is_err c =
    let held = c.self.inside.holdings in
    let stepped = from-ok c.step.result c.is_err.result c.is_err.ensures.value c.if-is_err.false c.step.ensures in
    let allowed = subst (λ (r : CacheRecord). IsTrue (is_allowed (said_by r) c.args.entry.now)) (sym c.self.view_is) c.requires in
    subst IsCanonical (sym stepped) (IsCanonical-after held c.args.entry.now allowed c.self.invariant)

pub returns-clause-ok : goal.returns-clause-ok
returns-clause-ok c =
    let stepped = from-ok c.step.result c.is_err.result c.is_err.ensures.value c.if-is_err.false c.step.ensures in
    stepped ∙ ap (λ (r : CacheRecord). after r c.args.entry.now) c.self.view_is

pub returns-clause-history : goal.returns-clause-history
returns-clause-history c = λ h stands. subst (λ (r : CacheRecord). StandsFor r (h ▻ c.args.entry.now)) (sym (returns-clause-ok c)) (StandsFor-after c.args.self.now c.args.entry.now c.requires h stands)
