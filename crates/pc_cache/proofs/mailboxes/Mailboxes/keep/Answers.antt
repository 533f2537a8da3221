use Rattle.std.proofs.Common.{ℕ, List, sym, ap, ◌∙◌}
use Rattle.std.specs.List.{filter}
use Rattle.std.specs.Map.{keys_of}
use Rattle.pc_tables.specs.Table.{is_among}
use Rattle.pc_cache_history.specs.Step.{under}
use Rattle.pc_cache_history.proofs.Agreement.{keys-under}
use Rattle.pc_cache.proofs.Sets.{under-same}
use Rattle.pc_cache.proofs.mailboxes.Mailboxes.keep.Goals as goal

pub invariant_of-self : goal.invariant_of-self
invariant_of-self c =
    let set = c.in_ok-set.set in
    let table = c.self.inside.table.entries in (
      c.in_ok-names.ensures
          ∙ ap (λ (names : List (List ℕ)). filter (λ name. is_among name set) names) (c.as_slice.ensures ∙ c.self.invariant.0)
          ∙ sym (ap keys_of c.keep_in.ensures ∙ keys-under set table),
      c.count_of-self-inside.ensures,
    )

pub returns : goal.returns
returns c =
    let set = c.in_ok-set.set in
    c.keep_in.ensures ∙ ap (under set) c.self.view_is ∙ under-same set c.args.kept.now c.args.self.now c.in_ok-set.ensures
