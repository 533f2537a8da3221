use Rattle.std.proofs.Common.{◌≡◌, ◌+◌, ◌*◌, ◌-◌, ◌^◌, min, length, drop, sym, ◌∙◌, ap, arith, Some, None, option_copied}
use Rattle.std.specs.Map.{lookup}
use Rattle.pc_tables.specs.Table.{same}
use Rattle.pc_office_holdings.specs.Held.{weight_on_all}
use Rattle.pc_office.specs.Limits.{board_count}
use Rattle.pc_office.proofs.Filled.{weight-bounded, counted-board, filled-board, counted-other, filled-other, full-at-end}
use Rattle.pc_office.proofs.limits.boards_are_full.Goals.{in-Some+else-as_slice-ge-MOST_BOARD_MESSAGES, in_default}
use Rattle.pc_office.proofs.limits.boards_are_full.Goals as goal

pub loop-name-preserved : goal.loop-name-preserved
loop-name-preserved c =
    let held = c.args.holdings.now in
    let names = c.args.names.now in
    let index = c.loop-name.name-index in
    let name = c.name-item.result in
    let found : option_copied c.get.result ≡ lookup (same name) held.boards = c.get.ensures ∙ ap (lookup (same name)) c.boards.ensures in
    elim c.match-get.branch [
      | in-Some+else-as_slice-ge-MOST_BOARD_MESSAGES w ↦
          let messages = w.in-Some.messages.now in
          let there : lookup (same name) held.boards ≡ Some messages = sym found ∙ ap option_copied w.in-Some.is in
          let whole = counted-board held names index name c.loop-name-test.true c.name-item.is messages there c.loop-name.more c.args.weight _ c.loop-name.invariant.whole in
          record {
            whole = ap (λ more. more + board_count held (drop (index + 1) names) * c.args.weight) w.more-is ∙ whole;
            none = filled-board held names index name c.loop-name-test.true c.name-item.is messages there (omega (arith, ap length w.as_slice.ensures)) ∙ c.loop-name.invariant.none;
            bound = omega arith;
          }
      | in_default w ↦
          let there : lookup (same name) held.boards ≡ None = sym found ∙ ap option_copied w.in_default.is in
          let count = counted-other held names index name c.loop-name-test.true c.name-item.is there in
          record {
            whole = (λ i. w.more-is i + count i * c.args.weight) ∙ c.loop-name.invariant.whole;
            none = filled-other held names index name c.loop-name-test.true c.name-item.is there ∙ c.loop-name.invariant.none;
            bound = omega arith;
          }
    ]

pub returns : goal.returns
returns c =
    let held = c.args.holdings.now in
    let bound = weight-bounded held c.requires.sound.canonical in
    let weight : c.weight.result ≡ weight_on_all held.boards = c.weight.ensures (omega (arith, ap weight_on_all c.boards-2.ensures, bound)) ∙ ap weight_on_all c.boards-2.ensures in
    full-at-end held c.args.names.now c.loop-name.name-index c.loop-name.more c.args.weight c.saturating_add.result c.loop-name-test.false c.loop-name.invariant.whole c.loop-name.invariant.none (c.saturating_add.ensures ∙ ap (λ n. min (n + c.loop-name.more) (2 ^ 64 - 1)) weight)
