use Rattle.std.proofs.Common.{◌≡◌, List, ap, ◌∙◌, length, arith}
use Rattle.pc_tables.specs.Fronts.{front_mapped}
use Rattle.pc_office_holdings.specs.Step.{posted}
use Rattle.pc_tables.proofs.Fronts.{front-all}
use Rattle.pc_office_holdings.proofs.Posts.{Board}
use Rattle.pc_office_holdings.proofs.boards.Boards.post.Goals as goal

pub post_at-requires : goal.post_at-requires
post_at-requires c =
    let count : c.len-index-end.result ≡ length c.args.self.now = c.len-index-end.ensures.len ∙ ap (λ (boards : List Board). length boards) c.self.view_is in
    omega (arith, count, c.loop-index-test.true, c.loop-index.invariant.1)

pub returns : goal.returns
returns c =
    let change = posted c.args.names.now c.args.message.now in
    let count : c.len-index-end.result ≡ length c.args.self.now = c.len-index-end.ensures.len ∙ ap (λ (boards : List Board). length boards) c.self.view_is in
    let full : c.loop-index.index ≡ length c.args.self.now = omega (arith, count, c.loop-index-test.false, c.loop-index.auto.index-end) in
    c.loop-index.invariant.0 ∙ ap (λ n. front_mapped change n c.args.self.now) full ∙ front-all change c.args.self.now
