use Rattle.std.proofs.Common.{◌≡◌, ℕ, List, ap, ◌∙◌, length, arith}
use Rattle.pc_office_holdings.specs.declared.users.Standing.{Standing}
use Rattle.pc_tables.specs.Fronts.{front_mapped}
use Rattle.pc_office_holdings.specs.Step.{awaited}
use Rattle.pc_tables.proofs.Fronts.{front-all}
use Rattle.pc_office_holdings.proofs.users.Users.await_mail.Goals as goal

pub await_at-requires : goal.await_at-requires
await_at-requires c =
    let count : c.len-index-end.result ≡ length c.args.self.now = c.len-index-end.ensures.len ∙ ap (λ (users : List (List ℕ × Standing)). length users) c.self.view_is in
    omega (arith, count, c.loop-index-test.true, c.loop-index.invariant.1)

pub returns : goal.returns
returns c =
    let change = awaited c.args.targets.now c.args.weight in
    let count : c.len-index-end.result ≡ length c.args.self.now = c.len-index-end.ensures.len ∙ ap (λ (users : List (List ℕ × Standing)). length users) c.self.view_is in
    let full : c.loop-index.index ≡ length c.args.self.now = omega (arith, count, c.loop-index-test.false, c.loop-index.auto.index-end) in
    c.loop-index.invariant.0 ∙ ap (λ n. front_mapped change n c.args.self.now) full ∙ front-all change c.args.self.now
