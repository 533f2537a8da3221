use Rattle.std.proofs.Common.{◌≡◌, ap, ◌∙◌, length, arith}
use Rattle.pc_account_holdings.specs.Mailboxes.{Table, front_changed, changed_for}
use Rattle.pc_account_holdings.proofs.Sums.{front-all}
use Rattle.pc_account_holdings.proofs.mailboxes.Mailboxes.change_for_client.Goals as goal

pub change_one-requires : goal.change_one-requires
change_one-requires c =
    let count : c.len-index-end.result ≡ length c.args.self.now = c.len-index-end.ensures.len ∙ ap (λ (t : Table). length t) c.self.view_is in
    omega (arith, count, c.loop-index-test.true, c.loop-index.invariant.1)

pub returns : goal.returns
returns c =
    let change = changed_for c.args.change c.args.at c.args.client in
    let count : c.len-index-end.result ≡ length c.args.self.now = c.len-index-end.ensures.len ∙ ap (λ (t : Table). length t) c.self.view_is in
    let full : c.loop-index.index ≡ length c.args.self.now = omega (arith, count, c.loop-index-test.false, c.loop-index.auto.index-end) in
    c.loop-index.invariant.0 ∙ ap (λ n. front_changed change n c.args.self.now) full ∙ front-all change c.args.self.now
