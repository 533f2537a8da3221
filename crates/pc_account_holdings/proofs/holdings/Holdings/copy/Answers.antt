use Rattle.std.proofs.Common.{ℕ, List, false, ap, ◌∙◌}
use Rattle.pc_base.proofs.Results.{on-ok}
use Rattle.pc_account_history.specs.declared.entry.Entry.TheVariants as entry
use Rattle.pc_message.specs.Flags.{flags_with}
use Rattle.pc_account_holdings.specs.Mailboxes.{changed_at, added}
use Rattle.pc_account_holdings.specs.contracts.holdings.Holdings.{the_view}
use Rattle.pc_account_holdings.specs.State.{State, entered}
use Rattle.pc_account_holdings.proofs.States.{entered-copy}
use Rattle.pc_account_holdings.proofs.holdings.Holdings.copy.Goals as goal

pub returns : goal.returns
returns c =
    let s = the_view c.self.inside in
    let live = s.held.live in
    let same-flags = ap (λ (flags : ℕ). changed_at c.args.target.now (added s.next flags c.in_ok-message.message) live) c.with_flag-flags.ensures in
    let same-message = ap (λ (message : List (List ℕ)). changed_at c.args.target.now (added s.next (flags_with c.in-Some-live.flags 0 false) message) live) c.in_ok-message.ensures in
    on-ok c.add.result (λ e. entered-copy s c.args.name.now c.args.target.now c.args.uid c.in-Some-live.flags c.in-Some-body.message.now c.in-Some.mailbox.now c.add.new.self c.in-Some.ensures c.in-Some-live.ensures.value c.in-Some-body.ensures.value (e ∙ same-flags ∙ same-message) ∙ ap (λ (state : State). entered state (entry.Copy c.args.name.now c.args.uid c.args.target.now)) c.self.view_is) c.add.ensures
