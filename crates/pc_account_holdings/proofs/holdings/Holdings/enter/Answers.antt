use Rattle.std.proofs.Common.{IsTrue, subst, sym, ap, ◌∙◌}
use Rattle.std.specs.Map.{lookup}
use Rattle.pc_base.proofs.Results.{on-ok}
use Rattle.pc_account_history.specs.declared.entry.Entry.{Entry}
use Rattle.pc_account_history.specs.declared.entry.Entry.TheVariants as entry
use Rattle.pc_tables.specs.Table.{same}
use Rattle.pc_account_holdings.specs.contracts.holdings.Holdings.{the_view}
use Rattle.pc_account_holdings.specs.State.{State, said, may_follow, entered}
use Rattle.pc_account_holdings.proofs.Allowed.{make-absent, drop-live, copy-live, subscribe-absent, not-dropped, copy-room, pull-room}
use Rattle.pc_account_holdings.proofs.States.{entered-subscribe}
use Rattle.pc_account_holdings.proofs.holdings.Holdings.enter.Goals as goal

pub make_mailbox-requires : goal.make_mailbox-requires
make_mailbox-requires c = make-absent c.args.self.now c.in-MakeMailbox.mailbox (subst (λ (e : Entry). IsTrue (may_follow (said c.args.self.now) e)) c.in-MakeMailbox.is c.requires.allowed)

pub drop_mailbox-requires-clause-live : goal.drop_mailbox-requires-clause-live
drop_mailbox-requires-clause-live c = drop-live c.args.self.now c.in-DropMailbox.mailbox (subst (λ (e : Entry). IsTrue (may_follow (said c.args.self.now) e)) c.in-DropMailbox.is c.requires.allowed)

pub drop_mailbox-requires-clause-dropped : goal.drop_mailbox-requires-clause-dropped
drop_mailbox-requires-clause-dropped c =
    let held = c.args.self.now.held in
    not-dropped c.in-DropMailbox.mailbox held.live held.dropped c.requires.canonical.well_formed.mailbox_names
    (drop-live c.args.self.now c.in-DropMailbox.mailbox (subst (λ (e : Entry). IsTrue (may_follow (said c.args.self.now) e)) c.in-DropMailbox.is c.requires.allowed))

pub copy-requires-clause-live : goal.copy-requires-clause-live
copy-requires-clause-live c = copy-live c.args.self.now c.in-Copy.mailbox c.in-Copy.target c.in-Copy.uid (subst (λ (e : Entry). IsTrue (may_follow (said c.args.self.now) e)) c.in-Copy.is c.requires.allowed)

pub copy-requires-clause-room : goal.copy-requires-clause-room
copy-requires-clause-room c = copy-room c.args.self.now c.in-Copy.mailbox c.in-Copy.target c.in-Copy.uid c.requires.canonical (subst (λ (e : Entry). IsTrue (may_follow (said c.args.self.now) e)) c.in-Copy.is c.requires.allowed)

pub pull-requires : goal.pull-requires
pull-requires c = pull-room c.args.self.now c.in-Pull.upto c.in-Pull.letters c.requires.canonical (subst (λ (e : Entry). IsTrue (may_follow (said c.args.self.now) e)) c.in-Pull.is c.requires.allowed)

pub returns-in-Subscribe : goal.returns-in-Subscribe
returns-in-Subscribe c =
    let s = the_view c.self-in-Subscribe.inside in
    let absent = subscribe-absent c.args.self.now c.in-Subscribe.board (subst (λ (e : Entry). IsTrue (may_follow (said c.args.self.now) e)) c.in-Subscribe.is c.requires.allowed) in
    on-ok c.put.result (λ e.
    entered-subscribe s c.in-Subscribe.board c.put.new.table.entries (ap (λ (state : State). lookup (same c.in-Subscribe.board) state.held.subscriptions) c.self-in-Subscribe.view_is ∙ absent) e
    ∙ ap (λ (state : State). entered state (entry.Subscribe c.in-Subscribe.board)) c.self-in-Subscribe.view_is
    ∙ sym (ap (λ (e' : Entry). entered c.args.self.now e') c.in-Subscribe.is)) c.put.ensures.ok
