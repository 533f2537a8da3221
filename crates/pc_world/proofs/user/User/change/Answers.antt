use Rattle.std.proofs.Common.{◌≡◌, List, ◌++◌, [], ◌∷◌, Ok, Err, sym, ap, ◌∙◌, append-nil, rules}
use Rattle.pc_account_history.specs.declared.entry.Entry.{Entry}
use Rattle.pc_account_history.specs.History.{known}
use Rattle.pc_account.specs.Plan.{planned}
use Rattle.pc_world.specs.Account.{Account, history_of}
use Rattle.pc_world.proofs.Entries.{tells_seen, changes_refused, changes_kept}
use Rattle.pc_world.proofs.user.User.change.Goals as goal
use Rattle.pc_world.proofs.user.User.change.Goals.{in-Some+in_ok-keep, in_default}

pub returns-in_err-plan-clause-entries : goal.returns-in_err-plan-clause-entries
returns-in_err-plan-clause-entries c =
    let same : c.from_residual.result ≡ Err c.in_err-plan.field-0.0 = search rules in
    let told = tells_seen c.self.inside.name c.self.inside.entries.items c.args.self.now c.args.wish.now (Err c.in_err-plan.field-0.0) c.self.view_is (c.in_err-plan.ensures.history (history_of c.self.inside.entries.items) c.self.invariant.0) in
    rw same (changes_refused c.args.self.now.entries (planned (known (history_of c.args.self.now.entries)) c.args.wish.now) c.in_err-plan.field-0.0 told)

pub returns-clause-entries : goal.returns-clause-entries
returns-clause-entries c =
    let told = tells_seen c.self.inside.name c.self.inside.entries.items c.args.self.now c.args.wish.now (Ok c.in_ok-plan.plan) c.self.view_is (c.in_ok-plan.ensures.history (history_of c.self.inside.entries.items) c.self.invariant.0) in
    let seen = ap (λ (user : Account). user.entries) c.self.view_is in
    changes_kept c.args.self.now.entries c.match-plan.self.entries (planned (known (history_of c.args.self.now.entries)) c.args.wish.now) c.in_ok-plan.plan told
    (elim c.match-plan.branch [
      | in-Some+in_ok-keep w ↦ rw w.in-Some.is (ap (λ (user : Account). user.entries) w.self-is ∙ w.in_ok-keep.ensures.entries ∙ ap (λ (shown : List Entry). shown ++ w.in-Some.entry ∷ []) seen)
      | in_default w ↦ rw w.in_default.is (ap (λ (user : Account). user.entries) w.self-is ∙ sym (append-nil c.args.self.now.entries))
    ])
