use Rattle.std.proofs.Common.{rules, ◌<◌, ◌≤◌, List, length, is_some, sym, ap, subst, ◌∙◌}
use Rattle.pc_world.specs.Account.{Account}
use Rattle.pc_world.specs.Steps.{place_in}
use Rattle.pc_world.proofs.Users.{may_enrol, taken, too_many}
use Rattle.pc_world.proofs.world.World.enrol_refusal.Goals as goal

pub returns-then-is_some : goal.returns-then-is_some
returns-then-is_some c = taken c.args.self.now c.args.name.now (sym (c.is_some.ensures ∙ ap is_some c.place_of.ensures ∙ ap (λ name. is_some (place_in c.args.self.now name)) c.bytes.ensures.value) ∙ c.if-is_some.true)

pub returns-then-len-lt-MOST_USERS : goal.returns-then-len-lt-MOST_USERS
returns-then-len-lt-MOST_USERS c =
    let few : length c.self.inside.users.items < 32 = search (rules) in
    may_enrol c.args.self.now c.args.name.now (sym (c.is_some.ensures ∙ ap is_some c.place_of.ensures ∙ ap (λ name. is_some (place_in c.args.self.now name)) c.bytes.ensures.value) ∙ c.if-is_some.false) (subst (λ (all : List Account). length all < 32) c.self.view_is few)

pub returns : goal.returns
returns c =
    let many : 32 ≤ length c.self.inside.users.items = search (rules) in
    too_many c.args.self.now c.args.name.now (sym (c.is_some.ensures ∙ ap is_some c.place_of.ensures ∙ ap (λ name. is_some (place_in c.args.self.now name)) c.bytes.ensures.value) ∙ c.if-is_some.false) (subst (λ (all : List Account). 32 ≤ length all) c.self.view_is many)
