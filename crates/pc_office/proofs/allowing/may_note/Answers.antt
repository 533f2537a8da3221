use Rattle.std.proofs.Common.{◌≡◌, ◌∙◌, sym, ap, ◌&&◌, Some, nat_le, lt-ltb, le-ltb}
use Rattle.std.specs.Map.{lookup}
use Rattle.pc_tables.specs.Table.{same}
use Rattle.pc_office.proofs.Asked.{noted-found, noted-missing}
use Rattle.pc_office.proofs.allowing.may_note.Goals as goal

pub returns-then-standing-number : goal.returns-then-standing-number
returns-then-standing-number c =
    let number = c.args.number in
    let held = c.args.holdings.now in
    let found : lookup (same c.args.user.now) held.users ≡ Some c.in-Some.standing = sym (c.get.ensures ∙ ap (lookup (same c.args.user.now)) c.users.ensures) ∙ c.in-Some.is in
    ap (nat_le number) c.accepted.ensures
    ∙ sym (ap (λ b. b && nat_le number held.accepted) (lt-ltb c.in-Some.standing.noted number c.if-standing-number.true))
    ∙ sym (noted-found c.args.user.now held.users c.in-Some.standing number held.accepted found)

pub returns-else-standing-number : goal.returns-else-standing-number
returns-else-standing-number c =
    let number = c.args.number in
    let held = c.args.holdings.now in
    let found : lookup (same c.args.user.now) held.users ≡ Some c.in-Some.standing = sym (c.get.ensures ∙ ap (lookup (same c.args.user.now)) c.users.ensures) ∙ c.in-Some.is in
    let upto = le-ltb c.in-Some.standing.noted number c.if-standing-number.false in
    upto
    ∙ sym (ap (λ b. b && nat_le number held.accepted) upto)
    ∙ sym (noted-found c.args.user.now held.users c.in-Some.standing number held.accepted found)

pub returns-in-None : goal.returns-in-None
returns-in-None c = sym (noted-missing c.args.user.now c.args.holdings.now.users _ _ (sym (c.get.ensures ∙ ap (lookup (same c.args.user.now)) c.users.ensures) ∙ c.in-None.is))
