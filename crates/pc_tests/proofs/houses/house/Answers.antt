use Rattle.std.proofs.Common.{◌≡◌, List, [], ◌∷◌, ◌++◌, ap, ◌∙◌}
use Rattle.pc_tests.proofs.houses.house.Goals as goal
use Rattle.pc_tests.proofs.houses.house.Goals.{then-failing-gt0, else-failing-gt0}

-- the desk stands under the name of its user
pub new-requires : goal.new-requires
new-requires c =
    let user : c.if-failing-gt0.desk.user ≡ c.in_ok-user.user = elim c.if-failing-gt0.branch [
      | then-failing-gt0 w ↦ ap (λ desk. desk.user) (w.desk-is ∙ w.fail_at.ensures.state) ∙ c.new-desk.ensures.user
      | else-failing-gt0 w ↦ ap (λ desk. desk.user) w.desk-is ∙ c.new-desk.ensures.user
    ] in
    rw (c.in_ok-push.ensures.items ∙ ap (λ desks. desks ++ (c.in_ok-user.user, c.if-failing-gt0.desk) ∷ []) c.new-desks.ensures.items) (user, tt)
