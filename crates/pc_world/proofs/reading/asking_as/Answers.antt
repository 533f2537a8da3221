use Rattle.std.proofs.Common.{◌≡◌, ◌≤◌, ◌∷◌, ◌++◌, length, take, refl, ap, ◌∙◌, arith}
use Rattle.std.proofs.Math.Seq.{take-append_seam}
use Rattle.pc_world.proofs.AskedBy.{asks_by_name}
use Rattle.pc_world.proofs.reading.asking_as.Goals as goal

pub returns : goal.returns
returns c =
    let line = c.args.line.now in
    let name = c.args.name.now in
    let others = c.in_ok-others.others.now in
    let rest = 32 ∷ c.in_ok-text.text.now in
    let splits : others ≡ name ++ rest = c.in_ok-text.ensures in
    let user : take (length name) others ≡ name = ap (take (length name)) splits ∙ take-append_seam name rest in
    let short : length line ≤ 1000 = omega arith in
    (rw user (asks_by_name line name others rest c.without_spaces.result.now short c.in_ok-others.ensures splits refl c.requires c.without_spaces.ensures.value), user)
