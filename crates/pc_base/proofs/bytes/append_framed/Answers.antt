use Rattle.std.proofs.Common.{◌≡◌, ◌-◌, ◌+◌, max, length, take, drop, replicate, vec_len, ◌++◌, ℕ, arith, ap, ◌∙◌}
use Rattle.std.proofs.lemmas.List.{take_at}
use Rattle.pc_base.specs.Frame.{filled}
use Rattle.pc_base.proofs.FrameLemmas.{filled-framed}
use Rattle.pc_base.proofs.bytes.append_framed.Goals as goal

pub returns-clause-ok : goal.returns-clause-ok
returns-clause-ok c =
    let at : c.max-end.result - 1 ≡ max (length c.args.frame.now.items) 5 - 1 = omega (arith, c.len.ensures, c.max-end.ensures) in
    let done = filled-framed c.args.frame.now.items c.args.bytes.now (c.max-end.result - 1) c.requires at in
    let room : ℕ = c.max-end.result - 1 + length c.args.bytes.now + 1 in
    let kept : vec_len c.args.frame.now ≡ length c.args.frame.now.items = omega (arith, c.len.ensures) in
    let grown = c.deref_mut.ensures.value ∙ c.in_ok-resize.ensures.items ∙ ap (λ (n : ℕ). take room c.args.frame.now.items ++ replicate (room - n) 0) kept in
    let same = ap (filled (c.max-end.result - 1) c.args.bytes.now) grown in
    let whole : length c.fill.new.frame ≡ c.resize.new.self.len = omega (arith, c.fill.auto.frame, c.deref_mut.ensures.len) in
    take_at c.fill.new.frame (drop (length c.fill.new.frame) c.resize.new.self.items) c.resize.new.self.len whole ∙ c.fill.ensures ∙ same ∙ done
