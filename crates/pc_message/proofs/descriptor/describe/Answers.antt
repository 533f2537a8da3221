use Rattle.std.proofs.Common.{◌≡◌, length, codes, refl, ap, ◌∙◌, arith}
use Rattle.pc_message.proofs.Firsts.{IsKept-next, IsKept-end, descriptor_of-built, length-le-size_of}
use Rattle.pc_message.proofs.descriptor.describe.Goals as goal

pub loop-field-preserved : goal.loop-field-preserved
loop-field-preserved c =
    let was = c.loop-field.invariant in
    let field = c.in-Some.ensures in
    record {
      date_kept = IsKept-next 100 (codes "ate:") _ _ _ _ _ _ _ refl was.date_kept field c.in_ok-set_first.ensures;
      from_kept = IsKept-next 102 (codes "rom:") _ _ _ _ _ _ _ refl was.from_kept field c.in_ok-set_first-2.ensures;
      to_kept = IsKept-next 116 (codes "o:") _ _ _ _ _ _ _ refl was.to_kept field c.in_ok-set_first-3.ensures;
      subject_kept = IsKept-next 115 (codes "ubject:") _ _ _ _ _ _ _ refl was.subject_kept field c.in_ok-set_first-4.ensures;
    }

pub overflow_cast-result : goal.overflow_cast-result
overflow_cast-result c =
    let message = c.args.message.now in
    let same : c.as_slice-lines.result.now ≡ message = c.as_slice-lines.ensures ∙ c.lines.ensures in
    omega (arith, length-le-size_of message, ap length same, c.size.ensures.size, c.size.ensures.bound)

pub returns : goal.returns
returns c =
    let was = c.loop-field.invariant in
    let end = c.in_default.ensures in
    descriptor_of-built
    _ _ _ _ _ _ _ _ _
    (c.as_slice-lines.ensures ∙ c.lines.ensures)
    c.size.ensures.size
    (IsKept-end _ _ _ _ _ was.date_kept end c.in_ok-or_empty.ensures)
    (IsKept-end _ _ _ _ _ was.from_kept end c.in_ok-or_empty-2.ensures)
    (IsKept-end _ _ _ _ _ was.to_kept end c.in_ok-or_empty-3.ensures)
    (IsKept-end _ _ _ _ _ was.subject_kept end c.in_ok-or_empty-4.ensures)
