use Rattle.std.proofs.Common.{[], ◌∷◌, decimal, sym, ◌∙◌}
use Rattle.std.proofs.lemmas.Bool.{false≢true}
use Rattle.pc_reply.specs.Items.{flag_digits}
use Rattle.pc_reply.proofs.WordTexts.{counts_words}
use Rattle.pc_reply.proofs.first_line.read_counts.Goals as goal

pub returns-in_default-clause-every : goal.returns-in_default-clause-every
returns-in_default-clause-every c = λ uid flags bytes lines is.
    absurd (c.in_default.ensures uid (flag_digits 16 flags ∷ decimal bytes ∷ decimal lines ∷ []) is.1.0 (counts_words c.args.line.now uid flags bytes lines is))

pub returns-in_default-first_flags-clause-every : goal.returns-in_default-first_flags-clause-every
returns-in_default-first_flags-clause-every c = λ uid flags bytes lines is.
    let first = c.in-Some.ensures uid (flag_digits 16 flags ∷ decimal bytes ∷ decimal lines ∷ []) is.1.0 (counts_words c.args.line.now uid flags bytes lines is) in
    absurd (c.in_default-first_flags.ensures flags (decimal bytes ∷ decimal lines ∷ []) is.1.1 first.1)

pub returns-in_default-first_number-clause-every : goal.returns-in_default-first_number-clause-every
returns-in_default-first_number-clause-every c = λ uid flags bytes lines is.
    let first = c.in-Some.ensures uid (flag_digits 16 flags ∷ decimal bytes ∷ decimal lines ∷ []) is.1.0 (counts_words c.args.line.now uid flags bytes lines is) in
    let second = c.in-Some-first_flags.ensures flags (decimal bytes ∷ decimal lines ∷ []) is.1.1 first.1 in
    absurd (c.in_default-first_number.ensures bytes (decimal lines ∷ []) is.1.2 second.1)

pub returns-in_default-first_number-2-clause-every : goal.returns-in_default-first_number-2-clause-every
returns-in_default-first_number-2-clause-every c = λ uid flags bytes lines is.
    let first = c.in-Some.ensures uid (flag_digits 16 flags ∷ decimal bytes ∷ decimal lines ∷ []) is.1.0 (counts_words c.args.line.now uid flags bytes lines is) in
    let second = c.in-Some-first_flags.ensures flags (decimal bytes ∷ decimal lines ∷ []) is.1.1 first.1 in
    let third = c.in-Some-first_number.ensures bytes (decimal lines ∷ []) is.1.2 second.1 in
    absurd (c.in_default-first_number-2.ensures lines [] is.1.3 third.1)

pub returns-then-not-is_line-clause-every : goal.returns-then-not-is_line-clause-every
returns-then-not-is_line-clause-every c = λ uid flags bytes lines is.
    let first = c.in-Some.ensures uid (flag_digits 16 flags ∷ decimal bytes ∷ decimal lines ∷ []) is.1.0 (counts_words c.args.line.now uid flags bytes lines is) in
    let second = c.in-Some-first_flags.ensures flags (decimal bytes ∷ decimal lines ∷ []) is.1.1 first.1 in
    let third = c.in-Some-first_number.ensures bytes (decimal lines ∷ []) is.1.2 second.1 in
    let fourth = c.in-Some-first_number-2.ensures lines [] is.1.3 third.1 in
    absurd (false≢true (c.if-not-is_line.ensures.1 (c.counts_text.ensures ∙ rw (first.0, second.0, third.0, fourth.0) (sym is.0))))

pub returns-clause-every : goal.returns-clause-every
returns-clause-every c = λ uid flags bytes lines is.
    let first = c.in-Some.ensures uid (flag_digits 16 flags ∷ decimal bytes ∷ decimal lines ∷ []) is.1.0 (counts_words c.args.line.now uid flags bytes lines is) in
    let second = c.in-Some-first_flags.ensures flags (decimal bytes ∷ decimal lines ∷ []) is.1.1 first.1 in
    let third = c.in-Some-first_number.ensures bytes (decimal lines ∷ []) is.1.2 second.1 in
    let fourth = c.in-Some-first_number-2.ensures lines [] is.1.3 third.1 in
    rw (first.0, second.0, third.0, fourth.0)
