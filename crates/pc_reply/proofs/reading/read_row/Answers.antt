use Rattle.std.proofs.Common.{◌≡◌, [], ◌∷◌, List, ℕ, decimal, Some, refl, sym, ap, ◌∙◌, subst, IsTrue, rules}
use Rattle.std.proofs.lemmas.Bool.{false≢true}
use Rattle.pc_base.specs.Name.{is_name}
use Rattle.pc_wire.specs.Words.{words_of}
use Rattle.pc_reply.specs.Items.{MailboxRow, mailbox_line}
use Rattle.pc_reply.proofs.PartLemmas.{first_same}
use Rattle.pc_reply.proofs.WordTexts.{row_words}
use Rattle.pc_reply.proofs.reading.read_row.Goals as goal

pub returns-in_default-clause-every : goal.returns-in_default-clause-every
returns-in_default-clause-every c = λ row is.
    let words = sym c.in_default.ensures ∙ row_words c.args.line.now row is in absurd (cc)

pub returns-in_default-read-clause-every : goal.returns-in_default-read-clause-every
returns-in_default-read-clause-every c = λ row is.
    let first = first_same c.in-Some.word.now row.name (words_of c.in-Some.rest.now) (decimal row.live ∷ decimal row.highest ∷ []) (words_of c.args.line.now) c.in-Some.ensures.0 (row_words c.args.line.now row is) in
    absurd (c.in_default-read.ensures (subst (λ (name : List ℕ). IsTrue (is_name name)) (sym first.0) is.1.name))

pub returns-in_default-first_number-clause-every : goal.returns-in_default-first_number-clause-every
returns-in_default-first_number-clause-every c = λ row is.
    let first = first_same c.in-Some.word.now row.name (words_of c.in-Some.rest.now) (decimal row.live ∷ decimal row.highest ∷ []) (words_of c.args.line.now) c.in-Some.ensures.0 (row_words c.args.line.now row is) in
    absurd (c.in_default-first_number.ensures row.live (decimal row.highest ∷ []) is.1.live first.1)

pub returns-in_default-first_number-2-clause-every : goal.returns-in_default-first_number-2-clause-every
returns-in_default-first_number-2-clause-every c = λ row is.
    let first = first_same c.in-Some.word.now row.name (words_of c.in-Some.rest.now) (decimal row.live ∷ decimal row.highest ∷ []) (words_of c.args.line.now) c.in-Some.ensures.0 (row_words c.args.line.now row is) in
    let second = c.in-Some-first_number.ensures row.live (decimal row.highest ∷ []) is.1.live first.1 in
    absurd (c.in_default-first_number-2.ensures row.highest [] is.1.highest second.1)

pub returns-then-not-is_line-clause-every : goal.returns-then-not-is_line-clause-every
returns-then-not-is_line-clause-every c = λ row is.
    let first = first_same c.in-Some.word.now row.name (words_of c.in-Some.rest.now) (decimal row.live ∷ decimal row.highest ∷ []) (words_of c.args.line.now) c.in-Some.ensures.0 (row_words c.args.line.now row is) in
    let second = c.in-Some-first_number.ensures row.live (decimal row.highest ∷ []) is.1.live first.1 in
    let third = c.in-Some-first_number-2.ensures row.highest [] is.1.highest second.1 in
    absurd (false≢true (c.if-not-is_line.ensures.1 (c.counted.ensures ∙ rw (c.in-Some-read.ensures.1, first.0, second.0, third.0) (sym is.0))))

pub returns-clause-some : goal.returns-clause-some
returns-clause-some c =
    let row : MailboxRow = record { name = c.in-Some-read.name; live = c.in-Some-first_number.live; highest = c.in-Some-first_number-2.highest } in
    let written : c.args.line.now ≡ mailbox_line row = sym (c.if-not-is_line.ensures.0 refl) ∙ c.counted.ensures in
    let named : IsTrue (is_name c.in-Some-read.name) = subst (λ (name : List ℕ). IsTrue (is_name name)) (sym c.in-Some-read.ensures.1) c.in-Some-read.ensures.0 in
    (row, (refl, (written, record { name = named; live = search rules; highest = search rules })))

pub returns-clause-every : goal.returns-clause-every
returns-clause-every c = λ row is.
    let first = first_same c.in-Some.word.now row.name (words_of c.in-Some.rest.now) (decimal row.live ∷ decimal row.highest ∷ []) (words_of c.args.line.now) c.in-Some.ensures.0 (row_words c.args.line.now row is) in
    ap Some (c.in-Some-read.ensures.1 ∙ first.0)
