use Rattle.std.proofs.Common.{◌∙◌}
use Rattle.std.proofs.lemmas.Bool.{false≢true}
use Rattle.pc_reply.proofs.HeadLemmas.{no_candidate, that_candidate, other_candidate}
use Rattle.pc_reply.proofs.head.Head.read.Goals as goal

pub returns-in_default-clause-every : goal.returns-in_default-clause-every
returns-in_default-clause-every c = λ head is.
    no_candidate head c.args.line.now is c.in_default.ensures.value

pub returns-then-not-is_same-clause-every : goal.returns-then-not-is_same-clause-every
returns-then-not-is_same-clause-every c = λ head is.
    other_candidate head c.in-Some.head c.args.line.now c.bytes.result.now is c.in-Some.ensures.value (c.bytes.ensures.value ∙ c.text.ensures) (λ same. false≢true (c.if-not-is_same.ensures.1 same))

pub returns-clause-every : goal.returns-clause-every
returns-clause-every c = λ head is.
    that_candidate head c.in-Some.head c.args.line.now is c.in-Some.ensures.value
