use Rattle.pc_wire.specs.Words.{words_of}
use Rattle.pc_reply.proofs.PartLemmas.{no_number, that_number}
use Rattle.pc_reply.proofs.parts.first_number.Goals as goal

pub returns-in_default-read_u32 : goal.returns-in_default-read_u32
returns-in_default-read_u32 c = λ number others fits are.
    no_number c.in-Some.word.now number (words_of c.in-Some.rest.now) others (words_of c.args.text.now) fits c.in-Some.ensures.0 are c.in_default-read_u32.ensures

pub returns : goal.returns
returns c = λ number others fits are.
    that_number c.in-Some.word.now number c.in-Some-read_u32.number (words_of c.in-Some.rest.now) others (words_of c.args.text.now) fits c.in-Some.ensures.0 are c.in-Some-read_u32.ensures.1
