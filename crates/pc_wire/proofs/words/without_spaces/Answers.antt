use Rattle.std.proofs.Common.{ap, ◌∙◌}
use Rattle.std.proofs.lemmas.List.{take_rest}
use Rattle.pc_wire.specs.Words.{words_of}
use Rattle.pc_wire.proofs.WordLemmas.{words_of-without_spaces}
use Rattle.pc_wire.proofs.words.without_spaces.Goals as goal

pub returns-clause-words : goal.returns-clause-words
returns-clause-words c =
    ap words_of (take_rest c.args.text.now c.leading_spaces.result ∙ c.leading_spaces.ensures.rest) ∙ words_of-without_spaces c.args.text.now
