use Rattle.std.proofs.Common.{codes, string_bytes}
use Rattle.pcmail.proofs.OneWord.{one_word}
use Rattle.pcmail.proofs.command.is_replay.Goals as goal

pub returns-in-len1 : goal.returns-in-len1
returns-in-len1 c =
    let only = one_word string_bytes c.args.words.now c.word-item.result (codes "replay") c.in-len1.len_at_least c.in-len1.len_below c.word-item.is in
    (λ said. only.1 (c.is_replay_word.ensures.0 said), λ words. c.is_replay_word.ensures.1 (only.0 words))
