use Rattle.std.proofs.Common.{IsOk, rules}
use Rattle.pc_world.proofs.AskLines.{asks_plays}
use Rattle.pc_world.proofs.replaying.play_asked.Goals as goal

pub returns : goal.returns
returns c = λ line asking named.
    let ok : IsOk c.ask_text.result = search rules in
    let told = c.ask_text.ensures.asked in
    asks_plays c.args.world.now c.ask_text.new.self c.args.text.now.items c.ask_text.new.transcript.items line c.args.user.now c.args.words.now told.0 c.ask_text.result asking named told.1.0 ok told.1.1
