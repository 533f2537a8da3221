use Rattle.std.proofs.Common.{◌≡◌, ℕ, sym, ap, ◌∙◌, subst}
use Rattle.pc_wire.specs.Next.{ShowsLine}
use Rattle.pc_wire.specs.Reader.{ReaderState, IfTold, TakesLine, unread, waiting}
use Rattle.pc_world.specs.Replay.{PlaysLine}
use Rattle.pc_world.proofs.Turns.{TakesTurn-plays, no_fault}
use Rattle.pc_world.proofs.replaying.play_next.Given.{Over}
use Rattle.pc_world.proofs.replaying.play_next.Goals as goal

-- the line that was fetched is the one that was played
played : (g : Over) (c : goal.After-consume g) →
    PlaysLine c.args.world.now c.play_shown-turn.new.world c.args.text.now.items c.play_shown-turn.new.text.items (rw c.in-Ok-Waits.field-0-is at c.in-Ok-Waits.ensures.lines).0 c.play_shown-turn.result
played g c =
    let fetched = rw c.in-Ok-Waits.field-0-is at c.in-Ok-Waits.ensures.lines in
    let limit : c.fetch.new.self.limit ≡ 1000 = c.in-Ok-Waits.ensures.limit ∙ c.requires.limit in
    let waits = fetched.1.0 ∙ ap (λ (n : ℕ). waiting n fetched.0) (sym c.in-Ok-Waits.ensures.limit) in
    let shown = c.line.ensures.fetched fetched.0 waits in
    c.play_shown-turn.ensures fetched.0 (subst (λ (n : ℕ). ShowsLine n fetched.0 c.line.result) limit shown)

pub returns-clause-turn : goal.returns-clause-turn
returns-clause-turn g c =
    let fetched = rw c.in-Ok-Waits.field-0-is at c.in-Ok-Waits.ensures.lines in
    let P : ReaderState → Type 0 = λ state. IfTold (unread c.args.lines.now (g.S.Source.left c.args.input.now)) (unread state (g.S.Source.left c.fetch.new.source)) (TakesLine fetched.0) in
    TakesTurn-plays _ _ _ _ _ _ fetched.0 c.play_shown-turn.result (subst P (sym c.consume.ensures) fetched.1.1) (played g c)

pub returns-clause-cause : goal.returns-clause-cause
returns-clause-cause g c = λ faulty. absurd (no_fault _ _ _ _ _ c.play_shown-turn.result (played g c) faulty)
