use Rattle.std.proofs.Common.{ap, Ok}
use Rattle.pc_wire.proofs.ReaderLemmas.{IsHeld-open, TakesOpen-limit, Fetches-last, Fetches-end, Fetches-overlong, Fetches-failed, shown_last, shown_none, open-whole}
use Rattle.pc_wire.proofs.line_reader.seek_line.Goals as goal

pub returns-in_default-clause-held : goal.returns-in_default-clause-held
returns-in_default-clause-held g c = IsHeld-open _ _ _ _ _ (c.in_default.ensures {u = tt}).bytes

pub returns-in_default-clause-lines : goal.returns-in_default-clause-lines
returns-in_default-clause-lines g c =
    Fetches-failed c.args.feed.now c.seek_feed.new.feed c.args.buffer.now c.seek_feed.new.buffer (g.S.Source.left c.args.source.now) (g.S.Source.left c.seek_feed.new.source) c.in_default.field-0 (c.in_default.ensures {u = tt}).bytes

pub returns-in-More-clause-lines : goal.returns-in-More-clause-lines
returns-in-More-clause-lines g c =
    let e = c.in-Ok.ensures {u = tt} in
    let sought = rw c.in-End.is at e.bytes in
    Fetches-end c.args.feed.now c.seek_feed.new.feed c.args.buffer.now c.seek_feed.new.buffer (g.S.Source.left c.args.source.now) (g.S.Source.left c.seek_feed.new.source) sought (e.drained (ap Ok c.in-End.is)) (shown_none c.seek_feed.new.feed (c.in-More.ensures {u = tt}) (open-whole _ _ _ _ _ sought.0))

pub returns-in_default-last : goal.returns-in_default-last
returns-in_default-last g c =
    let e = c.in-Ok.ensures {u = tt} in
    let sought = rw c.in-End.is at e.bytes in
    let some = shown_last c.seek_feed.new.feed c.last.result c.last.ensures c.in_default-last.not-More in
    record {
      held = some;
      ahead = tt;
      limit = TakesOpen-limit _ _ _ _ _ sought.0;
      lines = Fetches-last c.args.feed.now c.seek_feed.new.feed c.args.buffer.now c.seek_feed.new.buffer (g.S.Source.left c.args.source.now) (g.S.Source.left c.seek_feed.new.source) sought some.1;
      front = e.front;
      beside = e.beside;
      cause = record { later = e.cause.later; failed = tt };
    }

pub returns-in-Overlong-clause-held : goal.returns-in-Overlong-clause-held
returns-in-Overlong-clause-held g c =
    let sought = rw c.in-Overlong.is at (c.in-Ok.ensures {u = tt}).bytes in IsHeld-open _ _ _ _ _ sought.0

pub returns-in-Overlong-clause-lines : goal.returns-in-Overlong-clause-lines
returns-in-Overlong-clause-lines g c =
    let sought = rw c.in-Overlong.is at (c.in-Ok.ensures {u = tt}).bytes in
    Fetches-overlong c.args.feed.now c.seek_feed.new.feed c.args.buffer.now c.seek_feed.new.buffer (g.S.Source.left c.args.source.now) (g.S.Source.left c.seek_feed.new.source) sought
