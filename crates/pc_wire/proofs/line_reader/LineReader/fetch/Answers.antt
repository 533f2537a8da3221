use Rattle.pc_wire.proofs.AheadLemmas.{Fetches-ahead}
use Rattle.pc_wire.proofs.line_reader.LineReader.fetch.Goals as goal

pub returns-in-Some-clause-lines : goal.returns-in-Some-clause-lines
returns-in-Some-clause-lines g c =
    Fetches-ahead c.self.inside.held c.self.inside.feed c.self.inside.buffer c.in-Some.stop c.args.self.now (g.S.Source.left c.args.source.now) c.self.view_is c.requires c.in-Some.ensures.0 c.in-Some.ensures.1
