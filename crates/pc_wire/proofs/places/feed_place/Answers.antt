use Rattle.std.proofs.Common.{◌≡◌, ◌==◌, ◌∙◌, arith}
use Rattle.std.specs.List.{position_or_len}
use Rattle.pc_wire.proofs.PlaceLemmas.{first_or_length, place-within}
use Rattle.pc_wire.proofs.places.feed_place.Goals as goal

pub returns : goal.returns
returns c =
    let place : c.unwrap_or.result ≡ position_or_len (λ byte. byte == 10) c.args.bytes.now = c.unwrap_or.ensures ∙ first_or_length 10 c.args.bytes.now c.memchr.result c.memchr.ensures in
    record {
      place = place;
      within = omega (arith, place-within (λ byte. byte == 10) c.args.bytes.now);
    }
