use Rattle.std.proofs.Common.{◌≡◌, ◌==◌, ◌∙◌, arith, rules, tests}
use Rattle.std.specs.List.{position_or_len}
use Rattle.std.proofs.lemmas.Iterator.{YieldsList-from_slice}
use Rattle.std.proofs.lemmas.Iterator.Search.{position_from_yields_List}
use Rattle.pc_wire.proofs.PlaceLemmas.{place_or_length, place-within}
use Rattle.pc_wire.proofs.places.first_place.Goals as goal

pub returns : goal.returns
returns c =
    let place : c.unwrap_or.result ≡ position_or_len (λ byte. byte == c.args.wanted) c.args.bytes.now = c.unwrap_or.ensures ∙ place_or_length (λ byte. byte == c.args.wanted) c.args.bytes.now c.position.result (position_from_yields_List (λ byte. byte == c.args.wanted) _ _ c.position.result c.position.ensures.ran (YieldsList-from_slice c.args.bytes.now c.iter.ensures.rest) (λ x b q k. search (rules, tests))) in
    record {
      place = place;
      within = omega (arith, place-within (λ byte. byte == c.args.wanted) c.args.bytes.now);
    }
