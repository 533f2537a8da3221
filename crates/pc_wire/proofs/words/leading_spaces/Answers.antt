use Rattle.std.proofs.Common.{◌≡◌, not, sym, ap, drop, ◌∙◌, arith, rules, tests}
use Rattle.std.specs.List.{position_or_len}
use Rattle.std.proofs.lemmas.Iterator.{YieldsList-from_slice}
use Rattle.std.proofs.lemmas.Iterator.Search.{position_from_yields_List}
use Rattle.pc_wire.specs.Words.{is_space}
use Rattle.pc_wire.proofs.PlaceLemmas.{place_or_length, place-within}
use Rattle.pc_wire.proofs.WordLemmas.{without_spaces-is}
use Rattle.pc_wire.proofs.words.leading_spaces.Goals as goal

pub returns : goal.returns
returns c =
    let place : c.unwrap_or.result ≡ position_or_len (λ byte. not (is_space byte)) c.args.text.now = c.unwrap_or.ensures ∙ place_or_length (λ byte. not (is_space byte)) c.args.text.now c.position.result (position_from_yields_List (λ byte. not (is_space byte)) _ _ c.position.result c.position.ensures.ran (YieldsList-from_slice c.args.text.now c.iter.ensures.rest) (λ x b q k. search (rules, tests))) in
    record {
      rest = ap (λ n. drop n c.args.text.now) place ∙ sym (without_spaces-is c.args.text.now);
      within = omega (arith, place-within (λ byte. not (is_space byte)) c.args.text.now);
    }
