-- A line that lies whole in what was read ahead.
use Rattle.std.proofs.Common.{◌≡◌, ℕ, ◌+◌, ◌≤◌, Bool, true, false, List, [], ◌∷◌, ◌++◌, length, take, drop, if◌then◌else◌, Option, Some, None, Ok, sym, refl, ap, subst, ◌∙◌, inl, inr, arith, append_assoc, length-append}
use Rattle.std.specs.Prelude.{nat_lt}
use Rattle.std.specs.Io.KnownBytes.{prepend_known}
use Rattle.std.specs.Io.BufRead.{take_through}
use Rattle.std.specs.List.{position_or_len}
use Rattle.std.proofs.lemmas.Bool.{cases_Bool}
use Rattle.std.proofs.lemmas.List.{take_all, take-append-drop, length-take-le}
use Rattle.pc_wire.specs.Lines.{is_feed, has_feed, before_feed, without_return}
use Rattle.pc_wire.specs.LineFeed.{FeedState, fed}
use Rattle.pc_wire.specs.Reader.{no_line, long_line, this_line, ReaderState, waiting, IfTold, TakesLine, Fetches}
use Rattle.pc_wire.specs.Reading.{waiting_in, ahead_in, state_of, LineStops}
use Rattle.pc_wire.specs.declared.fetched.Fetched.TheVariants.{Waits}
use Rattle.pc_wire.specs.declared.fetched.Held.{Held}
use Rattle.pc_wire.specs.declared.fetched.Held.TheVariants.{Begun, Whole, Last, Ahead}
use Rattle.pc_wire.proofs.LineLemmas.{IsSpelling-front}
use Rattle.pc_wire.proofs.FeedLemmas.{before_feed-is, before_feed-open, open-before_feed, take-take_through, take_through-feed}

-- a line stops where an LF is first
pub LineStops-place : (bytes : List ℕ) (stop : ℕ) → stop ≡ position_or_len is_feed bytes → stop ≤ length bytes → (stop ≡ length bytes → ⊥) → LineStops stop bytes
LineStops-place bytes stop at within some =
    let line : take stop bytes ≡ before_feed bytes = ap (λ n. take n bytes) at ∙ sym (before_feed-is bytes) in
    let size = length-take-le stop bytes within in
    elim (cases_Bool (has_feed bytes)) [
      | inl has ↦ (
          let count : length (take_through 10 bytes) ≡ stop + 1 = omega (arith, ap length (take_through-feed bytes has), length-append (before_feed bytes) (10 ∷ []), ap length line, size) in (
            omega (arith, some),
            ap has_feed line ∙ open-before_feed bytes,
            ap (λ n. take n bytes) (sym count) ∙ take-take_through bytes ∙ take_through-feed bytes has ∙ ap (λ xs. xs ++ 10 ∷ []) (sym line),
          )
          )
      | inr none ↦ absurd (some (sym size ∙ ap length (line ∙ before_feed-open bytes none)))
    ]

-- what waits is there
waiting-some : (limit : ℕ) (line : List ℕ) → waiting limit line ≡ no_line → ⊥
waiting-some limit line = by_test (nat_lt limit (length line))
  where
    by_test : (t : Bool) → (if t then long_line else this_line line) ≡ no_line → ⊥
    by_test true e = cc
    by_test false e = cc

held-begun : (held : Held) (feed : FeedState) (buffer : List ℕ) → waiting_in held feed buffer ≡ no_line → held ≡ Begun
held-begun Begun feed buffer e = refl
held-begun Whole feed buffer e = absurd (waiting-some feed.limit (without_return feed.text) e)
held-begun Last feed buffer e = absurd (waiting-some feed.limit feed.text e)
held-begun (Ahead stop) feed buffer e = absurd (waiting-some feed.limit (without_return (take stop buffer)) e)

-- what is told of the bytes before and after
told_ahead : (stop : ℕ) (buffer : List ℕ) (left : Option (List ℕ)) → LineStops stop buffer → IfTold (prepend_known buffer left) (prepend_known (drop (stop + 1) buffer) left) (TakesLine (without_return (take stop buffer)))
told_ahead stop buffer None stops = tt
told_ahead stop buffer (Some rest) stops = record {
  spelling = take stop buffer ++ 10 ∷ [];
  split = ap (λ bytes. bytes ++ rest) (sym (take-append-drop (stop + 1) buffer)) ∙ append_assoc (take (stop + 1) buffer) (drop (stop + 1) buffer) rest ∙ ap (λ bytes. bytes ++ (drop (stop + 1) buffer ++ rest)) stops.2;
  spells = inl (IsSpelling-front (take stop buffer) stops.1);
}

-- a line that stops in the buffer waits there
pub Fetches-ahead : (held : Held) (feed : FeedState) (buffer : List ℕ) (stop : ℕ) (old : ReaderState) (left : Option (List ℕ)) → state_of held feed buffer ≡ old → old.waits ≡ no_line → feed ≡ fed feed.limit [] → LineStops stop buffer → Fetches old (state_of (Ahead stop) feed buffer) left left (Ok Waits)
Fetches-ahead held feed buffer stop old left is none empty stops =
    let begun = held-begun held feed buffer (ap (λ (state : ReaderState). state.waits) is ∙ none) in
    let text : feed.text ≡ [] = ap (λ (state : FeedState). state.text) empty ∙ take_all (feed.limit + 2) [] (omega arith) in
    let ahead : old.ahead ≡ buffer = sym (ap (λ (state : ReaderState). state.ahead) is) ∙ ap (λ (h : Held). ahead_in h feed buffer) begun ∙ ap (λ bytes. bytes ++ buffer) text in
    let line = without_return (take stop buffer) in
    let P : List ℕ → Type 0 = λ bytes. IfTold (prepend_known bytes left) (prepend_known (drop (stop + 1) buffer) left) (TakesLine line) in
    (line, (ap (λ (state : ReaderState). waiting state.limit line) is, subst P (sym ahead) (told_ahead stop buffer left stops)))
