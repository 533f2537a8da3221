use Rattle.std.proofs.Common.{◌≡◌, ℕ, ◌+◌, ◌-◌, min, List, ◌++◌, Result, Ok, Err, length, take, ap, ◌∙◌, arith, length-take}
use Rattle.std.specs.Prelude.{IsOk, OnOk}
use Rattle.std.proofs.lemmas.Bool.{false≢true}
use Rattle.pc_wire.specs.Lines.{has_feed}
use Rattle.pc_wire.specs.LineFeed.{FeedState}
use Rattle.pc_wire.proofs.LineLemmas.{open-append}
use Rattle.pc_wire.proofs.FeedLemmas.{kept_is, open-take}
use Rattle.pc_wire.proofs.line_feed.LineFeed.keep.Goals as goal

at_ok : {T E : Type 0} (r : Result T E) (P : Type 0) → IsOk r → OnOk r P → P
at_ok (Ok x) P ok h = h
at_ok (Err e) P ok h = absurd (false≢true ok)

-- what the text is now
text_is : (c : goal.After-try_extend_from_slice) → c.try_extend_from_slice.new.self.items ≡ c.self.inside.text.items ++ take c.min-count.result c.args.bytes.now
text_is c =
    at_ok c.try_extend_from_slice.result _ (c.try_extend_from_slice.ensures.variant.1 (omega (arith, length-take c.min-count.result c.args.bytes.now))) c.try_extend_from_slice.ensures.ok

count_is : (c : goal.After-try_extend_from_slice) → c.min-count.result ≡ min (c.self.inside.limit + 2 - length c.self.inside.text.items) (length c.args.bytes.now)
count_is c = c.min-count.ensures ∙ ap (λ n. min (c.self.inside.limit + 2 - n) (length c.args.bytes.now)) c.len.ensures.value

-- the same, as the contract says it
kept : (c : goal.After-try_extend_from_slice) → c.try_extend_from_slice.new.self.items ≡ take (c.self.inside.limit + 2) (c.self.inside.text.items ++ c.args.bytes.now)
kept c =
    text_is c ∙ ap (λ n. c.self.inside.text.items ++ take n c.args.bytes.now) (count_is c) ∙ kept_is (c.self.inside.limit + 2) c.self.inside.text.items c.args.bytes.now c.self.invariant.1

pub invariant_of-self : goal.invariant_of-self
invariant_of-self c = (
  c.self.invariant.0,
  omega (arith, ap length (kept c), length-take (c.self.inside.limit + 2) (c.self.inside.text.items ++ c.args.bytes.now)),
  ap has_feed (text_is c) ∙ open-append c.self.inside.text.items (take c.min-count.result c.args.bytes.now) c.self.invariant.2 (open-take c.min-count.result c.args.bytes.now c.requires),
)

pub returns : goal.returns
returns c =
    let inside = c.self.inside in
    let grown : FeedState → FeedState = λ state. record state { text = take (state.limit + 2) (state.text ++ c.args.bytes.now) } in
    let with_text : List ℕ → FeedState = λ bytes. record { limit = inside.limit; text = bytes; is_whole = inside.is_whole } in
    ap with_text (kept c) ∙ ap grown c.self.view_is
