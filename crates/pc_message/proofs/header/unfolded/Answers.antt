use Rattle.std.proofs.Common.{◌≡◌, ◌==◌, ◌<◌, ◌+◌, ◌++◌, List, [], ◌∷◌, ℕ, false, get_or, take, length, sym, ap, ◌∙◌, subst, append-nil, append_assoc}
use Rattle.std.proofs.lemmas.List.{take_more}
use Rattle.std.proofs.lemmas.List.Folds.{concat-append}
use Rattle.std.specs.List.{after_first, concat, position_or_len}
use Rattle.pc_base.specs.Line.{has_feed}
use Rattle.pc_message.proofs.Feeds.{has_feed-append, has_feed-drop, has_feed-line}
use Rattle.pc_message.proofs.header.unfolded.Goals as goal

pub loop-line-init : goal.loop-line-init
loop-line-init c =
    let line = c.args.field.now.line.now in
    let same : c.in_ok-text.text.items ≡ after_first (λ byte. byte == 58) line = c.in_ok-text.ensures.items ∙ c.after_colon.ensures ∙ ap (after_first (λ byte. byte == 58)) c.bytes.ensures.value in
    let whole = has_feed-drop (position_or_len (λ byte. byte == 58) line + 1) line (has_feed-line line c.bytes.ensures.line) in
    (same ∙ sym (append-nil _), subst (λ (text : List ℕ). has_feed text ≡ false) (sym same) whole)

-- one more folded line
concat-more : (front text : List ℕ) (folded : List (List ℕ)) (i : ℕ) (line : List ℕ) → i < length folded → line ≡ get_or folded i line → text ≡ front ++ concat (take i folded) → text ++ line ≡ front ++ concat (take (i + 1) folded)
concat-more front text folded i line within read so_far =
    let more : concat (take (i + 1) folded) ≡ concat (take i folded) ++ line = ap concat (take_more folded i line within) ∙ concat-append (take i folded) (get_or folded i line ∷ []) ∙ ap (λ last. concat (take i folded) ++ last) (append-nil (get_or folded i line) ∙ sym read) in
    ap (λ start. start ++ line) so_far ∙ append_assoc front (concat (take i folded)) line ∙ ap (λ back. front ++ back) (sym more)

pub loop-line-preserved : goal.loop-line-preserved
loop-line-preserved c =
    let line = c.line-item.result in
    let same : c.extend_from_slice.new.self.items ≡ c.loop-line.text.items ++ line = c.in_ok-extend_from_slice.ensures.items ∙ ap (λ back. c.loop-line.text.items ++ back) c.bytes-in-loop-line.ensures.value in
    let whole = has_feed-append c.loop-line.text.items line c.loop-line.invariant.1 (has_feed-line line c.bytes-in-loop-line.ensures.line) in (
      same ∙ concat-more _ _ _ _ _ c.loop-line-test.true c.line-item.is c.loop-line.invariant.0,
      subst (λ (text : List ℕ). has_feed text ≡ false) (sym same) whole,
    )
