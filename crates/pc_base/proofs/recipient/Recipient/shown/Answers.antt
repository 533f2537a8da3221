use Rattle.std.proofs.Common.{◌≡◌, ℕ, List, IsTrue, map, take, sym, ap, ◌∙◌, subst, arith}
use Rattle.std.proofs.lemmas.List.{take_all, take_min}
use Rattle.std.proofs.lemmas.Bool.Decides.{nat_tests}
use Rattle.pc_base.specs.Recipient.{shown_byte, is_shown}
use Rattle.pc_base.proofs.Shown.{is_shown-map, shown_of-some}
use Rattle.pc_base.proofs.recipient.Recipient.shown.Goals as goal

-- the bytes in place are what is shown of the first 64
shown : (c : goal.After-copy_of-2) → c.copy_of-2.result ≡ map shown_byte (take 64 c.args.address.now)
shown c =
    let address = c.args.address.now in
    c.copy_of-2.ensures
    ∙ c.deref.ensures.0
    ∙ c.loop-byte.invariant
    ∙ ap (map shown_byte) (take_all c.loop-byte.byte-index (take c.min.result address) c.loop-byte-test.false)
    ∙ ap (λ n. map shown_byte (take n address)) c.min.ensures
    ∙ ap (map shown_byte) (take_min 64 address)

pub invariant_of-result-2 : goal.invariant_of-result-2
invariant_of-result-2 c =
    subst (λ (text : List ℕ). IsTrue (is_shown text)) (sym (shown c)) (is_shown-map c.args.address.now (grind (arith, nat_tests)))

pub returns : goal.returns
returns c = shown c ∙ sym (shown_of-some c.args.address.now (sym c.is_empty.ensures ∙ c.if-is_empty.false))
