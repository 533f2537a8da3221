use Rattle.std.proofs.Common.{◌≡◌, ℕ, ◌<◌, List, length, drop, get_or, ap, subst, sym, ◌∙◌, arith}
use Rattle.pc_account_holdings.specs.Mailboxes.{changed_at, added, delivered}
use Rattle.pc_account_holdings.proofs.Letters.{Letter, drop-all, room-here, room-next, delivered-next}
use Rattle.pc_account_holdings.proofs.mailboxes.Mailboxes.deliver.Goals as goal

pub add-requires : goal.add-requires
add-requires c =
    let same-list = c.as_slice-letter-items.ensures in
    let lt = subst (λ (l : List Letter). c.loop-letter.letter-index < length l) same-list c.loop-letter-test.true in
    let here = c.letter-item.is ∙ ap (λ (l : List Letter). get_or l c.loop-letter.letter-index c.letter-item.result) same-list in
    room-here c.args.at c.args.letters.now c.loop-letter.letter-index c.letter-item.result c.loop-letter.self lt here c.loop-letter.invariant.1

pub loop-letter-preserved : goal.loop-letter-preserved
loop-letter-preserved c =
    let same-list = c.as_slice-letter-items.ensures in
    let lt = subst (λ (l : List Letter). c.loop-letter.letter-index < length l) same-list c.loop-letter-test.true in
    let here = c.letter-item.is ∙ ap (λ (l : List Letter). get_or l c.loop-letter.letter-index c.letter-item.result) same-list in
    let copied = ap (λ (message : List (List ℕ)). changed_at c.letter-item.result.0 (added c.args.at 0 message) c.loop-letter.self) c.in_ok-copy.ensures in (
      delivered-next c.args.at c.args.letters.now c.loop-letter.letter-index c.letter-item.result c.loop-letter.self lt here c.add.new.self (c.in_ok-add.ensures ∙ copied) ∙ c.loop-letter.invariant.0,
      room-next c.args.at c.args.letters.now c.loop-letter.letter-index c.letter-item.result c.loop-letter.self lt here c.add.new.self (c.in_ok-add.ensures ∙ copied) c.loop-letter.invariant.1,
    )

pub returns : goal.returns
returns c =
    let same-list = ap (λ (l : List Letter). length l) c.as_slice-letter-items.ensures in
    let full : c.loop-letter.letter-index ≡ length c.args.letters.now = omega (arith, same-list, c.loop-letter-test.false, c.loop-letter.auto.letter-index-end) in
    let rest = ap (λ (place : ℕ). drop place c.args.letters.now) full ∙ drop-all c.args.letters.now in
    sym (ap (λ (l : List Letter). delivered c.args.at l c.loop-letter.self) rest) ∙ c.loop-letter.invariant.0
