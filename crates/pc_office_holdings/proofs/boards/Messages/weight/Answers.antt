use Rattle.std.proofs.Common.{◌≡◌, ℕ, ◌≤◌, ◌%◌, List, length, take, ap, ◌∙◌, arith, add-one}
use Rattle.std.proofs.lemmas.List.{take_all}
use Rattle.pc_tables.specs.Table.{total}
use Rattle.pc_message.specs.Message.{weight_of}
use Rattle.pc_tables.proofs.Totals.{total-more}
use Rattle.pc_office_holdings.proofs.boards.Messages.weight.Goals as goal

pub loop-message-preserved : goal.loop-message-preserved
loop-message-preserved c =
    let messages = c.deref-message-items.result.now in
    let index = c.loop-message.message-index in
    let more = total-more weight_of messages index c.message-item.result c.loop-message-test.true in
    let here = ap weight_of c.message-item.is in
    let weight = c.weight.ensures.weight in
    let counted = c.loop-message.invariant in
    rw add-one (omega (arith, more, here, weight, counted))

all-weighed : (messages now : List (List (List ℕ))) (index sum : ℕ) → length messages ≤ index → messages ≡ now → sum ≡ total weight_of (take index messages) % 18446744073709551616 → sum ≡ total weight_of now % 18446744073709551616
all-weighed messages now index sum le same counted =
    counted ∙ ap (λ (l : List (List (List ℕ))). total weight_of l % 18446744073709551616) (take_all index messages le ∙ same)

pub returns : goal.returns
returns c = all-weighed c.deref-message-items.result.now c.args.self.now c.loop-message.message-index c.loop-message.sum c.loop-message-test.false (c.deref-message-items.ensures.value ∙ c.self.view_is) c.loop-message.invariant
