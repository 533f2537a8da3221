use Rattle.std.proofs.lemmas.Result.{err_from_is_err_and}
use Rattle.pc_message.proofs.Collected.{AreLeft-added, AreLeft-fault}
use Rattle.pc_message.proofs.Items.{text_addresses-first, text_addresses-next}
use Rattle.pc_message.proofs.addresses.add_text.Goals as goal

pub returns-in_err-add_item : goal.returns-in_err-add_item
returns-in_err-add_item c =
    let split = text_addresses-first _ _ _ c.split_at.ensures.front c.item_end.ensures.bound c.item_end.ensures.split in
    let p = err_from_is_err_and c.from_residual.result c.from_residual.ensures.1 in
    rw (p.1, p.2) (AreLeft-fault _ _ _ _ _ _ c.add_item.new.names c.add_item.new.names _ c.items.invariant split c.in_err-add_item.ensures)

pub items-preserved : goal.items-preserved
items-preserved c =
    let split = text_addresses-next _ _ _ _ c.split_at.ensures.front c.split_at.ensures.back c.in-len1-up.len_at_least c.item_end.ensures.bound c.item_end.ensures.split in
    AreLeft-added _ _ _ _ _ _ _ c.items.invariant split c.in_ok-add_item.ensures
