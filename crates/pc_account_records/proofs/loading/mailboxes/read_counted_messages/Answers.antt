use Rattle.std.proofs.Common.{ℕ, min, ap, ◌∙◌}
use Rattle.pc_account_records.proofs.ReadMailboxes.{messages_within, ok_from_match}
use Rattle.pc_account_records.proofs.loading.mailboxes.read_counted_messages.Goals as goal

pub returns-clause-within : goal.returns-clause-within
returns-clause-within c =
    ok_from_match c.read_messages.result _ _ _ c.read_messages.ensures
    (λ messages reads. messages_within c.args.highest c.args.most c.args.weight c.min-2.result c.in_ok-count.count c.args.cursor.now c.u32.new.self c.read_messages.new.cursor messages.items c.requires (c.min-2.ensures ∙ ap (λ (n : ℕ). min c.args.most n) c.min.ensures) c.in_ok-count.ensures reads)
