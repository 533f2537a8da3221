use Rattle.std.proofs.Common.{◌+◌, ◌++◌, true, false, length, ap, ◌∙◌}
use Rattle.std.specs.List.{concat, flat_map}
use Rattle.pc_fields.specs.FieldBytes.{u16_field, u64_field, short_list}
use Rattle.pc_account_spelling.specs.Spelling.{digest_fields, client_fields, mailbox_fields, subscription_fields}
use Rattle.pc_account_records.proofs.Written.{on_ok, all-written, few-live, few-dropped}
use Rattle.pc_account_records.proofs.saving.save.Goals as goal

pub write_mailboxes-requires : goal.write_mailboxes-requires
write_mailboxes-requires c = rw c.live-2.ensures (few-live c.args.holdings.now.held c.args.holdings.now.next c.requires)

pub write_mailboxes-requires-2 : goal.write_mailboxes-requires-2
write_mailboxes-requires-2 c = rw c.dropped-2.ensures (few-dropped c.args.holdings.now.held c.args.holdings.now.next c.requires)

pub returns : goal.returns
returns c =
    let r = c.args.holdings.now.held in
    on_ok c.write_subscriptions.result _ _
    (λ written.
    all-written c.args.out.now (u64_field r.pulled) (digest_fields r.digest) (short_list client_fields r.clients) (u16_field (length r.live + length r.dropped)) (flat_map (mailbox_fields true) r.live) (flat_map (mailbox_fields false) r.dropped) (short_list subscription_fields r.subscriptions)
    c.write_u64.new.out c.write_digest.new.out c.write_clients.new.out c.write_count.new.out c.write_mailboxes.new.out c.write_mailboxes-2.new.out c.write_subscriptions.new.out
    (c.in_ok-write_u64.ensures ∙ ap (λ n. c.args.out.now ++ u64_field n) c.pulled.ensures)
    (c.in_ok-write_digest.ensures ∙ ap (λ digest. c.write_u64.new.out ++ concat (digest_fields digest)) c.digest.ensures)
    (c.in_ok-write_clients.ensures ∙ ap (λ clients. c.write_digest.new.out ++ concat (short_list client_fields clients)) c.clients.ensures)
    (c.in_ok-write_count.ensures ∙ (λ i. c.write_clients.new.out ++ u16_field ((c.count.ensures ∙ ap length c.live.ensures) i + (c.count-2.ensures ∙ ap length c.dropped.ensures) i)))
    (c.in_ok-write_mailboxes.ensures ∙ ap (λ table. c.write_count.new.out ++ concat (flat_map (mailbox_fields true) table)) c.live-2.ensures)
    (c.in_ok-write_mailboxes-2.ensures ∙ ap (λ table. c.write_mailboxes.new.out ++ concat (flat_map (mailbox_fields false) table)) c.dropped-2.ensures)
    (written ∙ ap (λ subscriptions. c.write_mailboxes-2.new.out ++ concat (short_list subscription_fields subscriptions)) c.subscriptions.ensures))
    c.write_subscriptions.ensures
