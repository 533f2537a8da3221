use Rattle.std.proofs.Common.{refl}
use Rattle.pc_fields.proofs.Formats.{nothing_more, after_field, after_part, no_part}
use Rattle.pc_account_spelling.proofs.GoodRecord.{with_clients, with_mailboxes, with_subscriptions}
use Rattle.pc_fields.proofs.Follows.{match_err}
use Rattle.pc_account_records.proofs.ReadRecord.{few_clients, with_all}
use Rattle.pc_account_records.proofs.loading.read_record.Goals as goal

pub returns-in_err-digest-clause-read : goal.returns-in_err-digest-clause-read
returns-in_err-digest-clause-read c =
    match_err c.from_residual-in_err-digest.result c.in_err-digest.field-0.0 _ _ c.from_residual-in_err-digest.ensures
    (after_field c.in_ok-pulled.ensures (no_part (with_clients c.in_ok-pulled.pulled) c.in_err-digest.ensures (refl, refl)))

pub returns-in_err-clients-clause-read : goal.returns-in_err-clients-clause-read
returns-in_err-clients-clause-read c =
    match_err c.from_residual-in_err-clients.result c.in_err-clients.field-0.0 _ _ c.from_residual-in_err-clients.ensures
    (after_field c.in_ok-pulled.ensures (after_part (with_clients c.in_ok-pulled.pulled) c.in_ok-digest.ensures (no_part (with_mailboxes c.in_ok-pulled.pulled c.in_ok-digest.digest) c.in_err-clients.ensures (refl, refl))))

pub read_mailboxes-requires : goal.read_mailboxes-requires
read_mailboxes-requires c = few_clients c.read_digest.new.cursor c.read_clients.new.cursor c.in_ok-clients.clients.entries c.in_ok-clients.ensures

pub returns-in_err-live-clause-read : goal.returns-in_err-live-clause-read
returns-in_err-live-clause-read c =
    match_err c.from_residual-in_err-live.result c.in_err-live.field-0.0 _ _ c.from_residual-in_err-live.ensures
    (after_field c.in_ok-pulled.ensures (after_part (with_clients c.in_ok-pulled.pulled) c.in_ok-digest.ensures (after_part (with_mailboxes c.in_ok-pulled.pulled c.in_ok-digest.digest) c.in_ok-clients.ensures
    (no_part (with_subscriptions c.in_ok-pulled.pulled c.in_ok-digest.digest c.in_ok-clients.clients.entries) c.in_err-live.ensures (refl, refl)))))

pub returns-in_err-subscriptions-clause-read : goal.returns-in_err-subscriptions-clause-read
returns-in_err-subscriptions-clause-read c =
    match_err c.from_residual-in_err-subscriptions.result c.in_err-subscriptions.field-0.0 _ _ c.from_residual-in_err-subscriptions.ensures
    (after_field c.in_ok-pulled.ensures (after_part (with_clients c.in_ok-pulled.pulled) c.in_ok-digest.ensures (after_part (with_mailboxes c.in_ok-pulled.pulled c.in_ok-digest.digest) c.in_ok-clients.ensures
    (after_part (with_subscriptions c.in_ok-pulled.pulled c.in_ok-digest.digest c.in_ok-clients.clients.entries) c.in_ok-live.ensures
    (no_part (with_all c.in_ok-pulled.pulled c.in_ok-digest.digest c.in_ok-clients.clients.entries (c.in_ok-live.live, c.in_ok-live.dropped)) c.in_err-subscriptions.ensures (refl, refl))))))

pub returns-clause-read : goal.returns-clause-read
returns-clause-read c =
    rw c.of.ensures.held
    (after_field c.in_ok-pulled.ensures (after_part (with_clients c.in_ok-pulled.pulled) c.in_ok-digest.ensures (after_part (with_mailboxes c.in_ok-pulled.pulled c.in_ok-digest.digest) c.in_ok-clients.ensures
    (after_part (with_subscriptions c.in_ok-pulled.pulled c.in_ok-digest.digest c.in_ok-clients.clients.entries) c.in_ok-live.ensures
    (after_part (with_all c.in_ok-pulled.pulled c.in_ok-digest.digest c.in_ok-clients.clients.entries (c.in_ok-live.live, c.in_ok-live.dropped)) c.in_ok-subscriptions.ensures nothing_more)))))
