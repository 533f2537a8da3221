-- Histories of which the same is known answer alike.
use Rattle.std.proofs.Common.{◌≡◌, ap}
use Rattle.std.specs.Map.{lookup}
use Rattle.pc_tables.specs.Table.{same}
use Rattle.pc_account_history.specs.Known.{Known}
use Rattle.pc_account_history.specs.History.{History, known}
use Rattle.pc_account_history.specs.Allowed.{is_allowed, messages}
use Rattle.pc_account_history.specs.Answers.{descriptors, changed}
use Rattle.pc_account_history.specs.Limits.{limit_passed}
use Rattle.pc_account_history.specs.Laws.{AnswerAlike}

pub AnswerAlike-known : (g h : History) → known g ≡ known h → AnswerAlike g h
AnswerAlike-known g h e = record {
  number = ap (λ (k : Known). k.next) e;
  pulled = ap (λ (k : Known). k.pulled) e;
  digest = ap (λ (k : Known). k.digest) e;
  clients = ap (λ (k : Known). k.clients) e;
  births = λ client. ap (λ (k : Known). lookup (same client) k.clients) e;
  live = ap (λ (k : Known). k.live) e;
  dropped = ap (λ (k : Known). k.dropped) e;
  subscriptions = ap (λ (k : Known). k.subscriptions) e;
  highest = λ mailbox. ap (λ (k : Known). k.highest mailbox) e;
  kept = λ mailbox uid. ap (λ (k : Known). k.kept mailbox uid) e;
  listed = λ client mailbox uid. ap (λ (k : Known). k.listed client mailbox uid) e;
  changes = λ client mailbox. ap (λ (k : Known). k.changes client mailbox) e;
  messages = λ mailbox. ap (λ (k : Known). messages k mailbox) e;
  descriptors = λ mailbox. ap (λ (k : Known). descriptors k mailbox) e;
  changed = λ client mailbox count. ap (λ (k : Known). changed k client mailbox count) e;
  allowed = λ entry. ap (λ (k : Known). is_allowed k entry) e;
  limits = λ entry. ap (λ (k : Known). limit_passed k entry) e;
}
