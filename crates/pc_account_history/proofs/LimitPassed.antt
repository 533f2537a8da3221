-- The limit that an entry is told is the first of all that is passed.
use Rattle.std.proofs.Common.{◌≡◌, Bool, true, false, filter, find, refl, ◌∙◌, ap}
use Rattle.std.specs.List.{AllByRecursion as Every, list_any}
use Rattle.pc_base.specs.declared.refusal.LimitWord.{LimitWord}
use Rattle.pc_base.specs.declared.refusal.LimitWord.TheVariants as limit
use Rattle.pc_base.specs.Refusal.{limit_word}
use Rattle.pc_account_history.specs.declared.entry.Entry.{Entry}
use Rattle.pc_account_history.specs.declared.entry.Entry.TheVariants.{MakeMailbox, DropMailbox, Flag, Expunge, Copy, MakeClient, DropClient, ResetClient, ResetMailbox, Pull, Subscribe}
use Rattle.pc_tables.specs.Table.{same}
use Rattle.pc_account_history.specs.Known.{Known, after_entry}
use Rattle.pc_account_history.specs.Allowed.{is_allowed}
use Rattle.pc_account_history.specs.Limits.{is_passed, limits_of, limit_passed, IsWithin, limits_of_bases}
use Rattle.pc_account_history.proofs.Numbers.{KnowsNames}
use Rattle.pc_tables.proofs.Lists.{Every-unlisted, find-filter}
use Rattle.pc_tables.proofs.Table.{same-refl}
use Rattle.pc_account_history.proofs.Within.{clients-within, mailboxes-within, uids-within, messages-within, bytes-within, changes-within, subscriptions-within}

-- the entry is held to this limit
abbrev is_held : Entry → LimitWord → Bool
is_held e word = list_any (λ held. same (limit_word held) (limit_word word)) (limits_of e)

-- an entry is held to its limits in the order of all limits
held-in-order : (e : Entry) → limits_of e ≡ filter (is_held e) limits_of_bases
held-in-order (MakeMailbox mailbox) = refl
held-in-order (DropMailbox mailbox) = refl
held-in-order (Flag mailbox uid flag on) = refl
held-in-order (Expunge mailbox) = refl
held-in-order (Copy mailbox uid target) = refl
held-in-order (MakeClient client) = refl
held-in-order (DropClient client) = refl
held-in-order (ResetClient client) = refl
held-in-order (ResetMailbox client mailbox) = refl
held-in-order (Pull upto letters) = refl
held-in-order (Subscribe board) = refl
held-in-order _ = refl

module _ (k : Known) (knows : KnowsNames k) (e : Entry) (allowed : is_allowed k e ≡ true) (within : IsWithin k limits_of_bases) where
  unheld : (word : LimitWord) → is_held e word ≡ false → Every (λ held. held ≡ word → is_passed (after_entry k e) word ≡ false) (limits_of e)
  unheld word h = Every-unlisted (λ one other. same (limit_word one) (limit_word other)) word (is_passed (after_entry k e) word ≡ false) (same-refl (limit_word word)) (limits_of e) h

  -- an entry passes no limit that it isn't held to
  unheld-unpassed : (word : LimitWord) → is_held e word ≡ false → is_passed (after_entry k e) word ≡ false
  unheld-unpassed limit.Clients h = clients-within k knows e (unheld limit.Clients h) within.0
  unheld-unpassed limit.Mailboxes h = mailboxes-within k knows e allowed (unheld limit.Mailboxes h) within.1.0
  unheld-unpassed limit.Uids h = uids-within k knows e (unheld limit.Uids h) within.1.1.0
  unheld-unpassed limit.Messages h = messages-within k knows e (unheld limit.Messages h) within.1.1.1.0
  unheld-unpassed limit.Bytes h = bytes-within k knows e (unheld limit.Bytes h) within.1.1.1.1.0
  unheld-unpassed limit.Changes h = changes-within k knows e (unheld limit.Changes h) within.1.1.1.1.1.0
  unheld-unpassed limit.Subscriptions h = subscriptions-within k knows e (unheld limit.Subscriptions h) within.1.1.1.1.1.1.0
  unheld-unpassed limit.Sessions h = refl
  unheld-unpassed _ h = refl

  pub first-told : limit_passed k e ≡ find (is_passed (after_entry k e)) limits_of_bases
  first-told = ap (find (is_passed (after_entry k e))) (held-in-order e) ∙ find-filter (is_passed (after_entry k e)) (is_held e) limits_of_bases unheld-unpassed
