-- The limit that an entry is told is the first of all that is passed.
use Rattle.std.proofs.Common.{◌≡◌, Bool, false, filter, find, refl, ◌∙◌, ap}
use Rattle.std.specs.List.{AllByRecursion as Every, list_any}
use Rattle.pc_base.specs.declared.refusal.LimitWord.{LimitWord}
use Rattle.pc_base.specs.declared.refusal.LimitWord.TheVariants as limit
use Rattle.pc_base.specs.Refusal.{limit_word}
use Rattle.pc_tables.specs.Table.{same}
use Rattle.pc_tables.proofs.Lists.{Every-unlisted, find-filter}
use Rattle.pc_tables.proofs.Table.{same-refl}
use Rattle.pc_office_history.specs.declared.entry.OfficeEntry.{OfficeEntry}
use Rattle.pc_office_history.specs.declared.entry.OfficeEntry.TheVariants.{AddUser, AddBoard, TakeAddress, DropAddress, Accept, Pulled}
use Rattle.pc_office_history.specs.Known.{Known}
use Rattle.pc_office_history.specs.Limits.{would_pass, limits_of, limits_in_order, IsWithin, limits_of_bases}
use Rattle.pc_office_history.specs.Laws.{TellsFirstLimit}
use Rattle.pc_office_history.proofs.Within.{KnowsNames, MakesNew, users-within, boards-within, addresses-within, waiting-within, board-within}

-- the entry is held to this limit
abbrev is_held : OfficeEntry → LimitWord → Bool
is_held e word = list_any (λ held. same (limit_word held) (limit_word word)) (limits_of e)

-- an entry is held to its limits in the order of all limits
held-in-order : (e : OfficeEntry) → limits_of e ≡ filter (is_held e) limits_in_order
held-in-order (AddUser user) = refl
held-in-order (AddBoard board) = refl
held-in-order (TakeAddress address user mailbox) = refl
held-in-order (DropAddress address) = refl
held-in-order (Accept names message) = refl
held-in-order (Pulled user number) = refl

-- the number of recipients is that of a mail alone
recipients-within : (k : Known) (e : OfficeEntry) → Every (λ held. held ≡ limit.Recipients → would_pass k e limit.Recipients ≡ false) (limits_of e) → would_pass k e limit.Recipients ≡ false
recipients-within k (Accept names message) held = held.0 refl
recipients-within k (AddUser user) held = refl
recipients-within k _ held = refl

module _ (k : Known) (knows : KnowsNames k) (e : OfficeEntry) (new : MakesNew k e) (within : IsWithin k limits_of_bases) where
  unheld : (word : LimitWord) → is_held e word ≡ false → Every (λ held. held ≡ word → would_pass k e word ≡ false) (limits_of e)
  unheld word h = Every-unlisted (λ one other. same (limit_word one) (limit_word other)) word (would_pass k e word ≡ false) (same-refl (limit_word word)) (limits_of e) h

  -- an entry passes no limit that it isn't held to
  unheld-unpassed : (word : LimitWord) → is_held e word ≡ false → would_pass k e word ≡ false
  unheld-unpassed limit.Users h = users-within k knows e (unheld limit.Users h) within.0
  unheld-unpassed limit.Boards h = boards-within k knows e (unheld limit.Boards h) within.1.0
  unheld-unpassed limit.Addresses h = addresses-within k knows e (unheld limit.Addresses h) within.1.1.0
  unheld-unpassed limit.Recipients h = recipients-within k e (unheld limit.Recipients h)
  unheld-unpassed limit.Waiting h = waiting-within k knows e new (unheld limit.Waiting h) within.1.1.1.0
  unheld-unpassed limit.Board h = board-within k knows e new (unheld limit.Board h) within.1.1.1.1.0
  unheld-unpassed limit.Sessions h = refl
  unheld-unpassed _ h = refl

  pub first-told : TellsFirstLimit k e
  first-told = ap (find (would_pass k e)) (held-in-order e) ∙ find-filter (would_pass k e) (is_held e) limits_in_order unheld-unpassed
