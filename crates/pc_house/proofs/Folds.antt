-- A store that was folded, and the desk over it.
use Rattle.std.proofs.Common.{◌≡◌, List, [], sym, ap, subst, ◌∙◌}
use Rattle.pc_account_history.specs.declared.entry.Entry.{Entry}
use Rattle.pc_account_history.specs.Record.{AccountRecord}
use Rattle.pc_account_history.specs.History.{History, start, ◌▸▸◌, next}
use Rattle.pc_account_history.specs.Laws.{folded}
use Rattle.pc_account_history.specs.Step.{record_of}
use Rattle.pc_account_holdings.specs.State.{State, StandsFor}
use Rattle.pc_account_records.specs.Numbered.{numbered}
use Rattle.pc_account.specs.contracts.machine.AccountMachine.TheImpl.{ghosts as machine}
use Rattle.pc_log.specs.Area.{Head}
use Rattle.pc_store.specs.History.{after}
use Rattle.pc_store.specs.Store.{StoreState}
use Rattle.pc_session.specs.Desk.{DeskState}
use Rattle.pc_session.specs.InPlace.{AnswersAsOver, over}
use Rattle.pc_session.specs.Laws.{RecordAnswersSessions}
use Rattle.pc_house.specs.Base.{BaseOf, IsSavedAs, base_is}
use Rattle.pc_house.specs.Desk.{history_of}
use Rattle.pc_house.specs.Folded.{FoldedHasRecord, HasRecordOf, Replayed}
use Rattle.pc_house.proofs.Rooms.{next_is}
use Rattle.pc_house.proofs.Standing.{replay_saved, replay_stands}

module _ {D : Type 0} where
  -- the state that was replayed stands for the history over the record that the base is
  stands_over : (store : StoreState State D Entry) (base : AccountRecord) → IsSavedAs store.head.base base → Replayed store → StandsFor store.state (history_of base store)
  stands_over store base saved replay =
      let found : BaseOf store.head.base = record { base = base; is_saved = ∣ saved ∣₁ } in
      subst (λ (r : AccountRecord). StandsFor store.state (history_of r store)) (base_is store.head.base found base saved) (replay_stands store found replay)

  -- where there are no entries, the state holds the record of the base
  held_at_first : (store : StoreState State D Entry) (replay : Replayed store) → store.trail ≡ [] → store.state.held ≡ replay.history.base.held
  held_at_first store replay none = ap (λ (s : State). s.held) (replay.history.leads ∙ ap (after machine (numbered replay.history.base store.head.first)) none)

  pub folded_has_record : FoldedHasRecord D
  folded_has_record old new base saved replay leaves again =
      let stood = stands_over old base saved replay in
      let state = ap (λ (s : StoreState State D Entry). s.state.held) leaves in
      let trail = ap (λ (s : StoreState State D Entry). s.trail) leaves in
      let first = ap (λ (s : StoreState State D Entry). s.head.first) leaves in
      let held = sym (held_at_first new again trail) ∙ state ∙ sym stood.held in
      record {
        legal = stood.legal;
        base = subst (IsSavedAs new.head.base) held (replay_saved new again);
        first = first ∙ sym (next_is base old);
      }

  -- the history of a store whose base is the record of a history
  pub history_over : (store : StoreState State D Entry) (base : AccountRecord) (h : History) → base ≡ record_of h → store.head.first ≡ next h → history_of base store ≡ (folded h ▸▸ store.trail)
  history_over store base h is first = λ i. start (is i) (first i) ▸▸ store.trail

-- a desk over such a history answers as over the history itself
pub answers_over : RecordAnswersSessions → (h : History) → (head : Head) → HasRecordOf h head → (trail : List Entry) (d : DeskState) → d.history ≡ (folded h ▸▸ trail) → AnswersAsOver (h ▸▸ trail) d
answers_over law h head has trail d is = subst (λ (g : History). AnswersAsOver (h ▸▸ trail) (over g d)) (sym is) (law h has.legal trail d)
