-- What was read stands, and what stands is what was read.
use Rattle.std.proofs.Common.{◌≡◌, ℕ, ◌-◌, ◌<◌, false, List, [], ◌∷◌, ◌++◌, length, Option, None, Some, Result, Ok, Err, refl, sym, ap, ◌∙◌, subst}
use Rattle.std.specs.Prelude.{IfOk, IfErr}
use Rattle.pc_base.specs.declared.machine.Machine.{Ghosts}
use Rattle.pc_disk.specs.Images.{Images, area_of, other_of}
use Rattle.pc_disk.specs.Outcomes.{Keeps}
use Rattle.pc_log.specs.Area.{Head, front}
use Rattle.pc_log.specs.Logs.{LogState, IsLogOf, Stands}
use Rattle.pc_base.specs.declared.store_fault.StoreFault.{StoreFault}
use Rattle.pc_base.specs.declared.store_fault.StoreFault.TheVariants.{NotMade, Device, Malformed, Memory}
use Rattle.pc_store.specs.declared.reading.History.{History}
use Rattle.pc_store.specs.History.{IsHistory, IsReplay, StandsFor, after, written_of}
use Rattle.pc_store.specs.Current.{IsOlder, OpensIn}
use Rattle.pc_store.specs.Opening.{FirstFault, FirstFaultIn, IsFaultOf, IsOutside}
use Rattle.pc_store.specs.Opening.FirstFaultIn.{in_none, in_current}
use Rattle.pc_store.specs.Reading.{FindsHistory, HoldsCurrent, HoldsSettled, head_of_history}
use Rattle.pc_store.specs.Store.{Acknowledges, IsSound, MayOpen, OpensInDoubt, SameHistory, StoreState}
use Rattle.pc_store.specs.Store.MayOpen.{as_it_was, with_entry, renewed}
use Rattle.pc_store.specs.Store.SameHistory.{as_it_was as is_as_it_was, with_entry as has_entry, renewed as is_renewed}
use Rattle.pc_store.proofs.SameLemmas.{Lawful, no_first_fault, one_base, same_history}
use Rattle.pc_store.proofs.CurrentLemmas.{made_beside, none_beside, one_current, opens_current}

-- images that hold a history have no fault
pub no_fault_in : {M E : Type 0} (machine : Ghosts M E) → Lawful machine → (index : ℕ) (head : Head) (trail : List E) (images : Images) (index' place : ℕ) → OpensIn machine index head trail images → FirstFaultIn machine images index' place → ⊥
no_fault_in machine laws index head trail images index' place opens (in_none none) = none_beside machine.KIND index images index' place (opens_current machine index head trail images opens) none
no_fault_in machine laws index head trail images index' place opens (in_current current fault) =
    let here : index' ≡ index = one_current machine.KIND index' index images current (opens_current machine index head trail images opens) in
    no_first_fault machine laws head trail (area_of index images) place opens.stands (subst (λ (i : ℕ). FirstFault machine (area_of i images) place) here fault)

pub held_opens : {M E : Type 0} (machine : Ghosts M E) (tells : Type 0) (images : Images) (history : History M E)
    → tells → HoldsCurrent machine tells images history → OpensIn machine history.log.area (head_of_history machine history) history.trail.items images
held_opens machine tells images history told held = record {
  within = held.within;
  stands = record {
    state = history.state;
    history = held.holds.history_is;
    area_of = record { of_kind = refl; right = held.holds.right; trail = held.holds.trail; spelled = held.holds.spelled told };
  };
  older = held.older told;
}

-- what stands is found
pub finds_history : {M E : Type 0} (machine : Ghosts M E) → Lawful machine → (tells : Type 0) (images : Images) (result : Result (History M E) StoreFault) → tells
    → IfOk result (HoldsCurrent machine tells images) → IfErr result (IsFaultOf machine images)
    → (index : ℕ) (head : Head) (trail : List E) → OpensIn machine index head trail images → FindsHistory machine index head trail result
finds_history machine laws tells images (Ok history) told holds bad index head trail opens =
    let held = held_opens machine tells images history told holds in
    let here : history.log.area ≡ index =
    one_current machine.KIND history.log.area index images (opens_current machine history.log.area (head_of_history machine history) history.trail.items images held) (opens_current machine index head trail images opens) in
    let stands = subst (λ (i : ℕ). StandsFor machine (head_of_history machine history) history.trail.items (area_of i images)) here held.stands in
    let same = same_history machine laws (area_of index images) (head_of_history machine history) head history.trail.items trail stands opens.stands in
    (here, same.heads, same.trails)
finds_history machine laws tells images (Err NotMade) told holds bad index head trail opens = absurd (made_beside machine.KIND index images (opens_current machine index head trail images opens) bad)
finds_history machine laws tells images (Err Device) told holds bad index head trail opens = tt
finds_history machine laws tells images (Err (Malformed place_area place)) told holds bad index head trail opens = no_fault_in machine laws index head trail images place_area place opens bad
finds_history machine laws tells images (Err Memory) told holds bad index head trail opens = tt

-- a history leads to one state
pub one_state : {M E : Type 0} (machine : Ghosts M E) → Lawful machine → (head : Head) (trail : List E) (state other : M) → IsHistory machine head trail state → IsHistory machine head trail other → other ≡ state
one_state machine laws head trail state other history history' =
    let one = one_base machine laws head history.base history'.base history.is_base history'.is_base.canonical history'.is_base.saved in
    history'.leads ∙ ap (λ (s : _). after machine s trail) one.1 ∙ sym history.leads

pub replayed : {M E : Type 0} (machine : Ghosts M E) → Lawful machine → (head : Head) (trail : List E) (state at : M) → state ≡ at → IsHistory machine head trail at → IsReplay machine head trail state
replayed machine laws head trail state at is history =
    let here = subst (λ (s : _). IsHistory machine head trail s) (sym is) history in
    record { history = here; only = λ other other_is. one_state machine laws head trail state other here other_is }

pub replays : {M E : Type 0} (machine : Ghosts M E) → Lawful machine → (tells : Type 0) (images : Images) (result : Result (History M E) StoreFault) → IfOk result (HoldsCurrent machine tells images)
    → IfOk result (λ history. IsReplay machine (head_of_history machine history) history.trail.items history.state)
replays machine laws tells images (Ok history) holds = replayed machine laws (head_of_history machine history) history.trail.items history.state history.state refl holds.holds.history_is
replays machine laws tells images (Err fault) holds = tt

-- ---- the store of what was read

abbrev pub store_of : {M D E : Type 0} → Ghosts M E → D → History M E → StoreState M D E
store_of machine disk history = record { disk = disk; area = history.log.area; head = head_of_history machine history; trail = history.trail.items; state = history.state; broken = false; doubt = None; renewal = None }

held_log : {M D E : Type 0} (machine : Ghosts M E) (tells : Type 0) (seen : D → Images) (may_leave : D → Images → Type 0) (disk : D) (history : History M E)
    → tells → HoldsSettled machine tells seen may_leave disk history → Stands history.log (head_of_history machine history) (written_of machine history.trail.items) (seen disk) (may_leave disk)
held_log machine tells seen may_leave disk history told held =
    let head = head_of_history machine history in
    let entries = written_of machine history.trail.items in
    let here : IsLogOf history.log head entries (seen disk) = record { spelled = held.holds.holds.spelled told; gate = held.holds.holds.gate } in
    record { reads = here; leaves = λ left may. subst (λ (images : Images). IsLogOf history.log head entries images) (sym (held.settled told left may)) here }

pub held_sound : {M D E : Type 0} (machine : Ghosts M E) (tells : Type 0) (seen : D → Images) (may_leave : D → Images → Type 0) (disk : D) (history : History M E)
    → HoldsSettled machine tells seen may_leave disk history → IsSound machine tells seen may_leave (store_of machine disk history) history.log history.bytes
held_sound machine tells seen may_leave disk history held = record {
  right = held.holds.holds.right;
  of_kind = refl;
  trail = held.holds.holds.trail;
  count = held.holds.holds.bytes;
  in_area = refl;
  within = held.holds.within;
  at = history.state;
  history = held.holds.holds.history_is;
  state = λ whole. refl;
  no_doubt = λ whole. refl;
  no_renewal = λ whole. refl;
  stands = λ told whole. held_log machine tells seen may_leave disk history told held;
  settled = λ told whole. held.settled told;
  older = λ told whole. held.holds.older told;
  leaves = λ told left may. as_it_was (subst (λ (images : Images). OpensIn machine history.log.area (head_of_history machine history) history.trail.items images) (sym (held.settled told left may))
      (held_opens machine tells (seen disk) history told held.holds));
}

pub held_acknowledged : {M D E : Type 0} (machine : Ghosts M E) (tells : Type 0) (seen : D → Images) (may_leave : D → Images → Type 0) (disk : D) (history : History M E)
    → tells → HoldsSettled machine tells seen may_leave disk history → Acknowledges machine seen may_leave (store_of machine disk history)
held_acknowledged machine tells seen may_leave disk history told held = record { settled = held.settled told; opens = held_opens machine tells (seen disk) history told held.holds }

-- a store over a disk that reads as before, and of which a crash leaves no more
pub sound_still : {M D E : Type 0} (machine : Ghosts M E) (tells : Type 0) (seen : D → Images) (may_leave : D → Images → Type 0) (store : StoreState M D E) (now : D) (log : LogState) (bytes : ℕ)
    → (tells → seen now ≡ seen store.disk) → (tells → Keeps (may_leave store.disk) (may_leave now)) → IsSound machine tells seen may_leave store log bytes → IsSound machine tells seen may_leave (record store { disk = now }) log bytes
sound_still machine tells seen may_leave store now log bytes same keeps sound = record {
  right = sound.right;
  of_kind = sound.of_kind;
  trail = sound.trail;
  count = sound.count;
  in_area = sound.in_area;
  within = sound.within;
  at = sound.at;
  history = sound.history;
  state = sound.state;
  no_doubt = sound.no_doubt;
  no_renewal = sound.no_renewal;
  stands = λ told whole.
      let was = sound.stands told whole in
      record {
        reads = subst (λ (images : Images). IsLogOf log store.head (written_of machine store.trail) images) (sym (same told)) was.reads;
        leaves = λ left may. was.leaves left (keeps told left may);
      };
  settled = λ told whole left may. sound.settled told whole left (keeps told left may) ∙ sym (same told);
  older = λ told whole. subst (λ (images : Images). IsOlder machine.KIND store.head.generation (other_of store.area images)) (sym (same told)) (sound.older told whole);
  leaves = λ told left may. sound.leaves told left (keeps told left may);
}

-- ---- a store that is opened again

pub same_again : {M D E : Type 0} (machine : Ghosts M E) (old new : StoreState M D E) (images : Images)
    → ((index : ℕ) (head : Head) (trail : List E) → OpensIn machine index head trail images → (new.area ≡ index) × (new.head ≡ head) × (new.trail ≡ trail))
    → OpensInDoubt machine old images → SameHistory old new
same_again machine old new images finds (as_it_was opens) = let found = finds old.area old.head old.trail opens in is_as_it_was found.0 found.1 found.2
same_again machine old new images finds (with_entry entry doubted opens) = let found = finds old.area old.head (old.trail ++ entry ∷ []) opens in has_entry entry doubted found.0 found.1 found.2
same_again machine old new images finds (renewed head doubted opens) = let found = finds (1 - old.area) head [] opens in is_renewed head doubted found.0 found.1 found.2

pub outside_again : {M E : Type 0} (machine : Ghosts M E) (area : ℕ) (head : Head) (trail : List E) (doubt : Option E) (renewal : Option Head) (images : Images) (fault : StoreFault)
    → ((index : ℕ) (head : Head) (trail : List E) → OpensIn machine index head trail images → IsOutside fault) → MayOpen machine area head trail doubt renewal images → IsOutside fault
outside_again machine area head trail doubt renewal images fault finds (as_it_was opens) = finds area head trail opens
outside_again machine area head trail doubt renewal images fault finds (with_entry entry doubted opens) = finds area head (trail ++ entry ∷ []) opens
outside_again machine area head trail doubt renewal images fault finds (renewed other doubted opens) = finds (1 - area) other [] opens
