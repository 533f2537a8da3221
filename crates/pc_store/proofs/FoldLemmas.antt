-- A base in place of a history.
use Rattle.std.proofs.Common.{◌≡◌, ◌⊎◌, ◌∙◌, ℕ, ◌+◌, ◌-◌, ◌^◌, ◌<◌, ◌≤◌, false, List, [], length, Option, Some, refl, sym, ap, subst, arith, inl, inr, ⊎_elim}
use Rattle.pc_base.specs.declared.machine.Machine.{Ghosts}
use Rattle.pc_disk.specs.Images.{Images, area_of, other_of, with_area, InArea}
use Rattle.pc_disk.specs.ImageLaws.{area_of-with_area, other_of-with_area}
use Rattle.pc_disk.specs.Outcomes.{LeavesOnly, Only}
use Rattle.pc_disk.proofs.Runs.{weakened}
use Rattle.pc_log.specs.Area.{Head, IsHead, Spelled, fresh, is_made}
use Rattle.pc_log.specs.Logs.{LogState, Stands}
use Rattle.pc_log.specs.Making.{OldUnmadeOrNew}
use Rattle.pc_store.specs.History.{IsHistory, StandsFor, written_of}
use Rattle.pc_store.specs.Current.{HasNumbers, IsOlder, OpensIn}
use Rattle.pc_store.specs.Store.{Acknowledges, IsSound, OpensInDoubt, StoreState, next_number}
use Rattle.pc_store.specs.Store.MayOpen.{as_it_was, renewed}
use Rattle.pc_store.specs.Fold.{OpensOldOrNew, folded_head, next_head}
use Rattle.pc_store.proofs.CurrentLemmas.{of_two, stands_numbers}
use Rattle.pc_store.proofs.CommitLemmas.{history_legal}
use Rattle.pc_store.proofs.SameLemmas.{Lawful}

-- ---- two areas, seen from one and from the other

pub record Beside (index other : ℕ) : Type 0 where
  pub within : other < 2
  pub here : (images : Images) → area_of other images ≡ other_of index images
  pub there : (images : Images) → other_of other images ≡ area_of index images

pub beside : (index : ℕ) → index < 2 → Beside index (1 - index)
beside index less = of_two (λ (i : ℕ). Beside i (1 - i)) index less (record { within = omega arith; here = λ images. refl; there = λ images. refl }) (record { within = omega arith; here = λ images. refl; there = λ images. refl })

-- ---- a head with no entries

-- a new head may come behind an old one
pub record MayRenew {M E : Type 0} (machine : Ghosts M E) (old new : Head) (state : M) : Type 0 where
  pub right : IsHead new
  pub of_kind : new.kind ≡ machine.KIND
  pub later : old.generation < new.generation
  pub history : IsHistory machine new [] state

-- where it stands it counts
new_opens : {M E : Type 0} (machine : Ghosts M E) (index other : ℕ) (head : Head) (trail : List E) (new : Head) (state : M) (images : Images) → Beside index other → MayRenew machine head new state
    → StandsFor machine head trail (area_of index images) → area_of other images ≡ fresh new → OpensIn machine other new [] images
new_opens machine index other head trail new state images beside is stands made =
    let has = stands_numbers machine head trail (area_of index images) stands in
    let spelled : Spelled new [] (area_of other images) = record { gate = 0; rest = []; bytes = made; closed = λ e. omega (arith, e) } in
    record {
      within = beside.within;
      stands = record {
        state = state;
        history = is.history;
        area_of = record { of_kind = is.of_kind; right = is.right; trail = record { each = tt; count = omega arith; bytes = omega arith }; spelled = spelled };
      };
      older = inr (has.numbers, subst (λ (xs : List ℕ). HasNumbers machine.KIND xs has.numbers) (sym (beside.there images)) has.has, omega (arith, has.same, is.later));
    }

pub same_head : (kind kind' generation first : ℕ) (base base' : List ℕ) → kind ≡ kind' → base ≡ base' → (let head : Head = record { kind = kind; generation = generation; first = first; base = base } in head) ≡ record { kind = kind'; generation = generation; first = first; base = base' }
same_head kind kind' generation first base base' kinds bases =
    let of_kind = λ (k : ℕ). (let head : Head = record { kind = k; generation = generation; first = first; base = base } in head) in
    let of_base = λ (xs : List ℕ). (let head : Head = record { kind = kind'; generation = generation; first = first; base = xs } in head) in
    ap of_kind kinds ∙ ap of_base bases

-- while it is made, the old history counts, or the new one
pub renews : {M E : Type 0} (machine : Ghosts M E) (index other : ℕ) (head : Head) (trail : List E) (new : Head) (state : M) (seen : Images) → Beside index other → MayRenew machine head new state → OpensIn machine index head trail seen
    → (left : Images) → InArea other (OldUnmadeOrNew new) seen left → OpensIn machine index head trail left ⊎ OpensIn machine other new [] left
renews machine index other head trail new state seen beside is opens left step =
    let mine : area_of index left ≡ area_of index seen = sym (beside.there left) ∙ step.there ∙ beside.there seen in
    let stands = subst (λ (xs : List ℕ). StandsFor machine head trail xs) (sym mine) opens.stands in
    let old = λ (older : IsOlder machine.KIND head.generation (other_of index left)). (let is_old : OpensIn machine index head trail left = record { within = opens.within; stands = stands; older = older } in is_old) in
    ⊎_elim
    (⊎_elim (λ (same : area_of other left ≡ area_of other seen). inl (old (subst (λ (xs : List ℕ). IsOlder machine.KIND head.generation xs) (sym (sym (beside.here left) ∙ same ∙ beside.here seen)) opens.older)))
    (λ (unmade : is_made (area_of other left) ≡ false). inl (old (inl (ap is_made (sym (beside.here left)) ∙ unmade)))))
    (λ (made : area_of other left ≡ fresh new). inr (new_opens machine index other head trail new state left beside is stands made)) step.here

-- ---- stores

-- a store that isn't broken stands on its disk
pub store_opens : {M D E : Type 0} (machine : Ghosts M E) (tells : Type 0) (seen : D → Images) (may_leave : D → Images → Type 0) (store : StoreState M D E) (log : LogState) (bytes : ℕ)
    → IsSound machine tells seen may_leave store log bytes → store.broken ≡ false → tells → OpensIn machine store.area store.head store.trail (seen store.disk)
store_opens machine tells seen may_leave store log bytes sound whole told = record {
  within = sound.within;
  stands = record {
    state = sound.at;
    history = sound.history;
    area_of = record {
      of_kind = sound.of_kind;
      right = sound.right;
      trail = sound.trail;
      spelled = subst (λ (a : ℕ). Spelled store.head (written_of machine store.trail) (area_of a (seen store.disk))) sound.in_area (sound.stands told whole).reads.spelled;
    };
  };
  older = sound.older told whole;
}

-- the run that makes the head
pub renew_run : {M D E : Type 0} (machine : Ghosts M E) (tells : Type 0) (seen : D → Images) (may_leave : D → Images → Type 0) (moment : D → ℕ) (left_since : D → ℕ → Images → Type 0) (store : StoreState M D E) (log : LogState) (bytes : ℕ) (disk : D) (area : ℕ) (given head : Head) (state : M)
    → IsSound machine tells seen may_leave store log bytes → store.broken ≡ false → tells → area ≡ 1 - store.area → given ≡ head → MayRenew machine store.head head state
    → LeavesOnly moment left_since store.disk disk (InArea area (OldUnmadeOrNew given) (seen store.disk)) → LeavesOnly moment left_since store.disk disk (OpensOldOrNew machine store head)
renew_run machine tells seen may_leave moment left_since store log bytes disk area given head state sound whole told other same is run =
    let opens = store_opens machine tells seen may_leave store log bytes sound whole told in
    let there = subst (λ (a : ℕ). LeavesOnly moment left_since store.disk disk (InArea a (OldUnmadeOrNew given) (seen store.disk))) other run in
    let here = subst (λ (h : Head). LeavesOnly moment left_since store.disk disk (InArea (1 - store.area) (OldUnmadeOrNew h) (seen store.disk))) same there in
    weakened moment left_since store.disk disk (InArea (1 - store.area) (OldUnmadeOrNew head) (seen store.disk)) (OpensOldOrNew machine store head)
    (renews machine store.area (1 - store.area) store.head store.trail head state (seen store.disk) (beside store.area sound.within) is opens) here

-- after it fails a crash leaves the old history, or the head that is in doubt then
pub renew_leaves : {M D E : Type 0} (machine : Ghosts M E) (store : StoreState M D E) (head : Head) (left : Images) → OpensOldOrNew machine store head left → OpensInDoubt machine (record store { renewal = Some head }) left
renew_leaves machine store head left = ⊎_elim (λ old. as_it_was old) (λ new. renewed head refl new)

-- after it ends the head counts
pub renewed_opens : {M D E : Type 0} (machine : Ghosts M E) (tells : Type 0) (seen : D → Images) (may_leave : D → Images → Type 0) (store : StoreState M D E) (log : LogState) (bytes : ℕ) (disk : D) (area : ℕ) (given head : Head) (state : M)
    → IsSound machine tells seen may_leave store log bytes → store.broken ≡ false → area ≡ 1 - store.area → given ≡ head → MayRenew machine store.head head state
    → tells → seen disk ≡ with_area area (fresh given) (seen store.disk) → OpensIn machine (1 - store.area) head [] (seen disk)
renewed_opens machine tells seen may_leave store log bytes disk area given head state sound whole other same is told made =
    let index = store.area in
    let two = beside index sound.within in
    let now : seen disk ≡ with_area (1 - index) (fresh head) (seen store.disk) = made ∙ ap (λ (a : ℕ). with_area a (fresh given) (seen store.disk)) other ∙ ap (λ (h : Head). with_area (1 - index) (fresh h) (seen store.disk)) same in
    let new : area_of (1 - index) (seen disk) ≡ fresh head = ap (area_of (1 - index)) now ∙ area_of-with_area (1 - index) (fresh head) (seen store.disk) in
    let old : area_of index (seen disk) ≡ area_of index (seen store.disk) = sym (two.there (seen disk)) ∙ ap (other_of (1 - index)) now ∙ other_of-with_area (1 - index) (fresh head) (seen store.disk) ∙ two.there (seen store.disk) in
    let opens = store_opens machine tells seen may_leave store log bytes sound whole told in
    new_opens machine index (1 - index) store.head store.trail head state (seen disk) two is (subst (λ (xs : List ℕ). StandsFor machine store.head store.trail xs) (sym old) opens.stands) new

pub sound_renewed : {M D E : Type 0} (machine : Ghosts M E) (tells : Type 0) (seen : D → Images) (may_leave : D → Images → Type 0) (store : StoreState M D E) (log log' : LogState) (bytes : ℕ) (disk : D) (given head : Head) (trail : List E)
    → IsSound machine tells seen may_leave store log bytes → log'.area ≡ 1 - store.area → given ≡ head → trail ≡ [] → MayRenew machine store.head head store.state → store.broken ≡ false
    → (tells → Stands log' given [] (seen disk) (may_leave disk)) → (tells → Only (seen disk) (may_leave disk)) → (tells → OpensIn machine (1 - store.area) head [] (seen disk))
    → IsSound machine tells seen may_leave (record store { disk = disk; area = log'.area; head = head; trail = trail }) log' 0
sound_renewed {E = E} machine tells seen may_leave store log log' bytes disk given head trail sound other same none is whole stands settled opens =
    let one : IsSound machine tells seen may_leave (record store { disk = disk; area = 1 - store.area; head = head; trail = [] }) log' 0 = record {
      right = is.right;
      of_kind = is.of_kind;
      trail = record { each = tt; count = omega arith; bytes = omega arith };
      count = refl;
      in_area = other;
      within = (beside store.area sound.within).within;
      at = store.state;
      history = is.history;
      state = λ sure. refl;
      no_doubt = sound.no_doubt;
      no_renewal = sound.no_renewal;
      stands = λ told sure. subst (λ (h : Head). Stands log' h [] (seen disk) (may_leave disk)) same (stands told);
      settled = λ told sure. settled told;
      older = λ told sure. (opens told).older;
      leaves = λ told left may. as_it_was (subst (λ (images : Images). OpensIn machine (1 - store.area) head [] images) (sym (settled told left may)) (opens told));
    } in
    let two = subst (λ (es : List E). IsSound machine tells seen may_leave (record store { disk = disk; area = 1 - store.area; head = head; trail = es }) log' 0) (sym none) one in
    subst (λ (a : ℕ). IsSound machine tells seen may_leave (record store { disk = disk; area = a; head = head; trail = trail }) log' 0) (sym other) two

pub renewed_acknowledged : {M D E : Type 0} (machine : Ghosts M E) (seen : D → Images) (may_leave : D → Images → Type 0) (store : StoreState M D E) (disk : D) (head : Head) (trail : List E) (index : ℕ)
    → index ≡ 1 - store.area → trail ≡ [] → Only (seen disk) (may_leave disk) → OpensIn machine (1 - store.area) head [] (seen disk) → Acknowledges machine seen may_leave (record store { disk = disk; area = index; head = head; trail = trail })
renewed_acknowledged {E = E} machine seen may_leave store disk head trail index other none settled opens = record {
  settled = settled;
  opens = subst (λ (es : List E). OpensIn machine index head es (seen disk)) (sym none) (subst (λ (i : ℕ). OpensIn machine i head [] (seen disk)) (sym other) opens);
}

-- what is known where a new head is made: the store is whole, and the head may come
pub record Renews {M D E : Type 0} (machine : Ghosts M E) (store : StoreState M D E) (first : ℕ) (base : List ℕ) : Type 0 where
  pub whole : store.broken ≡ false
  pub may : MayRenew machine store.head (next_head machine store first base) store.state

pub may_renew : {M D E : Type 0} (machine : Ghosts M E) (tells : Type 0) (seen : D → Images) (may_leave : D → Images → Type 0) (store given : StoreState M D E) (log : LogState) (bytes first : ℕ) (base : List ℕ)
    → IsSound machine tells seen may_leave store log bytes → store ≡ given → given.broken ≡ false → store.head.generation + 1 < 2 ^ 63 → (1 ≤ first) × (first ≤ 2 ^ 63) → length base ≤ 1073741824
    → IsHistory machine (next_head machine given first base) [] given.state → Renews machine store first base
may_renew {M = M} {D = D} {E = E} machine tells seen may_leave store given log bytes first base sound same whole more number size history = record {
  whole = ap (λ (s : StoreState M D E). s.broken) same ∙ whole;
  may = record {
    right = record { kind = subst (λ (k : ℕ). (1 ≤ k) × (k ≤ 3)) sound.of_kind sound.right.kind; generation = (omega arith, more); first = number; base = size };
    of_kind = refl;
    later = omega arith;
    history = subst (λ (s : StoreState M D E). IsHistory machine (next_head machine s first base) [] s.state) (sym same) history;
  };
}

-- ---- the record of the state

-- the record of a store's state may stand in place of its history
pub record MayFold {M D E : Type 0} (machine : Ghosts M E) (store : StoreState M D E) : Type 0 where
  pub least : 1 ≤ next_number store
  pub most : next_number store ≤ 2 ^ 63
  pub size : length (machine.saved store.state) ≤ 1073741824
  pub history : IsHistory machine (folded_head machine store) [] store.state

pub may_fold : {M D E : Type 0} (machine : Ghosts M E) → Lawful machine → ((s : M) → machine.is_legal s → machine.is_canonical s) → ((s : M) → machine.is_legal s → length (machine.saved s) ≤ 1073741824)
    → (tells : Type 0) (seen : D → Images) (may_leave : D → Images → Type 0) (store given : StoreState M D E) (log : LogState) (bytes : ℕ) → IsSound machine tells seen may_leave store log bytes → store ≡ given → given.broken ≡ false → MayFold machine given
may_fold {M = M} {D = D} {E = E} machine laws canonical_of short tells seen may_leave store given log bytes sound same whole =
    let sure : store.broken ≡ false = ap (λ (s : StoreState M D E). s.broken) same ∙ whole in
    let history = subst (λ (s : M). IsHistory machine store.head store.trail s) (sym (sound.state sure)) sound.history in
    let at = history_legal machine laws store.head store.trail store.state history in
    let canonical = canonical_of store.state at.legal in
    let one = laws.one_record store.state store.state (next_number store) at.legal at.numbered canonical refl in
    let folds : MayFold machine store = record {
      least = omega (arith, sound.right.first);
      most = history.numbers;
      size = short store.state at.legal;
      history = record {
        base = store.state;
        is_base = record { canonical = canonical; saved = refl; suits = one.0 };
        allowed = tt;
        leads = sym one.1;
        numbers = omega (arith, history.numbers);
      };
    } in
    subst (λ (s : StoreState M D E). MayFold machine s) same folds
