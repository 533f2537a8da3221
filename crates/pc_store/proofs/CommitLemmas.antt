-- A store with one entry more, or with one that may have come.
use Rattle.std.proofs.Common.{◌≡◌, ◌⊎◌, ℕ, ◌+◌, ◌^◌, ◌<◌, ◌≤◌, nat_le, nat_lt, if◌then◌else◌, Bool, true, false, List, [], ◌∷◌, ◌++◌, length, Option, None, Some, Ok, refl, sym, ap, ◌∙◌, subst, arith, inl, inr, ⊎_elim, length-append}
use Rattle.std.proofs.lemmas.Bool.Decides.{nat_tests}
use Rattle.std.proofs.lemmas.Bool.{cases_lt, le-leb, lt-leb, le-ltb, lt-ltb, cond-true, cond-false}
use Rattle.pc_base.specs.declared.machine.Machine.{Ghosts}
use Rattle.std.specs.Bool.{then_some}
use Rattle.pc_base.specs.Machine.{IsNumbered}
use Rattle.pc_disk.specs.Images.{Images, area_of, other_of, InArea}
use Rattle.pc_disk.specs.Outcomes.{IsStill, Keeps, LeavesFirst, LeavesOnly, Only, SameDue}
use Rattle.pc_disk.specs.StepFaults.{LeadsOn}
use Rattle.pc_disk.proofs.Runs.{started, stays, followed, weakened, first_weakened}
use Rattle.pc_log.specs.Area.{Head, IsEntry, IsHead, IsTrail, Spelled, bytes_of}
use Rattle.pc_log.specs.Logs.{LogState, Stands, Without, WithOrWithout, stands-still}
use Rattle.pc_store.specs.History.{AreAllowed, IsHistory, IsReplay, StandsFor, after, written_of}
use Rattle.pc_store.specs.Current.{IsOlder, OpensIn}
use Rattle.pc_store.specs.Store.{Acknowledges, IsSound, OpensInDoubt, StoreState, next_number, trail_bytes}
use Rattle.pc_store.specs.Store.MayOpen.{as_it_was, with_entry, renewed}
use Rattle.pc_store.specs.Commit.{CommitLeaves, StandsWithOrWithout, StandsWithout, doubt_after, is_full}
use Rattle.pc_store.proofs.EntriesLemmas.{within}
use Rattle.pc_store.proofs.HistoryLemmas.{after-push, AreAllowed-push, written_of-push, all-push, bytes_of-push}
use Rattle.pc_store.proofs.SameLemmas.{Lawful}
use Rattle.pc_store.proofs.OpenedLemmas.{replayed}

-- ---- states

-- a legal state, whose next entry gets this number
pub record LegalAt {M E : Type 0} (machine : Ghosts M E) (state : M) (number : ℕ) : Type 0 where
  pub legal : machine.is_legal state
  pub numbered : IsNumbered (machine.next state) number

after_legal : {M E : Type 0} (machine : Ghosts M E) → Lawful machine → (state : M) (number : ℕ) (trail : List E) → LegalAt machine state number → number + length trail ≤ 2 ^ 63
    → AreAllowed machine state trail → LegalAt machine (after machine state trail) (number + length trail)
after_legal machine laws state number [] at most allowed = let e : number ≡ number + 0 = omega arith in subst (λ (n : ℕ). LegalAt machine state n) e at
after_legal machine laws state number (entry ∷ trail) at most allowed =
    let less : number < 2 ^ 63 = omega arith in
    let next : LegalAt machine (machine.step state entry) (number + 1) = record {
      legal = laws.keeps state entry at.legal allowed.0 (within (machine.next state) number at.numbered less);
      numbered = laws.counts state entry number at.legal allowed.0 at.numbered;
    } in
    let e : number + 1 + length trail ≡ number + length (entry ∷ trail) = omega arith in
    subst (λ (n : ℕ). LegalAt machine (after machine (machine.step state entry) trail) n) e (after_legal machine laws (machine.step state entry) (number + 1) trail next (omega arith) allowed.1)

-- a history leads to a legal state
pub history_legal : {M E : Type 0} (machine : Ghosts M E) → Lawful machine → (head : Head) (trail : List E) (state : M) → IsHistory machine head trail state → LegalAt machine state (head.first + length trail)
history_legal machine laws head trail state history =
    let base = machine.numbered history.base head.first in
    let begun : LegalAt machine base head.first = record {
      legal = laws.begins history.base head.first history.is_base.canonical history.is_base.suits;
      numbered = laws.numbered history.base head.first;
    } in
    subst (λ (s : _). LegalAt machine s (head.first + length trail)) (sym history.leads) (after_legal machine laws base head.first trail begun history.numbers history.allowed)

-- the state of a store that isn't broken is legal
pub legal_now : {M D E : Type 0} (machine : Ghosts M E) → Lawful machine → (tells : Type 0) (seen : D → Images) (may_leave : D → Images → Type 0) (store given : StoreState M D E) (log : LogState) (bytes : ℕ)
    → IsSound machine tells seen may_leave store log bytes → store ≡ given → given.broken ≡ false → machine.is_legal given.state
legal_now {M = M} {D = D} {E = E} machine laws tells seen may_leave store given log bytes sound same whole =
    let sure : store.broken ≡ false = ap (λ (s : StoreState M D E). s.broken) same ∙ whole in
    let history = subst (λ (s : M). IsHistory machine store.head store.trail s) (sym (sound.state sure)) sound.history in
    let legal = (history_legal machine laws store.head store.trail store.state history).legal in
    subst (λ (s : StoreState M D E). machine.is_legal s.state) same legal

-- ---- one entry more

pub pushed : {E : Type 0} (old mid new : List E) (entry : E) → mid ≡ old → new ≡ mid ++ entry ∷ [] → new ≡ old ++ entry ∷ []
pushed {E = E} old mid new entry same is = is ∙ ap (λ (es : List E). es ++ entry ∷ []) same

pub history_more : {M E : Type 0} (machine : Ghosts M E) (head : Head) (trail : List E) (state : M) (entry : E) → IsHistory machine head trail state → machine.can state entry ≡ true → head.first + length trail < 2 ^ 63
    → IsHistory machine head (trail ++ entry ∷ []) (machine.step state entry)
history_more machine head trail state entry history allowed less =
    let base = machine.numbered history.base head.first in
    record {
      base = history.base;
      is_base = history.is_base;
      allowed = AreAllowed-push machine base trail entry history.allowed (ap (λ (s : _). machine.can s entry) (sym history.leads) ∙ allowed);
      leads = ap (λ (s : _). machine.step s entry) history.leads ∙ sym (after-push machine base trail entry);
      numbers = simp length-append (omega arith);
    }

trail_more : {M E : Type 0} (machine : Ghosts M E) (trail : List E) (entry : E) → IsTrail (written_of machine trail) → IsEntry (machine.written entry) → length trail < 65536 → trail_bytes machine trail + length (machine.written entry) ≤ 16777216
    → IsTrail (written_of machine (trail ++ entry ∷ []))
trail_more machine trail entry is size count bytes =
    let pushed = written_of-push machine trail entry in
    let more : IsTrail (written_of machine trail ++ machine.written entry ∷ []) = record {
      each = all-push IsEntry (written_of machine trail) (machine.written entry) is.each size;
      count = simp length-append (omega (arith, length-written machine trail));
      bytes = omega (arith, bytes_of-push (written_of machine trail) (machine.written entry));
    } in
    subst IsTrail (sym pushed) more
  where
    length-written : {M E : Type 0} (machine : Ghosts M E) (trail : List E) → length (written_of machine trail) ≡ length trail
    length-written machine [] = refl
    length-written machine (entry ∷ trail) = omega (arith, length-written machine trail)

-- the store has room for an entry of so many bytes
pub record HasRoom {M D E : Type 0} (machine : Ghosts M E) (store : StoreState M D E) (count : ℕ) : Type 0 where
  pub entries : length store.trail < 65536
  pub bytes : trail_bytes machine store.trail + count ≤ 16777216
  pub number : next_number store < 2 ^ 63

pub room_from : {M D E : Type 0} (machine : Ghosts M E) (store : StoreState M D E) (count : ℕ) → is_full machine store count ≡ false → HasRoom machine store count
room_from machine store count not_full = record { entries = grind (arith, nat_tests); bytes = grind (arith, nat_tests); number = grind (arith, nat_tests) }

-- an entry may follow a history
pub record MayFollow {M E : Type 0} (machine : Ghosts M E) (head : Head) (trail : List E) (state : M) (entry : E) : Type 0 where
  pub right : IsHead head
  pub of_kind : head.kind ≡ machine.KIND
  pub without : IsTrail (written_of machine trail)
  pub whole : IsTrail (written_of machine (trail ++ entry ∷ []))
  pub history : IsHistory machine head trail state
  pub more : IsHistory machine head (trail ++ entry ∷ []) (machine.step state entry)

pub may_follow : {M D E : Type 0} (machine : Ghosts M E) (tells : Type 0) (seen : D → Images) (may_leave : D → Images → Type 0) (store : StoreState M D E) (log : LogState) (bytes : ℕ) (entry : E)
    → IsSound machine tells seen may_leave store log bytes → store.broken ≡ false → machine.can store.state entry ≡ true → IsEntry (machine.written entry) → HasRoom machine store (length (machine.written entry))
    → MayFollow machine store.head store.trail store.state entry
may_follow machine tells seen may_leave store log bytes entry sound whole allowed size room =
    let history = subst (λ (s : _). IsHistory machine store.head store.trail s) (sym (sound.state whole)) sound.history in
    record {
      right = sound.right;
      of_kind = sound.of_kind;
      without = sound.trail;
      whole = trail_more machine store.trail entry sound.trail size room.entries room.bytes;
      history = history;
      more = history_more machine store.head store.trail store.state entry history allowed room.number;
    }

-- what is known where an entry is made: the store is whole, and the entry may follow
pub record Enters {M D E : Type 0} (machine : Ghosts M E) (store : StoreState M D E) (entry : E) : Type 0 where
  pub whole : store.broken ≡ false
  pub room : next_number store < 2 ^ 63
  pub follow : MayFollow machine store.head store.trail store.state entry

pub enters : {M D E : Type 0} (machine : Ghosts M E) (tells : Type 0) (seen : D → Images) (may_leave : D → Images → Type 0) (store given : StoreState M D E) (log : LogState) (bytes : ℕ) (entry : E) (written : List ℕ)
    → IsSound machine tells seen may_leave store log bytes → store ≡ given → machine.can given.state entry ≡ true → given.broken ≡ false → written ≡ machine.written entry → IsEntry written → is_full machine given (length written) ≡ false
    → Enters machine store entry
enters {M = M} {D = D} {E = E} machine tells seen may_leave store given log bytes entry written sound same allowed whole is size not_full =
    let sure : store.broken ≡ false = ap (λ (s : StoreState M D E). s.broken) same ∙ whole in
    let can : machine.can store.state entry ≡ true = ap (λ (s : StoreState M D E). machine.can s.state entry) same ∙ allowed in
    let fits : is_full machine store (length (machine.written entry)) ≡ false = ap (λ (s : StoreState M D E). is_full machine s (length (machine.written entry))) same ∙ ap (λ (b : List ℕ). is_full machine given (length b)) (sym is) ∙ not_full in
    let room = room_from machine store (length (machine.written entry)) fits in
    record {
      whole = sure;
      room = room.number;
      follow = may_follow machine tells seen may_leave store log bytes entry sound sure can (subst IsEntry is size) room;
    }

-- ---- what a crash leaves

stands_without : {M E : Type 0} (machine : Ghosts M E) (head : Head) (trail : List E) (state : M) (entry : E) (area : List ℕ) → MayFollow machine head trail state entry → Spelled head (written_of machine trail) area → StandsFor machine head trail area
stands_without machine head trail state entry area follow spelled = record {
  state = state;
  history = follow.history;
  area_of = record { of_kind = follow.of_kind; right = follow.right; trail = follow.without; spelled = spelled };
}

opens_whole : {M E : Type 0} (machine : Ghosts M E) (head : Head) (trail : List E) (state : M) (entry : E) (area : List ℕ) → MayFollow machine head trail state entry → Spelled head (written_of machine (trail ++ entry ∷ [])) area → StandsFor machine head (trail ++ entry ∷ []) area
opens_whole machine head trail state entry area follow spelled = record {
  state = machine.step state entry;
  history = follow.more;
  area_of = record { of_kind = follow.of_kind; right = follow.right; trail = follow.whole; spelled = spelled };
}

stands_with : {M E : Type 0} (machine : Ghosts M E) (head : Head) (trail : List E) (state : M) (entry : E) (area : List ℕ) → MayFollow machine head trail state entry → Spelled head (written_of machine trail ++ machine.written entry ∷ []) area → StandsFor machine head (trail ++ entry ∷ []) area
stands_with machine head trail state entry area follow spelled =
    opens_whole machine head trail state entry area follow (subst (λ (es : List (List ℕ)). Spelled head es area) (sym (written_of-push machine trail entry)) spelled)

pub leads_without : {M E : Type 0} (machine : Ghosts M E) (head : Head) (trail : List E) (state : M) (entry : E) (area index : ℕ) (may may' : Images → Type 0) → MayFollow machine head trail state entry → area ≡ index → Keeps may may'
    → (left : Images) → LeadsOn (InArea area (Without head (written_of machine trail))) may' left → LeadsOn (InArea index (StandsWithout machine head trail)) may left
leads_without machine head trail state entry area index may may' follow first keeps left leads =
    let step = subst (λ (a : ℕ). InArea a (Without head (written_of machine trail)) leads.0 left) first leads.2 in
    (leads.0, keeps leads.0 leads.1, record { here = stands_without machine head trail state entry (area_of index left) follow step.here; there = step.there })

pub leads_either : {M E : Type 0} (machine : Ghosts M E) (head : Head) (trail : List E) (state : M) (entry : E) (area index : ℕ) (bytes : List ℕ) (may may' : Images → Type 0) → MayFollow machine head trail state entry → area ≡ index → bytes ≡ machine.written entry → Keeps may may'
    → (left : Images) → LeadsOn (InArea area (WithOrWithout head (written_of machine trail) bytes)) may' left → LeadsOn (InArea index (StandsWithOrWithout machine head trail entry)) may left
leads_either machine head trail state entry area index bytes may may' follow first is keeps left leads =
    let step = subst (λ (a : ℕ). InArea a (WithOrWithout head (written_of machine trail) bytes) leads.0 left) first leads.2 in
    let here = ⊎_elim (λ without. inl (stands_without machine head trail state entry (area_of index left) follow without))
    (λ whole. inr (stands_with machine head trail state entry (area_of index left) follow (subst (λ (b : List ℕ). Spelled head (written_of machine trail ++ b ∷ []) (area_of index left)) is whole))) step.here in
    (leads.0, keeps leads.0 leads.1, record { here = here; there = step.there })

nothing_is_some : {X : Type 0} (x : X) → (let nothing : Option X = None in nothing) ≡ Some x → ⊥
nothing_is_some x e = cc

-- with nothing in doubt a crash leaves the history
pub opens_undoubted : {M D E : Type 0} (machine : Ghosts M E) (store : StoreState M D E) (left : Images) → store.doubt ≡ None → store.renewal ≡ None → OpensInDoubt machine store left → OpensIn machine store.area store.head store.trail left
opens_undoubted machine store left none no_head (as_it_was opens) = opens
opens_undoubted machine store left none no_head (with_entry entry doubted opens) = absurd (nothing_is_some entry (sym none ∙ doubted))
opens_undoubted machine store left none no_head (renewed head doubted opens) = absurd (nothing_is_some head (sym no_head ∙ doubted))

-- before the first call a crash leaves the history
pub rests_without : {M D E : Type 0} (machine : Ghosts M E) (tells : Type 0) (seen : D → Images) (may_leave : D → Images → Type 0) (store : StoreState M D E) (log : LogState) (bytes : ℕ)
    → IsSound machine tells seen may_leave store log bytes → store.broken ≡ false → tells → (left : Images) → may_leave store.disk left → LeadsOn (InArea store.area (StandsWithout machine store.head store.trail)) (may_leave store.disk) left
rests_without machine tells seen may_leave store log bytes sound whole told left may =
    (left, may, record { here = (opens_undoubted machine store left (sound.no_doubt whole) (sound.no_renewal whole) (sound.leaves told left may)).stands; there = refl })

pub rests_either : {M D E : Type 0} (machine : Ghosts M E) (tells : Type 0) (seen : D → Images) (may_leave : D → Images → Type 0) (store : StoreState M D E) (log : LogState) (bytes : ℕ) (entry : E)
    → IsSound machine tells seen may_leave store log bytes → store.broken ≡ false → tells → (left : Images) → may_leave store.disk left → LeadsOn (InArea store.area (StandsWithOrWithout machine store.head store.trail entry)) (may_leave store.disk) left
rests_either machine tells seen may_leave store log bytes entry sound whole told left may =
    (left, may, record { here = inl (opens_undoubted machine store left (sound.no_doubt whole) (sound.no_renewal whole) (sound.leaves told left may)).stands; there = refl })

-- a run of no device call
pub rested : {D : Type 0} (moment : D → ℕ) (left_since : D → ℕ → Images → Type 0) (may_leave : D → Images → Type 0) (seen seen' : Images) (old new : D) (P : Images → Type 0)
    → ((left : Images) → left_since old (moment old) left → may_leave old left) → IsStill seen seen' (may_leave old) (may_leave new) (left_since old) (left_since new) → moment new ≡ moment old
    → ((left : Images) → may_leave old left → P left) → LeavesOnly moment left_since old new P
rested moment left_since may_leave seen seen' old new P only_now still same here =
    stays moment left_since old old new P (started moment left_since old P (λ left since. here left (only_now left since))) same (λ earlier left since. still.nothing_else earlier left since)

-- an image after a step in the store's area, beside the area that doesn't count
pub opens_after : {M E : Type 0} (machine : Ghosts M E) (index : ℕ) (head : Head) (trail : List E) (seen left : Images) → index < 2 → IsOlder machine.KIND head.generation (other_of index seen) → other_of index left ≡ other_of index seen → StandsFor machine head trail (area_of index left) → OpensIn machine index head trail left
opens_after machine index head trail seen left within older there stands = record { within = within; stands = stands; older = subst (λ (xs : List ℕ). IsOlder machine.KIND head.generation xs) (sym there) older }

-- an entry that may have come is in doubt
pub doubt_leaves : {M D E : Type 0} (machine : Ghosts M E) (store : StoreState M D E) (entry : E) (calls : ℕ) (left : Images) → store.doubt ≡ doubt_after entry calls
    → (calls ≤ 2 → OpensIn machine store.area store.head store.trail left) → (OpensIn machine store.area store.head store.trail left ⊎ OpensIn machine store.area store.head (store.trail ++ entry ∷ []) left) → OpensInDoubt machine store left
doubt_leaves {E = E} machine store entry calls left is early either =
    let some : Option E = Some entry in
    ⊎_elim (λ low. as_it_was (early (omega arith)))
    (λ high. ⊎_elim (λ without. as_it_was without) (λ whole. with_entry entry (is ∙ cond-true _ some None (le-leb 3 calls high)) whole) either) (cases_lt calls 3)

-- the run of a commit from before its room was made, with the entry or without it
pub run_either : {M D E : Type 0} (machine : Ghosts M E) (tells : Type 0) (seen : D → Images) (may_leave : D → Images → Type 0) (moment : D → ℕ) (left_since : D → ℕ → Images → Type 0) (store : StoreState M D E) (log : LogState) (bytes : ℕ) (mid new : D) (entry : E) (written : List ℕ)
    → IsSound machine tells seen may_leave store log bytes → store.broken ≡ false → MayFollow machine store.head store.trail store.state entry → written ≡ machine.written entry → tells
    → ((left : Images) → left_since store.disk (moment store.disk) left → may_leave store.disk left)
    → IsStill (seen store.disk) (seen mid) (may_leave store.disk) (may_leave mid) (left_since store.disk) (left_since mid) → moment mid ≡ moment store.disk
    → LeavesOnly moment left_since mid new (LeadsOn (InArea log.area (WithOrWithout store.head (written_of machine store.trail) written)) (may_leave mid))
    → LeavesOnly moment left_since store.disk new (LeadsOn (InArea store.area (StandsWithOrWithout machine store.head store.trail entry)) (may_leave store.disk))
run_either machine tells seen may_leave moment left_since store log bytes mid new entry written sound whole follow is told only_now still same run =
    let P : Images → Type 0 = LeadsOn (InArea store.area (StandsWithOrWithout machine store.head store.trail entry)) (may_leave store.disk) in
    let Q : Images → Type 0 = LeadsOn (InArea log.area (WithOrWithout store.head (written_of machine store.trail) written)) (may_leave mid) in
    let begun = rested moment left_since may_leave (seen store.disk) (seen mid) store.disk mid P only_now still same (rests_either machine tells seen may_leave store log bytes entry sound whole told) in
    let ended = weakened moment left_since mid new Q P (leads_either machine store.head store.trail store.state entry log.area store.area written (may_leave store.disk) (may_leave mid) follow sound.in_area is still.leaves) run in
    followed moment left_since store.disk mid new P begun ended

-- and up to its second call without it
pub run_first : {M D E : Type 0} (machine : Ghosts M E) (tells : Type 0) (seen : D → Images) (may_leave : D → Images → Type 0) (moment : D → ℕ) (left_since : D → ℕ → Images → Type 0) (store : StoreState M D E) (log : LogState) (bytes : ℕ) (mid new : D) (entry : E) (written : List ℕ)
    → IsSound machine tells seen may_leave store log bytes → store.broken ≡ false → MayFollow machine store.head store.trail store.state entry → written ≡ machine.written entry → tells
    → ((left : Images) → left_since store.disk (moment store.disk) left → may_leave store.disk left)
    → IsStill (seen store.disk) (seen mid) (may_leave store.disk) (may_leave mid) (left_since store.disk) (left_since mid) → moment mid ≡ moment store.disk
    → LeavesFirst moment left_since 2 mid new (LeadsOn (InArea log.area (Without store.head (written_of machine store.trail))) (may_leave mid)) (LeadsOn (InArea log.area (WithOrWithout store.head (written_of machine store.trail) written)) (may_leave mid))
    → LeavesFirst moment left_since 2 store.disk new (LeadsOn (InArea store.area (StandsWithout machine store.head store.trail)) (may_leave store.disk)) (LeadsOn (InArea store.area (StandsWithOrWithout machine store.head store.trail entry)) (may_leave store.disk))
run_first machine tells seen may_leave moment left_since store log bytes mid new entry written sound whole follow is told only_now still same run =
    let without : Images → Type 0 = LeadsOn (InArea store.area (StandsWithout machine store.head store.trail)) (may_leave store.disk) in
    let either : Images → Type 0 = LeadsOn (InArea store.area (StandsWithOrWithout machine store.head store.trail entry)) (may_leave store.disk) in
    let record_torn : Images → Type 0 = LeadsOn (InArea log.area (Without store.head (written_of machine store.trail))) (may_leave mid) in
    let gate_torn : Images → Type 0 = LeadsOn (InArea log.area (WithOrWithout store.head (written_of machine store.trail) written)) (may_leave mid) in
    let begun = rested moment left_since may_leave (seen store.disk) (seen mid) store.disk mid without only_now still same (rests_without machine tells seen may_leave store log bytes sound whole told) in
    first_weakened moment left_since 2 store.disk mid new record_torn without gate_torn either begun same
    (leads_without machine store.head store.trail store.state entry log.area store.area (may_leave store.disk) (may_leave mid) follow sound.in_area still.leaves)
    (leads_either machine store.head store.trail store.state entry log.area store.area written (may_leave store.disk) (may_leave mid) follow sound.in_area is still.leaves) run

-- the other area is as it was
pub other_kept : {D : Type 0} (seen : D → Images) (may_leave : D → Images → Type 0) (moment : D → ℕ) (left_since : D → ℕ → Images → Type 0) (old new : D) (index : ℕ) (step : List ℕ → List ℕ → Type 0)
    → LeavesOnly moment left_since old new (LeadsOn (InArea index step) (may_leave old)) → Only (seen old) (may_leave old) → left_since new (moment old) (seen new) → other_of index (seen new) ≡ other_of index (seen old)
other_kept seen may_leave moment left_since old new index step run only here =
    let leads = run.each (seen new) here in
    leads.2.there ∙ ap (other_of index) (only leads.0 leads.1)

pub then_some_doubt : {E : Type 0} (entry : E) (calls : ℕ) → then_some (nat_lt 2 calls) entry ≡ doubt_after entry calls
then_some_doubt {E = E} entry calls =
    let some : Option E = Some entry in
    chosen (nat_lt 2 calls) entry ∙ ⊎_elim (λ low. cond-false (nat_lt 2 calls) some None (le-ltb 2 calls (omega arith)) ∙ sym (cond-false (nat_le 3 calls) some None (lt-leb 3 calls low)))
    (λ high. cond-true (nat_lt 2 calls) some None (lt-ltb 2 calls (omega arith)) ∙ sym (cond-true (nat_le 3 calls) some None (le-leb 3 calls high))) (cases_lt calls 3)
  where
    chosen : {E : Type 0} (b : Bool) (entry : E) → then_some b entry ≡ (if b then Some entry else None)
    chosen true entry = refl
    chosen false entry = refl

-- ---- which call fails

pub none_due : (due due' : ℕ → Type 0) (before moment count : ℕ) → moment ≡ before → SameDue before due due' → ((k : ℕ) → k < count → due' (moment + k) → ⊥) → (k : ℕ) → k < count → due (before + k) → ⊥
none_due due due' before moment count at same none k less is =
    let e : before + k ≡ moment + k = omega (arith, at) in
    none k less (subst due' e ((same (before + k) (omega arith)).1 is))

pub first_due : (due due' : ℕ → Type 0) (before moment now call : ℕ) → moment ≡ before → SameDue before due due' → now ≡ moment + call
    → (last : ℕ) × (call ≡ last + 1) × due' (moment + last) × ((k : ℕ) → k < last → due' (moment + k) → ⊥)
    → (last : ℕ) × (now ≡ before + last + 1) × due (before + last) × ((k : ℕ) → k < last → due (before + k) → ⊥)
first_due due due' before moment now call at same ends fails =
    let last = fails.0 in
    let e : moment + last ≡ before + last = omega (arith, at) in
    (last, omega (arith, at, ends, fails.1), subst due e ((same (moment + last) (omega (arith, at))).0 fails.2), none_due due due' before moment last at same fails.3)

pub due_ahead : (due due' due'' : ℕ → Type 0) (before now : ℕ) → before ≤ now → SameDue before due due' → SameDue now due' due'' → SameDue now due due''
due_ahead due due' due'' before now later first second k after_now =
    let here = second k after_now in
    let there = first k (omega arith) in
    (λ is. there.0 (here.0 is), λ is. here.1 (there.1 is))

-- ---- stores

-- no device call was made
pub sound_rested : {M D E : Type 0} (machine : Ghosts M E) (tells : Type 0) (seen : D → Images) (may_leave : D → Images → Type 0) (store : StoreState M D E) (log : LogState) (bytes : ℕ) (disk : D) (trail : List E) (past past' : ℕ → Images → Type 0)
    → IsSound machine tells seen may_leave store log bytes → trail ≡ store.trail → (tells → IsStill (seen store.disk) (seen disk) (may_leave store.disk) (may_leave disk) past past')
    → IsSound machine tells seen may_leave (record store { disk = disk; trail = trail }) log bytes
sound_rested {E = E} machine tells seen may_leave store log bytes disk trail past past' sound same still =
    let one : IsSound machine tells seen may_leave (record store { disk = disk }) log bytes = record {
      right = sound.right;
      of_kind = sound.of_kind;
      trail = sound.trail;
      count = sound.count;
      in_area = sound.in_area;
      within = sound.within;
      at = sound.at;
      history = sound.history;
      state = sound.state;
      no_doubt = sound.no_doubt;
      no_renewal = sound.no_renewal;
      stands = λ told whole. stands-still log store.head (written_of machine store.trail) (seen store.disk) (seen disk) (may_leave store.disk) (may_leave disk) past past' (still told) (sound.stands told whole);
      settled = λ told whole left may. sound.settled told whole left ((still told).leaves left may) ∙ sym (still told).seen;
      older = λ told whole. subst (λ (images : Images). IsOlder machine.KIND store.head.generation (other_of store.area images)) (sym (still told).seen) (sound.older told whole);
      leaves = λ told left may. sound.leaves told left ((still told).leaves left may);
    } in
    subst (λ (es : List E). IsSound machine tells seen may_leave (record store { disk = disk; trail = es }) log bytes) (sym same) one

-- the store is broken
pub sound_broken : {M D E : Type 0} (machine : Ghosts M E) (tells : Type 0) (seen : D → Images) (may_leave : D → Images → Type 0) (store : StoreState M D E) (log log' : LogState) (bytes : ℕ) (disk : D) (trail : List E) (state : M) (doubt : Option E) (renewal : Option Head)
    → IsSound machine tells seen may_leave store log bytes → log' ≡ log → trail ≡ store.trail → (tells → (left : Images) → may_leave disk left → OpensInDoubt machine (record store { doubt = doubt; renewal = renewal }) left)
    → IsSound machine tells seen may_leave (record store { disk = disk; area = log'.area; trail = trail; state = state; broken = true; doubt = doubt; renewal = renewal }) log' bytes
sound_broken {E = E} machine tells seen may_leave store log log' bytes disk trail state doubt renewal sound logs same leaves =
    let one : IsSound machine tells seen may_leave (record store { disk = disk; state = state; broken = true; doubt = doubt; renewal = renewal }) log bytes = record {
      right = sound.right;
      of_kind = sound.of_kind;
      trail = sound.trail;
      count = sound.count;
      in_area = sound.in_area;
      within = sound.within;
      at = sound.at;
      history = sound.history;
      state = λ whole. cc;
      no_doubt = λ whole. cc;
      no_renewal = λ whole. cc;
      stands = λ told whole. absurd cc;
      settled = λ told whole. absurd cc;
      older = λ told whole. absurd cc;
      leaves = leaves;
    } in
    let two = subst (λ (es : List E). IsSound machine tells seen may_leave (record store { disk = disk; trail = es; state = state; broken = true; doubt = doubt; renewal = renewal }) log bytes) (sym same) one in
    let three = subst (λ (a : ℕ). IsSound machine tells seen may_leave (record store { disk = disk; area = a; trail = trail; state = state; broken = true; doubt = doubt; renewal = renewal }) log bytes) (sym sound.in_area) two in
    subst (λ (l : LogState). IsSound machine tells seen may_leave (record store { disk = disk; area = l.area; trail = trail; state = state; broken = true; doubt = doubt; renewal = renewal }) l bytes) (sym logs) three

-- the entry stands
pub sound_more : {M D E : Type 0} (machine : Ghosts M E) (tells : Type 0) (seen : D → Images) (may_leave : D → Images → Type 0) (store : StoreState M D E) (log log' : LogState) (bytes bytes' : ℕ) (disk : D) (entry : E) (written : List ℕ) (trail : List E) (state : M)
    → IsSound machine tells seen may_leave store log bytes → store.broken ≡ false → MayFollow machine store.head store.trail store.state entry → written ≡ machine.written entry
    → log'.area ≡ log.area → bytes' ≡ bytes + length written → trail ≡ store.trail ++ entry ∷ [] → state ≡ machine.step store.state entry
    → (tells → Stands log' store.head (written_of machine store.trail ++ written ∷ []) (seen disk) (may_leave disk)) → (tells → Only (seen disk) (may_leave disk)) → (tells → other_of store.area (seen disk) ≡ other_of store.area (seen store.disk))
    → IsSound machine tells seen may_leave (record store { disk = disk; area = log'.area; trail = trail; state = state }) log' bytes'
sound_more {M = M} {E = E} machine tells seen may_leave store log log' bytes bytes' disk entry written trail state sound whole follow is area count more stepped stands settled kept =
    let pushed = ap (λ (b : List ℕ). written_of machine store.trail ++ b ∷ []) is ∙ sym (written_of-push machine store.trail entry) in
    let stand = λ (told : tells). subst (λ (es : List (List ℕ)). Stands log' store.head es (seen disk) (may_leave disk)) pushed (stands told) in
    let first : log'.area ≡ store.area = area ∙ sound.in_area in
    let older = λ (told : tells). subst (λ (xs : List ℕ). IsOlder machine.KIND store.head.generation xs) (sym (kept told)) (sound.older told whole) in
    let one : IsSound machine tells seen may_leave (record store { disk = disk; trail = store.trail ++ entry ∷ []; state = machine.step store.state entry }) log' bytes' = record {
      right = sound.right;
      of_kind = sound.of_kind;
      trail = follow.whole;
      count = omega (arith, sound.count, count, ap length is, ap bytes_of (written_of-push machine store.trail entry), bytes_of-push (written_of machine store.trail) (machine.written entry));
      in_area = first;
      within = sound.within;
      at = machine.step store.state entry;
      history = follow.more;
      state = λ sure. refl;
      no_doubt = sound.no_doubt;
      no_renewal = sound.no_renewal;
      stands = λ told sure. stand told;
      settled = λ told sure. settled told;
      older = λ told sure. older told;
      leaves = λ told left may.
          as_it_was (opens_after machine store.area store.head (store.trail ++ entry ∷ []) (seen disk) left sound.within (older told) (ap (other_of store.area) (settled told left may))
          (opens_whole machine store.head store.trail store.state entry (area_of store.area left) follow (subst (λ (a : ℕ). Spelled store.head (written_of machine (store.trail ++ entry ∷ [])) (area_of a left)) first ((stand told).leaves left may).spelled)));
    } in
    let two = subst (λ (es : List E). IsSound machine tells seen may_leave (record store { disk = disk; trail = es; state = machine.step store.state entry }) log' bytes') (sym more) one in
    let three = subst (λ (s : M). IsSound machine tells seen may_leave (record store { disk = disk; trail = trail; state = s }) log' bytes') (sym stepped) two in
    subst (λ (a : ℕ). IsSound machine tells seen may_leave (record store { disk = disk; area = a; trail = trail; state = state }) log' bytes') (sym first) three

-- and is acknowledged
pub acknowledged_more : {M D E : Type 0} (machine : Ghosts M E) (seen : D → Images) (may_leave : D → Images → Type 0) (store : StoreState M D E) (log' : LogState) (disk : D) (entry : E) (written : List ℕ) (trail : List E) (state : M)
    → MayFollow machine store.head store.trail store.state entry → written ≡ machine.written entry → log'.area ≡ store.area → store.area < 2 → IsOlder machine.KIND store.head.generation (other_of store.area (seen disk)) → trail ≡ store.trail ++ entry ∷ []
    → Stands log' store.head (written_of machine store.trail ++ written ∷ []) (seen disk) (may_leave disk) → Only (seen disk) (may_leave disk)
    → Acknowledges machine seen may_leave (record store { disk = disk; area = log'.area; trail = trail; state = state })
acknowledged_more {E = E} machine seen may_leave store log' disk entry written trail state follow is area within older more stands settled = record {
  settled = settled;
  opens =
      let spelled = subst (λ (a : ℕ). Spelled store.head (written_of machine store.trail ++ written ∷ []) (area_of a (seen disk))) area stands.reads.spelled in
      let here = subst (λ (b : List ℕ). Spelled store.head (written_of machine store.trail ++ b ∷ []) (area_of store.area (seen disk))) is spelled in
      let stands = stands_with machine store.head store.trail store.state entry (area_of store.area (seen disk)) follow here in
      let opens = subst (λ (es : List E). OpensIn machine store.area store.head es (seen disk)) (sym more) (record { within = within; stands = stands; older = older }) in
      subst (λ (a : ℕ). OpensIn machine a store.head trail (seen disk)) (sym area) opens;
}

-- its state is where the history leads
pub replay_more : {M E : Type 0} (machine : Ghosts M E) → Lawful machine → (head : Head) (trail trail' : List E) (state state' : M) (entry : E) → MayFollow machine head trail state entry → trail' ≡ trail ++ entry ∷ [] → state' ≡ machine.step state entry → IsReplay machine head trail' state'
replay_more {E = E} machine laws head trail trail' state state' entry follow more stepped =
    subst (λ (es : List E). IsReplay machine head es state') (sym more) (replayed machine laws head (trail ++ entry ∷ []) state' (machine.step state entry) stepped follow.more)

-- and nothing else has changed
pub leaves_more : {M D E : Type 0} (machine : Ghosts M E) (store given : StoreState M D E) (number : ℕ) (entry : E) (disk : D) (area : ℕ) (trail : List E) (state : M) → store ≡ given → number ≡ next_number given → store.doubt ≡ None → area ≡ store.area → trail ≡ store.trail ++ entry ∷ [] → state ≡ machine.step store.state entry
    → CommitLeaves machine entry (Ok number) given (record store { disk = disk; area = area; trail = trail; state = state })
leaves_more {M = M} {D = D} {E = E} machine store given number entry disk area trail state same numbered none here more stepped =
    let P : StoreState M D E → Type 0 = λ s. record store { disk = disk; area = area; trail = trail; state = state } ≡ record s { disk = disk; trail = s.trail ++ entry ∷ []; state = machine.step s.state entry } in
    let kept : P store = ap (λ (a : ℕ). record store { disk = disk; area = a; trail = trail; state = state }) here ∙ ap (λ (es : List E). record store { disk = disk; trail = es; state = state }) more ∙ ap (λ (s : M). record store { disk = disk; trail = store.trail ++ entry ∷ []; state = s }) stepped in
    (numbered, subst P same kept, none)
