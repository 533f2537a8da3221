-- A store of no history.
use Rattle.std.proofs.Common.{◌≡◌, ℕ, ◌+◌, ◌≤◌, Bool, true, if◌then◌else◌, List, [], length, sym, ap, ◌∙◌, subst, arith}
use Rattle.pc_base.specs.declared.machine.Machine.{Ghosts}
use Rattle.pc_log.specs.Area.{IsTrail, Spelled, front, bytes_of}
use Rattle.pc_log.proofs.Trails.{length-front}
use Rattle.pc_store.specs.declared.reading.History.{History}
use Rattle.pc_store.specs.History.{IsHistory, written_of}
use Rattle.pc_store.specs.Reading.{HoldsHistory, head_of_history}

-- a state that got the first number
pub numbered_from : {M E : Type 0} (machine : Ghosts M E) (old new : M) → old ≡ machine.begin → new ≡ (if machine.suits old 1 then machine.numbered old 1 else old) → machine.suits machine.begin 1 ≡ true → new ≡ machine.numbered machine.begin 1
numbered_from machine old new is given suits =
    given ∙ ap (λ (s : _). if machine.suits s 1 then machine.numbered s 1 else s) is ∙ ap (λ (b : Bool). if b then machine.numbered machine.begin 1 else machine.begin) suits

pub made_holds : {M E : Type 0} (machine : Ghosts M E) (tells : Type 0) (area : List ℕ) (history : History M E)
    → (1 ≤ machine.KIND) × (machine.KIND ≤ 3) → machine.is_canonical machine.begin → machine.suits machine.begin 1 ≡ true → length (machine.saved machine.begin) ≤ 1073741824
    → history.generation ≡ 1 → history.first ≡ 1 → history.base ≡ machine.saved machine.begin → history.trail.items ≡ [] → history.bytes ≡ 0 → history.state ≡ machine.numbered machine.begin 1
    → history.log.gate ≡ 30 + length history.base → (tells → Spelled (head_of_history machine history) [] area)
    → HoldsHistory machine tells area history
made_holds machine tells area history kinds canonical suits short generation first base none bytes state gate spelled =
    let head = head_of_history machine history in
    let P : List _ → Type 0 = λ es. IsTrail (written_of machine es) in
    let Q : List _ → Type 0 = λ es. history.bytes ≡ bytes_of (written_of machine es) in
    let R : List _ → Type 0 = λ es. IsHistory machine head es history.state in
    let G : List _ → Type 0 = λ es. history.log.gate ≡ length (front head (written_of machine es)) in
    let S : List _ → Type 0 = λ es. tells → Spelled head (written_of machine es) area in
    let at : 30 + length history.base ≡ length (front head []) = omega (arith, length-front head []) in
    let fits : machine.suits machine.begin history.first ≡ true = ap (machine.suits machine.begin) first ∙ suits in
    let begun : history.state ≡ machine.numbered machine.begin history.first = state ∙ ap (machine.numbered machine.begin) (sym first) in
    record {
      right = record { kind = kinds; generation = (omega arith, omega arith); first = (omega arith, omega arith); base = omega (arith, ap length base, short) };
      trail = subst P (sym none) (record { each = tt; count = omega arith; bytes = omega arith });
      bytes = subst Q (sym none) bytes;
      history_is = subst R (sym none) (record {
        base = machine.begin;
        is_base = record { canonical = canonical; saved = sym base; suits = fits };
        allowed = tt;
        leads = begun;
        numbers = omega (arith, first);
      });
      gate = subst G (sym none) (gate ∙ at);
      spelled = subst S (sym none) spelled;
    }
