-- What opening finds stands there, and what stands there is found.
use Rattle.std.proofs.Common.{◌≡◌, ℕ, ◌+◌, true, false, List, length, drop, Result, Ok, Err, refl, sym, ap, subst, ◌∙◌, arith, inl, inr}
use Rattle.pc_log.specs.declared.fault.LogFault.{LogFault}
use Rattle.pc_log.specs.declared.fault.LogFault.TheVariants.{Device, Malformed, Memory}
use Rattle.pc_log.specs.declared.found.PlacedEntry.{PlacedEntry}
use Rattle.pc_log.specs.declared.found.Found.{Found}
use Rattle.pc_log.specs.declared.found.Found.TheVariants as found
use Rattle.pc_log.specs.Area.{Head, front, is_made}
use Rattle.pc_log.specs.Logs.{LogState}
use Rattle.pc_log.specs.Reading.{Reached, behind_head}
use Rattle.pc_log.specs.Opening.{BeginsWith, ReadsAll, ReadsToFault, IsAreaOf, FindsMade, Finds, FindsAll, FindsFault, IfMalformed, placed}
use Rattle.pc_log.proofs.Trails.{IsRead, trail_facts, area_read, length-front, area_again, same_trail, no_fault}
use Rattle.pc_log.proofs.Entries.{closed_takes}

pub finds_made : (area kind : ℕ) (bytes : List ℕ) (generation first : ℕ) (base : List ℕ) (to : Reached) (entries : List PlacedEntry)
    → BeginsWith (record { kind = kind; generation = generation; first = first; base = base }) bytes → ReadsAll bytes (behind_head base) to entries
    → FindsMade area kind bytes (record { area = area; gate = to.gate }) generation first base entries
finds_made area kind bytes generation first base to entries begins all =
    let head : Head = record { kind = kind; generation = generation; first = first; base = base } in
    let trail = all.so_far in
    let facts = trail_facts bytes (behind_head base) trail.entries to trail.reads in
    let within = facts.within (omega arith) (omega arith) in
    let at : to.gate ≡ length (front head trail.entries) = omega (arith, facts.gate, length-front head trail.entries) in
    record {
      entries = trail.entries;
      placed_so = trail.placed_so;
      stands = record {
        of_kind = refl;
        right = begins.right;
        trail = record { each = facts.each; count = omega (arith, facts.count, within.0); bytes = omega (arith, facts.bytes, within.1) };
        spelled = area_read head trail.entries bytes (drop to.gate bytes) begins trail.stands (closed_takes to bytes all.closed);
      };
      log_is = ap (λ (k : ℕ). let log : LogState = record { area = area; gate = k } in log) at;
    }

-- ---- only that

abbrev headed : Head → Result Head ℕ
headed head = Ok head

same_head : (head head' : Head) → headed head ≡ headed head' → head ≡ head'
same_head head head' e = cc

no_head : (head : Head) (place : ℕ) → headed head ≡ Err place → ⊥
no_head head place e = cc

made_not : (bytes : List ℕ) → is_made bytes ≡ true → is_made bytes ≡ false → ⊥
made_not bytes made not_made = let e : true ≡ false = sym made ∙ not_made in cc

finds_same : (kind : ℕ) (head : Head) (entries : List (List ℕ)) (bytes : List ℕ) (area : ℕ) (log : LogState) (generation first : ℕ) (base : List ℕ) (found : List PlacedEntry)
    → FindsMade area kind bytes log generation first base found → IsAreaOf kind head entries bytes
    → (generation ≡ head.generation) × (first ≡ head.first) × (base ≡ head.base) × (found ≡ placed (30 + length head.base) entries)
finds_same kind head entries bytes area log generation first base found finds is =
    let head' : Head = record { kind = kind; generation = generation; first = first; base = base } in
    let a = area_again kind head entries bytes is in
    let b = area_again kind head' finds.entries bytes finds.stands in
    let same : head' ≡ head = same_head head' head (sym b.head_is ∙ a.head_is) in
    let base_is : base ≡ head.base = ap (λ (h : Head). h.base) same in
    let there = subst (λ (xs : List ℕ). IsRead bytes (behind_head xs) finds.entries) base_is b.trail in
    let trail : finds.entries ≡ entries = same_trail bytes (behind_head head.base) finds.entries there.to entries a.trail.to there.reads there.closed a.trail.reads a.trail.closed in
    (ap (λ (h : Head). h.generation) same, ap (λ (h : Head). h.first) same, base_is, finds.placed_so ∙ ap (λ (xs : List ℕ). placed (30 + length xs) finds.entries) base_is ∙ ap (placed (30 + length head.base)) trail)

fault_not : (kind : ℕ) (head : Head) (entries : List (List ℕ)) (bytes : List ℕ) (place : ℕ) → FindsFault kind bytes place → IsAreaOf kind head entries bytes → ⊥
fault_not kind head entries bytes place fault is =
    let a = area_again kind head entries bytes is in
    elim fault.1 [
      | inl at_head ↦ no_head head place (sym a.head_is ∙ at_head)
      | inr ends ↦
          let base_is : ends.0.base ≡ head.base = ap (λ (h : Head). h.base) (same_head ends.0 head (sym ends.1 ∙ a.head_is)) in
          let there = subst (λ (xs : List ℕ). ReadsToFault bytes (behind_head xs) place) base_is ends.2 in
          no_fault bytes (behind_head head.base) entries a.trail.to there.entries there.to place a.trail.reads a.trail.closed there.reads there.fault
    ]

pub finds_all : (result : Result Found LogFault) (area kind : ℕ) (bytes : List ℕ) (head : Head) (entries : List (List ℕ)) → Finds result area kind bytes → IfMalformed result (FindsFault kind bytes) → IsAreaOf kind head entries bytes → FindsAll result head entries
finds_all (Ok found.NotMade) area kind bytes head entries finds fault is = made_not bytes (area_again kind head entries bytes is).made finds
finds_all (Ok (found.Made log generation first base found)) area kind bytes head entries finds fault is = finds_same kind head entries bytes area log generation first base found.items finds is
finds_all (Err Device) area kind bytes head entries finds fault is = tt
finds_all (Err (Malformed place)) area kind bytes head entries finds fault is = fault_not kind head entries bytes place fault is
finds_all (Err Memory) area kind bytes head entries finds fault is = tt
