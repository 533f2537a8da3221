-- Entries one after another: what is read stands there, and what stands there is read.
use Rattle.std.proofs.Common.{◌≡◌, ℕ, ◌+◌, ◌<◌, ◌≤◌, true, cond, leb, ltb, eqb, ◌&&◌, List, [], ◌∷◌, ◌++◌, length, take, drop, Option, None, Some, Result, Ok, Err, refl, sym, ap, subst, ◌∙◌, append_assoc, append-nil, arith}
use Rattle.std.specs.List.{flat_map, AllByRecursion}
use Rattle.std.specs.Int.{w32, from_be_bytes}
use Rattle.std.proofs.lemmas.Bool.Decides.{nat_tests}
use Rattle.std.proofs.lemmas.Bool.{leb-true, ltb-true, le-leb, lt-ltb, and_parts, and_from}
use Rattle.std.proofs.lemmas.List.{drop_at, length-append, length-take, length-drop, drop-drop, flat_map_more}
use Rattle.std.proofs.lemmas.List.Concat.{flat_map-cons}
use Rattle.pc_log.specs.declared.found.PlacedEntry.{PlacedEntry}
use Rattle.pc_log.specs.Area.{Head, IsEntry, Spelled, bytes_of, head_bytes, entry_bytes, front, is_made}
use Rattle.pc_log.specs.Reading.{number_at, bytes_at, Reached, behind, behind_head, has_room, size_of, opened, entry_at, head_of, next_of}
use Rattle.pc_log.specs.Opening.{BeginsWith, Reads, ReadsSoFar, placed, IsAreaOf}
use Rattle.pc_log.proofs.Fields.{bind_ok, guard_ok, guard_not}
use Rattle.pc_log.proofs.Heads.{head_again}
use Rattle.pc_log.proofs.Entries.{length-entry_bytes, guard_sized, TakesClosed, entry_again, closed_again}

-- ---- what an entry that is read may be

pub room_of : (reached : Reached) (count : ℕ) → has_room reached count ≡ true → (reached.entries < 65536) × (reached.bytes + count ≤ 16777216)
room_of reached count room = grind (arith, nat_tests)

number_lies : (place least most : ℕ) (bytes : List ℕ) (x : ℕ × List ℕ) → number_at w32 place least most bytes ≡ Ok x → (least ≤ x.0) × (x.0 ≤ most)
number_lies place least most bytes x e =
    let n : ℕ = from_be_bytes w32 (take 4 bytes) in
    let a = guard_not (ltb (length bytes) 4) place (cond (leb least n && leb n most) (Ok (n, drop 4 bytes)) (Err place)) x e in
    let b = guard_ok (leb least n && leb n most) place (n, drop 4 bytes) x a.1 in
    let within = and_parts (leb least n) (leb n most) b.0 in
    subst (λ (y : ℕ × List ℕ). (least ≤ y.0) × (y.0 ≤ most)) b.1 (leb-true _ _ within.0, leb-true _ _ within.1)

pub record Fits (reached : Reached) (size : ℕ) : Type 0 where
  pub low : 1 ≤ size
  pub high : size ≤ 8388608
  pub room : has_room reached size ≡ true

size_fits : (reached : Reached) (bytes : List ℕ) (size : ℕ) → opened reached bytes ≡ Ok (Some size) → Fits reached size
unfolding size_of
size_fits reached [] size e = absurd cc
size_fits reached (gate ∷ bytes) size e =
    let a = guard_sized (eqb gate 1) (size_of reached bytes) size e in
    let b = bind_ok (number_at w32 (reached.gate + 1) 1 8388608 bytes) (λ n. cond (has_room reached n.0) (Ok n.0) (Err reached.gate)) size a.1 in
    let c = guard_ok (has_room reached b.0.0) reached.gate b.0.0 size b.2 in
    let n = number_lies (reached.gate + 1) 1 8388608 bytes b.0 b.1 in
    let fits : Fits reached b.0.0 = record { low = n.0; high = n.1; room = c.0 } in
    subst (λ (k : ℕ). Fits reached k) c.1 fits

abbrev next_is : List ℕ → Result (Option (List ℕ)) ℕ
next_is entry = Ok (Some entry)

same_next : (entry entry' : List ℕ) → next_is entry ≡ next_is entry' → entry ≡ entry'
same_next entry entry' e = cc

fits_at : (reached : Reached) (area : List ℕ) (size : Option ℕ) (entry : List ℕ) → opened reached (take 5 (drop reached.gate area)) ≡ Ok size → entry_at reached size area ≡ Ok (Some entry) → Fits reached (length entry)
fits_at reached area None entry e at = absurd cc
fits_at reached area (Some size) entry e at =
    let a = bind_ok (bytes_at (reached.gate + 5) size area) (λ found. next_is found) (Some entry) at in
    let b = guard_ok (leb (reached.gate + 5 + size) (length area)) (reached.gate + 5) (take size (drop (reached.gate + 5) area)) a.0 a.1 in
    let long : reached.gate + 5 + size ≤ length area = leb-true _ _ b.0 in
    let count : length entry ≡ size = ap length (sym (same_next a.0 entry a.2)) ∙ ap length (sym b.1) ∙ omega (arith, length-take size (drop (reached.gate + 5) area), length-drop (reached.gate + 5) area) in
    subst (λ (k : ℕ). Fits reached k) (sym count) (size_fits reached (take 5 (drop reached.gate area)) size e)

pub next_fits : (reached : Reached) (area entry : List ℕ) → next_of reached area ≡ Ok (Some entry) → Fits reached (length entry)
unfolding next_of
next_fits reached area entry e =
    let a = bind_ok (opened reached (take 5 (drop reached.gate area))) (λ size. entry_at reached size area) (Some entry) e in
    fits_at reached area a.0 entry a.1 a.2

-- ---- a trail that is read

-- what is known of a trail that was read
pub record TrailFacts (from : Reached) (entries : List (List ℕ)) (to : Reached) : Type 0 where
  pub each : AllByRecursion IsEntry entries
  pub gate : to.gate ≡ from.gate + length (flat_map entry_bytes entries)
  pub count : to.entries ≡ from.entries + length entries
  pub bytes : to.bytes ≡ from.bytes + bytes_of entries
  pub within : from.entries ≤ 65536 → from.bytes ≤ 16777216 → (to.entries ≤ 65536) × (to.bytes ≤ 16777216)

no_trail : (from to : Reached) → from ≡ to → TrailFacts from [] to
no_trail from to e = subst (λ (r : Reached). TrailFacts from [] r) e (record { each = tt; gate = omega arith; count = omega arith; bytes = omega arith; within = λ p q. (p, q) })

length-cons : (entry : List ℕ) (entries : List (List ℕ)) → length (flat_map entry_bytes (entry ∷ entries)) ≡ 5 + length entry + length (flat_map entry_bytes entries)
length-cons entry entries = ap length (flat_map-cons entry_bytes entry entries) ∙ omega (arith, length-append (entry_bytes entry) (flat_map entry_bytes entries), length-entry_bytes entry)

pub trail_facts : (area : List ℕ) (from : Reached) (entries : List (List ℕ)) (to : Reached) → Reads area from entries to → TrailFacts from entries to
trail_facts area from [] to reads = no_trail from to (sym reads)
trail_facts area from (entry ∷ entries) to reads =
    let fits = next_fits from area entry reads.0 in
    let rest = trail_facts area (behind (length entry) from) entries to reads.1 in
    let room = and_parts (ltb from.entries 65536) (leb (from.bytes + length entry) 16777216) fits.room in
    let count : from.entries < 65536 = ltb-true _ _ room.0 in
    let bytes : from.bytes + length entry ≤ 16777216 = leb-true _ _ room.1 in
    record {
      each = ((fits.low, fits.high), rest.each);
      gate = rest.gate ∙ omega (arith, length-cons entry entries);
      count = omega (arith, rest.count);
      bytes = omega (arith, rest.bytes);
      within = λ p q. rest.within (omega (arith, count)) bytes;
    }

pub reads_more : (area : List ℕ) (from : Reached) (entries : List (List ℕ)) (to : Reached) (entry : List ℕ) → Reads area from entries to → next_of to area ≡ Ok (Some entry) → Reads area from (entries ++ entry ∷ []) (behind (length entry) to)
reads_more area from [] to entry reads next = (ap (λ (r : Reached). next_of r area) (sym reads) ∙ next, ap (λ (r : Reached). behind (length entry) r) reads)
reads_more area from (first ∷ entries) to entry reads next = (reads.0, reads_more area (behind (length first) from) entries to entry reads.1 next)

pub placed_more : (gate : ℕ) (entries : List (List ℕ)) (entry : List ℕ) (place : ℕ) → place ≡ gate + length (flat_map entry_bytes entries) → placed gate (entries ++ entry ∷ []) ≡ placed gate entries ++ record { place = place; bytes = entry } ∷ []
placed_more gate [] entry place at = let same : gate ≡ place = omega (arith, at) in ap (λ (k : ℕ). let e : PlacedEntry = record { place = k; bytes = entry } in e ∷ []) same
placed_more gate (first ∷ entries) entry place at =
    ap (λ (es : List PlacedEntry). let e : PlacedEntry = record { place = gate; bytes = first } in e ∷ es) (placed_more (gate + 5 + length first) entries entry place (omega (arith, at, length-cons first entries)))

pub stands_more : (whole : List ℕ) (entries : List (List ℕ)) (entry rest rest' : List ℕ) → whole ≡ flat_map entry_bytes entries ++ rest → rest ≡ entry_bytes entry ++ rest' → whole ≡ flat_map entry_bytes (entries ++ entry ∷ []) ++ rest'
stands_more whole entries entry rest rest' stands next =
    stands ∙ ap (λ (xs : List ℕ). flat_map entry_bytes entries ++ xs) next ∙ sym (append_assoc (flat_map entry_bytes entries) (entry_bytes entry) rest') ∙ ap (λ (xs : List ℕ). xs ++ rest') (flat_map_more entry_bytes [] entries entry)

-- one entry more
pub so_far_more : (area : List ℕ) (from to : Reached) (found : List PlacedEntry) (entry : PlacedEntry) (to' : Reached) → ReadsSoFar area from to found
    → entry.place ≡ to.gate → next_of to area ≡ Ok (Some entry.bytes) → drop to.gate area ≡ entry_bytes entry.bytes ++ drop to'.gate area → to' ≡ behind (length entry.bytes) to
    → ReadsSoFar area from to' (found ++ entry ∷ [])
so_far_more area from to found entry to' so_far place next stands is =
    let facts = trail_facts area from so_far.entries to so_far.reads in
    record {
      entries = so_far.entries ++ entry.bytes ∷ [];
      placed_so = ap (λ (es : List PlacedEntry). es ++ entry ∷ []) so_far.placed_so ∙ sym (placed_more from.gate so_far.entries entry.bytes entry.place (place ∙ facts.gate));
      reads = subst (λ (r : Reached). Reads area from (so_far.entries ++ entry.bytes ∷ []) r) (sym is) (reads_more area from so_far.entries to entry.bytes so_far.reads next);
      stands = stands_more (drop from.gate area) so_far.entries entry.bytes (drop to.gate area) (drop to'.gate area) so_far.stands stands;
    }

pub so_far_none : (area : List ℕ) (from : Reached) → ReadsSoFar area from from []
so_far_none area from = record { entries = []; placed_so = refl; reads = refl; stands = refl }

-- ---- a trail that stands there is read

pub record IsRead (area : List ℕ) (from : Reached) (entries : List (List ℕ)) : Type 0 where
  pub to : Reached
  pub reads : Reads area from entries to
  pub closed : next_of to area ≡ Ok None

pub trail_again : (area : List ℕ) (from : Reached) (entries : List (List ℕ)) (gate : ℕ) (rest : List ℕ) → drop from.gate area ≡ flat_map entry_bytes entries ++ gate ∷ rest → (gate ≡ 1 → ⊥)
    → AllByRecursion IsEntry entries → from.entries + length entries ≤ 65536 → from.bytes + bytes_of entries ≤ 16777216 → IsRead area from entries
trail_again area from [] gate rest stands closed each count bytes = record { to = from; reads = refl; closed = closed_again from area gate rest stands closed }
trail_again area from (entry ∷ entries) gate rest stands closed each count bytes =
    let more : List ℕ = flat_map entry_bytes entries ++ gate ∷ rest in
    let laid : drop from.gate area ≡ entry_bytes entry ++ more = stands ∙ ap (λ (xs : List ℕ). xs ++ gate ∷ rest) (flat_map-cons entry_bytes entry entries) ∙ append_assoc (entry_bytes entry) (flat_map entry_bytes entries) (gate ∷ rest) in
    let room : has_room from (length entry) ≡ true = and_from (ltb from.entries 65536) (leb (from.bytes + length entry) 16777216) (lt-ltb from.entries 65536 (omega (arith, count))) (le-leb (from.bytes + length entry) 16777216 (omega (arith, bytes))) in
    let next : next_of from area ≡ Ok (Some entry) = entry_again from area entry more laid each.0 room in
    let place : from.gate + 5 + length entry ≡ from.gate + (5 + length entry) = omega arith in
    let behind_it : drop (from.gate + 5 + length entry) area ≡ more =
    ap (λ (k : ℕ). drop k area) place ∙ sym (drop-drop (5 + length entry) from.gate area) ∙ ap (drop (5 + length entry)) laid ∙ drop_at (entry_bytes entry) more (5 + length entry) (length-entry_bytes entry) in
    let rest_read = trail_again area (behind (length entry) from) entries gate rest behind_it closed each.1 (omega (arith, count)) (omega (arith, bytes)) in
    record { to = rest_read.to; reads = (next, rest_read.reads); closed = rest_read.closed }

-- ---- it is read in one way

nothing_or_entry : (area : List ℕ) (from : Reached) (entry : List ℕ) → next_of from area ≡ Ok None → next_of from area ≡ Ok (Some entry) → ⊥
nothing_or_entry area from entry a b = let e : (let r : Result (Option (List ℕ)) ℕ = Ok None in r) ≡ Ok (Some entry) = sym a ∙ b in cc

pub same_trail : (area : List ℕ) (from : Reached) (entries : List (List ℕ)) (to : Reached) (entries' : List (List ℕ)) (to' : Reached) → Reads area from entries to → next_of to area ≡ Ok None → Reads area from entries' to' → next_of to' area ≡ Ok None → entries ≡ entries'
same_trail area from [] to [] to' reads closed reads' closed' = refl
same_trail area from [] to (entry ∷ entries') to' reads closed reads' closed' = absurd (nothing_or_entry area from entry (ap (λ (r : Reached). next_of r area) (sym reads) ∙ closed) reads'.0)
same_trail area from (entry ∷ entries) to [] to' reads closed reads' closed' = absurd (nothing_or_entry area from entry (ap (λ (r : Reached). next_of r area) (sym reads') ∙ closed') reads.0)
same_trail area from (entry ∷ entries) to (entry' ∷ entries') to' reads closed reads' closed' =
    let same : entry ≡ entry' = same_next entry entry' (sym reads.0 ∙ reads'.0) in
    let there : Reads area (behind (length entry) from) entries' to' = subst (λ (e : List ℕ). Reads area (behind (length e) from) entries' to') (sym same) reads'.1 in
    let rest = same_trail area (behind (length entry) from) entries to entries' to' reads.1 closed there closed' in
    ap (λ (e : List ℕ). e ∷ entries) same ∙ ap (λ (es : List (List ℕ)). entry' ∷ es) rest

pub no_fault : (area : List ℕ) (from : Reached) (entries : List (List ℕ)) (to : Reached) (entries' : List (List ℕ)) (to' : Reached) (place : ℕ) → Reads area from entries to → next_of to area ≡ Ok None → Reads area from entries' to' → next_of to' area ≡ Err place → ⊥
no_fault area from [] to [] to' place reads closed reads' fault =
    let e : (let r : Result (Option (List ℕ)) ℕ = Ok None in r) ≡ Err place = sym (ap (λ (r : Reached). next_of r area) (sym reads) ∙ closed) ∙ (ap (λ (r : Reached). next_of r area) (sym reads') ∙ fault) in cc
no_fault area from [] to (entry ∷ entries') to' place reads closed reads' fault = nothing_or_entry area from entry (ap (λ (r : Reached). next_of r area) (sym reads) ∙ closed) reads'.0
no_fault area from (entry ∷ entries) to [] to' place reads closed reads' fault =
    let e : next_is entry ≡ Err place = sym reads.0 ∙ (ap (λ (r : Reached). next_of r area) (sym reads') ∙ fault) in cc
no_fault area from (entry ∷ entries) to (entry' ∷ entries') to' place reads closed reads' fault =
    let same : entry ≡ entry' = same_next entry entry' (sym reads.0 ∙ reads'.0) in
    let there : Reads area (behind (length entry) from) entries' to' = subst (λ (e : List ℕ). Reads area (behind (length e) from) entries' to') (sym same) reads'.1 in
    no_fault area (behind (length entry) from) entries to entries' to' place reads.1 closed there fault

-- ---- a whole area

pub length-head_bytes : (head : Head) → length (head_bytes head) ≡ 29 + length head.base
unfolding head_bytes
length-head_bytes head = omega arith

pub length-front : (head : Head) (entries : List (List ℕ)) → length (front head entries) ≡ 30 + length head.base + length (flat_map entry_bytes entries)
length-front head entries = omega (arith, length-append (head_bytes head) (flat_map entry_bytes entries), length-head_bytes head)

pub area_read : (head : Head) (entries : List (List ℕ)) (area rest : List ℕ) → BeginsWith head area → drop (30 + length head.base) area ≡ flat_map entry_bytes entries ++ rest → TakesClosed rest → Spelled head entries area
area_read head entries area rest begins stands closed = record {
  gate = closed.gate;
  rest = closed.rest;
  bytes = begins.bytes ∙ ap (λ (xs : List ℕ). 1 ∷ (xs ++ drop (30 + length head.base) area)) (append-nil (head_bytes head))
      ∙ ap (λ (xs : List ℕ). 1 ∷ (head_bytes head ++ xs)) (stands ∙ ap (λ (xs : List ℕ). flat_map entry_bytes entries ++ xs) closed.bytes_are)
      ∙ ap (λ (xs : List ℕ). 1 ∷ xs) (sym (append_assoc (head_bytes head) (flat_map entry_bytes entries) (closed.gate ∷ closed.rest)));
  closed = closed.closed;
}

made_again : (xs : List ℕ) → 1 ≤ length xs → is_made (1 ∷ xs) ≡ true
made_again [] le = absurd (omega arith)
made_again (x ∷ xs) le = refl

-- how an area is read that stands for a head and entries
pub record IsAreaRead (kind : ℕ) (head : Head) (entries : List (List ℕ)) (area : List ℕ) : Type 0 where
  pub made : is_made area ≡ true
  pub head_is : head_of kind area ≡ Ok head
  pub trail : IsRead area (behind_head head.base) entries

pub area_again : (kind : ℕ) (head : Head) (entries : List (List ℕ)) (area : List ℕ) → IsAreaOf kind head entries area → IsAreaRead kind head entries area
area_again kind head entries area is =
    let more : List ℕ = flat_map entry_bytes entries ++ is.spelled.gate ∷ is.spelled.rest in
    let laid : area ≡ 1 ∷ (head_bytes head ++ more) = is.spelled.bytes ∙ ap (λ (xs : List ℕ). 1 ∷ xs) (append_assoc (head_bytes head) (flat_map entry_bytes entries) (is.spelled.gate ∷ is.spelled.rest)) in
    let long : 1 ≤ length (head_bytes head ++ more) = omega (arith, length-append (head_bytes head) more, length-head_bytes head) in
    let count : length (1 ∷ head_bytes head) ≡ 30 + length head.base = omega (arith, length-head_bytes head) in
    let behind_it : drop (30 + length head.base) area ≡ more = ap (drop (30 + length head.base)) laid ∙ drop_at (1 ∷ head_bytes head) more (30 + length head.base) count in
    record {
      made = ap is_made laid ∙ made_again (head_bytes head ++ more) long;
      head_is = ap (λ (k : ℕ). head_of k area) (sym is.of_kind) ∙ ap (head_of head.kind) laid ∙ head_again head more is.right;
      trail = trail_again area (behind_head head.base) entries is.spelled.gate is.spelled.rest behind_it is.spelled.closed is.trail.each (omega (arith, is.trail.count)) (omega (arith, is.trail.bytes));
    }
