-- Lists that are read item by item.
use Rattle.std.proofs.Common.{◌≡◌, ℕ, ◌+◌, ◌-◌, ◌≤◌, ◌==◌, Bool, true, false, ◌||◌, List, [], ◌∷◌, ◌++◌, length, map, take, drop, Ok, Err, refl, sym, ap, subst, ◌∙◌, arith, append_assoc, length-append, inl, inr}
use Rattle.std.specs.List.{list_any}
use Rattle.std.proofs.lemmas.Bool.{cases_lt}
use Rattle.std.proofs.lemmas.List.{take-append-drop, take_at, take_all, length-drop, length-take-le, map-append}
use Rattle.std.proofs.lemmas.List.Folds.{list_any-append}
use Rattle.pc_message.specs.declared.descriptor.Change.{Change}
use Rattle.pc_reply.specs.Lists.{IsFirstFault, ReadsItems}
use Rattle.pc_reply.specs.Items.{change_lines, uid_of, ChangeFits, AreChangeLines}
use Rattle.pc_reply.specs.Changes.{Learns, ReadsItem, fault_after}
use Rattle.pc_reply.specs.declared.items.ItemFault.{ItemFault}
use Rattle.pc_reply.specs.declared.items.ItemFault.TheVariants.{Bad, Memory}
use Rattle.pc_reply.proofs.ItemLemmas.{one_list, items_push, fault}
use Rattle.pc_reply.proofs.ChangeLemmas.{some_lines, one_change}

-- lines with a fault are no list
pub no_list : {T : Type 0} (AreLinesOf : T → List (List ℕ) → Type 0) (lines : List (List ℕ)) (line : ℕ) (items : T) → IsFirstFault AreLinesOf lines line → AreLinesOf items lines → ⊥
no_list AreLinesOf lines line items bad are = elim (cases_lt line (length lines)) [
  | inl below ↦ bad.here below (items, (drop (line + 1) lines, subst (λ (all : List (List ℕ)). AreLinesOf items all) (sym (take-append-drop (line + 1) lines)) are))
  | inr past ↦ bad.end (omega (arith, bad.within)) items are
]

-- a slice that goes to the end is what stands behind
pub slice_behind : (all : List (List ℕ)) (place : ℕ) → place ≤ length all → take (length all - place) (drop place all) ≡ drop place all
slice_behind all place within = take_all (length all - place) (drop place all) (omega (arith, length-drop place all))

-- what is known after one more
pub knows_more : (known after : ℕ → Bool) (changes : List Change) (change : Change) → ((uid : ℕ) → known uid ≡ list_any (λ other. other == uid) (map uid_of changes)) → Learns known after (uid_of change) → (uid : ℕ) → after uid ≡ list_any (λ other. other == uid) (map uid_of (changes ++ change ∷ []))
knows_more known after changes change knows learns uid =
    let keys : map uid_of (changes ++ change ∷ []) ≡ map uid_of changes ++ uid_of change ∷ [] = map-append uid_of changes (change ∷ []) in
    learns uid ∙ ap (λ k. (uid_of change == uid) || k) (knows uid) ∙ turned (uid_of change == uid) (list_any (λ other. other == uid) (map uid_of changes)) ∙ sym (ap (list_any (λ other. other == uid)) keys ∙ list_any-append (λ other. other == uid) (map uid_of changes) (uid_of change ∷ []))
  where
    turned : (a b : Bool) → (a || b) ≡ (b || (a || false))
    turned true true = refl
    turned true false = refl
    turned false true = refl
    turned false false = refl

-- one change more is read
pub read_on : (changes : List Change) (known : ℕ → Bool) (place count : ℕ) (all : List (List ℕ)) (change : Change) → place ≤ length all → AreChangeLines changes (take place all) → ((uid : ℕ) → known uid ≡ list_any (λ other. other == uid) (map uid_of changes)) → ReadsItem change_lines ChangeFits uid_of known (take (length all - place) (drop place all)) (Ok (change, count)) → (place + count ≤ length all) × AreChangeLines (changes ++ change ∷ []) (take (place + count) all)
read_on changes known place count all change within items knows (new, (rest, (split, size))) =
    let front = take place all in
    let cut : length front ≡ place = length-take-le place all within in
    let behind : drop place all ≡ change_lines change ++ rest = sym (slice_behind all place within) ∙ split in
    let whole : all ≡ front ++ (change_lines change ++ rest) = sym (take-append-drop place all) ∙ ap (λ lines. front ++ lines) behind in
    let more : all ≡ (front ++ change_lines change) ++ rest = whole ∙ sym (append_assoc front (change_lines change) rest) in
    let longer : length (front ++ change_lines change) ≡ place + count = omega (arith, length-append front (change_lines change), cut, size) in
    let taken : take (place + count) all ≡ front ++ change_lines change = ap (take (place + count)) more ∙ take_at (front ++ change_lines change) rest (place + count) longer in
    let pushed = items_push change_lines ChangeFits ◌==◌ uid_of some_lines one_change changes front change items new.0 (sym (knows (uid_of change)) ∙ new.1) in
    (omega (arith, ap length more, length-append (front ++ change_lines change) rest, longer), subst (λ (lines : List (List ℕ)). AreChangeLines (changes ++ change ∷ []) lines) (sym taken) pushed)

-- the next change isn't read
pub read_stops : (changes : List Change) (known : ℕ → Bool) (place : ℕ) (all lines : List (List ℕ)) (e found : ItemFault) → all ≡ lines → place ≤ length all → AreChangeLines changes (take place all) → ((uid : ℕ) → known uid ≡ list_any (λ other. other == uid) (map uid_of changes)) → ReadsItem change_lines ChangeFits uid_of known (take (length all - place) (drop place all)) (Err e) → found ≡ fault_after place e → ReadsItems AreChangeLines lines (Err found)
read_stops changes known place all lines (Bad line) found same within items knows bad is =
    let front = take place all in
    let rest = take (length all - place) (drop place all) in
    let whole : front ++ rest ≡ lines = ap (λ behind. front ++ behind) (slice_behind all place within) ∙ take-append-drop place all ∙ same in
    let first : IsFirstFault AreChangeLines (front ++ rest) (length front + line) = fault change_lines ChangeFits ◌==◌ uid_of some_lines one_change changes front rest known line items knows bad in
    let here : IsFirstFault AreChangeLines lines (length front + line) = subst (λ (all : List (List ℕ)). IsFirstFault AreChangeLines all (length front + line)) whole first in
    let P : ItemFault → Type 0 = λ e. ReadsItems AreChangeLines lines (Err e) in
    subst P (ap (λ n. Bad (n + line)) (length-take-le place all within) ∙ sym is) here
read_stops changes known place all lines Memory found same within items knows bad is =
    let P : ItemFault → Type 0 = λ e. ReadsItems AreChangeLines lines (Err e) in
    subst P (sym is) tt

-- where a fault is told the lines are no list
pub only_memory : {T : Type 0} (AreLinesOf : T → List (List ℕ) → Type 0) (lines : List (List ℕ)) (e : ItemFault) (items : T) → ReadsItems AreLinesOf lines (Err e) → AreLinesOf items lines → e ≡ Memory
only_memory AreLinesOf lines (Bad line) items bad are = absurd (no_list AreLinesOf lines line items bad are)
only_memory AreLinesOf lines Memory items bad are = refl

-- all changes are read
pub all_read : (changes others : List Change) (place : ℕ) (all lines : List (List ℕ)) → all ≡ lines → length all ≤ place → AreChangeLines changes (take place all) → AreChangeLines others lines → changes ≡ others
all_read changes others place all lines same done items also =
    let whole : take place all ≡ lines = take_all place all done ∙ same in
    one_list change_lines ChangeFits ◌==◌ uid_of some_lines one_change changes others lines (subst (λ (lines : List (List ℕ)). AreChangeLines changes lines) whole items) also
