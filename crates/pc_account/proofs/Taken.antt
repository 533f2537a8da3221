-- The uids that a client takes.
use Rattle.std.proofs.Common.{◌≡◌, ℕ, zero, suc, ◌+◌, ◌<◌, ◌≤◌, ◌==◌, Bool, true, false, cond, not, ◌&&◌, ◌||◌, nat_lt, nat_le, unwrap_or, lt-ltb, ◌⊎◌, inl, inr, List, [], ◌∷◌, ◌++◌, length, fold, take, insert, slice_get, get_or, Option, None, Some, is_some, option_map, refl, sym, ◌∙◌, ap, subst, arith, true≢false, append_assoc, append-nil}
use Rattle.std.specs.List.{filter, find, list_any, position, prefix_len, position_or_len, AllByRecursion as Every}
use Rattle.std.proofs.lemmas.List.{take_more}
use Rattle.pc_tables.proofs.Options.{some-from_map_or}
use Rattle.std.specs.Option.{option_map_or}
use Rattle.std.specs.Cmp.{nat_eq_equiv}
use Rattle.std.proofs.lemmas.Bool.{ne_eqb, eqb-true, eq-eqb, cases_eq, cases_order, and_parts}
use Rattle.pc_account_history.specs.declared.kept.Listed.{Listed}
use Rattle.pc_tables.specs.Table.{same, numbers}
use Rattle.pc_account_history.specs.Record.{MailboxRecord, AccountRecord, list_of, stamp_at}
use Rattle.pc_account_history.specs.Legal.{IsChange, AreListsOf, IsMailbox, IsWellFormed}
use Rattle.std.specs.Map.{lookup}
use Rattle.pc_account_history.specs.Known.{Known, said_by}
use Rattle.pc_account.proofs.TableSums.{Every-lookup}
use Rattle.pc_account.proofs.Changed.{box-formed}
use Rattle.pc_account.proofs.Found.{live-found}
use Rattle.pc_tables.proofs.Lists.{filter-agree, filter-false, Every-filter, Every-from, Every-weaker}
use Rattle.pc_tables.proofs.Numbers.{Every-numbers}
use Rattle.pc_account.specs.Plan.{is_taken, inserted, with_taken, all_taken, taken_uids, is_shown}
use Rattle.pc_tables.specs.Order.{rises_from}

-- ---- a uid among those that pass a test

le-false : (a b : ℕ) → b < a → nat_le a b ≡ false
le-false a b h = grind (arith, h)

le-true : (a b : ℕ) → a ≤ b → nat_le a b ≡ true
le-true a b h = grind (arith, h)

insert-first : (uid : ℕ) (uids : List ℕ) → Every (λ (later : ℕ). uid < later) uids → inserted uid uids ≡ uid ∷ uids
insert-first uid [] h = refl
insert-first uid (x ∷ uids) h = let above = h.0 in rw (le-true uid x (omega (arith, above)), ne_eqb x uid (λ e. omega (arith, above, e))) refl

-- at the uid itself, which is the first of the numbers
at-head : (head : Bool) (uid : ℕ) (rest : List ℕ) → inserted uid rest ≡ uid ∷ rest → uid ∷ rest ≡ inserted uid (cond head (uid ∷ rest) rest)
at-head true uid rest h = rw (le-true uid uid (omega arith), eq-eqb uid uid refl) refl
at-head false uid rest h = sym h

-- past a number below the uid
past-head : (head : Bool) (first uid : ℕ) (with_uid rest : List ℕ) → first < uid → with_uid ≡ inserted uid rest → cond head (first ∷ with_uid) with_uid ≡ inserted uid (cond head (first ∷ rest) rest)
past-head true first uid with_uid rest below h = rw (le-false uid first below) (ap (λ (l : List ℕ). first ∷ l) h)
past-head false first uid with_uid rest below h = h

-- the numbers past a uid pass the test as before
test-past : (q : ℕ → Bool) (uid : ℕ) (all : List ℕ) → Every (λ (later : ℕ). uid < later) all → Every (λ other. ((other == uid) || q other) ≡ q other) all
test-past q uid [] h = tt
test-past q uid (x ∷ all) h = let above = h.0 in (rw (ne_eqb x uid (λ e. omega (arith, above, e))) refl, test-past q uid all h.1)

first-or-later : (low uid : ℕ) → low < uid → (suc low ≡ uid) ⊎ (suc low < uid)
first-or-later low uid above = elim (cases_eq (suc low) uid) [ inl e ↦ inl e | inr n ↦ inr (omega (arith, above, n)) ]

at-first : (q : ℕ → Bool) (low count : ℕ) → filter (λ other. (other == suc low) || q other) (numbers low (suc count)) ≡ inserted (suc low) (filter q (numbers low (suc count)))
at-first q low count =
    let later = Every-numbers (λ (later : ℕ). suc low < later) (suc low) count (λ n a b. a) in
    let rest = filter-agree (λ other. (other == suc low) || q other) q (numbers (suc low) count) (test-past q (suc low) (numbers (suc low) count) later) in
    let first = insert-first (suc low) (filter q (numbers (suc low) count)) (Every-filter (λ (n : ℕ). suc low < n) q (numbers (suc low) count) later) in
    rw (eq-eqb (suc low) (suc low) refl) (ap (λ (l : List ℕ). suc low ∷ l) rest ∙ at-head (q (suc low)) (suc low) (filter q (numbers (suc low) count)) first)

pub filter-inserted : (q : ℕ → Bool) (uid low count : ℕ) → low < uid → uid ≤ low + count → filter (λ other. (other == uid) || q other) (numbers low count) ≡ inserted uid (filter q (numbers low count))
filter-inserted q uid low zero above below = absurd (omega (arith, above, below))
filter-inserted q uid low (suc count) above below =
    elim (first-or-later low uid above) [
      | inl here ↦ subst (λ (u : ℕ). filter (λ other. (other == u) || q other) (numbers low (suc count)) ≡ inserted u (filter q (numbers low (suc count)))) here (at-first q low count)
      | inr later ↦
          rw (ne_eqb (suc low) uid (λ e. omega (arith, e, later))) (past-head (q (suc low)) (suc low) uid (filter (λ other. (other == uid) || q other) (numbers (suc low) count)) (filter q (numbers (suc low) count)) later (filter-inserted q uid (suc low) count later (omega (arith, below))))
    ]

-- ---- a change more that was shown

module _ (client : List ℕ) (box : MailboxRecord) (low high : ℕ) where
  abbrev between : ℕ → Bool
  between uid = nat_le low uid && nat_le uid high

  abbrev shows : List Listed → ℕ → Bool
  shows shown uid = option_map_or (λ stamp. list_any (λ (listed : Listed). listed.uid == uid && listed.stamp == stamp) shown) (stamp_at uid (list_of box client)) false

  abbrev pub passes : List Listed → ℕ → Bool
  passes shown uid = between uid && shows shown uid

  any-more : (p : Listed → Bool) (front : List Listed) (more : Listed) → list_any p (front ++ more ∷ []) ≡ (p more || list_any p front)
  any-more p [] more = elim (p more) as (λ b. (b || false) ≡ (b || false)) [ true ↦ refl | false ↦ refl ]
  any-more p (x ∷ front) more = ap (λ b. p x || b) (any-more p front more) ∙ turn (p x) (p more) (list_any p front)
    where
      turn : (a b c : Bool) → (a || (b || c)) ≡ (b || (a || c))
      turn true true c = refl
      turn true false c = refl
      turn false b c = refl

  flip : (a b : ℕ) → (a == b) ≡ (b == a)
  flip a b = nat_eq_equiv.symm a b

  there-step : (b any hit : Bool) → (b && (hit || any)) ≡ ((b && hit) || (b && any))
  there-step true any hit = refl
  there-step false any hit = refl

  -- at the uid of the change
  at-uid : (front : List Listed) (more : Listed) (found : Option ℕ) (b : Bool) → (b && option_map_or (λ stamp. list_any (λ (listed : Listed). listed.uid == more.uid && listed.stamp == stamp) (front ++ more ∷ [])) found false) ≡ ((b && option_map_or (λ stamp. stamp == more.stamp) found false) || (b && option_map_or (λ stamp. list_any (λ (listed : Listed). listed.uid == more.uid && listed.stamp == stamp) front) found false))
  at-uid front more None b = there-step b false false
  at-uid front more (Some stamp) b =
      ap (λ c. b && c) (any-more (λ (listed : Listed). listed.uid == more.uid && listed.stamp == stamp) front more)
      ∙ rw (eq-eqb more.uid more.uid refl, flip more.stamp stamp) (there-step b (list_any (λ (listed : Listed). listed.uid == more.uid && listed.stamp == stamp) front) (stamp == more.stamp))

  -- at another uid
  at-other : (front : List Listed) (more : Listed) (uid : ℕ) (found : Option ℕ) (b : Bool) → (more.uid == uid) ≡ false → (b && option_map_or (λ stamp. list_any (λ (listed : Listed). listed.uid == uid && listed.stamp == stamp) (front ++ more ∷ [])) found false) ≡ (b && option_map_or (λ stamp. list_any (λ (listed : Listed). listed.uid == uid && listed.stamp == stamp) front) found false)
  at-other front more uid None b e = refl
  at-other front more uid (Some stamp) b e =
      ap (λ c. b && c) (any-more (λ (listed : Listed). listed.uid == uid && listed.stamp == stamp) front more ∙ rw e refl)

  pub passes-more : (front : List Listed) (more : Listed) (uid : ℕ) → passes (front ++ more ∷ []) uid ≡ (((uid == more.uid) && is_taken client box low high more) || passes front uid)
  passes-more front more uid =
      elim (cases_eq uid more.uid) [
        | inl here ↦ rw (eq-eqb uid more.uid here, here) (at-uid front more (stamp_at more.uid (list_of box client)) (between more.uid))
        | inr other ↦ rw (ne_eqb uid more.uid other) (at-other front more uid (stamp_at uid (list_of box client)) (between uid) (ne_eqb more.uid uid (λ e. other (sym e))))
      ]

pub one-more : (q : ℕ → Bool) (uid highest : ℕ) (taken : Bool) → (taken ≡ true → (0 < uid) × (uid ≤ highest)) → filter (λ other. ((other == uid) && taken) || q other) (numbers 0 highest) ≡ cond taken (inserted uid (filter q (numbers 0 highest))) (filter q (numbers 0 highest))
one-more q uid highest true given =
    let parts = given refl in
    filter-agree (λ other. ((other == uid) && true) || q other) (λ other. (other == uid) || q other) (numbers 0 highest) (Every-from (λ other. (((other == uid) && true) || q other) ≡ ((other == uid) || q other)) (λ other. ap (λ b. b || q other) (and-true (other == uid))) (numbers 0 highest))
    ∙ filter-inserted q uid 0 highest parts.0 (omega (arith, parts.1))
  where
    and-true : (b : Bool) → (b && true) ≡ b
    and-true true = refl
    and-true false = refl
one-more q uid highest false given =
    filter-agree (λ other. ((other == uid) && false) || q other) q (numbers 0 highest) (Every-from (λ other. (((other == uid) && false) || q other) ≡ q other) (λ other. and-false (other == uid) (q other)) (numbers 0 highest))
  where
    and-false : (b c : Bool) → ((b && false) || c) ≡ c
    and-false true c = refl
    and-false false c = refl

-- ---- the place of a uid

pub inserted-at : (uid : ℕ) (uids : List ℕ) → cond (option_map_or (λ other. other == uid) (slice_get uids (position_or_len (λ other. nat_le uid other) uids)) false) uids (insert uids (position_or_len (λ other. nat_le uid other) uids) uid) ≡ inserted uid uids
inserted-at uid [] = refl
inserted-at uid (x ∷ uids) = let e : 1 + position_or_len (λ other. nat_le uid other) uids ≡ suc (position_or_len (λ other. nat_le uid other) uids) = omega arith in rw e (at-step (nat_le uid x) (inserted-at uid uids))
  where
    pushed : (b : Bool) (rest : List ℕ) (m : ℕ) → cond b (x ∷ rest) (x ∷ insert rest m uid) ≡ x ∷ cond b rest (insert rest m uid)
    pushed true rest m = refl
    pushed false rest m = refl

    at-step : (b : Bool) → cond (option_map_or (λ other. other == uid) (slice_get uids (position_or_len (λ other. nat_le uid other) uids)) false) uids (insert uids (position_or_len (λ other. nat_le uid other) uids) uid) ≡ inserted uid uids → cond (option_map_or (λ other. other == uid) (slice_get (x ∷ uids) (cond (not b) (suc (position_or_len (λ other. nat_le uid other) uids)) 0)) false) (x ∷ uids) (insert (x ∷ uids) (cond (not b) (suc (position_or_len (λ other. nat_le uid other) uids)) 0) uid) ≡ cond b (cond (x == uid) (x ∷ uids) (uid ∷ x ∷ uids)) (x ∷ inserted uid uids)
    at-step true ih = refl
    at-step false ih = pushed (option_map_or (λ other. other == uid) (slice_get uids (position_or_len (λ other. nat_le uid other) uids)) false) uids (position_or_len (λ other. nat_le uid other) uids) ∙ ap (λ (l : List ℕ). x ∷ l) ih

pub stays-there : (uid place : ℕ) (uids items more : List ℕ) → place ≡ position_or_len (λ other. nat_le uid other) items → items ≡ uids → more ≡ uids → true ≡ option_map_or (λ other. other == uid) (slice_get more place) false → uids ≡ inserted uid uids
stays-there uid place uids items more p e f h =
    let there = h ∙ (λ i. option_map_or (λ other. other == uid) (slice_get (f i) ((p ∙ ap (position_or_len (λ other. nat_le uid other)) e) i)) false) in
    ap (λ b. cond b uids (insert uids (position_or_len (λ other. nat_le uid other) uids) uid)) there ∙ inserted-at uid uids

pub goes-there : (uid place : ℕ) (uids items more : List ℕ) → place ≡ position_or_len (λ other. nat_le uid other) items → items ≡ uids → more ≡ uids → false ≡ option_map_or (λ other. other == uid) (slice_get more place) false → insert uids place uid ≡ inserted uid uids
goes-there uid place uids items more p e f h =
    let at = p ∙ ap (position_or_len (λ other. nat_le uid other)) e in
    let there = h ∙ (λ i. option_map_or (λ other. other == uid) (slice_get (f i) (at i)) false) in
    ap (λ n. insert uids n uid) at ∙ ap (λ b. cond b uids (insert uids (position_or_len (λ other. nat_le uid other) uids) uid)) there ∙ inserted-at uid uids

prefix-short : (p : ℕ → Bool) (xs : List ℕ) → prefix_len p xs ≤ length xs
prefix-short p [] = omega arith
prefix-short p (x ∷ xs) = elim (p x) as (λ b. cond b (1 + prefix_len p xs) 0 ≤ suc (length xs)) [ true ↦ (let rest = prefix-short p xs in omega (arith, rest)) | false ↦ omega arith ]

place-step : (place long : ℕ) (found : Option ℕ) → place ≤ long → found ≡ cond (nat_lt place long) (Some place) None → unwrap_or found long ≡ place
place-step place long found short e = elim (cases_order place long) [
  | inl here ↦ (let n : nat_lt place long ≡ false = grind (arith, here) in rw (e, n) (sym here))
  | inr o ↦ elim o [
    | inl below ↦ (let n : nat_lt place long ≡ true = lt-ltb place long below in rw (e, n) refl)
    | inr above ↦ absurd (omega (arith, above, short))
  ]
]

-- the place that is found, or else the end
pub place-found : (uid : ℕ) (uids : List ℕ) (found : Option ℕ) → found ≡ position (λ other. nat_le uid other) uids → unwrap_or found (length uids) ≡ position_or_len (λ other. nat_le uid other) uids
place-found uid uids found e = place-step (position_or_len (λ other. nat_le uid other) uids) (length uids) found (prefix-short (λ other. not (nat_le uid other)) uids) e

-- ---- all changes that were shown

fold-more : (client : List ℕ) (box : MailboxRecord) (low high : ℕ) (start : List ℕ) (front : List Listed) (more : Listed) → fold (with_taken client box low high) start (front ++ more ∷ []) ≡ with_taken client box low high (fold (with_taken client box low high) start front) more
fold-more client box low high start [] more = refl
fold-more client box low high start (x ∷ front) more = fold-more client box low high (with_taken client box low high start x) front more

pub all-taken-next : (client : List ℕ) (box : MailboxRecord) (low high : ℕ) (shown : List Listed) (i : ℕ) (d : Listed) → i < length shown → all_taken client box low high (take (i + 1) shown) ≡ with_taken client box low high (all_taken client box low high (take i shown)) (get_or shown i d)
all-taken-next client box low high shown i d lt = rw (take_more shown i d lt) (fold-more client box low high [] (take i shown) (get_or shown i d))

taken-given : (client : List ℕ) (box : MailboxRecord) (low high : ℕ) (more : Listed) → ((uid : ℕ) → is_some (stamp_at uid (list_of box client)) ≡ true → (0 < uid) × (uid ≤ box.highest)) → is_taken client box low high more ≡ true → (0 < more.uid) × (more.uid ≤ box.highest)
taken-given client box low high more given h = given more.uid (some-from_map_or (λ stamp. stamp == more.stamp) (stamp_at more.uid (list_of box client)) (and_parts (nat_le low more.uid && nat_le more.uid high) (option_map_or (λ stamp. stamp == more.stamp) (stamp_at more.uid (list_of box client)) false) h).1)

from-front : (client : List ℕ) (box : MailboxRecord) (low high : ℕ) → ((uid : ℕ) → is_some (stamp_at uid (list_of box client)) ≡ true → (0 < uid) × (uid ≤ box.highest)) → (front rest : List Listed) → fold (with_taken client box low high) (filter (passes client box low high front) (numbers 0 box.highest)) rest ≡ filter (passes client box low high (front ++ rest)) (numbers 0 box.highest)
from-front client box low high given front [] = ap (λ (shown : List Listed). filter (passes client box low high shown) (numbers 0 box.highest)) (sym (append-nil front))
from-front client box low high given front (more ∷ rest) =
    let next =
    filter-agree (passes client box low high (front ++ more ∷ [])) (λ uid. ((uid == more.uid) && is_taken client box low high more) || passes client box low high front uid) (numbers 0 box.highest) (Every-from (λ uid. passes client box low high (front ++ more ∷ []) uid ≡ (((uid == more.uid) && is_taken client box low high more) || passes client box low high front uid)) (passes-more client box low high front more) (numbers 0 box.highest))
    ∙ one-more (passes client box low high front) more.uid box.highest (is_taken client box low high more) (taken-given client box low high more given) in
    ap (λ (start : List ℕ). fold (with_taken client box low high) start rest) (sym next)
    ∙ from-front client box low high given (front ++ more ∷ []) rest
    ∙ ap (λ (shown : List Listed). filter (passes client box low high shown) (numbers 0 box.highest)) (append_assoc front (more ∷ []) rest)

none-passes : (client : List ℕ) (box : MailboxRecord) (low high uid : ℕ) → passes client box low high [] uid ≡ false
none-passes client box low high uid = no-stamp (stamp_at uid (list_of box client)) (nat_le low uid && nat_le uid high)
  where
    no-stamp : (found : Option ℕ) (b : Bool) → (b && option_map_or (λ (_ : ℕ). false) found false) ≡ false
    no-stamp None true = refl
    no-stamp None false = refl
    no-stamp (Some stamp) true = refl
    no-stamp (Some stamp) false = refl

pub all-taken : (client : List ℕ) (box : MailboxRecord) (low high : ℕ) (shown : List Listed) → ((uid : ℕ) → is_some (stamp_at uid (list_of box client)) ≡ true → (0 < uid) × (uid ≤ box.highest)) → all_taken client box low high shown ≡ filter (passes client box low high shown) (numbers 0 box.highest)
all-taken client box low high shown given =
    ap (λ (start : List ℕ). fold (with_taken client box low high) start shown) (sym (filter-agree (passes client box low high []) (λ _. false) (numbers 0 box.highest) (Every-from (λ uid. passes client box low high [] uid ≡ false) (none-passes client box low high) (numbers 0 box.highest)) ∙ filter-false (numbers 0 box.highest)))
    ∙ from-front client box low high given [] shown

-- ---- what is listed was given

lists-given : (number highest : ℕ) (clients : List (List ℕ × ℕ)) (lists : List (List ℕ × List Listed)) → AreListsOf number highest clients lists → Every (λ (entry : List ℕ × List Listed). Every (λ (listed : Listed). (0 < listed.uid) × (listed.uid ≤ highest)) entry.1) lists
lists-given number highest [] [] h = tt
lists-given number highest [] (list ∷ lists) h = absurd h
lists-given number highest (client ∷ clients) [] h = absurd h
lists-given number highest (client ∷ clients) (list ∷ lists) h = (Every-weaker (IsChange number highest client.1) (λ (listed : Listed). (0 < listed.uid) × (listed.uid ≤ highest)) (λ listed good. (good.positive, good.given)) list.1 h.1.changes, lists-given number highest clients lists h.2)

stamp-step : (b : Bool) (x : Listed) (rest : Option Listed) (uid highest : ℕ) → (x.uid == uid) ≡ b → (0 < x.uid) × (x.uid ≤ highest) → (is_some (option_map (λ (l : Listed). l.stamp) rest) ≡ true → (0 < uid) × (uid ≤ highest)) → is_some (option_map (λ (l : Listed). l.stamp) (cond b (Some x) rest)) ≡ true → (0 < uid) × (uid ≤ highest)
stamp-step true x rest uid highest e good ih h = subst (λ (n : ℕ). (0 < n) × (n ≤ highest)) (eqb-true x.uid uid e) good
stamp-step false x rest uid highest e good ih h = ih h

stamp-given : (uid highest : ℕ) (list : List Listed) → Every (λ (listed : Listed). (0 < listed.uid) × (listed.uid ≤ highest)) list → is_some (stamp_at uid list) ≡ true → (0 < uid) × (uid ≤ highest)
stamp-given uid highest [] all h = absurd (true≢false (sym h))
stamp-given uid highest (x ∷ list) all h = stamp-step (x.uid == uid) x (find (λ (l : Listed). l.uid == uid) list) uid highest refl all.0 (λ g. stamp-given uid highest list all.1 g) h

found-given : (uid highest : ℕ) (found : Option (List Listed)) → ((list : List Listed) → Some list ≡ found → Every (λ (listed : Listed). (0 < listed.uid) × (listed.uid ≤ highest)) list) → is_some (stamp_at uid (unwrap_or found [])) ≡ true → (0 < uid) × (uid ≤ highest)
found-given uid highest None all h = absurd (true≢false (sym h))
found-given uid highest (Some list) all h = stamp-given uid highest list (all list refl) h

pub listed-given : (number : ℕ) (clients : List (List ℕ × ℕ)) (box : MailboxRecord) (client : List ℕ) → IsMailbox number clients box → (uid : ℕ) → is_some (stamp_at uid (list_of box client)) ≡ true → (0 < uid) × (uid ≤ box.highest)
listed-given number clients box client good uid h = found-given uid box.highest (lookup (same client) box.lists) (λ list found. Every-lookup (λ (l : List Listed). Every (λ (listed : Listed). (0 < listed.uid) × (listed.uid ≤ box.highest)) l) (same client) box.lists (lists-given number box.highest clients box.lists good.lists) list found) h

-- the uids that are taken are those of the plan
pub taken-planned : (r : AccountRecord) (number : ℕ) (client mailbox : List ℕ) (low high : ℕ) (shown : List Listed) (box : MailboxRecord) → IsWellFormed r number → Some box ≡ lookup (same mailbox) r.live → all_taken client box low high shown ≡ taken_uids (said_by r number) client mailbox low high shown
taken-planned r number client mailbox low high shown box formed found =
    all-taken client box low high shown (listed-given number r.clients box client (box-formed r number formed mailbox box found))
    ∙ ap (λ (b : MailboxRecord). filter (passes client b low high shown) (numbers 0 b.highest)) (sym (live-found r mailbox box found))

-- ---- the entry of what is taken is allowed

rises-filtered : (p : ℕ → Bool) (low first count : ℕ) → low ≤ first → rises_from low (filter p (numbers first count)) ≡ true
rises-filtered p low first zero le = refl
rises-filtered p low first (suc count) le = elim (p (suc first)) as (λ b. rises_from low (cond b (suc first ∷ filter p (numbers (suc first) count)) (filter p (numbers (suc first) count))) ≡ true) [
  | true ↦ and-both (nat_lt low (suc first)) (rises_from (suc first) (filter p (numbers (suc first) count))) (lt-ltb low (suc first) (omega (arith, le))) (rises-filtered p (suc first) (suc first) count (omega arith))
  | false ↦ rises-filtered p low (suc first) count (omega (arith, le))
]
  where
    and-both : (a b : Bool) → a ≡ true → b ≡ true → (a && b) ≡ true
    and-both a b h g = rw (h, g) refl

pub taken-rise : (k : Known) (client mailbox : List ℕ) (low high : ℕ) (shown : List Listed) → rises_from 0 (taken_uids k client mailbox low high shown) ≡ true
taken-rise k client mailbox low high shown = rises-filtered (λ uid. nat_le low uid && nat_le uid high && is_shown k client mailbox shown uid) 0 0 (k.highest mailbox) (omega arith)
