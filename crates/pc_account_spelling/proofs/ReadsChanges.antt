-- The fields of update lists are read as them.
use Rattle.std.proofs.Common.{◌≡◌, ℕ, zero, suc, ◌+◌, ◌-◌, ◌<◌, ◌≤◌, ◌&&◌, ◌||◌, ◌==◌, nat_lt, nat_le, Bool, true, false, cond, not, ◌⊎◌, inl, inr, List, [], ◌∷◌, ◌++◌, length, refl, sym, ap, subst, ◌∙◌, append_assoc, arith, true≢false}
use Rattle.std.specs.List.{filter, list_all, flat_map, AllByRecursion as Every}
use Rattle.std.proofs.lemmas.Bool.{ltb-true, ltb-false, lt-ltb, le-leb, eqb-true, eq-eqb, and_parts, and_from}
use Rattle.std.proofs.lemmas.List.{append-nil}
use Rattle.pc_account_history.specs.declared.kept.Listed.{Listed}
use Rattle.pc_tables.specs.Order.{Ordered}
use Rattle.pc_account_history.specs.Legal.{IsListedBefore, HasOtherUid}
use Rattle.pc_tables.proofs.Lists.{Every-weaker, Every-split}
use Rattle.pc_account_spelling.specs.Spelling.{listed_fields}
use Rattle.pc_fields.specs.Fields.{within}
use Rattle.pc_fields.specs.Fitting.{is_u32}
use Rattle.pc_account_spelling.specs.RecordForm.{is_entry_number, listed_fits}
use Rattle.pc_account_spelling.specs.RecordFormat.{last_number, least_stamp, above, is_listed, can_follow, changes_from}
use Rattle.pc_fields.proofs.Pushes.{is-within}
use Rattle.pc_fields.specs.Format.{ReadsAs}

-- ---- how many distinct uids there can be above one

same-count : (b c : Bool) (x : Listed) (xs ys : List Listed) → (b ≡ true → c ≡ true) → length xs ≤ length ys → length (cond b (x ∷ xs) xs) ≤ length (cond c (x ∷ ys) ys)
same-count true true x xs ys h le = omega arith
same-count true false x xs ys h le = absurd (true≢false (sym (h refl)))
same-count false true x xs ys h le = omega arith
same-count false false x xs ys h le = le

one-up : (uid at : ℕ) → (suc uid == at) ≡ false → nat_lt uid at ≡ true → nat_lt (suc uid) at ≡ true
one-up uid at other less = by_test (nat_lt (suc uid) at) refl
  where
    by_test : (b : Bool) → nat_lt (suc uid) at ≡ b → b ≡ true
    by_test true e = refl
    by_test false e =
        let le = ltb-false (suc uid) at e in
        let lt = ltb-true uid at less in
        let is : suc uid ≡ at = omega (arith, le, lt) in
        absurd (true≢false (sym (eq-eqb (suc uid) at is) ∙ other))

-- where the next uid isn't there, as many are above it
pub above-same : (uid : ℕ) (list : List Listed) → Every (λ (listed : Listed). (suc uid == listed.uid) ≡ false) list → above uid list ≤ above (suc uid) list
above-same uid [] h = omega arith
above-same uid (listed ∷ list) h = same-count (nat_lt uid listed.uid) (nat_lt (suc uid) listed.uid) listed (filter (λ (l : Listed). nat_lt uid l.uid) list) (filter (λ (l : Listed). nat_lt (suc uid) l.uid) list) (one-up uid listed.uid h.0) (above-same uid list h.1)

more-count : (b c d : Bool) (x : Listed) (xs ys : List Listed) → (d ≡ false → b ≡ true → c ≡ true) → (d ≡ true → length xs ≤ length ys) → length xs ≤ suc (length ys) → length (cond b (x ∷ xs) xs) ≤ suc (length (cond c (x ∷ ys) ys))
more-count true true d x xs ys up here le = omega arith
more-count true false true x xs ys up here le = let same = here refl in omega (arith, same)
more-count true false false x xs ys up here le = absurd (true≢false (sym (up refl refl)))
more-count false true d x xs ys up here le = omega arith
more-count false false d x xs ys up here le = le

-- at most one less is above the next uid
pub above-step : (uid : ℕ) (list : List Listed) → Ordered HasOtherUid list → above uid list ≤ suc (above (suc uid) list)
above-step uid [] distinct = omega arith
above-step uid (listed ∷ list) distinct =
    more-count (nat_lt uid listed.uid) (nat_lt (suc uid) listed.uid) (suc uid == listed.uid) listed (filter (λ (l : Listed). nat_lt uid l.uid) list) (filter (λ (l : Listed). nat_lt (suc uid) l.uid) list)
    (one-up uid listed.uid)
    (λ is. above-same uid list (subst (λ (at : ℕ). Every (λ (later : Listed). (at == later.uid) ≡ false) list) (sym (eqb-true (suc uid) listed.uid is)) distinct.0))
    (above-step uid list distinct.1)

none-above : (highest : ℕ) (list : List Listed) → Every (λ (listed : Listed). listed.uid ≤ highest) list → above highest list ≤ 0
none-above highest [] h = omega arith
none-above highest (listed ∷ list) h = by_test (nat_lt highest listed.uid) refl (none-above highest list h.1)
  where
    by_test : (b : Bool) → nat_lt highest listed.uid ≡ b → above highest list ≤ 0 → length (cond b (listed ∷ filter (λ (l : Listed). nat_lt highest l.uid) list) (filter (λ (l : Listed). nat_lt highest l.uid) list)) ≤ 0
    by_test true e rest = absurd (let lt = ltb-true highest listed.uid e in let le = h.0 in omega (arith, lt, le))
    by_test false e rest = rest

-- distinct uids up to the highest one
pub above-room : (more uid : ℕ) (list : List Listed) → Ordered HasOtherUid list → Every (λ (listed : Listed). listed.uid ≤ uid + more) list → above uid list ≤ more
above-room zero uid list distinct upto = none-above uid list (Every-weaker (λ (listed : Listed). listed.uid ≤ uid + 0) (λ (listed : Listed). listed.uid ≤ uid) (λ listed h. omega (arith, h)) list upto)
above-room (suc more) uid list distinct upto =
    let step = above-step uid list distinct in
    let rest = above-room more (suc uid) list distinct (Every-weaker (λ (listed : Listed). listed.uid ≤ uid + suc more) (λ (listed : Listed). listed.uid ≤ suc uid + more) (λ listed h. omega (arith, h)) list upto) in
    omega (arith, step, rest)

append-count : (b : Bool) (x : Listed) (xs ys : List Listed) (n : ℕ) → length ys ≡ length xs + n → length (cond b (x ∷ ys) ys) ≡ length (cond b (x ∷ xs) xs) + n
append-count true x xs ys n e = omega (arith, e)
append-count false x xs ys n e = e

pub above-append : (uid : ℕ) (list more : List Listed) → above uid (list ++ more) ≡ above uid list + above uid more
above-append uid [] more = omega arith
above-append uid (listed ∷ list) more = append-count (nat_lt uid listed.uid) listed (filter (λ (l : Listed). nat_lt uid l.uid) list) (filter (λ (l : Listed). nat_lt uid l.uid) (list ++ more)) (above uid more) (above-append uid list more)

pub above-all : (uid : ℕ) (list : List Listed) → Every (λ (listed : Listed). uid < listed.uid) list → above uid list ≡ length list
above-all uid [] h = refl
above-all uid (listed ∷ list) h = rw (lt-ltb uid listed.uid h.0) (ap suc (above-all uid list h.1))

-- ---- what comes behind

-- behind a stamp and a uid
abbrev pub IsBehind : ℕ → ℕ → Listed → Type 0
IsBehind stamp uid listed = (stamp < listed.stamp) ⊎ ((stamp ≡ listed.stamp) × (uid < listed.uid))

least-for : (stamp uid : ℕ) (listed : Listed) → IsBehind stamp uid listed → least_stamp stamp uid listed.uid ≤ listed.stamp
least-for stamp uid listed behind = by_test (nat_lt uid listed.uid) refl behind
  where
    by_test : (b : Bool) → nat_lt uid listed.uid ≡ b → IsBehind stamp uid listed → cond b stamp (suc stamp) ≤ listed.stamp
    by_test true e (inl lt) = omega (arith, lt)
    by_test true e (inr same) = omega (arith, same.0)
    by_test false e (inl lt) = omega (arith, lt)
    by_test false e (inr same) = absurd (let le = ltb-false uid listed.uid e in omega (arith, le, same.1))

higher-at-last : (stamp uid : ℕ) (listed : Listed) → stamp ≡ last_number → listed.stamp ≤ last_number → IsBehind stamp uid listed → uid < listed.uid
higher-at-last stamp uid listed is le (inl lt) = absurd (omega (arith, is, le, lt))
higher-at-last stamp uid listed is le (inr same) = same.1

-- those behind the last stamp have higher uids
all-higher : (stamp uid : ℕ) (rest : List Listed) → stamp ≡ last_number → Every (λ (listed : Listed). listed.stamp ≤ last_number) rest → Every (IsBehind stamp uid) rest → Every (λ (listed : Listed). uid < listed.uid) rest
all-higher stamp uid [] is upto behind = tt
all-higher stamp uid (listed ∷ rest) is upto behind = (higher-at-last stamp uid listed is upto.0 behind.0, all-higher stamp uid rest is upto.1 behind.1)

before-behind : (listed later : Listed) → IsListedBefore listed later → IsBehind listed.stamp listed.uid later
before-behind listed later (inl lt) = inl lt
before-behind listed later (inr same) = inr same

not-among : (uid : ℕ) (list : List Listed) → Every (λ (listed : Listed). (listed.uid == uid) ≡ false) list → is_listed uid list ≡ false
not-among uid [] h = refl
not-among uid (listed ∷ list) h = rw h.0 (not-among uid list h.1)

distinct-from : (before : List Listed) (listed : Listed) (rest : List Listed) → Ordered HasOtherUid (before ++ listed ∷ rest) → Every (λ (earlier : Listed). (earlier.uid == listed.uid) ≡ false) before
distinct-from [] listed rest h = tt
distinct-from (earlier ∷ before) listed rest h = ((Every-split (HasOtherUid earlier) before (listed ∷ rest) h.0).1.0, distinct-from before listed rest h.1)

follow-less : (highest count : ℕ) (list : List Listed) (uid least at : ℕ) → least ≤ at → at ≤ last_number → (at ≡ last_number → count + above uid list + uid ≤ highest) → can_follow highest count list uid least ≡ true
follow-less highest count list uid least at le last room = by_test (nat_lt least last_number) refl
  where
    by_test : (b : Bool) → nat_lt least last_number ≡ b → (b || ((least == last_number) && nat_le (count + above uid list + uid) highest)) ≡ true
    by_test true e = refl
    by_test false e =
        let ge = ltb-false least last_number e in
        rw (eq-eqb least last_number (omega (arith, ge, le, last)), le-leb (count + above uid list + uid) highest (room (omega (arith, ge, le, last)))) refl

upto-last : (listed : Listed) → listed_fits listed ≡ true → listed.stamp ≤ last_number
upto-last listed fit =
    let parts = and_parts (is_u32 listed.uid) (is_entry_number listed.stamp) fit in
    let lt = ltb-true listed.stamp 9223372036854775808 parts.1 in
    omega (arith, lt)

all-upto-last : (list : List Listed) → list_all listed_fits list ≡ true → Every (λ (listed : Listed). listed.stamp ≤ last_number) list
all-upto-last [] fit = tt
all-upto-last (listed ∷ list) fit = let parts = and_parts (listed_fits listed) (list_all listed_fits list) fit in (upto-last listed parts.0, all-upto-last list parts.1)

-- what is to be read is behind what was read
pub record AreLeft (highest stamp uid : ℕ) (before rest : List Listed) : Type 0 where
  pub in_order : Ordered IsListedBefore rest
  pub behind : Every (IsBehind stamp uid) rest
  pub distinct : Ordered HasOtherUid (before ++ rest)
  pub given : Every (λ (listed : Listed). (0 < listed.uid) × (listed.uid ≤ highest)) (before ++ rest)
  pub fit : list_all listed_fits rest ≡ true

-- the uid has room for those behind it, where its stamp is the last one
room-behind : (highest stamp uid : ℕ) (before : List Listed) (listed : Listed) (rest : List Listed) → AreLeft highest stamp uid before (listed ∷ rest) → listed.stamp ≡ last_number → length rest + above listed.uid before + listed.uid ≤ highest
room-behind highest stamp uid before listed rest left is =
    let here = (Every-split (λ (l : Listed). (0 < l.uid) × (l.uid ≤ highest)) before (listed ∷ rest) left.given).1.0 in
    let fits = and_parts (listed_fits listed) (list_all listed_fits rest) left.fit in
    let higher = all-higher listed.stamp listed.uid rest is (all-upto-last rest fits.1) (Every-weaker (IsListedBefore listed) (IsBehind listed.stamp listed.uid) (before-behind listed) rest left.in_order.0) in
    let counted = above-all listed.uid rest higher in
    let appended = above-append listed.uid before (listed ∷ rest) in
    let more = highest - listed.uid in
    let upto = Every-weaker (λ (l : Listed). (0 < l.uid) × (l.uid ≤ highest)) (λ (l : Listed). l.uid ≤ listed.uid + more) (λ l h. omega (arith, h.1, here.1)) (before ++ listed ∷ rest) left.given in
    let room = above-room more listed.uid (before ++ listed ∷ rest) left.distinct upto in
    let skip = above-less-self listed rest in
    omega (arith, counted, appended, room, here.1, skip)
  where
    above-less-self : (listed : Listed) (rest : List Listed) → above listed.uid rest ≤ above listed.uid (listed ∷ rest)
    above-less-self listed rest = by_test (nat_lt listed.uid listed.uid)
      where
        by_test : (b : Bool) → length (filter (λ (l : Listed). nat_lt listed.uid l.uid) rest) ≤ length (cond b (listed ∷ filter (λ (l : Listed). nat_lt listed.uid l.uid) rest) (filter (λ (l : Listed). nat_lt listed.uid l.uid) rest))
        by_test true = omega arith
        by_test false = omega arith

and-free : (a b c : Bool) → a ≡ true → b ≡ false → c ≡ true → (a && not b && c) ≡ true
and-free true false true f g h = refl
and-free true false false f g h = absurd (true≢false (sym h))
and-free true true c f g h = absurd (true≢false g)
and-free false b c f g h = absurd (true≢false (sym f))

pub reads_changes : (highest : ℕ) (rest : List Listed) (stamp uid : ℕ) (before : List Listed) → AreLeft highest stamp uid before rest → ReadsAs (changes_from highest (length rest) stamp uid before) (flat_map listed_fields rest) (before ++ rest)
reads_changes highest [] stamp uid before left = (refl, append-nil before)
reads_changes highest (listed ∷ rest) stamp uid before left =
    let fits = and_parts (listed_fits listed) (list_all listed_fits rest) left.fit in
    let numbers = and_parts (is_u32 listed.uid) (is_entry_number listed.stamp) fits.0 in
    let stamp-lt = ltb-true listed.stamp 9223372036854775808 numbers.1 in
    let here = (Every-split (λ (l : Listed). (0 < l.uid) × (l.uid ≤ highest)) before (listed ∷ rest) left.given).1.0 in
    let low = least-for stamp uid listed left.behind.0 in
    let last : listed.stamp ≤ last_number = omega (arith, stamp-lt) in
    let room = room-behind highest stamp uid before listed rest left in
    let free = not-among listed.uid before (distinct-from before listed rest left.distinct) in (
      listed.uid,
      _,
      numbers.0,
      and-free (within 1 highest listed.uid) (is_listed listed.uid before) (can_follow highest (length rest) before listed.uid (least_stamp stamp uid listed.uid)) (is-within 1 highest listed.uid (omega (arith, here.0)) here.1) free (follow-less highest (length rest) before listed.uid (least_stamp stamp uid listed.uid) listed.stamp low last room),
      refl,
      (
        listed.stamp,
        _,
        lt-ltb listed.stamp 18446744073709551616 (omega (arith, stamp-lt)),
        and_from (nat_le (least_stamp stamp uid listed.uid) listed.stamp) (can_follow highest (length rest) before listed.uid listed.stamp) (le-leb (least_stamp stamp uid listed.uid) listed.stamp low) (follow-less highest (length rest) before listed.uid listed.stamp listed.stamp (omega arith) last room),
        refl,
        subst (ReadsAs (changes_from highest (length rest) listed.stamp listed.uid (before ++ listed ∷ [])) (flat_map listed_fields rest)) (append_assoc before (listed ∷ []) rest)
            (reads_changes highest rest listed.stamp listed.uid (before ++ listed ∷ [])
            (record {
              in_order = left.in_order.1;
              behind = Every-weaker (IsListedBefore listed) (IsBehind listed.stamp listed.uid) (before-behind listed) rest left.in_order.0;
              distinct = subst (Ordered HasOtherUid) (sym (append_assoc before (listed ∷ []) rest)) left.distinct;
              given = subst (Every (λ (l : Listed). (0 < l.uid) × (l.uid ≤ highest))) (sym (append_assoc before (listed ∷ []) rest)) left.given;
              fit = fits.1;
            })),
      ),
    )
