-- The greater a mail is, the less space it leaves: the greatest size with which it may wait is found by halves.
use Rattle.std.proofs.Common.{◌≡◌, ℕ, zero, suc, ◌+◌, ◌-◌, ◌<◌, ◌≤◌, Bool, true, false, cond, ◌&&◌, ◌||◌, ◌==◌, not, nat_lt, nat_le, List, refl, sym, ◌∙◌, arith, true≢false}
use Rattle.std.specs.List.{list_all}
use Rattle.std.proofs.lemmas.Bool.{leb-true, leb-false, le-leb, and_parts, and_from}
use Rattle.pc_tables.proofs.Totals.{total-le}
use Rattle.pc_tables.proofs.Lists.{list_all-weaker}
use Rattle.pc_office_history.specs.declared.limits.TheConstants.{MOST_WAITING_WEIGHT}
use Rattle.pc_office_spelling.specs.Spaces.{space_beside, greatest}
use Rattle.pc_office_spelling.proofs.Spaces.{greatest-most, greatest-least}
use Rattle.pc_office_records.specs.declared.loading.kept.Row.{Row}
use Rattle.pc_office_records.specs.ReadKept.{space_in, upto_in, suits_in, follow_in, is_light_in, may_in}

-- ---- tests that stay true

or-up : (a b c : Bool) → (b ≡ true → c ≡ true) → (a || b) ≡ true → (a || c) ≡ true
or-up true b c f h = refl
or-up false b c f h = f h

and-up : (a b c d : Bool) → (a ≡ true → c ≡ true) → (b ≡ true → d ≡ true) → (a && b) ≡ true → (c && d) ≡ true
and-up a b c d f g h = let parts = and_parts a b h in and_from c d (f parts.0) (g parts.1)

le-up : (a b c : ℕ) → b ≤ c → nat_le a b ≡ true → nat_le a c ≡ true
le-up a b c le h = let low = leb-true a b h in le-leb a c (omega (arith, le, low))

le-down : (a b c : ℕ) → a ≤ b → nat_le b c ≡ true → nat_le a c ≡ true
le-down a b c le h = let low = leb-true b c h in le-leb a c (omega (arith, le, low))

-- ---- less space behind a greater mail

module _ (size more : ℕ) (le : size ≤ more) where
  space-less : (row : Row) → space_in more row ≤ space_in size row
  space-less row = by-case row.taken
    where
      by-case : (b : Bool) → cond b (space_beside (suc row.standing.mails) (row.standing.weight + (more + 256))) (space_beside row.standing.mails row.standing.weight)
          ≤ cond b (space_beside (suc row.standing.mails) (row.standing.weight + (size + 256))) (space_beside row.standing.mails row.standing.weight)
      by-case true = omega (arith, le)
      by-case false = omega arith

  upto-less : (rows : List Row) (number : ℕ) → upto_in rows more number ≤ upto_in rows size number
  upto-less rows number = total-le (λ (row : Row). cond (nat_lt row.standing.noted number) (space_in size row) 0) (λ (row : Row). cond (nat_lt row.standing.noted number) (space_in more row) 0) rows (λ row. by-case row (nat_lt row.standing.noted number))
    where
      by-case : (row : Row) (b : Bool) → cond b (space_in more row) 0 ≤ cond b (space_in size row) 0
      by-case row true = space-less row
      by-case row false = omega arith

  suits-less : (rows : List Row) (accepted count : ℕ) (row : Row) → suits_in rows more accepted count 0 row ≡ true → suits_in rows size accepted count 0 row ≡ true
  suits-less rows accepted count row = or-up (nat_le (row.standing.noted + count) accepted) (nat_le (row.standing.noted + count + 0) (accepted + upto_in rows more row.standing.noted)) (nat_le (row.standing.noted + count + 0) (accepted + upto_in rows size row.standing.noted))
      (le-up (row.standing.noted + count + 0) (accepted + upto_in rows more row.standing.noted) (accepted + upto_in rows size row.standing.noted) (let less = upto-less rows row.standing.noted in omega (arith, less)))

  follow-less : (rows : List Row) (accepted count : ℕ) → follow_in rows more accepted count 0 ≡ true → follow_in rows size accepted count 0 ≡ true
  follow-less rows accepted count =
      or-up (count == 0) (nat_le (count + 0) (upto_in rows more accepted) && list_all (suits_in rows more accepted count 0) rows) (nat_le (count + 0) (upto_in rows size accepted) && list_all (suits_in rows size accepted count 0) rows)
      (and-up (nat_le (count + 0) (upto_in rows more accepted)) (list_all (suits_in rows more accepted count 0) rows) (nat_le (count + 0) (upto_in rows size accepted)) (list_all (suits_in rows size accepted count 0) rows)
      (le-up (count + 0) (upto_in rows more accepted) (upto_in rows size accepted) (upto-less rows accepted))
      (list_all-weaker (suits_in rows more accepted count 0) (suits_in rows size accepted count 0) rows (suits-less rows accepted count)))

  light-less : (row : Row) → is_light_in more row ≡ true → is_light_in size row ≡ true
  light-less row = or-up (not row.taken) (nat_le (row.standing.weight + (more + 256)) MOST_WAITING_WEIGHT) (nat_le (row.standing.weight + (size + 256)) MOST_WAITING_WEIGHT)
      (le-down (row.standing.weight + (size + 256)) (row.standing.weight + (more + 256)) MOST_WAITING_WEIGHT (omega (arith, le)))

  pub may-less : (rows : List Row) (accepted count : ℕ) → may_in rows accepted count more ≡ true → may_in rows accepted count size ≡ true
  may-less rows accepted count =
      and-up (list_all (is_light_in more) rows) (follow_in rows more accepted count 0) (list_all (is_light_in size) rows) (follow_in rows size accepted count 0)
      (list_all-weaker (is_light_in more) (is_light_in size) rows light-less) (follow-less rows accepted count)

-- ---- by halves

-- what is found passes, unless it is 0
found-passes : (test : ℕ → Bool) (most : ℕ) → 0 < greatest test most → test (greatest test most) ≡ true
unfolding greatest
found-passes test zero some = absurd (omega (arith, some))
found-passes test (suc most) some = elim (test (suc most)) as (λ b. test (suc most) ≡ b → 0 < cond b (suc most) (greatest test most) → test (cond b (suc most) (greatest test most)) ≡ true) [ true ↦ λ e _. e | false ↦ λ e h. found-passes test most h ] refl some

module _ (rows : List Row) (accepted count : ℕ) where
  abbrev found : ℕ
  found = greatest (may_in rows accepted count) 65536

  pub found-first : may_in rows accepted count 65536 ≡ true → 65536 ≡ found
  found-first passes =
      let least = greatest-least (may_in rows accepted count) 65536 65536 (omega arith) passes in
      let most = greatest-most (may_in rows accepted count) 65536 in
      omega (arith, least, most)

  -- the half that passes
  pub found-above : (middle : ℕ) → middle ≤ 65536 → may_in rows accepted count middle ≡ true → middle ≤ found
  found-above middle le passes = greatest-least (may_in rows accepted count) 65536 middle le passes

  -- the half that doesn't
  pub found-below : (middle : ℕ) → 0 < middle → may_in rows accepted count middle ≡ false → found ≤ middle - 1
  found-below middle positive fails = by-test (nat_le middle found) refl
    where
      by-test : (b : Bool) → nat_le middle found ≡ b → found ≤ middle - 1
      by-test true e =
          let le = leb-true middle found e in
          let passes = found-passes (may_in rows accepted count) 65536 (omega (arith, positive, le)) in
          absurd (true≢false (sym (may-less middle found le rows accepted count passes) ∙ fails))
      by-test false e = let past = leb-false middle found e in omega (arith, past)
