-- Messages by rising uid: what a search by halves finds.
use Rattle.std.proofs.Common.{◌≡◌, ℕ, zero, suc, ◌+◌, ◌-◌, ◌<◌, ◌≤◌, ◌==◌, nat_le, Bool, true, false, not, cond, ◌&&◌, List, [], ◌∷◌, map, take, drop, length, get_or, slice_get, Option, Some, None, option_and_then, inl, inr, refl, sym, ap, ◌∙◌, arith, lt-ltb, le-ltb, le-leb, eq-eqb, ne_eqb}
use Rattle.std.proofs.Math.ListN.{set}
use Rattle.std.proofs.Math.Seq.{take-length}
use Rattle.std.proofs.lemmas.List.{length-drop}
use Rattle.std.specs.List.{filter, AllByRecursion as Every}
use Rattle.std.proofs.lemmas.Bool.{cases_lt, lt-leb}
use Rattle.pc_account_history.specs.declared.kept.Kept.{Kept}
use Rattle.pc_account_history.specs.Record.{kept_at}
use Rattle.pc_tables.proofs.Lists.{Every-weaker}
use Rattle.pc_account_history.proofs.Uids.{kept_at-below}
use Rattle.pc_tables.proofs.Order.{Ordered-filter}
use Rattle.pc_mailbox.specs.Mailbox.{UidsRise, is_below, is_between, with_flag_at}
use Rattle.pc_tables.proofs.Halves.{filter-below, filter-from}

pub rise-filter : (p : Kept → Bool) (messages : List Kept) → UidsRise messages → UidsRise (filter p messages)
rise-filter p messages h = Ordered-filter (λ (kept later : Kept). kept.uid < later.uid) p messages h

-- ---- one message

found-behind : (uid : ℕ) (messages : List Kept) → kept_at uid messages ≡ kept_at uid (filter (λ (kept : Kept). not (is_below uid kept)) messages)
found-behind uid [] = refl
found-behind uid (kept ∷ messages) = elim (cases_lt kept.uid uid) [
  | inl low ↦ let other : (kept.uid == uid) ≡ false = ne_eqb kept.uid uid (λ e. absurd (omega arith)) in rw (lt-ltb kept.uid uid low, other) (found-behind uid messages)
  | inr high ↦ rw (le-ltb kept.uid uid high) (ap (λ (o : Option Kept). cond (kept.uid == uid) (Some kept) o) (found-behind uid messages))
]

-- the message, where it has the uid
abbrev pub of_uid : ℕ → Option Kept → Option Kept
of_uid uid found = option_and_then (λ (kept : Kept). cond (kept.uid == uid) (Some kept) None) found

first-or-none : (uid : ℕ) (messages : List Kept) → UidsRise messages → Every (λ (kept : Kept). uid ≤ kept.uid) messages → kept_at uid messages ≡ of_uid uid (slice_get messages 0)
first-or-none uid [] rise high = refl
first-or-none uid (kept ∷ messages) rise high =
    let le : uid ≤ kept.uid = high.0 in
    ap (λ (o : Option Kept). cond (kept.uid == uid) (Some kept) o) (kept_at-below uid messages (Every-weaker (λ (later : Kept). kept.uid < later.uid) (λ (later : Kept). uid < later.uid) (λ later lt. omega (arith, lt, le)) messages rise.0))

-- only the first message that isn't below the uid can have it
pub found-first : (uid place : ℕ) (messages : List Kept) → UidsRise messages → drop place messages ≡ filter (λ (kept : Kept). not (is_below uid kept)) messages → kept_at uid messages ≡ of_uid uid (slice_get (drop place messages) 0)
found-first uid place messages rise back = rw back (found-behind uid messages ∙ first-or-none uid (filter (λ (kept : Kept). not (is_below uid kept)) messages) (rise-filter (λ (kept : Kept). not (is_below uid kept)) messages rise) (filter-from (λ (kept : Kept). kept.uid) uid messages))

-- a slice from a place on, as code takes it
pub from-place : (place : ℕ) (messages : List Kept) → take (length messages - place) (drop place messages) ≡ drop place messages
from-place place messages = ap (λ (n : ℕ). take n (drop place messages)) (sym (length-drop place messages)) ∙ take-length (drop place messages)

module _ (uid place : ℕ) (messages : List Kept) (rise : UidsRise messages) (back : drop place messages ≡ filter (λ (kept : Kept). not (is_below uid kept)) messages) where
  found-of : (found : Option Kept) → found ≡ slice_get (take (length messages - place) (drop place messages)) 0 → kept_at uid messages ≡ of_uid uid found
  found-of found h = found-first uid place messages rise back ∙ ap (λ (l : List Kept). of_uid uid (slice_get l 0)) (sym (from-place place messages)) ∙ ap (of_uid uid) (sym h)

  pub found-none : ◌≡◌ {A = Option Kept} None (slice_get (take (length messages - place) (drop place messages)) 0) → ◌≡◌ {A = Option Kept} None (kept_at uid messages)
  found-none h = sym (found-of None h)

  pub found-here : (kept : Kept) → Some kept ≡ slice_get (take (length messages - place) (drop place messages)) 0 → kept.uid ≡ uid → Some kept ≡ kept_at uid messages
  found-here kept h here = sym (found-of (Some kept) h ∙ ap (λ (b : Bool). cond b (Some kept) None) (eq-eqb kept.uid uid here))

  pub found-other : (kept : Kept) → Some kept ≡ slice_get (take (length messages - place) (drop place messages)) 0 → (kept.uid ≡ uid → ⊥) → ◌≡◌ {A = Option Kept} None (kept_at uid messages)
  found-other kept h other = sym (found-of (Some kept) h ∙ ap (λ (b : Bool). cond b (Some kept) None) (ne_eqb kept.uid uid other))

-- ---- the messages from one uid to another

and-false : (a b : Bool) → b ≡ false → (a && b) ≡ false
and-false true b h = h
and-false false b h = refl

pub both-bounds : (low high : ℕ) (messages : List Kept) → filter (λ (kept : Kept). not (is_below low kept)) (filter (is_below (high + 1)) messages) ≡ filter (is_between low high) messages
both-bounds low high [] = refl
both-bounds low high (kept ∷ messages) = elim (cases_lt high kept.uid) [
  | inl above ↦ rw (le-ltb kept.uid (high + 1) (omega arith), and-false (nat_le low kept.uid) (nat_le kept.uid high) (lt-leb kept.uid high above)) (both-bounds low high messages)
  | inr upto ↦ rw (lt-ltb kept.uid (high + 1) (omega arith), le-leb kept.uid high upto) (elim (cases_lt kept.uid low) [
    | inl below ↦ rw (lt-ltb kept.uid low below, lt-leb low kept.uid below) (both-bounds low high messages)
    | inr from ↦ rw (le-ltb kept.uid low from, le-leb low kept.uid from) (ap (λ (l : List Kept). kept ∷ l) (both-bounds low high messages))
  ])
]

-- ---- one flag

module _ (uid flag : ℕ) (on : Bool) where
  passed : (messages : List Kept) → Every (λ (kept : Kept). uid < kept.uid) messages → map (with_flag_at uid flag on) messages ≡ messages
  passed [] h = refl
  passed (kept ∷ messages) h =
      let above : uid < kept.uid = h.0 in
      let other : (kept.uid == uid) ≡ false = ne_eqb kept.uid uid (λ e. absurd (omega (arith, above, e))) in
      rw other (ap (λ (l : List Kept). kept ∷ l) (passed messages h.1))

  set-by : (messages : List Kept) (place : ℕ) (d : Kept) → UidsRise messages → Every (λ (kept : Kept). kept.uid < uid) (take place messages) → Every (λ (kept : Kept). uid ≤ kept.uid) (drop place messages) → place < length messages → set messages place (with_flag_at uid flag on (get_or messages place d)) ≡ map (with_flag_at uid flag on) messages
  set-by [] place d rise low high lt = absurd (omega (arith, lt))
  set-by (kept ∷ messages) zero d rise low high lt =
      let le : uid ≤ kept.uid = high.0 in
      sym (ap (λ (l : List Kept). with_flag_at uid flag on kept ∷ l) (passed messages (Every-weaker (λ (later : Kept). kept.uid < later.uid) (λ (later : Kept). uid < later.uid) (λ later above. omega (arith, above, le)) messages rise.0)))
  set-by (kept ∷ messages) (suc place) d rise low high lt =
      let below : kept.uid < uid = low.0 in
      let other : (kept.uid == uid) ≡ false = ne_eqb kept.uid uid (λ e. absurd (omega (arith, below, e))) in
      rw other (ap (λ (l : List Kept). kept ∷ l) (set-by messages place d rise.1 low.1 high (omega (arith, lt))))

  none-by : (messages : List Kept) (place : ℕ) → Every (λ (kept : Kept). kept.uid < uid) (take place messages) → length messages ≤ place → messages ≡ map (with_flag_at uid flag on) messages
  none-by [] place low le = refl
  none-by (kept ∷ messages) zero low le = absurd (omega (arith, le))
  none-by (kept ∷ messages) (suc place) low le =
      let below : kept.uid < uid = low.0 in
      let other : (kept.uid == uid) ≡ false = ne_eqb kept.uid uid (λ e. absurd (omega (arith, below, e))) in
      rw other (ap (λ (l : List Kept). kept ∷ l) (none-by messages place low.1 (omega (arith, le))))

  module _ (messages : List Kept) (place : ℕ) (front : take place messages ≡ filter (is_below uid) messages) where
    -- the one message at the place is changed where it has the uid, and no other
    pub flag-set : (d : Kept) → UidsRise messages → drop place messages ≡ filter (λ (kept : Kept). not (is_below uid kept)) messages → place < length messages → set messages place (with_flag_at uid flag on (get_or messages place d)) ≡ map (with_flag_at uid flag on) messages
    flag-set d rise back lt = set-by messages place d rise (rw front (filter-below (λ (kept : Kept). kept.uid) uid messages)) (rw back (filter-from (λ (kept : Kept). kept.uid) uid messages)) lt

    pub flag-none : length messages ≤ place → messages ≡ map (with_flag_at uid flag on) messages
    flag-none le = none-by messages place (rw front (filter-below (λ (kept : Kept). kept.uid) uid messages)) le
