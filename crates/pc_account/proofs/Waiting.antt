-- The longest front of the mails that wait is that of their parcels, and its pull is allowed.
use Rattle.std.proofs.Common.{◌≡◌, ℕ, zero, suc, ◌+◌, ◌<◌, ◌≤◌, ◌==◌, Bool, true, false, cond, ◌&&◌, nat_lt, nat_le, List, [], ◌∷◌, map, take, length, get_or, Option, None, Some, is_none, refl, sym, ◌∙◌, ap, subst, arith, lt-ltb, true≢false, length-take-le}
use Rattle.std.proofs.lemmas.List.{length-map, take-map}
use Rattle.std.specs.List.{list_all}
use Rattle.std.proofs.lemmas.Bool.{and_parts, and_from}
use Rattle.pc_base.specs.declared.room.Room.{Room}
use Rattle.pc_base.specs.declared.refusal.LimitWord.{LimitWord}
use Rattle.pc_message.specs.declared.lists.Mail.{Mail}
use Rattle.pc_message.specs.declared.limits.TheConstants.{MOST_LETTERS, LAST_MAIL}
use Rattle.pc_account_history.specs.Record.{AccountRecord}
use Rattle.pc_account_history.specs.Known.{Known, said_by}
use Rattle.pc_account_history.specs.Allowed.{is_allowed, is_mailbox}
use Rattle.pc_account_history.specs.Limits.{limit_passed}
use Rattle.pc_account_history.specs.Legal.{IsCanonical}
use Rattle.pc_account.specs.Limits.{parcel_of, limit_of_parcels}
use Rattle.pc_account.specs.Plan.{target_of, last_number, pull_of, pull_bytes, can_pull, longest_front, NumbersRise}
use Rattle.pc_account.specs.Taking.{letter_of, parcel_for, bytes_of_parcel, can_come, front_count}
use Rattle.pc_account.proofs.Spread.{list_all-map, total-map}
use Rattle.pc_account.proofs.Bringing.{limit-brought}
use Rattle.pc_account.proofs.Brought.{pull-brings}

-- ---- the last number

pub last-between : (low : ℕ) (mails : List Mail) (count : ℕ) → NumbersRise low mails → 0 < count → count ≤ length mails → (low < last_number (take count mails)) × (last_number (take count mails) ≤ LAST_MAIL)
last-between low mails zero rise some le = absurd (omega (arith, some))
last-between low [] (suc count) rise some le = absurd (omega (arith, le))
last-between low (mail ∷ mails) (suc zero) rise some le = (rise.0, rise.1)
last-between low (mail ∷ []) (suc (suc count)) rise some le = absurd (omega (arith, le))
last-between low (mail ∷ next ∷ mails) (suc (suc count)) rise some le =
    let later = last-between mail.number (next ∷ mails) (suc count) rise.2 (omega arith) (omega (arith, le)) in
    (omega (arith, rise.0, later.0), later.1)

pub last-at : (mails : List Mail) (place : ℕ) (d : Mail) → place < length mails → last_number (take (suc place) mails) ≡ (get_or mails place d).number
last-at [] place d lt = absurd (omega (arith, lt))
last-at (mail ∷ mails) zero d lt = refl
last-at (mail ∷ []) (suc place) d lt = absurd (omega (arith, lt))
last-at (mail ∷ next ∷ mails) (suc place) d lt = last-at (next ∷ mails) place d (omega (arith, lt))

-- ---- the pull is allowed

live-all : Known → List Mail → Bool
live-all k mails = list_all (λ (mail : Mail). is_mailbox k (target_of k mail)) mails

pub pull-allowed : (k : Known) (mails : List Mail) → k.pulled < last_number mails → last_number mails ≤ LAST_MAIL → 0 < length mails → length mails ≤ MOST_LETTERS → list_all (λ (mail : Mail). is_mailbox k (target_of k mail)) mails ≡ true → is_allowed k (pull_of k mails) ≡ true
pull-allowed k mails past last some few live =
    let letters = map (λ (mail : Mail). (target_of k mail, mail.message)) mails in
    let count : length letters ≡ length mails = length-map mails (λ (mail : Mail). (target_of k mail, mail.message)) in
    let a : nat_lt k.pulled (last_number mails) ≡ true = lt-ltb k.pulled (last_number mails) past in
    let b : nat_le (last_number mails) LAST_MAIL ≡ true = at-most (last_number mails) LAST_MAIL last in
    let c : nat_lt 0 (length letters) ≡ true = lt-ltb 0 (length letters) (omega (arith, count, some)) in
    let d : nat_le (length letters) MOST_LETTERS ≡ true = at-most (length letters) MOST_LETTERS (omega (arith, count, few)) in
    let e : list_all (λ (letter : List ℕ × List (List ℕ)). is_mailbox k letter.0) letters ≡ true = list_all-map (λ (letter : List ℕ × List (List ℕ)). is_mailbox k letter.0) (λ (mail : Mail). (target_of k mail, mail.message)) mails ∙ live in
    and_from _ _ (and_from _ _ (and_from _ _ (and_from _ _ a b) c) d) e
  where
    at-most : (m n : ℕ) → m ≤ n → nat_le m n ≡ true
    at-most m n h = grind (arith, h)

-- ---- mails can be pulled where their parcels can

parcels-of-letters : (k : Known) (mails : List Mail) → map parcel_of (map (letter_of k) mails) ≡ map (parcel_for k) mails
parcels-of-letters k [] = refl
parcels-of-letters k (mail ∷ mails) = ap (λ (parcels : List (List ℕ × ℕ)). parcel_for k mail ∷ parcels) (parcels-of-letters k mails)

module _ (r : AccountRecord) (number : ℕ) (room : Room) (canonical : IsCanonical r number) where
  abbrev k : Known
  k = said_by r number

  module _ (mails : List Mail) (past : k.pulled < last_number mails) (last : last_number mails ≤ LAST_MAIL) (some : 0 < length mails) (few : length mails ≤ MOST_LETTERS) where
    abbrev fits : Bool → Option LimitWord → ℕ → Bool
    fits live limit bytes = live && is_none limit && nat_lt 0 room.entries && nat_le bytes room.bytes

    abbrev parcels : List (List ℕ × ℕ)
    parcels = map (parcel_for k) mails

    same-limit : (live : Bool) → list_all (λ (mail : Mail). is_mailbox k (target_of k mail)) mails ≡ live → fits live (limit_passed k (pull_of k mails)) (pull_bytes k mails) ≡ fits live (limit_of_parcels k parcels) (pull_bytes k mails)
    same-limit true h =
        let letters = map (letter_of k) mails in
        let allowed = pull-allowed k mails past last some few h in
        ap (λ limit. fits true limit (pull_bytes k mails)) (
        limit-brought r number canonical (pull_of k mails) (map parcel_of letters) (pull-brings r number (last_number mails) letters canonical.well_formed allowed)
        ∙ ap (limit_of_parcels k) (parcels-of-letters k mails))
    same-limit false h = refl

    pub pulled-as-parcels : can_pull k room mails ≡ can_come k room parcels
    pulled-as-parcels =
        same-limit (list_all (λ (mail : Mail). is_mailbox k (target_of k mail)) mails) refl
        ∙ (λ i. fits (sym (list_all-map (λ (parcel : List ℕ × ℕ). is_mailbox k parcel.0) (parcel_for k) mails) i) (limit_of_parcels k parcels) (11 + sym (total-map bytes_of_parcel (parcel_for k) mails) i))

  module _ (mails : List Mail) (few : length mails ≤ MOST_LETTERS) (rise : NumbersRise k.pulled mails) where
    abbrev waiting : List (List ℕ × ℕ)
    waiting = map (parcel_for k) mails

    front-step : (b : Bool) (count less : ℕ) (front : List Mail) → front ≡ take less mails → cond b (take (suc count) mails) front ≡ take (cond b (suc count) less) mails
    front-step true count less front h = refl
    front-step false count less front h = h

    pub front-counted : (count : ℕ) → count ≤ length mails → longest_front k room count mails ≡ take (front_count k room count waiting) mails
    front-counted zero le = refl
    front-counted (suc count) le =
        let bounds = last-between k.pulled mails (suc count) rise (omega arith) le in
        let long : length (take (suc count) mails) ≡ suc count = length-take-le (suc count) mails le in
        let pulls : can_pull k room (take (suc count) mails) ≡ can_come k room (take (suc count) waiting) =
        pulled-as-parcels (take (suc count) mails) bounds.0 bounds.1 (omega (arith, long)) (omega (arith, long, le, few))
        ∙ ap (can_come k room) (sym (take-map (parcel_for k) (suc count) mails)) in
        (λ i. cond (pulls i) (take (suc count) mails) (longest_front k room count mails))
        ∙ front-step (can_come k room (take (suc count) waiting)) count (front_count k room count waiting) (longest_front k room count mails) (front-counted count (omega (arith, le)))

-- ---- counting down

pub front-here : (k : Known) (room : Room) (count : ℕ) (parcels : List (List ℕ × ℕ)) → 0 < count → can_come k room (take count parcels) ≡ true → front_count k room count parcels ≡ count
front-here k room zero all some h = refl
front-here k room (suc count) all some h = ap (λ b. cond b (suc count) (front_count k room count all)) h

pub front-below : (k : Known) (room : Room) (count less : ℕ) (parcels : List (List ℕ × ℕ)) → suc less ≡ count → can_come k room (take count parcels) ≡ false → front_count k room count parcels ≡ front_count k room less parcels
front-below k room count less all e h = subst (λ (n : ℕ). can_come k room (take n all) ≡ false → front_count k room n all ≡ front_count k room less all) e (λ g. ap (λ b. cond b (suc less) (front_count k room less all)) g) h

-- ---- what the longest front is

module _ (k : Known) (room : Room) (mails : List Mail) where
  pub front-pulls : (count : ℕ) → (length (longest_front k room count mails) == 0) ≡ false → can_pull k room (longest_front k room count mails) ≡ true
  front-pulls zero h = absurd (true≢false h)
  front-pulls (suc count) h = pulls-step (can_pull k room (take (suc count) mails)) refl (front-pulls count) h
    where
      pulls-step : (b : Bool) → can_pull k room (take (suc count) mails) ≡ b → ((length (longest_front k room count mails) == 0) ≡ false → can_pull k room (longest_front k room count mails) ≡ true) → (length (cond b (take (suc count) mails) (longest_front k room count mails)) == 0) ≡ false → can_pull k room (cond b (take (suc count) mails) (longest_front k room count mails)) ≡ true
      pulls-step true e rest g = e
      pulls-step false e rest g = rest g

  pub front-of : (count : ℕ) → count ≤ length mails → (most : ℕ) × (most ≤ length mails) × (longest_front k room count mails ≡ take most mails)
  front-of zero le = (0, omega arith, refl)
  front-of (suc count) le = of-step (can_pull k room (take (suc count) mails)) (front-of count (omega (arith, le)))
    where
      of-step : (b : Bool) → (most : ℕ) × (most ≤ length mails) × (longest_front k room count mails ≡ take most mails) → (most : ℕ) × (most ≤ length mails) × (cond b (take (suc count) mails) (longest_front k room count mails) ≡ take most mails)
      of-step true rest = (suc count, le, refl)
      of-step false rest = rest

  allowed-at : (count : ℕ) (front : List Mail) → front ≡ take count mails → count ≤ length mails → length mails ≤ MOST_LETTERS → NumbersRise k.pulled mails → can_pull k room front ≡ true → (length front == 0) ≡ false → is_allowed k (pull_of k front) ≡ true
  allowed-at zero front e le few rise pulls h = absurd (true≢false (ap (λ (ms : List Mail). length ms == 0) (sym e) ∙ h))
  allowed-at (suc count) front e le few rise pulls h =
      let bounds = subst (λ (ms : List Mail). (k.pulled < last_number ms) × (last_number ms ≤ LAST_MAIL)) (sym e) (last-between k.pulled mails (suc count) rise (omega arith) le) in
      let long : length front ≡ suc count = ap length e ∙ length-take-le (suc count) mails le in
      let live = (and_parts _ _ (and_parts _ _ (and_parts _ _ pulls).0).0).0 in
      pull-allowed k front bounds.0 bounds.1 (omega (arith, long)) (omega (arith, long, le, few)) live

  -- what is pulled is allowed
  pub front-allowed : length mails ≤ MOST_LETTERS → NumbersRise k.pulled mails → (length (longest_front k room (length mails) mails) == 0) ≡ false → is_allowed k (pull_of k (longest_front k room (length mails) mails)) ≡ true
  front-allowed few rise h = let front = front-of (length mails) (omega arith) in allowed-at front.0 (longest_front k room (length mails) mails) front.2 front.1 few rise (front-pulls (length mails) h) h

  pub front-within : (length (longest_front k room (length mails) mails) == 0) ≡ false → limit_passed k (pull_of k (longest_front k room (length mails) mails)) ≡ None
  front-within h = none-from (limit_passed k (pull_of k (longest_front k room (length mails) mails))) (and_parts _ _ (and_parts _ _ (and_parts _ _ (front-pulls (length mails) h)).0).0).1
    where
      none-from : (o : Option LimitWord) → is_none o ≡ true → o ≡ None
      none-from None g = refl
      none-from (Some limit) g = absurd (true≢false (sym g))
