-- What the longest front of the parcels tells of the wish to take mails, and that its pull fits its fields.
use Rattle.std.proofs.Common.{◌≡◌, ℕ, zero, suc, ◌-◌, ◌<◌, ◌≤◌, ◌==◌, Bool, true, false, IsTrue, List, [], ◌∷◌, map, take, length, get_or, None, Some, Ok, refl, sym, ◌∙◌, ap, arith, length-take-le, lt-ltb, le-leb}
use Rattle.std.proofs.lemmas.List.{length-map}
use Rattle.std.proofs.lemmas.Bool.{ne_eqb, and_parts, and_from}
use Rattle.std.specs.List.{list_all}
use Rattle.pc_base.specs.declared.room.Room.{Room}
use Rattle.pc_base.specs.AskFault.{Tells}
use Rattle.pc_message.specs.declared.lists.Mail.{Mail}
use Rattle.pc_account_history.specs.declared.entry.Entry.TheVariants as entry
use Rattle.pc_message.specs.declared.limits.TheConstants.{MOST_LETTERS}
use Rattle.pc_account_history.specs.Record.{AccountRecord}
use Rattle.pc_account_history.specs.Known.{Known, said_by}
use Rattle.pc_account_history.specs.Legal.{IsCanonical}
use Rattle.pc_account_spelling.specs.EntryForm.{is_letter, entry_fits}
use Rattle.pc_account.specs.declared.wish.Wish.TheVariants as wish
use Rattle.pc_account.specs.Plan.{last_number, pulled_mails, planned, NumbersRise}
use Rattle.pc_account.specs.Taking.{letter_of, letter_fits, parcel_for, front_count}
use Rattle.pc_account.proofs.Spread.{list_all-map}
use Rattle.pc_account.proofs.Waiting.{last-between, last-at, front-counted, front-within}
use Rattle.pc_account.proofs.Settling.{settled-holds, settled-entry}

last-before : (mails : List Mail) (count : ℕ) (d : Mail) → 0 < count → count ≤ length mails → last_number (take count mails) ≡ (get_or mails (count - 1) d).number
last-before mails zero d some le = absurd (omega (arith, some))
last-before mails (suc count) d some le = let e : suc count - 1 ≡ count = omega arith in rw e (last-at mails count d (omega (arith, le)))

all-front : {X : Type 0} (p : X → Bool) (count : ℕ) (xs : List X) → list_all p xs ≡ true → list_all p (take count xs) ≡ true
all-front p zero xs h = refl
all-front p (suc count) [] h = refl
all-front p (suc count) (x ∷ xs) h = let parts = and_parts (p x) (list_all p xs) h in and_from (p x) (list_all p (take count xs)) parts.0 (all-front p count xs parts.1)

not-zero : (n : ℕ) → 0 < n → (n == 0) ≡ false
not-zero n some = ne_eqb n 0 (λ e. omega (arith, some, e))

module _ (r : AccountRecord) (number : ℕ) (room : Room) (canonical : IsCanonical r number) (mails : List Mail) (few : length mails ≤ MOST_LETTERS) (rise : NumbersRise (said_by r number).pulled mails) where
  abbrev k : Known
  k = said_by r number

  module _ (parcels slice : List (List ℕ × ℕ)) (count : ℕ) (made : parcels ≡ map (parcel_for k) mails) (seen : slice ≡ parcels) (counted : count ≡ front_count k room (length slice) slice) (bound : count ≤ length slice) where
    all_seen : slice ≡ map (parcel_for k) mails
    all_seen = seen ∙ made

    within : count ≤ length mails
    within = let long = ap length all_seen ∙ length-map mails (parcel_for k) in omega (arith, bound, long)

    front : pulled_mails k room mails ≡ take count mails
    front =
        front-counted r number room canonical mails few rise (length mails) (omega arith)
        ∙ ap (λ (n : ℕ). take n mails) (sym (
        counted
        ∙ (λ i. front_count k room (length (all_seen i)) (all_seen i))
        ∙ ap (λ (n : ℕ). front_count k room n (map (parcel_for k) mails)) (length-map mails (parcel_for k))))

    pub none-taken : count ≡ 0 → Tells (planned k (wish.Take mails room)) (Ok None)
    none-taken none = settled-holds k (wish.Take mails room) refl (ap (λ (ms : List Mail). length ms == 0) (front ∙ ap (λ (n : ℕ). take n mails) none))

    pub some-taken : 0 < count → (d : Mail) (first : List (List ℕ × List (List ℕ))) → first ≡ map (letter_of k) (take count mails) → Tells (planned k (wish.Take mails room)) (Ok (Some (entry.Pull (get_or mails (count - 1) d).number first)))
    some-taken some d first taken =
        let any : (length (pulled_mails k room mails) == 0) ≡ false = ap (λ (ms : List Mail). length ms == 0) front ∙ ap (λ (n : ℕ). n == 0) (length-take-le count mails within) ∙ not-zero count some in
        let upto : (get_or mails (count - 1) d).number ≡ last_number (pulled_mails k room mails) = sym (last-before mails count d some within) ∙ ap last_number (sym front) in
        let letters_taken : first ≡ map (letter_of k) (pulled_mails k room mails) = taken ∙ ap (map (letter_of k)) (sym front) in
        settled-entry k (wish.Take mails room) (entry.Pull (get_or mails (count - 1) d).number first) refl any (sym (front-within k room mails any)) (λ i. entry.Pull (upto i) (letters_taken i))

    -- the pull of the front fits its fields
    pub pull-fits : 0 < count → (d : Mail) (first : List (List ℕ × List (List ℕ))) → first ≡ map (letter_of k) (take count mails) → list_all (letter_fits k) mails ≡ true → IsTrue (entry_fits (entry.Pull (get_or mails (count - 1) d).number first))
    pull-fits some d first taken fits =
        let last = (last-between k.pulled mails count rise some within).1 in
        let number = last-before mails count d some within in
        let long : length first ≡ count = ap length taken ∙ length-map (take count mails) (letter_of k) ∙ length-take-le count mails within in
        let below = lt-ltb (get_or mails (count - 1) d).number 18446744073709551616 (omega (arith, last, number)) in
        let any = lt-ltb 0 (length first) (omega (arith, long, some)) in
        let bounded = le-leb (length first) MOST_LETTERS (omega (arith, long, within, few)) in
        let each = ap (list_all is_letter) taken ∙ list_all-map is_letter (letter_of k) (take count mails) ∙ all-front (letter_fits k) count mails fits in
        and_from _ _ (and_from _ _ (and_from _ _ below any) bounded) each
