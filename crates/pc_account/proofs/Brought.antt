-- What a copy and a pull bring.
use Rattle.std.proofs.Common.{◌≡◌, ℕ, zero, suc, ◌+◌, ◌*◌, ◌<◌, ◌≤◌, Bool, true, false, cond, List, [], ◌∷◌, map, length, Option, None, Some, refl, sym, ◌∙◌, ap, arith, length-append}
use Rattle.std.specs.List.{filter, list_all, AllByRecursion as Every}
use Rattle.std.specs.Map.{keys_of}
use Rattle.std.specs.Option.{option_map}
use Rattle.std.proofs.lemmas.Bool.{and_parts, and_from}
use Rattle.pc_message.specs.Message.{size_of, weight_of}
use Rattle.pc_account_history.specs.declared.kept.Kept.{Kept}
use Rattle.pc_account_history.specs.declared.kept.Listed.{Listed}
use Rattle.pc_account_history.specs.declared.entry.Entry.TheVariants.{Copy, Pull}
use Rattle.pc_tables.specs.Table.{same, is_among, total, map_values, numbers}
use Rattle.pc_account_history.specs.Record.{MailboxRecord, AccountRecord, mailbox_of, kept_at}
use Rattle.pc_account_history.specs.Effect.{letters_to, arrived, copy_as}
use Rattle.pc_account_history.specs.Known.{said_by}
use Rattle.pc_account_history.specs.Allowed.{is_allowed}
use Rattle.pc_account_history.specs.Step.{touched, with_message}
use Rattle.pc_account_history.specs.Legal.{IsMailbox, IsWellFormed, IsCanonical, IsChange, AreListsOf}
use Rattle.pc_account_history.specs.Limits.{limit_passed}
use Rattle.pc_tables.proofs.Options.{some-same, some-none}
use Rattle.pc_account_history.proofs.Needs.{copy-parts, pull-parts}
use Rattle.pc_tables.proofs.Totals.{total-append}
use Rattle.pc_tables.proofs.Numbers.{has_number-numbers, within-below, Every-numbers}
use Rattle.pc_account_history.proofs.Boxes.{touched-none, touched-twice}
use Rattle.pc_account_history.proofs.Mailboxes.{with_mails, IsMailbox-mailbox_of}
use Rattle.pc_mailbox.specs.UpdateList.{Rise}
use Rattle.pc_account_holdings.specs.Mailboxes.{listed_in}
use Rattle.pc_account.specs.Limits.{parcel_of, parcels_to, weight_in, limit_of_parcels}
use Rattle.pc_account.proofs.Touched.{missing, lists-apart, touched-for-all, unlisted-above}
use Rattle.pc_account.proofs.Changed.{listed-with_message}
use Rattle.pc_account.proofs.Bringing.{Brings, weigh, limit-brought}

-- ---- letters and parcels

letters-counted : (mailbox : List ℕ) (letters : List (List ℕ × List (List ℕ))) → length (letters_to mailbox letters) ≡ length (parcels_to mailbox (map parcel_of letters))
letters-counted mailbox [] = refl
letters-counted mailbox (letter ∷ letters) = count-step mailbox letter letters (same letter.0 mailbox) (letters-counted mailbox letters)
  where
    count-step : (m : List ℕ) (l : List ℕ × List (List ℕ)) (ls : List (List ℕ × List (List ℕ))) (b : Bool) → length (letters_to m ls) ≡ length (parcels_to m (map parcel_of ls)) → length (map (λ (x : List ℕ × List (List ℕ)). x.1) (cond b (l ∷ filter (λ (x : List ℕ × List (List ℕ)). same x.0 m) ls) (filter (λ (x : List ℕ × List (List ℕ)). same x.0 m) ls))) ≡ length (cond b (parcel_of l ∷ parcels_to m (map parcel_of ls)) (parcels_to m (map parcel_of ls)))
    count-step m l ls true h = ap suc h
    count-step m l ls false h = h

letters-weighed : (mailbox : List ℕ) (letters : List (List ℕ × List (List ℕ))) → total weight_of (letters_to mailbox letters) ≡ total weight_in (parcels_to mailbox (map parcel_of letters))
letters-weighed mailbox [] = refl
letters-weighed mailbox (letter ∷ letters) = weight-step mailbox letter letters (same letter.0 mailbox) (letters-weighed mailbox letters)
  where
    weight-step : (m : List ℕ) (l : List ℕ × List (List ℕ)) (ls : List (List ℕ × List (List ℕ))) (b : Bool) → total weight_of (letters_to m ls) ≡ total weight_in (parcels_to m (map parcel_of ls)) → total weight_of (map (λ (x : List ℕ × List (List ℕ)). x.1) (cond b (l ∷ filter (λ (x : List ℕ × List (List ℕ)). same x.0 m) ls) (filter (λ (x : List ℕ × List (List ℕ)). same x.0 m) ls))) ≡ total weight_in (cond b (parcel_of l ∷ parcels_to m (map parcel_of ls)) (parcels_to m (map parcel_of ls)))
    weight-step m l ls true h = ap (λ n. weight_of l.1 + n) h
    weight-step m l ls false h = h

-- ---- letters one after the other

mails-count : (number : ℕ) (mails : List (List (List ℕ))) (box : MailboxRecord) → length (with_mails number mails box).messages ≡ length box.messages + length mails
mails-count number [] box = omega arith
mails-count number (mail ∷ mails) box =
    let new = arrived (suc box.highest) mail in
    let rest = mails-count number mails (with_message number new box) in
    let one = length-append box.messages (new ∷ []) in
    omega (arith, rest, one)

mails-weight : (number : ℕ) (mails : List (List (List ℕ))) (box : MailboxRecord) → weigh (with_mails number mails box).messages ≡ weigh box.messages + total weight_of mails
mails-weight number [] box = omega arith
mails-weight number (mail ∷ mails) box =
    let new = arrived (suc box.highest) mail in
    let rest = mails-weight number mails (with_message number new box) in
    let one = total-append (λ (kept : Kept). weight_of kept.message) box.messages (new ∷ []) in
    omega (arith, rest, one)

touched-again : (number first count : ℕ) (lists : List (List ℕ × List Listed)) → map_values (touched number (numbers (suc first) count)) (map_values (touched number (suc first ∷ [])) lists) ≡ map_values (touched number (numbers first (suc count))) lists
touched-again number first count [] = refl
touched-again number first count (entry ∷ lists) =
    let apart = has_number-numbers (suc first) (suc first) count ∙ within-below (suc first) (suc first + count) (suc first) (omega arith) in
    λ i. (entry.0, touched-twice number (suc first) (numbers (suc first) count) entry.1 apart i) ∷ touched-again number first count lists i

touched-nothing : (number : ℕ) (lists : List (List ℕ × List Listed)) → map_values (touched number []) lists ≡ lists
touched-nothing number [] = refl
touched-nothing number (entry ∷ lists) = λ i. (entry.0, touched-none number entry.1 i) ∷ touched-nothing number lists i

mails-lists : (number : ℕ) (mails : List (List (List ℕ))) (box : MailboxRecord) → (with_mails number mails box).lists ≡ map_values (touched number (numbers box.highest (length mails))) box.lists
mails-lists number [] box = sym (touched-nothing number box.lists)
mails-lists number (mail ∷ mails) box = mails-lists number mails (with_message number (arrived (suc box.highest) mail) box) ∙ touched-again number box.highest (length mails) box.lists

numbers-rise : (low count : ℕ) → Rise (numbers low count)
numbers-rise low zero = tt
numbers-rise low (suc count) = (Every-numbers (λ (later : ℕ). suc low < later) (suc low) count (λ uid above below. above), numbers-rise (suc low) count)

missing-numbers : (number highest birth low count : ℕ) (list : List Listed) → Every (IsChange number highest birth) list → highest ≤ low → missing (numbers low count) list ≡ count
missing-numbers number highest birth low zero list h le = refl
missing-numbers number highest birth low (suc count) list h le =
    rw (unlisted-above number highest birth (suc low) list h (omega (arith, le))) (ap suc (missing-numbers number highest birth (suc low) count list h (omega (arith, le))))

missing-by-all : (number highest low count : ℕ) (clients : List (List ℕ × ℕ)) (lists : List (List ℕ × List Listed)) → AreListsOf number highest clients lists → highest ≤ low → total (λ (entry : List ℕ × List Listed). missing (numbers low count) entry.1) lists ≡ count * length clients
missing-by-all number highest low count [] [] h le = omega arith
missing-by-all number highest low count [] (list ∷ lists) h le = absurd h
missing-by-all number highest low count (client ∷ clients) [] h le = absurd h
missing-by-all number highest low count (client ∷ clients) (list ∷ lists) h le =
    let one = missing-numbers number highest client.1 low count list.1 h.1.changes le in
    let rest = missing-by-all number highest low count clients lists h.2 le in
    add-one-more _ _ count (length clients) one rest
  where
    add-one-more : (a b n c : ℕ) → a ≡ n → b ≡ n * c → a + b ≡ n * suc c
    add-one-more a b n c e f = rw (e, f) (grind arith)

mails-listed : (number : ℕ) (clients : List (List ℕ × ℕ)) (at : ℕ) (mails : List (List (List ℕ))) (box : MailboxRecord) → IsMailbox number clients box → listed_in (with_mails at mails box) ≡ listed_in box + length mails * length clients
mails-listed number clients at mails box good =
    ap (λ (lists : List (List ℕ × List Listed)). total (λ (list : List ℕ × List Listed). length list.1) lists) (mails-lists at mails box)
    ∙ touched-for-all at (numbers box.highest (length mails)) box.lists (numbers-rise box.highest (length mails)) (lists-apart number box.highest clients box.lists good.lists)
    ∙ ap (λ n. listed_in box + n) (missing-by-all number box.highest box.highest (length mails) clients box.lists good.lists (omega arith))

list_all-mapped : (p : List ℕ → Bool) (letters : List (List ℕ × List (List ℕ))) → list_all (λ (letter : List ℕ × List (List ℕ)). p letter.0) letters ≡ true → list_all (λ (parcel : List ℕ × ℕ). p parcel.0) (map parcel_of letters) ≡ true
list_all-mapped p [] h = refl
list_all-mapped p (letter ∷ letters) h = let parts = and_parts (p letter.0) (list_all (λ (l : List ℕ × List (List ℕ)). p l.0) letters) h in and_from (p letter.0) (list_all (λ (parcel : List ℕ × ℕ). p parcel.0) (map parcel_of letters)) parts.0 (list_all-mapped p letters parts.1)

pub pull-brings : (r : AccountRecord) (number upto : ℕ) (letters : List (List ℕ × List (List ℕ))) → IsWellFormed r number → is_allowed (said_by r number) (Pull upto letters) ≡ true → Brings r number (Pull upto letters) (map parcel_of letters)
pull-brings r number upto letters formed allowed = record {
  allowed = allowed;
  limits = refl;
  live = refl;
  dropped = refl;
  clients = refl;
  arrive = list_all-mapped (λ name. is_among name (keys_of r.live)) letters (pull-parts (said_by r number) upto letters allowed).4;
  uids = λ mailbox. letters-counted mailbox letters;
  count = λ mailbox. mails-count number (letters_to mailbox letters) (mailbox_of r mailbox) ∙ ap (λ n. length (mailbox_of r mailbox).messages + n) (letters-counted mailbox letters);
  weight = λ mailbox. mails-weight number (letters_to mailbox letters) (mailbox_of r mailbox) ∙ ap (λ n. weigh (mailbox_of r mailbox).messages + n) (letters-weighed mailbox letters);
  listed = λ mailbox. mails-listed number r.clients number (letters_to mailbox letters) (mailbox_of r mailbox) (IsMailbox-mailbox_of r number mailbox formed) ∙ ap (λ n. listed_in (mailbox_of r mailbox) + n * length r.clients) (letters-counted mailbox letters);
}

-- ---- a copy

module _ (number : ℕ) (clients : List (List ℕ × ℕ)) (target : List ℕ) (kept : Kept) (box : MailboxRecord) where
  abbrev copy : Bool → MailboxRecord
  copy b = cond b (with_message number (copy_as (suc box.highest) kept) box) box

  abbrev one : Bool → List (List ℕ × ℕ)
  one b = cond b ((target, size_of kept.message) ∷ []) []

  copy-uids : (b : Bool) → cond b 1 0 ≡ length (one b)
  copy-uids true = refl
  copy-uids false = refl

  copy-count : (b : Bool) → length (copy b).messages ≡ length box.messages + length (one b)
  copy-count true = length-append box.messages (copy_as (suc box.highest) kept ∷ [])
  copy-count false = omega arith

  copy-weight : (b : Bool) → weigh (copy b).messages ≡ weigh box.messages + total weight_in (one b)
  copy-weight true = total-append (λ (k : Kept). weight_of k.message) box.messages (copy_as (suc box.highest) kept ∷ [])
  copy-weight false = omega arith

  copy-listed : IsMailbox number clients box → (b : Bool) → listed_in (copy b) ≡ listed_in box + length (one b) * length clients
  copy-listed good true = let more = listed-with_message number clients box good number (copy_as (suc box.highest) kept) (omega arith) in omega (arith, more)
  copy-listed good false = omega arith

pub copy-brings : (r : AccountRecord) (number : ℕ) (mailbox : List ℕ) (uid : ℕ) (target : List ℕ) (kept : Kept) → IsWellFormed r number → is_allowed (said_by r number) (Copy mailbox uid target) ≡ true → kept_at uid (mailbox_of r mailbox).messages ≡ Some kept → Brings r number (Copy mailbox uid target) ((target, size_of kept.message) ∷ [])
copy-brings r number mailbox uid target kept formed allowed found = record {
  allowed = allowed;
  limits = refl;
  live = refl;
  dropped = refl;
  clients = refl;
  arrive = and_from (is_among target (keys_of r.live)) true (copy-parts (said_by r number) mailbox uid target allowed).1 refl;
  uids = λ m. copy-uids number r.clients target kept (mailbox_of r m) (same target m);
  count = λ m. rw found (copy-count number r.clients target kept (mailbox_of r m) (same target m));
  weight = λ m. rw found (copy-weight number r.clients target kept (mailbox_of r m) (same target m));
  listed = λ m. rw found (copy-listed number r.clients target kept (mailbox_of r m) (IsMailbox-mailbox_of r number m formed) (same target m));
}

pub copied-limit : (r : AccountRecord) (number : ℕ) (mailbox : List ℕ) (uid : ℕ) (target : List ℕ) (message : List (List ℕ)) (found : Option Kept) → IsCanonical r number → is_allowed (said_by r number) (Copy mailbox uid target) ≡ true → kept_at uid (mailbox_of r mailbox).messages ≡ found → Some message ≡ option_map (λ (kept : Kept). kept.message) found → limit_of_parcels (said_by r number) ((target, size_of message) ∷ []) ≡ limit_passed (said_by r number) (Copy mailbox uid target)
copied-limit r number mailbox uid target message None canonical allowed e h = absurd (some-none message h)
copied-limit r number mailbox uid target message (Some kept) canonical allowed e h =
    ap (λ (m : List (List ℕ)). limit_of_parcels (said_by r number) ((target, size_of m) ∷ [])) (some-same message kept.message h)
    ∙ sym (limit-brought r number canonical (Copy mailbox uid target) ((target, size_of kept.message) ∷ []) (copy-brings r number mailbox uid target kept canonical.well_formed allowed e))
