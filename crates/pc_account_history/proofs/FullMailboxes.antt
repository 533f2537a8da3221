-- Accounts with as many messages, or as much weight, as they may have.
use Rattle.std.proofs.Common.{◌≡◌, ℕ, zero, suc, ◌+◌, ◌*◌, ◌<◌, ◌≤◌, Bool, true, false, cond, not, ◌&&◌, nat_le, List, [], ◌∷◌, ◌++◌, map, length, replicate, None, Some, find, refl, ◌∙◌, ap, arith}
use Rattle.std.specs.List.{AllByRecursion as Every, list_all}
use Rattle.std.proofs.lemmas.Bool.{lt-ltb, le-ltb, lt-leb, le-leb, and_from}
use Rattle.std.proofs.lemmas.List.{length-append, length-replicate}
use Rattle.std.proofs.Math.Nat.{suc-mul}
use Rattle.pc_base.specs.declared.refusal.LimitWord.TheVariants as limit
use Rattle.pc_base.specs.Line.{is_line}
use Rattle.pc_message.specs.Message.{IsSized, size_of, weight_of}
use Rattle.pc_tables.specs.Table.{numbers, total}
use Rattle.pc_tables.specs.Order.{Ordered}
use Rattle.pc_tables.proofs.Totals.{total-append}
use Rattle.pc_account_history.specs.declared.kept.Kept.{Kept}
use Rattle.pc_account_history.specs.declared.entry.Entry.{Entry}
use Rattle.pc_account_history.specs.declared.entry.Entry.TheVariants.{Copy, Pull}
use Rattle.pc_account_history.specs.Record.{AccountRecord, empty_record}
use Rattle.pc_account_history.specs.Effect.{arrived, copy_as}
use Rattle.pc_account_history.specs.Known.{said_by}
use Rattle.pc_account_history.specs.History.{start}
use Rattle.pc_account_history.specs.Allowed.{is_allowed}
use Rattle.pc_account_history.specs.Limits.{limits_of, limit_passed}
use Rattle.pc_account_history.specs.Step.{after}
use Rattle.pc_account_history.specs.Legal.{IsMailbox, IsWellFormed, IsCanonical}
use Rattle.pc_account_history.specs.Samples.{box, work, note, notes_to, passes, copies, with_copies, long_message, PassesLimit, MessagesAtLimit, MailboxIsFull, LongMessages, WeightAtLimit, AccountIsFull}
use Rattle.pc_account_history.proofs.AtLimits.{holds_more, held-canonical, more-messages, more-bytes, told-after, told-of-four}

abbrev weigh : List Kept → ℕ
weigh = total (λ (kept : Kept). weight_of kept.message)

abbrev copied : ℕ → ℕ → List (List ℕ) → List Kept
copied low count message = map (λ uid. arrived uid message) (numbers low count)

Every-copied : (P : Kept → Type 0) (message : List (List ℕ)) (low count : ℕ) → ((uid : ℕ) → low < uid → uid ≤ low + count → P (arrived uid message)) → Every P (copied low count message)
Every-copied P message low zero f = tt
Every-copied P message low (suc count) f = (f (suc low) (omega arith) (omega arith), Every-copied P message (suc low) count (λ uid above upto. f uid (omega (arith, above)) (omega (arith, upto))))

rising-copied : (message : List (List ℕ)) (low count : ℕ) → Ordered (λ (kept later : Kept). kept.uid < later.uid) (copied low count message)
rising-copied message low zero = tt
rising-copied message low (suc count) = (Every-copied (λ (later : Kept). suc low < later.uid) message (suc low) count (λ uid above upto. above), rising-copied message (suc low) count)

length-copied : (message : List (List ℕ)) (low count : ℕ) → length (copied low count message) ≡ count
length-copied message low zero = refl
length-copied message low (suc count) = ap suc (length-copied message (suc low) count)

weight-copied : (message : List (List ℕ)) (low count : ℕ) → weigh (copied low count message) ≡ count * weight_of message
weight-copied message low zero = omega arith
weight-copied message low (suc count) = omega (arith, weight-copied message (suc low) count, suc-mul count (weight_of message))

-- what comes behind copies
length-behind : (message : List (List ℕ)) (count : ℕ) (more : List Kept) → length (copied 0 count message ++ more) ≡ count + length more
length-behind message count more = omega (arith, length-append (copied 0 count message) more, length-copied message 0 count)

weight-behind : (message : List (List ℕ)) (count : ℕ) (more : List Kept) → weigh (copied 0 count message ++ more) ≡ count * weight_of message + weigh more
weight-behind message count more = omega (arith, total-append (λ (kept : Kept). weight_of kept.message) (copied 0 count message) more, weight-copied message 0 count)

is-mailbox : (count : ℕ) (message : List (List ℕ)) → IsMailbox 99 [] (copies count message)
is-mailbox count message = record { messages = record { rising = rising-copied message 0 count; given = Every-copied (λ (kept : Kept). (0 < kept.uid) × (kept.uid ≤ count)) message 0 count (λ uid above upto. (above, omega (arith, upto))) }; lists = tt }

formed : (count : ℕ) (message other : List (List ℕ)) → IsWellFormed (with_copies count message other) 99
formed count message other = record {
  positive = omega arith;
  births_rise = tt;
  births = tt;
  client_names = tt;
  mailbox_names = ((refl, tt), (tt, tt));
  live = (is-mailbox count message, (is-mailbox 1 other, tt));
  dropped = tt;
  boards = tt;
  pulled = omega arith;
}

-- ---- two mailboxes of a record

abbrev of_two : ℕ → ℕ → List Kept → ℕ → List Kept → AccountRecord
of_two pulled highest messages other others = record empty_record {
  pulled = pulled;
  live = (work, record { highest = highest; messages = messages; lists = [] }) ∷ (box, record { highest = other; messages = others; lists = [] }) ∷ [];
}

module _ (pulled highest : ℕ) (messages : List Kept) (other : ℕ) (others : List Kept) where
  few-uids : highest ≤ 1000000000 → other ≤ 1000000000 → holds_more (of_two pulled highest messages other others) limit.Uids ≡ false
  few-uids one two = λ i. not (le-leb highest 1000000000 one i && (le-leb other 1000000000 two i && true))

  few-messages : length messages ≤ 4096 → length others ≤ 4096 → holds_more (of_two pulled highest messages other others) limit.Messages ≡ false
  few-messages one two = λ i. not (le-leb (length messages) 4096 one i && (le-leb (length others) 4096 two i && true))

  many-messages : 4096 < length messages → holds_more (of_two pulled highest messages other others) limit.Messages ≡ true
  many-messages many = λ i. not (lt-leb (length messages) 4096 many i && (nat_le (length others) 4096 && true))

  little-weight : weigh messages + weigh others ≤ 16777216 → holds_more (of_two pulled highest messages other others) limit.Bytes ≡ false
  little-weight little = le-ltb 16777216 (weigh messages + (weigh others + 0)) (omega (arith, little))

  much-weight : 16777216 < weigh messages + weigh others → holds_more (of_two pulled highest messages other others) limit.Bytes ≡ true
  much-weight much = lt-ltb 16777216 (weigh messages + (weigh others + 0)) (omega (arith, much))

-- ---- what an entry is told that puts messages into them

module _ (count : ℕ) (message other : List (List ℕ)) where
  put-told : (e : Entry) (new : AccountRecord) {many heavy : Bool} → is_allowed (said_by (with_copies count message other) 99) e ≡ true → after (with_copies count message other) 99 e ≡ new → limits_of e ≡ limit.Uids ∷ limit.Messages ∷ limit.Bytes ∷ limit.Changes ∷ [] → holds_more new limit.Uids ≡ false → holds_more new limit.Messages ≡ many → holds_more new limit.Bytes ≡ heavy → holds_more new limit.Changes ≡ false → limit_passed (said_by (with_copies count message other) 99) e ≡ cond many (Some limit.Messages) (cond heavy (Some limit.Bytes) None)
  put-told e new allowed is limits uids messages bytes changes =
      told-after (with_copies count message other) 99 e (formed count message other) allowed ∙ (λ i. find (holds_more (is i)) (limits i)) ∙ told-of-four (holds_more new) uids messages bytes changes

  -- the record with a copy of the other message behind the copies
  abbrev with_copy : AccountRecord
  with_copy = of_two 0 (suc count) (copied 0 count message ++ copy_as (suc count) (arrived 1 other) ∷ []) 1 (copied 0 1 other)

  -- the record with a letter behind them
  abbrev with_one : List (List ℕ) → AccountRecord
  with_one letter = of_two 1 (suc count) (copied 0 count message ++ arrived (suc count) letter ∷ []) 1 (copied 0 1 other)

-- ---- as many messages

few-notes : (count : ℕ) → count ≤ 4096 → IsCanonical (with_copies count note note) 99
few-notes count few = held-canonical (with_copies count note note) 99 (formed count note note) refl refl
    (few-uids 0 count (copied 0 count note) 1 (copied 0 1 note) (omega (arith, few)) (omega arith))
    (few-messages 0 count (copied 0 count note) 1 (copied 0 1 note) (omega (arith, few, length-copied note 0 count)) (omega arith))
    (little-weight 0 count (copied 0 count note) 1 (copied 0 1 note) (omega (arith, few, weight-copied note 0 count)))
    refl refl

many-notes : (count : ℕ) → 4096 < count → PassesLimit (with_copies count note note)
many-notes count many = (formed count note note, more-messages (with_copies count note note) 99 (formed count note note) (many-messages 0 count (copied 0 count note) 1 (copied 0 1 note) (omega (arith, many, length-copied note 0 count))))

pub messages-at-limit : MessagesAtLimit
messages-at-limit = (few-notes 4096 (omega arith), many-notes 4097 (omega arith))

module _ (count : ℕ) where
  -- notes behind the copies
  abbrev notes : List Kept → List Kept
  notes more = copied 0 count note ++ more

  one-note : (kept : Kept) → kept.message ≡ note → (length (notes (kept ∷ [])) ≡ count + 1) × (weigh (notes (kept ∷ [])) ≡ count * 261 + 261)
  one-note kept is = (length-behind note count (kept ∷ []), omega (arith, weight-behind note count (kept ∷ []), ap weight_of is))

  abbrev two-notes : List Kept
  two-notes = notes (arrived (suc count) note ∷ []) ++ arrived (suc (suc count)) note ∷ []

  length-two : length two-notes ≡ count + 2
  length-two = omega (arith, length-append (notes (arrived (suc count) note ∷ [])) (arrived (suc (suc count)) note ∷ []), (one-note (arrived (suc count) note) refl).0)

  room : count ≡ 4095 → passes (start (with_copies count note note) 99) (Copy box 1 work ∷ Pull 1 (notes_to work 1) ∷ Pull 1 (notes_to work 2) ∷ []) ≡ None ∷ None ∷ Some limit.Messages ∷ []
  room is =
      let copy = one-note (copy_as (suc count) (arrived 1 note)) refl in
      let letter = one-note (arrived (suc count) note) refl in
      let first = put-told count note note (Copy box 1 work) (with_copy count note note) refl refl refl (few-uids 0 (suc count) (notes (copy_as (suc count) (arrived 1 note) ∷ [])) 1 (copied 0 1 note) (omega (arith, is)) (omega arith)) (few-messages 0 (suc count) (notes (copy_as (suc count) (arrived 1 note) ∷ [])) 1 (copied 0 1 note) (omega (arith, is, copy.0)) (omega arith)) (little-weight 0 (suc count) (notes (copy_as (suc count) (arrived 1 note) ∷ [])) 1 (copied 0 1 note) (omega (arith, is, copy.1))) refl in
      let second = put-told count note note (Pull 1 (notes_to work 1)) (with_one count note note note) refl refl refl (few-uids 1 (suc count) (notes (arrived (suc count) note ∷ [])) 1 (copied 0 1 note) (omega (arith, is)) (omega arith)) (few-messages 1 (suc count) (notes (arrived (suc count) note ∷ [])) 1 (copied 0 1 note) (omega (arith, is, letter.0)) (omega arith)) (little-weight 1 (suc count) (notes (arrived (suc count) note ∷ [])) 1 (copied 0 1 note) (omega (arith, is, letter.1))) refl in
      let third = put-told count note note (Pull 1 (notes_to work 2)) (of_two 1 (suc (suc count)) two-notes 1 (copied 0 1 note)) refl refl refl (few-uids 1 (suc (suc count)) two-notes 1 (copied 0 1 note) (omega (arith, is)) (omega arith)) (many-messages 1 (suc (suc count)) two-notes 1 (copied 0 1 note) (omega (arith, is, length-two))) refl refl in
      λ i. first i ∷ second i ∷ third i ∷ []

  full : count ≡ 4096 → passes (start (with_copies count note note) 99) (Copy box 1 work ∷ Pull 1 (notes_to work 1) ∷ Pull 1 (notes_to box 2) ∷ []) ≡ Some limit.Messages ∷ Some limit.Messages ∷ None ∷ []
  full is =
      let copy = one-note (copy_as (suc count) (arrived 1 note)) refl in
      let letter = one-note (arrived (suc count) note) refl in
      let first = put-told count note note (Copy box 1 work) (with_copy count note note) refl refl refl (few-uids 0 (suc count) (notes (copy_as (suc count) (arrived 1 note) ∷ [])) 1 (copied 0 1 note) (omega (arith, is)) (omega arith)) (many-messages 0 (suc count) (notes (copy_as (suc count) (arrived 1 note) ∷ [])) 1 (copied 0 1 note) (omega (arith, is, copy.0))) refl refl in
      let second = put-told count note note (Pull 1 (notes_to work 1)) (with_one count note note note) refl refl refl (few-uids 1 (suc count) (notes (arrived (suc count) note ∷ [])) 1 (copied 0 1 note) (omega (arith, is)) (omega arith)) (many-messages 1 (suc count) (notes (arrived (suc count) note ∷ [])) 1 (copied 0 1 note) (omega (arith, is, letter.0))) refl refl in
      let third = put-told count note note (Pull 1 (notes_to box 2)) (of_two 1 count (copied 0 count note) 3 (copied 0 3 note)) refl refl refl (few-uids 1 count (copied 0 count note) 3 (copied 0 3 note) (omega (arith, is)) (omega arith)) (few-messages 1 count (copied 0 count note) 3 (copied 0 3 note) (omega (arith, is, length-copied note 0 count)) (omega arith)) (little-weight 1 count (copied 0 count note) 3 (copied 0 3 note) (omega (arith, is, weight-copied note 0 count))) refl in
      λ i. first i ∷ second i ∷ third i ∷ []

pub mailbox-is-full : MailboxIsFull
mailbox-is-full count = (room count, full count)

-- ---- as much weight

size-replicated : (count : ℕ) (line : List ℕ) → size_of (replicate count line) ≡ count * (length line + 2)
size-replicated zero line = omega arith
size-replicated (suc count) line = omega (arith, size-replicated count line, suc-mul count (length line + 2))

lines-replicated : (count : ℕ) (line : List ℕ) → is_line line ≡ true → list_all is_line (replicate count line) ≡ true
lines-replicated zero line is = refl
lines-replicated (suc count) line is = and_from (is_line line) (list_all is_line (replicate count line)) is (lines-replicated count line is)

sized : (first : ℕ) → first ≤ 356 → is_line (replicate first 97) ≡ true → IsSized (long_message first) (first + 65180)
sized first short is = record {
  exact = omega (arith, size-replicated 639 (replicate 100 97), length-replicate {A = ℕ} first 97);
  bound = omega (arith, short);
  fitting = and_from (is_line (replicate first 97)) (list_all is_line (replicate 639 (replicate 100 97))) is (lines-replicated 639 (replicate 100 97) refl);
}

pub long-messages : LongMessages
long-messages = (sized 100 (omega arith) refl, sized 101 (omega arith) refl)

module _ (count : ℕ) (message : List (List ℕ)) (heavy : weight_of message ≡ 65536) where
  weight-one : (kept : Kept) → weigh (copied 0 count message ++ kept ∷ []) ≡ count * 65536 + weight_of kept.message
  weight-one kept = omega (arith, weight-behind message count (kept ∷ []), ap (λ n. count * n) heavy)

  weight-alone : weigh (copied 0 count message) ≡ count * 65536
  weight-alone = omega (arith, weight-copied message 0 count, ap (λ n. count * n) heavy)

pub weight-at-limit : WeightAtLimit
weight-at-limit message longer heavy heavier = (canonical 255 refl, passing 255 refl)
  where
    canonical : (count : ℕ) → count ≡ 255 → IsCanonical (with_copies count message message) 99
    canonical count is = held-canonical (with_copies count message message) 99 (formed count message message) refl refl
        (few-uids 0 count (copied 0 count message) 1 (copied 0 1 message) (omega (arith, is)) (omega arith))
        (few-messages 0 count (copied 0 count message) 1 (copied 0 1 message) (omega (arith, is, length-copied message 0 count)) (omega arith))
        (little-weight 0 count (copied 0 count message) 1 (copied 0 1 message) (omega (arith, is, weight-alone count message heavy, heavy)))
        refl refl

    passing : (count : ℕ) → count ≡ 255 → PassesLimit (with_copies count message longer)
    passing count is = (formed count message longer, more-bytes (with_copies count message longer) 99 (formed count message longer) (much-weight 0 count (copied 0 count message) 1 (copied 0 1 longer) (omega (arith, is, weight-alone count message heavy, heavier))))

pub account-is-full : AccountIsFull
account-is-full count message longer is heavy heavier =
    let uids = λ (pulled : ℕ) (messages : List Kept) (other : ℕ) (others : List Kept) (few : other ≤ 2). few-uids pulled (suc count) messages other others (omega (arith, is)) (omega (arith, few)) in
    let copied-more = λ (kept : Kept). copied 0 count message ++ kept ∷ [] in
    let messages = λ (pulled : ℕ) (kept : Kept) (other : ℕ) (others : List Kept) (few : length others ≤ 2). few-messages pulled (suc count) (copied-more kept) other others (omega (arith, is, length-behind message count (kept ∷ []))) (omega (arith, few)) in
    let copy = copy_as (suc count) (arrived 1 message) in
    let letter = arrived (suc count) message in
    let heavier-letter = arrived (suc count) longer in
    let one = copied 0 1 message in
    let two = copied 0 2 message in
    let first = put-told count message message (Copy box 1 work) (with_copy count message message) refl refl refl (uids 0 (copied-more copy) 1 one (omega arith)) (messages 0 copy 1 one (omega arith)) (little-weight 0 (suc count) (copied-more copy) 1 one (omega (arith, is, weight-one count message heavy copy, heavy))) refl in
    let second = put-told count message message (Pull 1 ((work, message) ∷ [])) (with_one count message message message) refl refl refl (uids 1 (copied-more letter) 1 one (omega arith)) (messages 1 letter 1 one (omega arith)) (little-weight 1 (suc count) (copied-more letter) 1 one (omega (arith, is, weight-one count message heavy letter, heavy))) refl in
    let third = put-told count message message (Pull 1 ((work, longer) ∷ [])) (with_one count message message longer) refl refl refl (uids 1 (copied-more heavier-letter) 1 one (omega arith)) (messages 1 heavier-letter 1 one (omega arith)) (much-weight 1 (suc count) (copied-more heavier-letter) 1 one (omega (arith, is, weight-one count message heavy heavier-letter, heavy, heavier))) refl in
    let fourth = put-told count message message (Pull 1 ((work, message) ∷ (box, message) ∷ [])) (of_two 1 (suc count) (copied-more letter) 2 two) refl refl refl (uids 1 (copied-more letter) 2 two (omega arith)) (messages 1 letter 2 two (omega arith)) (much-weight 1 (suc count) (copied-more letter) 2 two (omega (arith, is, weight-one count message heavy letter, heavy))) refl in
    λ i. first i ∷ second i ∷ third i ∷ fourth i ∷ []
