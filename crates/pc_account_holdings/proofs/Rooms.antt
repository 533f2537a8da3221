-- A canonical record after an entry shows that there was room for what the entry put there.
use Rattle.std.proofs.Common.{◌≡◌, ℕ, suc, ◌≤◌, Bool, true, false, cond, List, [], ◌∷◌, length, Option, None, Some, IfSome, is_some, unwrap_or, nat_le, refl, sym, ap, ◌∙◌, subst, arith, leb-true, length-append}
use Rattle.std.proofs.lemmas.Bool.{not-false}
use Rattle.std.specs.Option.{option_map, option_map_or}
use Rattle.std.specs.Map.{lookup, set_value, keys_of}
use Rattle.pc_account_history.specs.declared.limits.TheConstants.{MOST_UIDS, MOST_MESSAGES}
use Rattle.pc_tables.specs.Table.{same}
use Rattle.pc_account_history.specs.Record.{MailboxRecord, AccountRecord, mailbox_of, new_mailbox}
use Rattle.pc_account_history.specs.Known.{said_by}
use Rattle.pc_account_history.specs.Allowed.{messages}
use Rattle.pc_account_history.specs.Legal.{IsCanonical}
use Rattle.pc_tables.proofs.Table.{same-refl, same-true, lookup-set_value, is_among-keys, list_all-among}
use Rattle.pc_tables.proofs.Options.{some-same}
use Rattle.pc_tables.proofs.Lists.{list_all-split}
use Rattle.pc_account_history.proofs.Counts.{messages-said_by}
use Rattle.pc_account_holdings.specs.Mailboxes.{Table, HasRoom, changed_at, added, delivered, AreRoomFor}

-- a mailbox within the limits
pub record IsWithinLimits (box : MailboxRecord) : Type 0 where
  pub uids : box.highest ≤ MOST_UIDS
  pub few : length box.messages ≤ MOST_MESSAGES

-- a mailbox with at least as many uids given, and at least as many messages
pub record IsGrown (box grown : MailboxRecord) : Type 0 where
  pub uids : box.highest ≤ grown.highest
  pub more : length box.messages ≤ length grown.messages

-- the mailboxes that live in a canonical record are within the limits
pub within-limits : (r : AccountRecord) (number : ℕ) → IsCanonical r number → (name : List ℕ) (box : MailboxRecord) → lookup (same name) r.live ≡ Some box → IsWithinLimits box
within-limits r number canonical name box found =
    let among = is_among-keys name r.live ∙ ap is_some found in
    let other = unwrap_or (lookup (same name) r.dropped) (new_mailbox r.clients) in
    let found-there : mailbox_of r name ≡ box = ap (λ (o : Option MailboxRecord). unwrap_or o other) found in
    let all-uids = list_all-split (λ mailbox. nat_le (mailbox_of r mailbox).highest MOST_UIDS) (keys_of r.live) (keys_of r.dropped) (not-false _ canonical.within.1.1.0) in
    let uids = list_all-among (λ mailbox. nat_le (mailbox_of r mailbox).highest MOST_UIDS) name (keys_of r.live) all-uids.0 among in
    let few = list_all-among (λ mailbox. nat_le (length (messages (said_by r number) mailbox)) MOST_MESSAGES) name (keys_of r.live) (not-false _ canonical.within.1.1.1.0) among in
    record {
      uids = leb-true box.highest MOST_UIDS (ap (λ (b : MailboxRecord). nat_le b.highest MOST_UIDS) (sym found-there) ∙ uids);
      few = leb-true (length box.messages) MOST_MESSAGES (ap (λ (b : MailboxRecord). nat_le (length b.messages) MOST_MESSAGES) (sym found-there) ∙ ap (λ l. nat_le (length l) MOST_MESSAGES) (sym (messages-said_by r number canonical.well_formed name)) ∙ few);
    }

-- ---- one mailbox is changed

pub same-grown : (box : MailboxRecord) → IsGrown box box
same-grown box = record { uids = omega arith; more = omega arith }

abbrev GrownIn : List ℕ → MailboxRecord → Table → Type 0
GrownIn name box table = (grown : MailboxRecord) × (lookup (same name) table ≡ Some grown) × IsGrown box grown

pub set-own : (name : List ℕ) (table : Table) (value box : MailboxRecord) → lookup (same name) table ≡ Some box → lookup (same name) (set_value (same name) table value) ≡ Some value
set-own name table value box found = lookup-set_value name name table value ∙ ap (λ b. cond b (option_map (λ _. value) (lookup (same name) table)) (lookup (same name) table)) (same-refl name) ∙ ap (option_map (λ _. value)) found

changed-own : (name : List ℕ) (change : MailboxRecord → MailboxRecord) (table : Table) (box : MailboxRecord) → lookup (same name) table ≡ Some box → lookup (same name) (changed_at name change table) ≡ Some (change box)
changed-own name change table box found = ap (λ (o : Option MailboxRecord). lookup (same name) (option_map_or (λ b. set_value (same name) table (change b)) o table)) found ∙ set-own name table (change box) box found

module _ (change : MailboxRecord → MailboxRecord) (grows : (box : MailboxRecord) → IsGrown box (change box)) (other name : List ℕ) (table : Table) (box : MailboxRecord) (found : lookup (same name) table ≡ Some box) where
  grown-set : (changed : MailboxRecord) (t : Bool) → lookup (same other) table ≡ Some changed → same other name ≡ t → GrownIn name box (set_value (same other) table (change changed))
  grown-set changed true e t =
      let is-box = some-same changed box (sym e ∙ ap (λ n. lookup (same n) table) (same-true other name t) ∙ found) in (
        change changed,
        lookup-set_value other name table (change changed) ∙ ap (λ b. cond b (option_map (λ _. change changed) (lookup (same other) table)) (lookup (same name) table)) t ∙ ap (option_map (λ _. change changed)) e,
        subst (λ (b : MailboxRecord). IsGrown b (change changed)) is-box (grows changed),
      )
  grown-set changed false e t =
      (box, lookup-set_value other name table (change changed) ∙ ap (λ b. cond b (option_map (λ _. change changed) (lookup (same other) table)) (lookup (same name) table)) t ∙ found, same-grown box)

  grown-found : (o : Option MailboxRecord) → lookup (same other) table ≡ o → GrownIn name box (option_map_or (λ b. set_value (same other) table (change b)) o table)
  grown-found None e = (box, found, same-grown box)
  grown-found (Some changed) e = grown-set changed (same other name) e refl

  changed-grown : GrownIn name box (changed_at other change table)
  changed-grown = grown-found (lookup (same other) table) refl

-- ---- letters

module _ (number : ℕ) where
  added-grown : (flags : ℕ) (message : List (List ℕ)) (box : MailboxRecord) → IsGrown box (added number flags message box)
  added-grown flags message box =
      let longer = length-append box.messages (record { uid = suc box.highest; flags = flags; message = message } ∷ []) in
      record { uids = omega arith; more = omega (arith, longer) }

  delivered-grown : (letters : List (List ℕ × List (List ℕ))) (table : Table) (name : List ℕ) (box : MailboxRecord) → lookup (same name) table ≡ Some box → GrownIn name box (delivered number letters table)
  delivered-grown [] table name box found = (box, found, same-grown box)
  delivered-grown (letter ∷ letters) table name box found =
      let next = changed-grown (added number 0 letter.1) (added-grown 0 letter.1) letter.0 name table box found in
      let rest = delivered-grown letters (changed_at letter.0 (added number 0 letter.1) table) name next.0 next.1 in
      (rest.0, rest.1, record { uids = omega (arith, next.2.uids, rest.2.uids); more = omega (arith, next.2.more, rest.2.more) })

  -- a mailbox had room, if with one message more, and later ones, it is within the limits
  pub had-room : (flags : ℕ) (message : List (List ℕ)) (box later : MailboxRecord) → IsGrown (added number flags message box) later → IsWithinLimits later → HasRoom box
  had-room flags message box later grown within =
      let longer = length-append box.messages (record { uid = suc box.highest; flags = flags; message = message } ∷ []) in
      record { uids = omega (arith, grown.uids, within.uids); messages = omega (arith, longer, grown.more, within.few) }

  first-room : (letter : List ℕ × List (List ℕ)) (letters : List (List ℕ × List (List ℕ))) (table : Table) → ((name : List ℕ) (box : MailboxRecord) → lookup (same name) (delivered number (letter ∷ letters) table) ≡ Some box → IsWithinLimits box) → (o : Option MailboxRecord) → lookup (same letter.0) table ≡ o → IfSome o HasRoom
  first-room letter letters table within None e = tt
  first-room letter letters table within (Some box) e =
      let later = delivered-grown letters (changed_at letter.0 (added number 0 letter.1) table) letter.0 (added number 0 letter.1 box) (changed-own letter.0 (added number 0 letter.1) table box e) in
      had-room 0 letter.1 box later.0 later.2 (within letter.0 later.0 later.1)

  -- where all that lives at the end is within the limits, each letter finds room
  pub rooms : (letters : List (List ℕ × List (List ℕ))) (table : Table) → ((name : List ℕ) (box : MailboxRecord) → lookup (same name) (delivered number letters table) ≡ Some box → IsWithinLimits box) → AreRoomFor number letters table
  rooms [] table within = tt
  rooms (letter ∷ letters) table within = (first-room letter letters table within (lookup (same letter.0) table) refl, rooms letters (changed_at letter.0 (added number 0 letter.1) table) within)
