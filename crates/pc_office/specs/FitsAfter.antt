-- What fits its fields fits again after an entry that does.
use Rattle.std.proofs.Common.{◌≡◌, ℕ, true, false, cond, not, ◌&&◌, nat_le, List, [], ◌∷◌, ◌++◌, map, Some, MatchOption, IsTrue, refl}
use Rattle.std.specs.Prelude.{⊤}
use Rattle.std.specs.List.{list_all, AllByRecursion as Every}
use Rattle.std.specs.Map.{lookup, set_value}
use Rattle.std.proofs.lemmas.Bool.{and_parts, and_from}
use Rattle.pc_base.specs.Name.{is_name, inbox}
use Rattle.pc_tables.specs.Table.{same, is_among}
use Rattle.pc_tables.proofs.Lists.{list_all-append, list_all-filter}
use Rattle.pc_fields.specs.Fitting.{is_message}
use Rattle.pc_office_history.specs.declared.kept.Target.{Target}
use Rattle.pc_office_history.specs.declared.kept.KeptMail.{KeptMail}
use Rattle.pc_office_history.specs.declared.entry.OfficeEntry.{OfficeEntry}
use Rattle.pc_office_history.specs.declared.entry.OfficeEntry.TheVariants.{AddUser, AddBoard, TakeAddress, DropAddress, Accept, Pulled}
use Rattle.pc_office_history.specs.Record.{OfficeRecord}
use Rattle.pc_office_history.specs.Effect.{targets_of, other_targets}
use Rattle.pc_office_history.specs.Step.{after, still_waiting, pulled_by, with_message, new_mail, is_awaited}
use Rattle.pc_office_history.proofs.Mails.{targets-every}
use Rattle.pc_office_spelling.specs.EntryForm.{are_names, entry_fits}
use Rattle.pc_office_spelling.specs.RecordForm.{user_fits, target_fits, address_fits, board_fits, kept_fits, fits_record}

-- ---- the parts of a record

record Fit (r : OfficeRecord) : Type 0 where
  users : list_all user_fits r.users ≡ true
  addresses : list_all address_fits r.addresses ≡ true
  boards : list_all board_fits r.boards ≡ true
  kept : list_all kept_fits r.kept ≡ true

parts-of : (r : OfficeRecord) → IsTrue (fits_record r) → Fit r
parts-of r h =
    let third = and_parts (list_all user_fits r.users && list_all address_fits r.addresses && list_all board_fits r.boards) (list_all kept_fits r.kept) h in
    let second = and_parts (list_all user_fits r.users && list_all address_fits r.addresses) (list_all board_fits r.boards) third.0 in
    let first = and_parts (list_all user_fits r.users) (list_all address_fits r.addresses) second.0 in
    record { users = first.0; addresses = first.1; boards = second.1; kept = third.1 }

together : (r : OfficeRecord) → Fit r → IsTrue (fits_record r)
together r fit =
    and_from (list_all user_fits r.users && list_all address_fits r.addresses && list_all board_fits r.boards) (list_all kept_fits r.kept)
    (and_from (list_all user_fits r.users && list_all address_fits r.addresses) (list_all board_fits r.boards) (and_from (list_all user_fits r.users) (list_all address_fits r.addresses) fit.users fit.addresses) fit.boards)
    fit.kept

-- ---- tables

-- a user that is noted to have pulled keeps its name
noted-fit : (user : List ℕ) (number : ℕ) (users : List (List ℕ × ℕ)) → list_all user_fits users ≡ true → list_all user_fits (set_value (same user) users number) ≡ true
noted-fit user number [] h = refl
noted-fit user number (first ∷ users) h =
    let parts = and_parts (is_name first.0) (list_all user_fits users) h in
    elim (same user first.0) as (λ b. list_all user_fits (cond b ((first.0, number) ∷ users) (first ∷ set_value (same user) users number)) ≡ true) [
      | true ↦ and_from (is_name first.0) (list_all user_fits users) parts.0 parts.1
      | false ↦ and_from (is_name first.0) (list_all user_fits (set_value (same user) users number)) parts.0 (noted-fit user number users parts.1)
    ]

-- a message fits on the boards to which it is sent
posted-fit : (names message : List (List ℕ)) (boards : List (List ℕ × List (List (List ℕ)))) → is_message message ≡ true → list_all board_fits boards ≡ true → list_all board_fits (with_message names message boards) ≡ true
posted-fit names message [] fit h = refl
posted-fit names message (board ∷ boards) fit h =
    let parts = and_parts (board_fits board) (list_all board_fits boards) h in
    let here = and_parts (is_name board.0) (list_all is_message board.1) parts.0 in
    and_from (is_name board.0 && list_all is_message (cond (is_among board.0 names) (board.1 ++ message ∷ []) board.1)) (list_all board_fits (with_message names message boards))
    (and_from (is_name board.0) (list_all is_message (cond (is_among board.0 names) (board.1 ++ message ∷ []) board.1)) here.0
    (elim (is_among board.0 names) as (λ b. list_all is_message (cond b (board.1 ++ message ∷ []) board.1) ≡ true) [
      | true ↦ list_all-append is_message board.1 (message ∷ []) here.1 (and_from (is_message message) true fit refl)
      | false ↦ here.1
    ]))
    (posted-fit names message boards fit parts.1)

-- ---- mails

-- whom an address is for has names
found-fit : (name : List ℕ) (addresses : List (List ℕ × Target)) → list_all address_fits addresses ≡ true → MatchOption (lookup (same name) addresses) ⊤ (λ target. target_fits target ≡ true)
found-fit name [] h = tt
found-fit name (address ∷ addresses) h =
    let parts = and_parts (address_fits address) (list_all address_fits addresses) h in
    let here = and_parts (is_name address.0) (target_fits address.1) parts.0 in
    elim (same name address.0) as (λ b. MatchOption (cond b (Some address.1) (lookup (same name) addresses)) ⊤ (λ target. target_fits target ≡ true)) [ true ↦ here.1 | false ↦ found-fit name addresses parts.1 ]

all-fit : (targets : List Target) → Every (λ target. target_fits target ≡ true) targets → list_all target_fits targets ≡ true
all-fit [] h = refl
all-fit (target ∷ targets) h = and_from (target_fits target) (list_all target_fits targets) h.0 (all-fit targets h.1)

mail-fits : (r : OfficeRecord) (names message : List (List ℕ)) → list_all address_fits r.addresses ≡ true → is_message message ≡ true → kept_fits (new_mail r names message) ≡ true
mail-fits r names message h fit =
    let targets = targets_of (λ name. lookup (same name) r.addresses) names in
    and_from (list_all target_fits targets) (is_message message) (all-fit targets (targets-every (λ target. target_fits target ≡ true) (λ name. lookup (same name) r.addresses) names (λ name. found-fit name r.addresses h))) fit

-- what is left of a mail fits
pulled-fits : (user : List ℕ) (number : ℕ) (mails : List KeptMail) → list_all kept_fits mails ≡ true → list_all kept_fits (map (pulled_by user number) mails) ≡ true
pulled-fits user number [] h = refl
pulled-fits user number (mail ∷ mails) h =
    let parts = and_parts (kept_fits mail) (list_all kept_fits mails) h in
    let here = and_parts (list_all target_fits mail.targets) (is_message mail.message) parts.0 in
    let left = cond (nat_le mail.number number) (other_targets user mail.targets) mail.targets in
    and_from (list_all target_fits left && is_message mail.message) (list_all kept_fits (map (pulled_by user number) mails))
    (and_from (list_all target_fits left) (is_message mail.message)
    (elim (nat_le mail.number number) as (λ b. list_all target_fits (cond b (other_targets user mail.targets) mail.targets) ≡ true) [
      | true ↦ list_all-filter target_fits (λ target. not (same user target.user)) mail.targets here.0
      | false ↦ here.0
    ])
    here.1)
    (pulled-fits user number mails parts.1)

-- ---- all entries

pub step_fits : (r : OfficeRecord) (e : OfficeEntry) → IsTrue (fits_record r) → IsTrue (entry_fits e) → IsTrue (fits_record (after r e))
step_fits r (AddUser user) h fit =
    let parts = parts-of r h in
    together (after r (AddUser user)) (record {
      users = list_all-append user_fits r.users ((user, 0) ∷ []) parts.users (and_from (is_name user) true fit refl);
      addresses = list_all-append address_fits r.addresses ((user, record { user = user; mailbox = inbox }) ∷ []) parts.addresses (and_from (is_name user && (is_name user && is_name inbox)) true (and_from (is_name user) (is_name user && is_name inbox) fit (and_from (is_name user) (is_name inbox) fit refl)) refl);
      boards = parts.boards;
      kept = parts.kept;
    })
step_fits r (AddBoard board) h fit =
    let parts = parts-of r h in
    together (after r (AddBoard board)) (record {
      users = parts.users;
      addresses = parts.addresses;
      boards = list_all-append board_fits r.boards ((board, []) ∷ []) parts.boards (and_from (is_name board && true) true (and_from (is_name board) true fit refl) refl);
      kept = parts.kept;
    })
step_fits r (TakeAddress address user mailbox) h fit =
    let parts = parts-of r h in
    let names = and_parts (is_name address && is_name user) (is_name mailbox) fit in
    let first = and_parts (is_name address) (is_name user) names.0 in
    together (after r (TakeAddress address user mailbox)) (record {
      users = parts.users;
      addresses = list_all-append address_fits r.addresses ((address, record { user = user; mailbox = mailbox }) ∷ []) parts.addresses (and_from (is_name address && (is_name user && is_name mailbox)) true (and_from (is_name address) (is_name user && is_name mailbox) first.0 (and_from (is_name user) (is_name mailbox) first.1 names.1)) refl);
      boards = parts.boards;
      kept = parts.kept;
    })
step_fits r (DropAddress address) h fit =
    let parts = parts-of r h in
    together (after r (DropAddress address)) (record {
      users = parts.users;
      addresses = list_all-filter address_fits (λ entry. not (same address entry.0)) r.addresses parts.addresses;
      boards = parts.boards;
      kept = parts.kept;
    })
step_fits r (Accept names message) h fit =
    let parts = parts-of r h in
    let sent = and_parts (are_names names) (is_message message) fit in
    together (after r (Accept names message)) (record {
      users = parts.users;
      addresses = parts.addresses;
      boards = posted-fit names message r.boards sent.1 parts.boards;
      kept = list_all-append kept_fits r.kept (still_waiting (new_mail r names message ∷ [])) parts.kept (list_all-filter kept_fits (λ mail. is_awaited mail.targets) (new_mail r names message ∷ []) (and_from (kept_fits (new_mail r names message)) true (mail-fits r names message parts.addresses sent.1) refl));
    })
step_fits r (Pulled user number) h fit =
    let parts = parts-of r h in
    together (after r (Pulled user number)) (record {
      users = noted-fit user number r.users parts.users;
      addresses = parts.addresses;
      boards = parts.boards;
      kept = list_all-filter kept_fits (λ mail. is_awaited mail.targets) (map (pulled_by user number) r.kept) (pulled-fits user number r.kept parts.kept);
    })
