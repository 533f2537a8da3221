-- Records as they are read: at each field what goes on to a record.
use Rattle.std.specs.Prelude.{ℕ, zero, suc, ◌+◌, ◌-◌, ◌*◌, ◌/◌, min, ◌&&◌, nat_lt, nat_le, List, [], ◌∷◌, ◌++◌, length}
use Rattle.std.specs.List.{list_all}
use Rattle.std.specs.Map.{keys_of}
use Rattle.pc_message.specs.Message.{weight_of}
use Rattle.pc_message.specs.declared.limits.TheConstants.{LAST_MAIL}
use Rattle.pc_tables.specs.Table.{is_among, total}
use Rattle.pc_fields.specs.Fields.{name_kind, u16_kind, u32_kind, u64_kind, any, within, is_new}
use Rattle.pc_fields.specs.Format.{Format, ends, goes, bind}
use Rattle.pc_fields.specs.MessageFormat.{message_within}
use Rattle.pc_office_history.specs.declared.limits.TheConstants.{MOST_USERS, MOST_BOARDS, MOST_ADDRESSES, MOST_BOARD_MESSAGES, MOST_BOARD_WEIGHT}
use Rattle.pc_office_history.specs.declared.kept.Target.{Target}
use Rattle.pc_office_history.specs.declared.kept.KeptMail.{KeptMail}
use Rattle.pc_office_history.specs.Record.{OfficeRecord}
use Rattle.pc_office_spelling.specs.Spaces.{space_of, users_of, can_follow, open_users, may_wait, greatest}

-- so many items more; each depends on how many come behind it, and on those before it
abbrev pub items_from : {X : Type 0} → (ℕ → List X → Format X) → ℕ → List X → Format (List X)
items_from item zero before = ends before
items_from item (suc count) before = bind (item count before) (λ x. items_from item count (before ++ x ∷ []))

abbrev pub user_format : ℕ → List (List ℕ × ℕ) → Format (List ℕ × ℕ)
user_format count before = goes name_kind (is_new (keys_of before)) (λ name. goes u64_kind (within 0 LAST_MAIL) (λ noted. ends (name, noted)))

abbrev pub users_format : Format (List (List ℕ × ℕ))
users_format = goes u16_kind (within 0 MOST_USERS) (λ count. items_from user_format count [])

-- an address for one of these users
abbrev pub address_format : List (List ℕ) → ℕ → List (List ℕ × Target) → Format (List ℕ × Target)
address_format users count before =
    goes name_kind (is_new (keys_of before)) (λ name. goes name_kind (λ user. is_among user users) (λ user. goes name_kind any (λ mailbox. ends (name, record { user = user; mailbox = mailbox }))))

-- how many addresses there may be: none where nobody is there for whom they could be
abbrev pub most_addresses : List (List ℕ) → ℕ
most_addresses [] = 0
most_addresses (user ∷ users) = MOST_ADDRESSES

abbrev pub addresses_format : List (List ℕ) → Format (List (List ℕ × Target))
addresses_format users = goes u16_kind (within 0 (most_addresses users)) (λ count. items_from (address_format users) count [])

-- a message of a board, on which all weigh no more than there is room
abbrev pub message_format : ℕ → ℕ → List (List (List ℕ)) → Format (List (List ℕ))
message_format room count before = message_within (min 65536 (room - (total weight_of before + 256 * suc count)))

-- what the messages of boards weigh
abbrev pub weight_on : List (List ℕ × List (List (List ℕ))) → ℕ
weight_on boards = total (λ (board : List ℕ × List (List (List ℕ))). total weight_of board.1) boards

-- a board by another name than these
abbrev pub board_format : List (List ℕ) → ℕ → List (List ℕ × List (List (List ℕ))) → Format (List ℕ × List (List (List ℕ)))
board_format names count before =
    goes name_kind (is_new (names ++ keys_of before)) (λ name.
    goes u32_kind (within 0 (min MOST_BOARD_MESSAGES ((MOST_BOARD_WEIGHT - weight_on before) / 256))) (λ messages.
    bind (items_from (message_format (MOST_BOARD_WEIGHT - weight_on before)) messages []) (λ messages. ends (name, messages))))

abbrev pub boards_format : List (List ℕ) → Format (List (List ℕ × List (List (List ℕ))))
boards_format names = goes u16_kind (within 0 MOST_BOARDS) (λ count. items_from (board_format names) count [])

-- one of these users, once, and the name of a mailbox
abbrev pub target_format : List (List ℕ) → ℕ → List Target → Format Target
target_format users count before =
    goes name_kind (λ user. is_among user users && is_new (users_of before) user) (λ user. goes name_kind any (λ mailbox. ends (record { user = user; mailbox = mailbox })))

-- a mail that still waits, with a number that leaves one for each of those behind it
abbrev pub kept_format : List (List ℕ × ℕ) → ℕ → ℕ → List KeptMail → Format KeptMail
kept_format users accepted count before =
    goes u64_kind (λ number. list_all (λ (mail : KeptMail). nat_lt mail.number number) before && nat_le (number + count) accepted && nat_lt 0 (length (open_users (space_of before) users number))) (λ number.
    goes u16_kind (λ many. nat_lt 0 many && nat_le many (length (open_users (space_of before) users number)) && can_follow (space_of before) users accepted count many) (λ many.
    bind (items_from (target_format (open_users (space_of before) users number)) many []) (λ targets.
    bind (message_within (greatest (may_wait users accepted count before targets) 65536)) (λ message.
    ends (record { number = number; targets = targets; message = message })))))

-- as many mails as can wait
abbrev pub kept_list_format : List (List ℕ × ℕ) → ℕ → Format (List KeptMail)
kept_list_format users accepted = goes u32_kind (λ count. can_follow (space_of []) users accepted count 0) (λ count. items_from (kept_format users accepted) count [])

abbrev pub record_format : Format OfficeRecord
record_format =
    bind users_format (λ users.
    bind (addresses_format (keys_of users)) (λ addresses.
    bind (boards_format (keys_of users ++ keys_of addresses)) (λ boards.
    goes u64_kind (λ accepted. list_all (λ (user : List ℕ × ℕ). nat_le user.1 accepted) users && nat_le accepted LAST_MAIL) (λ accepted.
    bind (kept_list_format users accepted) (λ kept.
    ends (record { users = users; addresses = addresses; boards = boards; accepted = accepted; kept = kept }))))))
