-- How a store writes the record of the office.
use Rattle.std.specs.Prelude.{ℕ, List, [], ◌∷◌, ◌++◌}
use Rattle.std.specs.List.{concat}
use Rattle.pc_fields.specs.FieldBytes.{u64_field, name_field, message_fields, short_list, long_list}
use Rattle.pc_office_history.specs.declared.kept.Target.{Target}
use Rattle.pc_office_history.specs.declared.kept.KeptMail.{KeptMail}
use Rattle.pc_office_history.specs.Record.{OfficeRecord}

-- a user with the number up to which it is noted to have pulled
abbrev pub user_fields : List ℕ × ℕ → List (List ℕ)
user_fields user = name_field user.0 ∷ u64_field user.1 ∷ []

-- for whom something is
abbrev pub target_fields : Target → List (List ℕ)
target_fields target = name_field target.user ∷ name_field target.mailbox ∷ []

-- an address with whom it is for
abbrev pub address_fields : List ℕ × Target → List (List ℕ)
address_fields address = name_field address.0 ∷ target_fields address.1

-- a board with its messages
abbrev pub board_fields : List ℕ × List (List (List ℕ)) → List (List ℕ)
board_fields board = name_field board.0 ∷ long_list message_fields board.1

-- a mail with those for whom it still waits
abbrev pub kept_fields : KeptMail → List (List ℕ)
kept_fields mail = u64_field mail.number ∷ short_list target_fields mail.targets ++ message_fields mail.message

-- the fields of a record
abbrev pub fields_of_record : OfficeRecord → List (List ℕ)
fields_of_record r = short_list user_fields r.users ++ short_list address_fields r.addresses ++ short_list board_fields r.boards ++ u64_field r.accepted ∷ long_list kept_fields r.kept

-- the bytes of a record
abbrev pub spelled_record : OfficeRecord → List ℕ
spelled_record r = concat (fields_of_record r)
