-- A small record with its bytes, written out.
use Rattle.std.specs.Prelude.{◌≡◌, ℕ, List, [], ◌∷◌, ◌++◌, codes}
use Rattle.pc_office_history.specs.Record.{OfficeRecord}
use Rattle.pc_office_spelling.specs.RecordSpelling.{spelled_record}

-- two users, an address besides their own, a board with a message; 258 mails were accepted, and one still waits for both
abbrev pub small_record : OfficeRecord
small_record = record {
  users = (codes "ann", 1) ∷ (codes "bob", 0) ∷ [];
  addresses = (codes "ann", record { user = codes "ann"; mailbox = codes "inbox" }) ∷ (codes "bob", record { user = codes "bob"; mailbox = codes "inbox" }) ∷ (codes "sales", record { user = codes "bob"; mailbox = codes "work" }) ∷ [];
  boards = (codes "news", (codes "hi" ∷ []) ∷ []) ∷ [];
  accepted = 258;
  kept = record {
    number = 2;
    targets = record { user = codes "bob"; mailbox = codes "work" } ∷ record { user = codes "ann"; mailbox = codes "inbox" } ∷ [];
    message = codes "To: x" ∷ [] ∷ [];
  }
      ∷ [];
}

abbrev pub user_bytes : List ℕ
user_bytes = (0 ∷ 2 ∷ 3 ∷ codes "ann") ++ (0 ∷ 0 ∷ 0 ∷ 0 ∷ 0 ∷ 0 ∷ 0 ∷ 1 ∷ 3 ∷ codes "bob") ++ (0 ∷ 0 ∷ 0 ∷ 0 ∷ 0 ∷ 0 ∷ 0 ∷ 0 ∷ [])

abbrev pub address_bytes : List ℕ
address_bytes = (0 ∷ 3 ∷ 3 ∷ codes "ann") ++ (3 ∷ codes "ann") ++ (5 ∷ codes "inbox") ++ (3 ∷ codes "bob") ++ (3 ∷ codes "bob") ++ (5 ∷ codes "inbox") ++ (5 ∷ codes "sales") ++ (3 ∷ codes "bob") ++ (4 ∷ codes "work")

abbrev pub board_bytes : List ℕ
board_bytes = (0 ∷ 1 ∷ 4 ∷ codes "news") ++ (0 ∷ 0 ∷ 0 ∷ 1 ∷ 0 ∷ 0 ∷ 0 ∷ 1 ∷ 0 ∷ 2 ∷ codes "hi")

abbrev pub kept_bytes : List ℕ
kept_bytes =
    (0 ∷ 0 ∷ 0 ∷ 1 ∷ 0 ∷ 0 ∷ 0 ∷ 0 ∷ 0 ∷ 0 ∷ 0 ∷ 2 ∷ 0 ∷ 2 ∷ 3 ∷ codes "bob") ++ (4 ∷ codes "work") ++ (3 ∷ codes "ann") ++ (5 ∷ codes "inbox") ++ (0 ∷ 0 ∷ 0 ∷ 2 ∷ 0 ∷ 5 ∷ codes "To: x") ++ (0 ∷ 0 ∷ [])

abbrev pub SmallRecord : Type 0
SmallRecord = spelled_record small_record ≡ user_bytes ++ address_bytes ++ board_bytes ++ (0 ∷ 0 ∷ 0 ∷ 0 ∷ 0 ∷ 0 ∷ 1 ∷ 2 ∷ []) ++ kept_bytes
