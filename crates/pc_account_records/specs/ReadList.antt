-- An update list while it is read.
use Rattle.std.specs.Prelude.{◌≡◌, ℕ, ◌+◌, ◌≤◌, Bool, not, ◌&&◌, nat_le, List}
use Rattle.pc_account_history.specs.declared.kept.Listed.{Listed}
use Rattle.pc_tables.specs.Order.{Ordered}
use Rattle.pc_account_history.specs.Legal.{HasOtherUid}
use Rattle.pc_fields.specs.Fields.{within}
use Rattle.pc_account_spelling.specs.RecordFormat.{above, is_listed, least_stamp, can_follow}
use Rattle.pc_account_records.specs.declared.loading.lists.Tally.{Tally}

-- the tally is right, and so many changes more can stand above its uid
pub record HasRoom (highest coming : ℕ) (list : List Listed) (tally : Tally) : Type 0 where
  pub distinct : Ordered HasOtherUid list
  pub counted : tally.above ≡ above tally.uid list
  pub room : coming + tally.above + tally.uid ≤ highest

-- this uid can come behind the last change, and so many changes behind it
abbrev pub is_next : ℕ → ℕ → List Listed → Listed → ℕ → Bool
is_next highest left before last uid = within 1 highest uid && not (is_listed uid before) && can_follow highest left before uid (least_stamp last.stamp last.uid uid)

-- the uid can have this stamp
abbrev pub is_stamp : ℕ → ℕ → List Listed → Listed → ℕ → ℕ → Bool
is_stamp highest left before last uid stamp = nat_le (least_stamp last.stamp last.uid uid) stamp && can_follow highest left before uid stamp
