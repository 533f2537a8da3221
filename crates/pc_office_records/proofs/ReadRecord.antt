-- What reading a record says of its bytes, and of what is counted.
use Rattle.std.proofs.Common.{◌≡◌, ℕ, ◌≤◌, ◌&&◌, nat_le, Bool, false, List, [], ◌∷◌, ◌++◌, length, map, Result, Ok, Err, MatchResult, IfOk, refl, sym, ap, subst, arith}
use Rattle.std.specs.List.{list_all}
use Rattle.std.specs.Map.{keys_of}
use Rattle.pc_message.specs.declared.limits.TheConstants.{LAST_MAIL}
use Rattle.pc_tables.specs.Order.{AreDistinct}
use Rattle.pc_fields.specs.Format.{Format, ends, Took, Stuck, Reads}
use Rattle.pc_fields.specs.declared.cursor.Halt.{Halt}
use Rattle.pc_fields.specs.declared.cursor.Halt.TheVariants.{NoField}
use Rattle.pc_fields.proofs.Formats.{took_fields}
use Rattle.pc_fields.proofs.Good.{good_reads}
use Rattle.pc_office_history.specs.declared.kept.Target.{Target}
use Rattle.pc_office_history.specs.declared.kept.KeptMail.{KeptMail}
use Rattle.pc_office_history.specs.Record.{OfficeRecord}
use Rattle.pc_office_spelling.specs.RecordFormat.{users_format, addresses_format, boards_format, record_format}
use Rattle.pc_office_spelling.proofs.GoodTables.{AreReadUsers, good_users}
use Rattle.pc_office_spelling.proofs.Limits.{Boards}
use Rattle.pc_office_spelling.specs.RecordForm.{CanBeSaved}
use Rattle.pc_office_spelling.specs.RecordSpelling.{spelled_record}
use Rattle.pc_fields.proofs.Spelled.{if_both}
use Rattle.pc_base.specs.declared.failure.ReadFault.{ReadFault}
use Rattle.pc_office_holdings.specs.declared.users.Standing.{Standing}
use Rattle.pc_office_holdings.specs.Held.{Held, noted_of, record_in, AreAllCounted}
use Rattle.pc_office_holdings.specs.State.{IsSound}
use Rattle.pc_office_records.specs.Loading.{is_accepted}
use Rattle.pc_office_records.proofs.ReadTables.{keys-noted}

abbrev Table : Type 0
Table = List (List ℕ × Standing)

-- ---- the parts of a record

length-noted : (users : Table) → length (map noted_of users) ≡ length users
length-noted [] = refl
length-noted (user ∷ users) = let rest = length-noted users in omega (arith, rest)

-- users that were read are few, of different names
pub users-are : (old new : List ℕ) (users : Table) → Reads users_format old new (Ok (map noted_of users)) → AreDistinct (keys_of users) × (length users ≤ 32)
users-are old new users reads =
    let read = took_fields users_format old new (map noted_of users) reads.told in
    let are = (good_reads (AreReadUsers []) users_format [] read.fields (map noted_of users) (good_users []) read.reads).are in
    let few = are.few in
    let same = length-noted users in
    (subst AreDistinct (keys-noted users) are.distinct, omega (arith, few, same))

pub addresses-read : (users : Table) (old new : List ℕ) (read : Result (List (List ℕ × Target)) Halt) → Reads (addresses_format (keys_of users)) old new read → Reads (addresses_format (keys_of (map noted_of users))) old new read
addresses-read users old new read reads = subst (λ (names : List (List ℕ)). Reads (addresses_format names) old new read) (sym (keys-noted users)) reads

pub boards-read : (users : Table) (addresses : List (List ℕ × Target)) (old new : List ℕ) (read : Result Boards Halt) → Reads (boards_format (keys_of users ++ keys_of addresses)) old new read → Reads (boards_format (keys_of (map noted_of users) ++ keys_of addresses)) old new read
boards-read users addresses old new read reads = subst (λ (names : List (List ℕ)). Reads (boards_format (names ++ keys_of addresses)) old new read) (sym (keys-noted users)) reads

-- fewer were accepted than are noted of a user
pub accepted-fails : (users : List (List ℕ × ℕ)) (accepted : ℕ) → list_all (λ (user : List ℕ × ℕ). nat_le user.1 accepted) users ≡ false → is_accepted users accepted ≡ false
accepted-fails users accepted past = ap (λ (b : Bool). b && nat_le accepted LAST_MAIL) past

-- the record, once all was read
abbrev pub with_kept : List (List ℕ × ℕ) → List (List ℕ × Target) → Boards → ℕ → List KeptMail → Format OfficeRecord
with_kept users addresses boards accepted kept = ends (record { users = users; addresses = addresses; boards = boards; accepted = accepted; kept = kept })

-- what was read is sound
pub office_sound : (bytes : List ℕ) (result : Result Held ReadFault) → IfOk result (λ held. CanBeSaved (record_in held) × (spelled_record (record_in held) ≡ bytes)) → IfOk result AreAllCounted → IfOk result IsSound
office_sound bytes result found counted =
    if_both (λ (held : Held). CanBeSaved (record_in held) × (spelled_record (record_in held) ≡ bytes)) AreAllCounted IsSound result found counted
    (λ held is all. record { canonical = is.0.canonical; counted = all })
