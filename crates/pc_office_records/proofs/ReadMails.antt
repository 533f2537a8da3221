-- Reading mails that wait, one after the other.
use Rattle.std.proofs.Common.{◌≡◌, ℕ, suc, ◌+◌, ◌<◌, Bool, ◌&&◌, nat_lt, nat_le, List, [], ◌∷◌, length, map, Result, Ok, Err, refl, sym, ap, subst, ◌∙◌, MatchResult}
use Rattle.std.specs.List.{list_all, AllByRecursion as Every}
use Rattle.std.specs.Map.{keys_of}
use Rattle.std.specs.Result.{IsErr, IsErrAnd}
use Rattle.std.proofs.lemmas.Bool.{ltb-true, and_parts}
use Rattle.pc_tables.specs.Order.{AreDistinct}
use Rattle.pc_fields.specs.Fields.{u16_kind, u32_kind, u64_kind, FieldReads}
use Rattle.pc_fields.specs.Format.{Format, ends, goes, bind, Reads}
use Rattle.pc_fields.specs.MessageFormat.{message_within}
use Rattle.pc_fields.specs.declared.cursor.Halt.{Halt}
use Rattle.pc_fields.proofs.Formats.{nothing_more, after_field, no_field, after_part, no_part}
use Rattle.pc_office_history.specs.declared.kept.Target.{Target}
use Rattle.pc_office_history.specs.declared.kept.KeptMail.{KeptMail}
use Rattle.pc_office_spelling.specs.Spaces.{space_of, can_follow, open_users, may_wait, greatest}
use Rattle.pc_office_spelling.specs.RecordFormat.{items_from, target_format, kept_format, kept_list_format}
use Rattle.pc_office_holdings.specs.Held.{noted_of}
use Rattle.pc_office_records.specs.declared.loading.kept.Row.{Row}
use Rattle.pc_office_records.specs.Loading.{IsUncounted}
use Rattle.pc_office_records.specs.ReadKept.{Table, rows_in, follow_in, may_in, count_open, open_in, is_next_number, is_many, AreOpen, AreTallied, IsLast}
use Rattle.pc_office_records.proofs.Tallies.{keys-noted, number-same, many-same, open-same, open-there, greatest-same, follow-same, tallied-first}

module _ (users : Table) (accepted count last : ℕ) (before : List KeptMail) (tallied : AreTallied before users) (is : IsLast before last) where
  abbrev noted : List (List ℕ × ℕ)
  noted = map noted_of users

  abbrev whole : Format KeptMail
  whole = kept_format noted accepted count before

  abbrev opens : ℕ → List (List ℕ)
  opens number = open_users (space_of before) noted number

  abbrev behind_message : ℕ → List Target → List (List ℕ) → Format KeptMail
  behind_message number targets message = ends (record { number = number; targets = targets; message = message })

  abbrev behind_targets : ℕ → List Target → Format KeptMail
  behind_targets number targets = bind (message_within (greatest (may_wait noted accepted count before targets) 65536)) (behind_message number targets)

  abbrev behind_many : ℕ → ℕ → Format KeptMail
  behind_many number many = bind (items_from (target_format (opens number)) many []) (behind_targets number)

  abbrev many_test : ℕ → ℕ → Bool
  many_test number many = nat_lt 0 many && nat_le many (length (opens number)) && can_follow (space_of before) noted accepted count many

  abbrev behind_number : ℕ → Format KeptMail
  behind_number number = goes u16_kind (many_test number) (behind_many number)

  abbrev number_test : ℕ → Bool
  number_test number = list_all (λ (mail : KeptMail). nat_lt mail.number number) before && nat_le (number + count) accepted && nat_lt 0 (length (opens number))

  to_number : (old new : List ℕ) (read : Result ℕ Halt) → FieldReads u64_kind (is_next_number last (rows_in [] users) accepted count) old new read → FieldReads u64_kind number_test old new read
  to_number old new read reads = subst (λ (test : ℕ → Bool). FieldReads u64_kind test old new read) (sym (number-same before users accepted count tallied last is)) reads

  to_many : (number : ℕ) (old new : List ℕ) (read : Result ℕ Halt) → FieldReads u16_kind (is_many (rows_in [] users) number accepted count) old new read → FieldReads u16_kind (many_test number) old new read
  to_many number old new read reads = subst (λ (test : ℕ → Bool). FieldReads u16_kind test old new read) (sym (many-same before users accepted count tallied number)) reads

  to_targets : (number many : ℕ) (old new : List ℕ) (read : Result (List Target) Halt) → Reads (items_from (target_format (open_in users number)) many []) old new read → Reads (items_from (target_format (opens number)) many []) old new read
  to_targets number many old new read reads = subst (λ (names : List (List ℕ)). Reads (items_from (target_format names) many []) old new read) (sym (open-same before users number tallied)) reads

  pub mail_no_number : (old new : List ℕ) (halt : Halt) (result : Result KeptMail Halt) → FieldReads u64_kind (is_next_number last (rows_in [] users) accepted count) old new (Err halt) → IsErr result × IsErrAnd result (λ made. made ≡ halt) → Reads whole old new result
  mail_no_number old new halt result reads same = no_field {format = behind_number} (to_number old new (Err halt) reads) same

  module _ (old mid : List ℕ) (number : ℕ) (numbered : FieldReads u64_kind (is_next_number last (rows_in [] users) accepted count) old mid (Ok number)) where
    with_number : (new : List ℕ) (result : Result KeptMail Halt) → Reads (behind_number number) mid new result → Reads whole old new result
    with_number new result rest = after_field {format = behind_number} (to_number old mid (Ok number) numbered) rest

    pub mail_no_many : (new : List ℕ) (halt : Halt) (result : Result KeptMail Halt) → FieldReads u16_kind (is_many (rows_in [] users) number accepted count) mid new (Err halt) → IsErr result × IsErrAnd result (λ made. made ≡ halt) → Reads whole old new result
    mail_no_many new halt result reads same = with_number new result (no_field {format = behind_many number} (to_many number mid new (Err halt) reads) same)

    module _ (counted : List ℕ) (many : ℕ) (counts : FieldReads u16_kind (is_many (rows_in [] users) number accepted count) mid counted (Ok many)) where
      with_many : (new : List ℕ) (result : Result KeptMail Halt) → Reads (behind_many number many) counted new result → Reads whole old new result
      with_many new result rest = with_number new result (after_field {format = behind_many number} (to_many number mid counted (Ok many) counts) rest)

      pub mail_no_targets : (new : List ℕ) (halt : Halt) (result : Result KeptMail Halt) → Reads (items_from (target_format (open_in users number)) many []) counted new (Err halt) → IsErr result × IsErrAnd result (λ made. made ≡ halt) → Reads whole old new result
      mail_no_targets new halt result reads same = with_many new result (no_part (behind_targets number) (to_targets number many counted new (Err halt) reads) same)

      module _ (told : List ℕ) (targets : List Target) (opened : AreOpen users number targets) (targeted : Reads (items_from (target_format (open_in users number)) many []) counted told (Ok targets)) where
        with_targets : (new : List ℕ) (result : Result KeptMail Halt) → Reads (behind_targets number targets) told new result → Reads whole old new result
        with_targets new result rest = with_many new result (after_part (behind_targets number) (to_targets number many counted told (Ok targets) targeted) rest)

        to_message : (new : List ℕ) (read : Result (List (List ℕ)) Halt) → Reads (message_within (greatest (may_in (rows_in targets users) accepted count) 65536)) told new read → Reads (message_within (greatest (may_wait noted accepted count before targets) 65536)) told new read
        to_message new read reads = subst (λ (room : ℕ). Reads (message_within room) told new read) (sym (greatest-same before users accepted count targets tallied (open-there users number targets opened))) reads

        pub mail_no_message : (new : List ℕ) (halt : Halt) (result : Result KeptMail Halt) → Reads (message_within (greatest (may_in (rows_in targets users) accepted count) 65536)) told new (Err halt) → IsErr result × IsErrAnd result (λ made. made ≡ halt) → Reads whole old new result
        mail_no_message new halt result reads same = with_targets new result (no_part (behind_message number targets) (to_message new (Err halt) reads) same)

        pub mail_read : (new : List ℕ) (message : List (List ℕ)) → Reads (message_within (greatest (may_in (rows_in targets users) accepted count) 65536)) told new (Ok message) → Reads whole old new (Ok (record { number = number; targets = targets; message = message }))
        mail_read new message reads = with_targets new (Ok (record { number = number; targets = targets; message = message })) (after_part (behind_message number targets) (to_message new (Ok message) reads) nothing_more)

-- the number of a mail is past the last one
pub number-past : (last : ℕ) (users : Table) (accepted count number : ℕ) (old new : List ℕ) → FieldReads u64_kind (is_next_number last (rows_in [] users) accepted count) old new (Ok number) → last < number
number-past last users accepted count number old new reads =
    let both = and_parts (nat_lt last number && nat_le (number + count) accepted) (nat_lt 0 (count_open (rows_in [] users) number)) reads.told.passed in
    ltb-true last number (and_parts (nat_lt last number) (nat_le (number + count) accepted) both.0).0

-- ---- how many mails wait

count-same : (users : Table) (accepted : ℕ) → AreTallied [] users → ◌≡◌ {A = ℕ → Bool} (λ count. can_follow (space_of []) (map noted_of users) accepted count 0) (λ count. follow_in (rows_in [] users) 0 accepted count 0)
count-same users accepted tallied = λ i count. follow-same [] [] 0 users accepted count 0 tallied i

module _ (users : Table) (accepted : ℕ) (none : Every IsUncounted users) where
  abbrev noted_all : List (List ℕ × ℕ)
  noted_all = map noted_of users

  abbrev behind_count : ℕ → Format (List KeptMail)
  behind_count count = items_from (kept_format noted_all accepted) count []

  to_count : (old new : List ℕ) (read : Result ℕ Halt) → FieldReads u32_kind (λ count. follow_in (rows_in [] users) 0 accepted count 0) old new read → FieldReads u32_kind (λ count. can_follow (space_of []) noted_all accepted count 0) old new read
  to_count old new read reads = subst (λ (test : ℕ → Bool). FieldReads u32_kind test old new read) (sym (count-same users accepted (tallied-first users none))) reads

  pub kept_no_count : (old new : List ℕ) (halt : Halt) → FieldReads u32_kind (λ count. follow_in (rows_in [] users) 0 accepted count 0) old new (Err halt) → Reads (kept_list_format noted_all accepted) old new (Err halt)
  kept_no_count old new halt reads = no_field {format = behind_count} {halt = halt} (to_count old new (Err halt) reads) (refl, refl)

  module _ {Y : Type 0} (items : Y → List KeptMail) (old mid new : List ℕ) (count : ℕ) (counted : FieldReads u32_kind (λ count. follow_in (rows_in [] users) 0 accepted count 0) old mid (Ok count)) where
    pub kept_read : (result : Result Y Halt) → MatchResult result (λ y. Reads (behind_count count) mid new (Ok (items y))) (λ halt. Reads (behind_count count) mid new (Err halt))
        → MatchResult result (λ y. Reads (kept_list_format noted_all accepted) old new (Ok (items y))) (λ halt. Reads (kept_list_format noted_all accepted) old new (Err halt))
    kept_read (Ok y) reads = after_field {format = behind_count} (to_count old mid (Ok count) counted) reads
    kept_read (Err halt) reads = after_field {format = behind_count} (to_count old mid (Ok count) counted) reads

-- ---- by the rows that were made

pub number_by : (last : ℕ) (users : Table) (accepted count : ℕ) (rows : List Row) (old new : List ℕ) (read : Result ℕ Halt) → rows ≡ rows_in [] users → FieldReads u64_kind (is_next_number last rows accepted count) old new read → FieldReads u64_kind (is_next_number last (rows_in [] users) accepted count) old new read
number_by last users accepted count rows old new read are reads = subst (λ (these : List Row). FieldReads u64_kind (is_next_number last these accepted count) old new read) are reads

pub many_by : (users : Table) (number accepted count : ℕ) (rows : List Row) (old new : List ℕ) (read : Result ℕ Halt) → rows ≡ rows_in [] users → FieldReads u16_kind (is_many rows number accepted count) old new read → FieldReads u16_kind (is_many (rows_in [] users) number accepted count) old new read
many_by users number accepted count rows old new read are reads = subst (λ (these : List Row). FieldReads u16_kind (is_many these number accepted count) old new read) are reads

-- ---- users of whom the same is noted

pub distinct-same : (users old : Table) → map noted_of users ≡ map noted_of old → AreDistinct (keys_of old) → AreDistinct (keys_of users)
distinct-same users old same distinct = subst (λ (names : List (List ℕ)). AreDistinct names) (sym (keys-noted old) ∙ ap keys_of (sym same) ∙ keys-noted users) distinct

length-noted : (users : Table) → length (map noted_of users) ≡ length users
length-noted [] = refl
length-noted (user ∷ users) = ap suc (length-noted users)

pub length-same : (users old : Table) → map noted_of users ≡ map noted_of old → length users ≡ length old
length-same users old same = sym (length-noted users) ∙ ap (λ (noted : List (List ℕ × ℕ)). length noted) same ∙ length-noted old
