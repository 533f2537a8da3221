-- The formats of entries are the entries that fit.
use Rattle.std.proofs.Common.{replicate, ◌≡◌, ℕ, zero, suc, ◌+◌, ◌<◌, ◌≤◌, ◌&&◌, Bool, true, false, cond, eqb, nat_lt, nat_le, List, [], ◌∷◌, ◌++◌, length, map, IsTrue, refl, sym, ap, subst, ◌∙◌, arith}
use Rattle.std.specs.List.{list_all, flat_map}
use Rattle.std.proofs.lemmas.Bool.{and_from, and_parts, ltb-true, leb-true, le-leb, lt-ltb, eqb-true, eqb-false}
use Rattle.std.proofs.lemmas.List.{append-nil}
use Rattle.pc_base.specs.Name.{is_name}
use Rattle.pc_base.specs.Line.{is_line}
use Rattle.pc_message.specs.Message.{size_of}
use Rattle.pc_account_history.specs.declared.entry.Entry.{Entry}
use Rattle.pc_account_history.specs.declared.entry.Entry.TheVariants.{MakeMailbox, DropMailbox, Flag, Expunge, Copy, MakeClient, DropClient, ResetClient, ResetMailbox, Forget, Pull, Password, Subscribe, Unsubscribe, Mark}
use Rattle.pc_account_history.specs.Entry.{tag_of}
use Rattle.pc_fields.specs.FieldBytes.{u8_field, name_field, u16_field, u32_field, u64_field, message_fields}
use Rattle.pc_account_spelling.specs.Spelling.{letter_fields, parts_of, fields_of}
use Rattle.pc_fields.specs.Fitting.{is_u32, is_message}
use Rattle.pc_account_spelling.specs.EntryForm.{is_letter, entry_fits}
use Rattle.pc_fields.specs.Fields.{within}
use Rattle.pc_fields.specs.Format.{Format, ends, bind, repeated, ReadsAs, IsOpen}
use Rattle.pc_fields.specs.MessageFormat.{message_format}
use Rattle.pc_account_spelling.specs.EntryFormat.{letter_format, uid_format, named_format, flag_format, copy_format, reset_mailbox_format, forget_format, pull_format, password_format, mark_format, parts_format, entry_format}
use Rattle.pc_fields.proofs.Good.{good_open, good_reads}
use Rattle.pc_fields.proofs.GoodMessage.{IsReadMessage, good_message}
use Rattle.pc_fields.proofs.ReadsMessage.{reads_message}
use Rattle.pc_fields.proofs.Formats.{reads_bind, ending, bind_reads, open_bind, open_repeated}

-- a number of four bytes
u32_within : (n : ℕ) → IsTrue (is_u32 n) → IsTrue (within 0 4294967295 n)
u32_within n is = and_from _ _ (le-leb 0 n (omega arith)) (le-leb n 4294967295 (omega (arith, ltb-true n 4294967296 is)))

-- a message that fits is read
message_read : (message : List (List ℕ)) → IsTrue (is_message message) → ReadsAs message_format (message_fields message) message
message_read message is =
    let parts = and_parts (list_all is_line message) (nat_le (size_of message) 65536) is in
    reads_message message 65536 is (leb-true (size_of message) 65536 parts.1)

letter_read : (letter : List ℕ × List (List ℕ)) → IsTrue (is_letter letter) → ReadsAs letter_format (letter_fields letter) letter
letter_read letter is =
    let parts = and_parts (is_name letter.0) (is_message letter.1) is in
    let whole = reads_bind message_format (λ message. ends (letter.0, message)) (message_fields letter.1) [] letter.1 letter (message_read letter.1 parts.1) (refl, refl) in
    (letter.0, message_fields letter.1, parts.0, refl, refl, subst (λ (f : List (List ℕ)). ReadsAs (bind message_format (λ message. ends (letter.0, message))) f letter) (append-nil (message_fields letter.1)) whole)

uid_read : (uid : ℕ) → IsTrue (is_u32 uid) → ReadsAs uid_format (u32_field uid ∷ []) uid
uid_read uid is = (uid, [], is, u32_within uid is, refl, (refl, refl))

-- a list of things is read one after the other
repeated_read : {X : Type 0} (format : Format X) (fields : X → List (List ℕ)) (test : X → Bool) → ((x : X) → IsTrue (test x) → ReadsAs format (fields x) x)
    → (xs : List X) → IsTrue (list_all test xs) → ReadsAs (repeated (length xs) format) (flat_map fields xs) xs
repeated_read format fields test one [] are = (refl, refl)
repeated_read format fields test one (x ∷ xs) are =
    let parts = and_parts (test x) (list_all test xs) are in
    let rest = repeated_read format fields test one xs parts.1 in
    let behind = reads_bind (repeated (length xs) format) (λ items. ends (x ∷ items)) (flat_map fields xs) [] xs (x ∷ xs) rest (refl, refl) in
    let moved = subst (λ (f : List (List ℕ)). ReadsAs (bind (repeated (length xs) format) (λ items. ends (x ∷ items))) f (x ∷ xs)) (append-nil (flat_map fields xs)) behind in
    reads_bind format (λ item. bind (repeated (length xs) format) (λ items. ends (item ∷ items))) (fields x) (flat_map fields xs) x (x ∷ xs) (one x parts.0) moved

map_flat : (uids : List ℕ) → flat_map (λ uid. u32_field uid ∷ []) uids ≡ map u32_field uids
map_flat [] = refl
map_flat (uid ∷ uids) = ap (λ (f : List (List ℕ)). u32_field uid ∷ f) (map_flat uids)

named_read : (make : List ℕ → Entry) (name : List ℕ) → IsTrue (is_name name) → ReadsAs (named_format make) (name_field name ∷ []) (make name)
named_read make name is = (name, [], is, refl, refl, (refl, refl))

flag_read : (mailbox : List ℕ) (uid flag : ℕ) (on : Bool) → IsTrue (entry_fits (Flag mailbox uid flag on)) → ReadsAs flag_format (parts_of (Flag mailbox uid flag on)) (Flag mailbox uid flag on)
flag_read mailbox uid flag on fits =
    let first = and_parts (is_name mailbox && is_u32 uid) (nat_lt flag 256) fits in
    let second = and_parts (is_name mailbox) (is_u32 uid) first.0 in
    let small : flag ≤ 255 = omega (arith, ltb-true flag 256 first.1) in
    (mailbox, _, second.0, refl, refl, (uid, _, second.1, u32_within uid second.1, refl, (flag, _, first.1, and_from _ _ (le-leb 0 flag (omega arith)) (le-leb flag 255 small), refl, (on, [], refl, refl, refl, (refl, refl)))))

copy_read : (mailbox : List ℕ) (uid : ℕ) (target : List ℕ) → IsTrue (entry_fits (Copy mailbox uid target)) → ReadsAs copy_format (parts_of (Copy mailbox uid target)) (Copy mailbox uid target)
copy_read mailbox uid target fits =
    let first = and_parts (is_name mailbox && is_u32 uid) (is_name target) fits in
    let second = and_parts (is_name mailbox) (is_u32 uid) first.0 in
    (mailbox, _, second.0, refl, refl, (uid, _, second.1, u32_within uid second.1, refl, (target, [], first.1, refl, refl, (refl, refl))))

reset_mailbox_read : (client mailbox : List ℕ) → IsTrue (entry_fits (ResetMailbox client mailbox)) → ReadsAs reset_mailbox_format (parts_of (ResetMailbox client mailbox)) (ResetMailbox client mailbox)
reset_mailbox_read client mailbox fits =
    let first = and_parts (is_name client) (is_name mailbox) fits in
    (client, _, first.0, refl, refl, (mailbox, [], first.1, refl, refl, (refl, refl)))

mark_read : (board : List ℕ) (uid : ℕ) → IsTrue (entry_fits (Mark board uid)) → ReadsAs mark_format (parts_of (Mark board uid)) (Mark board uid)
mark_read board uid fits =
    let first = and_parts (is_name board) (is_u32 uid) fits in
    (board, _, first.0, refl, refl, (uid, [], first.1, u32_within uid first.1, refl, (refl, refl)))

forget_read : (client mailbox uids : List ℕ) → IsTrue (entry_fits (Forget client mailbox uids)) → ReadsAs forget_format (parts_of (Forget client mailbox uids)) (Forget client mailbox uids)
forget_read client mailbox uids fits =
    let first = and_parts (is_name client && is_name mailbox && is_u32 (length uids)) (list_all is_u32 uids) fits in
    let second = and_parts (is_name client && is_name mailbox) (is_u32 (length uids)) first.0 in
    let third = and_parts (is_name client) (is_name mailbox) second.0 in
    let all = subst (λ (f : List (List ℕ)). ReadsAs (repeated (length uids) uid_format) f uids) (map_flat uids) (repeated_read uid_format (λ uid. u32_field uid ∷ []) is_u32 uid_read uids first.1) in
    (client, _, third.0, refl, refl, (mailbox, _, third.1, refl, refl, (length uids, _, second.1, u32_within (length uids) second.1, refl, ending (repeated (length uids) uid_format) (map u32_field uids) uids (Forget client mailbox) all)))

pull_read : (upto : ℕ) (letters : List (List ℕ × List (List ℕ))) → IsTrue (entry_fits (Pull upto letters)) → ReadsAs pull_format (parts_of (Pull upto letters)) (Pull upto letters)
pull_read upto letters fits =
    let first = and_parts (nat_lt upto 18446744073709551616 && nat_lt 0 (length letters) && nat_le (length letters) 64) (list_all is_letter letters) fits in
    let second = and_parts (nat_lt upto 18446744073709551616 && nat_lt 0 (length letters)) (nat_le (length letters) 64) first.0 in
    let third = and_parts (nat_lt upto 18446744073709551616) (nat_lt 0 (length letters)) second.0 in
    let low : upto ≤ 18446744073709551615 = omega (arith, ltb-true upto 18446744073709551616 third.0) in
    let some : 1 ≤ length letters = omega (arith, ltb-true 0 (length letters) third.1) in
    let few : length letters ≤ 64 = leb-true (length letters) 64 second.1 in
    let all = repeated_read letter_format letter_fields is_letter letter_read letters first.1 in
    (upto, _, third.0, and_from _ _ (le-leb 0 upto (omega arith)) (le-leb upto 18446744073709551615 low), refl, (length letters, _, lt-ltb _ _ (omega arith), and_from _ _ (le-leb 1 (length letters) some) second.1, refl, ending (repeated (length letters) letter_format) (flat_map letter_fields letters) letters (Pull upto) all))

password_read : (digest : List ℕ) → IsTrue (entry_fits (Password digest)) → ReadsAs password_format (parts_of (Password digest)) (Password digest)
password_read digest fits = (digest, [], fits, refl, refl, (refl, refl))

-- an entry that fits is read from its fields
pub entry_reads : (entry : Entry) → IsTrue (entry_fits entry) → ReadsAs entry_format (fields_of entry) entry
entry_reads (MakeMailbox mailbox) fits = (1, _, refl, refl, refl, named_read MakeMailbox mailbox fits)
entry_reads (DropMailbox mailbox) fits = (2, _, refl, refl, refl, named_read DropMailbox mailbox fits)
entry_reads (Flag mailbox uid flag on) fits = (3, _, refl, refl, refl, flag_read mailbox uid flag on fits)
entry_reads (Expunge mailbox) fits = (4, _, refl, refl, refl, named_read Expunge mailbox fits)
entry_reads (Copy mailbox uid target) fits = (5, _, refl, refl, refl, copy_read mailbox uid target fits)
entry_reads (MakeClient client) fits = (6, _, refl, refl, refl, named_read MakeClient client fits)
entry_reads (DropClient client) fits = (7, _, refl, refl, refl, named_read DropClient client fits)
entry_reads (ResetClient client) fits = (8, _, refl, refl, refl, named_read ResetClient client fits)
entry_reads (ResetMailbox client mailbox) fits = (9, _, refl, refl, refl, reset_mailbox_read client mailbox fits)
entry_reads (Forget client mailbox uids) fits = (10, _, refl, refl, refl, forget_read client mailbox uids fits)
entry_reads (Pull upto letters) fits = (11, _, refl, refl, refl, pull_read upto letters fits)
entry_reads (Password digest) fits = (12, _, refl, refl, refl, password_read digest fits)
entry_reads (Subscribe board) fits = (13, _, refl, refl, refl, named_read Subscribe board fits)
entry_reads (Unsubscribe board) fits = (14, _, refl, refl, refl, named_read Unsubscribe board fits)
entry_reads (Mark board uid) fits = (15, _, refl, refl, refl, mark_read board uid fits)

-- what is read is of the form
ended : {X Y : Type 0} (format : Format X) (make : X → Y) (fields : List (List ℕ)) (y : Y) → ReadsAs (bind format (λ v. ends (make v))) fields y → (v : X) × ReadsAs format fields v × (y ≡ make v)
ended format make fields y reads =
    let both = bind_reads format (λ v. ends (make v)) fields y reads in
    let all : fields ≡ both.front = both.split ∙ ap (λ (f : List (List ℕ)). both.front ++ f) both.second.0 ∙ append-nil both.front in
    (both.value, subst (λ (f : List (List ℕ)). ReadsAs format f both.value) (sym all) both.first, both.second.1)

message_sound : (fields message : List (List ℕ)) → ReadsAs message_format fields message → IsTrue (is_message message) × (fields ≡ message_fields message)
message_sound fields message reads =
    let read = good_reads (IsReadMessage 65536 []) message_format [] fields message (good_message 65536 [] (omega arith)) reads in
    (read.is, read.spelled)

letter_sound : (fields : List (List ℕ)) (letter : List ℕ × List (List ℕ)) → ReadsAs letter_format fields letter → IsTrue (is_letter letter) × (fields ≡ letter_fields letter)
letter_sound fields letter reads =
    let end = ended message_format (λ message. (reads.0, message)) reads.1 letter reads.5 in
    let message = message_sound reads.1 end.0 end.1 in
    rw end.2 (and_from _ _ reads.2 message.0, reads.4 ∙ ap (λ (f : List (List ℕ)). name_field reads.0 ∷ f) message.1)

uid_sound : (fields : List (List ℕ)) (uid : ℕ) → ReadsAs uid_format fields uid → IsTrue (is_u32 uid) × (fields ≡ u32_field uid ∷ [])
uid_sound fields uid reads = rw reads.5.1 (reads.2, reads.4 ∙ ap (λ (f : List (List ℕ)). u32_field reads.0 ∷ f) reads.5.0)

record RepeatedRead {X : Type 0} (fields_of_one : X → List (List ℕ)) (test : X → Bool) (count : ℕ) (fields : List (List ℕ)) (xs : List X) : Type 0 where
  size : length xs ≡ count
  are : IsTrue (list_all test xs)
  split : fields ≡ flat_map fields_of_one xs

repeated_sound : {X : Type 0} (format : Format X) (fields_of_one : X → List (List ℕ)) (test : X → Bool) → ((fields : List (List ℕ)) (x : X) → ReadsAs format fields x → IsTrue (test x) × (fields ≡ fields_of_one x))
    → (count : ℕ) (fields : List (List ℕ)) (xs : List X) → ReadsAs (repeated count format) fields xs → RepeatedRead fields_of_one test count fields xs
repeated_sound format fields_of_one test one zero fields xs reads = rw (reads.0, reads.1) (record { size = refl; are = refl; split = refl })
repeated_sound format fields_of_one test one (suc count) fields xs reads =
    let both = bind_reads format (λ item. bind (repeated count format) (λ items. ends (item ∷ items))) fields xs reads in
    let first = one both.front both.value both.first in
    let end = ended (repeated count format) (λ items. both.value ∷ items) both.behind xs both.second in
    let rest = repeated_sound format fields_of_one test one count both.behind end.0 end.1 in
    rw end.2 (record {
      size = ap suc rest.size;
      are = and_from _ _ first.0 rest.are;
      split = both.split ∙ ap (λ (f : List (List ℕ)). f ++ both.behind) first.1 ∙ ap (λ (f : List (List ℕ)). fields_of_one both.value ++ f) rest.split;
    })

pub record IsPartsOf (tag : ℕ) (fields : List (List ℕ)) (entry : Entry) : Type 0 where
  pub fits : IsTrue (entry_fits entry)
  pub kind : tag ≡ tag_of entry
  pub split : fields ≡ parts_of entry

named_sound : (make : List ℕ → Entry) (tag : ℕ) (fields : List (List ℕ)) (entry : Entry)
    → ((name : List ℕ) → IsTrue (is_name name) → IsPartsOf tag (name_field name ∷ []) (make name)) → ReadsAs (named_format make) fields entry → IsPartsOf tag fields entry
named_sound make tag fields entry of reads =
    let all : fields ≡ name_field reads.0 ∷ [] = reads.4 ∙ ap (λ (f : List (List ℕ)). name_field reads.0 ∷ f) reads.5.0 in
    rw (all, reads.5.1) (of reads.0 reads.2)

flag_sound : (fields : List (List ℕ)) (entry : Entry) → ReadsAs flag_format fields entry → IsPartsOf 3 fields entry
flag_sound fields entry reads =
    let uid = reads.5 in
    let flag = uid.5 in
    let on = flag.5 in
    rw (reads.4, uid.4, flag.4, on.4, on.5.0, on.5.1) (record { fits = and_from _ _ (and_from _ _ reads.2 uid.2) flag.2; kind = refl; split = refl })

copy_sound : (fields : List (List ℕ)) (entry : Entry) → ReadsAs copy_format fields entry → IsPartsOf 5 fields entry
copy_sound fields entry reads =
    let uid = reads.5 in
    let target = uid.5 in
    rw (reads.4, uid.4, target.4, target.5.0, target.5.1) (record { fits = and_from _ _ (and_from _ _ reads.2 uid.2) target.2; kind = refl; split = refl })

reset_mailbox_sound : (fields : List (List ℕ)) (entry : Entry) → ReadsAs reset_mailbox_format fields entry → IsPartsOf 9 fields entry
reset_mailbox_sound fields entry reads =
    let mailbox = reads.5 in
    rw (reads.4, mailbox.4, mailbox.5.0, mailbox.5.1) (record { fits = and_from _ _ reads.2 mailbox.2; kind = refl; split = refl })

mark_sound : (fields : List (List ℕ)) (entry : Entry) → ReadsAs mark_format fields entry → IsPartsOf 15 fields entry
mark_sound fields entry reads =
    let uid = reads.5 in
    rw (reads.4, uid.4, uid.5.0, uid.5.1) (record { fits = and_from _ _ reads.2 uid.2; kind = refl; split = refl })

password_sound : (fields : List (List ℕ)) (entry : Entry) → ReadsAs password_format fields entry → IsPartsOf 12 fields entry
password_sound fields entry reads = rw (reads.4, reads.5.0, reads.5.1) (record { fits = reads.2; kind = refl; split = refl })

forget_sound : (fields : List (List ℕ)) (entry : Entry) → ReadsAs forget_format fields entry → IsPartsOf 10 fields entry
forget_sound fields entry reads =
    let client = reads.0 in
    let mailbox = reads.5 in
    let count = mailbox.5 in
    let end = ended (repeated count.0 uid_format) (Forget client mailbox.0) count.1 entry count.5 in
    let uids = repeated_sound uid_format (λ uid. u32_field uid ∷ []) is_u32 uid_sound count.0 count.1 end.0 end.1 in
    let few : IsTrue (is_u32 (length end.0)) = subst (λ (n : ℕ). IsTrue (is_u32 n)) (sym uids.size) count.2 in
    let split : fields ≡ parts_of (Forget client mailbox.0 end.0) = reads.4 ∙ ap (λ (f : List (List ℕ)). name_field client ∷ f) (mailbox.4 ∙ ap (λ (f : List (List ℕ)). name_field mailbox.0 ∷ f) (count.4 ∙ ap (λ (n : ℕ). u32_field n ∷ count.1) (sym uids.size) ∙ ap (λ (f : List (List ℕ)). u32_field (length end.0) ∷ f) (uids.split ∙ map_flat end.0))) in
    rw end.2 (record { fits = and_from _ _ (and_from _ _ (and_from _ _ reads.2 mailbox.2) few) uids.are; kind = refl; split = split })

pull_sound : (fields : List (List ℕ)) (entry : Entry) → ReadsAs pull_format fields entry → IsPartsOf 11 fields entry
pull_sound fields entry reads =
    let upto = reads.0 in
    let count = reads.5 in
    let end = ended (repeated count.0 letter_format) (Pull upto) count.1 entry count.5 in
    let letters = repeated_sound letter_format letter_fields is_letter letter_sound count.0 count.1 end.0 end.1 in
    let range = and_parts (nat_le 1 count.0) (nat_le count.0 64) count.3 in
    let size = letters.size in
    let some : 0 < length end.0 = omega (arith, leb-true 1 count.0 range.0) in
    let few : length end.0 ≤ 64 = omega (arith, leb-true count.0 64 range.1) in
    let split : fields ≡ parts_of (Pull upto end.0) = reads.4 ∙ ap (λ (f : List (List ℕ)). u64_field upto ∷ f) (count.4 ∙ ap (λ (n : ℕ). u16_field n ∷ count.1) (sym letters.size) ∙ ap (λ (f : List (List ℕ)). u16_field (length end.0) ∷ f) letters.split) in
    rw end.2 (record { fits = and_from _ _ (and_from _ _ (and_from _ _ reads.2 (lt-ltb _ _ some)) (le-leb _ _ few)) letters.are; kind = refl; split = split })

-- which format follows a tag
pick_by : (b : Bool) (F G : Format Entry) (fields : List (List ℕ)) (entry : Entry) (P : Type 0) → (b ≡ true → ReadsAs F fields entry → P) → (b ≡ false → ReadsAs G fields entry → P) → ReadsAs (cond b F G) fields entry → P
pick_by true F G fields entry P one other reads = one refl reads
pick_by false F G fields entry P one other reads = other refl reads

pick : (tag k : ℕ) (F G : Format Entry) (fields : List (List ℕ)) (entry : Entry) → k ≤ tag → (ReadsAs F fields entry → IsPartsOf k fields entry) → (k + 1 ≤ tag → ReadsAs G fields entry → IsPartsOf tag fields entry)
    → ReadsAs (cond (eqb tag k) F G) fields entry → IsPartsOf tag fields entry
pick tag k F G fields entry low one other reads =
    pick_by (eqb tag k) F G fields entry (IsPartsOf tag fields entry) (λ is r. subst (λ (n : ℕ). IsPartsOf n fields entry) (sym (eqb-true tag k is)) (one r)) (λ not r. let past : tag ≡ k → ⊥ = eqb-false tag k not in other (omega arith) r) reads

parts_sound : (tag : ℕ) (fields : List (List ℕ)) (entry : Entry) → 1 ≤ tag → tag ≤ 15 → ReadsAs (parts_format tag) fields entry → IsPartsOf tag fields entry
parts_sound tag fields entry low high reads =
    pick tag 1 _ _ fields entry low (named_sound MakeMailbox 1 fields entry (λ name is. record { fits = is; kind = refl; split = refl })) (λ l1 r1.
    pick tag 2 _ _ fields entry l1 (named_sound DropMailbox 2 fields entry (λ name is. record { fits = is; kind = refl; split = refl })) (λ l2 r2.
    pick tag 3 _ _ fields entry l2 (flag_sound fields entry) (λ l3 r3.
    pick tag 4 _ _ fields entry l3 (named_sound Expunge 4 fields entry (λ name is. record { fits = is; kind = refl; split = refl })) (λ l4 r4.
    pick tag 5 _ _ fields entry l4 (copy_sound fields entry) (λ l5 r5.
    pick tag 6 _ _ fields entry l5 (named_sound MakeClient 6 fields entry (λ name is. record { fits = is; kind = refl; split = refl })) (λ l6 r6.
    pick tag 7 _ _ fields entry l6 (named_sound DropClient 7 fields entry (λ name is. record { fits = is; kind = refl; split = refl })) (λ l7 r7.
    pick tag 8 _ _ fields entry l7 (named_sound ResetClient 8 fields entry (λ name is. record { fits = is; kind = refl; split = refl })) (λ l8 r8.
    pick tag 9 _ _ fields entry l8 (reset_mailbox_sound fields entry) (λ l9 r9.
    pick tag 10 _ _ fields entry l9 (forget_sound fields entry) (λ l10 r10.
    pick tag 11 _ _ fields entry l10 (pull_sound fields entry) (λ l11 r11.
    pick tag 12 _ _ fields entry l11 (password_sound fields entry) (λ l12 r12.
    pick tag 13 _ _ fields entry l12 (named_sound Subscribe 13 fields entry (λ name is. record { fits = is; kind = refl; split = refl })) (λ l13 r13.
    pick tag 14 _ _ fields entry l13 (named_sound Unsubscribe 14 fields entry (λ name is. record { fits = is; kind = refl; split = refl })) (λ l14 r14.
    subst (λ (n : ℕ). IsPartsOf n fields entry) (let last : 15 ≡ tag = omega arith in last) (mark_sound fields entry r14)) r13) r12) r11) r10) r9) r8) r7) r6) r5) r4) r3) r2) r1) reads

-- fields that are read are those of an entry that fits
pub reads_entry : (fields : List (List ℕ)) (entry : Entry) → ReadsAs entry_format fields entry → IsTrue (entry_fits entry) × (fields ≡ fields_of entry)
reads_entry fields entry reads =
    let range = and_parts (nat_le 1 reads.0) (nat_le reads.0 15) reads.3 in
    let parts = parts_sound reads.0 reads.1 entry (leb-true _ _ range.0) (leb-true _ _ range.1) reads.5 in
    (parts.fits, reads.4 ∙ ap (λ (n : ℕ). u8_field n ∷ reads.1) parts.kind ∙ ap (λ (f : List (List ℕ)). u8_field (tag_of entry) ∷ f) parts.split)

-- whatever was read of an entry, it can go on
message_open : IsOpen message_format
message_open = good_open (IsReadMessage 65536 []) message_format [] (good_message 65536 [] (omega arith))

letter_open : IsOpen letter_format
letter_open = (97 ∷ [], refl, refl, λ mailbox fit passed. open_bind message_format _ message_open (λ message. tt))

uid_open : IsOpen uid_format
uid_open = (0, refl, refl, λ uid fit passed. tt)

named_open : (make : List ℕ → Entry) → IsOpen (named_format make)
named_open make = (97 ∷ [], refl, refl, λ name fit passed. tt)

flag_open : IsOpen flag_format
flag_open = (97 ∷ [], refl, refl, λ _ _ _. (0, refl, refl, λ _ _ _. (0, refl, refl, λ _ _ _. (true, refl, refl, λ _ _ _. tt))))

copy_open : IsOpen copy_format
copy_open = (97 ∷ [], refl, refl, λ _ _ _. (0, refl, refl, λ _ _ _. (97 ∷ [], refl, refl, λ _ _ _. tt)))

reset_mailbox_open : IsOpen reset_mailbox_format
reset_mailbox_open = (97 ∷ [], refl, refl, λ _ _ _. (97 ∷ [], refl, refl, λ _ _ _. tt))

mark_open : IsOpen mark_format
mark_open = (97 ∷ [], refl, refl, λ _ _ _. (0, refl, refl, λ _ _ _. tt))

password_open : IsOpen password_format
password_open = (replicate 32 0, refl, refl, λ _ _ _. tt)

forget_open : IsOpen forget_format
forget_open = (97 ∷ [], refl, refl, λ _ _ _. (97 ∷ [], refl, refl, λ _ _ _. (0, refl, refl, λ count fit passed. open_bind (repeated count uid_format) _ (open_repeated count uid_format uid_open) (λ uids. tt))))

pull_open : IsOpen pull_format
pull_open = (0, refl, refl, λ _ _ _. (1, refl, refl, λ count fit passed. open_bind (repeated count letter_format) _ (open_repeated count letter_format letter_open) (λ letters. tt)))

either : (b : Bool) (F G : Format Entry) → IsOpen F → IsOpen G → IsOpen (cond b F G)
either true F G one other = one
either false F G one other = other

pub entry_open : IsOpen entry_format
entry_open = (
  1,
  refl,
  refl,
  λ tag fit passed.
      either (eqb tag 1) _ _ (named_open MakeMailbox) (either (eqb tag 2) _ _ (named_open DropMailbox) (either (eqb tag 3) _ _ flag_open (either (eqb tag 4) _ _ (named_open Expunge)
      (either (eqb tag 5) _ _ copy_open (either (eqb tag 6) _ _ (named_open MakeClient) (either (eqb tag 7) _ _ (named_open DropClient) (either (eqb tag 8) _ _ (named_open ResetClient)
      (either (eqb tag 9) _ _ reset_mailbox_open (either (eqb tag 10) _ _ forget_open (either (eqb tag 11) _ _ pull_open (either (eqb tag 12) _ _ password_open
      (either (eqb tag 13) _ _ (named_open Subscribe) (either (eqb tag 14) _ _ (named_open Unsubscribe) mark_open))))))))))))),
)
