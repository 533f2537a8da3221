-- The formats of entries are the entries that fit.
use Rattle.std.proofs.Common.{◌≡◌, ℕ, ◌<◌, ◌≤◌, ◌&&◌, Bool, true, false, cond, eqb, nat_lt, nat_le, List, [], ◌∷◌, ◌++◌, IsTrue, refl, sym, ap, subst, ◌∙◌, arith}
use Rattle.std.specs.List.{list_all}
use Rattle.std.proofs.lemmas.Bool.{and_from, and_parts, ltb-true, leb-true, eqb-true, eqb-false}
use Rattle.pc_base.specs.Name.{is_name}
use Rattle.pc_base.specs.Line.{is_line}
use Rattle.pc_message.specs.Message.{size_of}
use Rattle.pc_office_history.specs.declared.entry.OfficeEntry.{OfficeEntry}
use Rattle.pc_office_history.specs.declared.entry.OfficeEntry.TheVariants.{AddUser, AddBoard, TakeAddress, DropAddress, Accept, Pulled}
use Rattle.pc_fields.specs.FieldBytes.{u8_field, name_field, message_fields}
use Rattle.pc_fields.specs.Fitting.{is_message}
use Rattle.pc_fields.specs.Format.{Format, ends, bind, ReadsAs}
use Rattle.pc_fields.specs.MessageFormat.{message_format}
use Rattle.pc_fields.proofs.Formats.{reads_bind, ending}
use Rattle.pc_fields.proofs.Good.{Good, good_bind}
use Rattle.pc_fields.proofs.GoodMessage.{IsReadMessage, good_message}
use Rattle.pc_fields.proofs.Pushes.{is-within}
use Rattle.pc_fields.proofs.ReadsMessage.{reads_message}
use Rattle.pc_office_spelling.specs.Spelling.{names_fields, parts_of, fields_of}
use Rattle.pc_office_spelling.specs.EntryForm.{are_names, entry_fits}
use Rattle.pc_office_spelling.specs.EntryFormat.{names_format, named_format, take_format, accept_format, pulled_format, entry_format}
use Rattle.pc_office_spelling.proofs.Names.{reads_names, AreReadNames, good_names}

-- ---- an entry that fits is read from its fields

take-reads : (address user mailbox : List ℕ) → IsTrue (entry_fits (TakeAddress address user mailbox)) → ReadsAs take_format (parts_of (TakeAddress address user mailbox)) (TakeAddress address user mailbox)
take-reads address user mailbox fits =
    let first = and_parts (is_name address && is_name user) (is_name mailbox) fits in
    let second = and_parts (is_name address) (is_name user) first.0 in
    (address, _, second.0, refl, refl, (user, _, second.1, refl, refl, (mailbox, [], first.1, refl, refl, (refl, refl))))

accept-reads : (names message : List (List ℕ)) → IsTrue (entry_fits (Accept names message)) → ReadsAs accept_format (parts_of (Accept names message)) (Accept names message)
accept-reads names message fits =
    let parts = and_parts (are_names names) (is_message message) fits in
    let size = leb-true (size_of message) 65536 (and_parts (list_all is_line message) (nat_le (size_of message) 65536) parts.1).1 in
    reads_bind names_format (λ these. bind message_format (λ this. ends (Accept these this))) (names_fields names) (message_fields message) names (Accept names message) (reads_names names parts.0)
    (ending message_format (message_fields message) message (Accept names) (reads_message message 65536 parts.1 size))

pulled-reads : (user : List ℕ) (number : ℕ) → IsTrue (entry_fits (Pulled user number)) → ReadsAs pulled_format (parts_of (Pulled user number)) (Pulled user number)
pulled-reads user number fits =
    let parts = and_parts (is_name user) (nat_lt number 18446744073709551616) fits in
    let small = ltb-true number 18446744073709551616 parts.1 in
    (user, _, parts.0, refl, refl, (number, [], parts.1, is-within 0 18446744073709551615 number (omega arith) (omega (arith, small)), refl, (refl, refl)))

named-reads : (make : List ℕ → OfficeEntry) (name : List ℕ) → IsTrue (is_name name) → ReadsAs (named_format make) (name_field name ∷ []) (make name)
named-reads make name is = (name, [], is, refl, refl, (refl, refl))

pub entry_reads : (entry : OfficeEntry) → IsTrue (entry_fits entry) → ReadsAs entry_format (fields_of entry) entry
entry_reads (AddUser user) fits = (1, _, refl, refl, refl, named-reads AddUser user fits)
entry_reads (AddBoard board) fits = (2, _, refl, refl, refl, named-reads AddBoard board fits)
entry_reads (TakeAddress address user mailbox) fits = (3, _, refl, refl, refl, take-reads address user mailbox fits)
entry_reads (DropAddress address) fits = (4, _, refl, refl, refl, named-reads DropAddress address fits)
entry_reads (Accept names message) fits = (5, _, refl, refl, refl, accept-reads names message fits)
entry_reads (Pulled user number) fits = (6, _, refl, refl, refl, pulled-reads user number fits)

-- ---- what is read is an entry that fits, and at each field some entry goes on

pub record IsReadEntry (fields : List (List ℕ)) (entry : OfficeEntry) : Type 0 where
  pub fits : entry_fits entry ≡ true
  pub spelled : fields ≡ fields_of entry

good-named : (make : List ℕ → OfficeEntry) (front : List (List ℕ)) → ((name : List ℕ) → is_name name ≡ true → IsReadEntry (front ++ name_field name ∷ []) (make name)) → Good IsReadEntry (named_format make) front
good-named make front is = ((97 ∷ [], refl, refl), λ name fit passed. is name fit)

good-take : Good IsReadEntry take_format (u8_field 3 ∷ [])
good-take = (
  (97 ∷ [], refl, refl),
  λ address one _. (
    (97 ∷ [], refl, refl),
    λ user two _. (
      (97 ∷ [], refl, refl),
      λ mailbox three _. record { fits = and_from (is_name address && is_name user) (is_name mailbox) (and_from (is_name address) (is_name user) one two) three; spelled = refl },
    ),
  ),
)

accepted : (fields names : List (List ℕ)) → AreReadNames (u8_field 5 ∷ []) fields names → (more message : List (List ℕ)) → IsReadMessage 65536 fields more message → IsReadEntry more (Accept names message)
accepted fields names these more message this = record {
  fits = and_from (are_names names) (is_message message) these.are this.is;
  spelled = this.spelled ∙ ap (λ (f : List (List ℕ)). f ++ message_fields message) these.spelled;
}

good-accept : Good IsReadEntry accept_format (u8_field 5 ∷ [])
good-accept =
    good_bind (AreReadNames (u8_field 5 ∷ [])) IsReadEntry names_format (λ names. bind message_format (λ message. ends (Accept names message))) (u8_field 5 ∷ []) (good_names (u8_field 5 ∷ []))
    (λ fields names these. good_bind (IsReadMessage 65536 fields) IsReadEntry message_format (λ message. ends (Accept names message)) fields (good_message 65536 fields (omega arith)) (accepted fields names these))

good-pulled : Good IsReadEntry pulled_format (u8_field 6 ∷ [])
good-pulled = (
  (97 ∷ [], refl, refl),
  λ user one _. ((0, refl, refl), λ number two _. record { fits = and_from (is_name user) (nat_lt number 18446744073709551616) one two; spelled = refl }),
)

-- the format of this tag, or another one
pick-by : (b : Bool) (F G : Format OfficeEntry) (front : List (List ℕ)) → (b ≡ true → Good IsReadEntry F front) → (b ≡ false → Good IsReadEntry G front) → Good IsReadEntry (cond b F G) front
pick-by true F G front one other = one refl
pick-by false F G front one other = other refl

pick : (tag k : ℕ) (F G : Format OfficeEntry) → k ≤ tag → Good IsReadEntry F (u8_field k ∷ []) → (k < tag → Good IsReadEntry G (u8_field tag ∷ [])) → Good IsReadEntry (cond (eqb tag k) F G) (u8_field tag ∷ [])
pick tag k F G low one other =
    pick-by (eqb tag k) F G (u8_field tag ∷ []) (λ is. subst (λ (n : ℕ). Good IsReadEntry F (u8_field n ∷ [])) (sym (eqb-true tag k is)) one)
    (λ not. let past : tag ≡ k → ⊥ = eqb-false tag k not in other (omega arith))

pub good_entry : Good IsReadEntry entry_format []
good_entry = (
  (1, refl, refl),
  λ tag fit passed.
      let range = and_parts (nat_le 1 tag) (nat_le tag 6) passed in
      let low = leb-true 1 tag range.0 in
      let high = leb-true tag 6 range.1 in
      pick tag 1 _ _ low (good-named AddUser (u8_field 1 ∷ []) (λ name is. record { fits = is; spelled = refl })) (λ past1.
      pick tag 2 _ _ past1 (good-named AddBoard (u8_field 2 ∷ []) (λ name is. record { fits = is; spelled = refl })) (λ past2.
      pick tag 3 _ _ past2 good-take (λ past3.
      pick tag 4 _ _ past3 (good-named DropAddress (u8_field 4 ∷ []) (λ name is. record { fits = is; spelled = refl })) (λ past4.
      pick tag 5 _ _ past4 good-accept (λ past5.
      subst (λ (n : ℕ). Good IsReadEntry pulled_format (u8_field n ∷ [])) (let last : 6 ≡ tag = omega arith in last) good-pulled))))),
)
