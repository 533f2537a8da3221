-- Reading mailboxes, one after the other.
use Rattle.std.proofs.Common.{◌≡◌, ℕ, zero, suc, ◌+◌, ◌-◌, ◌/◌, ◌<◌, ◌≤◌, min, ◌||◌, Bool, true, false, cond, not, is_some, List, [], ◌∷◌, ◌++◌, Option, None, Some, Result, Ok, Err, MatchResult, IfOk, Bor, option_copied, refl, sym, ap, subst, ◌∙◌, arith}
use Rattle.std.specs.Map.{keys_of, lookup}
use Rattle.std.specs.Result.{IsErr, IsErrAnd}
use Rattle.std.proofs.lemmas.List.Folds.{list_any-append}
use Rattle.pc_account_history.specs.declared.kept.Kept.{Kept}
use Rattle.pc_account_history.specs.declared.kept.Listed.{Listed}
use Rattle.pc_account_history.specs.declared.limits.TheConstants.{MOST_MESSAGES, MOST_WEIGHT, MOST_CHANGES}
use Rattle.pc_tables.specs.Table.{same, is_among}
use Rattle.pc_account_history.specs.Record.{MailboxRecord}
use Rattle.pc_tables.proofs.Table.{is_among-keys}
use Rattle.pc_tables.proofs.Totals.{total-append}
use Rattle.pc_fields.specs.Fields.{name_kind, bool_kind, u32_kind, within, FieldReads, is_new}
use Rattle.pc_fields.specs.Format.{Format, ends, goes, bind, Reads}
use Rattle.pc_account_spelling.specs.RecordFormat.{has_none, messages_from, mailbox_format, mailboxes_from}
use Rattle.pc_fields.specs.declared.cursor.Halt.{Halt}
use Rattle.pc_fields.proofs.Follows.{Follows, follows_first, follows_part, follows_halt, follows_last, bind_bind}
use Rattle.pc_fields.proofs.Formats.{took_fields, after_field}
use Rattle.pc_fields.proofs.Good.{good_reads}
use Rattle.pc_account_spelling.proofs.GoodMessages.{AreReadMessages, good_messages}
use Rattle.pc_fields.proofs.Pushes.{within-parts}
use Rattle.pc_account_holdings.specs.Mailboxes.{Table, weight_in, listed_in, weight_held, listed_held}
use Rattle.pc_account_records.specs.Loading.{messages_format, AreMessagesWithin, lists_format, next_format, live_with, dropped_with, AreWithin}

-- ---- names under which no mailbox stands yet

some-copied : {X : Type 0} (found : Option (Bor X)) → is_some found ≡ is_some (option_copied found)
some-copied None = refl
some-copied (Some x) = refl

-- whether something was found under the name is whether it is among the keys
stands : {X : Type 0} (found : Option (Bor X)) (name : List ℕ) (table : List (List ℕ × X)) (b : Bool) → option_copied found ≡ lookup (same name) table → is_some found ≡ b → is_among name (keys_of table) ≡ b
stands found name table b is some = is_among-keys name table ∙ sym (ap is_some is) ∙ sym (some-copied found) ∙ some

or-true : (b : Bool) → (b || true) ≡ true
or-true true = refl
or-true false = refl

module _ {X : Type 0} (name : List ℕ) (live dropped : List (List ℕ × X)) where
  in-both : is_new (keys_of live ++ keys_of dropped) name ≡ not (is_among name (keys_of live) || is_among name (keys_of dropped))
  in-both = ap not (list_any-append (same name) (keys_of live) (keys_of dropped))

  pub name_known_live : (found : Option (Bor X)) → option_copied found ≡ lookup (same name) live → is_some found ≡ true → is_new (keys_of live ++ keys_of dropped) name ≡ false
  name_known_live found is some = in-both ∙ ap (λ (b : Bool). not (b || is_among name (keys_of dropped))) (stands found name live true is some)

  pub name_known_dropped : (found : Option (Bor X)) → option_copied found ≡ lookup (same name) dropped → is_some found ≡ true → is_new (keys_of live ++ keys_of dropped) name ≡ false
  name_known_dropped found is some = in-both ∙ ap (λ (b : Bool). not (is_among name (keys_of live) || b)) (stands found name dropped true is some) ∙ ap not (or-true (is_among name (keys_of live)))

  pub name_unknown : (found other : Option (Bor X)) → option_copied found ≡ lookup (same name) live → is_some found ≡ false → option_copied other ≡ lookup (same name) dropped → is_some other ≡ false → is_new (keys_of live ++ keys_of dropped) name ≡ true
  name_unknown found other is none other-is other-none = in-both ∙ (λ i. not (stands found name live false is none i || stands other name dropped false other-is other-none i))

-- ---- the messages of a mailbox

pub messages_within : (highest most weight n count : ℕ) (old mid new : List ℕ) (messages : List Kept) → highest ≤ 1000000000 → n ≡ min most (min highest (weight / 256)) → FieldReads u32_kind (within 0 n) old mid (Ok count)
    → Reads (messages_from highest count 0 weight []) mid new (Ok messages) → AreMessagesWithin highest most weight messages
messages_within highest most weight n count old mid new messages uids is counted reads =
    let range = within-parts 0 n count counted.told.passed in
    let few = range.1 in
    let read = took_fields (messages_from highest count 0 weight []) mid new messages reads.told in
    let are = good_reads (AreReadMessages highest count weight []) (messages_from highest count 0 weight []) [] read.fields messages
    (good_messages highest weight count [] (omega (arith, uids)) count 0 weight [] (record { rising = tt; upto = tt; fit = refl; light = omega arith }) (omega (arith, few, is)) (omega (arith, few, is)) (omega arith)) read.reads in
    let as-many = are.counted in
    record { are = are.are; few = omega (arith, as-many, few, is); light = are.light }

-- ---- a mailbox

abbrev Rows : Type 0
Rows = List (List ℕ × ℕ)

abbrev pub behind_lists : ℕ → List Kept → List (List ℕ × List Listed) → Format MailboxRecord
behind_lists highest messages lists = ends (record { highest = highest; messages = messages; lists = lists })

abbrev pub behind_messages : Rows → ℕ → ℕ → List Kept → Format MailboxRecord
behind_messages clients changes highest messages = bind (lists_format clients highest changes) (behind_lists highest messages)

abbrev pub behind_highest : Rows → ℕ → ℕ → ℕ → ℕ → Format MailboxRecord
behind_highest clients most weight changes highest = bind (messages_format highest most weight) (behind_messages clients changes highest)

-- ---- the next mailbox

abbrev Next : Type 0
Next = List ℕ × Bool × MailboxRecord

pub next_reads : (clients : Rows) (live dropped : Table) (name : List ℕ) (lives : Bool) (most weight changes : ℕ) → most ≡ cond lives MOST_MESSAGES 0 → weight ≡ MOST_WEIGHT - weight_held live → changes ≡ MOST_CHANGES - (listed_held live + listed_held dropped)
    → (old first second new : List ℕ) → FieldReads name_kind (is_new (keys_of live ++ keys_of dropped)) old first (Ok name) → FieldReads bool_kind (λ lives. not lives || has_none dropped) first second (Ok lives) → (result : Result Next Halt)
    → Reads (bind (mailbox_format clients most weight changes) (λ box. ends (name, lives, box))) second new result → Reads (next_format clients live dropped) old new result
next_reads clients live dropped name lives most weight changes is-most is-weight is-changes old first second new named alive result rest =
    after_field named (after_field alive (subst (λ f. Reads f second new result) (λ i. bind (mailbox_format clients (is-most i) (is-weight i) (is-changes i)) (λ box. ends (name, lives, box))) rest))

within-more : (lives : Bool) (name : List ℕ) (box : MailboxRecord) (live dropped : Table) → AreWithin live dropped → weight_in box ≤ MOST_WEIGHT - weight_held live → listed_in box ≤ MOST_CHANGES - (listed_held live + listed_held dropped) → AreWithin (live_with (name, lives, box) live) (dropped_with (name, lives, box) dropped)
within-more true name box live dropped before light listed =
    let heavier = total-append (λ (mailbox : List ℕ × MailboxRecord). weight_in mailbox.1) live ((name, box) ∷ []) in
    let longer = total-append (λ (mailbox : List ℕ × MailboxRecord). listed_in mailbox.1) live ((name, box) ∷ []) in
    let was-light = before.light in
    let was-listed = before.listed in
    record { light = omega (arith, heavier, light, was-light); listed = omega (arith, longer, listed, was-listed) }
within-more false name box live dropped before light listed =
    let longer = total-append (λ (mailbox : List ℕ × MailboxRecord). listed_in mailbox.1) dropped ((name, box) ∷ []) in
    let was-listed = before.listed in
    record { light = before.light; listed = omega (arith, longer, listed, was-listed) }

pub within_more : (lives : Bool) (name : List ℕ) (box : MailboxRecord) (live dropped : Table) (weight changes : ℕ) → AreWithin live dropped → weight ≡ MOST_WEIGHT - weight_held live → changes ≡ MOST_CHANGES - (listed_held live + listed_held dropped) → weight_in box ≤ weight → listed_in box ≤ changes → AreWithin (live_with (name, lives, box) live) (dropped_with (name, lives, box) dropped)
within_more lives name box live dropped weight changes before is-weight is-changes light listed = within-more lives name box live dropped before (omega (arith, is-weight, light)) (omega (arith, is-changes, listed))

-- ---- mailbox after mailbox

abbrev Both : Type 0
Both = Table × Table

abbrev behind_next : Rows → ℕ → Table → Table → Next → Format Both
behind_next clients count live dropped next = mailboxes_from clients count (live_with next live) (dropped_with next dropped)

rest-by : (clients : Rows) (count : ℕ) (live dropped : Table) (name : List ℕ) (box : MailboxRecord) (lives : Bool) → cond lives (mailboxes_from clients count (live ++ (name, box) ∷ []) dropped) (mailboxes_from clients count live (dropped ++ (name, box) ∷ [])) ≡ behind_next clients count live dropped (name, lives, box)
rest-by clients count live dropped name box true = refl
rest-by clients count live dropped name box false = refl

abbrev box_format : Rows → Bool → Table → Table → Format MailboxRecord
box_format clients lives live dropped = mailbox_format clients (cond lives MOST_MESSAGES 0) (MOST_WEIGHT - weight_held live) (MOST_CHANGES - (listed_held live + listed_held dropped))

mailboxes-step : (clients : Rows) (count : ℕ) (live dropped : Table) → mailboxes_from clients (suc count) live dropped ≡ bind (next_format clients live dropped) (behind_next clients count live dropped)
mailboxes-step clients count live dropped = λ i. goes name_kind (is_new (keys_of live ++ keys_of dropped)) (λ name. goes bool_kind (λ lives. not lives || has_none dropped) (λ lives. one name lives i))
  where
    one : (name : List ℕ) (lives : Bool) → bind (box_format clients lives live dropped) (λ box. cond lives (mailboxes_from clients count (live ++ (name, box) ∷ []) dropped) (mailboxes_from clients count live (dropped ++ (name, box) ∷ []))) ≡ bind (bind (box_format clients lives live dropped) (λ box. ends (name, lives, box))) (behind_next clients count live dropped)
    one name lives = (λ i. bind (box_format clients lives live dropped) (λ box. rest-by clients count live dropped name box lives i)) ∙ sym (bind_bind (box_format clients lives live dropped) (λ box. ends (name, lives, box)) (behind_next clients count live dropped))

module _ (clients : Rows) (count taken : ℕ) (live dropped : Table) (whole : Format Both) (start now : List ℕ) (lt : taken < count) (follows : Follows whole (mailboxes_from clients (count - taken) live dropped) start now) where
  step : mailboxes_from clients (count - taken) live dropped ≡ bind (next_format clients live dropped) (behind_next clients (count - (taken + 1)) live dropped)
  step =
      let one-left : count - taken ≡ suc (count - (taken + 1)) = omega (arith, lt) in
      ap (λ (n : ℕ). mailboxes_from clients n live dropped) one-left ∙ mailboxes-step clients (count - (taken + 1)) live dropped

  pub mailboxes_more : (mid : List ℕ) (next : Next) → Reads (next_format clients live dropped) now mid (Ok next) → Follows whole (mailboxes_from clients (count - (taken + 1)) (live_with next live) (dropped_with next dropped)) start mid
  mailboxes_more mid next reads = follows_part whole (mailboxes_from clients (count - taken) live dropped) (next_format clients live dropped) (behind_next clients (count - (taken + 1)) live dropped) start now mid next follows step reads

  pub mailboxes_halt : (new : List ℕ) (halt : Halt) (result : Result Both Halt) → Reads (next_format clients live dropped) now new (Err halt) → IsErr result × IsErrAnd result (λ made. made ≡ halt) → Reads whole start new result
  mailboxes_halt new halt result none same = same_err halt result same (follows_halt whole (mailboxes_from clients (count - taken) live dropped) (next_format clients live dropped) (behind_next clients (count - (taken + 1)) live dropped) start now new halt follows step none)
    where
      same_err : (halt : Halt) (result : Result Both Halt) → IsErr result × IsErrAnd result (λ made. made ≡ halt) → Reads whole start new (Err halt) → Reads whole start new result
      same_err halt (Ok both) same reads = absurd (let is = same.0 in cc)
      same_err halt (Err other) same reads = subst (λ h. Reads whole start new (Err h)) (sym same.1) reads

pub mailboxes_first : (clients : Rows) (count : ℕ) (start : List ℕ) → Follows (mailboxes_from clients count [] []) (mailboxes_from clients (count - 0) [] []) start start
mailboxes_first clients count start = subst (λ (n : ℕ). Follows (mailboxes_from clients count [] []) (mailboxes_from clients n [] []) start start) (let same : count ≡ count - 0 = omega arith in same) (follows_first (mailboxes_from clients count [] []) start)

pub mailboxes_last : (clients : Rows) (count taken : ℕ) (live dropped : Table) (whole : Format Both) (start now : List ℕ) → count ≤ taken → Follows whole (mailboxes_from clients (count - taken) live dropped) start now → Reads whole start now (Ok (live, dropped))
mailboxes_last clients count taken live dropped whole start now le follows = follows_last whole (mailboxes_from clients (count - taken) live dropped) start now (live, dropped) follows (ap (λ (n : ℕ). mailboxes_from clients n live dropped) (let none : count - taken ≡ zero = omega (arith, le) in none))

pub none-within : AreWithin [] []
none-within = record { light = omega arith; listed = omega arith }

pub ok_from_match : {T E : Type 0} (result : Result T E) (P Q : T → Type 0) (R : E → Type 0) → MatchResult result P R → ((value : T) → P value → Q value) → IfOk result Q
ok_from_match (Ok value) P Q R told then = then value told
ok_from_match (Err error) P Q R told then = tt
