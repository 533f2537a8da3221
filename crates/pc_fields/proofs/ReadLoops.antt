-- Reading item after item.
use Rattle.std.proofs.Common.{◌≡◌, ℕ, zero, suc, ◌+◌, ◌-◌, ◌<◌, List, [], ◌∷◌, ◌++◌, length, Result, Ok, Err, refl, sym, ap, subst, append_assoc, arith}
use Rattle.std.specs.Result.{IsErr, IsErrAnd}
use Rattle.std.proofs.lemmas.List.{append-nil}
use Rattle.pc_message.specs.Message.{size_of}
use Rattle.pc_fields.specs.Fields.{line_kind, has_room, FieldReads}
use Rattle.pc_fields.specs.Format.{Format, ends, bind, repeated, Outcome, Reads}
use Rattle.pc_fields.specs.MessageFormat.{lines_format}
use Rattle.pc_fields.specs.declared.cursor.Halt.{Halt}
use Rattle.pc_fields.specs.declared.cursor.Halt.TheVariants.{NoField, Memory}
use Rattle.pc_fields.proofs.Formats.{after_field, no_field, after_part, no_part, took_part, stuck_part}

-- what was read before, and then the rest
abbrev pub joined : {X : Type 0} → List X → Result (List X) Halt → Result (List X) Halt
joined items (Ok rest) = Ok (items ++ rest)
joined items (Err halt) = Err halt

pub joined_more : {X : Type 0} (items : List X) (item : X) (rest : Result (List X) Halt) → joined items (joined (item ∷ []) rest) ≡ joined (items ++ item ∷ []) rest
joined_more items item (Ok rest) = ap Ok (sym (append_assoc items (item ∷ []) rest))
joined_more items item (Err halt) = refl

joined_none : {X : Type 0} (rest : Result (List X) Halt) → rest ≡ joined [] rest
joined_none (Ok rest) = refl
joined_none (Err halt) = refl

-- the rest was read behind an item
put_front : {X : Type 0} (format : Format (List X)) (item : X) (old new : List ℕ) (rest : Result (List X) Halt) → Outcome format old new rest → Outcome (bind format (λ items. ends (item ∷ items))) old new (joined (item ∷ []) rest)
put_front format item old new (Ok items) took = took_part format _ old new new items (item ∷ items) took (refl, refl)
put_front format item old new (Err NoField) stuck = stuck_part format _ old new stuck
put_front format item old new (Err Memory) none = tt

-- whatever the rest of a format gives gives the whole, behind the items that were read
pub record Continues {X : Type 0} (whole left : Format (List X)) (start now : List ℕ) (items : List X) : Type 0 where
  pub on : (new : List ℕ) (rest : Result (List X) Halt) → Reads left now new rest → Reads whole start new (joined items rest)

pub continues_first : {X : Type 0} (whole : Format (List X)) (start : List ℕ) → Continues whole whole start start []
continues_first whole start = record { on = λ new rest reads. subst (λ r. Reads whole start new r) (joined_none rest) reads }

-- one more item was read
continues_more : {X : Type 0} {whole left : Format (List X)} {start now : List ℕ} {items : List X} (after : Format (List X)) (mid : List ℕ) (item : X)
    → Continues whole left start now items → ((new : List ℕ) (rest : Result (List X) Halt) → Reads (bind after (λ more. ends (item ∷ more))) mid new rest → Reads left now new rest)
    → Continues whole after start mid (items ++ item ∷ [])
continues_more {X} {whole} {left} {start} {now} {items} after mid item before step = record {
  on = λ new rest reads.
      let front : Reads (bind after (λ more. ends (item ∷ more))) mid new (joined (item ∷ []) rest) = record { told = put_front after item mid new rest reads.told } in
      subst (λ r. Reads whole start new r) (joined_more items item rest) (before.on new (joined (item ∷ []) rest) (step new (joined (item ∷ []) rest) front));
}

-- reading stopped at an item
pub continues_halt : {X : Type 0} {whole left : Format (List X)} {start now new : List ℕ} {items : List X} (halt : Halt) (result : Result (List X) Halt)
    → Continues whole left start now items → Reads left now new (Err halt) → IsErr result × IsErrAnd result (λ made. made ≡ halt) → Reads whole start new result
continues_halt halt (Ok x) before none same = absurd (let is = same.0 in cc)
continues_halt {whole = whole} {start = start} {new = new} halt (Err other) before none same = subst (λ h. Reads whole start new (Err h)) (sym same.1) (before.on new (Err halt) none)

-- nothing is left
pub continues_last : {X : Type 0} {whole left : Format (List X)} {start now : List ℕ} {items : List X} → Continues whole left start now items → left ≡ ends [] → Reads whole start now (Ok items)
continues_last {whole = whole} {start = start} {now = now} {items = items} before is =
    let nothing : Reads (ends []) now now (Ok []) = record { told = (refl, refl) } in
    let all = before.on now (Ok []) (subst (λ f. Reads f now now (Ok [])) (sym is) nothing) in
    subst (λ i. Reads whole start now (Ok i)) (append-nil items) all

-- one item fewer is left
pub repeated_left : {X : Type 0} (format : Format X) (count taken : ℕ) → taken < count → repeated (count - taken) format ≡ repeated (suc (count - (taken + 1))) format
repeated_left format count taken lt = ap (λ n. repeated n format) (let e : count - taken ≡ suc (count - (taken + 1)) = omega arith in e)

pub repeated_more : {X : Type 0} (format : Format X) (count taken : ℕ) (start now mid : List ℕ) (items : List X) (item : X) → taken < count
    → Continues (repeated count format) (repeated (count - taken) format) start now items → Reads format now mid (Ok item) → Continues (repeated count format) (repeated (count - (taken + 1)) format) start mid (items ++ item ∷ [])
repeated_more format count taken start now mid items item lt before reads =
    let after = repeated (count - (taken + 1)) format in
    let step = λ (new : List ℕ) (rest : Result (List _) Halt) (more : Reads (bind after (λ more. ends (item ∷ more))) mid new rest). subst (λ f. Reads f now new rest) (sym (repeated_left format count taken lt)) (after_part (λ x. bind after (λ more. ends (x ∷ more))) reads more) in
    continues_more after mid item before step

pub repeated_halt : {X : Type 0} (format : Format X) (count taken : ℕ) (start now new : List ℕ) (items : List X) (halt : Halt) (result : Result (List X) Halt) → taken < count
    → Continues (repeated count format) (repeated (count - taken) format) start now items → Reads format now new (Err halt) → IsErr result × IsErrAnd result (λ made. made ≡ halt) → Reads (repeated count format) start new result
repeated_halt format count taken start now new items halt result lt before none same =
    let after = repeated (count - (taken + 1)) format in
    let here : Reads (repeated (count - taken) format) now new (Err halt) = subst (λ f. Reads f now new (Err halt)) (sym (repeated_left format count taken lt)) (no_part (λ x. bind after (λ more. ends (x ∷ more))) {halt = halt} none (refl, refl)) in
    continues_halt halt result before here same

pub repeated_last : {X : Type 0} (format : Format X) (count taken : ℕ) (start now : List ℕ) (items : List X) → taken ≡ count
    → Continues (repeated count format) (repeated (count - taken) format) start now items → Reads (repeated count format) start now (Ok items)
repeated_last format count taken start now items e before = continues_last before (ap (λ n. repeated n format) (let none : count - taken ≡ zero = omega arith in none))

-- the same for lines
lines_left : (count taken room : ℕ) → taken < count → lines_format (count - taken) room ≡ lines_format (suc (count - (taken + 1))) room
lines_left count taken room lt = ap (λ n. lines_format n room) (let e : count - taken ≡ suc (count - (taken + 1)) = omega arith in e)

pub lines_more : (count taken most room : ℕ) (start now mid : List ℕ) (lines : List (List ℕ)) (line : List ℕ) → taken < count
    → Continues (lines_format count most) (lines_format (count - taken) room) start now lines → FieldReads line_kind (has_room room) now mid (Ok line) → Continues (lines_format count most) (lines_format (count - (taken + 1)) (room - length line)) start mid (lines ++ line ∷ [])
lines_more count taken most room start now mid lines line lt before reads =
    let after = λ (l : List ℕ). lines_format (count - (taken + 1)) (room - length l) in
    let step = λ (new : List ℕ) (rest : Result (List (List ℕ)) Halt) (more : Reads (bind (after line) (λ more. ends (line ∷ more))) mid new rest). subst (λ f. Reads f now new rest) (sym (lines_left count taken room lt)) (after_field {format = λ l. bind (after l) (λ more. ends (l ∷ more))} reads more) in
    continues_more (after line) mid line before step

pub lines_halt : (count taken most room : ℕ) (start now new : List ℕ) (lines : List (List ℕ)) (halt : Halt) (result : Result (List (List ℕ)) Halt) → taken < count
    → Continues (lines_format count most) (lines_format (count - taken) room) start now lines → FieldReads line_kind (has_room room) now new (Err halt) → IsErr result × IsErrAnd result (λ made. made ≡ halt) → Reads (lines_format count most) start new result
lines_halt count taken most room start now new lines halt result lt before none same =
    let after = λ (l : List ℕ). lines_format (count - (taken + 1)) (room - length l) in
    let here : Reads (lines_format (count - taken) room) now new (Err halt) = subst (λ f. Reads f now new (Err halt)) (sym (lines_left count taken room lt)) (no_field {format = λ l. bind (after l) (λ more. ends (l ∷ more))} {halt = halt} none (refl, refl)) in
    continues_halt halt result before here same

pub lines_last : (count taken most room : ℕ) (start now : List ℕ) (lines : List (List ℕ)) → taken ≡ count
    → Continues (lines_format count most) (lines_format (count - taken) room) start now lines → Reads (lines_format count most) start now (Ok lines)
lines_last count taken most room start now lines e before = continues_last before (ap (λ n. lines_format n room) (let none : count - taken ≡ zero = omega arith in none))

pub size-push : (lines : List (List ℕ)) (line : List ℕ) → size_of (lines ++ line ∷ []) ≡ size_of lines + (length line + 2)
size-push [] line = omega arith
size-push (first ∷ lines) line = omega (arith, size-push lines line)

-- the loops begin
pub repeated_first : {X : Type 0} (format : Format X) (count : ℕ) (start : List ℕ) → Continues (repeated count format) (repeated (count - 0) format) start start []
repeated_first format count start = subst (λ (n : ℕ). Continues (repeated count format) (repeated n format) start start []) (let same : count ≡ count - 0 = omega arith in same) (continues_first (repeated count format) start)

pub lines_first : (count most : ℕ) (start : List ℕ) → Continues (lines_format count most) (lines_format (count - 0) most) start start []
lines_first count most start = subst (λ (n : ℕ). Continues (lines_format count most) (lines_format n most) start start []) (let same : count ≡ count - 0 = omega arith in same) (continues_first (lines_format count most) start)
