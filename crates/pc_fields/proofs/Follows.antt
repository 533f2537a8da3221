-- Reading part after part: whatever the rest of a format gives, the whole gives.
use Rattle.std.proofs.Common.{◌≡◌, ℕ, Bool, List, Result, Ok, Err, refl, sym, subst, MatchResult}
use Rattle.std.specs.Result.{IsErr, IsErrAnd}
use Rattle.pc_fields.specs.Fields.{Kind, Held, FieldReads}
use Rattle.pc_fields.specs.Format.{Format, ends, goes, bind, Reads}
use Rattle.pc_fields.specs.declared.cursor.Halt.{Halt}
use Rattle.pc_fields.proofs.Formats.{after_field, no_field, after_part, no_part}

pub record Follows {X : Type 0} (whole left : Format X) (start now : List ℕ) : Type 0 where
  pub on : (new : List ℕ) (rest : Result X Halt) → Reads left now new rest → Reads whole start new rest

pub follows_first : {X : Type 0} (whole : Format X) (start : List ℕ) → Follows whole whole start start
follows_first whole start = record { on = λ new rest reads. reads }

-- one part more was read
pub follows_part : {X Y : Type 0} (whole left : Format X) (part : Format Y) (next : Y → Format X) (start now mid : List ℕ) (y : Y) → Follows whole left start now → left ≡ bind part next → Reads part now mid (Ok y) → Follows whole (next y) start mid
follows_part whole left part next start now mid y before is reads = record {
  on = λ new rest more. before.on new rest (subst (λ f. Reads f now new rest) (sym is) (after_part next reads more));
}

-- one field more was read
pub follows_field : {X : Type 0} {whole left : Format X} {start now mid : List ℕ} (kind : Kind) (test : Held kind → Bool) (format : Held kind → Format X) (value : Held kind) → Follows whole left start now → left ≡ goes kind test format → FieldReads kind test now mid (Ok value) → Follows whole (format value) start mid
follows_field {now = now} kind test format value before is reads = record {
  on = λ new rest more. before.on new rest (subst (λ f. Reads f now new rest) (sym is) (after_field {format = format} reads more));
}

-- reading stopped at a field
pub follows_no_field : {X : Type 0} {whole left : Format X} {start now new : List ℕ} (kind : Kind) (test : Held kind → Bool) (format : Held kind → Format X) (halt : Halt) → Follows whole left start now → left ≡ goes kind test format → FieldReads kind test now new (Err halt) → Reads whole start new (Err halt)
follows_no_field {now = now} {new = new} kind test format halt before is none = before.on new (Err halt) (subst (λ f. Reads f now new (Err halt)) (sym is) (no_field {format = format} {halt = halt} none (refl, refl)))

-- reading stopped in a part
pub follows_halt : {X Y : Type 0} (whole left : Format X) (part : Format Y) (next : Y → Format X) (start now new : List ℕ) (halt : Halt) → Follows whole left start now → left ≡ bind part next → Reads part now new (Err halt) → Reads whole start new (Err halt)
follows_halt whole left part next start now new halt before is none = before.on new (Err halt) (subst (λ f. Reads f now new (Err halt)) (sym is) (no_part next {halt = halt} none (refl, refl)))

-- nothing is left
pub follows_last : {X : Type 0} (whole left : Format X) (start now : List ℕ) (x : X) → Follows whole left start now → left ≡ ends x → Reads whole start now (Ok x)
follows_last whole left start now x before is = before.on now (Ok x) (subst (λ f. Reads f now now (Ok x)) (sym is) (record { told = (refl, refl) }))

pub bind_bind : {X Y Z : Type 0} (format : Format X) (f : X → Format Y) (g : Y → Format Z) → bind (bind format f) g ≡ bind format (λ x. bind (f x) g)
bind_bind (ends value) f g = refl
bind_bind (goes kind test format) f g = λ i. goes kind test (λ value. bind_bind (format value) f g i)

-- an error is the one that was made
pub match_err : {Y : Type 0} (result : Result Y Halt) (halt : Halt) (P : Y → Type 0) (Q : Halt → Type 0) → IsErr result × IsErrAnd result (λ made. made ≡ halt) → Q halt → MatchResult result P Q
match_err (Ok y) halt P Q same q = absurd (let is = same.0 in cc)
match_err (Err other) halt P Q same q = subst Q (sym same.1) q
