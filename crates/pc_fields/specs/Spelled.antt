-- What is spelled by a format, and what holds of its bytes.
use Rattle.std.specs.Prelude.{◌≡◌, ℕ, ◌≤◌, List, length, Result, IfOk}
use Rattle.std.specs.List.{concat}
use Rattle.pc_base.specs.Machine.{FaultAt}
use Rattle.pc_base.specs.declared.failure.ReadFault.{ReadFault}
use Rattle.pc_fields.specs.Fault.{IsFirstFault}
use Rattle.pc_fields.specs.Format.{Format, ReadsAs, IsOpen}

-- how values are read, which fields each has, and which can be written
pub record Spelling (X : Type 0) : Type 1 where
  pub format : Format X
  pub fields : X → List (List ℕ)
  pub fits : X → Type 0

-- a value is read from its own fields and from no other, and at each field some value goes on
pub record Spells {X : Type 0} (s : Spelling X) : Type 0 where
  pub reads : (x : X) → s.fits x → ReadsAs s.format (s.fields x) x
  pub back : (fields : List (List ℕ)) (x : X) → ReadsAs s.format fields x → s.fits x × (fields ≡ s.fields x)
  pub goes_on : IsOpen s.format

-- the bytes of a value
abbrev pub spelled : {X : Type 0} → Spelling X → X → List ℕ
spelled s x = concat (s.fields x)

-- the fields are those of a value that fits
abbrev pub IsOne : {X : Type 0} → Spelling X → List (List ℕ) → Type 0
IsOne {X} s fields = (x : X) × s.fits x × (fields ≡ s.fields x)

-- the bytes are none of a value, and this is the place of the first field at which none goes on
abbrev pub IsFault : {X : Type 0} → Spelling X → List ℕ → ℕ → Type 0
IsFault s bytes place = IsFirstFault (IsOne s) bytes place

-- no bytes are those of two values
abbrev pub OneValue : {X : Type 0} → Spelling X → Type 0
OneValue {X} s = (x other : X) → s.fits x → s.fits other → spelled s x ≡ spelled s other → x ≡ other

-- the bytes of a value have no fault
abbrev pub IsRead : {X : Type 0} → Spelling X → Type 0
IsRead {X} s = (x : X) (place : ℕ) → s.fits x → IsFault s (spelled s x) place → ⊥

-- bytes have at most one first fault
abbrev pub OneFault : {X : Type 0} → Spelling X → Type 0
OneFault s = (bytes : List ℕ) (place other : ℕ) → IsFault s bytes place → IsFault s bytes other → place ≡ other

-- reading bytes gives a value whose bytes they are, or their first fault; what is made is seen as a value
pub record IsReadOf {X Y : Type 0} (s : Spelling X) (view : Y → X) (bytes : List ℕ) (result : Result Y ReadFault) : Type 0 where
  pub found : IfOk result (λ made. s.fits (view made) × (spelled s (view made) ≡ bytes))
  pub fault : FaultAt result (IsFault s bytes)
  pub within : FaultAt result (λ place. place ≤ length bytes)
