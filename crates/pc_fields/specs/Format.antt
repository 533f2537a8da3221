-- What is read field by field: the next field depends on what was read before.
use Rattle.std.specs.Prelude.{◌≡◌, ℕ, zero, suc, Bool, IsTrue, List, [], ◌∷◌, Result, Ok, Err, ◌⊎◌}
use Rattle.pc_fields.specs.Fields.{Kind, name_kind, u32_kind, Held, fits, field_of, any, within, Takes, NoneIsAt}
use Rattle.pc_fields.specs.declared.cursor.Halt.{Halt}
use Rattle.pc_fields.specs.declared.cursor.Halt.TheVariants.{NoField, Memory}

-- nothing more, and this was read; or a field of a kind that passes a test, and what follows it
pub data Format (X : Type 0) : Type 0 where
  ends : X → Format X
  goes : (kind : Kind) → (Held kind → Bool) → (Held kind → Format X) → Format X

-- one thing, and what follows it
abbrev pub bind : {X Y : Type 0} → Format X → (X → Format Y) → Format Y
bind (ends value) next = next value
bind (goes kind test format) next = goes kind test (λ value. bind (format value) next)

abbrev pub a_name : {X : Type 0} → (List ℕ → Format X) → Format X
a_name next = goes name_kind any next

abbrev pub a_u32 : {X : Type 0} → (ℕ → Format X) → Format X
a_u32 next = goes u32_kind (within 0 4294967295) next

-- so many of a thing
abbrev pub repeated : {X : Type 0} → ℕ → Format X → Format (List X)
repeated zero format = ends []
repeated (suc count) format = bind format (λ item. bind (repeated count format) (λ items. ends (item ∷ items)))

-- what was read from the old bytes, and the new ones are left
abbrev pub Took : {X : Type 0} → Format X → List ℕ → X → List ℕ → Type 0
Took (ends value) old result new = (result ≡ value) × (new ≡ old)
Took (goes kind test format) old result new = (value : Held kind) × (rest : List ℕ) × Takes kind test old value rest × Took (format value) rest result new

-- the new bytes are the first place of the old ones at which no field goes on
abbrev pub Stuck : {X : Type 0} → Format X → List ℕ → List ℕ → Type 0
Stuck (ends value) old new = ⊥
Stuck (goes kind test format) old new = ((new ≡ old) × NoneIsAt kind test old) ⊎ ((value : Held kind) × (rest : List ℕ) × Takes kind test old value rest × Stuck (format value) rest new)

-- reading: all of it, up to the first place at which no field goes on, or want of memory
abbrev pub Outcome : {X : Type 0} → Format X → List ℕ → List ℕ → Result X Halt → Type 0
Outcome format old new (Ok value) = Took format old value new
Outcome format old new (Err NoField) = Stuck format old new
Outcome format old new (Err Memory) = Unit {0}

pub record Reads {X : Type 0} (format : Format X) (old new : List ℕ) (result : Result X Halt) : Type 0 where
  pub told : Outcome format old new result

-- fields that are read as a value
abbrev pub ReadsAs : {X : Type 0} → Format X → List (List ℕ) → X → Type 0
ReadsAs (ends value) fields result = (fields ≡ []) × (result ≡ value)
ReadsAs (goes kind test format) fields result = (value : Held kind) × (rest : List (List ℕ)) × IsTrue (fits kind value) × IsTrue (test value) × (fields ≡ field_of kind value ∷ rest) × ReadsAs (format value) rest result

-- whatever was read, a field of each kind that is asked for can go on
abbrev pub IsOpen : {X : Type 0} → Format X → Type 0
IsOpen (ends value) = Unit {0}
IsOpen (goes kind test format) = (sample : Held kind) × IsTrue (fits kind sample) × IsTrue (test sample) × ((value : Held kind) → IsTrue (fits kind value) → IsTrue (test value) → IsOpen (format value))
