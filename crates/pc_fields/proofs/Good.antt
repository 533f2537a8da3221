-- What a format gives: whatever was read before, some field goes on at each place, and at the end this holds of the fields and of what was read.
use Rattle.std.proofs.Common.{ℕ, List, [], ◌∷◌, ◌++◌, IsTrue, sym, ap, subst, ◌∙◌, append_assoc}
use Rattle.std.proofs.lemmas.List.{append-nil}
use Rattle.pc_fields.specs.Fields.{Held, fits, field_of}
use Rattle.pc_fields.specs.Format.{Format, ends, goes, bind, ReadsAs, IsOpen}

abbrev pub Good : {X : Type 0} → (List (List ℕ) → X → Type 0) → Format X → List (List ℕ) → Type 0
Good Q (ends value) front = Q front value
Good Q (goes kind test format) front = ((sample : Held kind) × IsTrue (fits kind sample) × IsTrue (test sample)) × ((value : Held kind) → IsTrue (fits kind value) → IsTrue (test value) → Good Q (format value) (front ++ field_of kind value ∷ []))

pub good_open : {X : Type 0} (Q : List (List ℕ) → X → Type 0) (format : Format X) (front : List (List ℕ)) → Good Q format front → IsOpen format
good_open Q (ends value) front good = tt
good_open Q (goes kind test format) front good = (good.0.0, good.0.1, good.0.2, λ value fit passed. good_open Q (format value) (front ++ field_of kind value ∷ []) (good.1 value fit passed))

pub good_reads : {X : Type 0} (Q : List (List ℕ) → X → Type 0) (format : Format X) (front fields : List (List ℕ)) (x : X) → Good Q format front → ReadsAs format fields x → Q (front ++ fields) x
good_reads Q (ends value) front fields x good reads = subst (λ (f : List (List ℕ)). Q f x) (sym (append-nil front) ∙ ap (λ (f : List (List ℕ)). front ++ f) (sym reads.0)) (subst (λ v. Q front v) (sym reads.1) good)
good_reads Q (goes kind test format) front fields x good reads =
    subst (λ (f : List (List ℕ)). Q f x) (append_assoc front (field_of kind reads.0 ∷ []) reads.1 ∙ ap (λ (f : List (List ℕ)). front ++ f) (sym reads.4))
    (good_reads Q (format reads.0) (front ++ field_of kind reads.0 ∷ []) reads.1 x (good.1 reads.0 reads.2 reads.3) reads.5)

pub good_bind : {X Y : Type 0} (P : List (List ℕ) → X → Type 0) (Q : List (List ℕ) → Y → Type 0) (format : Format X) (next : X → Format Y) (front : List (List ℕ)) → Good P format front → ((fields : List (List ℕ)) (x : X) → P fields x → Good Q (next x) fields) → Good Q (bind format next) front
good_bind P Q (ends value) next front good then = then front value good
good_bind P Q (goes kind test format) next front good then = (good.0, λ value fit passed. good_bind P Q (format value) next (front ++ field_of kind value ∷ []) (good.1 value fit passed) then)

-- the same where less is asked
pub good_weaker : {X : Type 0} (P Q : List (List ℕ) → X → Type 0) (format : Format X) (front : List (List ℕ)) → Good P format front → ((fields : List (List ℕ)) (x : X) → P fields x → Q fields x) → Good Q format front
good_weaker P Q (ends value) front good then = then front value good
good_weaker P Q (goes kind test format) front good then = (good.0, λ value fit passed. good_weaker P Q (format value) (front ++ field_of kind value ∷ []) (good.1 value fit passed) then)
