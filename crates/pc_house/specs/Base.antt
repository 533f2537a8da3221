-- The record of a base, which its bytes determine.
use Rattle.std.specs.Prelude.{◌≡◌, ℕ, List}
use Rattle.std.specs.Coded.{Coded, Coded-set, codes}
use Rattle.std.proofs.Common.{sym, ◌∙◌}
use Rattle.std.proofs.Math.Logic.{∥∥₁_elim}
use mathlib.Core.HLevel.{is_prop→PathP}
use mathlib.Core.Logic.{∥∥₁_prop}
use Rattle.pc_account_history.specs.Record.{AccountRecord}
use Rattle.pc_account_spelling.specs.Spelling.{spelled_record}
use Rattle.pc_account_spelling.specs.RecordForm.{CanBeSaved}
use Rattle.pc_account_spelling.proofs.RecordLaws.{one-record}

-- the record can be saved, as these bytes
pub record IsSavedAs (bytes : List ℕ) (r : AccountRecord) : Type 0 where
  pub saved : CanBeSaved r
  pub spelled : spelled_record r ≡ bytes

-- the record of which these are the bytes
pub record BaseOf (bytes : List ℕ) : Type 0 where
  pub base : AccountRecord
  pub is_saved : ∥ IsSavedAs bytes base ∥₁

unfoldable pub base_of : {bytes : List ℕ} → BaseOf bytes → AccountRecord
base_of found = found.base

record_code : Coded AccountRecord
record_code = hlevel codes

same_record : (bytes other : List ℕ) → bytes ≡ other → (r s : AccountRecord) → IsSavedAs bytes r → IsSavedAs other s → r ≡ s
same_record bytes other e r s f g = one-record r s f.saved g.saved (f.spelled ∙ e ∙ sym g.spelled)

one_base : (bytes : List ℕ) (f g : BaseOf bytes) → f.base ≡ g.base
one_base bytes f g =
    let set = Coded-set record_code f.base g.base in
    ∥∥₁_elim f.is_saved set (λ is. ∥∥₁_elim g.is_saved set (λ other. same_record bytes bytes (λ i. bytes) f.base g.base is other))

-- no bytes are those of two records
pub BaseOf-prop : (bytes : List ℕ) → IsProp (BaseOf bytes)
BaseOf-prop bytes f g =
    let e = one_base bytes f g in
    λ i. record { base = e i; is_saved = is_prop→PathP (λ j. ∥ IsSavedAs bytes (e j) ∥₁) (λ j. ∥∥₁_prop) f.is_saved g.is_saved i }

-- equal bytes have one record
pub same_base : (bytes other : List ℕ) → bytes ≡ other → (f : BaseOf bytes) (g : BaseOf other) → base_of f ≡ base_of g
unfolding base_of
same_base bytes other e f g =
    let set = Coded-set record_code f.base g.base in
    ∥∥₁_elim f.is_saved set (λ is. ∥∥₁_elim g.is_saved set (λ second. same_record bytes other e f.base g.base is second))

-- a record that is saved as the bytes is the one
pub base_is : (bytes : List ℕ) (f : BaseOf bytes) (r : AccountRecord) → IsSavedAs bytes r → base_of f ≡ r
unfolding base_of
base_is bytes f r is = same_base bytes bytes (λ i. bytes) f (record { base = r; is_saved = ∣ is ∣₁ })
