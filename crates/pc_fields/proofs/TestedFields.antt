-- A field that was read, and then tried by a test.
use Rattle.std.proofs.Common.{◌≡◌, ℕ, Bool, true, false, List, Result, Ok, Err, refl, sym, ap, subst, ◌∙◌, true≢false}
use Rattle.std.specs.Result.{IsErr, IsErrAnd}
use Rattle.pc_fields.specs.Fields.{Kind, Held, FieldReads}
use Rattle.pc_fields.specs.declared.cursor.Halt.{Halt}
use Rattle.pc_fields.specs.declared.cursor.Halt.TheVariants.{NoField, Memory}
use Rattle.pc_fields.proofs.Values.{same_value}

module _ (kind : Kind) (wide test : Held kind → Bool) (old new : List ℕ) where
  -- the field passes
  pub field_passes : (value : Held kind) → FieldReads kind wide old new (Ok value) → test value ≡ true → FieldReads kind test old new (Ok value)
  field_passes value reads passed = record { told = record { fit = reads.told.fit; passed = passed; split = reads.told.split } }

  -- it doesn't, and nothing is read
  pub field_fails : (value : Held kind) → FieldReads kind wide old new (Ok value) → test value ≡ false → FieldReads kind test old old (Err NoField)
  field_fails value reads failed = record {
    told = (
      refl,
      λ other rest takes.
          let same : value ≡ other = same_value kind value other new rest reads.told.fit takes.fit (sym reads.told.split ∙ takes.split) in
          true≢false (sym takes.passed ∙ ap test (sym same) ∙ failed),
    );
  }

  none-there : (halt : Halt) → ((value : Held kind) → test value ≡ true → wide value ≡ true) → FieldReads kind wide old new (Err halt) → FieldReads kind test old old (Err halt)
  none-there NoField all reads = record { told = (refl, λ value rest takes. reads.told.1 value rest (record { fit = takes.fit; passed = all value takes.passed; split = takes.split })) }
  none-there Memory all reads = record { told = tt }

  -- there is no field of this kind, or memory is wanted
  pub no_field_there : (halt : Halt) (result : Result (Held kind) Halt) → ((value : Held kind) → test value ≡ true → wide value ≡ true) → FieldReads kind wide old new (Err halt) → IsErr result × IsErrAnd result (λ made. made ≡ halt) → FieldReads kind test old old result
  no_field_there halt (Ok value) all reads same = absurd (let is = same.0 in cc)
  no_field_there halt (Err other) all reads same = subst (λ h. FieldReads kind test old old (Err h)) (sym same.1) (none-there halt all reads)
