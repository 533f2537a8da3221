-- Reading message after message.
use Rattle.std.proofs.Common.{◌≡◌, ℕ, zero, suc, ◌+◌, ◌-◌, ◌*◌, ◌<◌, ◌≤◌, min, List, [], ◌∷◌, ◌++◌, Ok, Err, sym, ap, subst, ◌∙◌, arith}
use Rattle.pc_message.specs.Message.{weight_of}
use Rattle.pc_account_history.specs.declared.kept.Kept.{Kept}
use Rattle.pc_fields.specs.Fields.{u16_kind, u32_kind, within}
use Rattle.pc_fields.specs.Format.{Format, ends, goes, bind, Reads}
use Rattle.pc_fields.specs.MessageFormat.{message_within}
use Rattle.pc_account_spelling.specs.RecordFormat.{kept_format, messages_from}
use Rattle.pc_fields.specs.declared.cursor.Halt.{Halt}
use Rattle.pc_fields.proofs.Follows.{Follows, follows_first, follows_part, follows_halt, follows_last, bind_bind}

abbrev behind_kept : ℕ → ℕ → ℕ → List Kept → Kept → Format (List Kept)
behind_kept highest count room before kept = messages_from highest count kept.uid (room - weight_of kept.message) (before ++ kept ∷ [])

messages-step : (highest count low room : ℕ) (before : List Kept) → messages_from highest (suc count) low room before ≡ bind (kept_format low (highest - count) (room - 256 * suc count)) (behind_kept highest count room before)
messages-step highest count low room before =
    let one-more : suc low ≡ low + 1 = omega arith in
    (λ i. goes u32_kind (within (one-more i) (highest - count)) (λ uid. goes u16_kind (within 0 65535) (λ flags. bind (message_within (min 65536 (room - 256 * suc count))) (λ message. behind_kept highest count room before (record { uid = uid; flags = flags; message = message })))))
    ∙ (λ i. goes u32_kind (within (low + 1) (highest - count)) (λ uid. goes u16_kind (within 0 65535) (λ flags. sym (bind_bind (message_within (min 65536 (room - 256 * suc count))) (λ message. ends (record { uid = uid; flags = flags; message = message })) (behind_kept highest count room before)) i)))

module _ (highest count taken low room : ℕ) (before : List Kept) (whole : Format (List Kept)) (start now : List ℕ) (lt : taken < count) (follows : Follows whole (messages_from highest (count - taken) low room before) start now) where
  left-over : count - taken ≡ suc (count - (taken + 1))
  left-over = omega (arith, lt)

  step : messages_from highest (count - taken) low room before ≡ bind (kept_format low (highest - (count - (taken + 1))) (room - 256 * (count - (taken + 1) + 1))) (behind_kept highest (count - (taken + 1)) room before)
  step =
      let one : suc (count - (taken + 1)) ≡ count - (taken + 1) + 1 = omega arith in
      subst (λ (n : ℕ). messages_from highest (count - taken) low room before ≡ bind (kept_format low (highest - (count - (taken + 1))) (room - 256 * n)) (behind_kept highest (count - (taken + 1)) room before)) one
      (subst (λ (n : ℕ). messages_from highest n low room before ≡ bind (kept_format low (highest - (count - (taken + 1))) (room - 256 * suc (count - (taken + 1)))) (behind_kept highest (count - (taken + 1)) room before)) (sym left-over) (messages-step highest (count - (taken + 1)) low room before))

  pub messages_more : (mid : List ℕ) (kept : Kept) → Reads (kept_format low (highest - (count - (taken + 1))) (room - 256 * (count - (taken + 1) + 1))) now mid (Ok kept)
      → Follows whole (messages_from highest (count - (taken + 1)) kept.uid (room - weight_of kept.message) (before ++ kept ∷ [])) start mid
  messages_more mid kept reads = follows_part whole (messages_from highest (count - taken) low room before) (kept_format low (highest - (count - (taken + 1))) (room - 256 * (count - (taken + 1) + 1))) (behind_kept highest (count - (taken + 1)) room before) start now mid kept follows step reads

  pub messages_halt : (new : List ℕ) (halt : Halt) → Reads (kept_format low (highest - (count - (taken + 1))) (room - 256 * (count - (taken + 1) + 1))) now new (Err halt) → Reads whole start new (Err halt)
  messages_halt new halt none = follows_halt whole (messages_from highest (count - taken) low room before) (kept_format low (highest - (count - (taken + 1))) (room - 256 * (count - (taken + 1) + 1))) (behind_kept highest (count - (taken + 1)) room before) start now new halt follows step none

pub messages_first : (highest count weight : ℕ) (start : List ℕ) → Follows (messages_from highest count 0 weight []) (messages_from highest (count - 0) 0 weight []) start start
messages_first highest count weight start = subst (λ (n : ℕ). Follows (messages_from highest count 0 weight []) (messages_from highest n 0 weight []) start start) (let same : count ≡ count - 0 = omega arith in same) (follows_first (messages_from highest count 0 weight []) start)

pub messages_last : (highest count taken low room : ℕ) (messages : List Kept) (whole : Format (List Kept)) (start now : List ℕ) → count ≤ taken → Follows whole (messages_from highest (count - taken) low room messages) start now → Reads whole start now (Ok messages)
messages_last highest count taken low room messages whole start now le follows = follows_last whole (messages_from highest (count - taken) low room messages) start now messages follows (ap (λ (n : ℕ). messages_from highest n low room messages) (let none : count - taken ≡ zero = omega (arith, le) in none))
