-- The fields of messages that fit are read as them.
use Rattle.std.proofs.Common.{◌≡◌, ℕ, suc, ◌+◌, ◌-◌, ◌*◌, ◌<◌, ◌≤◌, ◌&&◌, nat_le, min, true, List, [], ◌∷◌, ◌++◌, length, refl, subst, append_assoc, arith}
use Rattle.std.specs.List.{list_all, flat_map, AllByRecursion as Every}
use Rattle.std.proofs.lemmas.Bool.{ltb-true, leb-true, and_parts}
use Rattle.std.proofs.lemmas.List.{append-nil}
use Rattle.pc_base.specs.Line.{is_line}
use Rattle.pc_message.specs.Message.{size_of, weight_of}
use Rattle.pc_account_history.specs.declared.kept.Kept.{Kept}
use Rattle.pc_tables.specs.Table.{total}
use Rattle.pc_tables.specs.Order.{Ordered}
use Rattle.pc_fields.specs.FieldBytes.{message_fields}
use Rattle.pc_account_spelling.specs.Spelling.{kept_fields}
use Rattle.pc_fields.specs.Fitting.{is_message, is_u32, is_u16}
use Rattle.pc_fields.specs.MessageFormat.{message_within}
use Rattle.pc_account_spelling.specs.RecordForm.{kept_fits}
use Rattle.pc_account_spelling.specs.RecordFormat.{messages_from}
use Rattle.pc_fields.proofs.ReadsMessage.{reads_message}
use Rattle.pc_fields.proofs.Formats.{reads_bind}
use Rattle.pc_fields.proofs.Pushes.{is-within}
use Rattle.pc_fields.specs.Format.{ReadsAs}

-- uids that rise have room below the highest one
pub rising-room : (highest uid : ℕ) (messages : List Kept) → uid ≤ highest → Every (λ (kept : Kept). uid < kept.uid) messages → Ordered (λ (kept later : Kept). kept.uid < later.uid) messages → Every (λ (kept : Kept). kept.uid ≤ highest) messages → uid + length messages ≤ highest
rising-room highest uid [] le behind rising upto = omega (arith, le)
rising-room highest uid (kept ∷ messages) le behind rising upto =
    let rest = rising-room highest kept.uid messages upto.0 rising.0 rising.1 upto.1 in
    let here = behind.0 in
    omega (arith, rest, here)

-- each message weighs 256 at least
pub weight-least : (messages : List Kept) → 256 * length messages ≤ total (λ (kept : Kept). weight_of kept.message) messages
weight-least [] = omega arith
weight-least (kept ∷ messages) = let rest = weight-least messages in omega (arith, rest)

pub reads_messages : (highest : ℕ) (rest : List Kept) (low room : ℕ) (before : List Kept) → Every (λ (kept : Kept). low < kept.uid) rest → Ordered (λ (kept later : Kept). kept.uid < later.uid) rest → Every (λ (kept : Kept). kept.uid ≤ highest) rest → list_all kept_fits rest ≡ true → total (λ (kept : Kept). weight_of kept.message) rest ≤ room
    → ReadsAs (messages_from highest (length rest) low room before) (flat_map kept_fields rest) (before ++ rest)
reads_messages highest [] low room before behind rising upto fit light = (refl, append-nil before)
reads_messages highest (kept ∷ rest) low room before behind rising upto fit light =
    let parts = and_parts (kept_fits kept) (list_all kept_fits rest) fit in
    let inner = and_parts (is_u32 kept.uid && is_u16 kept.flags) (is_message kept.message) parts.0 in
    let numbers = and_parts (is_u32 kept.uid) (is_u16 kept.flags) inner.0 in
    let above = behind.0 in
    let space = rising-room highest kept.uid rest upto.0 rising.0 rising.1 upto.1 in
    let least = weight-least rest in
    let sizes = and_parts (list_all is_line kept.message) (nat_le (size_of kept.message) 65536) inner.1 in
    let small = leb-true (size_of kept.message) 65536 sizes.1 in
    let flags = ltb-true kept.flags 65536 numbers.1 in
    let room-here = min 65536 (room - 256 * suc (length rest)) in (
      kept.uid,
      _,
      numbers.0,
      is-within (suc low) (highest - length rest) kept.uid (omega (arith, above)) (omega (arith, space)),
      refl,
      (
        kept.flags,
        _,
        numbers.1,
        is-within 0 65535 kept.flags (omega arith) (omega (arith, flags)),
        refl,
        reads_bind (message_within room-here) (λ message. messages_from highest (length rest) kept.uid (room - weight_of message) (before ++ record { uid = kept.uid; flags = kept.flags; message = message } ∷ [])) (message_fields kept.message) (flat_map kept_fields rest) kept.message (before ++ kept ∷ rest)
            (reads_message kept.message room-here inner.1 (omega (arith, small, light, least)))
            (subst (ReadsAs (messages_from highest (length rest) kept.uid (room - weight_of kept.message) (before ++ kept ∷ [])) (flat_map kept_fields rest)) (append_assoc before (kept ∷ []) rest)
            (reads_messages highest rest kept.uid (room - weight_of kept.message) (before ++ kept ∷ []) rising.0 rising.1 upto.1 parts.1 (omega (arith, light)))),
      ),
    )
