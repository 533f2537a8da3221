-- Messages as they are read.
use Rattle.std.proofs.Common.{◌≡◌, ℕ, zero, suc, ◌+◌, ◌-◌, ◌*◌, ◌<◌, ◌≤◌, ◌&&◌, nat_lt, min, true, List, [], ◌∷◌, ◌++◌, length, refl, sym, subst, ◌∙◌, append_assoc, arith, length-append}
use Rattle.std.specs.List.{list_all, flat_map, AllByRecursion as Every}
use Rattle.std.proofs.lemmas.Bool.{lt-ltb, and_from}
use Rattle.pc_message.specs.Message.{weight_of}
use Rattle.pc_account_history.specs.declared.kept.Kept.{Kept}
use Rattle.pc_tables.specs.Table.{total}
use Rattle.pc_tables.specs.Order.{Ordered}
use Rattle.pc_account_history.specs.Legal.{AreMessages}
use Rattle.pc_tables.proofs.Lists.{Every-weaker, Every-append, all-push}
use Rattle.pc_tables.proofs.Order.{Ordered-push}
use Rattle.pc_tables.proofs.Totals.{total-append}
use Rattle.pc_fields.specs.FieldBytes.{u16_field, u32_field, message_fields}
use Rattle.pc_account_spelling.specs.Spelling.{kept_fields}
use Rattle.pc_fields.specs.Fitting.{is_message, is_u32, is_u16}
use Rattle.pc_fields.specs.MessageFormat.{message_within}
use Rattle.pc_account_spelling.specs.RecordForm.{kept_fits}
use Rattle.pc_account_spelling.specs.RecordFormat.{messages_from}
use Rattle.pc_fields.proofs.Good.{Good, good_bind}
use Rattle.pc_fields.proofs.Pushes.{fields-push, within-parts, is-within}
use Rattle.pc_fields.proofs.GoodMessage.{IsReadMessage, good_message}

-- ---- the messages of a mailbox

-- messages that were read, up to this uid, with room for what is still to come
pub record AreMessagesTo (highest low room most : ℕ) (messages : List Kept) : Type 0 where
  pub rising : Ordered (λ (kept later : Kept). kept.uid < later.uid) messages
  pub upto : Every (λ (kept : Kept). (0 < kept.uid) × (kept.uid ≤ low)) messages
  pub fit : list_all kept_fits messages ≡ true
  pub light : total (λ (kept : Kept). weight_of kept.message) messages + room ≤ most

pub record AreReadMessages (highest count most : ℕ) (front fields : List (List ℕ)) (messages : List Kept) : Type 0 where
  pub spelled : fields ≡ front ++ flat_map kept_fields messages
  pub are : AreMessages highest messages
  pub fit : list_all kept_fits messages ≡ true
  pub light : total (λ (kept : Kept). weight_of kept.message) messages ≤ most
  pub counted : length messages ≡ count

message-push : (highest low room most uid flags : ℕ) (message : List (List ℕ)) (messages : List Kept) → highest < 4294967296 → AreMessagesTo highest low room most messages → low < uid → uid ≤ highest → nat_lt flags 65536 ≡ true → is_message message ≡ true → weight_of message ≤ room → AreMessagesTo highest uid (room - weight_of message) most (messages ++ record { uid = uid; flags = flags; message = message } ∷ [])
message-push highest low room most uid flags message messages small before behind given flags-fit is light =
    let new : Kept = record { uid = uid; flags = flags; message = message } in
    let lighter = before.light in
    let sum = total-append (λ (kept : Kept). weight_of kept.message) messages (new ∷ []) in
    record {
      rising = Ordered-push (λ (kept later : Kept). kept.uid < later.uid) messages new before.rising (Every-weaker (λ (kept : Kept). (0 < kept.uid) × (kept.uid ≤ low)) (λ (kept : Kept). kept.uid < uid) (λ kept h. omega (arith, h.1, behind)) messages before.upto);
      upto = Every-append (λ (kept : Kept). (0 < kept.uid) × (kept.uid ≤ uid)) messages (new ∷ []) (Every-weaker (λ (kept : Kept). (0 < kept.uid) × (kept.uid ≤ low)) (λ (kept : Kept). (0 < kept.uid) × (kept.uid ≤ uid)) (λ kept h. (h.0, omega (arith, h.1, behind))) messages before.upto) ((omega (arith, behind), omega arith), tt);
      fit = all-push kept_fits messages new before.fit (and_from (is_u32 uid && is_u16 flags) (is_message message) (and_from (is_u32 uid) (is_u16 flags) (lt-ltb uid 4294967296 (omega (arith, given, small))) flags-fit) is);
      light = omega (arith, lighter, sum, light);
    }

three-parts : (front : List (List ℕ)) (x y : List ℕ) (zs : List (List ℕ)) → front ++ (x ∷ y ∷ zs) ≡ ((front ++ x ∷ []) ++ y ∷ []) ++ zs
three-parts front x y zs = sym (append_assoc (front ++ x ∷ []) (y ∷ []) zs ∙ append_assoc front (x ∷ []) (y ∷ zs))

module _ (highest most whole : ℕ) (front : List (List ℕ)) (small : highest < 4294967296) where
  pub good_messages : (count low room : ℕ) (messages : List Kept) → AreMessagesTo highest low room most messages → low + count ≤ highest → 256 * count ≤ room → whole ≡ count + length messages
      → Good (AreReadMessages highest whole most front) (messages_from highest count low room messages) (front ++ flat_map kept_fields messages)
  good_messages zero low room messages before given enough is =
      let light = before.light in
      record {
        spelled = refl;
        are = record { rising = before.rising; given = Every-weaker (λ (kept : Kept). (0 < kept.uid) × (kept.uid ≤ low)) (λ (kept : Kept). (0 < kept.uid) × (kept.uid ≤ highest)) (λ kept h. (h.0, omega (arith, h.1, given))) messages before.upto };
        fit = before.fit;
        light = omega (arith, light);
        counted = omega (arith, is);
      }
  good_messages (suc count) low room messages before given enough is =
      let at = front ++ flat_map kept_fields messages in (
        (suc low, lt-ltb (suc low) 4294967296 (omega (arith, given, small)), is-within (suc low) (highest - count) (suc low) (omega arith) (omega (arith, given))),
        λ uid fit passed.
            let range = within-parts (suc low) (highest - count) uid passed in (
              (0, refl, refl),
              λ flags flags-fit flags-passed.
                  let here = (at ++ u32_field uid ∷ []) ++ u16_field flags ∷ [] in
                  let space = min 65536 (room - 256 * suc count) in
                  good_bind (IsReadMessage space here) (AreReadMessages highest whole most front) (message_within space) (λ message. messages_from highest count uid (room - weight_of message) (messages ++ record { uid = uid; flags = flags; message = message } ∷ [])) here
                  (good_message space here (omega arith))
                  (λ fields message read.
                  let new : Kept = record { uid = uid; flags = flags; message = message } in
                  let size = read.size in
                  let counted = length-append messages (new ∷ []) in
                  let weight : weight_of message ≤ room - 256 * count = omega (arith, size, enough) in
                  subst (Good (AreReadMessages highest whole most front) (messages_from highest count uid (room - weight_of message) (messages ++ new ∷ [])))
                  (sym (fields-push kept_fields front messages new) ∙ three-parts at (u32_field uid) (u16_field flags) (message_fields message) ∙ sym read.spelled)
                  (good_messages count uid (room - weight_of message) (messages ++ new ∷ [])
                  (message-push highest low room most uid flags message messages small before (omega (arith, range.0)) (omega (arith, range.1, given)) flags-fit read.is (omega (arith, weight)))
                  (omega (arith, range.1, given)) (omega (arith, weight, enough)) (omega (arith, is, counted)))),
            ),
      )
