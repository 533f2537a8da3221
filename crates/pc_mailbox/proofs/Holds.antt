-- What holds of a mailbox goes on holding.
use Rattle.std.proofs.Common.{◌≡◌, ℕ, suc, ◌+◌, ◌*◌, ◌<◌, ◌≤◌, ◌==◌, Bool, true, false, not, cond, List, [], ◌∷◌, ◌++◌, map, take, length, refl, ap, arith, length-append}
use Rattle.std.proofs.lemmas.List.{length-take}
use Rattle.std.proofs.Math.Seq.{take-append_seam}
use Rattle.pc_message.specs.Message.{weight_of}
use Rattle.pc_account_history.specs.declared.kept.Kept.{Kept}
use Rattle.pc_account_history.specs.declared.limits.TheConstants.{MOST_UIDS, MOST_MESSAGES}
use Rattle.pc_account_history.specs.Effect.{flagged}
use Rattle.pc_account_history.specs.Legal.{AreMessages}
use Rattle.pc_account_history.specs.Step.{uids_of}
use Rattle.pc_tables.proofs.Order.{Ordered-push}
use Rattle.pc_account_history.proofs.Formed.{AreUids-messages, AreMessages-filter, AreMessages-flagged}
use Rattle.pc_tables.proofs.Lists.{Every-weaker, Every-append, length-filter-le}
use Rattle.pc_tables.proofs.Totals.{total-append}
use Rattle.pc_mailbox.specs.UpdateList.{Rise}
use Rattle.pc_mailbox.specs.Mailbox.{IsMailbox, weight_of_all, is_deleted, deleted, remaining, with_flag_at}

pub rise-uids : (highest : ℕ) (messages : List Kept) → AreMessages highest messages → Rise (uids_of messages)
rise-uids highest messages h = (AreUids-messages highest messages h).rising

pub rise-deleted : (highest : ℕ) (messages : List Kept) → AreMessages highest messages → Rise (uids_of (deleted messages))
rise-deleted highest messages h = rise-uids highest (deleted messages) (AreMessages-filter highest is_deleted messages h)

-- ---- one message more

pushed : (highest : ℕ) (messages : List Kept) (new : Kept) → new.uid ≡ suc highest → AreMessages highest messages → AreMessages (suc highest) (messages ++ new ∷ [])
pushed highest messages new e h = record {
  rising = Ordered-push (λ (kept later : Kept). kept.uid < later.uid) messages new h.rising (Every-weaker (λ (kept : Kept). (0 < kept.uid) × (kept.uid ≤ highest)) (λ (kept : Kept). kept.uid < new.uid) (λ kept g. omega (arith, g.1)) messages h.given);
  given = Every-append (λ (kept : Kept). (0 < kept.uid) × (kept.uid ≤ suc highest)) messages (new ∷ []) (Every-weaker (λ (kept : Kept). (0 < kept.uid) × (kept.uid ≤ highest)) (λ (kept : Kept). (0 < kept.uid) × (kept.uid ≤ suc highest)) (λ kept g. (g.0, omega (arith, g.1))) messages h.given) ((omega arith, omega arith), tt);
}

pub IsMailbox-add : (highest weight : ℕ) (messages : List Kept) (new : Kept) → IsMailbox highest weight messages → highest < MOST_UIDS → length messages < MOST_MESSAGES → new.uid ≡ suc highest → (more : ℕ) → more ≡ weight_of new.message → more ≤ 65792 → IsMailbox (suc highest) (weight + more) (messages ++ new ∷ [])
IsMailbox-add highest weight messages new h low few e more heavy small = record {
  rising = pushed highest messages new e h.rising;
  uids = omega (arith, low);
  few = rw (length-append messages (new ∷ [])) (omega (arith, few));
  weighed = rw (total-append (λ (kept : Kept). weight_of kept.message) messages (new ∷ []), h.weighed, heavy) (omega arith);
  light = rw (length-append messages (new ∷ [])) (let light = h.light in omega (arith, light, small));
}

-- ---- a flag

weight-step : (b : Bool) (flag : ℕ) (on : Bool) (kept : Kept) → weight_of (cond b (flagged flag on kept) kept).message ≡ weight_of kept.message
weight-step true flag on kept = refl
weight-step false flag on kept = refl

weight-flagged : (at flag : ℕ) (on : Bool) (messages : List Kept) → weight_of_all (map (with_flag_at at flag on) messages) ≡ weight_of_all messages
weight-flagged at flag on [] = refl
weight-flagged at flag on (kept ∷ messages) = rw (weight-step (kept.uid == at) flag on kept, weight-flagged at flag on messages) refl

length-flagged : (at flag : ℕ) (on : Bool) (messages : List Kept) → length (map (with_flag_at at flag on) messages) ≡ length messages
length-flagged at flag on [] = refl
length-flagged at flag on (kept ∷ messages) = ap suc (length-flagged at flag on messages)

pub IsMailbox-flag : (highest weight at flag : ℕ) (on : Bool) (messages : List Kept) → IsMailbox highest weight messages → IsMailbox highest weight (map (with_flag_at at flag on) messages)
IsMailbox-flag highest weight at flag on messages h = record {
  rising = AreMessages-flagged highest at flag on messages h.rising;
  uids = h.uids;
  few = rw (length-flagged at flag on messages) h.few;
  weighed = rw (weight-flagged at flag on messages) h.weighed;
  light = rw (length-flagged at flag on messages) h.light;
}

-- ---- fewer messages

pub few-remaining : (messages : List Kept) → length messages ≤ MOST_MESSAGES → length (remaining messages) ≤ MOST_MESSAGES
few-remaining messages h = let fewer = length-filter-le (λ (kept : Kept). not (is_deleted kept)) messages in omega (arith, fewer, h)

pub IsMailbox-expunge : (highest weight : ℕ) (messages : List Kept) → IsMailbox highest weight messages → (less : ℕ) → less ≡ weight_of_all (remaining messages) → less ≤ 65792 * length (remaining messages) → IsMailbox highest less (remaining messages)
IsMailbox-expunge highest weight messages h less weighed light = record {
  rising = AreMessages-filter highest (λ (kept : Kept). not (is_deleted kept)) messages h.rising;
  uids = h.uids;
  few = few-remaining messages h.few;
  weighed = weighed;
  light = light;
}

pub IsMailbox-empty : (highest : ℕ) → highest ≤ MOST_UIDS → IsMailbox highest 0 []
IsMailbox-empty highest h = record { rising = record { rising = tt; given = tt }; uids = h; few = omega arith; weighed = refl; light = omega arith }

-- ---- a vector after its items were written to

pub short-take : {X : Type 0} (n m : ℕ) (xs : List X) → n ≤ m → length (take n xs) ≤ m
short-take n m xs h = let e = length-take n xs in omega (arith, e, h)

pub whole : {X : Type 0} (n : ℕ) (new rest : List X) → n ≡ length new → take n (new ++ rest) ≡ new
whole n new rest e = rw e (take-append_seam new rest)

pub length-uids : (messages : List Kept) → length (uids_of messages) ≡ length messages
length-uids [] = refl
length-uids (kept ∷ messages) = ap suc (length-uids messages)
