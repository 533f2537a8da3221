-- The entry of the uids that a client takes is allowed.
use Rattle.std.proofs.Common.{◌≡◌, ℕ, zero, suc, ◌==◌, ◌&&◌, Bool, true, false, cond, nat_lt, nat_le, List, [], ◌∷◌, length, is_some, refl, arith, lt-ltb, true≢false}
use Rattle.std.specs.List.{filter, list_all, list_any}
use Rattle.std.proofs.lemmas.Bool.{and_parts, and_from}
use Rattle.pc_account_history.specs.declared.kept.Listed.{Listed}
use Rattle.pc_account_history.specs.declared.entry.Entry.TheVariants.{Forget}
use Rattle.pc_tables.specs.Table.{numbers}
use Rattle.pc_tables.proofs.Options.{some-from_map_or}
use Rattle.pc_account_history.specs.Known.{Known}
use Rattle.pc_account_history.specs.Allowed.{is_allowed, is_mailbox, is_client}
use Rattle.pc_account.specs.Plan.{is_shown, taken_uids}
use Rattle.pc_account.proofs.Taken.{taken-rise}

all-filtered : (p q : ℕ → Bool) → ((x : ℕ) → p x ≡ true → q x ≡ true) → (xs : List ℕ) → list_all q (filter p xs) ≡ true
all-filtered p q f [] = refl
all-filtered p q f (x ∷ xs) = filtered-step p q f x xs (p x) refl (all-filtered p q f xs)
  where
    filtered-step : (p q : ℕ → Bool) → ((x : ℕ) → p x ≡ true → q x ≡ true) → (x : ℕ) (xs : List ℕ) (b : Bool) → p x ≡ b → list_all q (filter p xs) ≡ true → list_all q (cond b (x ∷ filter p xs) (filter p xs)) ≡ true
    filtered-step p q f x xs true e rest = and_from (q x) (list_all q (filter p xs)) (f x e) rest
    filtered-step p q f x xs false e rest = rest

some-long : (n : ℕ) → (n == 0) ≡ false → nat_lt 0 n ≡ true
some-long zero h = absurd (true≢false h)
some-long (suc n) h = lt-ltb 0 (suc n) (omega arith)

pub forget-allowed : (k : Known) (client mailbox : List ℕ) (low high : ℕ) (shown : List Listed) → is_client k client ≡ true → is_mailbox k mailbox ≡ true → (length (taken_uids k client mailbox low high shown) == 0) ≡ false → is_allowed k (Forget client mailbox (taken_uids k client mailbox low high shown)) ≡ true
forget-allowed k client mailbox low high shown a b some =
    let listed = all-filtered (λ uid. nat_le low uid && nat_le uid high && is_shown k client mailbox shown uid) (λ uid. is_some (k.listed client mailbox uid)) (λ uid h. some-from_map_or (λ stamp. list_any (λ (listed : Listed). listed.uid == uid && listed.stamp == stamp) shown) (k.listed client mailbox uid) (and_parts (nat_le low uid && nat_le uid high) (is_shown k client mailbox shown uid) h).1) (numbers 0 (k.highest mailbox)) in
    and_from _ _ (and_from _ _ (and_from _ _ (and_from _ _ a b) (taken-rise k client mailbox low high shown)) (some-long (length (taken_uids k client mailbox low high shown)) some)) listed
