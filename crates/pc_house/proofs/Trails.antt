-- Histories as a base and the list of entries behind it.
use Rattle.std.proofs.Common.{◌≡◌, ℕ, zero, suc, ◌+◌, ◌<◌, ◌==◌, true, false, nat_lt, List, [], ◌∷◌, ◌++◌, length, map, slice_get, Option, None, Some, MatchOption, IfSome, is_some, get_or, refl, sym, ap, ◌∙◌, if◌then◌else◌, arith}
use Rattle.std.specs.Borrow.{Bor}
use Rattle.std.proofs.lemmas.Bool.{ltb-true, ltb-false}
use Rattle.std.proofs.lemmas.Option.{slice_get_past, slice_get_read}
use Rattle.pc_account_history.specs.declared.entry.Entry.{Entry}
use Rattle.pc_account_history.specs.History.{History, ◌▸◌, ◌▸▸◌, next}
use Rattle.pc_account_spelling.specs.Spelling.{spelled_entry}
use Rattle.pc_log.specs.Area.{bytes_of}
use Rattle.pc_session.specs.Desk.{trail_count, trail_bytes, entry_at}
use Rattle.pc_session.proofs.Kept.{none_ahead}

-- one entry more
pub ▸▸-push : (h : History) (trail : List Entry) (e : Entry) → (h ▸▸ (trail ++ e ∷ [])) ≡ ((h ▸▸ trail) ▸ e)
▸▸-push h [] e = refl
▸▸-push h (x ∷ trail) e = ▸▸-push (h ▸ x) trail e

pub next-▸▸ : (h : History) (trail : List Entry) → next (h ▸▸ trail) ≡ next h + length trail
next-▸▸ h [] = omega arith
next-▸▸ h (x ∷ trail) = omega (arith, next-▸▸ (h ▸ x) trail)

pub trail_count-▸▸ : (h : History) (trail : List Entry) → trail_count (h ▸▸ trail) ≡ trail_count h + length trail
trail_count-▸▸ h [] = omega arith
trail_count-▸▸ h (x ∷ trail) = omega (arith, trail_count-▸▸ (h ▸ x) trail)

pub trail_bytes-▸▸ : (h : History) (trail : List Entry) → trail_bytes (h ▸▸ trail) ≡ trail_bytes h + bytes_of (map spelled_entry trail)
trail_bytes-▸▸ h [] = omega arith
trail_bytes-▸▸ h (x ∷ trail) = omega (arith, trail_bytes-▸▸ (h ▸ x) trail)

-- an entry of the history in front is the same
pub entry_at-front : (h : History) (trail : List Entry) (at : ℕ) → at < next h → entry_at (h ▸▸ trail) at ≡ entry_at h at
entry_at-front h [] at lt = refl
entry_at-front h (e ∷ trail) at lt =
    let other : (at == next h) ≡ false = grind arith in
    let more : at < next (h ▸ e) = omega (arith, lt) in
    entry_at-front (h ▸ e) trail at more ∙ ap (λ b. if b then Some e else entry_at h at) other

-- and behind it they have the numbers from the next one on
pub entry_at-behind : (h : History) (trail : List Entry) (k : ℕ) → entry_at (h ▸▸ trail) (next h + k) ≡ slice_get trail k
entry_at-behind h [] k = none_ahead h (next h + k) (omega arith)
entry_at-behind h (e ∷ trail) zero =
    let found : (next h + 0 == next h) ≡ true = grind arith in
    let more : next h + 0 < next (h ▸ e) = omega arith in
    entry_at-front (h ▸ e) trail (next h + 0) more ∙ ap (λ b. if b then Some e else entry_at h (next h + 0)) found
entry_at-behind h (e ∷ trail) (suc k) =
    let moved : next h + suc k ≡ next (h ▸ e) + k = omega arith in
    ap (entry_at (h ▸▸ (e ∷ trail))) moved ∙ entry_at-behind (h ▸ e) trail k

-- what was read at a place of the trail is the entry
pub entry_found : (result : Option (Bor Entry)) (trail : List Entry) (at : ℕ) (asked : Option Entry) → is_some result ≡ nat_lt at (length trail) → IfSome result (λ x. x.now ≡ get_or trail at x.now) → asked ≡ slice_get trail at → MatchOption result (asked ≡ None) (λ entry. asked ≡ Some entry.now)
entry_found None trail at asked there read is = is ∙ slice_get_past trail at (ltb-false at (length trail) (sym there))
entry_found (Some entry) trail at asked there read is = is ∙ slice_get_read trail (length trail) at entry.now refl (ltb-true at (length trail) (sym there)) read
