-- A mail for nobody leaves what is held as it is.
use Rattle.std.proofs.Common.{◌≡◌, ℕ, true, not, cond, List, [], ◌∷◌, ◌++◌, map, refl, sym, ap, append-nil, true≢false}
use Rattle.pc_office_history.specs.declared.kept.Target.{Target}
use Rattle.pc_office_history.specs.declared.kept.KeptMail.{KeptMail}
use Rattle.pc_office_history.specs.Step.{is_awaited}
use Rattle.pc_office_holdings.specs.declared.users.Standing.{Standing}
use Rattle.pc_office_holdings.specs.Held.{Held}
use Rattle.pc_office_holdings.specs.Step.{awaited}

unawaited : (weight : ℕ) (users : List (List ℕ × Standing)) → map (awaited [] weight) users ≡ users
unawaited weight [] = refl
unawaited weight (user ∷ users) = ap (λ (rest : List (List ℕ × Standing)). user ∷ rest) (unawaited weight users)

-- a mail for nobody leaves all as it is
pub for-nobody : (held : Held) (targets : List Target) (weight : ℕ) (mail : KeptMail) → true ≡ not (is_awaited targets) → held ≡ record held { users = map (awaited targets weight) held.users; kept = held.kept ++ cond (is_awaited targets) (mail ∷ []) [] }
for-nobody held [] weight mail e = λ i. record held { users = sym (unawaited weight held.users) i; kept = sym (append-nil held.kept) i }
for-nobody held (target ∷ targets) weight mail e = absurd (true≢false e)
