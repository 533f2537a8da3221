-- The users with what is noted of them, read off what is held.
use Rattle.std.proofs.Common.{◌≡◌, ℕ, true, false, cond, List, [], ◌∷◌, map, Some, option_map, is_some, refl, ◌∙◌, ap}
use Rattle.std.specs.Map.{lookup, keys_of}
use Rattle.pc_tables.specs.Table.{same, is_among}
use Rattle.pc_tables.proofs.Table.{is_among-keys}
use Rattle.pc_office_holdings.specs.declared.users.Standing.{Standing}
use Rattle.pc_office_holdings.specs.Held.{noted_of}

-- the same names
pub keys-noted : (users : List (List ℕ × Standing)) → keys_of (map noted_of users) ≡ keys_of users
keys-noted [] = refl
keys-noted (user ∷ users) = ap (λ keys. user.0 ∷ keys) (keys-noted users)

-- under each name what is noted
pub lookup-noted : (name : List ℕ) (users : List (List ℕ × Standing)) → lookup (same name) (map noted_of users) ≡ option_map (λ (standing : Standing). standing.noted) (lookup (same name) users)
lookup-noted name [] = refl
lookup-noted name (user ∷ users) = elim (same name user.0) as (λ b. cond b (Some user.1.noted) (lookup (same name) (map noted_of users)) ≡ option_map (λ (standing : Standing). standing.noted) (cond b (Some user.1) (lookup (same name) users))) [ true ↦ refl | false ↦ lookup-noted name users ]

-- who is a user
pub is_among-noted : (name : List ℕ) (users : List (List ℕ × Standing)) → is_among name (keys_of (map noted_of users)) ≡ is_some (lookup (same name) users)
is_among-noted name users = ap (λ keys. is_among name keys) (keys-noted users) ∙ is_among-keys name users
