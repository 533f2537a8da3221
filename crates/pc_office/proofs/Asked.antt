-- What is asked of names, read off what is held.
use Rattle.std.proofs.Common.{◌≡◌, ℕ, Bool, true, false, ◌&&◌, nat_lt, nat_le, List, map, None, Some, option_map, is_some, unwrap_or, ◌∙◌, ap}
use Rattle.std.specs.Map.{lookup, keys_of}
use Rattle.pc_tables.specs.Table.{same, is_among}
use Rattle.pc_office_holdings.specs.declared.users.Standing.{Standing}
use Rattle.pc_office_holdings.specs.Held.{noted_of}
use Rattle.pc_office_holdings.proofs.Noted.{is_among-noted, lookup-noted}

-- a user that is found may be noted to have pulled where the number is above what is noted of it
pub noted-found : (name : List ℕ) (users : List (List ℕ × Standing)) (standing : Standing) (number accepted : ℕ) → lookup (same name) users ≡ Some standing → (is_among name (keys_of (map noted_of users)) && nat_lt (unwrap_or (lookup (same name) (map noted_of users)) 0) number && nat_le number accepted) ≡ (nat_lt standing.noted number && nat_le number accepted)
noted-found name users standing number accepted found =
    let user : is_among name (keys_of (map noted_of users)) ≡ true = is_among-noted name users ∙ ap is_some found in
    let noted : unwrap_or (lookup (same name) (map noted_of users)) 0 ≡ standing.noted = ap (λ o. unwrap_or o 0) (lookup-noted name users ∙ ap (option_map (λ (s : Standing). s.noted)) found) in
    λ i. user i && nat_lt (noted i) number && nat_le number accepted

-- nothing is noted of who is no user
pub noted-missing : (name : List ℕ) (users : List (List ℕ × Standing)) (above upto : Bool) → lookup (same name) users ≡ None → (is_among name (keys_of (map noted_of users)) && above && upto) ≡ false
noted-missing name users above upto missing = ap (λ b. b && above && upto) (is_among-noted name users ∙ ap is_some missing)
