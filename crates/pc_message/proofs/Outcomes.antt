-- What the collected names tell.
use Rattle.std.proofs.Common.{◌≡◌, ◌≢◌, ◌≤◌, ◌<◌, ℕ, List, [], ◌∷◌, length, take, Some, None, Ok, Err, refl, sym, ap, ◌∙◌, arith}
use Rattle.std.proofs.lemmas.List.{length-take, take_all}
use Rattle.std.specs.List.{fold}
use Rattle.std.specs.Option.{option_map}
use Rattle.pc_base.specs.Recipient.{shown_of}
use Rattle.pc_message.specs.Collecting.{AddsOutcome, with_name}
use Rattle.pc_message.specs.Recipients.{RecipientsOutcome, distinct, first_unknown, unknown_of}
use Rattle.pc_message.specs.declared.addresses.RecipientFault.{RecipientFault}
use Rattle.pc_message.specs.declared.addresses.RecipientFault.TheVariants.{Unknown, TooMany, Memory}
use Rattle.pc_message.proofs.Collected.{AreLeft}
use Rattle.pc_message.proofs.Distinct.{collected}

-- all names are collected
pub record AreCollected (addresses names : List (List ℕ)) : Type 0 where
  pub known : first_unknown addresses ≡ None
  pub first : names ≡ take 65 (distinct addresses)

pub AreCollected-all : (addresses names rest : List (List ℕ)) → AreLeft [] addresses names rest → rest ≡ [] → AreCollected addresses names
AreCollected-all addresses names rest left none = record {
  known = left.same_unknown ∙ ap first_unknown none;
  first = sym (sym (collected addresses) ∙ left.same_names ∙ ap (fold with_name names) none);
}

no_addresses : (addresses names : List (List ℕ)) → AreCollected addresses names → length names ≡ 0 → addresses ≡ []
unfolding distinct
no_addresses [] names all none = refl
no_addresses (address ∷ addresses) names all none = absurd (omega (arith, ap length all.first))

some_addresses : (addresses names : List (List ℕ)) → AreCollected addresses names → length names ≢ 0 → unknown_of addresses ≡ None
unfolding distinct
some_addresses [] names all some = absurd (some (ap length all.first))
some_addresses (address ∷ addresses) names all some = all.known

pub Outcome-none : (addresses names : List (List ℕ)) (shown : List ℕ) → AreCollected addresses names → length names ≡ 0 → shown ≡ shown_of [] → RecipientsOutcome addresses (Err (Unknown shown))
Outcome-none addresses names shown all none told =
    ap (λ found. option_map shown_of (unknown_of found)) (no_addresses addresses names all none) ∙ ap Some (sym told)

pub Outcome-many : (addresses names : List (List ℕ)) → AreCollected addresses names → 64 < length names → RecipientsOutcome addresses (Err TooMany)
Outcome-many addresses names all many =
    (some_addresses addresses names all (omega arith), omega (arith, ap length all.first, length-take 65 (distinct addresses)))

pub Outcome-names : (addresses names : List (List ℕ)) → AreCollected addresses names → length names ≢ 0 → length names ≤ 64 → RecipientsOutcome addresses (Ok names)
Outcome-names addresses names all some few =
    let short : length (distinct addresses) ≤ 65 = omega (arith, ap length all.first, length-take 65 (distinct addresses)) in
    (some_addresses addresses names all some, all.first ∙ take_all 65 (distinct addresses) short, few)

pub Outcome-fault : (addresses names : List (List ℕ)) (fault : RecipientFault) → AddsOutcome [] addresses names (Err fault) → RecipientsOutcome addresses (Err fault)
Outcome-fault [] names (Unknown shown) told = absurd cc
Outcome-fault (address ∷ addresses) names (Unknown shown) told = told
Outcome-fault addresses names TooMany told = absurd told
Outcome-fault addresses names Memory told = tt
