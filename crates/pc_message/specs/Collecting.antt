-- Names are collected one address after another.
use Rattle.std.specs.Prelude.{◌≡◌, ℕ, nat_lt, List, [], ◌∷◌, ◌++◌, length, Some, None, Result, Ok, Err, if◌then◌else◌}
use Rattle.std.specs.List.{fold, list_any}
use Rattle.std.specs.Option.{option_map}
use Rattle.std.specs.Str.{bytes_eq}
use Rattle.pc_base.specs.Recipient.{shown_of}
use Rattle.pc_message.specs.Header.{field_text}
use Rattle.pc_message.specs.Recipients.{first_unknown, is_recipient_field, text_addresses}
use Rattle.pc_message.specs.declared.addresses.RecipientFault.{RecipientFault}
use Rattle.pc_message.specs.declared.addresses.RecipientFault.TheVariants.{Unknown, TooMany, Memory}

-- the names with one more, unless it is there or there are more than 64
abbrev pub with_name : List (List ℕ) → List ℕ → List (List ℕ)
with_name names name = if nat_lt 64 (length names) then names else (if list_any (λ other. bytes_eq other name) names then names else names ++ name ∷ [])

-- what becomes of the names when these addresses are added
abbrev pub AddsOutcome : List (List ℕ) → List (List ℕ) → List (List ℕ) → Result (Unit {0}) RecipientFault → Type 0
AddsOutcome old addresses new (Ok _) = (first_unknown addresses ≡ None) × (new ≡ fold with_name old addresses)
AddsOutcome old addresses new (Err (Unknown shown)) = option_map shown_of (first_unknown addresses) ≡ Some shown
AddsOutcome old addresses new (Err TooMany) = ⊥
AddsOutcome old addresses new (Err Memory) = Unit {0}

-- the addresses of a field
abbrev pub field_addresses : List ℕ → List (List ℕ) → List (List ℕ)
field_addresses line folded = if is_recipient_field line then text_addresses (field_text line folded) else []

-- the name of an address, or the address as it is shown where it is none
abbrev pub NameOutcome : List ℕ → Result (List ℕ) RecipientFault → Type 0
NameOutcome address (Ok name) = (first_unknown (address ∷ []) ≡ None) × (name ≡ address)
NameOutcome address (Err (Unknown shown)) = (first_unknown (address ∷ []) ≡ Some address) × (shown ≡ shown_of address)
NameOutcome address (Err TooMany) = ⊥
NameOutcome address (Err Memory) = Unit {0}
