-- The recipients of a message.
use Rattle.std.specs.Prelude.{◌≡◌, ℕ, ◌-◌, ◌<◌, ◌≤◌, ◌==◌, nat_eq, Bool, true, false, not, ◌&&◌, ◌||◌, List, [], ◌∷◌, length, take, codes, Option, Some, None, Result, Ok, Err, if◌then◌else◌}
use Rattle.std.specs.List.{filter, flat_map, find, ends_with, onto_first, position}
use Rattle.std.specs.Option.{option_map, option_map_or, option_or}
use Rattle.std.specs.Str.{bytes_eq, str_to_ascii_lowercase}
use Rattle.pc_base.specs.Name.{is_name}
use Rattle.pc_base.specs.Recipient.{shown_of}
use Rattle.pc_message.specs.Header.{header_of, has_name, texts_of, trimmed}
use Rattle.pc_message.specs.declared.addresses.RecipientFault.{RecipientFault}
use Rattle.pc_message.specs.declared.addresses.RecipientFault.TheVariants.{Unknown, TooMany, Memory}

-- whether a quote is open behind this byte: a double quote opens one or closes it
abbrev pub quoted_after : Bool → ℕ → Bool
quoted_after quoted byte = if byte == 34 then not quoted else quoted

-- a byte and the items behind it: one item ends at a byte that splits, and any other begins the first of them
abbrev pub before_items : Bool → ℕ → List (List ℕ) → List (List ℕ)
before_items true byte items = [] ∷ items
before_items false byte items = onto_first byte items

-- the parts of a text between commas outside quotes; whether a quote is open where it begins
unfoldable pub items_of : Bool → List ℕ → List (List ℕ)
items_of quoted [] = [] ∷ []
items_of quoted (byte ∷ bytes) = before_items (byte == 44 && not quoted) byte (items_of (quoted_after quoted byte) bytes)

-- what follows the last `<` outside quotes
unfoldable pub after_opening : Bool → List ℕ → Option (List ℕ)
after_opening quoted [] = None
after_opening quoted (byte ∷ bytes) = option_or (after_opening (quoted_after quoted byte) bytes) (if byte == 60 && not quoted then Some bytes else None)

-- what lies between that `<` and the next `>`, or the item where there is none
abbrev pub bracketed : List ℕ → Option (List ℕ) → List ℕ
bracketed item None = item
bracketed item (Some rest) = option_map_or (λ close. take close rest) (position (λ byte. byte == 62) rest) item

-- the address without an ending `@pcmail`
abbrev pub without_host : List ℕ → List ℕ
without_host address = if ends_with nat_eq address (codes "@pcmail") then take (length address - 7) address else address

-- the address of an item, in small letters, without this host's name
unfoldable pub address_of : List ℕ → List ℕ
address_of item = without_host (str_to_ascii_lowercase (trimmed (bracketed item (after_opening false item))))

-- the address of an item, where it isn't empty once its blanks are off
abbrev pub item_addresses : List ℕ → List (List ℕ)
item_addresses item = if length (trimmed item) == 0 then [] else address_of (trimmed item) ∷ []

-- the addresses of a text
abbrev pub text_addresses : List ℕ → List (List ℕ)
text_addresses text = flat_map item_addresses (items_of false text)

-- a field that names recipients
abbrev pub is_recipient_field : List ℕ → Bool
is_recipient_field line = has_name (codes "to:") line || has_name (codes "cc:") line

-- the addresses of a message, in order
unfoldable pub addresses_of : List (List ℕ) → List (List ℕ)
addresses_of message = flat_map text_addresses (texts_of is_recipient_field (header_of message))

-- each of the texts once, at its first place
unfoldable pub distinct : List (List ℕ) → List (List ℕ)
distinct [] = []
distinct (text ∷ texts) = text ∷ filter (λ other. not (bytes_eq other text)) (distinct texts)

-- the first address that is no name
abbrev pub first_unknown : List (List ℕ) → Option (List ℕ)
first_unknown addresses = find (λ address. not (is_name address)) addresses

-- the address that is told as unknown: the first that is no name, or an empty one where there is none at all
abbrev pub unknown_of : List (List ℕ) → Option (List ℕ)
unknown_of [] = Some []
unknown_of (address ∷ others) = first_unknown (address ∷ others)

-- the names, or the first thing that is wrong; want of memory is free
abbrev pub RecipientsOutcome : List (List ℕ) → Result (List (List ℕ)) RecipientFault → Type 0
RecipientsOutcome addresses (Ok names) = (unknown_of addresses ≡ None) × (names ≡ distinct addresses) × (length names ≤ 64)
RecipientsOutcome addresses (Err (Unknown shown)) = option_map shown_of (unknown_of addresses) ≡ Some shown
RecipientsOutcome addresses (Err TooMany) = (unknown_of addresses ≡ None) × (64 < length (distinct addresses))
RecipientsOutcome addresses (Err Memory) = Unit {0}
