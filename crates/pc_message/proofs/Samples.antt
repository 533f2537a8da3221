-- The definitions at small messages, worked out by hand.
use Rattle.std.proofs.Common.{◌≡◌, List, [], ◌∷◌, ℕ, false, Some, codes, refl}
use Rattle.pc_base.specs.Recipient.{shown_of}
use Rattle.pc_message.specs.Descriptor.{first_text}
use Rattle.pc_message.specs.Header.{texts_of, field_text}
use Rattle.pc_message.specs.Message.{size_of}
use Rattle.pc_message.specs.Recipients.{address_of, addresses_of, after_opening, distinct, items_of, unknown_of}

-- six lines, of which two are empty
abbrev dots : List (List ℕ)
dots = codes "To: ann" ∷ [] ∷ codes "." ∷ codes ".." ∷ [] ∷ codes ".x" ∷ []

dots_size : size_of dots ≡ 24
dots_size = refl

dots_to : first_text (codes "to:") dots ≡ codes "ann"
unfolding texts_of field_text
dots_to = refl

-- a field's name in other letters, with two folded lines
abbrev folded : List (List ℕ)
folded = codes "fROM:  ann" ∷ codes "\tb " ∷ codes " c " ∷ codes "From: eve" ∷ []

folded_from : first_text (codes "from:") folded ≡ codes "ann\tb  c"
unfolding texts_of field_text
folded_from = refl

folded_date : first_text (codes "date:") folded ≡ []
unfolding texts_of field_text
folded_date = refl

-- a comma in quotes, and an empty item
quoted_items : items_of false (codes "\"Doe, A\" <A>, bob,, bob") ≡ codes "\"Doe, A\" <A>" ∷ codes " bob" ∷ [] ∷ codes " bob" ∷ []
unfolding items_of
quoted_items = refl

-- what stands in brackets, in small letters and without the host
bracketed_address : address_of (codes "\"<e>\" <ANN@PCMAIL> ") ≡ codes "ann"
unfolding address_of after_opening
bracketed_address = refl

repeated_names : distinct (codes "ann" ∷ codes "bob" ∷ codes "ann" ∷ codes "bob" ∷ []) ≡ codes "ann" ∷ codes "bob" ∷ []
unfolding distinct
repeated_names = refl

-- quotes, brackets, an empty item and a name twice
recipients_of_a_line : addresses_of (codes "To: \"Doe, Ann\" <ANN@PCMAIL>, bob,, bob" ∷ []) ≡ codes "ann" ∷ codes "bob" ∷ codes "bob" ∷ []
unfolding addresses_of texts_of field_text items_of address_of after_opening
recipients_of_a_line = refl

-- Cc and To as they stand, with a folded line
mixed_addresses : addresses_of (codes "cc:b" ∷ codes "TO: a,," ∷ codes " b" ∷ []) ≡ codes "b" ∷ codes "a" ∷ codes "b" ∷ []
unfolding addresses_of texts_of field_text items_of address_of after_opening
mixed_addresses = refl

-- an address that is no name
abbrev spaced : List (List ℕ)
spaced = codes "To: ann smith" ∷ []

spaced_unknown : unknown_of (addresses_of spaced) ≡ Some (codes "ann smith")
unfolding addresses_of texts_of field_text items_of address_of after_opening
spaced_unknown = refl

spaced_shown : shown_of (codes "ann smith") ≡ codes "ann?smith"
spaced_shown = refl

-- no recipient at all
nobody_unknown : unknown_of (addresses_of (codes "Subject: x" ∷ [] ∷ codes "To: ann" ∷ [])) ≡ Some []
unfolding addresses_of texts_of field_text items_of address_of after_opening
nobody_unknown = refl

nobody_shown : shown_of [] ≡ codes "-"
nobody_shown = refl
