-- The address of an item, and the name that it is.
use Rattle.std.proofs.Common.{◌≡◌, ℕ, Bool, true, false, not, cond, List, map, Some, None, Ok, Err, IsTrue, refl, ap, ◌∙◌}
use Rattle.std.proofs.lemmas.Bool.{false≢true}
use Rattle.std.specs.Char.{to_ascii_lowercase}
use Rattle.pc_base.specs.Name.{is_name}
use Rattle.pc_base.specs.Recipient.{shown_of}
use Rattle.pc_message.specs.Collecting.{NameOutcome}
use Rattle.pc_message.specs.Header.{trimmed}
use Rattle.pc_message.specs.Recipients.{address_of, after_opening, bracketed, without_host}
use Rattle.pc_message.specs.declared.addresses.RecipientFault.TheVariants.{Unknown}

pub address_of-built : (item inner plain small address : List ℕ) → inner ≡ bracketed item (after_opening false item) → plain ≡ trimmed inner → small ≡ map to_ascii_lowercase plain → address ≡ without_host small → address ≡ address_of item
unfolding address_of
address_of-built item inner plain small address i p s a =
    a ∙ ap without_host (s ∙ ap (map to_ascii_lowercase) (p ∙ ap trimmed i))

pub NameOutcome-name : (address name : List ℕ) → IsTrue (is_name address) → name ≡ address → NameOutcome address (Ok name)
NameOutcome-name address name fits same =
    (elim (is_name address) as (λ (b : Bool). IsTrue b → cond (not b) (Some address) None ≡ None) [ true ↦ λ h. refl | false ↦ λ h. absurd (false≢true h) ] fits, same)

pub NameOutcome-unknown : (address shown : List ℕ) → ¬ (IsTrue (is_name address)) → shown ≡ shown_of address → NameOutcome address (Err (Unknown shown))
NameOutcome-unknown address shown fails same =
    (elim (is_name address) as (λ (b : Bool). ¬ (IsTrue b) → cond (not b) (Some address) None ≡ Some address) [ true ↦ λ h. absurd (h refl) | false ↦ λ h. refl ] fails, same)
