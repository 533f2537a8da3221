-- Names as they are collected, one group of addresses after another.
use Rattle.std.proofs.Common.{◌≡◌, ℕ, not, List, [], ◌++◌, Option, Some, None, Ok, Err, refl, sym, ap, ◌∙◌}
use Rattle.std.proofs.lemmas.List.Folds.{find-append}
use Rattle.std.proofs.lemmas.List.Sums.{fold-append}
use Rattle.std.specs.List.{fold}
use Rattle.std.specs.Option.{option_map, option_or}
use Rattle.pc_base.specs.Name.{is_name}
use Rattle.pc_base.specs.Recipient.{shown_of}
use Rattle.pc_message.specs.Collecting.{AddsOutcome, with_name}
use Rattle.pc_message.specs.Recipients.{first_unknown}
use Rattle.pc_message.specs.declared.addresses.RecipientFault.{RecipientFault}
use Rattle.pc_message.specs.declared.addresses.RecipientFault.TheVariants.{Unknown, TooMany, Memory}

-- what is left to add to the names is what the rest of the addresses adds
pub record AreLeft (before whole names rest : List (List ℕ)) : Type 0 where
  pub same_unknown : first_unknown whole ≡ first_unknown rest
  pub same_names : fold with_name before whole ≡ fold with_name names rest

pub AreLeft-all : (names whole : List (List ℕ)) → AreLeft names whole names whole
AreLeft-all names whole = record { same_unknown = refl; same_names = refl }

-- the addresses begin with those that were added
pub record StartWith (all added rest : List (List ℕ)) : Type 0 where
  pub spelled : all ≡ added ++ rest

unknown-append : (added rest : List (List ℕ)) → first_unknown (added ++ rest) ≡ option_or (first_unknown added) (first_unknown rest)
unknown-append added rest = find-append (λ address. not (is_name address)) added rest

pub AreLeft-added : (before whole names all added rest new : List (List ℕ)) → AreLeft before whole names all → StartWith all added rest → AddsOutcome names added new (Ok tt) → AreLeft before whole new rest
AreLeft-added before whole names all added rest new left split step = record {
  same_unknown = left.same_unknown ∙ ap first_unknown split.spelled ∙ unknown-append added rest ∙ ap (λ unknown. option_or unknown (first_unknown rest)) step.0;
  same_names = left.same_names ∙ ap (fold with_name names) split.spelled ∙ fold-append with_name names added rest ∙ ap (λ now. fold with_name now rest) (sym step.1);
}

shown-first : (first other : Option (List ℕ)) (shown : List ℕ) → option_map shown_of first ≡ Some shown → option_map shown_of (option_or first other) ≡ Some shown
shown-first None other shown told = absurd cc
shown-first (Some address) other shown told = told

pub AreLeft-fault : (before whole names all added rest new last : List (List ℕ)) (fault : RecipientFault) → AreLeft before whole names all → StartWith all added rest → AddsOutcome names added new (Err fault) → AddsOutcome before whole last (Err fault)
AreLeft-fault before whole names all added rest new last (Unknown shown) left split step =
    ap (option_map shown_of) (left.same_unknown ∙ ap first_unknown split.spelled ∙ unknown-append added rest) ∙ shown-first (first_unknown added) (first_unknown rest) shown step
AreLeft-fault before whole names all added rest new last TooMany left split step = step
AreLeft-fault before whole names all added rest new last Memory left split step = tt

pub AreLeft-none : (before whole names : List (List ℕ)) → AreLeft before whole names [] → AddsOutcome before whole names (Ok tt)
AreLeft-none before whole names left = (left.same_unknown, sym left.same_names)
