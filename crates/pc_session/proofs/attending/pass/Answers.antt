use Rattle.std.proofs.Common.{◌≡◌, Option, None, Some, MatchOption, sym, rules, tests}
use Rattle.std.specs.Option.{option_map}
use Rattle.std.proofs.lemmas.Iterator.Adapters.{YieldsList-from_rev_slice}
use Rattle.std.proofs.lemmas.Iterator.Search.{find_from_yields_List}
use Rattle.pc_session.specs.declared.receipts.Receipt.{Receipt}
use Rattle.pc_session.specs.Receipts.{is_account_of}
use Rattle.pc_session.proofs.attending.pass.Goals as goal

-- an option that is mapped to another is one of both cases
mapped : {A B : Type 0} (v : A → B) (found : Option A) (o : Option B) → option_map v found ≡ o → MatchOption found (o ≡ None) (λ x. o ≡ Some (v x))
mapped v None o is = sym is
mapped v (Some x) o is = sym is

pub returns : goal.returns
returns c =
    mapped _ _ _
    (find_from_yields_List (λ (receipt : Receipt). is_account_of c.args.user.now receipt.owner) _ _ _ c.find.ensures.ran (YieldsList-from_rev_slice c.args.receipts.now cc) (λ x b q k. search (rules, tests)))
