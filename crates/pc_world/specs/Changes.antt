-- What carrying out a wish comes to.
use Rattle.std.specs.Prelude.{◌≡◌, ⊤, List, ◌++◌, Option, Result, Ok, Err}
use Rattle.std.specs.Option.{option_to_list}
use Rattle.pc_base.specs.declared.refusal.Refusal.{Refusal}
use Rattle.pc_account_history.specs.declared.entry.Entry.{Entry}
use Rattle.pc_base.specs.declared.ask_fault.AskFault.{AskFault}
use Rattle.pc_base.specs.declared.ask_fault.AskFault.TheVariants.{Refused, Memory}

-- the entry of the plan is kept, where it has one; or its refusal is told, and nothing is kept; or memory was wanted
abbrev pub Changes : List Entry → List Entry → Result (Option Entry) Refusal → Result Unit AskFault → Type 0
Changes old new plan (Err Memory) = ⊤
Changes old new (Ok entry) (Ok done) = new ≡ old ++ option_to_list entry
Changes old new (Ok entry) (Err (Refused told)) = ⊥
Changes old new (Err refusal) (Ok done) = ⊥
Changes old new (Err refusal) (Err (Refused told)) = (told ≡ refusal) × (new ≡ old)
