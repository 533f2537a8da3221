use Rattle.std.proofs.Common.{◌≡◌, ℕ, List, ◌++◌, OnOk, sym, ap, subst, ◌∙◌, append_assoc}
use Rattle.std.specs.List.{concat}
use Rattle.pc_fields.specs.FieldBytes.{message_fields}
use Rattle.pc_fields.proofs.Loops.{concat-append}
use Rattle.pc_office_spelling.specs.Spelling.{names_fields}
use Rattle.pc_office_spelling.proofs.entry_writing.write_accept.Goals as goal

pub returns : goal.returns
returns c =
    let names = names_fields c.args.names.now in
    let message = message_fields c.args.message.now in
    let all : c.write_names.new.out ++ concat message ≡ c.args.out.now ++ concat (names ++ message) = ap (λ (t : List ℕ). t ++ concat message) c.in_ok-write_names.ensures ∙ append_assoc c.args.out.now (concat names) (concat message) ∙ ap (λ (t : List ℕ). c.args.out.now ++ t) (sym (concat-append names message)) in
    subst (λ (t : List ℕ). OnOk c.write_message.result (c.write_message.new.out ≡ t)) all c.write_message.ensures
