use Rattle.std.proofs.Common.{◌≡◌, ℕ, List, ◌∷◌, ◌++◌, subst, rules}
use Rattle.std.specs.List.{flat_map, concat}
use Rattle.pc_fields.proofs.Loops.{fields_next}
use Rattle.pc_office_spelling.specs.RecordSpelling.{board_fields}
use Rattle.pc_office_records.specs.Saving.{HaveFewMessages}
use Rattle.pc_office_records.proofs.saving.write_each_board.Goals as goal

pub loop-name-preserved : goal.loop-name-preserved
loop-name-preserved c =
    let split : c.loop-name.name-iterator ≡ (c.in-Some.name.now, c.in-Some.messages.now) ∷ c.next.new.self = search rules in
    let few : HaveFewMessages ((c.in-Some.name.now, c.in-Some.messages.now) ∷ c.next.new.self) = subst HaveFewMessages split c.loop-name.invariant.few in
    record {
      whole = fields_next board_fields (c.in-Some.name.now, c.in-Some.messages.now) c.next.new.self c.loop-name.out c.write_board.new.out (c.args.out.now ++ concat (flat_map board_fields c.args.boards.now)) c.in_ok-write_board.ensures
          (subst (λ (boards : List (List ℕ × List (List (List ℕ)))). c.loop-name.out ++ concat (flat_map board_fields boards) ≡ c.args.out.now ++ concat (flat_map board_fields c.args.boards.now)) split c.loop-name.invariant.whole);
      few = few.1;
    }
