use Rattle.std.proofs.Common.{◌≡◌, ◌∷◌, ◌++◌, subst, rules}
use Rattle.std.specs.List.{flat_map, concat}
use Rattle.pc_account_spelling.specs.Spelling.{mailbox_fields}
use Rattle.pc_fields.proofs.Loops.{fields_next}
use Rattle.pc_account_holdings.specs.Mailboxes.{Table}
use Rattle.pc_account_records.specs.Saving.{HaveFewLists}
use Rattle.pc_account_records.proofs.saving.write_mailboxes.Goals as goal

pub loop-name-preserved : goal.loop-name-preserved
loop-name-preserved c =
    let split : c.loop-name.name-iterator ≡ (c.in-Some.name.now, c.in-Some.mailbox.now) ∷ c.next.new.self = search rules in
    let few : HaveFewLists ((c.in-Some.name.now, c.in-Some.mailbox.now) ∷ c.next.new.self) = subst HaveFewLists split c.loop-name.invariant.few in
    record {
      whole = fields_next (mailbox_fields c.args.live) (c.in-Some.name.now, c.in-Some.mailbox.now) c.next.new.self c.loop-name.out c.write_mailbox.new.out (c.args.out.now ++ concat (flat_map (mailbox_fields c.args.live) c.args.mailboxes.now)) c.in_ok-write_mailbox.ensures
          (subst (λ (table : Table). c.loop-name.out ++ concat (flat_map (mailbox_fields c.args.live) table) ≡ c.args.out.now ++ concat (flat_map (mailbox_fields c.args.live) c.args.mailboxes.now)) split c.loop-name.invariant.whole);
      few = few.1;
    }
