use Rattle.std.proofs.Common.{ℕ, [], ◌∷◌, List, length, min, refl, ap, arith, length-append}
use Rattle.pc_account_history.specs.declared.kept.Listed.{Listed}
use Rattle.pc_tables.proofs.Totals.{total-append}
use Rattle.pc_account_spelling.specs.RecordFormat.{lists_from}
use Rattle.pc_fields.proofs.Pushes.{within-parts}
use Rattle.pc_fields.proofs.Follows.{match_err}
use Rattle.pc_account_records.proofs.ReadLists.{lists_no_name, lists_no_count, lists_no_list, lists_more, lists_last}
use Rattle.pc_account_records.proofs.loading.lists.read_lists.Goals as goal

pub returns-in_err-read_same_name-clause-read : goal.returns-in_err-read_same_name-clause-read
returns-in_err-read_same_name-clause-read c =
    match_err c.from_residual.result c.in_err-read_same_name.field-0.0 _ _ c.from_residual.ensures
    (lists_no_name c.args.highest c.loop-client.left (min c.args.highest c.loop-client.left) (c.in-Some.client.now, c.in-Some.birth.now) c.next.new.self c.loop-client.client-iterator c.loop-client.lists.items (lists_from c.args.highest c.args.room c.args.clients.now.entries []) c.args.cursor.now c.loop-client.cursor refl c.in-Some.ensures.steps c.loop-client.invariant.follows
    c.read_same_name.new.cursor c.in_err-read_same_name.field-0.0 c.in_err-read_same_name.ensures)

pub returns-in_err-count-clause-read : goal.returns-in_err-count-clause-read
returns-in_err-count-clause-read c =
    match_err c.from_residual-in_err-count.result c.in_err-count.field-0.0 _ _ c.from_residual-in_err-count.ensures
    (lists_no_count c.args.highest c.loop-client.left c.min.result (c.in-Some.client.now, c.in-Some.birth.now) c.next.new.self c.loop-client.client-iterator c.loop-client.lists.items (lists_from c.args.highest c.args.room c.args.clients.now.entries []) c.args.cursor.now c.loop-client.cursor c.min.ensures c.in-Some.ensures.steps c.loop-client.invariant.follows
    c.read_same_name.new.cursor c.in_ok-read_same_name.field-0 c.in_ok-read_same_name.ensures c.u32.new.self c.in_err-count.field-0.0 c.in_err-count.ensures)

pub returns-in_err-list-clause-read : goal.returns-in_err-list-clause-read
returns-in_err-list-clause-read c =
    match_err c.from_residual-in_err-list.result c.in_err-list.field-0.0 _ _ c.from_residual-in_err-list.ensures
    (lists_no_list c.args.highest c.loop-client.left c.min.result (c.in-Some.client.now, c.in-Some.birth.now) c.next.new.self c.loop-client.client-iterator c.loop-client.lists.items (lists_from c.args.highest c.args.room c.args.clients.now.entries []) c.args.cursor.now c.loop-client.cursor c.min.ensures c.in-Some.ensures.steps c.loop-client.invariant.follows
    c.read_same_name.new.cursor c.in_ok-read_same_name.field-0 c.in_ok-read_same_name.ensures c.u32.new.self c.in_ok-count.count c.in_ok-count.ensures c.read_changes.new.cursor c.in_err-list.field-0.0 c.in_err-list.ensures.read)

pub loop-client-preserved : goal.loop-client-preserved
loop-client-preserved c =
    let count = within-parts 0 c.min.result c.in_ok-count.count c.in_ok-count.ensures.told.passed in
    let entry : List ℕ × List Listed = (c.in-Some.client.now, c.in_ok-list.list) in
    let rest = ap length c.in-Some.ensures.steps in
    record {
      follows = rw (c.in_ok-put_list.ensures, c.count-left.ensures) (lists_more c.args.highest c.loop-client.left c.min.result (c.in-Some.client.now, c.in-Some.birth.now) c.next.new.self c.loop-client.client-iterator c.loop-client.lists.items (lists_from c.args.highest c.args.room c.args.clients.now.entries []) c.args.cursor.now c.loop-client.cursor c.min.ensures c.in-Some.ensures.steps c.loop-client.invariant.follows
          c.read_same_name.new.cursor c.in_ok-read_same_name.field-0 c.in_ok-read_same_name.ensures c.u32.new.self c.in_ok-count.count c.in_ok-count.ensures c.read_changes.new.cursor c.in_ok-list.list c.in_ok-list.ensures.read);
      each = rw c.in_ok-put_list.ensures (omega (arith, length-append c.loop-client.lists.items (entry ∷ []), rest, c.loop-client.invariant.each));
      few = rw c.in_ok-put_list.ensures (omega (arith, total-append (λ (list : List ℕ × List Listed). length list.1) c.loop-client.lists.items (entry ∷ []), count.1, c.min.ensures, c.count-left.ensures, c.in_ok-list.ensures.counted, c.loop-client.invariant.few));
    }

pub returns-clause-read : goal.returns-clause-read
returns-clause-read c = lists_last c.args.highest c.loop-client.left c.loop-client.client-iterator c.loop-client.lists.items (lists_from c.args.highest c.args.room c.args.clients.now.entries []) c.args.cursor.now c.loop-client.cursor c.in-None.ensures.steps.0 c.loop-client.invariant.follows
