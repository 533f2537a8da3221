use Rattle.std.proofs.Common.{◌≡◌, ℕ, ◌+◌, List, Bool, true, false, cond, take, sym, ap, subst, ◌∙◌}
use Rattle.std.specs.List.{list_any}
use Rattle.std.specs.Str.{bytes_eq}
use Rattle.std.specs.BTreeSet.{contains}
use Rattle.std.specs.Ordering.{nat_cmp}
use Rattle.std.specs.Cmp.Lexicographic.{slice_cmp}
use Rattle.std.proofs.lemmas.Map.Text.{is_eq-slice_cmp}
use Rattle.pc_reply.specs.declared.items.ItemFault.TheVariants as fault
use Rattle.pc_reply.specs.Items.{AreMailboxLines}
use Rattle.pc_reply.proofs.ReadingLemmas.{only_memory}
use Rattle.pc_reply.proofs.RowLemmas.{row_fault, row_on, names_all, names_know, was_known, was_new}
use Rattle.pc_reply.proofs.reading.read_mailboxes.Goals as goal

pub returns-in_default-clause-items : goal.returns-in_default-clause-items
returns-in_default-clause-items c =
    row_fault c.loop-line.names c.as_slice-row-items.result.now c.args.lines.now c.loop-line.line c.row-item.result c.bytes.result.now c.as_slice-row-items.ensures c.loop-line-test.true c.row-item.is c.bytes.ensures.value c.loop-line.invariant.items (λ row told. let none = c.in_default.ensures.every row told in absurd (cc))

pub returns-in_default-clause-every : goal.returns-in_default-clause-every
returns-in_default-clause-every c = λ names are.
    only_memory AreMailboxLines c.args.lines.now (fault.Bad c.loop-line.line) names (returns-in_default-clause-items c) are

pub returns-in-Ok-false-clause-items : goal.returns-in-Ok-false-clause-items
returns-in-Ok-false-clause-items c =
    let found : contains (slice_cmp nat_cmp) c.loop-line.known c.in-Some.name ≡ true = was_known c.in-Ok-false.field-0 (contains (slice_cmp nat_cmp) c.loop-line.known c.in-Some.name) c.in-Ok-false.ensures.added c.in-Ok-false.field-0-test in
    let listed = sym (c.loop-line.invariant.known c.in-Some.name) ∙ found in
    row_fault c.loop-line.names c.as_slice-row-items.result.now c.args.lines.now c.loop-line.line c.row-item.result c.bytes.result.now c.as_slice-row-items.ensures c.loop-line-test.true c.row-item.is c.bytes.ensures.value c.loop-line.invariant.items (λ row told.
    let same = c.in-Some.ensures.every row told in
    let name : c.in-Some.name ≡ row.name = cc in
    ap (λ (key : List ℕ). list_any (λ other. bytes_eq other key) c.loop-line.names) (sym name) ∙ listed)

pub returns-in-Ok-false-clause-every : goal.returns-in-Ok-false-clause-every
returns-in-Ok-false-clause-every c = λ names are.
    only_memory AreMailboxLines c.args.lines.now (fault.Bad c.loop-line.line) names (returns-in-Ok-false-clause-items c) are

pub loop-line-preserved : goal.loop-line-preserved
loop-line-preserved c =
    let l = c.loop-line in
    let new : contains (slice_cmp nat_cmp) l.known c.in-Some.name ≡ false = was_new c.in-Ok-true.field-0 (contains (slice_cmp nat_cmp) l.known c.in-Some.name) c.in-Ok-true.ensures.added c.in-Ok-true.field-0-test in
    let unlisted = sym (l.invariant.known c.in-Some.name) ∙ new in
    let row = c.in-Some.ensures.some in
    let on = row_on l.names c.as_slice-row-items.result.now l.line c.row-item.result c.bytes.result.now c.in-Some.name row.0 c.loop-line-test.true c.row-item.is c.bytes.ensures.value l.invariant.items row.1.0 row.1.1 unlisted in
    let pushed = c.in-Ok.ensures.ok in
    record {
      items = subst (λ (names : List (List ℕ)). AreMailboxLines names (take (l.line + 1) c.as_slice-row-items.result.now)) (sym pushed) on;
      known = λ key. names_know l.names c.in-Some.name key (contains (slice_cmp nat_cmp) l.known key) (contains (slice_cmp nat_cmp) c.insert.new.self key) (l.invariant.known key) (c.in-Ok-true.ensures.updates.0 key ∙ ap (λ (same : Bool). cond same true (contains (slice_cmp nat_cmp) l.known key)) (is_eq-slice_cmp c.in-Some.name key)) ∙ ap (list_any (λ other. bytes_eq other key)) (sym pushed);
    }

pub returns-clause-every : goal.returns-clause-every
returns-clause-every c = λ names are.
    names_all c.loop-line.names names c.loop-line.line c.as_slice-row-items.result.now c.args.lines.now c.as_slice-row-items.ensures c.loop-line-test.false c.loop-line.invariant.items are
