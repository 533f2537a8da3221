use Rattle.std.proofs.Common.{◌≡◌, ℕ, true, false, List, length, nat_lt, slice_get, slice_index_or, Some, sym, ap, ◌∙◌, subst, ltb-true}
use Rattle.std.specs.Map.{keys_of}
use Rattle.indexmap.specs.IndexMap.{set_value_at}
use Rattle.indexmap.specs.Layout.{length-set_value_at}
use Rattle.pc_tables.specs.Table.{is_among}
use Rattle.pc_tables.proofs.Fronts.{item-at, found-at, keys-set-at, set-at-same, key-at}
use Rattle.pc_office_holdings.proofs.Posts.{Board, among-either, weighed-more, unposted, posted-one}
use Rattle.pc_office_holdings.proofs.boards.Boards.post_at.Goals as goal

-- the name that stands at a place, where the names are those of the table
name-at : (table : List Board) (names all : List (List ℕ)) (place : ℕ) (name : List ℕ) → names ≡ keys_of table → all ≡ names → true ≡ nat_lt place (length all) → name ≡ slice_index_or all place name → slice_get (keys_of table) place ≡ Some name
name-at table names all place name same shown within is = subst (λ (l : List (List ℕ)). slice_get l place ≡ Some name) (shown ∙ same) (found-at all place name (ltb-true place (length all) (sym within)) is)

pub returns-then-not-contains-clause-changed : goal.returns-then-not-contains-clause-changed
returns-then-not-contains-clause-changed c = λ all e.
    let found = item-at c.args.index c.args.self.now c.requires in
    let name = name-at c.self.inside.table.entries c.self.inside.names c.as_slice.result.now c.args.index c.in-Some.board.now c.self.invariant.0 c.as_slice.ensures c.in-Some.ensures.lookup.0 c.in-Some.ensures.lookup.1 in
    let same : found.0.0 ≡ c.in-Some.board.now = key-at c.args.self.now c.args.index found.0 c.in-Some.board.now found.1 (subst (λ (t : List Board). slice_get (keys_of t) c.args.index ≡ Some c.in-Some.board.now) c.self.view_is name) in
    let other : is_among found.0.0 c.args.names.now ≡ false = ap (λ n. is_among n c.args.names.now) same ∙ sym (among-either c.in-Some.board.now c.args.names.now) ∙ sym c.if-not-contains.ensures.value in
    e ∙ unposted c.args.names.now c.args.message.now c.args.index all found.0 other (ap (λ (t : List Board). slice_get t c.args.index) (sym e) ∙ found.1)

pub invariant_of-self-in_err-push : goal.invariant_of-self-in_err-push
invariant_of-self-in_err-push c =
    let table = c.self.inside.table.entries in
    let same : set_value_at table c.args.index c.push.new.self ≡ table = rw c.in_err-push.ensures.err (set-at-same table c.args.index c.in-Some-get_index_mut.messages.now (sym c.in-Some-get_index_mut.ensures.value)) in
    rw same c.self.invariant

pub invariant_of-self-2 : goal.invariant_of-self-2
invariant_of-self-2 c = (
  c.self.invariant.0 ∙ sym (keys-set-at c.self.inside.table.entries c.args.index c.push.new.self),
  weighed-more c.self.inside.sum c.weight.result c.self.inside.table.entries c.args.index c.args.message.now c.in_ok-copy.copy c.in-Some-get_index_mut.messages.now c.push.new.self c.in_ok-copy.ensures c.in_ok-push.ensures.ok c.weight.ensures.weight c.in-Some-get_index_mut.ensures.value c.self.invariant.1,
)

pub returns-clause-changed : goal.returns-clause-changed
returns-clause-changed c = λ all e.
    let name = name-at c.self.inside.table.entries c.self.inside.names c.as_slice.result.now c.args.index c.in-Some.board.now c.self.invariant.0 c.as_slice.ensures c.in-Some.ensures.lookup.0 c.in-Some.ensures.lookup.1 in
    let named : is_among c.in-Some.board.now c.args.names.now ≡ true = sym (among-either c.in-Some.board.now c.args.names.now) ∙ sym c.if-not-contains.ensures.value in
    posted-one c.args.names.now c.args.message.now c.in_ok-copy.copy c.args.index c.args.self.now c.self.inside.table.entries all c.in-Some.board.now c.in-Some-get_index_mut.messages.now c.push.new.self c.self.view_is e name named c.in-Some-get_index_mut.ensures.value c.in_ok-copy.ensures c.in_ok-push.ensures.ok

pub returns-clause-count : goal.returns-clause-count
returns-clause-count c = length-set_value_at c.self.inside.table.entries c.args.index c.push.new.self ∙ ap (λ (t : List Board). length t) c.self.view_is
