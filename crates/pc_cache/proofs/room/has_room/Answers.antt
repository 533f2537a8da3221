use Rattle.std.proofs.Common.{◌≡◌, [], nat_le, length, sym, ap, ◌∙◌, arith}
use Rattle.std.specs.List.{filter}
use Rattle.std.specs.Map.{keys_of}
use Rattle.std.proofs.lemmas.Bool.{leb-true}
use Rattle.pc_cache_history.specs.declared.entry.CacheEntry.TheVariants.{Took}
use Rattle.pc_cache_history.specs.Effect.{mailboxes_after}
use Rattle.pc_cache_history.specs.Laws.{takes_away, brings}
use Rattle.pc_cache_history.proofs.Agreement.{changes-parts}
use Rattle.pc_cache.specs.Mailboxes.{Table, count_in, found_in}
use Rattle.pc_cache.proofs.Taking.{length-keys, counted-all, room-counted, no-place}
use Rattle.pc_cache.proofs.room.has_room.Goals as goal

pub has_place-requires : goal.has_place-requires
has_place-requires c =
    let table = c.args.holdings.now.mailboxes in
    omega (arith, ap (λ (t : Table). length t) c.mailboxes-mailboxes.ensures, length-keys table, c.requires.canonical.within.mailboxes)

pub returns-then-not-has_place : goal.returns-then-not-has_place
returns-then-not-has_place c =
    no-place c.args.holdings.now c.args.mailbox.now c.args.changes.now c.requires.canonical c.requires.changes
    (ap (λ (t : Table). nat_le (length (mailboxes_after (Took c.args.mailbox.now []) (keys_of t))) 32768) (sym c.mailboxes-mailboxes.ensures) ∙ sym c.has_place.ensures ∙ c.if-not-has_place.true)

pub overflow_add-result : goal.overflow_add-result
overflow_add-result c =
    let table = c.args.holdings.now.mailboxes in
    let all = counted-all c.args.holdings.now c.requires.canonical in
    let here : count_in c.mailboxes-mailboxes.result.now ≡ count_in table = ap count_in c.mailboxes-mailboxes.ensures in
    let count = c.count.ensures (omega (arith, here, all.1)) in
    let few = leb-true (length c.args.changes.now) 32768 (changes-parts c.args.changes.now c.requires.changes).0 in
    omega (arith, count, here, all.1, few, c.count_of_new-more.ensures.bound)

pub returns : goal.returns
returns c =
    let table = c.args.holdings.now.mailboxes in
    let mailbox = c.args.mailbox.now in
    let changes = c.args.changes.now in
    let all = counted-all c.args.holdings.now c.requires.canonical in
    let here : count_in c.mailboxes-mailboxes.result.now ≡ count_in table = ap count_in c.mailboxes-mailboxes.ensures in
    let count = c.count.ensures (omega (arith, here, all.1)) ∙ here in
    room-counted c.args.holdings.now mailbox changes c.requires.canonical c.requires.changes c.count.result c.count_of_new-more.result c.count_of_gone-fewer.result count
    (c.count_of_new-more.ensures.value ∙ ap (λ (t : Table). length (filter (brings (found_in mailbox t)) changes)) c.mailboxes-mailboxes.ensures)
    (c.count_of_gone-fewer.ensures.value ∙ ap (λ (t : Table). length (filter (takes_away (found_in mailbox t)) changes)) c.mailboxes-mailboxes.ensures)
    (ap (λ (t : Table). nat_le (length (mailboxes_after (Took mailbox []) (keys_of t))) 32768) (sym c.mailboxes-mailboxes.ensures) ∙ sym c.has_place.ensures ∙ c.if-not-has_place.false)
