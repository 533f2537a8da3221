use Rattle.std.proofs.Common.{◌≡◌, ◌≤◌, List, subst, [], ◌++◌, map, filter, drop, sym, ap, ◌∙◌, append-nil}
use Rattle.std.specs.List.{AllByRecursion}
use Rattle.std.proofs.lemmas.List.{drop_all}
use Rattle.pc_cache_history.specs.declared.item.Item.{Item}
use Rattle.pc_message.specs.declared.descriptor.Change.TheVariants.{Present}
use Rattle.pc_message.specs.declared.descriptor.Descriptor.{Descriptor}
use Rattle.pc_cache_history.specs.Record.{CacheRecord}
use Rattle.pc_cache_history.specs.Known.{Known}
use Rattle.pc_cache_history.specs.View.{laid_over, shown_changes}
use Rattle.pc_cache.specs.Mailboxes.{Table, found_in}
use Rattle.pc_cache.specs.Shown.{is_of}
use Rattle.pc_cache.proofs.Shown.{laid-own, flags-of-own}
use Rattle.pc_cache.proofs.Standing.{said_is_known}
use Rattle.pc_cache.proofs.cache.Cache.view.Goals as goal

pub laid_over-requires : goal.laid_over-requires
laid_over-requires c =
    let mailbox = c.args.mailbox.now in
    let held = c.self.inside.holdings in
    let queue : c.queue.result.now ≡ held.queue = c.queue.ensures.held ∙ ap (λ (r : CacheRecord). r.queue) (sym c.self.view_is) in
    subst (λ (items : List Item). AllByRecursion (λ (item : Item). item.flag ≤ 15) items) (sym (c.as_slice.ensures.value ∙ c.in_ok-items.ensures ∙ ap (filter (is_of mailbox)) queue)) (flags-of-own held.last mailbox held.queue c.self.invariant.items)

pub returns-clause-held : goal.returns-clause-held
returns-clause-held c =
    let mailbox = c.args.mailbox.now in
    let shown = c.descriptors-descriptor-items.result.now in
    let items = c.in_ok-items.items.items in
    let queue = c.args.self.now.queue in
    let none : drop c.loop-descriptor.descriptor-index shown ≡ [] = drop_all c.loop-descriptor.descriptor-index shown c.loop-descriptor-test.false in
    let here : shown ≡ found_in mailbox c.args.self.now.mailboxes = c.descriptors-descriptor-items.ensures ∙ ap (λ (table : Table). found_in mailbox table) (c.mailboxes.ensures ∙ ap (λ (r : CacheRecord). r.mailboxes) c.self.view_is) in
    let own : items ≡ filter (is_of mailbox) queue = c.in_ok-items.ensures ∙ ap (filter (is_of mailbox)) c.queue.ensures.held in
    sym (append-nil c.loop-descriptor.changes)
    ∙ ap (λ (rest : List Descriptor). c.loop-descriptor.changes ++ map Present (map (laid_over mailbox items) rest)) (sym none)
    ∙ c.loop-descriptor.invariant
    ∙ (λ i. map Present (map (laid_over mailbox (own i)) (here i)))
    ∙ ap (map Present) (laid-own mailbox queue (found_in mailbox c.args.self.now.mailboxes))

pub returns-clause-history : goal.returns-clause-history
returns-clause-history c = λ h stands. returns-clause-held c ∙ ap (λ (k : Known). shown_changes k c.args.mailbox.now) (said_is_known c.args.self.now h stands)
