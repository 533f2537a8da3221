-- The queued changes of a mailbox are laid over its messages as the whole queue is.
use Rattle.std.proofs.Common.{◌≡◌, ℕ, ◌≤◌, ◌==◌, true, false, cond, ◌&&◌, List, [], ◌∷◌, map, filter, refl, sym, ap, ◌∙◌}
use Rattle.std.specs.List.{AllByRecursion as Every}
use Rattle.pc_message.specs.declared.descriptor.Descriptor.{Descriptor}
use Rattle.pc_message.specs.Flags.{flags_with}
use Rattle.pc_tables.specs.Table.{same}
use Rattle.pc_tables.proofs.Lists.{Every-weaker, Every-filter}
use Rattle.pc_cache_history.specs.declared.item.Item.{Item}
use Rattle.pc_cache_history.specs.View.{flags_with_item, flags_over, laid_over}
use Rattle.pc_cache_history.specs.Legal.{IsItem}
use Rattle.pc_cache.specs.Shown.{is_of}

flags-own : (mailbox : List ℕ) (uid : ℕ) (items : List Item) (flags : ℕ) → flags_over mailbox uid (filter (is_of mailbox) items) flags ≡ flags_over mailbox uid items flags
flags-own mailbox uid [] flags = refl
flags-own mailbox uid (item ∷ items) flags = elim (same item.mailbox mailbox) as (λ b. same item.mailbox mailbox ≡ b → flags_over mailbox uid (cond b (item ∷ filter (is_of mailbox) items) (filter (is_of mailbox) items)) flags ≡ flags_over mailbox uid items (flags_with_item mailbox uid flags item)) [
  | true ↦ λ e. flags-own mailbox uid items (flags_with_item mailbox uid flags item)
  | false ↦ λ e. flags-own mailbox uid items flags ∙ ap (flags_over mailbox uid items) (sym (ap (λ b. cond (b && item.uid == uid) (flags_with flags item.flag item.on) flags) e))
] refl

-- so the descriptors are shown alike
pub laid-own : (mailbox : List ℕ) (items : List Item) (descriptors : List Descriptor) → map (laid_over mailbox (filter (is_of mailbox) items)) descriptors ≡ map (laid_over mailbox items) descriptors
laid-own mailbox items [] = refl
laid-own mailbox items (descriptor ∷ descriptors) = λ i. record descriptor { flags = flags-own mailbox descriptor.uid items descriptor.flags i } ∷ laid-own mailbox items descriptors i

pub flags-of-own : (last : ℕ) (mailbox : List ℕ) (items : List Item) → Every (IsItem last) items → Every (λ (item : Item). item.flag ≤ 15) (filter (is_of mailbox) items)
flags-of-own last mailbox items h = Every-filter (λ (item : Item). item.flag ≤ 15) (is_of mailbox) items (Every-weaker (IsItem last) (λ (item : Item). item.flag ≤ 15) (λ item is. is.flag) items h)
