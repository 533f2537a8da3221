-- The view is the base with the queue laid over it.
use Rattle.std.proofs.Common.{◌≡◌, ℕ, suc, ◌==◌, true, false, cond, not, ◌&&◌, List, [], ◌∷◌, ◌++◌, map, Option, None, Some, is_some, option_map, refl, sym, ◌∙◌, ap, subst, eq-eqb}
use Rattle.std.specs.List.{list_any}
use Rattle.std.proofs.lemmas.Bool.{eqb-true, or_parts}
use Rattle.pc_message.specs.declared.descriptor.Descriptor.{Descriptor}
use Rattle.pc_message.specs.Flags.{flags_with}
use Rattle.pc_tables.proofs.Table.{same-refl}
use Rattle.pc_cache_history.specs.declared.item.Item.{Item}
use Rattle.pc_cache_history.specs.declared.entry.CacheEntry.TheVariants.{Queue, Answered}
use Rattle.pc_cache_history.specs.Record.{descriptor_at, is_for}
use Rattle.pc_cache_history.specs.Effect.{other_items}
use Rattle.pc_cache_history.specs.Known.{Known}
use Rattle.pc_cache_history.specs.View.{flags_with_item, flags_over, laid_over, view, view_at}
use Rattle.pc_cache_history.specs.History.{History, ◌▻◌, known}
use Rattle.pc_cache_history.specs.Legal.{IsLegal}
use Rattle.pc_cache_history.specs.Laws.{IsViewed, NoneIsOf, set_flag, IsSetIn, is_change_of, IsAnsweredIn}
use Rattle.pc_cache_history.proofs.Mailboxes.{listed}

-- ---- the messages of a view

uids-laid : (mailbox : List ℕ) (items : List Item) (descriptors : List Descriptor) → map (λ (descriptor : Descriptor). descriptor.uid) (map (laid_over mailbox items) descriptors) ≡ map (λ (descriptor : Descriptor). descriptor.uid) descriptors
uids-laid mailbox items [] = refl
uids-laid mailbox items (descriptor ∷ descriptors) = ap (λ uids. descriptor.uid ∷ uids) (uids-laid mailbox items descriptors)

descriptor_at-laid : (mailbox : List ℕ) (items : List Item) (uid : ℕ) (descriptors : List Descriptor) → descriptor_at uid (map (laid_over mailbox items) descriptors) ≡ option_map (laid_over mailbox items) (descriptor_at uid descriptors)
descriptor_at-laid mailbox items uid [] = refl
descriptor_at-laid mailbox items uid (descriptor ∷ descriptors) = elim (descriptor.uid == uid) as (λ b. cond b (Some (laid_over mailbox items descriptor)) (descriptor_at uid (map (laid_over mailbox items) descriptors)) ≡ option_map (laid_over mailbox items) (cond b (Some descriptor) (descriptor_at uid descriptors))) [ true ↦ refl | false ↦ descriptor_at-laid mailbox items uid descriptors ]

some-laid : (f : Descriptor → Descriptor) (found : Option Descriptor) → is_some (option_map f found) ≡ is_some found
some-laid f None = refl
some-laid f (Some descriptor) = refl

pub viewed : (h : History) → IsLegal h → (mailbox : List ℕ) → IsViewed (known h) mailbox
viewed h legal mailbox =
    let k = known h in
    record {
      uids = uids-laid mailbox k.queue (k.descriptors mailbox);
      shown = λ uid. descriptor_at-laid mailbox k.queue uid (k.descriptors mailbox) ∙ ap (option_map (laid_over mailbox k.queue)) ((listed h legal mailbox).shown uid);
      there = λ uid. some-laid (laid_over mailbox k.queue) (k.base mailbox uid);
    }

-- ---- a mailbox without queued changes

flags-left : (mailbox : List ℕ) (uid : ℕ) (items : List Item) (flags : ℕ) → NoneIsOf mailbox items → flags_over mailbox uid items flags ≡ flags
flags-left mailbox uid [] flags h = refl
flags-left mailbox uid (item ∷ items) flags h = ap (λ b. flags_over mailbox uid items (cond (b && item.uid == uid) (flags_with flags item.flag item.on) flags)) h.0 ∙ flags-left mailbox uid items flags h.1

laid-left : (mailbox : List ℕ) (items : List Item) → NoneIsOf mailbox items → (descriptor : Descriptor) → laid_over mailbox items descriptor ≡ descriptor
laid-left mailbox items h descriptor = ap (λ flags. record descriptor { flags = flags }) (flags-left mailbox descriptor.uid items descriptor.flags h)

map-left : (f : Descriptor → Descriptor) → ((descriptor : Descriptor) → f descriptor ≡ descriptor) → (descriptors : List Descriptor) → map f descriptors ≡ descriptors
map-left f h [] = refl
map-left f h (descriptor ∷ descriptors) = λ i. h descriptor i ∷ map-left f h descriptors i

found-left : (f : Descriptor → Descriptor) → ((descriptor : Descriptor) → f descriptor ≡ descriptor) → (found : Option Descriptor) → option_map f found ≡ found
found-left f h None = refl
found-left f h (Some descriptor) = ap Some (h descriptor)

pub without-items : (h : History) (mailbox : List ℕ) → NoneIsOf mailbox (known h).queue → (view (known h) mailbox ≡ (known h).descriptors mailbox) × ((uid : ℕ) → view_at (known h) mailbox uid ≡ (known h).base mailbox uid)
without-items h mailbox none =
    let left = laid-left mailbox (known h).queue none in
    (map-left (laid_over mailbox (known h).queue) left ((known h).descriptors mailbox), λ uid. found-left (laid_over mailbox (known h).queue) left ((known h).base mailbox uid))

-- ---- one more change in the queue

flags-behind : (mailbox : List ℕ) (uid : ℕ) (items : List Item) (item : Item) (flags : ℕ) → flags_over mailbox uid (items ++ item ∷ []) flags ≡ flags_with_item mailbox uid (flags_over mailbox uid items flags) item
flags-behind mailbox uid [] item flags = refl
flags-behind mailbox uid (first ∷ items) item flags = flags-behind mailbox uid items item (flags_with_item mailbox uid flags first)

-- a message is found under its own uid
own-uid : (P : Descriptor → Descriptor) (Q : Descriptor → Descriptor) (uid : ℕ) → ((descriptor : Descriptor) → descriptor.uid ≡ uid → P descriptor ≡ Q descriptor) → (descriptors : List Descriptor) → option_map P (descriptor_at uid descriptors) ≡ option_map Q (descriptor_at uid descriptors)
own-uid P Q uid h [] = refl
own-uid P Q uid h (descriptor ∷ descriptors) = elim (descriptor.uid == uid) as (λ b. (descriptor.uid == uid) ≡ b → option_map P (cond b (Some descriptor) (descriptor_at uid descriptors)) ≡ option_map Q (cond b (Some descriptor) (descriptor_at uid descriptors))) [
  | true ↦ λ e. ap Some (h descriptor (eqb-true descriptor.uid uid e))
  | false ↦ λ e. own-uid P Q uid h descriptors
] refl

map-twice : (f g : Descriptor → Descriptor) (found : Option Descriptor) → option_map (λ descriptor. f (g descriptor)) found ≡ option_map f (option_map g found)
map-twice f g None = refl
map-twice f g (Some descriptor) = refl

-- what is laid over by one more change
laid-behind : (mailbox : List ℕ) (items : List Item) (item : Item) (descriptor : Descriptor) → laid_over mailbox (items ++ item ∷ []) descriptor ≡ record (laid_over mailbox items descriptor) { flags = flags_with_item mailbox descriptor.uid (flags_over mailbox descriptor.uid items descriptor.flags) item }
laid-behind mailbox items item descriptor = ap (λ flags. record descriptor { flags = flags }) (flags-behind mailbox descriptor.uid items item descriptor.flags)

-- what two functions make of a message of the base is the same where it is for its own uid
at-base : (h : History) (legal : IsLegal h) (mailbox : List ℕ) (uid : ℕ) (P Q : Descriptor → Descriptor) → ((descriptor : Descriptor) → descriptor.uid ≡ uid → P descriptor ≡ Q descriptor) → option_map P ((known h).base mailbox uid) ≡ option_map Q ((known h).base mailbox uid)
at-base h legal mailbox uid P Q same_there = subst (λ found. option_map P found ≡ option_map Q found) ((listed h legal mailbox).shown uid) (own-uid P Q uid same_there ((known h).descriptors mailbox))

module _ (h : History) (item : Item) (legal : IsLegal h) where
  abbrev before : Known
  before = known h

  abbrev added : Item
  added = record item { number = suc before.last }

  pub set-in : IsSetIn before (known (h ▻ Queue item.mailbox item.uid item.flag item.on)) item
  set-in = record {
    here =
        at-base h legal item.mailbox item.uid (laid_over item.mailbox (before.queue ++ added ∷ [])) (λ descriptor. set_flag item.flag item.on (laid_over item.mailbox before.queue descriptor)) (λ descriptor e. laid-behind item.mailbox before.queue added descriptor ∙ ap (λ b. record descriptor { flags = cond b (flags_with (flags_over item.mailbox descriptor.uid before.queue descriptor.flags) item.flag item.on) (flags_over item.mailbox descriptor.uid before.queue descriptor.flags) }) (of-own descriptor.uid e))
        ∙ map-twice (set_flag item.flag item.on) (laid_over item.mailbox before.queue) (before.base item.mailbox item.uid);
    others = λ mailbox uid other. at-base h legal mailbox uid (laid_over mailbox (before.queue ++ added ∷ [])) (laid_over mailbox before.queue) (λ descriptor e. laid-behind mailbox before.queue added descriptor ∙ ap (λ b. record descriptor { flags = cond b (flags_with (flags_over mailbox descriptor.uid before.queue descriptor.flags) item.flag item.on) (flags_over mailbox descriptor.uid before.queue descriptor.flags) }) (ap (λ n. is_for mailbox n item) e ∙ other));
  }
    where
      of-own : (uid : ℕ) → uid ≡ item.uid → is_for item.mailbox uid item ≡ true
      of-own uid e = (λ i. same-refl item.mailbox i && (eq-eqb item.uid uid (sym e) i))

-- ---- one change fewer in the queue

flags-answered : (number : ℕ) (mailbox : List ℕ) (uid : ℕ) (items : List Item) (flags : ℕ) → list_any (λ (item : Item). item.number == number && is_for mailbox uid item) items ≡ false → flags_over mailbox uid (other_items number items) flags ≡ flags_over mailbox uid items flags
flags-answered number mailbox uid [] flags h = refl
flags-answered number mailbox uid (item ∷ items) flags h =
    let parts = or_parts (item.number == number && is_for mailbox uid item) (list_any (λ (other : Item). other.number == number && is_for mailbox uid other) items) h in
    elim (item.number == number) as (λ b. (b && is_for mailbox uid item) ≡ false → flags_over mailbox uid (cond (not b) (item ∷ other_items number items) (other_items number items)) flags ≡ flags_over mailbox uid items (flags_with_item mailbox uid flags item)) [
      | true ↦ λ e. flags-answered number mailbox uid items flags parts.1 ∙ ap (λ c. flags_over mailbox uid items (cond c (flags_with flags item.flag item.on) flags)) (sym e)
      | false ↦ λ _. flags-answered number mailbox uid items (flags_with_item mailbox uid flags item) parts.1
    ] parts.0

pub answered-in : (h : History) (number : ℕ) → IsLegal h → IsAnsweredIn (known h) (known (h ▻ Answered number)) number
answered-in h number legal = record {
  here = λ mailbox uid. refl;
  others = λ mailbox uid none. at-base h legal mailbox uid (laid_over mailbox (other_items number (known h).queue)) (laid_over mailbox (known h).queue) (λ descriptor e. ap (λ flags. record descriptor { flags = flags }) (flags-answered number mailbox descriptor.uid (known h).queue descriptor.flags (ap (λ n. is_change_of (known h) number mailbox n) e ∙ none)));
}
