-- What each entry leaves as it was.
use Rattle.std.proofs.Common.{refl, true≢false}
use Rattle.pc_cache_history.specs.declared.entry.CacheEntry.{CacheEntry}
use Rattle.pc_cache_history.specs.declared.entry.CacheEntry.TheVariants.{Begin, Synced, Took, Kept, Queue, Answered}
use Rattle.pc_cache_history.specs.History.{History, ◌▻◌, known}
use Rattle.pc_cache_history.specs.Laws.{IsLeft}

pub left : (h : History) (e : CacheEntry) → IsLeft (known h) (known (h ▻ e)) e
left h (Begin birth) = record { birth = λ g. absurd (true≢false g); resetting = λ g. absurd (true≢false g); copies = λ g. absurd (true≢false g); last = λ g. refl; queue = λ g. refl }
left h Synced = record { birth = λ g. refl; resetting = λ g. absurd (true≢false g); copies = λ g. record { mailboxes = refl; base = λ mailbox uid. refl; descriptors = λ mailbox. refl }; last = λ g. refl; queue = λ g. refl }
left h (Took mailbox changes) = record { birth = λ g. refl; resetting = λ g. refl; copies = λ g. absurd (true≢false g); last = λ g. refl; queue = λ g. refl }
left h (Kept names) = record { birth = λ g. refl; resetting = λ g. refl; copies = λ g. absurd (true≢false g); last = λ g. refl; queue = λ g. refl }
left h (Queue mailbox uid flag on) = record { birth = λ g. refl; resetting = λ g. refl; copies = λ g. record { mailboxes = refl; base = λ other asked. refl; descriptors = λ other. refl }; last = λ g. absurd (true≢false g); queue = λ g. absurd (true≢false g) }
left h (Answered number) = record { birth = λ g. refl; resetting = λ g. refl; copies = λ g. record { mailboxes = refl; base = λ mailbox uid. refl; descriptors = λ mailbox. refl }; last = λ g. refl; queue = λ g. absurd (true≢false g) }
