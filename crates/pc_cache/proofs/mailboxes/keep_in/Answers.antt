use Rattle.std.proofs.Common.{ℕ, List, rules}
use Rattle.indexmap.proofs.CallerLemmas.{filter-RetainsPairs}
use Rattle.pc_message.specs.declared.descriptor.Descriptor.{Descriptor}
use Rattle.pc_tables.specs.Table.{is_among}
use Rattle.pc_cache.proofs.mailboxes.keep_in.Goals as goal

pub returns : goal.returns
returns c = filter-RetainsPairs _ (λ (entry : List ℕ × List Descriptor). is_among entry.0 c.args.set.now) _ (λ k v b w g h. search rules) _ _ c.retain.ensures.filtered
