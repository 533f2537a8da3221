use Rattle.std.proofs.Common.{◌≡◌, ◌++◌}
use Rattle.std.specs.List.{flat_map, concat}
use Rattle.pc_account_spelling.specs.Spelling.{mailbox_fields}
use Rattle.pc_account_records.specs.Saving.{HaveFewLists}
use Rattle.pc_account_records.proofs.saving.write_mailboxes.Given as goal

-- the mailboxes that are left make the list whole
abbrev pub invariant-loop-name : goal.invariant-loop-name
invariant-loop-name l = record {
  whole : l.out ++ concat (flat_map (mailbox_fields l.live) l.name-iterator) ≡ l.fn.out ++ concat (flat_map (mailbox_fields l.live) l.mailboxes);
  few : HaveFewLists l.name-iterator;
}
