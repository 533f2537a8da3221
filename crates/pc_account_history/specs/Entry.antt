-- The kinds of entries: their numbers and their words.
use Rattle.std.specs.Prelude.{ℕ, List, codes}
use Rattle.pc_account_history.specs.declared.entry.Entry.{Entry}
use Rattle.pc_account_history.specs.declared.entry.Entry.TheVariants.{MakeMailbox, DropMailbox, Flag, Expunge, Copy, MakeClient, DropClient, ResetClient, ResetMailbox, Forget, Pull, Password, Subscribe, Unsubscribe, Mark}

-- the number that stands for a kind of entry
abbrev pub tag_of : Entry → ℕ
tag_of (MakeMailbox _) = 1
tag_of (DropMailbox _) = 2
tag_of (Flag _ _ _ _) = 3
tag_of (Expunge _) = 4
tag_of (Copy _ _ _) = 5
tag_of (MakeClient _) = 6
tag_of (DropClient _) = 7
tag_of (ResetClient _) = 8
tag_of (ResetMailbox _ _) = 9
tag_of (Forget _ _ _) = 10
tag_of (Pull _ _) = 11
tag_of (Password _) = 12
tag_of (Subscribe _) = 13
tag_of (Unsubscribe _) = 14
tag_of (Mark _ _) = 15

-- the word that names a kind of entry
abbrev pub word_of : Entry → List ℕ
word_of (MakeMailbox _) = codes "MakeMailbox"
word_of (DropMailbox _) = codes "DropMailbox"
word_of (Flag _ _ _ _) = codes "Flag"
word_of (Expunge _) = codes "Expunge"
word_of (Copy _ _ _) = codes "Copy"
word_of (MakeClient _) = codes "MakeClient"
word_of (DropClient _) = codes "DropClient"
word_of (ResetClient _) = codes "ResetClient"
word_of (ResetMailbox _ _) = codes "ResetMailbox"
word_of (Forget _ _ _) = codes "Forget"
word_of (Pull _ _) = codes "Pull"
word_of (Password _) = codes "Password"
word_of (Subscribe _) = codes "Subscribe"
word_of (Unsubscribe _) = codes "Unsubscribe"
word_of (Mark _ _) = codes "Mark"
