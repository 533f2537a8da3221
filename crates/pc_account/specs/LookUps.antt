-- Tests on what is looked up in an account.
use Rattle.std.specs.Prelude.{ℕ, ◌==◌, Bool, not, List, if◌then◌else◌}
use Rattle.std.specs.List.{list_all}
use Rattle.pc_account_history.specs.declared.kept.Kept.{Kept}
use Rattle.pc_message.specs.Flags.{flag_of}
use Rattle.pc_account_history.specs.Known.{Known}
use Rattle.pc_account_history.specs.Allowed.{is_mailbox}

-- the mark is this uid
abbrev pub is_set : ℕ → ℕ → Bool
is_set uid mark = mark == uid

-- the flag of a message has this value
abbrev pub has_flag : ℕ → Bool → Kept → Bool
has_flag flag on kept = if on then flag_of kept.flags flag else not (flag_of kept.flags flag)

-- all letters go to mailboxes that live
abbrev pub are_live : Known → List (List ℕ × List (List ℕ)) → Bool
are_live k letters = list_all (λ (letter : List ℕ × List (List ℕ)). is_mailbox k letter.0) letters
