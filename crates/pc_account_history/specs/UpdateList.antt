-- What a client has still to be told of a mailbox.
use Rattle.std.specs.Prelude.{◌≡◌, ℕ, Bool, false, ◌||◌, ◌⊎◌, ◌↔◌, List, [], ◌∷◌, Option, None, Some, is_none, if◌then◌else◌}
use Rattle.pc_account_history.specs.declared.kept.Listed.{Listed}
use Rattle.pc_account_history.specs.Effect.{begins, forgets}
use Rattle.pc_account_history.specs.Known.{stamps}
use Rattle.pc_account_history.specs.History.{History, start, ◌▸◌, known, next}
use Rattle.pc_tables.specs.Order.{Ordered}
use Rattle.pc_account_history.specs.Legal.{IsListedBefore, HasOtherUid}

-- the number of the last entry, since the client was made, that touched the uid for it
abbrev pub last_touch : History → List ℕ → List ℕ → ℕ → Option ℕ
last_touch (start r number) client mailbox uid = (known (start r number)).listed client mailbox uid
last_touch (h ▸ e) client mailbox uid = if stamps (known h) e client mailbox uid then Some (next h) else (if begins e client then None else last_touch h client mailbox uid)

-- the client has said since then that it took the change; a base keeps no stamp of what was taken
abbrev pub is_taken : History → List ℕ → List ℕ → ℕ → Bool
is_taken (start r number) client mailbox uid = is_none ((known (start r number)).listed client mailbox uid)
is_taken (h ▸ e) client mailbox uid = if stamps (known h) e client mailbox uid then false else (if begins e client then false else forgets e client mailbox uid || is_taken h client mailbox uid)

-- the change is on the list
abbrev pub IsOn : Listed → List Listed → Type 0
IsOn listed [] = ⊥
IsOn listed (first ∷ list) = (first ≡ listed) ⊎ IsOn listed list

-- the update list of a client in a mailbox: by stamp and then uid, each uid at most once,
-- and a uid with a stamp exactly where that was its last touch and the client hasn't taken it since
pub record IsListFor (h : History) (client mailbox : List ℕ) (list : List Listed) : Type 0 where
  pub in_order : Ordered IsListedBefore list
  pub distinct : Ordered HasOtherUid list
  pub members : (listed : Listed) → IsOn listed list ↔ ((last_touch h client mailbox listed.uid ≡ Some listed.stamp) × (is_taken h client mailbox listed.uid ≡ false))
