-- What a wish comes to: its entry, or the first refusal.
use Rattle.std.specs.Prelude.{ℕ, ⊤, Bool, false, not, ◌&&◌, nat_lt, List, length, Option, Result, Ok, Err, if◌then◌else◌}
use Rattle.std.specs.Option.{option_map_or}
use Rattle.std.specs.List.{find}
use Rattle.pc_base.specs.declared.refusal.LimitWord.TheVariants as limit
use Rattle.pc_base.specs.declared.refusal.Refusal.{Refusal}
use Rattle.pc_base.specs.declared.refusal.Refusal.TheVariants.{NoSuchAddress, AddressTaken, UnknownRecipient, LimitReached}
use Rattle.pc_base.specs.Recipient.{shown_of}
use Rattle.pc_message.specs.Recipients.{addresses_of, distinct, unknown_of}
use Rattle.pc_message.specs.declared.addresses.RecipientFault.{RecipientFault}
use Rattle.pc_message.specs.declared.addresses.RecipientFault.TheVariants as recipient
use Rattle.pc_base.specs.declared.ask_fault.AskFault.{AskFault}
use Rattle.pc_base.specs.declared.ask_fault.AskFault.TheVariants as ask
use Rattle.pc_tables.specs.Table.{same}
use Rattle.pc_office_history.specs.declared.entry.OfficeEntry.{OfficeEntry}
use Rattle.pc_office_history.specs.declared.entry.OfficeEntry.TheVariants as entry
use Rattle.pc_office_history.specs.declared.limits.TheConstants.{MOST_RECIPIENTS}
use Rattle.pc_office_history.specs.declared.kept.Target.{Target}
use Rattle.pc_office_history.specs.Known.{Known}
use Rattle.pc_office_history.specs.Allowed.{is_user, is_free, is_recipient}
use Rattle.pc_office_history.specs.Limits.{limit_passed}
use Rattle.pc_office.specs.declared.wish.OfficeWish.{OfficeWish}
use Rattle.pc_office.specs.declared.wish.OfficeWish.TheVariants as wish

-- the entry, unless it passes a limit
abbrev pub within_limits : Known → OfficeEntry → Result OfficeEntry Refusal
within_limits k e = option_map_or (λ limit. Err (LimitReached limit)) (limit_passed k e) (Ok e)

-- what a new name comes to: it is refused where it is a user, a board or an address already
abbrev pub if_free : Known → List ℕ → OfficeEntry → Result OfficeEntry Refusal
if_free k name e = if is_free k name then within_limits k e else Err AddressTaken

-- the address is this user's to give up: it is for the user, and no user's own name
abbrev pub may_give_up : Known → List ℕ → List ℕ → Bool
may_give_up k user address = option_map_or (λ (target : Target). same user target.user) (k.owner address) false && not (is_user k address)

-- the first of the names that is neither an address nor a board
abbrev pub first_stranger : Known → List (List ℕ) → Option (List ℕ)
first_stranger k names = find (λ name. not (is_recipient k name)) names

-- what sending to these names comes to: first too many, then the first that nobody has, then the limits
abbrev pub sent_to_names : Known → List (List ℕ) → List (List ℕ) → Result OfficeEntry Refusal
sent_to_names k message names = if nat_lt MOST_RECIPIENTS (length names) then Err (LimitReached limit.Recipients)
    else option_map_or (λ name. Err (UnknownRecipient (shown_of name))) (first_stranger k names) (within_limits k (entry.Accept names message))

-- what sending a message comes to: before all else an address that is no name is told, and a dash where there is no address at all
abbrev pub sent : Known → List (List ℕ) → Result OfficeEntry Refusal
sent k message = option_map_or (λ address. Err (UnknownRecipient (shown_of address))) (unknown_of (addresses_of message)) (sent_to_names k message (distinct (addresses_of message)))

-- what a wish comes to: first what isn't there or is there already, then the limits, then its entry
abbrev pub planned : Known → OfficeWish → Result OfficeEntry Refusal
planned k (wish.AddUser user) = if_free k user (entry.AddUser user)
planned k (wish.AddBoard board) = if_free k board (entry.AddBoard board)
planned k (wish.TakeAddress address user mailbox) = if is_user k user then if_free k address (entry.TakeAddress address user mailbox) else Err NoSuchAddress
planned k (wish.DropAddress address user) = if may_give_up k user address then Ok (entry.DropAddress address) else Err NoSuchAddress
planned k (wish.Accept message) = sent k message

-- what is answered where the names that a message is for can't be told
abbrev pub fault_of : RecipientFault → AskFault
fault_of (recipient.Unknown shown) = ask.Refused (UnknownRecipient shown)
fault_of recipient.TooMany = ask.Refused (LimitReached limit.Recipients)
fault_of recipient.Memory = ask.Memory

-- a wish that is settled without memory: all but to send
abbrev pub IsAtOnce : OfficeWish → Type 0
IsAtOnce (wish.Accept _) = ⊥
IsAtOnce _ = ⊤
