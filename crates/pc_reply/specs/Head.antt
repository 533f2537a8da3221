-- The heads of replies and the lines that they are sent as.
use Rattle.std.specs.Prelude.{◌≡◌, ℕ, ◌^◌, ◌<◌, ⊤, Bool, true, false, List, ◌++◌, codes, decimal, IsTrue}
use Rattle.pc_base.specs.Recipient.{is_shown}
use Rattle.pc_base.specs.Refusal.{head_of}
use Rattle.pc_base.specs.declared.refusal.Refusal.{Refusal}
use Rattle.pc_base.specs.declared.refusal.Refusal.TheVariants as refused
use Rattle.pc_reply.specs.declared.head.Head.{Head}
use Rattle.pc_reply.specs.declared.head.Head.TheVariants as head

-- the text of a head: its number, a space and what it says
unfoldable pub head_text : Head → List ℕ
head_text head.Ok = codes "200 Ok"
head_text head.ListFollows = codes "201 List follows"
head_text head.MessageFollows = codes "202 Message follows"
head_text (head.Birth birth) = codes "205 Birth " ++ decimal birth
head_text head.Ready = codes "220 pcmail DMSP ready"
head_text head.Closing = codes "221 Closing"
head_text head.SendMessage = codes "300 Send message"
head_text (head.Refused refusal) = head_of refusal
head_text head.WantOfMemory = codes "500 Want of memory"
head_text head.DeviceFailed = codes "501 Device failed"
head_text (head.ChangeMissing number) = codes "502 Change " ++ decimal number ++ codes " is missing"

-- a number in a refusal has 64 bits, and an address is as it is shown
abbrev pub RefusalFits : Refusal → Type 0
RefusalFits (refused.Superseded number) = number < 2 ^ 64
RefusalFits (refused.UnknownRecipient shown) = IsTrue (is_shown shown)
RefusalFits _ = ⊤

-- so is it in any head
abbrev pub HeadFits : Head → Type 0
HeadFits (head.Birth birth) = birth < 2 ^ 64
HeadFits (head.Refused refusal) = RefusalFits refusal
HeadFits (head.ChangeMissing number) = number < 2 ^ 64
HeadFits _ = ⊤

-- the line is the head's: just its text
abbrev pub IsHead : Head → List ℕ → Type 0
IsHead head line = (line ≡ head_text head) × HeadFits head

-- lines follow the head
abbrev pub has_list : Head → Bool
has_list head.ListFollows = true
has_list head.MessageFollows = true
has_list _ = false
