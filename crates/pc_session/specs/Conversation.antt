-- A connection: the requests that its lines spell, and what is written for them.
use Rattle.std.specs.Prelude.{◌≡◌, ◌⊎◌, ℕ, ◌^◌, ◌<◌, ◌≤◌, nat_lt, Bool, false, List, [], ◌∷◌, ◌++◌, length, Option, None, Some, if◌then◌else◌}
use Rattle.std.specs.List.{AllByRecursion}
use Rattle.std.specs.Option.{option_map}
use Rattle.std.specs.Io.KnownBytes.{Appends, Consumes, IsAtEnd}
use Rattle.pc_base.specs.Stream.{AppendsFront}
use Rattle.pc_base.specs.declared.refusal.Refusal.{Refusal}
use Rattle.pc_base.specs.declared.refusal.Refusal.TheVariants as refusal
use Rattle.pc_reply.specs.Reply.{written_reply}
use Rattle.pc_reply.specs.declared.head.Head.TheVariants as head
use Rattle.pc_reply.specs.declared.reply.Reply.{Reply}
use Rattle.pc_request.specs.Fault.{fault_of}
use Rattle.pc_request.specs.Request.{IsRequest}
use Rattle.pc_request.specs.declared.request.Request.{Request}
use Rattle.pc_request.specs.declared.request.Request.TheVariants as request
use Rattle.pc_request.specs.declared.request.RequestFault.{RequestFault}
use Rattle.pc_request.specs.declared.request.RequestFault.TheVariants as fault
use Rattle.pc_wire.specs.Lines.{AreSpellings, has_feed}
use Rattle.pc_session.specs.declared.conversing.Cause.{Cause}
use Rattle.pc_session.specs.declared.conversing.Cause.TheVariants.{Left, End, LinkFault, Long}
use Rattle.pc_session.specs.declared.receipts.Receipt.{Receipt}
use Rattle.pc_session.specs.declared.state.Who.TheVariants as who
use Rattle.pc_session.specs.Desks.{Asked, AskedSomewhere, Desks, SessionEnds}
use Rattle.pc_session.specs.Repository.{plain}
use Rattle.pc_session.specs.Turn.{SessionValue, begun}

-- ---- lines

-- the refusal that tells what is wrong with a request line
abbrev pub refusal_of : RequestFault → Refusal
refusal_of fault.Unknown = refusal.UnknownOperation
refusal_of fault.Arguments = refusal.WrongArguments
refusal_of fault.BadName = refusal.BadName
refusal_of fault.BadFlag = refusal.NoSuchFlag

-- why a line is no request: it has more than 512 bytes, or none is spelled so
abbrev pub refusal_of_line : List ℕ → Option Refusal
refusal_of_line line = if nat_lt 512 (length line) then Some refusal.LineTooLong else option_map refusal_of (fault_of line)

-- the line asks to leave
abbrev pub Leaves : List ℕ → Type 0
Leaves line = (refusal_of_line line ≡ None) × IsRequest request.Logout line

-- ---- what is answered

-- a line is answered: it is refused, and nothing changes; or its request is asked. Where the repository tells its desks,
-- it is asked at them
pub data Exchange (desks_told disks_tell : Type 0) (users : List ℕ → Bool) (line : List ℕ) (old : Desks) (s : SessionValue) (reply : Reply) (new : Desks) (after : SessionValue) : Type 0 where
  refused : {why : Refusal} → refusal_of_line line ≡ Some why → reply ≡ plain (head.Refused why) → new ≡ old → after ≡ s → Exchange desks_told disks_tell users line old s reply new after
  asked : {asking : Request} → refusal_of_line line ≡ None → IsRequest asking line → AskedSomewhere disks_tell users asking s reply after → (desks_told → Asked disks_tell asking old s reply new after) → Exchange desks_told disks_tell users line old s reply new after

-- the lines are answered one after another, with these bytes
abbrev pub Exchanges : (desks_told disks_tell : Type 0) → (List ℕ → Bool) → List (List ℕ) → Desks → SessionValue → List ℕ → Desks → SessionValue → Type 0
Exchanges desks_told disks_tell users [] old s bytes new after = (bytes ≡ []) × (new ≡ old) × (after ≡ s)
Exchanges desks_told disks_tell users (line ∷ lines) old s bytes new after =
    (reply : Reply) × ((others : List ℕ) × ((middle : Desks) × ((behind : SessionValue) × ((bytes ≡ written_reply reply ++ others) × Exchange desks_told disks_tell users line old s reply middle behind × Exchanges desks_told disks_tell users lines middle behind others new after))))

-- ---- a connection

-- the greeting
abbrev pub greeting : List ℕ
greeting = written_reply (plain head.Ready)

-- the session of a connection begins with nobody logged in
abbrev pub at_first : SessionValue
at_first = begun (record { who = who.Nobody; selected = None; shown = [] })

-- the most bytes that are read of a connection
abbrev pub MOST_READ : ℕ
MOST_READ = 2 ^ 30

-- none of the lines asks to leave; or the last one does, and no other
abbrev pub NoneLeaves : List (List ℕ) → Type 0
NoneLeaves lines = AllByRecursion (λ (line : List ℕ). Leaves line → ⊥) lines

pub record LastLeaves (lines : List (List ℕ)) : Type 0 where
  pub others : List (List ℕ)
  pub last : List ℕ
  pub lines_are : lines ≡ others ++ last ∷ []
  pub leaves : Leaves last
  pub stay : NoneLeaves others

-- the bytes spell the lines and go on with a rest
pub record Spells (bytes : List ℕ) (lines : List (List ℕ)) (rest : List ℕ) : Type 0 where
  pub spellings : List ℕ
  pub split : bytes ≡ spellings ++ rest
  pub spelled : AreSpellings spellings lines

-- they spell all lines that they have, and none asks to leave; what follows the last LF is no line
pub record SpellsAll (bytes : List ℕ) (lines : List (List ℕ)) : Type 0 where
  pub rest : List ℕ
  pub spells : Spells bytes lines rest
  pub no_feed : has_feed rest ≡ false
  pub stay : NoneLeaves lines

-- the bytes are whole replies and then one more, of which a front was written
pub record CutShort (bytes : List ℕ) (written written' : Option (List ℕ)) : Type 0 where
  pub before : List ℕ
  pub reply : Reply
  pub split : bytes ≡ before ++ written_reply reply
  pub middle : Option (List ℕ)
  pub whole : Appends written middle before
  pub front : AppendsFront middle written' (written_reply reply)

-- why a connection ended, by what was read of it, the lines that were answered, what is left, and what was to be written
-- for them: the lines up to one that asks to leave were answered; or all lines, and nothing is left; or all lines of the
-- most bytes. Where the link failed, all lines were answered and a read failed; or the last reply was cut short
abbrev pub EndsBy : Cause → List ℕ → List (List ℕ) → Option (List ℕ) → List ℕ → Option (List ℕ) → Option (List ℕ) → Type 0
EndsBy Left read lines left bytes written written' = LastLeaves lines × ((rest : List ℕ) × Spells read lines rest) × Appends written written' bytes
EndsBy End read lines left bytes written written' = SpellsAll read lines × (length read < MOST_READ) × IsAtEnd left × Appends written written' bytes
EndsBy Long read lines left bytes written written' = SpellsAll read lines × (length read ≡ MOST_READ) × Appends written written' bytes
EndsBy LinkFault read lines left bytes written written' =
    (SpellsAll read lines × Appends written written' bytes) ⊎ ((NoneLeaves lines ⊎ LastLeaves lines) × ((rest : List ℕ) × Spells read lines rest) × CutShort bytes written written')

-- what was read of a link and written on it, from the desks before the greeting to the desks and the session behind the
-- last line
pub record Talked (desks_told disks_tell : Type 0) (users : List ℕ → Bool) (old new : Desks) (session : SessionValue) (left left' written written' : Option (List ℕ)) (cause : Cause) : Type 0 where
  -- what was read, the lines that were answered, and what with
  pub read : List ℕ
  pub lines : List (List ℕ)
  pub bytes : List ℕ
  pub consumed : Consumes left left' read
  pub within : length read ≤ MOST_READ
  pub ends : EndsBy cause read lines left' (greeting ++ bytes) written written'
  pub exchanges : Exchanges desks_told disks_tell users lines old at_first bytes new session

-- a whole connection: what is said, and then its session ends
pub record Conversed (desks_told disks_tell : Type 0) (users : List ℕ → Bool) (old new : Desks) (left left' written written' : Option (List ℕ)) (cause : Cause) (receipts : List Receipt) : Type 0 where
  -- the desks and the session behind the last line
  pub desks : Desks
  pub session : SessionValue
  pub talked : Talked desks_told disks_tell users old desks session left left' written written' cause
  pub receipts_are : receipts ≡ session.receipts
  pub ended : desks_told → SessionEnds session.state.who desks new
