-- Replies and the bytes that they are sent as.
use Rattle.std.specs.Prelude.{◌≡◌, ℕ, ◌≤◌, Bool, false, IsTrue, MatchBool, List, [], ◌∷◌, ◌++◌, length, map, if◌then◌else◌}
use Rattle.std.specs.List.{AllZip, list_any}
use Rattle.pc_wire.specs.Lines.{has_feed, AreSpellings}
use Rattle.pc_wire.specs.Body.{dot, Carries, sent_as, written_line, written_body}
use Rattle.pc_wire.specs.BodyFeed.{all_fit, is_within}
use Rattle.pc_reply.specs.declared.reply.Reply.{Reply}
use Rattle.pc_reply.specs.Head.{IsHead, HeadFits, has_list, head_text}

-- at most 32,768 lines, and 4,194,304 bytes with two for the end of each line
abbrev pub list_fits : List (List ℕ) → Bool
list_fits lines = is_within 4194304 32768 lines

-- these lines are sent for a list: each carries one of its lines and has at most 1,000 bytes, and a dot ends them
abbrev pub IsSentFor : List (List ℕ) → List (List ℕ) → Type 0
IsSentFor lines all =
    (sent : List (List ℕ)) × ((all ≡ sent ++ dot ∷ []) × AllZip Carries sent lines × IsTrue (all_fit 1000 sent) × IsTrue (list_fits lines))

-- what follows the head: its list, or nothing
abbrev pub Follows : Reply → List (List ℕ) → Type 0
Follows reply all =
    MatchBool (has_list reply.head) (IsSentFor reply.lines all) ((reply.lines ≡ []) × (all ≡ []))

-- these lines are sent for the reply: a head of at most 512 bytes and what follows it
abbrev pub IsSentAs : Reply → List (List ℕ) → Type 0
IsSentAs reply all =
    (first : List ℕ) × ((others : List (List ℕ)) × ((all ≡ first ∷ others) × IsHead reply.head first × (length first ≤ 512) × Follows reply others))

-- the bytes are the reply: they spell the lines that are sent for it
abbrev pub IsReply : Reply → List ℕ → Type 0
IsReply reply bytes = (lines : List (List ℕ)) × (AreSpellings bytes lines × IsSentAs reply lines)

-- the reply is one that can be sent
pub record CanBeSent (reply : Reply) : Type 0 where
  pub head : HeadFits reply.head
  -- lines without LF, none past 1,000 bytes as it is sent; none at all behind another head
  pub lines : MatchBool (has_list reply.head) ((list_any has_feed reply.lines ≡ false) × IsTrue (all_fit 1000 (map sent_as reply.lines)) × IsTrue (list_fits reply.lines)) (reply.lines ≡ [])

-- what is written for a reply
abbrev pub written_reply : Reply → List ℕ
written_reply reply =
    written_line (head_text reply.head) ++ (if has_list reply.head then written_body reply.lines else [])
