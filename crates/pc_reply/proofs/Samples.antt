-- What the definitions give, worked out by hand.
use Rattle.std.proofs.Common.{◌≡◌, ℕ, ◌++◌, [], ◌∷◌, true, false, codes, decimal, refl, inr, lit≤}
use Rattle.std.specs.Str.{bytes_eq}
use Rattle.std.proofs.lemmas.Bool.{false≢true}
use Rattle.pc_wire.specs.LineFeed.{fed}
use Rattle.pc_base.specs.declared.refusal.Refusal.TheVariants as refused
use Rattle.pc_base.specs.declared.refusal.LimitWord.TheVariants as limit
use Rattle.pc_message.specs.declared.descriptor.Change.TheVariants.{Expunged}
use Rattle.pc_reply.specs.declared.head.Head.TheVariants as head
use Rattle.pc_reply.specs.declared.items.Mode.TheVariants.{Batch}
use Rattle.pc_reply.specs.Head.{head_text}
use Rattle.pc_reply.specs.Reply.{IsReply, written_reply}
use Rattle.pc_reply.specs.ReplyFeed.{no_line, begun}
use Rattle.pc_reply.specs.Calls.{feed, next, Calls}
use Rattle.pc_reply.specs.Items.{flag_digits, change_lines, client_text, counted_text}
use Rattle.pc_reply.specs.Lists.{are_apart}
use Rattle.pc_base.specs.Refusal.{head_of}

list_head : head_text head.ListFollows ≡ codes "201 List follows"
unfolding head_text
list_head = refl

limit_head : head_text (head.Refused (refused.LimitReached limit.Uids)) ≡ codes "418 Limit reached uids"
unfolding head_text head_of
limit_head = refl

recipient_head : head_text (head.Refused (refused.UnknownRecipient (codes "eve"))) ≡ codes "416 Unknown recipient eve"
unfolding head_text head_of
recipient_head = refl

birth_head : (n : ℕ) → head_text (head.Birth n) ≡ codes "205 Birth " ++ decimal n
unfolding head_text
birth_head n = refl

missing_head : (n : ℕ) → head_text (head.ChangeMissing n) ≡ codes "502 Change " ++ (decimal n ++ codes " is missing")
unfolding head_text
missing_head n = refl

-- flag 0 comes first
no_flags : flag_digits 16 0 ≡ codes "0000000000000000"
unfolding flag_digits
no_flags = refl

flag_one : flag_digits 16 2 ≡ codes "0100000000000000"
unfolding flag_digits
flag_one = refl

last_flag : flag_digits 16 32769 ≡ codes "1000000000000001"
unfolding flag_digits
last_flag = refl

-- `1 EXPUNGED`
gone : change_lines (Expunged 1) ≡ (decimal 1 ++ codes " EXPUNGED") ∷ []
gone = refl

-- what `200 Ok` is written as
ok_written : written_reply (record { head = head.Ok; lines = [] }) ≡ codes "200 Ok" ++ 13 ∷ 10 ∷ []
unfolding head_text
ok_written = refl

-- a list that is empty, and one with the lines `.`, `..`, `.x` and an empty one
empty_written : written_reply (record { head = head.ListFollows; lines = [] }) ≡ codes "201 List follows" ++ 13 ∷ 10 ∷ 46 ∷ 13 ∷ 10 ∷ []
unfolding head_text
empty_written = refl

dots_written : written_reply (record { head = head.MessageFollows; lines = (46 ∷ []) ∷ (46 ∷ 46 ∷ []) ∷ (46 ∷ 120 ∷ []) ∷ [] ∷ [] }) ≡ codes "202 Message follows" ++ 13 ∷ 10 ∷ 46 ∷ 46 ∷ 13 ∷ 10 ∷ 46 ∷ 46 ∷ 46 ∷ 13 ∷ 10 ∷ 46 ∷ 46 ∷ 120 ∷ 13 ∷ 10 ∷ 13 ∷ 10 ∷ 46 ∷ 13 ∷ 10 ∷ []
unfolding head_text
dots_written = refl

-- a bare LF ends a line too
ok_is_reply : IsReply (record { head = head.Ok; lines = [] }) (codes "200 Ok" ++ 10 ∷ [])
unfolding head_text
ok_is_reply = (codes "200 Ok" ∷ [], ((codes "200 Ok" ++ 10 ∷ [], ([], (refl, (refl, inr (refl, refl)), refl))), (codes "200 Ok", ([], (refl, (refl, tt), lit≤ tt, (refl, refl))))))

-- the mailboxes of a new account with `work`
mailbox_rows : counted_text (codes "work") 0 0 ≡ codes "work" ++ 32 ∷ decimal 0 ++ 32 ∷ decimal 0
mailbox_rows = refl

client_row : client_text (codes "ws1") 3 Batch ≡ codes "ws1" ++ 32 ∷ decimal 3 ++ codes " batch"
client_row = refl

repeated : are_apart bytes_eq (codes "inbox" ∷ codes "work" ∷ codes "inbox" ∷ []) ≡ false
repeated = refl

not_repeated : are_apart bytes_eq (codes "inbox" ∷ codes "work" ∷ []) ≡ true
not_repeated = refl

-- a reply in two pieces, of which the second has bytes of the next reply; these stay
two_pieces : Calls begun (codes "200 Ok" ++ 13 ∷ 10 ∷ codes "221 Closing") (feed (codes "200") ∷ next ∷ feed (codes " Ok" ++ 13 ∷ 10 ∷ codes "221") ∷ []) (record { progress = no_line; place = 0; line = fed 512 (codes "200 Ok" ++ 13 ∷ 10 ∷ []) }) (codes "221 Closing")
two_pieces = (
  record { progress = no_line; place = 0; line = fed 512 (codes "200") },
  (
    3,
    (
      codes " Ok" ++ 13 ∷ 10 ∷ codes "221 Closing",
      (
        refl,
        (record { waits = λ e. absurd (false≢true e); takes = λ _. (refl, refl) }, refl),
        (
          record { progress = no_line; place = 0; line = fed 512 (codes "200") },
          (
            (refl, refl),
            (
              record { progress = no_line; place = 0; line = fed 512 (codes "200 Ok" ++ 13 ∷ 10 ∷ []) },
              (5, (codes " Closing", (refl, (record { waits = λ e. absurd (false≢true e); takes = λ _. (refl, refl) }, refl), (refl, refl)))),
            ),
          ),
        ),
      ),
    ),
  ),
)
