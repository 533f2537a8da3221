-- What is written for a reply is the reply.
use Rattle.std.proofs.Common.{◌≡◌, ℕ, ◌^◌, ◌<◌, ◌≤◌, Bool, true, false, ◌&&◌, nat_lt, nat_le, length-append, cond, codes, decimal, inl, IsTrue, List, [], ◌∷◌, ◌++◌, length, map, refl, sym, ap, subst, ◌∙◌, arith, append-nil, Option, Result}
use Rattle.std.specs.Prelude.{MatchBool}
use Rattle.std.specs.List.{list_any, list_all}
use Rattle.std.specs.Io.KnownBytes.{Appends}
use Rattle.std.proofs.lemmas.Bool.{and_parts}
use Rattle.std.proofs.lemmas.Bool.Decides.{nat_tests}
use Rattle.std.proofs.lemmas.Fmt.{length-decimal-le}
use Rattle.pc_base.specs.Name.{is_printed}
use Rattle.pc_base.specs.Recipient.{is_shown}
use Rattle.pc_base.specs.Refusal.{head_of, limit_word}
use Rattle.pc_base.specs.Stream.{AppendsFront, WritesAll}
use Rattle.pc_base.specs.declared.failure.Failed.{Failed}
use Rattle.pc_base.specs.declared.refusal.LimitWord.{LimitWord}
use Rattle.pc_base.specs.declared.refusal.LimitWord.TheVariants as limit
use Rattle.pc_base.specs.declared.refusal.Refusal.{Refusal}
use Rattle.pc_base.specs.declared.refusal.Refusal.TheVariants as refused
use Rattle.pc_wire.specs.Lines.{is_feed, has_feed}
use Rattle.pc_wire.specs.Body.{dot, sent_as, written_line, written_body}
use Rattle.pc_wire.specs.BodyFeed.{all_fit}
use Rattle.pc_wire.proofs.LineLemmas.{open-append}
use Rattle.pc_wire.proofs.BodyLemmas.{sent_as-AllZip, written-spelled}
use Rattle.pc_wire.proofs.WritingLemmas.{AppendsFront-longer, WritesAll-after}
use Rattle.pc_reply.specs.declared.head.Head.{Head}
use Rattle.pc_reply.specs.declared.head.Head.TheVariants as head
use Rattle.pc_reply.specs.declared.reply.Reply.{Reply}
use Rattle.pc_reply.specs.Head.{head_text, HeadFits, RefusalFits, has_list}
use Rattle.pc_reply.specs.Reply.{list_fits, Follows, IsReply, CanBeSent, written_reply}
use Rattle.pc_reply.proofs.TextLemmas.{open-decimal}

printed_open : (byte : ℕ) → is_printed byte ≡ true → is_feed byte ≡ false
printed_open byte fits = grind (arith, nat_tests)

all_printed_open : (bytes : List ℕ) → list_all is_printed bytes ≡ true → has_feed bytes ≡ false
all_printed_open [] all = refl
all_printed_open (byte ∷ bytes) all =
    let parts = and_parts (is_printed byte) (list_all is_printed bytes) all in
    rw (printed_open byte parts.0, all_printed_open bytes parts.1) refl

shown_open : (shown : List ℕ) → IsTrue (is_shown shown) → has_feed shown ≡ false
shown_open shown fits = all_printed_open shown (and_parts _ (list_all is_printed shown) fits).1

length-shown : (shown : List ℕ) → IsTrue (is_shown shown) → length shown ≤ 64
length-shown shown fits =
    let sizes = and_parts (nat_lt 0 (length shown) && nat_le (length shown) 64) (list_all is_printed shown) fits in
    let few = and_parts (nat_lt 0 (length shown)) (nat_le (length shown) 64) sizes.0 in
    grind (arith, nat_tests)

limit_open : (limit : LimitWord) → has_feed (limit_word limit) ≡ false
limit_open limit.Sessions = refl
limit_open _ = refl

open-head_of : (refusal : Refusal) → RefusalFits refusal → has_feed (head_of refusal) ≡ false
unfolding head_of
open-head_of (refused.Superseded number) fits = open-decimal number fits
open-head_of (refused.UnknownRecipient shown) fits = shown_open shown fits
open-head_of (refused.LimitReached limit) fits = limit_open limit
open-head_of refused.UnknownOperation fits = refl
open-head_of _ fits = refl

pub open-head_text : (head : Head) → HeadFits head → has_feed (head_text head) ≡ false
unfolding head_text
open-head_text (head.Birth birth) fits = open-decimal birth fits
open-head_text (head.Refused refusal) fits = open-head_of refusal fits
open-head_text (head.ChangeMissing number) fits =
    open-append (codes "502 Change " ++ decimal number) (codes " is missing") (open-decimal number fits) refl
open-head_text head.Ok fits = refl
open-head_text _ fits = refl

-- a head is within its limit
short-decimal : (n : ℕ) → n < 2 ^ 64 → length (decimal n) ≤ 20
short-decimal n fits = length-decimal-le 20 n (omega arith) (omega (arith, fits)) fits

short-limit : (limit : LimitWord) → length (limit_word limit) ≤ 13
short-limit limit.Sessions = omega arith
short-limit _ = omega arith

short-head_of : (refusal : Refusal) → RefusalFits refusal → length (head_of refusal) ≤ 512
unfolding head_of
short-head_of (refused.Superseded number) fits = omega (arith, length-append (codes "407 Superseded by session ") (decimal number), short-decimal number fits)
short-head_of (refused.UnknownRecipient shown) fits = omega (arith, length-append (codes "416 Unknown recipient ") shown, length-shown shown fits)
short-head_of (refused.LimitReached limit) fits = omega (arith, length-append (codes "418 Limit reached ") (limit_word limit), short-limit limit)
short-head_of refused.UnknownOperation fits = omega arith
short-head_of _ fits = omega arith

short-head_text : (head : Head) → HeadFits head → length (head_text head) ≤ 512
unfolding head_text
short-head_text (head.Birth birth) fits = omega (arith, length-append (codes "205 Birth ") (decimal birth), short-decimal birth fits)
short-head_text (head.Refused refusal) fits = short-head_of refusal fits
short-head_text (head.ChangeMissing number) fits =
    omega (arith, length-append (codes "502 Change " ++ decimal number) (codes " is missing"), length-append (codes "502 Change ") (decimal number), short-decimal number fits)
short-head_text head.Ok fits = omega arith
short-head_text _ fits = omega arith

-- what is written for a reply, given whether a list follows
written_by : Bool → Reply → List ℕ
written_by b reply = written_line (head_text reply.head) ++ cond b (written_body reply.lines) []

by_list : (b : Bool) (reply : Reply) → has_list reply.head ≡ b → length (head_text reply.head) ≤ 512 → HeadFits reply.head → MatchBool b ((list_any has_feed reply.lines ≡ false) × IsTrue (all_fit 1000 (map sent_as reply.lines)) × IsTrue (list_fits reply.lines)) (reply.lines ≡ []) → IsReply reply (written_by b reply)
unfolding written_by
by_list true reply is short fits lines =
    let text = head_text reply.head in
    let sent = map sent_as reply.lines in
    let follows : Follows reply (sent ++ dot ∷ []) = rw is (sent, (refl, sent_as-AllZip reply.lines, lines.1, lines.2)) in
    (text ∷ (sent ++ dot ∷ []), ((written_line text, (written_body reply.lines, (refl, (open-head_text reply.head fits, inl refl), written-spelled reply.lines lines.0))), (text, (sent ++ dot ∷ [], (refl, (refl, fits), short, follows)))))
by_list false reply is short fits lines =
    let text = head_text reply.head in
    let follows : Follows reply [] = rw is (lines, refl) in
    (text ∷ [], ((written_line text, ([], (refl, (open-head_text reply.head fits, inl refl), refl))), (text, ([], (refl, (refl, fits), short, follows)))))

pub written_is_reply : (reply : Reply) → CanBeSent reply → IsReply reply (written_reply reply)
unfolding written_by
written_is_reply reply can =
    by_list (has_list reply.head) reply refl (short-head_text reply.head can.head) can.head can.lines

-- the parts of what is written
pub written_without : (reply : Reply) → has_list reply.head ≡ false → written_line (head_text reply.head) ≡ written_reply reply
written_without reply is = rw is (sym (append-nil (written_line (head_text reply.head))))

pub written_with : (reply : Reply) → has_list reply.head ≡ true → written_line (head_text reply.head) ++ written_body reply.lines ≡ written_reply reply
written_with reply is = rw is refl

-- the head isn't written whole
pub head_stops : (reply : Reply) (text : List ℕ) (old new : Option (List ℕ)) → text ≡ head_text reply.head → AppendsFront old new (written_line text) → AppendsFront old new (written_reply reply)
head_stops reply text old new is front =
    AppendsFront-longer old new (written_line (head_text reply.head)) _ (subst (λ (bytes : List ℕ). AppendsFront old new (written_line bytes)) is front)

-- the head alone is written
pub head_ends : {T : Type 0} (reply : Reply) (text : List ℕ) (old new : Option (List ℕ)) (result : Result T Failed) → has_list reply.head ≡ false → text ≡ head_text reply.head → WritesAll old new result (written_line text) → WritesAll old new result (written_reply reply)
head_ends reply text old new result none is writes =
    subst (λ (bytes : List ℕ). WritesAll old new result bytes) (ap written_line is ∙ written_without reply none) writes

-- the list is written behind it
pub list_ends : {T : Type 0} (reply : Reply) (text : List ℕ) (old middle new : Option (List ℕ)) (result : Result T Failed) → has_list reply.head ≡ true → text ≡ head_text reply.head → Appends old middle (written_line text) → WritesAll middle new result (written_body reply.lines) → WritesAll old new result (written_reply reply)
list_ends reply text old middle new result some is first rest =
    let whole = WritesAll-after old middle new result (written_line text) (written_body reply.lines) first rest in
    subst (λ (bytes : List ℕ). WritesAll old new result bytes) (ap (λ bytes. written_line bytes ++ written_body reply.lines) is ∙ written_with reply some) whole
