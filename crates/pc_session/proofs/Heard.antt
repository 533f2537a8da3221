-- What a line asks for, and what is answered to it.
use Rattle.std.proofs.Common.{◌≡◌, ◌⊎◌, inl, inr, ℕ, Bool, true, false, List, Option, None, Some, Result, Ok, Err, refl, sym, subst, MatchBool, length, ◌≤◌, nat_lt, arith}
use Rattle.std.proofs.lemmas.Bool.{false≢true}
use Rattle.std.specs.Result.{is_err}
use Rattle.pc_request.specs.Fault.{fault_of}
use Rattle.std.specs.Io.KnownBytes.{Appends}
use Rattle.pc_base.specs.Stream.{AppendsFront, WritesAll}
use Rattle.pc_base.specs.declared.failure.Failed.{Failed}
use Rattle.pc_reply.specs.Reply.{written_reply}
use Rattle.pc_reply.specs.declared.reply.Reply.{Reply}
use Rattle.pc_request.specs.Request.{IsRequest}
use Rattle.pc_request.specs.declared.request.Request.{Request}
use Rattle.pc_request.specs.declared.request.Request.TheVariants as request
use Rattle.pc_session.specs.Conversation.{Exchange, Leaves, asked}
use Rattle.pc_session.specs.Desks.{Asked, AskedSomewhere, Desks}
use Rattle.pc_session.specs.Talking.{AnswersLine, AsksFor, LineEnds}
use Rattle.pc_session.specs.Turn.{SessionValue}
use Rattle.pc_session.specs.declared.conversing.Cause.{Cause}
use Rattle.pc_session.specs.declared.conversing.Cause.TheVariants.{Left, LinkFault}

-- a line leaves where its request is the one to leave
pub leaves_by : (line : List ℕ) (asking : Request) (answer : Bool) → AsksFor line (Ok asking) → MatchBool answer (asking ≡ request.Logout) (asking ≡ request.Logout → ⊥) → MatchBool answer (Leaves line) (Leaves line → ⊥)
leaves_by line asking true asks is = (asks.0, subst (λ (r : Request). IsRequest r line) is asks.1)
leaves_by line asking false asks isnt = λ leaves. isnt (sym (asks.2 request.Logout leaves.1))

-- a line that is read as a request asks for it and no other
pub asks_for : (line : List ℕ) (asking : Request) → length line ≤ 512 → IsRequest asking line → fault_of line ≡ None → ((one other : Request) (line : List ℕ) → IsRequest one line → IsRequest other line → one ≡ other) → AsksFor line (Ok asking)
asks_for line asking short is none one =
    let not_long : nat_lt 512 (length line) ≡ false = grind (arith, short) in
    (rw (not_long, none) refl, is, λ other also. one other asking line also is)

module _ (desks_told disks_tell : Type 0) (users : List ℕ → Bool) (line : List ℕ) (old : Desks) (s : SessionValue) (reply : Reply) (new : Desks) (after : SessionValue) where
  pub asked_exchange : (asking : Request) → AsksFor line (Ok asking) → AskedSomewhere disks_tell users asking s reply after → (desks_told → Asked disks_tell asking old s reply new after) → Exchange desks_told disks_tell users line old s reply new after
  asked_exchange asking asks somewhere at = asked {asking = asking} asks.0 asks.1 somewhere at

  -- the reply was written, or not whole, and the line asks to leave or doesn't
  module _ (written written' : Option (List ℕ)) (exchange : Exchange desks_told disks_tell users line old s reply new after) where
    answered_line : (result : Option Cause) → LineEnds line (written_reply reply) written result written' → AnswersLine desks_told disks_tell users line old s written result new after written'
    answered_line result ends = record { reply = reply; exchange = exchange; ends = ends }

    module _ (wrote : Result Unit Failed) (content : WritesAll written written' wrote (written_reply reply)) where
      whole : is_err wrote ≡ false → Appends written written' (written_reply reply)
      whole h = by_result wrote content h
        where
          by_result : (wrote : Result Unit Failed) → WritesAll written written' wrote (written_reply reply) → is_err wrote ≡ false → Appends written written' (written_reply reply)
          by_result (Ok done) content h = content
          by_result (Err failed) content h = absurd (false≢true (sym h))

      front : is_err wrote ≡ true → AppendsFront written written' (written_reply reply)
      front h = by_result wrote content h
        where
          by_result : (wrote : Result Unit Failed) → WritesAll written written' wrote (written_reply reply) → is_err wrote ≡ true → AppendsFront written written' (written_reply reply)
          by_result (Ok done) content h = absurd (false≢true h)
          by_result (Err failed) content h = content

      module _ (leaves : Bool) (is : MatchBool leaves (Leaves line) (Leaves line → ⊥)) where
        pub failed_line : is_err wrote ≡ true → AnswersLine desks_told disks_tell users line old s written (Some LinkFault) new after written'
        failed_line h = answered_line (Some LinkFault) (by_test leaves is, front h)
          where
            by_test : (b : Bool) → MatchBool b (Leaves line) (Leaves line → ⊥) → (Leaves line → ⊥) ⊎ Leaves line
            by_test true is = inr is
            by_test false is = inl is

        pub left_line : is_err wrote ≡ false → leaves ≡ true → AnswersLine desks_told disks_tell users line old s written (Some Left) new after written'
        left_line h e = answered_line (Some Left) (subst (λ (b : Bool). MatchBool b (Leaves line) (Leaves line → ⊥)) e is, whole h)

        pub stayed_line : is_err wrote ≡ false → leaves ≡ false → AnswersLine desks_told disks_tell users line old s written None new after written'
        stayed_line h e = answered_line None (subst (λ (b : Bool). MatchBool b (Leaves line) (Leaves line → ⊥)) e is, whole h)
