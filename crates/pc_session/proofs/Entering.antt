-- How a login comes to its outcome: the latest sessions that it leaves, and the client that it makes.
use Rattle.std.proofs.Common.{◌≡◌, ℕ, suc, ◌≤◌, Bool, true, false, List, [], ◌∷◌, ◌++◌, Option, None, Some, option_map, Result, Ok, Err, if◌then◌else◌, ◌⊎◌, inl, inr, refl, sym, ap, ◌∙◌, eq-eqb, ne_eqb, true≢false, arith}
use Rattle.pc_base.specs.Stream.{Rose}
use Rattle.pc_base.specs.declared.refusal.Refusal.{Refusal}
use Rattle.pc_base.specs.declared.refusal.Refusal.TheVariants.{JournalFull, LimitReached}
use Rattle.pc_base.specs.declared.refusal.LimitWord.TheVariants.{Sessions}
use Rattle.pc_account_history.specs.declared.entry.Entry.{Entry}
use Rattle.pc_account_history.specs.History.{History, ◌▸◌, next}
use Rattle.pc_tables.specs.Table.{same}
use Rattle.pc_reply.specs.declared.head.Head.TheVariants as head
use Rattle.pc_session.specs.declared.access.Latest.{Latest}
use Rattle.pc_session.specs.declared.answered.Answered.{Answered}
use Rattle.pc_session.specs.declared.answered.Failure.{Failure}
use Rattle.pc_session.specs.declared.answered.Failure.TheVariants.{Refused, Memory, Device, Missing}
use Rattle.pc_session.specs.declared.answered.Move.TheVariants.{LogsIn}
use Rattle.pc_session.specs.declared.receipts.Receipt.{Receipt}
use Rattle.pc_session.specs.declared.state.SessionState.{SessionState}
use Rattle.pc_session.specs.Answering.{Comes, Draws, Makes, PlansClient, moved}
use Rattle.pc_session.specs.Desk.{Are, DeskState, LAST_SESSION, Released, ended_if, has_room, latest_after, latest_with, latest_without}
use Rattle.pc_session.specs.Receipts.{receipt_of}
use Rattle.pc_session.specs.Repository.{Outcome, enters, makes_client, plain, refused, unless_drawn}

-- ---- latest sessions

-- a client's latest session once it drew this number
abbrev session_of : ℕ → Bool → Bool → Latest
session_of number live batch = record { number = number; live = live; batch = batch }

-- the session that was just drawn ends, and is its client's latest that isn't live
ended-here : (here : Bool) (number : ℕ) (batch : Bool) (old : Option Latest) → (if here then option_map (ended_if number) (if here then Some (session_of number true batch) else old) else (if here then Some (session_of number true batch) else old)) ≡ (if here then Some (session_of number false batch) else old)
ended-here true number batch old = ap (λ (equal : Bool). Some (if equal then session_of number false batch else session_of number true batch)) (eq-eqb number number refl)
ended-here false number batch old = refl

released-latest : (client : List ℕ) (number drawn : ℕ) (batch : Bool) (old made new : List ℕ → Option Latest) → number ≡ suc drawn → Are made (latest_with client (session_of (suc drawn) true batch) old) → Are new (latest_without client number made) → Are new (latest_with client (session_of (suc drawn) false batch) old)
released-latest client number drawn batch old made new is drew ended = λ other.
    ended other
    ∙ (λ i. latest_without client (is i) (λ c. drew c i) other)
    ∙ ended-here (same client other) (suc drawn) batch (old other)

-- the latest sessions after an entry, of sessions that are the same
latest_after-same : (entry : Entry) (now said : List ℕ → Option Latest) → Are now said → Are (latest_after entry now) (latest_after entry said)
latest_after-same entry now said are = λ other. ap (λ (latest : List ℕ → Option Latest). latest_after entry latest other) (λ i client. are client i)

-- ---- the outcome

-- what a login comes to that makes its client, where a number can be drawn
undrawn-is : (d : DeskState) (s : SessionState) (o : Outcome) → (d.drawn ≡ LAST_SESSION → ⊥) → unless_drawn d s o ≡ o
undrawn-is d s o more = ap (λ (last : Bool). if last then refused s (LimitReached Sessions) else o) (ne_eqb d.drawn LAST_SESSION more)

plan-is : (plan : Result (Option Entry) Refusal) (entry : Entry) → PlansClient plan (Ok entry) → plan ≡ Ok (Some entry)
plan-is (Ok (Some planned)) entry h = ap (λ (e : Entry). Ok (Some e)) (sym h)
plan-is (Ok None) entry h = absurd h
plan-is (Err why) entry h = absurd h

-- the client is made, where the journal has room
abbrev entered_if : Bool → DeskState → SessionState → List ℕ → List ℕ → Bool → Entry → Outcome
entered_if room d s user client batch entry = if room then enters d user client batch (next d.history) (Some entry) else refused s JournalFull

room-decides : (d : DeskState) (s : SessionState) (user client : List ℕ) (batch : Bool) (plan : Result (Option Entry) Refusal) (entry : Entry) (room : Bool) → (d.drawn ≡ LAST_SESSION → ⊥) → PlansClient plan (Ok entry) → room ≡ has_room d.history entry → unless_drawn d s (makes_client d s user client batch plan) ≡ entered_if room d s user client batch entry
room-decides d s user client batch plan entry room more planned is =
    undrawn-is d s (makes_client d s user client batch plan) more
    ∙ ap (makes_client d s user client batch) (plan-is plan entry planned)
    ∙ ap (λ (room : Bool). entered_if room d s user client batch entry) (sym is)

-- the journal has no room for its client
pub full-is : (d : DeskState) (s : SessionState) (user client : List ℕ) (batch : Bool) (plan : Result (Option Entry) Refusal) (entry : Entry) → (d.drawn ≡ LAST_SESSION → ⊥) → PlansClient plan (Ok entry) → false ≡ has_room d.history entry → unless_drawn d s (makes_client d s user client batch plan) ≡ refused s JournalFull
full-is d s user client batch plan entry more planned full = room-decides d s user client batch plan entry false more planned full

-- or it has
pub enters-is : (d : DeskState) (s : SessionState) (user client : List ℕ) (batch : Bool) (plan : Result (Option Entry) Refusal) (entry : Entry) → (d.drawn ≡ LAST_SESSION → ⊥) → PlansClient plan (Ok entry) → true ≡ has_room d.history entry → unless_drawn d s (makes_client d s user client batch plan) ≡ enters d user client batch (next d.history) (Some entry)
enters-is d s user client batch plan entry more planned room = room-decides d s user client batch plan entry true more planned room

-- a count of faults that rose has risen since before, and still has
rose-around : (old mid made new : ℕ) → old ≤ mid → Rose mid made → made ≤ new → Rose old new
rose-around old mid made new before rose behind = omega arith

-- what is in doubt stays in doubt
still-in-doubt : (entry : Entry) (old new : Option Entry) → new ≡ old → (old ≡ None) ⊎ (old ≡ Some entry) → (new ≡ None) ⊎ (new ≡ Some entry)
still-in-doubt entry old new same (inl none) = inl (same ∙ none)
still-in-doubt entry old new same (inr some) = inr (same ∙ some)

-- ---- the client is made

-- its number is drawn and its entry is made
pub entered-comes : (owner user client : List ℕ) (batch : Bool) (entry : Entry) (s : SessionState) (old mid new : DeskState) (receipts after : List Receipt) (drawn made born : ℕ) (answered : Answered) → born ≡ next old.history → Draws client batch old (Ok drawn) mid → Makes owner entry mid receipts (Ok made) new after → answered ≡ record { reply = plain (head.Birth born); heard = plain (head.Birth born); then = LogsIn user client drawn } → Comes owner (enters old user client batch (next old.history) (Some entry)) old s receipts (Ok answered) new after
entered-comes owner user client batch entry s old mid new receipts after drawn made born answered birth draws makes is =
    let drew = draws.2 in
    let kept = makes.2 in (
      ap (λ (a : Answered). a.reply) is ∙ ap (λ (n : ℕ). plain (head.Birth n)) birth,
      ap (λ (a : Answered). a.heard) is ∙ ap (λ (n : ℕ). plain (head.Birth n)) birth,
      ap (λ (a : Answered). moved s a.then) is ∙ ap (λ (n : ℕ). moved s (LogsIn user client n)) draws.1,
      record {
        history = kept.history ∙ ap (λ (h : History). h ▸ entry) drew.history;
        doubt = kept.doubt;
        broken = kept.broken;
        drawn = kept.drawn ∙ drew.drawn;
        latest = λ other. kept.latest other ∙ latest_after-same entry mid.latest (latest_with client (session_of (suc old.drawn) true batch) old.latest) drew.latest other;
      },
      makes.3 ∙ ap (λ (n : ℕ). receipts ++ receipt_of owner n entry ∷ []) (makes.1 ∙ ap next drew.history),
    )

-- its number is drawn, its entry isn't made, and its session ends
pub released-comes : (owner user client : List ℕ) (batch : Bool) (entry : Entry) (s : SessionState) (old mid made new : DeskState) (receipts after : List Receipt) (drawn : ℕ) (failure : Failure) → true ≡ has_room old.history entry → old.faults ≤ mid.faults → made.faults ≤ new.faults → Draws client batch old (Ok drawn) mid → Makes owner entry mid receipts (Err failure) made after → Released client drawn made new → Comes owner (enters old user client batch (next old.history) (Some entry)) old s receipts (Err failure) new after
released-comes owner user client batch entry s old mid made new receipts after drawn (Refused why) room before behind draws makes released =
    absurd (true≢false (room ∙ ap (λ (h : History). has_room h entry) (sym draws.2.history) ∙ makes.0))
released-comes owner user client batch entry s old mid made new receipts after drawn Memory room before behind draws makes released =
    let drew = draws.2 in
    let unmade = makes.0 in (
      record {
        history = released.history ∙ unmade.history ∙ drew.history;
        doubt = released.doubt ∙ unmade.doubt;
        sessions = inr (refl, released.drawn ∙ unmade.drawn ∙ drew.drawn, released-latest client drawn old.drawn batch old.latest made.latest new.latest draws.1 (λ other. unmade.latest other ∙ drew.latest other) released.latest);
      },
      makes.1,
    )
released-comes owner user client batch entry s old mid made new receipts after drawn Device room before behind draws makes released =
    let drew = draws.2 in
    let failed = makes.1 in (
      record {
        entry = entry;
        made = refl;
        history = released.history ∙ failed.history ∙ drew.history;
        doubt = still-in-doubt entry made.doubt new.doubt released.doubt failed.doubt;
        broken = released.broken ∙ failed.broken;
        drawn = released.drawn ∙ failed.drawn ∙ drew.drawn;
        latest = released-latest client drawn old.drawn batch old.latest made.latest new.latest draws.1 (λ other. failed.latest other ∙ drew.latest other) released.latest;
        rose = rose-around old.faults mid.faults made.faults new.faults before failed.rose behind;
      },
      makes.2,
    )
released-comes owner user client batch entry s old mid made new receipts after drawn (Missing number) room before behind draws makes released = absurd makes
