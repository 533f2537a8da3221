-- How a wish comes to its outcome.
use Rattle.std.proofs.Common.{◌≡◌, ℕ, Bool, false, List, [], ◌∷◌, ◌++◌, Option, None, Some, Result, Ok, Err, if◌then◌else◌, inl, refl, sym, ap, ◌∙◌, subst}
use Rattle.pc_base.specs.declared.refusal.Refusal.{Refusal}
use Rattle.pc_base.specs.declared.refusal.Refusal.TheVariants.{JournalFull}
use Rattle.pc_base.specs.declared.ask_fault.AskFault.{AskFault}
use Rattle.pc_base.specs.declared.ask_fault.AskFault.TheVariants as ask
use Rattle.pc_base.specs.AskFault.{Tells as Answers}
use Rattle.pc_account_history.specs.declared.entry.Entry.{Entry}
use Rattle.pc_reply.specs.declared.head.Head.TheVariants as head
use Rattle.pc_session.specs.declared.answered.Answered.{Answered}
use Rattle.pc_session.specs.declared.answered.Failure.{Failure}
use Rattle.pc_session.specs.declared.answered.Failure.TheVariants.{Refused, Memory, Device, Missing}
use Rattle.pc_session.specs.declared.answered.Move.TheVariants.{Stays}
use Rattle.pc_session.specs.declared.receipts.Receipt.{Receipt}
use Rattle.pc_session.specs.declared.state.SessionState.{SessionState}
use Rattle.pc_session.specs.Answering.{Comes, Makes, failure_of, moved}
use Rattle.pc_session.specs.Desk.{DeskState, Same, SameHistory, has_room}
use Rattle.pc_session.specs.Receipts.{receipt_of}
use Rattle.pc_session.specs.Repository.{Outcome, carried, plain, refused}
use Rattle.pc_session.specs.Turn.{Broke, Unmade}

-- ---- a desk that is as it was

pub Same-refl : (d : DeskState) → Same d d
Same-refl d = record { history = refl; doubt = refl; broken = refl; state = refl; drawn = refl; latest = λ client. refl }

-- nothing was made where no history and no session has changed
pub Unmade-same : (o : Outcome) (old new : DeskState) → SameHistory old new → Unmade o old new
Unmade-same o old new same = record { history = same.history; doubt = same.doubt; sessions = inl (same.drawn, same.latest) }

pub Unmade-refl : (o : Outcome) (d : DeskState) → d.doubt ≡ None → Unmade o d d
Unmade-refl o d doubt = record { history = refl; doubt = doubt; sessions = inl (refl, λ client. refl) }

-- ---- a wish

-- what a plan told is the plan
planned-is : (plan : Result (Option Entry) Refusal) (told : Option Entry) → Answers plan (Ok told) → Ok told ≡ plan
planned-is (Ok found) told h = ap Ok h
planned-is (Err why) told h = absurd h

-- a wish that isn't planned
pub unplanned-comes : (user : List ℕ) (d : DeskState) (s : SessionState) (receipts : List Receipt) (plan : Result (Option Entry) Refusal) (fault : AskFault) → d.doubt ≡ None → Answers plan (Err fault) → Comes user (carried d.history s plan) d s receipts (Err (failure_of fault)) d receipts
unplanned-comes user d s receipts plan ask.Memory doubt told = (Unmade-refl (carried d.history s plan) d doubt, refl)
unplanned-comes user d s receipts (Ok found) (ask.Refused why) doubt told = absurd told
unplanned-comes user d s receipts (Err refusal) (ask.Refused why) doubt told = (ap (refused s) (sym told), Same-refl d, refl)

-- a wish that holds already
pub held-comes : (user : List ℕ) (d : DeskState) (s : SessionState) (receipts : List Receipt) (plan : Result (Option Entry) Refusal) (answered : Answered) → d.broken ≡ false → d.doubt ≡ None → Answers plan (Ok None) → answered ≡ record { reply = plain head.Ok; heard = plain head.Ok; then = Stays } → Comes user (carried d.history s plan) d s receipts (Ok answered) d receipts
held-comes user d s receipts plan answered whole doubt told is =
    subst (λ (plan : Result (Option Entry) Refusal). Comes user (carried d.history s plan) d s receipts (Ok answered) d receipts) (planned-is plan None told)
    (ap (λ (a : Answered). a.reply) is, ap (λ (a : Answered). a.heard) is, ap (λ (a : Answered). moved s a.then) is, record { history = refl; doubt = doubt; broken = whole; drawn = refl; latest = λ client. refl }, refl)

-- an entry, where the journal has room or hasn't
abbrev made_if : Bool → SessionState → Entry → Outcome
made_if room s entry = if room then record { reply = plain head.Ok; entry = Some entry; draws = None; session = s } else refused s JournalFull

-- the entry of a wish was made
pub made-comes : (user : List ℕ) (old new : DeskState) (s : SessionState) (receipts after : List Receipt) (plan : Result (Option Entry) Refusal) (entry : Entry) (number : ℕ) (answered : Answered) → Answers plan (Ok (Some entry)) → Makes user entry old receipts (Ok number) new after → answered ≡ record { reply = plain head.Ok; heard = plain head.Ok; then = Stays } → Comes user (carried old.history s plan) old s receipts (Ok answered) new after
made-comes user old new s receipts after plan entry number answered told makes is =
    let made = makes.2 in
    subst (λ (plan : Result (Option Entry) Refusal). Comes user (carried old.history s plan) old s receipts (Ok answered) new after) (planned-is plan (Some entry) told)
    (subst (λ (room : Bool). Comes user (made_if room s entry) old s receipts (Ok answered) new after) (sym makes.0)
    (ap (λ (a : Answered). a.reply) is, ap (λ (a : Answered). a.heard) is, ap (λ (a : Answered). moved s a.then) is, record { history = made.history; doubt = made.doubt; broken = made.broken; drawn = made.drawn; latest = made.latest }, makes.3 ∙ ap (λ (n : ℕ). receipts ++ receipt_of user n entry ∷ []) makes.1))

-- or it wasn't
pub unmade-comes : (user : List ℕ) (old new : DeskState) (s : SessionState) (receipts after : List Receipt) (plan : Result (Option Entry) Refusal) (entry : Entry) (failure : Failure) → Answers plan (Ok (Some entry)) → Makes user entry old receipts (Err failure) new after → Comes user (carried old.history s plan) old s receipts (Err failure) new after
unmade-comes user old new s receipts after plan entry failure told makes =
    subst (λ (plan : Result (Option Entry) Refusal). Comes user (carried old.history s plan) old s receipts (Err failure) new after) (planned-is plan (Some entry) told) (by_failure failure makes)
  where
    by_failure : (failure : Failure) → Makes user entry old receipts (Err failure) new after → Comes user (made_if (has_room old.history entry) s entry) old s receipts (Err failure) new after
    by_failure (Refused why) makes = (ap (λ (room : Bool). made_if room s entry) makes.0 ∙ ap (refused s) (sym makes.1), makes.2, makes.3)
    by_failure Memory makes = (Unmade-same (made_if (has_room old.history entry) s entry) old new makes.0, makes.1)
    by_failure Device makes =
        let failed = makes.1 in
        (subst (λ (room : Bool). Broke (made_if room s entry) old new) (sym makes.0) (record { entry = entry; made = refl; history = failed.history; doubt = failed.doubt; broken = failed.broken; drawn = failed.drawn; latest = failed.latest; rose = failed.rose }), makes.2)
    by_failure (Missing number) makes = absurd makes
