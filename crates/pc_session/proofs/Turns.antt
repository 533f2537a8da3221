-- What happens to a request at a desk, from what each step of it told.
use Rattle.std.proofs.Common.{◌≡◌, ◌≤◌, ℕ, List, [], None, Some, Err, ap, subst}
use Rattle.pc_base.specs.declared.refusal.Refusal.{Refusal}
use Rattle.pc_reply.specs.declared.reply.Reply.{Reply}
use Rattle.pc_request.specs.declared.request.Request.{Request}
use Rattle.pc_session.specs.declared.answered.Failure.{Failure}
use Rattle.pc_session.specs.declared.answered.Failure.TheVariants.{Refused, Memory, Device, Missing}
use Rattle.pc_session.specs.declared.state.Reach.{Reach}
use Rattle.pc_session.specs.declared.state.Reach.TheVariants.{Nobody, Account}
use Rattle.pc_session.specs.Answering.{SeesPass, head_of_failure}
use Rattle.pc_session.specs.Desk.{DeskState}
use Rattle.pc_session.specs.Receipts.{missing}
use Rattle.pc_session.specs.Repository.{answer_of, plain}
use Rattle.pc_session.specs.States.{stale}
use Rattle.pc_session.specs.Turn.{Attended, Keeps, OpensTo, SessionValue, Turn, lost, met, stood, wanted}
use Rattle.pc_session.proofs.Coming.{Same-refl, Unmade-refl}

-- a request that the session's state refuses
pub stood-turn : (tells : Type 0) (user : List ℕ) (request : Request) (d : DeskState) (s after : SessionValue) (reply : Reply) (why : Refusal) → stale d.latest s.state request ≡ Some why → reply ≡ plain (head_of_failure (Refused why)) → Keeps s after → Turn tells user request d s reply d after
stood-turn tells user request d s after reply why refused is keeps = stood refused is (Same-refl d) keeps

-- a request whose pass wasn't seen
pub unseen-attended : (user : List ℕ) (request : Request) (d : DeskState) (s after : SessionValue) (reply : Reply) (failure : Failure) → d.doubt ≡ None → SeesPass (missing user s.receipts d.history) (Err failure) → reply ≡ plain (head_of_failure failure) → Keeps s after → Attended user request d s reply d after
unseen-attended user request d s after reply (Refused why) doubt seen is keeps = absurd seen
unseen-attended user request d s after reply Memory doubt seen is keeps = wanted is (Unmade-refl (answer_of d s.state request) d doubt) keeps
unseen-attended user request d s after reply Device doubt seen is keeps = absurd seen
unseen-attended user request d s after reply (Missing number) doubt seen is keeps = lost seen is (Same-refl d) keeps

-- the user whose account a request reaches
abbrev user_in : Reach → List ℕ
user_in Nobody = []
user_in (Account user) = user

-- a request that was met at the desk of the user that it reaches
pub met-turn : (tells : Type 0) (user named : List ℕ) (request : Request) (old mid new : DeskState) (s after : SessionValue) (reply : Reply) → stale old.latest s.state request ≡ None → OpensTo tells old mid → old.faults ≤ mid.faults → Account named ≡ Account user → Attended named request mid s reply new after → Turn tells user request old s reply new after
met-turn tells user named request old mid new s after reply fresh opened risen is attended = met fresh mid opened risen (subst (λ (u : List ℕ). Attended u request mid s reply new after) (ap user_in is) attended)
