-- A request of a session at the desk of its user.
use Rattle.std.specs.Prelude.{◌≡◌, ℕ, ◌≤◌, ⊤, List}
use Rattle.pc_reply.specs.declared.reply.Reply.{Reply}
use Rattle.pc_request.specs.declared.request.Request.{Request}
use Rattle.pc_session.specs.declared.state.Reach.{Reach}
use Rattle.pc_session.specs.declared.state.Reach.TheVariants as reach
use Rattle.pc_session.specs.Repository.{Replies, answer_alone}
use Rattle.pc_session.specs.Turn.{Keeps, SessionValue, Turn}
use Rattle.pc_house.specs.Desk.{DeskValue, told_by}

-- it reaches nobody, or this user
abbrev pub ReachesOnly : List ℕ → Reach → Type 0
ReachesOnly user reach.Nobody = ⊤
ReachesOnly user (reach.Account other) = other ≡ user

-- the session answers alone and the desk is as it was; or the desk is asked
abbrev pub AsksDesk : {D : Type 0} → Type 0 → (D → ℕ) → Reach → Request → DeskValue D → SessionValue → Reply → DeskValue D → SessionValue → Type 0
AsksDesk honest faults reach.Nobody request old s reply new after = Replies (answer_alone s.state request) reply × Keeps s after × (new ≡ old)
AsksDesk honest faults (reach.Account user) request old s reply new after = Turn honest old.user request (told_by faults old) s reply (told_by faults new) after × (faults old.store.disk ≤ faults new.store.disk)
