-- What an answer looks at of a desk.
use Rattle.std.proofs.Common.{◌≡◌, ℕ, List, refl, ◌∙◌}
use Rattle.pc_request.specs.declared.request.Request.{Request}
use Rattle.pc_request.specs.declared.request.Request.TheVariants as request
use Rattle.pc_session.specs.declared.state.SessionState.{SessionState}
use Rattle.pc_session.specs.Desk.{DeskState}
use Rattle.pc_session.specs.Repository.{answer_in_box, answer_of, in_box}

-- a desk with what is looked at of another
abbrev seen_of : DeskState → DeskState → DeskState
seen_of e d = record e { history = d.history; drawn = d.drawn; latest = d.latest }

in_box-same : (d e : DeskState) (s : SessionState) (mailbox : List ℕ) (r : Request) → answer_in_box (seen_of e d) s mailbox r ≡ answer_in_box d s mailbox r
unfolding answer_in_box
in_box-same d e s mailbox request.ExpungeMailbox = refl
in_box-same d e s mailbox (request.FetchDescriptors low high) = refl
in_box-same d e s mailbox (request.FetchChangedDescriptors count) = refl
in_box-same d e s mailbox (request.ResetDescriptors low high) = refl
in_box-same d e s mailbox (request.FetchHeaders uid) = refl
in_box-same d e s mailbox (request.FetchMessage uid) = refl
in_box-same d e s mailbox (request.CopyMessage uid target) = refl
in_box-same d e s mailbox (request.SetMessageFlag uid flag on) = refl
in_box-same d e s mailbox _ = refl

seen-same : (d e : DeskState) (s : SessionState) (r : Request) → answer_of (seen_of e d) s r ≡ answer_of d s r
unfolding answer_of
seen-same d e s (request.Login user password client create batch) = refl
seen-same d e s (request.SetPassword present following) = refl
seen-same d e s request.ListClients = refl
seen-same d e s (request.CreateClient client) = refl
seen-same d e s (request.DeleteClient client) = refl
seen-same d e s (request.ResetClient client) = refl
seen-same d e s request.ListMailboxes = refl
seen-same d e s (request.CreateMailbox mailbox) = refl
seen-same d e s (request.DeleteMailbox mailbox) = refl
seen-same d e s (request.ResetMailbox mailbox) = refl
seen-same d e s (request.SelectMailbox mailbox) = refl
seen-same d e s (request.DeleteSubscription board) = refl
seen-same d e s r = λ i. in_box s (λ (mailbox : List ℕ). in_box-same d e s mailbox r i)

pub answer-same : (d e : DeskState) (s : SessionState) (r : Request) → e.history ≡ d.history → e.drawn ≡ d.drawn → e.latest ≡ d.latest → answer_of e s r ≡ answer_of d s r
answer-same d e s r history drawn latest = (λ i. answer_of (record e { history = history i; drawn = drawn i; latest = latest i }) s r) ∙ seen-same d e s r
