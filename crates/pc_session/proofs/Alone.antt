-- A request that reaches nobody and isn't answered by itself is refused.
use Rattle.std.proofs.Common.{◌≡◌, ℕ, Option, None, Some, refl}
use Rattle.std.specs.Option.{option_map_or, unwrap_or}
use Rattle.pc_base.specs.declared.refusal.Refusal.{Refusal}
use Rattle.pc_base.specs.declared.refusal.Refusal.TheVariants.{UnknownOperation}
use Rattle.pc_reply.specs.declared.head.Head.TheVariants as head
use Rattle.pc_request.specs.declared.request.Request.{Request}
use Rattle.pc_request.specs.declared.request.Request.TheVariants as request
use Rattle.pc_session.specs.Repository.{answer_alone, plain}
use Rattle.pc_session.specs.States.{needs_of, refusal_by}
use Rattle.pc_session.specs.declared.state.SessionState.{SessionState}

-- the refusal, or else that the operation is unknown
told : (why : Option Refusal) → option_map_or (λ (why : Refusal). plain (head.Refused why)) why (plain (head.Refused UnknownOperation)) ≡ plain (head.Refused (unwrap_or why UnknownOperation))
told None = refl
told (Some why) = refl

pub refused-alone : (s : SessionState) (r : Request) → ((version : ℕ) → r ≡ request.SendVersion version → ⊥) → (r ≡ request.Help → ⊥) → (r ≡ request.Logout → ⊥) → answer_alone s r ≡ plain (head.Refused (unwrap_or (refusal_by (needs_of r) s) UnknownOperation))
unfolding answer_alone
refused-alone s (request.SendVersion version) not-version not-help not-logout = absurd (not-version version refl)
refused-alone s request.Help not-version not-help not-logout = absurd (not-help refl)
refused-alone s (request.Login user password client create batch) not-version not-help not-logout = told (refusal_by (needs_of (request.Login user password client create batch)) s)
refused-alone s request.Logout not-version not-help not-logout = absurd (not-logout refl)
refused-alone s (request.SetPassword present next) not-version not-help not-logout = told (refusal_by (needs_of (request.SetPassword present next)) s)
refused-alone s request.ListClients not-version not-help not-logout = told (refusal_by (needs_of request.ListClients) s)
refused-alone s (request.CreateClient client) not-version not-help not-logout = told (refusal_by (needs_of (request.CreateClient client)) s)
refused-alone s (request.DeleteClient client) not-version not-help not-logout = told (refusal_by (needs_of (request.DeleteClient client)) s)
refused-alone s (request.ResetClient client) not-version not-help not-logout = told (refusal_by (needs_of (request.ResetClient client)) s)
refused-alone s request.ListMailboxes not-version not-help not-logout = told (refusal_by (needs_of request.ListMailboxes) s)
refused-alone s (request.CreateMailbox mailbox) not-version not-help not-logout = told (refusal_by (needs_of (request.CreateMailbox mailbox)) s)
refused-alone s (request.DeleteMailbox mailbox) not-version not-help not-logout = told (refusal_by (needs_of (request.DeleteMailbox mailbox)) s)
refused-alone s (request.ResetMailbox mailbox) not-version not-help not-logout = told (refusal_by (needs_of (request.ResetMailbox mailbox)) s)
refused-alone s (request.SelectMailbox mailbox) not-version not-help not-logout = told (refusal_by (needs_of (request.SelectMailbox mailbox)) s)
refused-alone s (request.SelectBoard board) not-version not-help not-logout = told (refusal_by (needs_of (request.SelectBoard board)) s)
refused-alone s request.ExpungeMailbox not-version not-help not-logout = told (refusal_by (needs_of request.ExpungeMailbox) s)
refused-alone s (request.ListAddresses mailbox) not-version not-help not-logout = told (refusal_by (needs_of (request.ListAddresses mailbox)) s)
refused-alone s (request.CreateAddress mailbox address) not-version not-help not-logout = told (refusal_by (needs_of (request.CreateAddress mailbox address)) s)
refused-alone s (request.DeleteAddress address) not-version not-help not-logout = told (refusal_by (needs_of (request.DeleteAddress address)) s)
refused-alone s request.ListSubscriptions not-version not-help not-logout = told (refusal_by (needs_of request.ListSubscriptions) s)
refused-alone s request.ListAvailableSubscriptions not-version not-help not-logout = told (refusal_by (needs_of request.ListAvailableSubscriptions) s)
refused-alone s (request.CreateSubscription board) not-version not-help not-logout = told (refusal_by (needs_of (request.CreateSubscription board)) s)
refused-alone s (request.DeleteSubscription board) not-version not-help not-logout = told (refusal_by (needs_of (request.DeleteSubscription board)) s)
refused-alone s (request.ResetSubscription board uid) not-version not-help not-logout = told (refusal_by (needs_of (request.ResetSubscription board uid)) s)
refused-alone s (request.FetchDescriptors low high) not-version not-help not-logout = told (refusal_by (needs_of (request.FetchDescriptors low high)) s)
refused-alone s (request.FetchChangedDescriptors count) not-version not-help not-logout = told (refusal_by (needs_of (request.FetchChangedDescriptors count)) s)
refused-alone s (request.ResetDescriptors low high) not-version not-help not-logout = told (refusal_by (needs_of (request.ResetDescriptors low high)) s)
refused-alone s (request.FetchHeaders uid) not-version not-help not-logout = told (refusal_by (needs_of (request.FetchHeaders uid)) s)
refused-alone s (request.FetchMessage uid) not-version not-help not-logout = told (refusal_by (needs_of (request.FetchMessage uid)) s)
refused-alone s (request.CopyMessage uid mailbox) not-version not-help not-logout = told (refusal_by (needs_of (request.CopyMessage uid mailbox)) s)
refused-alone s (request.SetMessageFlag uid flag on) not-version not-help not-logout = told (refusal_by (needs_of (request.SetMessageFlag uid flag on)) s)
refused-alone s request.SendMessage not-version not-help not-logout = told (refusal_by (needs_of request.SendMessage) s)
