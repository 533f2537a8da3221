-- What a session is in, what a request needs of it, and whom the request reaches.
use Rattle.std.specs.Prelude.{ℕ, ◌==◌, List, Option, Some, None, is_none, ◌&&◌, if◌then◌else◌}
use Rattle.std.specs.Option.{option_map_or, option_or}
use Rattle.pc_base.specs.declared.refusal.Refusal.{Refusal}
use Rattle.pc_base.specs.declared.refusal.Refusal.TheVariants.{NotLoggedIn, AlreadyLoggedIn, NoSuchClient, Superseded, NoMailboxSelected, UnknownOperation}
use Rattle.pc_request.specs.declared.request.Request.{Request}
use Rattle.pc_request.specs.declared.request.Request.TheVariants as request
use Rattle.pc_session.specs.declared.access.Latest.{Latest}
use Rattle.pc_session.specs.declared.needs.Needs.{Needs}
use Rattle.pc_session.specs.declared.needs.Needs.TheVariants.{Nothing, NoLogin, Login, Mailbox, NotBuilt}
use Rattle.pc_session.specs.declared.state.Reach.{Reach}
use Rattle.pc_session.specs.declared.state.Reach.TheVariants as reach
use Rattle.pc_session.specs.declared.state.SessionState.{SessionState}
use Rattle.pc_session.specs.declared.state.Who.{Who}
use Rattle.pc_session.specs.declared.state.Who.TheVariants.{Nobody, Console, Client}

-- ---- who speaks

-- the user of a session that is logged in
abbrev pub user_of : Who → Option (List ℕ)
user_of Nobody = None
user_of (Console user) = Some user
user_of (Client user client number) = Some user

-- its client, where it has one
abbrev pub client_of : Who → Option (List ℕ)
client_of Nobody = None
client_of (Console user) = None
client_of (Client user client number) = Some client

-- ---- what is needed

-- what an operation needs of the session
unfoldable pub needs_of : Request → Needs
needs_of (request.SendVersion version) = Nothing
needs_of request.Help = Nothing
needs_of (request.Login user password client create batch) = NoLogin
needs_of request.Logout = Nothing
needs_of (request.SetPassword present next) = Login
needs_of request.ListClients = Login
needs_of (request.CreateClient client) = Login
needs_of (request.DeleteClient client) = Login
needs_of (request.ResetClient client) = Login
needs_of request.ListMailboxes = Login
needs_of (request.CreateMailbox mailbox) = Login
needs_of (request.DeleteMailbox mailbox) = Login
needs_of (request.ResetMailbox mailbox) = Login
needs_of (request.SelectMailbox mailbox) = Login
needs_of (request.SelectBoard board) = NotBuilt
needs_of request.ExpungeMailbox = Mailbox
needs_of (request.ListAddresses mailbox) = NotBuilt
needs_of (request.CreateAddress mailbox address) = NotBuilt
needs_of (request.DeleteAddress address) = NotBuilt
needs_of request.ListSubscriptions = NotBuilt
needs_of request.ListAvailableSubscriptions = NotBuilt
needs_of (request.CreateSubscription board) = NotBuilt
needs_of (request.DeleteSubscription board) = Login
needs_of (request.ResetSubscription board uid) = NotBuilt
needs_of (request.FetchDescriptors low high) = Mailbox
needs_of (request.FetchChangedDescriptors count) = Mailbox
needs_of (request.ResetDescriptors low high) = Mailbox
needs_of (request.FetchHeaders uid) = Mailbox
needs_of (request.FetchMessage uid) = Mailbox
needs_of (request.CopyMessage uid mailbox) = Mailbox
needs_of (request.SetMessageFlag uid flag on) = Mailbox
needs_of request.SendMessage = NotBuilt

-- ---- whom it reaches

-- the account of the user, where one is logged in
abbrev pub reach_user : Option (List ℕ) → Reach
reach_user user = option_map_or reach.Account user reach.Nobody

-- a request that needs a mailbox where none is selected is refused without the account, unless the session has a
-- client: whether that was superseded is told first
abbrev pub reach_box : SessionState → Reach
reach_box s = if is_none s.selected && is_none (client_of s.who) then reach.Nobody else reach_user (user_of s.who)

-- LOGIN reaches the account of the user that it names
abbrev pub reach_named : SessionState → Request → Reach
reach_named s (request.Login user password client create batch) = if is_none (user_of s.who) then reach.Account user else reach.Nobody
reach_named s request.Help = reach.Nobody
reach_named s _ = reach.Nobody

abbrev pub reach_by : Needs → SessionState → Request → Reach
reach_by Nothing s r = reach.Nobody
reach_by NoLogin s r = reach_named s r
reach_by Login s r = reach_user (user_of s.who)
reach_by Mailbox s r = reach_box s
reach_by NotBuilt s r = reach.Nobody

-- whom a request reaches in a session
abbrev pub reach_of : SessionState → Request → Reach
reach_of s r = reach_by (needs_of r) s r

-- ---- refusals of the session's own state

-- without the account: the operation isn't built, somebody is logged in already, nobody is, or no mailbox is selected
abbrev pub refusal_by : Needs → SessionState → Option Refusal
refusal_by Nothing s = None
refusal_by NoLogin s = option_map_or (λ (user : List ℕ). Some AlreadyLoggedIn) (user_of s.who) None
refusal_by Login s = option_map_or (λ (user : List ℕ). None) (user_of s.who) (Some NotLoggedIn)
refusal_by Mailbox s = option_map_or (λ (user : List ℕ). if is_none s.selected then Some NoMailboxSelected else None) (user_of s.who) (Some NotLoggedIn)
refusal_by NotBuilt s = Some UnknownOperation

-- a client that has another latest session is refused with its number, and one that has none isn't there
abbrev pub superseded_by : ℕ → Option Latest → Option Refusal
superseded_by number None = Some NoSuchClient
superseded_by number (Some latest) = if latest.number == number then None else Some (Superseded latest.number)

abbrev pub superseded : (List ℕ → Option Latest) → Who → Option Refusal
superseded latest Nobody = None
superseded latest (Console user) = None
superseded latest (Client user client number) = superseded_by number (latest client)

-- the refusal of a request that reaches the account, by the session's state: that another session took the client
-- over comes before the selection
abbrev pub stale : (List ℕ → Option Latest) → SessionState → Request → Option Refusal
stale latest s r = option_or (superseded latest s.who) (refusal_by (needs_of r) s)
