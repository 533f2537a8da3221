-- What is answered in place of a history is what is answered over it.
use Rattle.std.proofs.Common.{◌≡◌, ◌⊎◌, ℕ, suc, ◌-◌, ◌≤◌, ◌==◌, ◌&&◌, min, Bool, true, false, true≢false, nat_lt, nat_le, List, [], ◌∷◌, length, Option, None, Some, Result, Ok, Err, inl, inr, refl, sym, ap, subst, if◌then◌else◌, arith}
use Rattle.std.specs.Map.{lookup}
use Rattle.std.specs.Option.{option_map_or}
use Rattle.pc_base.specs.declared.refusal.Refusal.{Refusal}
use Rattle.pc_base.specs.declared.refusal.Refusal.TheVariants.{BadUserOrPassword, ClientHasSession, JournalFull, NoSuchClient}
use Rattle.pc_tables.specs.Table.{same}
use Rattle.pc_account_history.specs.Allowed.{is_client}
use Rattle.pc_account_history.specs.declared.entry.Entry.{Entry}
use Rattle.pc_account_history.specs.History.{History, ◌▸◌, ◌▸▸◌, known, next, birth}
use Rattle.pc_account_history.specs.Known.{Known, after_entry}
use Rattle.pc_account_history.specs.Laws.{AnswerAlike, RecordInPlaceOfHistory, folded}
use Rattle.pc_account_spelling.specs.Spelling.{spelled_entry}
use Rattle.pc_account.specs.Answers.{answered}
use Rattle.pc_account.specs.Digest.{digest_of}
use Rattle.pc_account.specs.Plan.{planned}
use Rattle.pc_account.specs.declared.answer.Question.{Question}
use Rattle.pc_account.specs.declared.answer.Question.TheVariants as question
use Rattle.pc_account.specs.declared.wish.Wish.{Wish}
use Rattle.pc_account.specs.declared.wish.Wish.TheVariants as wish
use Rattle.pc_reply.specs.declared.head.Head.TheVariants as head
use Rattle.pc_request.specs.declared.request.Request.{Request}
use Rattle.pc_request.specs.declared.request.Request.TheVariants as request
use Rattle.pc_session.specs.declared.state.Reach.{Reach}
use Rattle.pc_session.specs.declared.state.Reach.TheVariants as reach
use Rattle.pc_session.specs.declared.state.SessionState.{SessionState}
use Rattle.pc_session.specs.Desk.{DeskState, LAST_SESSION, entry_at, has_room, trail_bytes, trail_count}
use Rattle.pc_session.specs.InPlace.{AnswersAlike, StandsIn, WantsRoom, outcome_at, outcome_reaching, over, with_outcome}
use Rattle.pc_session.specs.Laws.{RecordStandsIn, SinceIsKept}
use Rattle.pc_session.specs.Lists.{client_lines}
use Rattle.pc_session.specs.Repository.{Outcome, answer_in_box, answer_of, carried, changes, enters, headed, is_live, knows, listed, logs_in, logs_in_knowing, makes_client, plain, refused, replied, selects, sets_password, takes_away, tells}
use Rattle.pc_session.specs.States.{client_of, reach_of, stale, user_of}
use Rattle.pc_session.specs.Turn.{drawn_after, latest_drawn, latest_made, with_entry}
use Rattle.pc_session.proofs.Kept.{none_ahead}
use Rattle.pc_session.proofs.Looked.{answer-same}

-- ---- what is known, and the room

-- of histories that answer alike the same is known
pub known_alike : (g h : History) → AnswerAlike g h → known g ≡ known h
known_alike g h alike = λ i. record {
  next = alike.number i;
  pulled = alike.pulled i;
  digest = alike.digest i;
  clients = alike.clients i;
  live = alike.live i;
  dropped = alike.dropped i;
  subscriptions = alike.subscriptions i;
  highest = λ mailbox. alike.highest mailbox i;
  kept = λ mailbox uid. alike.kept mailbox uid i;
  listed = λ client mailbox uid. alike.listed client mailbox uid i;
  changes = λ client mailbox. alike.changes client mailbox i;
}

-- with fewer entries and bytes there is no less room
room_stays : (count fewer bytes less number size : ℕ) → fewer ≤ count → less ≤ bytes → (nat_lt 0 (min (65536 - count) (9223372036854775808 - number)) && nat_le size (16777216 - bytes)) ≡ true → (nat_lt 0 (min (65536 - fewer) (9223372036854775808 - number)) && nat_le size (16777216 - less)) ≡ true
room_stays count fewer bytes less number size few little there = grind arith

-- ---- one request

-- what a request comes to in the other place is the same, unless the journal wants room
abbrev EitherAs : History → SessionState → Outcome → Outcome → Type 0
EitherAs h s o other = WantsRoom h s o other ⊎ (other ≡ o)

-- where an entry is made if there is room for it
where_room : (g h : History) (s : SessionState) (entry : Entry) (o p : Outcome) → (has_room g entry ≡ true → has_room h entry ≡ true) → p ≡ o → p.entry ≡ Some entry → EitherAs g s (if has_room g entry then o else refused s JournalFull) (if has_room h entry then p else refused s JournalFull)
where_room g h s entry o p more is made = by (has_room g entry) (has_room h entry) refl more
  where
    by : (b c : Bool) → has_room g entry ≡ b → (b ≡ true → c ≡ true) → EitherAs g s (if b then o else refused s JournalFull) (if c then p else refused s JournalFull)
    by true true there also = inr is
    by true false there also = absurd (true≢false (sym (also refl)))
    by false true there also = inl (record { entry = entry; made = made; no_room = there; told = refl })
    by false false there also = inr refl

-- the desk over another history of which the same is known, with no less room
module _ (d : DeskState) (h : History) (account : known h ≡ known d.history) (more : (entry : Entry) → has_room d.history entry ≡ true → has_room h entry ≡ true) (s : SessionState) where
  abbrev Either : Outcome → Outcome → Type 0
  Either o other = EitherAs d.history s o other

  either_if : (b : Bool) (o p o' p' : Outcome) → Either o p → Either o' p' → Either (if b then o else o') (if b then p else p')
  either_if true o p o' p' this that = this
  either_if false o p o' p' this that = that

  either_found : (found : Option (List ℕ)) (o p : List ℕ → Outcome) (none : Outcome) → ((name : List ℕ) → Either (o name) (p name)) → Either (option_map_or o found none) (option_map_or p found none)
  either_found None o p none each = inr refl
  either_found (Some name) o p none each = each name

  carried_in : (plan : Result (Option Entry) Refusal) → Either (carried d.history s plan) (carried h s plan)
  carried_in (Err why) = inr refl
  carried_in (Ok None) = inr refl
  carried_in (Ok (Some entry)) =
      let made : Outcome = record { reply = plain head.Ok; entry = Some entry; draws = None; session = s } in
      where_room d.history h s entry made made (more entry) refl refl

  changes_in : (w : Wish) → Either (changes d s w) (changes (over h d) s w)
  changes_in w = subst (λ (k : Known). Either (changes d s w) (carried h s (planned k w))) (sym account) (carried_in (planned (known d.history) w))

  takes_away_in : (client : List ℕ) → Either (takes_away d s client) (takes_away (over h d) s client)
  takes_away_in client =
      let gone = wish.DropClient client in
      subst (λ (k : Known). Either (takes_away d s client) (if is_client k client then (if is_live (d.latest client) then refused s ClientHasSession else changes (over h d) s gone) else refused s NoSuchClient)) (sym account)
      (either_if (is_client (known d.history) client) _ _ _ _ (either_if (is_live (d.latest client)) _ _ _ _ (inr refl) (changes_in gone)) (inr refl))

  sets_password_in : (user present following : List ℕ) → Either (sets_password d s user present following) (sets_password (over h d) s user present following)
  sets_password_in user present following =
      let set = wish.Password (digest_of user following) in
      subst (λ (k : Known). Either (sets_password d s user present following) (if option_map_or (same (digest_of user present)) k.digest false then changes (over h d) s set else refused s BadUserOrPassword)) (sym account)
      (either_if (knows d.history user present) _ _ _ _ (changes_in set) (inr refl))

  makes_client_in : (user client : List ℕ) (batch : Bool) (plan : Result (Option Entry) Refusal) → Either (makes_client d s user client batch plan) (makes_client (over h d) s user client batch plan)
  makes_client_in user client batch (Err why) = inr refl
  makes_client_in user client batch (Ok None) = inr refl
  makes_client_in user client batch (Ok (Some entry)) = where_room d.history h s entry (enters d user client batch (next d.history) (Some entry)) (enters (over h d) user client batch (next h) (Some entry)) (more entry) (ap (λ (k : Known). enters d user client batch k.next (Some entry)) account) refl

  logs_in_in : (user client : List ℕ) (create batch : Bool) (born : Option ℕ) → Either (logs_in d s user client create batch born) (logs_in (over h d) s user client create batch born)
  logs_in_in user client create batch (Some born) = inr refl
  logs_in_in user client create batch None =
      let made = wish.MakeClient client in
      let makes = subst (λ (k : Known). Either (makes_client d s user client batch (planned (known d.history) made)) (makes_client (over h d) s user client batch (planned k made))) (sym account) (makes_client_in user client batch (planned (known d.history) made)) in
      either_if create _ _ _ _ (either_if (d.drawn == LAST_SESSION) _ _ _ _ (inr refl) makes) (inr refl)

  logs_in_knowing_in : (user password client : List ℕ) (create batch : Bool) → Either (logs_in_knowing d s user password client create batch) (logs_in_knowing (over h d) s user password client create batch)
  logs_in_knowing_in user password client create batch =
      subst (λ (k : Known). Either (logs_in_knowing d s user password client create batch) (if option_map_or (same (digest_of user password)) k.digest false then logs_in (over h d) s user client create batch (lookup (same client) k.clients) else refused s BadUserOrPassword)) (sym account)
      (either_if (knows d.history user password) _ _ _ _ (logs_in_in user client create batch (birth d.history client)) (inr refl))

  asks_in : (q : Question) → Either (tells s (answered (known d.history) q)) (tells s (answered (known h) q))
  asks_in q = inr (ap (λ (k : Known). tells s (answered k q)) account)

  in_box_in : (mailbox : List ℕ) (r : Request) → Either (answer_in_box d s mailbox r) (answer_in_box (over h d) s mailbox r)
  unfolding answer_in_box
  in_box_in mailbox request.ExpungeMailbox = changes_in (wish.Expunge mailbox)
  in_box_in mailbox (request.FetchDescriptors low high) = asks_in (question.Descriptors mailbox low high)
  in_box_in mailbox (request.FetchChangedDescriptors count) = either_found (client_of s.who) _ _ _ (λ client. asks_in (question.Changed client mailbox count))
  in_box_in mailbox (request.ResetDescriptors low high) = either_found (client_of s.who) _ _ _ (λ client. changes_in (wish.Forget client mailbox low high s.shown))
  in_box_in mailbox (request.FetchHeaders uid) = inr (ap (λ (k : Known). tells s (headed (answered k (question.Letter mailbox uid)))) account)
  in_box_in mailbox (request.FetchMessage uid) = asks_in (question.Letter mailbox uid)
  in_box_in mailbox (request.CopyMessage uid target) = changes_in (wish.Copy mailbox uid target)
  in_box_in mailbox (request.SetMessageFlag uid flag on) = changes_in (wish.Flag mailbox uid flag on)
  in_box_in mailbox _ = inr refl

  answer_in : (r : Request) → Either (answer_of d s r) (answer_of (over h d) s r)
  unfolding answer_of
  answer_in (request.Login user password client create batch) = logs_in_knowing_in user password client create batch
  answer_in (request.SetPassword present following) = either_found (user_of s.who) _ _ _ (λ user. sets_password_in user present following)
  answer_in request.ListClients = inr (ap (λ (k : Known). replied s (listed (client_lines d.latest k.clients))) account)
  answer_in (request.CreateClient client) = changes_in (wish.MakeClient client)
  answer_in (request.DeleteClient client) = takes_away_in client
  answer_in (request.ResetClient client) = changes_in (wish.ResetClient client)
  answer_in request.ListMailboxes = asks_in question.Mailboxes
  answer_in (request.CreateMailbox mailbox) = changes_in (wish.MakeMailbox mailbox)
  answer_in (request.DeleteMailbox mailbox) = changes_in (wish.DropMailbox mailbox)
  answer_in (request.ResetMailbox mailbox) = either_found (client_of s.who) _ _ _ (λ client. changes_in (wish.ResetMailbox client mailbox))
  answer_in (request.SelectMailbox mailbox) = inr (ap (λ (k : Known). selects s mailbox (answered k (question.Alive mailbox))) account)
  answer_in (request.DeleteSubscription board) = changes_in (wish.Unsubscribe board)
  answer_in r = either_found s.selected _ _ _ (λ mailbox. in_box_in mailbox r)

  unless_stale : (why : Option Refusal) (o p : Outcome) → Either o p → Either (option_map_or (refused s) why o) (option_map_or (refused s) why p)
  unless_stale None o p this = this
  unless_stale (Some why) o p this = inr refl

  outcome_in : (to : Reach) (r : Request) → Either (outcome_reaching to d s r) (outcome_reaching to (over h d) s r)
  outcome_in reach.Nobody r = inr refl
  outcome_in (reach.Account user) r = unless_stale (stale d.latest s r) _ _ (answer_in r)

-- ---- whatever is asked

-- more is known alike after an entry
known_with : (g h : History) (entry : Option Entry) → known g ≡ known h → known (with_entry g entry) ≡ known (with_entry h entry)
known_with g h None is = is
known_with g h (Some entry) is = ap (λ (k : Known). after_entry k entry) is

count_with : (g h : History) (entry : Option Entry) → trail_count g ≤ trail_count h → trail_count (with_entry g entry) ≤ trail_count (with_entry h entry)
count_with g h None few = few
count_with g h (Some entry) few = omega (arith, few)

bytes_with : (g h : History) (entry : Option Entry) → trail_bytes g ≤ trail_bytes h → trail_bytes (with_entry g entry) ≤ trail_bytes (with_entry h entry)
bytes_with g h None few = few
bytes_with g h (Some entry) few = omega (arith, few)

module _ (new old : DeskState) (stands : StandsIn new old) where
  more_room : (entry : Entry) → has_room old.history entry ≡ true → has_room new.history entry ≡ true
  more_room entry there =
      let size = length (spelled_entry entry) in
      subst (λ (number : ℕ). (nat_lt 0 (min (65536 - trail_count new.history) (9223372036854775808 - number)) && nat_le size (16777216 - trail_bytes new.history)) ≡ true) (sym (ap (λ (k : Known). k.next) stands.account))
      (room_stays (trail_count old.history) (trail_count new.history) (trail_bytes old.history) (trail_bytes new.history) (next old.history) size stands.entries stands.bytes there)

  seen_in : (s : SessionState) (r : Request) (to : Reach) → outcome_reaching to new s r ≡ outcome_reaching to (over new.history old) s r
  seen_in s r reach.Nobody = refl
  seen_in s r (reach.Account user) = λ i. option_map_or (refused s) (stale (stands.latest i) s r) (answer-same (over new.history old) new s r refl stands.drawn stands.latest i)

  either_at : (one : SessionState × Request) → EitherAs old.history one.0 (outcome_at old one) (outcome_at new one)
  either_at one =
      let to = reach_of one.0 one.1 in
      subst (λ (o : Outcome). EitherAs old.history one.0 (outcome_at old one) o) (sym (seen_in one.0 one.1 to)) (outcome_in old new.history stands.account more_room one.0 to one.1)

  -- after the same outcome the one still stands in for the other
  stands_after : (o p : Outcome) → p ≡ o → StandsIn (with_outcome p new) (with_outcome o old)
  stands_after o p is = subst (λ (p : Outcome). StandsIn (with_outcome p new) (with_outcome o old)) (sym is) (record {
    account = known_with new.history old.history o.entry stands.account;
    drawn = ap (drawn_after o) stands.drawn;
    latest = λ i. latest_made o.entry (latest_drawn o true (record new { drawn = stands.drawn i; latest = stands.latest i }));
    entries = count_with new.history old.history o.entry stands.entries;
    bytes = bytes_with new.history old.history o.entry stands.bytes;
  })

pub stand_in_answers : (old new : DeskState) → StandsIn new old → (asked : List (SessionState × Request)) → AnswersAlike old new asked
stand_in_answers old new stands [] = tt
stand_in_answers old new stands (one ∷ asked) = elim (either_at new old stands one) [
  | inl wants ↦ inl wants
  | inr is ↦ inr (is, stand_in_answers (with_outcome (outcome_at old one) old) (with_outcome (outcome_at new one) new) (stands_after new old stands (outcome_at old one) (outcome_at new one) is) asked)
]

-- ---- a record in place of its history

count_behind : (g h : History) (entries : List Entry) → trail_count g ≤ trail_count h → trail_count (g ▸▸ entries) ≤ trail_count (h ▸▸ entries)
count_behind g h [] few = few
count_behind g h (e ∷ entries) few = count_behind (g ▸ e) (h ▸ e) entries (omega (arith, few))

bytes_behind : (g h : History) (entries : List Entry) → trail_bytes g ≤ trail_bytes h → trail_bytes (g ▸▸ entries) ≤ trail_bytes (h ▸▸ entries)
bytes_behind g h [] few = few
bytes_behind g h (e ∷ entries) few = bytes_behind (g ▸ e) (h ▸ e) entries (omega (arith, few))

pub record_stands_in : RecordInPlaceOfHistory → RecordStandsIn
record_stands_in law h legal entries d = record {
  account = sym (known_alike (h ▸▸ entries) (folded h ▸▸ entries) (law h legal entries).0);
  drawn = refl;
  latest = refl;
  entries = count_behind (folded h) h entries (omega arith);
  bytes = bytes_behind (folded h) h entries (omega arith);
}

entry_behind : (g h : History) (entries : List Entry) (at : ℕ) → next g ≡ next h → entry_at g at ≡ entry_at h at → entry_at (g ▸▸ entries) at ≡ entry_at (h ▸▸ entries) at
entry_behind g h [] at number there = there
entry_behind g h (e ∷ entries) at number there = entry_behind (g ▸ e) (h ▸ e) entries at (ap suc number) (λ i. if at == number i then Some e else there i)

pub since_is_kept : SinceIsKept
since_is_kept h entries receipt since =
    let there = entry_behind (folded h) h entries receipt.number refl (sym (none_ahead h receipt.number since)) in
    ap (λ (found : Option Entry). if option_map_or (λ (entry : Entry). same (spelled_entry entry) receipt.entry) found false then None else Some receipt.number) there
