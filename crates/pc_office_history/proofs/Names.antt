-- The names of the office, and what is counted over them.
use Rattle.std.proofs.Common.{◌≡◌, ℕ, suc, ◌+◌, Bool, true, false, cond, ◌&&◌, ◌||◌, ◌⊎◌, nat_lt, List, [], ◌∷◌, ◌++◌, filter, Option, None, Some, is_some, unwrap_or, option_map, MatchOption, refl, sym, ◌∙◌, ap, subst, inl, inr, arith, append-nil, le-ltb, true≢false}
use Rattle.std.specs.Prelude.{⊤}
use Rattle.std.specs.List.{AllByRecursion as Every, list_any, cons_option}
use Rattle.std.specs.Map.{lookup, keys_of}
use Rattle.std.specs.Option.{option_map_or}
use Rattle.std.proofs.lemmas.Bool.{cases_Bool, or_parts, and_parts, not-true, ltb-true}
use Rattle.pc_base.specs.declared.refusal.LimitWord.TheVariants as limit
use Rattle.pc_base.specs.Name.{inbox}
use Rattle.pc_message.specs.Message.{weight_of}
use Rattle.pc_message.specs.declared.limits.TheConstants.{LAST_MAIL}
use Rattle.pc_tables.specs.Table.{same, is_among, total}
use Rattle.pc_tables.specs.Order.{AreDistinct}
use Rattle.pc_tables.proofs.Table.{same-refl, same-true, same-sym, is_among-keys}
use Rattle.pc_tables.proofs.Lists.{Every-weaker, Every-split}
use Rattle.pc_tables.proofs.Totals.{total-append}
use Rattle.pc_tables.proofs.Distinct.{Every-from_lookups}
use Rattle.pc_office_history.specs.declared.kept.Target.{Target}
use Rattle.pc_office_history.specs.declared.entry.OfficeEntry.{OfficeEntry}
use Rattle.pc_office_history.specs.declared.entry.OfficeEntry.TheVariants.{AddUser, AddBoard, TakeAddress, DropAddress, Accept}
use Rattle.pc_office_history.specs.Record.{OfficeRecord, target_of, mail_at}
use Rattle.pc_office_history.specs.Effect.{targets_of}
use Rattle.pc_office_history.specs.Known.{Known, said_by, after_entry}
use Rattle.pc_office_history.specs.History.{History, ◌▹◌, ◌▹▹◌, new_office, known}
use Rattle.pc_office_history.specs.Allowed.{is_allowed, is_user}
use Rattle.pc_office_history.specs.Answers.{is_for, addresses_of}
use Rattle.pc_office_history.specs.Limits.{are_too_many, board_weight, would_pass}
use Rattle.pc_office_history.specs.Step.{record_of}
use Rattle.pc_office_history.specs.Legal.{IsWellFormed, IsLegal}
use Rattle.pc_office_history.specs.Laws.{AreApart, HaveOwnNames, IsReadOff}
use Rattle.pc_office_history.proofs.Mails.{targets-every}
use Rattle.pc_office_history.proofs.Agreement.{is_free-parts, accept-parts}
use Rattle.pc_office_history.proofs.FormedAfter.{owner-found, is_among-push}
use Rattle.pc_office_history.proofs.Histories.{Stands-legal, legal-front}
use Rattle.pc_office_history.proofs.Within.{IsWithin-legal}
use Rattle.pc_office_history.proofs.Waiting.{mail-added}

-- ---- names that are apart

every-among : (one name : List ℕ) (names : List (List ℕ)) → Every (λ other. same one other ≡ false) names → is_among name names ≡ true → same one name ≡ false
every-among one name [] all h = absurd (true≢false (sym h))
every-among one name (other ∷ names) all h = elim (same name other) as (λ b. same name other ≡ b → (b || is_among name names) ≡ true → same one name ≡ false) [
  | true ↦ λ e g. ap (same one) (same-true name other e) ∙ all.0
  | false ↦ λ e g. every-among one name names all.1 g
] refl h

-- a name among the second of two lists isn't among the first
apart-names : (name : List ℕ) (names more : List (List ℕ)) → AreDistinct (names ++ more) → is_among name more ≡ true → is_among name names ≡ false
apart-names name [] more distinct h = refl
apart-names name (other ∷ names) more distinct h =
    let differs = same-sym name other ∙ every-among other name more (Every-split (λ x. same other x ≡ false) names more distinct.0).1 h in
    λ i. differs i || apart-names name names more distinct.1 h i

AreApart-said_by : (r : OfficeRecord) → IsWellFormed r → AreApart (said_by r)
AreApart-said_by r formed = record {
  boards = λ name h. (apart-names name (keys_of r.users) (keys_of r.boards) formed.user_names h, sym (is_among-keys name r.addresses) ∙ apart-names name (keys_of r.addresses) (keys_of r.boards) formed.address_names h);
  addresses = λ name. is_among-keys name r.addresses;
  owners = λ name. owner-found (keys_of r.users) name r.addresses formed.owners;
}

pub AreApart-legal : (h : History) → IsLegal h → AreApart (known h)
AreApart-legal h legal = let stands = Stands-legal h legal in subst AreApart (sym stands.alike) (AreApart-said_by (record_of h) stands.formed)

-- ---- a user's own name

differ : (p : List ℕ → Bool) (name user : List ℕ) → p name ≡ false → p user ≡ true → same name user ≡ false
differ p name user h g = elim (same name user) as (λ b. same name user ≡ b → b ≡ false) [ true ↦ λ e. absurd (true≢false (sym g ∙ sym (ap p (same-true name user e)) ∙ h)) | false ↦ λ e. refl ] refl

own-step : (k : Known) (e : OfficeEntry) → is_allowed k e ≡ true → (user : List ℕ) → is_user k user ≡ true → (is_user (after_entry k e) user ≡ true) × ((after_entry k e).owner user ≡ k.owner user)
own-step k (AddUser made) h user one = (is_among-push user made k.users one, ap (λ b. cond b (Some (record { user = made; mailbox = inbox })) (k.owner user)) (differ (is_user k) made user (is_free-parts k made h).0 one))
own-step k (TakeAddress address owner mailbox) h user one = (one, ap (λ b. cond b (Some (record { user = owner; mailbox = mailbox })) (k.owner user)) (differ (is_user k) address user (is_free-parts k address (and_parts _ _ h).0).0 one))
own-step k (DropAddress address) h user one = (one, ap (λ b. cond b None (k.owner user)) (differ (is_user k) address user (not-true (is_user k address) (and_parts _ _ h).1) one))
own-step k (AddBoard board) h user one = (one, refl)
own-step k _ h user one = (one, refl)

pub own-stays : (h : History) (es : List OfficeEntry) → IsLegal (h ▹▹ es) → (user : List ℕ) → is_user (known h) user ≡ true → (is_user (known (h ▹▹ es)) user ≡ true) × ((known (h ▹▹ es)).owner user ≡ (known h).owner user)
own-stays h [] legal user one = (one, refl)
own-stays h (e ∷ es) legal user one =
    let step = own-step (known h) e (legal-front (h ▹ e) es legal).1 user one in
    let rest = own-stays (h ▹ e) es legal user step.0 in
    (rest.0, rest.1 ∙ step.1)

among-push : (name new : List ℕ) (names : List (List ℕ)) → is_among name (names ++ new ∷ []) ≡ true → (is_among name names ≡ true) ⊎ (same name new ≡ true)
among-push name new [] h = elim (same name new) as (λ b. (b || false) ≡ true → (false ≡ true) ⊎ (b ≡ true)) [ true ↦ λ g. inr refl | false ↦ λ g. absurd (true≢false (sym g)) ] h
among-push name new (other ∷ names) h = elim (same name other) as (λ b. (b || is_among name (names ++ new ∷ [])) ≡ true → ((b || is_among name names) ≡ true) ⊎ (same name new ≡ true)) [ true ↦ λ g. inl refl | false ↦ λ g. among-push name new names g ] h

own-names-step : (k : Known) (e : OfficeEntry) → is_allowed k e ≡ true → HaveOwnNames k → HaveOwnNames (after_entry k e)
own-names-step k (AddUser made) h own user one = elim (among-push user made k.users one) [
  | inl before ↦ (own-step k (AddUser made) h user before).1 ∙ own user before
  | inr new ↦ let e = same-true user made new in rw e (ap (λ b. cond b (Some (record { user = made; mailbox = inbox })) (k.owner made)) (same-refl made))
]
own-names-step k (AddBoard board) h own user one = own user one
own-names-step k (TakeAddress address owner mailbox) h own user one = (own-step k (TakeAddress address owner mailbox) h user one).1 ∙ own user one
own-names-step k (DropAddress address) h own user one = (own-step k (DropAddress address) h user one).1 ∙ own user one
own-names-step k _ h own user one = own user one

own-names : (h : History) (es : List OfficeEntry) → IsLegal (h ▹▹ es) → HaveOwnNames (known h) → HaveOwnNames (known (h ▹▹ es))
own-names h [] legal own = own
own-names h (e ∷ es) legal own = own-names (h ▹ e) es legal (own-names-step (known h) e (legal-front (h ▹ e) es legal).1 own)

pub own-names-kept : HaveOwnNames (known new_office) × ((h : History) (es : List OfficeEntry) → IsLegal (h ▹▹ es) → HaveOwnNames (known h) → HaveOwnNames (known (h ▹▹ es)))
own-names-kept = (λ user h. absurd (true≢false (sym h)), own-names)

-- ---- the limit of what waits

both-ways : (a b : Bool) → (a ≡ true → b ≡ true) → (b ≡ true → a ≡ true) → a ≡ b
both-ways true true f g = refl
both-ways true false f g = sym (f refl)
both-ways false true f g = g refl
both-ways false false f g = refl

any-among : (p : List ℕ → Bool) (name : List ℕ) (names : List (List ℕ)) → is_among name names ≡ true → p name ≡ true → list_any p names ≡ true
any-among p name [] h g = absurd (true≢false (sym h))
any-among p name (other ∷ names) h g = elim (same name other) as (λ b. same name other ≡ b → (b || is_among name names) ≡ true → (p other || list_any p names) ≡ true) [
  | true ↦ λ e f. ap (λ n. p n || list_any p names) (sym (same-true name other e)) ∙ ap (λ b. b || list_any p names) g
  | false ↦ λ e f. elim (p other) as (λ b. (b || list_any p names) ≡ true) [ true ↦ refl | false ↦ any-among p name names f g ]
] refl h

any-target : (p : List ℕ → Bool) (user : List ℕ) (targets : List Target) → is_some (target_of user targets) ≡ true → p user ≡ true → list_any (λ target. p target.user) targets ≡ true
any-target p user [] h g = absurd (true≢false (sym h))
any-target p user (t ∷ ts) h g = elim (same user t.user) as (λ b. same user t.user ≡ b → is_some (cond b (Some t) (target_of user ts)) ≡ true → (p t.user || list_any (λ target. p target.user) ts) ≡ true) [
  | true ↦ λ e f. ap (λ n. p n || list_any (λ target. p target.user) ts) (sym (same-true user t.user e)) ∙ ap (λ b. b || list_any (λ target. p target.user) ts) g
  | false ↦ λ e f. elim (p t.user) as (λ b. (b || list_any (λ target. p target.user) ts) ≡ true) [ true ↦ refl | false ↦ any-target p user ts f g ]
] refl h

-- a test that passes for a user just where it is a target's
any-both : (p q : List ℕ → Bool) (users : List (List ℕ)) (targets : List Target) → Every (λ (target : Target). is_among target.user users ≡ true) targets → list_any q users ≡ false → ((user : List ℕ) → is_some (target_of user targets) ≡ false → p user ≡ q user) → list_any p users ≡ list_any (λ target. p target.user) targets
any-both p q users targets all none f = both-ways (list_any p users) (list_any (λ target. p target.user) targets) (there users none) (back targets all)
  where
    here : (user : List ℕ) → q user ≡ false → p user ≡ true → list_any (λ target. p target.user) targets ≡ true
    here user g h = elim (cases_Bool (is_some (target_of user targets))) [ inl one ↦ any-target p user targets one h | inr other ↦ absurd (true≢false (sym h ∙ f user other ∙ g)) ]

    there : (names : List (List ℕ)) → list_any q names ≡ false → list_any p names ≡ true → list_any (λ target. p target.user) targets ≡ true
    there [] g h = absurd (true≢false (sym h))
    there (name ∷ names) g h = let parts = or_parts (q name) (list_any q names) g in elim (p name) as (λ b. p name ≡ b → (b || list_any p names) ≡ true → list_any (λ target. p target.user) targets ≡ true) [
      | true ↦ λ e i. here name parts.0 e
      | false ↦ λ e i. there names parts.1 i
    ] refl h

    back : (ts : List Target) → Every (λ (target : Target). is_among target.user users ≡ true) ts → list_any (λ target. p target.user) ts ≡ true → list_any p users ≡ true
    back [] g h = absurd (true≢false (sym h))
    back (t ∷ ts) g h = elim (p t.user) as (λ b. p t.user ≡ b → (b || list_any (λ target. p target.user) ts) ≡ true → list_any p users ≡ true) [
      | true ↦ λ e i. any-among p t.user users g.0 e
      | false ↦ λ e i. back ts g.1 i
    ] refl h

or-false : (b : Bool) → (b || false) ≡ b
or-false true = refl
or-false false = refl

absent-target : (found : Option Target) → is_some found ≡ false → found ≡ None
absent-target None h = refl
absent-target (Some t) h = absurd (true≢false h)

pub waiting-of-targets : (h : History) (names message : List (List ℕ)) → IsLegal h → is_allowed (known h) (Accept names message) ≡ true → would_pass (known h) (Accept names message) limit.Waiting ≡ list_any (λ target. are_too_many ((known (h ▹ Accept names message)).waiting target.user)) (targets_of (known h).owner names)
waiting-of-targets h names message legal allowed =
    let k = known h in
    let targets = targets_of k.owner names in
    let within = IsWithin-legal h legal in
    let more = λ (user : List ℕ). are_too_many ((known (h ▹ Accept names message)).waiting user) in
    let room : nat_lt LAST_MAIL (suc k.accepted) ≡ false = le-ltb LAST_MAIL (suc k.accepted) (omega (arith, ltb-true k.accepted LAST_MAIL (accept-parts k names message allowed).3)) in
    let users = targets-every (λ (target : Target). is_among target.user k.users ≡ true) k.owner names (AreApart-legal h legal).owners in
    ap (λ b. list_any more k.users || b) room ∙ or-false (list_any more k.users)
    ∙ any-both more (λ user. are_too_many (k.waiting user)) k.users targets users (or_parts (list_any (λ user. are_too_many (k.waiting user)) k.users) (nat_lt LAST_MAIL k.accepted) within.1.1.1.0).0
    (λ user other. ap are_too_many (mail-added h names message legal user ∙ ap (λ o. k.waiting user ++ cons_option (option_map (mail_at (record { number = suc k.accepted; targets = targets; message = message })) o) []) (absent-target (target_of user targets) other) ∙ append-nil (k.waiting user)))

-- ---- the weight of boards

distinct-second : (names more : List (List ℕ)) → AreDistinct (names ++ more) → AreDistinct more
distinct-second [] more h = h
distinct-second (name ∷ names) more h = distinct-second names more h.1

total-keys : {X : Type 0} (f : List ℕ → ℕ) (g : X → ℕ) (table : List (List ℕ × X)) → Every (λ (entry : List ℕ × X). f entry.0 ≡ g entry.1) table → total f (keys_of table) ≡ total (λ entry. g entry.1) table
total-keys f g [] h = refl
total-keys f g (entry ∷ table) h = λ i. h.0 i + total-keys f g table h.1 i

found-self : {X : Type 0} (found : Option X) (d : X) → MatchOption found ⊤ (λ x. unwrap_or found d ≡ x)
found-self None d = tt
found-self (Some x) d = refl

boards-found : (r : OfficeRecord) → IsWellFormed r → Every (λ (board : List ℕ × List (List (List ℕ))). (said_by r).messages board.0 ≡ board.1) r.boards
boards-found r formed = Every-from_lookups (λ name (messages : List (List (List ℕ))). unwrap_or (lookup (same name) r.boards) [] ≡ messages) r.boards (distinct-second (keys_of r.users) (keys_of r.boards) formed.user_names) (λ name. found-self (lookup (same name) r.boards) [])

boards-counted : (r : OfficeRecord) → IsWellFormed r → board_weight (said_by r) ≡ total (λ board. total weight_of board.1) r.boards
boards-counted r formed =
    total-keys (λ name. total weight_of (unwrap_or (lookup (same name) r.boards) [])) (total weight_of) r.boards
    (Every-weaker (λ (board : List ℕ × List (List (List ℕ))). (said_by r).messages board.0 ≡ board.1) (λ (board : List ℕ × List (List (List ℕ))). total weight_of (unwrap_or (lookup (same board.0) r.boards) []) ≡ total weight_of board.1) (λ board e. ap (total weight_of) e) r.boards (boards-found r formed))

keys-filter : {X : Type 0} (p : List ℕ → Bool) (q : X → Bool) (table : List (List ℕ × X)) → Every (λ (entry : List ℕ × X). p entry.0 ≡ q entry.1) table → filter p (keys_of table) ≡ keys_of (filter (λ entry. q entry.1) table)
keys-filter p q [] h = refl
keys-filter p q (entry ∷ table) h =
    (λ i. cond (h.0 i) (entry.0 ∷ keys-filter p q table h.1 i) (keys-filter p q table h.1 i))
    ∙ elim (q entry.1) as (λ b. cond b (entry.0 ∷ keys_of (filter (λ other. q other.1) table)) (keys_of (filter (λ other. q other.1) table)) ≡ keys_of (cond b (entry ∷ filter (λ other. q other.1) table) (filter (λ other. q other.1) table))) [ true ↦ refl | false ↦ refl ]

found-test : {X : Type 0} (q : X → Bool) (found : Option X) → MatchOption found ⊤ (λ x. option_map_or q found false ≡ q x)
found-test q None = tt
found-test q (Some x) = refl

distinct-first : (names more : List (List ℕ)) → AreDistinct (names ++ more) → AreDistinct names
distinct-first [] more h = tt
distinct-first (name ∷ names) more h = ((Every-split (λ other. same name other ≡ false) names more h.0).0, distinct-first names more h.1)

addresses-read : (r : OfficeRecord) → IsWellFormed r → (user mailbox : List ℕ) → addresses_of (said_by r) user mailbox ≡ keys_of (filter (λ address. same user address.1.user && same mailbox address.1.mailbox) r.addresses)
addresses-read r formed user mailbox =
    let q = λ (target : Target). same user target.user && same mailbox target.mailbox in
    keys-filter (is_for (said_by r) user mailbox) q r.addresses (Every-from_lookups (λ name target. is_for (said_by r) user mailbox name ≡ q target) r.addresses (distinct-first (keys_of r.addresses) (keys_of r.boards) formed.address_names) (λ name. found-test q (lookup (same name) r.addresses)))

found-some : {X : Type 0} (found : Option X) → MatchOption found ⊤ (λ x. found ≡ Some x)
found-some None = tt
found-some (Some x) = refl

pub read-off : (r : OfficeRecord) → IsWellFormed r → IsReadOff r
read-off r formed = record {
  noted = Every-from_lookups (λ name (number : ℕ). unwrap_or (lookup (same name) r.users) 0 ≡ number) r.users (distinct-first (keys_of r.users) (keys_of r.boards) formed.user_names) (λ name. found-self (lookup (same name) r.users) 0);
  owners = Every-from_lookups (λ name (target : Target). lookup (same name) r.addresses ≡ Some target) r.addresses (distinct-first (keys_of r.addresses) (keys_of r.boards) formed.address_names) (λ name. found-some (lookup (same name) r.addresses));
  messages = boards-found r formed;
  weight = boards-counted r formed;
  addresses = addresses-read r formed;
}

-- ---- what a message adds to the boards

is_among-self : (names : List (List ℕ)) (p : List ℕ → Bool) → ((name : List ℕ) → is_among name names ≡ true → p name ≡ true) → Every (λ name. p name ≡ true) names
is_among-self [] p f = tt
is_among-self (name ∷ names) p f = (f name (ap (λ b. b || is_among name names) (same-refl name)), is_among-self names p (λ other h. f other (elim (same other name) as (λ b. (b || is_among other names) ≡ true) [ true ↦ refl | false ↦ h ])))

weight-step : (old : List (List (List ℕ))) (message : List (List ℕ)) (named : Bool) → total weight_of (old ++ cond named (message ∷ []) []) ≡ total weight_of old + cond named (weight_of message) 0
weight-step old message true = total-append weight_of old (message ∷ []) ∙ (let one : total weight_of (message ∷ []) ≡ weight_of message = omega arith in ap (λ n. total weight_of old + n) one)
weight-step old message false = total-append weight_of old []

module _ (messages : List ℕ → List (List (List ℕ))) (names message all : List (List ℕ)) where
  abbrev new_weight : List ℕ → ℕ
  new_weight board = total weight_of (messages board ++ cond (is_among board names && is_among board all) (message ∷ []) [])

  weights-added : (boards : List (List ℕ)) → Every (λ board. is_among board all ≡ true) boards → total new_weight boards ≡ total (λ board. total weight_of (messages board)) boards + total (λ _. weight_of message) (filter (λ board. is_among board names) boards)
  weights-added [] h = refl
  weights-added (board ∷ boards) h =
      let step : new_weight board ≡ total weight_of (messages board) + cond (is_among board names) (weight_of message) 0 = ap (λ b. total weight_of (messages board ++ cond (is_among board names && b) (message ∷ []) [])) h.0 ∙ ap (λ b. total weight_of (messages board ++ cond b (message ∷ []) [])) (and-true (is_among board names)) ∙ weight-step (messages board) message (is_among board names) in
      let rest = weights-added boards h.1 in
      elim (is_among board names) as (λ b. new_weight board ≡ total weight_of (messages board) + cond b (weight_of message) 0 → new_weight board + total new_weight boards ≡ (total weight_of (messages board) + total (λ board. total weight_of (messages board)) boards) + total (λ _. weight_of message) (cond b (board ∷ filter (λ board. is_among board names) boards) (filter (λ board. is_among board names) boards))) [
        | true ↦ λ e. omega (arith, e, rest)
        | false ↦ λ e. omega (arith, e, rest)
      ] step
    where
      and-true : (b : Bool) → (b && true) ≡ b
      and-true true = refl
      and-true false = refl

pub weight-added : (k : Known) (names message : List (List ℕ)) → board_weight (after_entry k (Accept names message)) ≡ board_weight k + total (λ _. weight_of message) (filter (λ board. is_among board names) k.boards)
weight-added k names message = weights-added k.messages names message k.boards k.boards (is_among-self k.boards (λ board. is_among board k.boards) (λ name h. h))
