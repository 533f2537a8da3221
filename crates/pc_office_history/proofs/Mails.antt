-- The targets of mails, and the mails of a user.
use Rattle.std.proofs.Common.{◌≡◌, ℕ, ◌<◌, Bool, true, false, cond, not, nat_le, List, [], ◌∷◌, ◌++◌, map, filter, Option, None, Some, unwrap_or, option_map, MatchOption, refl, sym, ◌∙◌, ap, subst, inl, inr, lt-ltb, le-ltb, le-leb}
use Rattle.std.specs.Prelude.{⊤}
use Rattle.std.specs.List.{AllByRecursion as Every, filter_map, cons_option}
use Rattle.std.specs.Map.{lookup}
use Rattle.std.specs.Option.{option_map_or}
use Rattle.std.proofs.lemmas.Bool.{cases_lt, lt-leb, not-true}
use Rattle.std.proofs.lemmas.List.Elements.{filter_map-append}
use Rattle.pc_message.specs.declared.lists.Mail.{Mail}
use Rattle.pc_tables.specs.Table.{same}
use Rattle.pc_tables.specs.Order.{Ordered}
use Rattle.pc_tables.proofs.Table.{same-true, same-sym}
use Rattle.pc_tables.proofs.Booleans.{cond_same}
use Rattle.pc_tables.proofs.Lists.{Every-weaker, filter-agree, filter-true, Every-passes}
use Rattle.pc_tables.proofs.Order.{Ordered-filter}
use Rattle.pc_office_history.specs.declared.kept.Target.{Target}
use Rattle.pc_office_history.specs.declared.kept.KeptMail.{KeptMail}
use Rattle.pc_office_history.specs.Record.{target_of, mail_at, mail_for, mails_for}
use Rattle.pc_office_history.specs.Effect.{other_targets, targets_of}
use Rattle.pc_office_history.specs.Known.{is_past}
use Rattle.pc_office_history.specs.Step.{is_awaited, still_waiting, pulled_by}
use Rattle.pc_office_history.specs.Legal.{HasOtherUser, IsUnpulled}

-- ---- targets of other users

others-step : (other user : List ℕ) (t : Target) (rest : List Target) (found : Option Target) (a b : Bool) → same other t.user ≡ a → same user t.user ≡ b → target_of user rest ≡ cond (same other user) None found → target_of user (cond (not a) (t ∷ rest) rest) ≡ cond (same other user) None (cond b (Some t) found)
others-step other user t rest found true true h g ih = let f : same other user ≡ true = ap (same other) (same-true user t.user g) ∙ h in rw (ih, f)
others-step other user t rest found true false h g ih = ih
others-step other user t rest found false true h g ih = let f : same other user ≡ false = ap (same other) (same-true user t.user g) ∙ h in rw (g, f)
others-step other user t rest found false false h g ih = rw g ih

pub target_of-others : (other user : List ℕ) (targets : List Target) → target_of user (other_targets other targets) ≡ cond (same other user) None (target_of user targets)
target_of-others other user [] = cond_same (same other user) None
target_of-others other user (t ∷ ts) = others-step other user t (other_targets other ts) (target_of user ts) (same other t.user) (same user t.user) refl refl (target_of-others other user ts)

-- ---- the targets of names

first-step : (user : List ℕ) (found : Option Target) (targets rest : List Target) → target_of user targets ≡ target_of user rest → target_of user (option_map_or (λ t. t ∷ other_targets t.user targets) found targets) ≡ target_of user (cons_option found rest)
first-step user None targets rest h = h
first-step user (Some t) targets rest h = elim (same user t.user) as (λ b. same user t.user ≡ b → cond b (Some t) (target_of user (other_targets t.user targets)) ≡ cond b (Some t) (target_of user rest)) [
  | true ↦ λ e. refl
  | false ↦ λ e. target_of-others t.user user targets ∙ ap (λ b. cond b None (target_of user targets)) (same-sym t.user user ∙ e) ∙ h
] refl

-- a user's target is that of the first of the names that is one of its addresses
pub first-target : (user : List ℕ) (owner : List ℕ → Option Target) (names : List (List ℕ)) → target_of user (targets_of owner names) ≡ target_of user (filter_map owner names)
first-target user owner [] = refl
first-target user owner (name ∷ names) = first-step user (owner name) (targets_of owner names) (filter_map owner names) (first-target user owner names)

apart-step : (found : Option Target) (targets : List Target) → Ordered HasOtherUser targets → Ordered HasOtherUser (option_map_or (λ t. t ∷ other_targets t.user targets) found targets)
apart-step None targets h = h
apart-step (Some t) targets h = (
  Every-weaker (λ (o : Target). not (same t.user o.user) ≡ true) (HasOtherUser t) (λ o g. not-true (same t.user o.user) g) (other_targets t.user targets) (Every-passes (λ (o : Target). not (same t.user o.user)) targets),
  Ordered-filter HasOtherUser (λ (o : Target). not (same t.user o.user)) targets h,
)

-- each user is a target once
pub targets-apart : (owner : List ℕ → Option Target) (names : List (List ℕ)) → Ordered HasOtherUser (targets_of owner names)
targets-apart owner [] = tt
targets-apart owner (name ∷ names) = apart-step (owner name) (targets_of owner names) (targets-apart owner names)

every-step : (P : Target → Type 0) (found : Option Target) (targets : List Target) → MatchOption found ⊤ P → Every P targets → Every P (option_map_or (λ t. t ∷ other_targets t.user targets) found targets)
every-step P None targets g h = h
every-step P (Some t) targets g h = (g, Every-others targets h)
  where
    Every-others : (ts : List Target) → Every P ts → Every P (other_targets t.user ts)
    Every-others [] all = tt
    Every-others (o ∷ ts) all = elim (not (same t.user o.user)) as (λ b. Every P (cond b (o ∷ other_targets t.user ts) (other_targets t.user ts))) [ true ↦ (all.0, Every-others ts all.1) | false ↦ Every-others ts all.1 ]

-- what holds of all to whom a name can belong holds of the targets
pub targets-every : (P : Target → Type 0) (owner : List ℕ → Option Target) (names : List (List ℕ)) → ((name : List ℕ) → MatchOption (owner name) ⊤ P) → Every P (targets_of owner names)
targets-every P owner [] f = tt
targets-every P owner (name ∷ names) f = every-step P (owner name) (targets_of owner names) (f name) (targets-every P owner names f)

-- ---- the mails of a user

pub mails_for-append : (user : List ℕ) (kept more : List KeptMail) → mails_for user (kept ++ more) ≡ mails_for user kept ++ mails_for user more
mails_for-append user kept more = filter_map-append (mail_for user) kept more

left-step : (user : List ℕ) (mail : KeptMail) (rest : List KeptMail) (mails : List Mail) (targets : List Target) → mail.targets ≡ targets → mails_for user rest ≡ mails → mails_for user (cond (is_awaited targets) (mail ∷ rest) rest) ≡ cons_option (mail_for user mail) mails
left-step user mail rest mails [] e h = h ∙ sym (ap (λ targets. cons_option (option_map (mail_at mail) (target_of user targets)) mails) e)
left-step user mail rest mails (t ∷ ts) e h = ap (cons_option (mail_for user mail)) h

-- mails that wait for nobody are nobody's
pub mails_for-left : (user : List ℕ) (kept : List KeptMail) → mails_for user (still_waiting kept) ≡ mails_for user kept
mails_for-left user [] = refl
mails_for-left user (mail ∷ kept) = left-step user mail (still_waiting kept) (mails_for user kept) mail.targets refl (mails_for-left user kept)

map-none : (b : Bool) (mail : KeptMail) (found : Option Target) → option_map (mail_at mail) (cond b None found) ≡ cond b None (option_map (mail_at mail) found)
map-none true mail found = refl
map-none false mail found = refl

pulled-one : (user by : List ℕ) (number : ℕ) (mail : KeptMail) → mail_for user (pulled_by by number mail) ≡ cond (nat_le mail.number number) (cond (same by user) None (mail_for user mail)) (mail_for user mail)
pulled-one user by number mail = elim (nat_le mail.number number) as (λ b. option_map (mail_at mail) (target_of user (cond b (other_targets by mail.targets) mail.targets)) ≡ cond b (cond (same by user) None (mail_for user mail)) (mail_for user mail)) [
  | true ↦ ap (option_map (mail_at mail)) (target_of-others by user mail.targets) ∙ map-none (same by user) mail (target_of user mail.targets)
  | false ↦ refl
]

-- what another user pulled
pub pulled-other : (user by : List ℕ) (number : ℕ) (kept : List KeptMail) → same by user ≡ false → mails_for user (map (pulled_by by number) kept) ≡ mails_for user kept
pulled-other user by number [] h = refl
pulled-other user by number (mail ∷ kept) h =
    let here = pulled-one user by number mail ∙ ap (λ b. cond (nat_le mail.number number) (cond b None (mail_for user mail)) (mail_for user mail)) h ∙ sym (cond_same (nat_le mail.number number) (mail_for user mail)) in
    λ i. cons_option (here i) (pulled-other user by number kept h i)

own-step : (number : ℕ) (mail : KeptMail) (found : Option Target) (rest mails : List Mail) → rest ≡ filter (is_past number) mails → cons_option (cond (nat_le mail.number number) None (option_map (mail_at mail) found)) rest ≡ filter (is_past number) (cons_option (option_map (mail_at mail) found) mails)
own-step number mail None rest mails h = elim (nat_le mail.number number) as (λ b. cons_option (cond {A = Option Mail} b None None) rest ≡ filter (is_past number) mails) [ true ↦ h | false ↦ h ]
own-step number mail (Some t) rest mails h =
    elim (cases_lt number mail.number) [
      | inl past ↦ rw (lt-leb mail.number number past, lt-ltb number mail.number past) (ap (λ ms. mail_at mail t ∷ ms) h)
      | inr upto ↦ rw (le-leb mail.number number upto, le-ltb number mail.number upto) h
    ]

-- what the user itself pulled
pub pulled-own : (user by : List ℕ) (number : ℕ) (kept : List KeptMail) → same by user ≡ true → mails_for user (map (pulled_by by number) kept) ≡ filter (is_past number) (mails_for user kept)
pulled-own user by number [] h = refl
pulled-own user by number (mail ∷ kept) h =
    let here = pulled-one user by number mail ∙ ap (λ b. cond (nat_le mail.number number) (cond b None (mail_for user mail)) (mail_for user mail)) h in
    ap (λ found. cons_option found (mails_for user (map (pulled_by by number) kept))) here
    ∙ own-step number mail (target_of user mail.targets) (mails_for user (map (pulled_by by number) kept)) (mails_for user kept) (pulled-own user by number kept h)

-- ---- mails past a number

pub past-all : (number : ℕ) (mails : List Mail) → Every (λ (mail : Mail). number < mail.number) mails → filter (is_past number) mails ≡ mails
past-all number mails h = filter-agree (is_past number) (λ _. true) mails (Every-weaker (λ (mail : Mail). number < mail.number) (λ (mail : Mail). is_past number mail ≡ true) (λ mail g. lt-ltb number mail.number g) mails h) ∙ filter-true mails

found-step : (P : Mail → Type 0) (found : Option Mail) (mails : List Mail) → MatchOption found ⊤ P → Every P mails → Every P (cons_option found mails)
found-step P None mails g h = h
found-step P (Some mail) mails g h = (g, h)

pub Every-mails_for : (P : Mail → Type 0) (user : List ℕ) (kept : List KeptMail) → Every (λ (mail : KeptMail). MatchOption (mail_for user mail) ⊤ P) kept → Every P (mails_for user kept)
Every-mails_for P user [] h = tt
Every-mails_for P user (mail ∷ kept) h = found-step P (mail_for user mail) (mails_for user kept) h.0 (Every-mails_for P user kept h.1)

-- a user for whom a mail waits is one, and hasn't pulled it
pub target-unpulled : (users : List (List ℕ × ℕ)) (number : ℕ) (user : List ℕ) (targets : List Target) → Every (IsUnpulled users number) targets → MatchOption (target_of user targets) ⊤ (λ _. MatchOption (lookup (same user) users) ⊥ (λ noted. noted < number))
target-unpulled users number user [] h = tt
target-unpulled users number user (t ∷ ts) h = elim (same user t.user) as (λ b. same user t.user ≡ b → MatchOption (cond b (Some t) (target_of user ts)) ⊤ (λ _. MatchOption (lookup (same user) users) ⊥ (λ noted. noted < number))) [
  | true ↦ λ e. subst (λ name. MatchOption (lookup (same name) users) ⊥ (λ noted. noted < number)) (sym (same-true user t.user e)) h.0
  | false ↦ λ e. target-unpulled users number user ts h.1
] refl

pub mail-unpulled : (users : List (List ℕ × ℕ)) (user : List ℕ) (mail : KeptMail) → Every (IsUnpulled users mail.number) mail.targets → MatchOption (mail_for user mail) ⊤ (λ waits. MatchOption (lookup (same user) users) ⊥ (λ noted. noted < waits.number))
mail-unpulled users user mail h = found (target_of user mail.targets) (target-unpulled users mail.number user mail.targets h)
  where
    found : (o : Option Target) → MatchOption o ⊤ (λ _. MatchOption (lookup (same user) users) ⊥ (λ noted. noted < mail.number)) → MatchOption (option_map (mail_at mail) o) ⊤ (λ waits. MatchOption (lookup (same user) users) ⊥ (λ noted. noted < waits.number))
    found None g = tt
    found (Some t) g = g

pub noted-below : (found : Option ℕ) (number : ℕ) → MatchOption found ⊥ (λ noted. noted < number) → unwrap_or found 0 < number
noted-below None number h = absurd h
noted-below (Some noted) number h = h
