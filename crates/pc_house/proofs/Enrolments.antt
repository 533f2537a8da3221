-- What becomes of a user who is enrolled.
use Rattle.std.proofs.Common.{◌≡◌, ℕ, ◌+◌, ◌<◌, ◌≤◌, ◌^◌, Bool, true, false, ◌||◌, List, [], ◌∷◌, ◌++◌, Option, None, Some, Result, Ok, Err, OnOk, if◌then◌else◌, refl, sym, ap, subst, ◌∙◌, inl, inr, ◌⊎◌, arith}
use Rattle.std.specs.Option.{option_map_or}
use Rattle.pc_base.specs.declared.refusal.LimitWord.{LimitWord}
use Rattle.pc_base.specs.declared.refusal.Refusal.{Refusal}
use Rattle.pc_base.specs.declared.refusal.Refusal.TheVariants.{LimitReached, MailboxExists}
use Rattle.pc_account_history.specs.Allowed.{is_mailbox}
use Rattle.pc_account_history.specs.declared.entry.Entry.{Entry}
use Rattle.pc_account_history.specs.declared.entry.Entry.TheVariants.{MakeMailbox, Password}
use Rattle.pc_account_history.specs.History.{History, ◌▸◌, known}
use Rattle.pc_account_history.specs.Limits.{limit_passed}
use Rattle.pc_tables.specs.Table.{same, is_among, other_names}
use Rattle.pc_tables.proofs.Table.{same-refl}
use Rattle.pc_account.specs.Digest.{digest_of}
use Rattle.pc_account.specs.Plan.{planned, within_limits}
use Rattle.pc_base.specs.declared.ask_fault.AskFault.TheVariants as ask
use Rattle.pc_log.specs.Making.{NoneDue, OnlyLastDue}
use Rattle.pc_base.specs.declared.store_fault.StoreFault.{StoreFault}
use Rattle.pc_base.specs.declared.store_fault.StoreFault.TheVariants as store
use Rattle.pc_base.specs.declared.store_fault.StoreFault.TheVariants.{Malformed, NotMade}
use Rattle.pc_store.specs.Opening.{IfDevice, MakesWhereDue, MakingCalls}
use Rattle.pc_base.specs.declared.store_fault.CommitFault.{CommitFault}
use Rattle.pc_base.specs.declared.store_fault.CommitFault.TheVariants.{Full, Device, Memory}
use Rattle.pc_base.specs.Name.{inbox}
use Rattle.pc_base.specs.AskFault.{Tells}
use Rattle.pc_session.specs.Desk.{Commits, DeskState}
use Rattle.pc_session.specs.Repository.{knows}
use Rattle.pc_session.proofs.Coming.{Same-refl}
use Rattle.pc_house.specs.Desk.{FailsAhead}
use Rattle.pc_house.specs.Enrolling.{Carries, IsEnrolled, refused_as, to_know, to_receive}

-- ---- carrying out a wish

pub made_carries : (plan : Result (Option Entry) Refusal) (entry : Entry) (number : ℕ) (old new : DeskState) → Tells plan (Ok (Some entry)) → Commits entry old (Ok number) new → Carries plan old (Ok tt) new
made_carries (Ok planned) entry number old new told commits = subst (λ (plan : Option Entry). Carries (Ok plan) old (Ok tt) new) told (commits.0, commits.2)
made_carries (Err why) entry number old new told commits = absurd told

pub unmade_carries : (plan : Result (Option Entry) Refusal) (entry : Entry) (fault : CommitFault) (old new : DeskState) → Tells plan (Ok (Some entry)) → Commits entry old (Err fault) new → Carries plan old (Err fault) new
unmade_carries (Ok planned) entry fault old new told commits = subst (λ (plan : Option Entry). Carries (Ok plan) old (Err fault) new) told (by_fault fault commits)
  where
    by_fault : (fault : CommitFault) → Commits entry old (Err fault) new → Carries (Ok (Some entry)) old (Err fault) new
    by_fault Full commits = commits
    by_fault Device commits = commits
    by_fault Memory commits = commits
unmade_carries (Err why) entry fault old new told commits = absurd told

pub refused_carries : (plan : Result (Option Entry) Refusal) (why : Refusal) (d : DeskState) (result : Result Unit CommitFault) → Tells plan (Err (ask.Refused why)) → result ≡ refused_as why → Carries plan d result d
refused_carries (Ok planned) why d result told is = absurd told
refused_carries (Err refusal) why d result told is = (is ∙ ap refused_as told, Same-refl d)

-- ---- the password

knows_still : (user password : List ℕ) (h h' : History) → h' ≡ h → knows h user password ≡ true → knows h' user password ≡ true
knows_still user password h h' same_history is = ap (λ (history : History). knows history user password) same_history ∙ is

pub set_knows : (user password : List ℕ) (old mid : DeskState) → Carries (planned (known old.history) (to_know user password)) old (Ok tt) mid → knows mid.history user password ≡ true
set_knows user password old mid carries = by (knows old.history user password) refl carries
  where
    by : (b : Bool) → knows old.history user password ≡ b → Carries (if b then Ok None else Ok (Some (Password (digest_of user password)))) old (Ok tt) mid → knows mid.history user password ≡ true
    by true is carries = knows_still user password old.history mid.history carries.1.history is
    by false is carries = ap (λ (history : History). knows history user password) carries.1.history ∙ same-refl (digest_of user password)

-- ---- the inbox

-- a name is among those that it was put behind
among_behind : (name : List ℕ) (names : List (List ℕ)) → is_among name (names ++ name ∷ []) ≡ true
among_behind name [] = rw same-refl
among_behind name (other ∷ names) = by (same name other) (among_behind name names)
  where
    by : (b : Bool) → is_among name (names ++ name ∷ []) ≡ true → (b || is_among name (names ++ name ∷ [])) ≡ true
    by true rest = refl
    by false rest = rest

received : (user password : List ℕ) (mid new : DeskState) → knows mid.history user password ≡ true → new.history ≡ (mid.history ▸ MakeMailbox inbox) → IsEnrolled user password new.history
received user password mid new knows_it made = subst (IsEnrolled user password) (sym made) (record { has_password = knows_it; has_inbox = among_behind inbox (other_names inbox (known mid.history).live) })

pub received_enrolled : (user password : List ℕ) (mid new : DeskState) → knows mid.history user password ≡ true → Carries (planned (known mid.history) to_receive) mid (Ok tt) new → IsEnrolled user password new.history
received_enrolled user password mid new knows_it carries = by (is_mailbox (known mid.history) inbox) refl carries
  where
    by_limit : (limit : Option LimitWord) → Carries (option_map_or (λ (word : LimitWord). Err (LimitReached word)) limit (Ok (Some (MakeMailbox inbox)))) mid (Ok tt) new → IsEnrolled user password new.history
    by_limit None carries = received user password mid new knows_it carries.1.history
    by_limit (Some word) carries = absurd cc

    by : (b : Bool) → is_mailbox (known mid.history) inbox ≡ b → Carries (option_map_or Err (if b then Some MailboxExists else None) (within_limits (known mid.history) (MakeMailbox inbox))) mid (Ok tt) new → IsEnrolled user password new.history
    by true is carries = subst (IsEnrolled user password) (sym carries.1.history) (record { has_password = knows_it; has_inbox = is })
    by false is carries = by_limit (limit_passed (known mid.history) (MakeMailbox inbox)) carries

-- where the second wish was carried out too
pub both_enrolled : (user password : List ℕ) (old mid new : DeskState) (result : Result Unit CommitFault) → Carries (planned (known old.history) (to_know user password)) old (Ok tt) mid → Carries (planned (known mid.history) to_receive) mid result new → OnOk result (IsEnrolled user password new.history)
both_enrolled user password old mid new (Ok done) first second = received_enrolled user password mid new (set_knows user password old mid first) second
both_enrolled user password old mid new (Err fault) first second = tt

-- ---- a new store

-- where the disk failed, the last of the calls that were made was due to fail, or the next one is, unless too much was read
pub device_ahead : {D : Type 0} (tells_due : Type 0) (moment : D → ℕ) (due : D → ℕ → Type 0) (old new : D) (cause : StoreFault) (area : List ℕ) (taken : ℕ) → taken + 1 < 2 ^ 64 → MakingCalls {T = Unit {0}} (Err cause) area (moment old) (moment new) → (tells_due → MakesWhereDue {T = Unit {0}} (Err cause) (moment old) (moment new) (due old) taken) → IfDevice cause (FailsAhead tells_due moment due old)
device_ahead tells_due moment due old new NotMade area taken few calls fails = tt
device_ahead tells_due moment due old new store.Device area taken few calls fails = λ told. by (fails told)
  where
    by : OnlyLastDue (moment old) (moment new) (due old) ⊎ (NoneDue (moment old) (moment new) (due old) × (due old (moment new) ⊎ (2 ^ 64 ≤ taken + 1))) → (at : ℕ) × ((moment old ≤ at) × due old at)
    by (inl last) = (last.last, (last.later, last.fails))
    by (inr (none, inl next)) = (moment new, (calls.0, next))
    by (inr (none, inr much)) = absurd (omega (arith, few, much))
device_ahead tells_due moment due old new (Malformed place_area place) area taken few calls fails = tt
device_ahead tells_due moment due old new store.Memory area taken few calls fails = tt
