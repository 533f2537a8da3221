-- What is printed stands behind what was there.
use Rattle.std.proofs.Common.{◌≡◌, ℕ, ◌≤◌, false, List, [], ◌∷◌, ◌++◌, length, get_or, take, Option, Some, MatchOption, Result, Ok, Err, OnOk, refl, sym, ap, ◌∙◌, subst, arith, take-take, length-append}
use Rattle.std.proofs.Math.ListN.{set}
use Rattle.std.proofs.Math.Seq.{take-append_seam}
use Rattle.std.proofs.lemmas.Bool.{false≢true}
use Rattle.std.specs.Option.{option_to_list}
use Rattle.pc_base.specs.declared.failure.Memory.{Memory}
use Rattle.pc_tables.specs.Table.{same}
use Rattle.pc_account_history.specs.declared.entry.Entry.{Entry}
use Rattle.pc_tables.proofs.Table.{same-true}
use Rattle.pc_world.specs.Account.{Account, history_of}
use Rattle.pc_world.specs.Repository.{reply_to}
use Rattle.pc_world.specs.Steps.{Answers, Prints, Step, entries_of, place_in, printed_reply, with_entries}
use Rattle.pc_world.proofs.Users.{entries_at, set_at, user_at}
use Rattle.std.specs.Result.{is_err}
use Rattle.pc_world.specs.Events.{IsEvent}
use Rattle.pc_world.specs.Runs.{Plays}
use Rattle.pc_world.specs.declared.event.Asked.{Asked}
use Rattle.pc_world.specs.declared.event.Event.{Event}
use Rattle.pc_world.specs.declared.event.Event.TheVariants.{Ask}

-- what is in front of more is in front
pub front_stays : (text more text' : List ℕ) → take (length (text ++ more)) text' ≡ text ++ more → take (length text) text' ≡ text
front_stays text more text' front =
    let within : length text ≤ length (text ++ more) = rw (length-append text more) (omega arith) in
    sym (take-take (length text) (length (text ++ more)) text' within) ∙ ap (take (length text)) front ∙ take-append_seam text more

pub Prints-asked : {T : Type 0} (result : Result Unit Memory) (old : List Account) (place : ℕ) (user user' : Account) (name : List ℕ) (asked : Asked) (Adds : List (List ℕ) → T → Type 0) (now : T)
    → Some place ≡ place_in old name
    → user ≡ get_or old place user
    → user'.user ≡ user.user
    → OnOk result (Adds (printed_reply user.user (reply_to (history_of user.entries) asked)) now)
    → OnOk result (user'.entries ≡ user.entries ++ option_to_list (reply_to (history_of user.entries) asked).entry)
    → OnOk result (Prints old (Ask name asked) (set old place user') Adds now)
Prints-asked (Err memory) old place user user' name asked Adds now at is named adds kept = adds
Prints-asked (Ok done) old place user user' name asked Adds now at is named adds kept =
    let reply = reply_to (history_of user.entries) asked in
    let there : user.user ≡ name = same-true user.user name (ap (λ (a : Account). same a.user name) is ∙ user_at name old user place at) in
    let whole : set old place user' ≡ with_entries name (option_to_list reply.entry) old =
    ap (set old place) (user_of user' named kept) ∙ ap (λ (a : Account). set old place (record a { entries = a.entries ++ option_to_list reply.entry })) is
    ∙ sym (set_at name old user place at (option_to_list reply.entry)) in
    let found : entries_of old name ≡ Some user.entries = entries_at name old user place at ∙ ap (λ (a : Account). Some a.entries) (sym is) in
    let step : Step old (Ask name asked) (printed_reply name reply) (set old place user') = subst (λ (o : Option (List Entry)). MatchOption o ⊥ (λ entries. Answers old name (reply_to (history_of entries) asked) (printed_reply name reply) (set old place user'))) (sym found) (refl, whole) in
    (printed_reply name reply, (step, subst (λ (n : List ℕ). Adds (printed_reply n reply) now) there adds))
  where
    user_of : (user' : Account) → user'.user ≡ user.user → user'.entries ≡ user.entries ++ option_to_list (reply_to (history_of user.entries) asked).entry → user' ≡ record user { entries = user.entries ++ option_to_list (reply_to (history_of user.entries) asked).entry }
    user_of user' named kept = λ i. record { user = named i; entries = kept i }

-- an event that printed was played
pub Plays-printed : {T : Type 0} (result : Result Unit Memory) (old new : List Account) (line : List ℕ) (event : Event) (Adds : List (List ℕ) → T → Type 0) (now : T)
    → IsEvent (line ∷ []) event
    → OnOk result (Prints old event new Adds now)
    → is_err result ≡ false
    → (printed : List (List ℕ)) × (Plays old (line ∷ []) printed new × Adds printed now)
Plays-printed (Ok done) old new line event Adds now is prints ok = (prints.0, (record { event = event; is_event = is; step = prints.1.0 }, prints.1.1))
Plays-printed (Err memory) old new line event Adds now is prints ok = absurd (false≢true (sym ok))
