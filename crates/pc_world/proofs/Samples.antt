-- The definitions at scripts worked out by hand.
use Rattle.std.proofs.Common.{◌≡◌, ℕ, List, [], ◌∷◌, ◌++◌, codes, replicate, refl, subst, lit≤, lit<}
use Rattle.std.specs.Fmt.{digits}
use Rattle.pc_base.specs.Refusal.{head_of}
use Rattle.pc_request.specs.Argument.{IsSpelled}
use Rattle.pc_request.specs.Fault.{kinds_of, fault_of_word}
use Rattle.pc_request.specs.Operation.{operations, word_of}
use Rattle.pc_request.specs.Request.{call_of}
use Rattle.pc_request.specs.declared.request.Request.TheVariants as request
use Rattle.pc_request.specs.declared.request.RequestFault.TheVariants.{BadName}
use Rattle.pc_account_history.specs.declared.entry.Entry.TheVariants.{MakeMailbox}
use Rattle.pc_world.proofs.Chains.{plays_first}
use Rattle.pc_world.specs.Account.{Account}
use Rattle.pc_world.specs.Events.{IsEvent}
use Rattle.pc_world.specs.Repository.{reply_to_request}
use Rattle.pc_world.specs.Runs.{Plays, Chain, GoesOn, IsRun, IsRefused}
use Rattle.pc_world.specs.Steps.{Step, enrolled}
use Rattle.pc_world.specs.declared.event.Asked.TheVariants.{TooLong, Faulty, Read}
use Rattle.pc_world.specs.declared.event.Event.{Event}
use Rattle.pc_world.specs.declared.event.Event.TheVariants.{Silent, User, Ask}

-- which lines are which events
enrols : IsEvent (codes "user  ann sesame " ∷ []) (User (codes "ann") (codes "sesame"))
enrols = (lit≤ tt, refl, (refl, refl, refl))

asks_for_a_mailbox : IsEvent (codes "ask ann CREATE-MAILBOX work" ∷ []) (Ask (codes "ann") (Read (request.CreateMailbox (codes "work"))))
unfolding call_of word_of IsSpelled
asks_for_a_mailbox = (lit≤ tt, refl, (refl, refl, (lit≤ tt, (refl, ((refl, refl), tt)))))

asks_with_a_bad_name : IsEvent (codes "ask ann CREATE-MAILBOX Work" ∷ []) (Ask (codes "ann") (Faulty BadName))
unfolding operations word_of kinds_of fault_of_word
asks_with_a_bad_name = (lit≤ tt, refl, (refl, refl, (lit≤ tt, refl)))

asks_for_a_list : IsEvent (codes "ask ann LIST-MAILBOXES" ∷ []) (Ask (codes "ann") (Read request.ListMailboxes))
unfolding call_of word_of
asks_for_a_list = (lit≤ tt, refl, (refl, refl, (lit≤ tt, (refl, tt))))

nothing_is_silent : IsEvent ([] ∷ []) Silent
nothing_is_silent = (lit≤ tt, refl)

a_comment_is_silent : IsEvent (codes "# ask ann HELP" ∷ []) Silent
a_comment_is_silent = (lit≤ tt, refl)

-- HELP with spaces behind it, of 512 and of 513 bytes
asks_at_length : IsEvent ((codes "ask ann HELP" ++ replicate 508 32) ∷ []) (Ask (codes "ann") (Read request.Help))
unfolding call_of word_of
asks_at_length = (lit≤ tt, refl, (refl, refl, (lit≤ tt, (refl, tt))))

asks_too_long : IsEvent ((codes "ask ann HELP" ++ replicate 509 32) ∷ []) (Ask (codes "ann") TooLong)
asks_too_long = (lit≤ tt, refl, (refl, refl, lit< tt))

-- a user, a mailbox made twice, a bad name, and the list
abbrev script : List ℕ
script = codes "user ann sesame\nask ann CREATE-MAILBOX work\nask ann CREATE-MAILBOX work\nask ann CREATE-MAILBOX Work\nask ann LIST-MAILBOXES\n"

abbrev transcript : List ℕ
transcript = codes "user ann: 200 Ok\nask ann: 200 Ok\nask ann: 410 Mailbox exists\nask ann: 411 Bad name\nask ann: 201 List follows\n  inbox 0 0\n  work 0 0\n"

abbrev events : List (List (List ℕ))
events = (codes "user ann sesame" ∷ []) ∷ (codes "ask ann CREATE-MAILBOX work" ∷ []) ∷ (codes "ask ann CREATE-MAILBOX work" ∷ []) ∷ (codes "ask ann CREATE-MAILBOX Work" ∷ []) ∷ (codes "ask ann LIST-MAILBOXES" ∷ []) ∷ []

abbrev printed : List (List ℕ)
printed = codes "user ann: 200 Ok" ∷ codes "ask ann: 200 Ok" ∷ codes "ask ann: 410 Mailbox exists" ∷ codes "ask ann: 411 Bad name" ∷ codes "ask ann: 201 List follows" ∷ codes "  inbox 0 0" ∷ codes "  work 0 0" ∷ []

-- the world behind its first line, and behind its second
abbrev enrolled_world : List Account
enrolled_world = record { user = codes "ann"; entries = enrolled (codes "ann") (codes "sesame") } ∷ []

abbrev made_world : List Account
made_world = record { user = codes "ann"; entries = enrolled (codes "ann") (codes "sesame") ++ MakeMailbox (codes "work") ∷ [] } ∷ []

plays_user : Plays [] (codes "user ann sesame" ∷ []) (codes "user ann: 200 Ok" ∷ []) enrolled_world
plays_user = record {
  event = User (codes "ann") (codes "sesame");
  is_event = (lit≤ tt, refl, (refl, refl, refl));
  step = (refl, refl);
}

plays_mailbox : Plays enrolled_world (codes "ask ann CREATE-MAILBOX work" ∷ []) (codes "ask ann: 200 Ok" ∷ []) made_world
unfolding reply_to_request
plays_mailbox = record {
  event = Ask (codes "ann") (Read (request.CreateMailbox (codes "work")));
  is_event = asks_for_a_mailbox;
  step = (refl, refl);
}

plays_again : Plays made_world (codes "ask ann CREATE-MAILBOX work" ∷ []) (codes "ask ann: 410 Mailbox exists" ∷ []) made_world
unfolding reply_to_request head_of
plays_again = record {
  event = Ask (codes "ann") (Read (request.CreateMailbox (codes "work")));
  is_event = asks_for_a_mailbox;
  step = (refl, refl);
}

plays_bad_name : Plays made_world (codes "ask ann CREATE-MAILBOX Work" ∷ []) (codes "ask ann: 411 Bad name" ∷ []) made_world
unfolding head_of
plays_bad_name = record {
  event = Ask (codes "ann") (Faulty BadName);
  is_event = asks_with_a_bad_name;
  step = (refl, refl);
}

plays_list : Plays made_world (codes "ask ann LIST-MAILBOXES" ∷ []) (codes "ask ann: 201 List follows" ∷ codes "  inbox 0 0" ∷ codes "  work 0 0" ∷ []) made_world
unfolding reply_to_request digits
plays_list = record {
  event = Ask (codes "ann") (Read request.ListMailboxes);
  is_event = asks_for_a_list;
  step = (refl, refl);
}

chain_of_five : Chain [] events printed made_world
chain_of_five = (
  _,
  (
    _,
    (
      _,
      (
        refl,
        plays_user,
        (
          _,
          (
            _,
            (
              _,
              (
                refl,
                plays_mailbox,
                (
                  _,
                  (
                    _,
                    (
                      _,
                      (
                        refl,
                        plays_again,
                        (
                          _,
                          (
                            _,
                            (
                              _,
                              (
                                refl,
                                plays_bad_name,
                                (_, (_, (_, (refl, plays_list, (refl, refl))))),
                              ),
                            ),
                          ),
                        ),
                      ),
                    ),
                  ),
                ),
              ),
            ),
          ),
        ),
      ),
    ),
  ),
)

five_lines : IsRun script transcript
five_lines = record {
  printed = printed;
  last = made_world;
  run = record { events = events; split = refl; few = lit≤ tt; chain = chain_of_five };
  text = refl;
}

empty_script : IsRun [] []
empty_script = record { printed = []; last = []; run = record { events = []; split = refl; few = lit≤ tt; chain = (refl, refl) }; text = refl }

-- a user that isn't there: the second line is refused
no_such_user : (event : Event) (shown : List (List ℕ)) (new : List Account) → IsEvent (codes "ask bob HELP" ∷ []) event → Step enrolled_world event shown new → ⊥
no_such_user Silent shown new is step = cc is.1
no_such_user (User name password) shown new is step = cc is.2.0
no_such_user (Ask user asked) shown new is step =
    let bob : user ≡ codes "bob" = cc is.2.0 in
    subst (λ (name : List ℕ). Step enrolled_world (Ask name asked) shown new) bob step

stops_at_bob : (rest : List (List ℕ)) → GoesOn enrolled_world (codes "ask bob HELP" ∷ rest) → ⊥
stops_at_bob rest goes =
    let plays = plays_first enrolled_world (codes "ask bob HELP") rest goes.event goes.others goes.printed goes.next goes.split goes.plays in
    no_such_user plays.1.event goes.printed goes.next plays.1.is_event plays.1.step

chain_of_one : Chain [] ((codes "user ann sesame" ∷ []) ∷ []) (codes "user ann: 200 Ok" ∷ []) enrolled_world
chain_of_one = (_, (_, (_, (refl, plays_user, (refl, refl)))))

refused_at_two : IsRefused (codes "user ann sesame\nask bob HELP\nask ann HELP\n") 2 (codes "user ann: 200 Ok\n")
refused_at_two = record {
  line = codes "ask bob HELP";
  rest = codes "ask ann HELP" ∷ [];
  printed = codes "user ann: 200 Ok" ∷ [];
  last = enrolled_world;
  begins = record { events = (codes "user ann sesame" ∷ []) ∷ []; split = refl; few = lit≤ tt; chain = chain_of_one };
  number_is = refl;
  within = lit≤ tt;
  text_is = refl;
  stops = λ within. stops_at_bob (codes "ask ann HELP" ∷ []);
}

-- two users, each with an account of its own; and one who is there already
abbrev bob_account : Account
bob_account = record { user = codes "bob"; entries = enrolled (codes "bob") (codes "open") }

plays_bob : Step enrolled_world (User (codes "bob") (codes "open")) (codes "user bob: 200 Ok" ∷ []) (enrolled_world ++ bob_account ∷ [])
plays_bob = (refl, refl)

plays_ann_again : Step enrolled_world (User (codes "ann") (codes "other")) (codes "user ann: 415 Address taken" ∷ []) enrolled_world
unfolding head_of
plays_ann_again = (refl, refl)

bob_makes : Step (enrolled_world ++ bob_account ∷ []) (Ask (codes "bob") (Read (request.CreateMailbox (codes "work")))) (codes "ask bob: 200 Ok" ∷ []) (enrolled_world ++ record bob_account { entries = bob_account.entries ++ MakeMailbox (codes "work") ∷ [] } ∷ [])
unfolding reply_to_request
bob_makes = (refl, refl)

-- the 33rd
plays_too_many : Step (replicate 32 bob_account) (User (codes "ann") (codes "sesame")) (codes "user ann: 418 Limit reached users" ∷ []) (replicate 32 bob_account)
unfolding head_of
plays_too_many = (refl, refl)

plays_the_last : Step (replicate 31 bob_account) (User (codes "ann") (codes "sesame")) (codes "user ann: 200 Ok" ∷ []) (replicate 31 bob_account ++ enrolled_world)
plays_the_last = (refl, refl)
