-- What reading the words of a line gives.
use Rattle.std.specs.Prelude.{◌≡◌, ℕ, ◌≤◌, false, IsTrue, List, [], ◌∷◌, length, codes, Result, Ok, Err}
use Rattle.pc_base.specs.Name.{is_name, is_password}
use Rattle.pc_wire.specs.Words.{words_of, without_spaces, after_word}
use Rattle.pc_world.specs.declared.event.Event.{Event}
use Rattle.pc_world.specs.declared.event.EventFault.{EventFault}
use Rattle.pc_world.specs.declared.event.Event.TheVariants.{User, Ask}
use Rattle.pc_world.specs.Events.{IsSaid, IsAsked, is_silent, most_line, text_asked}

-- the event that a line says, and no other, or that it says none
abbrev pub Says : List ℕ → Result Event EventFault → Type 0
Says line (Ok event) = IsSaid line event × ((other : Event) → IsSaid line other → other ≡ event)
Says line (Err fault) = (event : Event) → IsSaid line event → ⊥

-- the words are a name and a password
abbrev pub SaysUser : List ℕ → Result Event EventFault → Type 0
SaysUser words (Ok (User name password)) = (words_of words ≡ name ∷ password ∷ []) × IsTrue (is_name name) × IsTrue (is_password password)
SaysUser words (Ok _) = ⊥
SaysUser words (Err fault) = (name password : List ℕ) → words_of words ≡ name ∷ password ∷ [] → IsTrue (is_name name) → IsTrue (is_password password) → ⊥

-- the first word is a name, and what follows it and the spaces behind it asks for this and nothing else
abbrev pub SaysAsk : List ℕ → Result Event EventFault → Type 0
SaysAsk words (Ok (Ask user asked)) =
    (words_of words ≡ user ∷ words_of (without_spaces (after_word words)))
    × IsTrue (is_name user)
    × IsAsked (without_spaces (after_word words)) asked
    × ((other : _) → IsAsked (without_spaces (after_word words)) other → other ≡ asked)
SaysAsk words (Ok _) = ⊥
SaysAsk words (Err fault) = (user : List ℕ) (others : List (List ℕ)) → words_of words ≡ user ∷ others → IsTrue (is_name user) → ⊥

-- the line says `ask`, this word for the user, and then this text
pub record IsAsking (line user text : List ℕ) : Type 0 where
  pub short : length line ≤ most_line
  pub loud : is_silent line ≡ false
  pub split : words_of line ≡ codes "ask" ∷ user ∷ words_of (text_asked line)
  pub text_is : text ≡ text_asked line
