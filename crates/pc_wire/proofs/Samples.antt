-- What the definitions give, worked out by hand.
use Rattle.std.proofs.Common.{◌≡◌, true, false, [], ◌∷◌, inl, inr, refl, arith}
use Rattle.pc_wire.specs.Lines.{lines_of, without_return}
use Rattle.pc_wire.specs.Words.{words_of, without_spaces, after_word}
use Rattle.pc_wire.specs.LineFeed.{fed}
use Rattle.pc_wire.specs.Reader.{TakesLine, BeginsLong}

-- `ab` CR LF, CR CR LF, `x` LF, LF, `y` CR
lines : lines_of (97 ∷ 98 ∷ 13 ∷ 10 ∷ 13 ∷ 13 ∷ 10 ∷ 120 ∷ 10 ∷ 10 ∷ 121 ∷ 13 ∷ []) ≡ (97 ∷ 98 ∷ []) ∷ (13 ∷ []) ∷ (120 ∷ []) ∷ [] ∷ (121 ∷ 13 ∷ []) ∷ []
lines = refl

-- a last LF begins no line
last_feed : lines_of (97 ∷ 10 ∷ []) ≡ (97 ∷ []) ∷ []
last_feed = refl

inner_return : without_return (97 ∷ 13 ∷ 98 ∷ 13 ∷ 13 ∷ []) ≡ 97 ∷ 13 ∷ 98 ∷ 13 ∷ []
inner_return = refl

-- two spaces, `ab`, a space, a tab, `c`, two spaces, `d`, a space
words : words_of (32 ∷ 32 ∷ 97 ∷ 98 ∷ 32 ∷ 9 ∷ 99 ∷ 32 ∷ 32 ∷ 100 ∷ 32 ∷ []) ≡ (97 ∷ 98 ∷ []) ∷ (9 ∷ 99 ∷ []) ∷ (100 ∷ []) ∷ []
words = refl

no_words : words_of (32 ∷ 32 ∷ []) ≡ []
no_words = refl

first_word : after_word (32 ∷ 97 ∷ 98 ∷ 32 ∷ 32 ∷ 99 ∷ []) ≡ 32 ∷ 32 ∷ 99 ∷ []
first_word = refl

only_word : after_word (97 ∷ []) ≡ []
only_word = refl

front_spaces : without_spaces (32 ∷ 32 ∷ 9 ∷ 97 ∷ 32 ∷ []) ≡ 9 ∷ 97 ∷ 32 ∷ []
front_spaces = refl

-- the text is cut two bytes past the limit, and what follows the LF doesn't count
cut : fed 1 (97 ∷ 98 ∷ 99 ∷ 100 ∷ 10 ∷ 101 ∷ []) ≡ record { limit = 1; text = 97 ∷ 98 ∷ 99 ∷ []; is_whole = true }
cut = refl

unfinished : fed 1 (97 ∷ 13 ∷ []) ≡ record { limit = 1; text = 97 ∷ 13 ∷ []; is_whole = false }
unfinished = refl

-- of `a` CR LF `b` CR the line `a` is taken with CR and LF, and what follows is left
taken : TakesLine (97 ∷ []) (97 ∷ 13 ∷ 10 ∷ 98 ∷ 13 ∷ []) (98 ∷ 13 ∷ [])
taken = record { spelling = 97 ∷ 13 ∷ 10 ∷ []; split = refl; spells = inl (refl, inl refl) }

-- and `b` CR, which ends the input, is taken whole
taken_last : TakesLine (98 ∷ 13 ∷ []) (98 ∷ 13 ∷ []) []
taken_last = record { spelling = 98 ∷ 13 ∷ []; split = refl; spells = inr (refl, refl, refl, omega arith) }

-- the CR before the LF doesn't count
long_enough : BeginsLong 2 (97 ∷ 98 ∷ 13 ∷ 10 ∷ 99 ∷ [])
long_enough = (97 ∷ 98 ∷ [], ((99 ∷ []) ∷ [], (refl, omega arith)))
