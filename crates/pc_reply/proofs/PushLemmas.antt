-- Lines that are added one after another.
use Rattle.std.proofs.Common.{◌≡◌, ℕ, List, [], ◌∷◌, ◌++◌, take, ap, ◌∙◌, append_assoc, Ok, Err, Result}
use Rattle.std.specs.Prelude.{OnErr}
use Rattle.pc_reply.specs.Items.{AddsFront}

-- one line more behind those that were added
one_more : (old now new front : List (List ℕ)) (line : List ℕ) → now ≡ old ++ front → new ≡ now ++ line ∷ [] → new ≡ old ++ (front ++ line ∷ [])
one_more old now new front line added more =
    more ∙ ap (λ lines. lines ++ line ∷ []) added ∙ append_assoc old front (line ∷ [])

pub two_added : (old one two : List (List ℕ)) (a b : List ℕ) → one ≡ old ++ a ∷ [] → two ≡ one ++ b ∷ [] → two ≡ old ++ a ∷ b ∷ []
two_added old one two a b first second = one_more old one two (a ∷ []) b first second

pub three_added : (old one two three : List (List ℕ)) (a b c : List ℕ) → one ≡ old ++ a ∷ [] → two ≡ one ++ b ∷ [] → three ≡ two ++ c ∷ [] → three ≡ old ++ a ∷ b ∷ c ∷ []
three_added old one two three a b c first second third =
    one_more old two three (a ∷ b ∷ []) c (two_added old one two a b first second) third

pub four_added : (old one two three four : List (List ℕ)) (a b c d : List ℕ) → one ≡ old ++ a ∷ [] → two ≡ one ++ b ∷ [] → three ≡ two ++ c ∷ [] → four ≡ three ++ d ∷ [] → four ≡ old ++ a ∷ b ∷ c ∷ d ∷ []
four_added old one two three four a b c d first second third fourth =
    one_more old three four (a ∷ b ∷ c ∷ []) d (three_added old one two three a b c first second third) fourth

-- so many lines were added before the failure
pub stops_behind : {T E : Type 0} (result : Result T E) (count : ℕ) (old new lines : List (List ℕ)) → new ≡ old ++ take count lines → OnErr result (AddsFront old new lines)
stops_behind (Ok value) count old new lines is = tt
stops_behind (Err error) count old new lines is = (count, is)
