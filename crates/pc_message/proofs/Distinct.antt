-- Collected names are the first 65 of the distinct ones.
use Rattle.std.proofs.Common.{◌≡◌, ◌≤◌, ℕ, Bool, true, false, not, ◌||◌, cond, nat_lt, List, [], ◌∷◌, ◌++◌, length, take, refl, sym, ap, ◌∙◌, append_assoc, append-nil, length-append, arith, inl, inr}
use Rattle.std.proofs.lemmas.Bool.{cases_lt}
use Rattle.std.proofs.lemmas.Bool.Decides.{nat_tests, same_from_decides}
use Rattle.std.proofs.lemmas.List.{length-take-le, take_all, take-append-le}
use Rattle.std.proofs.lemmas.Slice.Eq.{bytes_eq-Decides}
use Rattle.std.specs.List.{filter, fold, list_any}
use Rattle.std.specs.Str.{bytes_eq}
use Rattle.pc_message.specs.Collecting.{with_name}
use Rattle.pc_message.specs.Recipients.{distinct}

bytes_eq-sym : (x y : List ℕ) → bytes_eq x y ≡ bytes_eq y x
bytes_eq-sym x y =
    let back = bytes_eq-Decides y x in
    same_from_decides (bytes_eq x y) (bytes_eq y x) (bytes_eq-Decides x y) (λ h. sym (back.0 h), λ e. back.1 (sym e))

filter-push : (test : List ℕ → Bool) (texts : List (List ℕ)) (text : List ℕ) → filter test (texts ++ text ∷ []) ≡ filter test texts ++ cond (test text) (text ∷ []) []
filter-push test [] text = refl
filter-push test (first ∷ texts) text = elim (test first) as (λ (b : Bool). cond b (first ∷ filter test (texts ++ text ∷ [])) (filter test (texts ++ text ∷ [])) ≡ cond b (first ∷ filter test texts) (filter test texts) ++ cond (test text) (text ∷ []) []) [ true ↦ ap (λ others. first ∷ others) (filter-push test texts text) | false ↦ filter-push test texts text ]

-- taking one text out leaves the others in
any-filter : (text other : List ℕ) (texts : List (List ℕ)) → bytes_eq other text ≡ false → list_any (λ here. bytes_eq here text) (filter (λ here. not (bytes_eq here other)) texts) ≡ list_any (λ here. bytes_eq here text) texts
any-filter text other [] apart = refl
any-filter text other (first ∷ texts) apart =
    let others = any-filter text other texts apart in
    let rest = filter (λ here. not (bytes_eq here other)) texts in
    elim (bytes_eq first other) as (λ (b : Bool). bytes_eq first other ≡ b → list_any (λ here. bytes_eq here text) (cond (not b) (first ∷ rest) rest) ≡ (bytes_eq first text || list_any (λ here. bytes_eq here text) texts)) [
      | true ↦ λ e. rw (ap (λ (here : List ℕ). bytes_eq here text) ((bytes_eq-Decides first other).0 e) ∙ apart) others
      | false ↦ λ e. ap (λ more. bytes_eq first text || more) others
    ] refl

-- one more text behind others, of which the first is taken out
filter-distinct : (first text : List ℕ) (others : List (List ℕ)) (same : Bool) → bytes_eq first text ≡ same → first ∷ filter (λ other. not (bytes_eq other first)) (cond (list_any (λ other. bytes_eq other text) others) others (others ++ text ∷ [])) ≡ cond (same || list_any (λ other. bytes_eq other text) (filter (λ other. not (bytes_eq other first)) others)) (first ∷ filter (λ other. not (bytes_eq other first)) others) (first ∷ (filter (λ other. not (bytes_eq other first)) others ++ text ∷ []))
filter-distinct first text others true same =
    let back : bytes_eq text first ≡ true = bytes_eq-sym text first ∙ same in
    let rest = filter (λ other. not (bytes_eq other first)) others in
    let pushed : filter (λ other. not (bytes_eq other first)) (others ++ text ∷ []) ≡ rest = filter-push (λ other. not (bytes_eq other first)) others text ∙ ap (λ taken. rest ++ cond (not taken) (text ∷ []) []) back ∙ append-nil rest in
    elim (list_any (λ other. bytes_eq other text) others) as (λ (known : Bool). first ∷ filter (λ other. not (bytes_eq other first)) (cond known others (others ++ text ∷ [])) ≡ first ∷ rest) [ true ↦ refl | false ↦ ap (λ more. first ∷ more) pushed ]
filter-distinct first text others false same =
    let back : bytes_eq text first ≡ false = bytes_eq-sym text first ∙ same in
    let rest = filter (λ other. not (bytes_eq other first)) others in
    let pushed : filter (λ other. not (bytes_eq other first)) (others ++ text ∷ []) ≡ rest ++ text ∷ [] = filter-push (λ other. not (bytes_eq other first)) others text ∙ ap (λ taken. rest ++ cond (not taken) (text ∷ []) []) back in
    rw (any-filter text first others same) (elim (list_any (λ other. bytes_eq other text) others) as (λ (known : Bool). first ∷ filter (λ other. not (bytes_eq other first)) (cond known others (others ++ text ∷ [])) ≡ cond known (first ∷ rest) (first ∷ (rest ++ text ∷ []))) [ true ↦ refl | false ↦ ap (λ more. first ∷ more) pushed ])

distinct-push : (texts : List (List ℕ)) (text : List ℕ) → distinct (texts ++ text ∷ []) ≡ cond (list_any (λ other. bytes_eq other text) (distinct texts)) (distinct texts) (distinct texts ++ text ∷ [])
unfolding distinct
distinct-push [] text = refl
distinct-push (first ∷ texts) text =
    ap (λ more. first ∷ filter (λ other. not (bytes_eq other first)) more) (distinct-push texts text) ∙ filter-distinct first text (distinct texts) (bytes_eq first text) refl

-- a name that is added to the first 65
with_name-long : (names : List (List ℕ)) (name : List ℕ) → 65 ≤ length names → with_name (take 65 names) name ≡ take 65 (cond (list_any (λ other. bytes_eq other name) names) names (names ++ name ∷ []))
with_name-long names name long =
    let count : length (take 65 names) ≡ 65 = length-take-le 65 names long in
    let full : nat_lt 64 (length (take 65 names)) ≡ true = ap (nat_lt 64) count in
    let known = list_any (λ other. bytes_eq other name) names in
    rw full (elim known as (λ (b : Bool). take 65 names ≡ take 65 (cond b names (names ++ name ∷ []))) [ true ↦ refl | false ↦ sym (take-append-le 65 names (name ∷ []) long) ])

with_name-short : (names : List (List ℕ)) (name : List ℕ) → length names ≤ 64 → with_name (take 65 names) name ≡ take 65 (cond (list_any (λ other. bytes_eq other name) names) names (names ++ name ∷ []))
with_name-short names name short =
    let all : take 65 names ≡ names = take_all 65 names (omega arith) in
    let room : nat_lt 64 (length names) ≡ false = grind (arith, nat_tests) in
    let more : take 65 (names ++ name ∷ []) ≡ names ++ name ∷ [] = take_all 65 (names ++ name ∷ []) (omega (arith, length-append names (name ∷ []))) in
    let known = list_any (λ other. bytes_eq other name) names in
    rw (all, room) (elim known as (λ (b : Bool). cond b names (names ++ name ∷ []) ≡ take 65 (cond b names (names ++ name ∷ []))) [ true ↦ sym all | false ↦ sym more ])

with_name-take : (names : List (List ℕ)) (name : List ℕ) → with_name (take 65 names) name ≡ take 65 (cond (list_any (λ other. bytes_eq other name) names) names (names ++ name ∷ []))
with_name-take names name = elim (cases_lt 64 (length names)) [ inl long ↦ with_name-long names name (omega arith) | inr short ↦ with_name-short names name (omega arith) ]

with_name-distinct : (texts : List (List ℕ)) (text : List ℕ) → with_name (take 65 (distinct texts)) text ≡ take 65 (distinct (texts ++ text ∷ []))
with_name-distinct texts text = with_name-take (distinct texts) text ∙ ap (take 65) (sym (distinct-push texts text))

collected-after : (done rest : List (List ℕ)) → fold with_name (take 65 (distinct done)) rest ≡ take 65 (distinct (done ++ rest))
collected-after done [] = ap (λ texts. take 65 (distinct texts)) (sym (append-nil done))
collected-after done (text ∷ rest) =
    ap (λ names. fold with_name names rest) (with_name-distinct done text)
    ∙ collected-after (done ++ text ∷ []) rest
    ∙ ap (λ texts. take 65 (distinct texts)) (append_assoc done (text ∷ []) rest)

pub collected : (addresses : List (List ℕ)) → fold with_name [] addresses ≡ take 65 (distinct addresses)
unfolding distinct
collected addresses = collected-after [] addresses
