-- Lists as lines: how they are cut into items, and which line is the first at fault.
use Rattle.std.proofs.Common.{◌≡◌, ℕ, zero, suc, ◌+◌, ◌<◌, Bool, true, false, not, ◌||◌, All, List, [], ◌∷◌, ◌++◌, length, map, take, refl, sym, ap, subst, ◌∙◌, arith, append_assoc, append-nil, length-append, add_assoc}
use Rattle.std.specs.List.{flat_map, list_any}
use Rattle.std.proofs.lemmas.Bool.{and_parts, or_parts}
use Rattle.std.proofs.lemmas.List.{map-append, length-take}
use Rattle.std.proofs.lemmas.List.Elements.{All-head, All-tail, All-push}
use Rattle.std.proofs.lemmas.List.Folds.{list_any-append}
use Rattle.std.proofs.lemmas.Grind.{flat_map-append}
use Rattle.std.proofs.Math.Seq.{take-append-add}
use Rattle.pc_reply.specs.Lists.{are_apart, AreItems, Begins, IsFirstFault, IsNew, IsBadItem}

not_true : (b : Bool) → not b ≡ true → b ≡ false
not_true true e = sym e
not_true false e = refl

-- one key more is apart from the others where none of them is the same
pub are_apart-push : {K : Type 0} (same : K → K → Bool) (keys : List K) (key : K) → are_apart same keys ≡ true → list_any (λ other. same other key) keys ≡ false → are_apart same (keys ++ key ∷ []) ≡ true
are_apart-push same [] key apart new = refl
are_apart-push same (first ∷ keys) key apart new =
    let parts = and_parts (not (list_any (same first) keys)) (are_apart same keys) apart in
    let differ = or_parts (same first key) (list_any (λ other. same other key) keys) new in
    let rest = are_apart-push same keys key parts.1 differ.1 in
    rw (list_any-append (same first) keys (key ∷ []), not_true (list_any (same first) keys) parts.0, differ.0, rest) refl

-- a key behind others is none of them
pub are_apart-behind : {K : Type 0} (same : K → K → Bool) (keys : List K) (key : K) (more : List K) → are_apart same (keys ++ key ∷ more) ≡ true → list_any (λ other. same other key) keys ≡ false
are_apart-behind same [] key more apart = refl
are_apart-behind same (first ∷ keys) key more apart =
    let parts = and_parts (not (list_any (same first) (keys ++ key ∷ more))) (are_apart same (keys ++ key ∷ more)) apart in
    let none : (list_any (same first) keys || list_any (same first) (key ∷ more)) ≡ false = sym (list_any-append (same first) keys (key ∷ more)) ∙ not_true (list_any (same first) (keys ++ key ∷ more)) parts.0 in
    let others = or_parts (list_any (same first) keys) (list_any (same first) (key ∷ more)) none in
    let here = or_parts (same first key) (list_any (same first) more) others.1 in
    rw (here.0, are_apart-behind same keys key more parts.1) refl

module _ {T K : Type 0} (lines_of : T → List (List ℕ)) (Fits : T → Type 0) (same : K → K → Bool) (key_of : T → K) (some : (item : T) → 0 < length (lines_of item)) (first : (one other : T) (more rest : List (List ℕ)) → Fits one → Fits other → lines_of one ++ more ≡ lines_of other ++ rest → (one ≡ other) × (more ≡ rest)) where
  abbrev Are : List T → List (List ℕ) → Type 0
  Are items lines = AreItems lines_of Fits same key_of items lines

  -- lines of items that begin with those of others begin with these items
  cut : (items others : List T) (rest : List (List ℕ)) → All Fits items → All Fits others → flat_map lines_of items ++ rest ≡ flat_map lines_of others → 0 < length rest → (more : List T) × ((others ≡ items ++ more) × (rest ≡ flat_map lines_of more) × All Fits more)
  cut [] others rest fit fits e left = (others, (refl, e, fits))
  cut (x ∷ xs) [] rest fit fits e left = absurd (omega (arith, ap length e, length-append (flat_map lines_of (x ∷ xs)) rest))
  cut (x ∷ xs) (y ∷ ys) rest fit fits e left =
      let both = first x y (flat_map lines_of xs ++ rest) (flat_map lines_of ys) (All-head Fits x xs fit) (All-head Fits y ys fits) (sym (append_assoc (lines_of x) (flat_map lines_of xs) rest) ∙ e) in
      let more = cut xs ys rest (All-tail Fits x xs fit) (All-tail Fits y ys fits) both.1 left in
      (more.0, (ap (λ z. z ∷ ys) (sym both.0) ∙ ap (λ zs. x ∷ zs) more.1.0, more.1.1, more.1.2))

  same_items : (items others : List T) → All Fits items → All Fits others → flat_map lines_of items ≡ flat_map lines_of others → items ≡ others
  same_items [] [] fit fits e = refl
  same_items [] (y ∷ ys) fit fits e = absurd (omega (arith, ap length e, length-append (lines_of y) (flat_map lines_of ys), some y))
  same_items (x ∷ xs) [] fit fits e = absurd (omega (arith, ap length e, length-append (lines_of x) (flat_map lines_of xs), some x))
  same_items (x ∷ xs) (y ∷ ys) fit fits e =
      let both = first x y (flat_map lines_of xs) (flat_map lines_of ys) (All-head Fits x xs fit) (All-head Fits y ys fits) e in
      rw (both.0, same_items xs ys (All-tail Fits x xs fit) (All-tail Fits y ys fits) both.1) refl

  -- lines are at most one list
  pub one_list : (items others : List T) (lines : List (List ℕ)) → Are items lines → Are others lines → items ≡ others
  one_list items others lines are also = same_items items others are.fit also.fit (sym are.spelled ∙ also.spelled)

  -- one item more
  pub items_push : (items : List T) (front : List (List ℕ)) (item : T) → Are items front → Fits item → list_any (λ other. same other (key_of item)) (map key_of items) ≡ false → Are (items ++ item ∷ []) (front ++ lines_of item)
  items_push items front item are fits new = record {
    spelled = ap (λ lines. lines ++ lines_of item) are.spelled ∙ ap (λ lines. flat_map lines_of items ++ lines) (sym (append-nil (lines_of item))) ∙ sym (flat_map-append lines_of items (item ∷ []));
    fit = All-push Fits items item are.fit fits;
    apart = ap (are_apart same) (map-append key_of items (item ∷ [])) ∙ are_apart-push same (map key_of items) (key_of item) are.apart new;
  }

  -- what begins with the items' lines goes on with a new item
  goes_on : (items others : List T) (front rest : List (List ℕ)) → Are items front → Are others (front ++ rest) → 0 < length rest → (item : T) × ((more : List (List ℕ)) × ((lines_of item ++ more ≡ rest) × Fits item × (list_any (λ other. same other (key_of item)) (map key_of items) ≡ false)))
  goes_on items others front rest are also left =
      let parts = cut items others rest are.fit also.fit (ap (λ lines. lines ++ rest) (sym are.spelled) ∙ also.spelled) left in
      by_more parts.0 parts.1.0 parts.1.1 parts.1.2
    where
      by_more : (more : List T) → others ≡ items ++ more → rest ≡ flat_map lines_of more → All Fits more → (item : T) × ((more : List (List ℕ)) × ((lines_of item ++ more ≡ rest) × Fits item × (list_any (λ other. same other (key_of item)) (map key_of items) ≡ false)))
      by_more [] e is fits = absurd (omega (arith, ap length is))
      by_more (item ∷ more) e is fits =
          let keys : map key_of others ≡ map key_of items ++ key_of item ∷ map key_of more = ap (map key_of) e ∙ map-append key_of items (item ∷ more) in
          (item, (flat_map lines_of more, (sym is, All-head Fits item more fits, are_apart-behind same (map key_of items) (key_of item) (map key_of more) (sym (ap (are_apart same) keys) ∙ also.apart))))

  -- the first line that no new item takes is the first at fault
  pub fault : (items : List T) (front rest : List (List ℕ)) (known : K → Bool) (line : ℕ) → Are items front → ((key : K) → known key ≡ list_any (λ other. same other key) (map key_of items)) → IsBadItem lines_of Fits key_of known rest line → IsFirstFault Are (front ++ rest) (length front + line)
  fault items front rest known line are knows bad = record {
    within = omega (arith, length-append front rest, bad.within);
    before = subst (λ (lines : List (List ℕ)). Begins Are lines) (sym (take-append-add front rest line)) (begins line bad.before);
    here = λ below (others, (other, also)).
        let longer : take (length front + line + 1) (front ++ rest) ≡ front ++ take (line + 1) rest = ap (λ n. take n (front ++ rest)) (add_assoc (length front) line 1) ∙ take-append-add front rest (line + 1) in
        let is : Are others (front ++ (take (line + 1) rest ++ other)) = subst (λ (lines : List (List ℕ)). Are others lines) (ap (λ lines. lines ++ other) longer ∙ append_assoc front (take (line + 1) rest) other) also in
        let next = goes_on items others front (take (line + 1) rest ++ other) are is (omega (arith, length-append (take (line + 1) rest) other, length-take (line + 1) rest, bad.some)) in
        bad.here (omega (arith, length-append front rest)) next.0 next.1.0 other (next.1.1.1, knows (key_of next.0) ∙ next.1.1.2) next.1.1.0;
    end = λ at others also.
        let next = goes_on items others front rest are also bad.some in
        bad.end (omega (arith, length-append front rest)) next.0 next.1.0 (next.1.1.1, knows (key_of next.0) ∙ next.1.1.2) next.1.1.0;
  }
    where
      begins : (line : ℕ) → (0 < line → (item : T) × ((more : List (List ℕ)) × (IsNew Fits key_of known item × (lines_of item ≡ take line rest ++ more)))) → Begins Are (front ++ take line rest)
      begins zero before = (items, ([], subst (λ (lines : List (List ℕ)). Are items lines) (sym (append-nil (front ++ []) ∙ append-nil front)) are))
      begins (suc n) before =
          let next = before (omega arith) in
          let joined = items_push items front next.0 are next.1.1.0.0 (sym (knows (key_of next.0)) ∙ next.1.1.0.1) in
          (items ++ next.0 ∷ [], (next.1.0, subst (λ (lines : List (List ℕ)). Are (items ++ next.0 ∷ []) lines) (ap (λ lines. front ++ lines) next.1.1.1 ∙ sym (append_assoc front (take (suc n) rest) next.1.0)) joined))
