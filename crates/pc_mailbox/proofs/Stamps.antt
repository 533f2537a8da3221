-- A map of stamps, as the list of changes that it stands for.
use Rattle.std.proofs.Common.{◌≡◌, ℕ, suc, ◌+◌, ◌-◌, ◌<◌, ◌≤◌, ◌^◌, nat_eq, nat_lt, Bool, true, false, cond, ◌||◌, List, [], ◌∷◌, ◌++◌, take, length, Option, Some, None, is_some, option_map, refl, sym, ap, ◌∙◌, arith, length-append, zero}
use Rattle.std.specs.Option.{option_map_or}
use Rattle.std.specs.List.{AllByRecursion, IsDistinct}
use Rattle.std.specs.Map.{lookup, lookup_entry, remove_entry, keys_of}
use Rattle.std.specs.Cmp.{nat_eq_equiv}
use Rattle.std.proofs.lemmas.Map.Keys.{IsDistinct-head, IsDistinct-tail}
use Rattle.std.proofs.lemmas.Bool.{eqb-true}
use Rattle.std.proofs.lemmas.List.{map-append}
use borrow.Author.Tests.{ltb-true}
use Rattle.lru.specs.LruCache.{LruCache, put_entries, demoted}
use Rattle.lru.proofs.CallerLemmas.{Contains-lookup_entry}
use Rattle.pc_account_history.specs.declared.kept.Listed.{Listed}
use Rattle.pc_account_history.specs.Record.{stamp_at}
use Rattle.pc_account_history.specs.Step.{without, touched}
use Rattle.pc_mailbox.specs.UpdateList.{changes_of, is_on, IsList}

abbrev empty : List (ℕ × ℕ)
empty = []

stamp-step : (b : Bool) (first : Listed) (found : Option Listed) (rest : Option ℕ) → option_map (λ (l : Listed). l.stamp) found ≡ rest → option_map (λ (l : Listed). l.stamp) (cond b (Some first) found) ≡ cond b (Some first.stamp) rest
stamp-step true first found rest h = refl
stamp-step false first found rest h = h

pub stamp_at-changes_of : (uid : ℕ) (es : List (ℕ × ℕ)) → stamp_at uid (changes_of es) ≡ lookup (nat_eq uid) es
stamp_at-changes_of uid [] = refl
stamp_at-changes_of uid (e ∷ es) = rw (nat_eq_equiv.symm e.0 uid) (stamp-step (nat_eq uid e.0) _ _ _ (stamp_at-changes_of uid es))

-- no key is equal to the uid
abbrev pub IsAbsent : ℕ → List (ℕ × ℕ) → Type 0
IsAbsent uid es = AllByRecursion (λ y. nat_eq uid y ≡ false) (keys_of es)

without-absent : (uid : ℕ) (es : List (ℕ × ℕ)) → IsAbsent uid es → without (uid ∷ []) (changes_of es) ≡ changes_of es
without-absent uid [] h = refl
without-absent uid (e ∷ es) h = let differs = h.0 in rw differs (ap (λ (l : List Listed). record { uid = e.0; stamp = e.1 } ∷ l) (without-absent uid es h.1))

absent-same : (a b : ℕ) (es : List (ℕ × ℕ)) → nat_eq a b ≡ true → IsAbsent b es → IsAbsent a es
absent-same a b [] t h = tt
absent-same a b (e ∷ es) t h = (nat_eq_equiv.congr a b e.0 t ∙ h.0, absent-same a b es t h.1)

without-step : (b : Bool) (uid : ℕ) (e : ℕ × ℕ) (es : List (ℕ × ℕ)) → nat_eq uid e.0 ≡ b → IsDistinct nat_eq (keys_of (e ∷ es)) → without (uid ∷ []) (changes_of es) ≡ changes_of (remove_entry (nat_eq uid) es) → without (uid ∷ []) (changes_of (e ∷ es)) ≡ changes_of (cond b es (e ∷ remove_entry (nat_eq uid) es))
without-step true uid e es t d h = rw t (without-absent uid es (absent-same uid e.0 es t (IsDistinct-head nat_eq e.0 (keys_of es) d)))
without-step false uid e es t d h = rw t (ap (λ (l : List Listed). record { uid = e.0; stamp = e.1 } ∷ l) h)

pub without-changes_of : (uid : ℕ) (es : List (ℕ × ℕ)) → IsDistinct nat_eq (keys_of es) → without (uid ∷ []) (changes_of es) ≡ changes_of (remove_entry (nat_eq uid) es)
without-changes_of uid [] d = refl
without-changes_of uid (e ∷ es) d = without-step (nat_eq uid e.0) uid e es refl d (without-changes_of uid es (IsDistinct-tail nat_eq e.0 (keys_of es) d))

remove-step : (b : Bool) (e : ℕ × ℕ) (es rest : List (ℕ × ℕ)) (found : Option (ℕ × ℕ)) → cond b (Some e) found ≡ None → (found ≡ None → rest ≡ es) → cond b es (e ∷ rest) ≡ e ∷ es
remove-step true e es rest found h k = cc
remove-step false e es rest found h k = ap (λ (l : List (ℕ × ℕ)). e ∷ l) (k h)

remove-absent : (uid : ℕ) (es : List (ℕ × ℕ)) → lookup_entry (nat_eq uid) es ≡ None → remove_entry (nat_eq uid) es ≡ es
remove-absent uid [] h = refl
remove-absent uid (e ∷ es) h = remove-step (nat_eq uid e.0) e es (remove_entry (nat_eq uid) es) (lookup_entry (nat_eq uid) es) h (remove-absent uid es)

take-none : (n : ℕ) → take n empty ≡ empty
take-none zero = refl
take-none (suc n) = refl

take-whole : (n : ℕ) (es : List (ℕ × ℕ)) → length es ≤ n → take n es ≡ es
take-whole n [] h = take-none n
take-whole zero (e ∷ es) h = absurd (omega (arith, h))
take-whole (suc n) (e ∷ es) h = ap (λ (l : List (ℕ × ℕ)). e ∷ l) (take-whole n es (omega (arith, h)))

module _ (c : LruCache ℕ ℕ) (uid at : ℕ) where
  put-by : (o : Option (ℕ × ℕ)) → lookup_entry (nat_eq uid) c.entries ≡ o → length c.entries ≤ c.cap - 1 → demoted (nat_eq uid) (option_map_or (λ (e : ℕ × ℕ). (e.0, at) ∷ remove_entry (nat_eq uid) c.entries) o ((uid, at) ∷ take (c.cap - 1) c.entries)) ≡ remove_entry (nat_eq uid) c.entries ++ (uid, at) ∷ []
  put-by None h room = let same = nat_eq_equiv.refl uid in rw (same, take-whole (c.cap - 1) c.entries room, remove-absent uid c.entries h) refl
  put-by (Some e) h room =
      let key = (Contains-lookup_entry (nat_eq uid) c.entries e h).1 in
      let same : uid ≡ e.0 = eqb-true uid e.0 key in
      rw key (ap (λ (k : ℕ). remove_entry (nat_eq uid) c.entries ++ (k, at) ∷ []) (sym same))

  -- a uid that is put and then moved to the end stands there, and nowhere else
  pub placed : length c.entries ≤ c.cap - 1 → demoted (nat_eq uid) (put_entries nat_eq c uid at) ≡ remove_entry (nat_eq uid) c.entries ++ (uid, at) ∷ []
  placed = put-by (lookup_entry (nat_eq uid) c.entries) refl

length-by : (b : Bool) (e : ℕ × ℕ) (es rest : List (ℕ × ℕ)) (found : Option ℕ) → length rest + cond (is_some found) 1 0 ≡ length es → length (cond b es (e ∷ rest)) + cond (is_some (cond b (Some e.1) found)) 1 0 ≡ length (e ∷ es)
length-by true e es rest found h = omega arith
length-by false e es rest found h = omega (arith, h)

length-removed : (uid : ℕ) (es : List (ℕ × ℕ)) → length (remove_entry (nat_eq uid) es) + cond (is_some (lookup (nat_eq uid) es)) 1 0 ≡ length es
length-removed uid [] = refl
length-removed uid (e ∷ es) = length-by (nat_eq uid e.0) e es (remove_entry (nat_eq uid) es) (lookup (nat_eq uid) es) (length-removed uid es)

-- there is room for the uid: the list isn't at its end, or has it already
abbrev pub has_room : ℕ → List (ℕ × ℕ) → Bool
has_room uid es = nat_lt (length es) 4294967295 || is_some (lookup (nat_eq uid) es)

room-by : (short found : Bool) (n m : ℕ) → nat_lt n 4294967295 ≡ short → (short || found) ≡ true → m + cond found 1 0 ≡ n → n < 2 ^ 32 → m + 1 < 2 ^ 32
room-by true found n m e h l k = let lt = ltb-true n 4294967295 e in elim found as (λ b. m + cond b 1 0 ≡ n → m + 1 < 2 ^ 32) [ true ↦ λ g. omega arith | false ↦ λ g. omega arith ] l
room-by false true n m e h l k = omega arith
room-by false false n m e h l k = cc

pub IsList-removed : (uid : ℕ) (c : LruCache ℕ ℕ) → IsList c → IsList (record { entries = remove_entry (nat_eq uid) c.entries; cap = c.cap })
IsList-removed uid c h = let l = length-removed uid c.entries in let s = h.short in record { short = omega (arith, l, s); open_end = h.open_end }

module _ (c : LruCache ℕ ℕ) (uid at : ℕ) (was : IsList c) where
  pub length-room : length c.entries ≤ c.cap - 1
  length-room = rw was.open_end (let s = was.short in omega (arith, s))

  pub IsList-placed : has_room uid c.entries ≡ true → IsList (record { entries = demoted (nat_eq uid) (put_entries nat_eq c uid at); cap = c.cap })
  IsList-placed room = record {
    short = rw (placed c uid at length-room) (rw (length-append (remove_entry (nat_eq uid) c.entries) ((uid, at) ∷ [])) (room-by (nat_lt (length c.entries) 4294967295) (is_some (lookup (nat_eq uid) c.entries)) (length c.entries) (length (remove_entry (nat_eq uid) c.entries)) refl room (length-removed uid c.entries) was.short));
    open_end = was.open_end;
  }

  pub touched-placed : IsDistinct nat_eq (keys_of c.entries) → changes_of (demoted (nat_eq uid) (put_entries nat_eq c uid at)) ≡ touched at (uid ∷ []) (changes_of c.entries)
  touched-placed d = rw (placed c uid at length-room, without-changes_of uid c.entries d) (map-append (λ (entry : ℕ × ℕ). record { uid = entry.0; stamp = entry.1 }) (remove_entry (nat_eq uid) c.entries) ((uid, at) ∷ []))

-- what is on the list is found in the map
pub found-on : (uid : ℕ) (es : List (ℕ × ℕ)) → is_on (changes_of es) uid ≡ true → is_some (lookup (nat_eq uid) es) ≡ true
found-on uid es h = ap is_some (sym (stamp_at-changes_of uid es)) ∙ h

no_room-by : (short found : Bool) → (short || found) ≡ false → found ≡ true → false ≡ true
no_room-by true found h k = cc
no_room-by false found h k = sym h ∙ k

pub no_room : (uid : ℕ) (es : List (ℕ × ℕ)) → has_room uid es ≡ false → is_on (changes_of es) uid ≡ true → false ≡ true
no_room uid es full on = let found = found-on uid es on in no_room-by (nat_lt (length es) 4294967295) (is_some (lookup (nat_eq uid) es)) full found

pub changes_of-take : (count : ℕ) (es : List (ℕ × ℕ)) → changes_of (take count es) ≡ take count (changes_of es)
changes_of-take zero [] = refl
changes_of-take zero (e ∷ es) = refl
changes_of-take (suc count) [] = refl
changes_of-take (suc count) (e ∷ es) = ap (λ (l : List Listed). record { uid = e.0; stamp = e.1 } ∷ l) (changes_of-take count es)

-- a map that was cut stands for the front of the list
pub cut-front : (count : ℕ) (now before : List (ℕ × ℕ)) → take count now ≡ take count before → length now ≤ count → changes_of now ≡ take count (changes_of before)
cut-front count now before e h = ap changes_of (sym (take-whole count now h)) ∙ (ap changes_of e ∙ changes_of-take count before)
