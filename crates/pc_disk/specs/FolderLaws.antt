-- What stands under the names of a folder once a disk was taken out or given back.
use Rattle.std.proofs.Common.{◌≡◌, Bool, true, false, cond, not, List, ◌∷◌, [], refl, sym, ◌∙◌, ap}
use Rattle.std.specs.Prelude.{None, Some, ◌&&◌}
use Rattle.std.specs.Cmp.{first_so, second_so}
use Rattle.std.specs.Cmp.Lexicographic.{pointwise, bytes_decides}
use Rattle.std.proofs.Math.Dec.{eqb}
use Rattle.pc_base.specs.declared.name.StoreName.{StoreName}
use Rattle.pc_base.specs.declared.name.StoreName.TheVariants.{Office, Account, Client}
use Rattle.pc_disk.specs.Folder.{is_same, standing, without}

both_so : (a b : Bool) → a ≡ true → b ≡ true → (a && b) ≡ true
both_so a b one other = rw (one, other) refl

pub is_same-itself : (name : StoreName) → is_same name name ≡ true
is_same-itself Office = refl
is_same-itself (Account user) = (bytes_decides user user).1 refl
is_same-itself (Client user client) = both_so _ _ ((bytes_decides user user).1 refl) ((bytes_decides client client).1 refl)

pub is_same-equal : (name other : StoreName) → is_same name other ≡ true → name ≡ other
is_same-equal Office Office same = refl
is_same-equal Office (Account _) same = cc same
is_same-equal Office (Client _ _) same = cc same
is_same-equal (Account user) (Account other) same = ap Account ((bytes_decides user other).0 same)
is_same-equal (Account _) Office same = cc same
is_same-equal (Account _) (Client _ _) same = cc same
is_same-equal (Client user client) (Client other_user other) same =
    let users = (bytes_decides user other_user).0 (first_so (pointwise eqb user other_user) (pointwise eqb client other) same) in
    let clients = (bytes_decides client other).0 (second_so (pointwise eqb user other_user) (pointwise eqb client other) same) in
    λ i. Client (users i) (clients i)
is_same-equal (Client _ _) Office same = cc same
is_same-equal (Client _ _) (Account _) same = cc same

apart : (b : Bool) → (b ≡ true → ⊥) → b ≡ false
apart true isnt = absurd (isnt refl)
apart false isnt = refl

-- names that differ aren't the same
pub is_same-apart : (name other : StoreName) → (name ≡ other → ⊥) → is_same name other ≡ false
is_same-apart name other differ = apart (is_same name other) (λ same. differ (is_same-equal name other same))

pub standing-put : {X : Type 0} (name : StoreName) (x : X) (shelf : List (StoreName × X)) → standing name ((name, x) ∷ shelf) ≡ Some x
standing-put name x shelf = rw (is_same-itself name) refl

pub others-put : {X : Type 0} (name other : StoreName) (x : X) (shelf : List (StoreName × X)) → (other ≡ name → ⊥) → standing other ((name, x) ∷ shelf) ≡ standing other shelf
others-put name other x shelf differ = rw (is_same-apart other name differ) refl

none-kept : {X : Type 0} (name : StoreName) (kept : StoreName × X) (rest : List (StoreName × X)) (b : Bool) → is_same name kept.0 ≡ b
    → standing name rest ≡ None → standing name (cond (not b) (kept ∷ rest) rest) ≡ None
none-kept name kept rest true same none = none
none-kept name kept rest false same none = rw same none

-- nothing stands under a name whose disk was taken out
pub standing-without : {X : Type 0} (name : StoreName) (shelf : List (StoreName × X)) → standing name (without name shelf) ≡ None
standing-without name [] = refl
standing-without name (kept ∷ shelf) = none-kept name kept (without name shelf) (is_same name kept.0) refl (standing-without name shelf)

other-kept : {X : Type 0} (name other : StoreName) (kept : StoreName × X) (rest shelf : List (StoreName × X)) (b : Bool) → is_same name kept.0 ≡ b → (other ≡ name → ⊥)
    → standing other rest ≡ standing other shelf → standing other (cond (not b) (kept ∷ rest) rest) ≡ standing other (kept ∷ shelf)
other-kept name other kept rest shelf true same differ as_before =
    as_before ∙ rw (is_same-apart other kept.0 (λ found. differ (found ∙ sym (is_same-equal name kept.0 same)))) refl
other-kept name other kept rest shelf false same differ as_before = ap (λ stood. cond (is_same other kept.0) (Some kept.1) stood) as_before

-- the other disks stand as before
pub others-without : {X : Type 0} (name other : StoreName) (shelf : List (StoreName × X)) → (other ≡ name → ⊥) → standing other (without name shelf) ≡ standing other shelf
others-without name other [] differ = refl
others-without name other (kept ∷ shelf) differ =
    other-kept name other kept (without name shelf) shelf (is_same name kept.0) refl differ (others-without name other shelf differ)

-- where nothing stands under a name, nothing is taken out
all-kept : {X : Type 0} (name : StoreName) (kept : StoreName × X) (rest shelf : List (StoreName × X)) (b : Bool) → is_same name kept.0 ≡ b
    → (standing name shelf ≡ None → rest ≡ shelf) → cond b (Some kept.1) (standing name shelf) ≡ None → cond (not b) (kept ∷ rest) rest ≡ kept ∷ shelf
all-kept name kept rest shelf true same stays none = cc none
all-kept name kept rest shelf false same stays none = ap (λ others. kept ∷ others) (stays none)

pub without_none : {X : Type 0} (name : StoreName) (shelf : List (StoreName × X)) → standing name shelf ≡ None → without name shelf ≡ shelf
without_none name [] none = refl
without_none name (kept ∷ shelf) none = all-kept name kept (without name shelf) shelf (is_same name kept.0) refl (without_none name shelf) none
