-- Tests of several parts.
use Rattle.std.proofs.Common.{◌≡◌, Bool, true, false, cond, ◌&&◌, refl, sym, true≢false}

-- the parts of tests that all pass
pub and3 : (a b c : Bool) → (a && b && c) ≡ true → (a ≡ true) × (b ≡ true) × (c ≡ true)
and3 true true c h = (refl, refl, h)
and3 true false c h = absurd (true≢false (sym h))
and3 false b c h = absurd (true≢false (sym h))

pub and5 : (a b c d e : Bool) → (a && b && c && d && e) ≡ true → (a ≡ true) × (b ≡ true) × (c ≡ true) × (d ≡ true) × (e ≡ true)
and5 true true true d e h = let rest = and3 true d e h in (refl, refl, refl, rest.1, rest.2)
and5 true true false d e h = absurd (true≢false (sym h))
and5 true false c d e h = absurd (true≢false (sym h))
and5 false b c d e h = absurd (true≢false (sym h))

pub cond_same : {X : Type 0} (b : Bool) (x : X) → x ≡ cond b x x
cond_same true x = refl
cond_same false x = refl
