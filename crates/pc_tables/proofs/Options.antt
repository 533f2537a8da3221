-- What may be there: what stands in its place, and what holds of it.
use Rattle.std.proofs.Common.{◌≡◌, Bool, true, false, Option, None, Some, is_some, unwrap_or, option_map, refl, sym, true≢false, MatchOption}
use Rattle.std.specs.Option.{option_or, option_map_or}
use Rattle.std.specs.Prelude.{⊤}

pub unwrap_or-constant : {X Y : Type 0} (value : Y) (found : Option X) → unwrap_or (option_map (λ _. value) found) value ≡ value
unwrap_or-constant value None = refl
unwrap_or-constant value (Some x) = refl

pub some-from_map_or : {X : Type 0} (test : X → Bool) (found : Option X) → option_map_or test found false ≡ true → is_some found ≡ true
some-from_map_or test None h = absurd (true≢false (sym h))
some-from_map_or test (Some x) h = refl

pub some-none : {X : Type 0} (x : X) → ◌≡◌ {A = Option X} (Some x) None → ⊥
some-none x e = cc

pub some-same : {X : Type 0} (x y : X) → ◌≡◌ {A = Option X} (Some x) (Some y) → x ≡ y
some-same x y e = cc

pub none-there : {X : Type 0} (found : Option X) → is_some found ≡ false → found ≡ None
none-there None h = refl
none-there (Some x) h = absurd (true≢false h)

pub option_or-none : {X : Type 0} (o : Option X) → option_or o None ≡ o
option_or-none None = refl
option_or-none (Some x) = refl

pub unwrap_or-option_map : {X Y : Type 0} (f : X → Y) (o : Option X) (d : X) → unwrap_or (option_map f o) (f d) ≡ f (unwrap_or o d)
unwrap_or-option_map f None d = refl
unwrap_or-option_map f (Some x) d = refl

pub unwrap_or-has : {X : Type 0} (P : X → Type 0) (o : Option X) (d : X) → MatchOption o ⊤ P → P d → P (unwrap_or o d)
unwrap_or-has P None d h g = g
unwrap_or-has P (Some x) d h g = h

pub found-self : {X : Type 0} (found : Option X) (d : X) → MatchOption found ⊤ (λ x. unwrap_or found d ≡ x)
found-self None d = tt
found-self (Some x) d = refl
