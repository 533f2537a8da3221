-- What holds of a result where it is one, and where it isn't.
use Rattle.std.proofs.Common.{◌≡◌, Bool, false, true≢false, is_err, Result, Ok, Err, OnOk, IfOk, sym, ◌∙◌}

pub on-ok : {T E : Type 0} {P Q : Type 0} (result : Result T E) → (P → Q) → OnOk result P → OnOk result Q
on-ok (Ok value) f p = f p
on-ok (Err error) f p = p

pub from-ok : {T E : Type 0} {P : Type 0} (result : Result T E) (failed : Bool) → failed ≡ is_err result → failed ≡ false → OnOk result P → P
from-ok (Ok value) failed e f p = p
from-ok (Err error) failed e f p = absurd (true≢false (sym e ∙ f))

pub if-ok : {T E : Type 0} {P Q : T → Type 0} (result : Result T E) → ((value : T) → P value → Q value) → IfOk result P → IfOk result Q
if-ok (Ok value) f p = f value p
if-ok (Err error) f p = p
