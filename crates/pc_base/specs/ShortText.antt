-- A text with zeros behind it gives its bytes back.
use Rattle.std.specs.Prelude.{◌≡◌, ℕ, ◌-◌, ◌≤◌, List, ◌++◌, length, take, drop, replicate}
use Rattle.std.proofs.Common.{sym, ap, ◌∙◌, arith, take-append-drop, length-take-le}

pub padded_front : (room count : ℕ) (bytes : List ℕ) → count ≤ room → length bytes ≡ room → drop count bytes ≡ replicate (room - count) 0 → take count bytes ++ replicate (room - length (take count bytes)) 0 ≡ bytes
padded_front room count bytes within full zeros =
    let whole : length (take count bytes) ≡ count = length-take-le count bytes (omega arith) in
    ap (λ n. take count bytes ++ replicate (room - n) 0) whole ∙ ap (λ rest. take count bytes ++ rest) (sym zeros) ∙ take-append-drop count bytes
