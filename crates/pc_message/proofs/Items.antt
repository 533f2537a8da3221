-- The items of a text, one byte on.
use Rattle.std.proofs.Common.{◌≡◌, ◌==◌, ◌<◌, ◌≤◌, ◌+◌, ◌-◌, ℕ, Bool, true, false, not, ◌&&◌, cond, List, [], ◌∷◌, ◌++◌, length, get_or, take, drop, refl, sym, ap, ◌∙◌, append-nil, append_assoc, arith}
use Rattle.std.proofs.lemmas.Bool.Decides.{nat_tests}
use Rattle.std.proofs.lemmas.List.{at_drop_more, at_drop_all, drop-drop, length-drop, take_all, take_more, take_rest}
use Rattle.std.specs.List.{flat_map, onto_first}
use Rattle.pc_message.proofs.Collected.{StartWith}
use Rattle.pc_message.specs.Recipients.{before_items, item_addresses, items_of, quoted_after, text_addresses}

-- a front before the first item
pub onto_items : List ℕ → List (List ℕ) → List (List ℕ)
onto_items front [] = front ∷ []
onto_items front (item ∷ items) = (front ++ item) ∷ items

onto_items-onto_first : (front : List ℕ) (byte : ℕ) (items : List (List ℕ)) → onto_items front (onto_first byte items) ≡ onto_items (front ++ byte ∷ []) items
unfolding onto_items
onto_items-onto_first front byte [] = refl
onto_items-onto_first front byte (item ∷ items) = ap (λ first. first ∷ items) (sym (append_assoc front (byte ∷ []) item))

onto_first-alone : (byte : ℕ) (items : List (List ℕ)) → onto_items [] (onto_first byte items) ≡ onto_first byte items
unfolding onto_items
onto_first-alone byte [] = refl
onto_first-alone byte (item ∷ items) = refl

items_of-alone : (quoted : Bool) (text : List ℕ) → onto_items [] (items_of quoted text) ≡ items_of quoted text
unfolding onto_items items_of
items_of-alone quoted [] = refl
items_of-alone quoted (byte ∷ text) =
    let items = items_of (quoted_after quoted byte) text in
    elim (byte == 44 && not quoted) as (λ (split : Bool). onto_items [] (before_items split byte items) ≡ before_items split byte items) [ true ↦ refl | false ↦ onto_first-alone byte items ]

items_of-drop : (quoted : Bool) (text : List ℕ) (end byte : ℕ) → end < length text → byte ≡ get_or text end 0 → items_of quoted (drop end text) ≡ before_items (byte == 44 && not quoted) byte (items_of (quoted_after quoted byte) (drop (end + 1) text))
unfolding items_of
items_of-drop quoted text end byte within read = rw read (at_drop_more (items_of quoted) text end 0 within)

-- the front of a text up to a place, which holds no comma outside quotes, is the front of its first item
pub record IsFront (text : List ℕ) (end : ℕ) (quoted : Bool) : Type 0 where
  pub items : items_of false text ≡ onto_items (take end text) (items_of quoted (drop end text))

pub IsFront-none : (text : List ℕ) → IsFront text 0 false
IsFront-none text = record { items = sym (items_of-alone false text) }

pub IsFront-more : (text : List ℕ) (end byte : ℕ) (quoted : Bool) → end < length text → byte ≡ get_or text end 0 → (byte == 44 && not quoted) ≡ false → IsFront text end quoted → IsFront text (end + 1) (quoted_after quoted byte)
IsFront-more text end byte quoted within read plain front =
    let items = items_of (quoted_after quoted byte) (drop (end + 1) text) in
    let next : items_of quoted (drop end text) ≡ onto_first byte items = items_of-drop quoted text end byte within read ∙ ap (λ split. before_items split byte items) plain in
    record { items = front.items ∙ ap (onto_items (take end text)) next ∙ onto_items-onto_first (take end text) byte items ∙ ap (λ first. onto_items first items) (ap (λ last. take end text ++ last ∷ []) read ∙ sym (take_more text end 0 within)) }

pub items_of-split : (text : List ℕ) (end byte : ℕ) (quoted : Bool) → end < length text → byte ≡ get_or text end 0 → (byte == 44 && not quoted) ≡ true → IsFront text end quoted → items_of false text ≡ cond (end == length text) (text ∷ []) (take end text ∷ items_of false (drop (end + 1) text))
unfolding onto_items
items_of-split text end byte quoted within read splits front =
    let outside : quoted_after quoted byte ≡ false = grind (arith, nat_tests) in
    let inside : (end == length text) ≡ false = grind (arith, nat_tests) in
    let rest = drop (end + 1) text in
    let next : items_of quoted (drop end text) ≡ [] ∷ items_of (quoted_after quoted byte) rest = items_of-drop quoted text end byte within read ∙ ap (λ split. before_items split byte (items_of (quoted_after quoted byte) rest)) splits in
    let items : items_of false text ≡ take end text ∷ items_of false rest = front.items ∙ ap (onto_items (take end text)) (next ∙ ap (λ flag. [] ∷ items_of flag rest) outside) ∙ ap (λ first. first ∷ items_of false rest) (append-nil (take end text)) in
    rw inside items

pub items_of-whole : (text : List ℕ) (end : ℕ) (quoted : Bool) → length text ≤ end → IsFront text end quoted → items_of false text ≡ cond (length text == length text) (text ∷ []) (take (length text) text ∷ items_of false (drop (length text + 1) text))
unfolding items_of onto_items
items_of-whole text end quoted all front =
    let same : (length text == length text) ≡ true = grind (arith, nat_tests) in
    let items : items_of false text ≡ text ∷ [] = front.items ∙ ap (onto_items (take end text)) (at_drop_all (items_of quoted) text end all) ∙ ap (λ first. first ∷ []) (append-nil (take end text) ∙ take_all end text all) in
    rw same items

-- the addresses of a text are those of its first item and those of what follows
pub text_addresses-first : (text item : List ℕ) (end : ℕ) → item ≡ take end text → end ≤ length text → items_of false text ≡ cond (end == length text) (text ∷ []) (take end text ∷ items_of false (drop (end + 1) text)) → StartWith (text_addresses text) (item_addresses item) (cond (end == length text) [] (text_addresses (drop (end + 1) text)))
text_addresses-first text item end front within split = record {
  spelled = rw front (ap (flat_map item_addresses) split ∙ elim (end == length text) as (λ (whole : Bool). (end == length text) ≡ whole → flat_map item_addresses (cond whole (text ∷ []) (take end text ∷ items_of false (drop (end + 1) text))) ≡ item_addresses (take end text) ++ cond whole [] (text_addresses (drop (end + 1) text))) [
    | true ↦ λ e. ap (λ part. item_addresses part ++ []) (sym (take_all end text (grind (arith, nat_tests))))
    | false ↦ λ e. refl
  ] refl);
}

pub text_addresses-next : (text item after : List ℕ) (end : ℕ) → item ≡ take end text → after ≡ drop end text → 1 ≤ length after → end ≤ length text → items_of false text ≡ cond (end == length text) (text ∷ []) (take end text ∷ items_of false (drop (end + 1) text)) → StartWith (text_addresses text) (item_addresses item) (text_addresses (take (length after - 1) (drop 1 after)))
text_addresses-next text item after end front back some within split =
    let inside : (end == length text) ≡ false = grind (arith, nat_tests, ap length back, length-drop end text) in
    let rest : take (length after - 1) (drop 1 after) ≡ drop (end + 1) text = take_rest after 1 ∙ ap (drop 1) back ∙ drop-drop 1 end text in
    let first = text_addresses-first text item end front within split in
    record { spelled = first.spelled ∙ ap (λ whole. item_addresses item ++ cond whole [] (text_addresses (drop (end + 1) text))) inside ∙ ap (λ part. item_addresses item ++ text_addresses part) (sym rest) }
