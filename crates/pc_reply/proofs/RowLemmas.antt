-- Mailboxes, one a line: what lines tell of them, and the line at fault.
use Rattle.std.proofs.Common.{◌≡◌, ℕ, suc, ◌+◌, ◌<◌, ◌≤◌, Bool, true, false, cond, not, ◌||◌, List, [], ◌∷◌, ◌++◌, length, map, take, drop, get_or, refl, sym, ap, subst, ◌∙◌, arith}
use Rattle.std.specs.List.{list_any}
use Rattle.std.specs.Str.{bytes_eq}
use Rattle.std.proofs.lemmas.Bool.{false≢true}
use Rattle.std.proofs.lemmas.List.{take-append-drop, take_all, take_more, length-take-le, map-append}
use Rattle.std.proofs.lemmas.List.Folds.{list_any-append}
use Rattle.std.proofs.Math.Seq.{drop-cons}
use Rattle.pc_wire.proofs.DecimalLemmas.{decimal_differ}
use Rattle.pc_reply.specs.Lists.{IsFirstFault, IsBadItem}
use Rattle.pc_reply.specs.Items.{MailboxRow, mailbox_line, row_lines, row_name, RowFits, IsRow, AreRows, AreMailboxLines}
use Rattle.pc_reply.proofs.ItemLemmas.{one_list, items_push, fault}
use Rattle.pc_reply.proofs.WordTexts.{row_words}

row_of : List ℕ → ℕ → ℕ → MailboxRow
row_of name live highest = record { name = name; live = live; highest = highest }

-- a mailbox is its parts
row_same : (one other : MailboxRow) → one.name ≡ other.name → one.live ≡ other.live → one.highest ≡ other.highest → one ≡ other
unfolding row_of
row_same one other name live highest =
    let made : row_of one.name one.live one.highest ≡ row_of other.name other.live other.highest = same one.name other.name one.live other.live one.highest other.highest name live highest in made
  where
    same : (n n' : List ℕ) (l l' h h' : ℕ) → n ≡ n' → l ≡ l' → h ≡ h' → row_of n l h ≡ row_of n' l' h'
    same n n' l l' h h' e0 e1 e2 = rw (e0, e1, e2) refl

-- a line tells of at most one mailbox
one_row : (one other : MailboxRow) (line : List ℕ) → IsRow one line → IsRow other line → one ≡ other
one_row one other line is also =
    let words = sym (row_words line one is) ∙ row_words line other also in
    row_same one other (cc) (decimal_differ one.live other.live (omega (arith, is.1.live)) (omega (arith, also.1.live)) (cc)) (decimal_differ one.highest other.highest (omega (arith, is.1.highest)) (omega (arith, also.1.highest)) (cc))

pub some_row : (row : MailboxRow) → 0 < length (row_lines row)
some_row row = omega arith

pub first_row : (one other : MailboxRow) (more rest : List (List ℕ)) → RowFits one → RowFits other → row_lines one ++ more ≡ row_lines other ++ rest → (one ≡ other) × (more ≡ rest)
first_row one other more rest fits fit e =
    let lines : mailbox_line one ∷ more ≡ mailbox_line other ∷ rest = e in
    (one_row one other (mailbox_line one) (refl, fits) (cc, fit), cc)

-- a line that tells of no new mailbox
bad_row : (known : List ℕ → Bool) (line : List ℕ) (rest : List (List ℕ)) → ((row : MailboxRow) → IsRow row line → known row.name ≡ true) → IsBadItem row_lines RowFits row_name known (line ∷ rest) 0
bad_row known line rest none = record {
  within = omega arith;
  some = omega arith;
  before = λ less. absurd (omega arith);
  here = λ _ row more other new e.
      let lines : mailbox_line row ∷ more ≡ line ∷ other = e in
      false≢true (sym new.1 ∙ none row (cc, new.0));
  end = λ at. absurd (omega arith);
}

-- a fault of rows is one of names
by_names : (lines : List (List ℕ)) (line : ℕ) → IsFirstFault AreRows lines line → IsFirstFault AreMailboxLines lines line
by_names lines line bad = record {
  within = bad.within;
  before = (map row_name bad.before.0, (bad.before.1.0, (bad.before.0, (refl, bad.before.1.1))));
  here = λ below (names, (more, (rows, are))). bad.here below (rows, (more, are.1));
  end = λ at names (rows, are). bad.end at rows are.1;
}

-- the lines up to a place, the line there, and those behind
pub cut_at : (all : List (List ℕ)) (place : ℕ) (item line : List ℕ) → place < length all → item ≡ get_or all place item → line ≡ item → drop place all ≡ line ∷ drop (suc place) all
cut_at all place item line below is same = drop-cons all place item below ∙ ap (λ first. first ∷ drop (suc place) all) (sym is ∙ sym same)

pub row_fault : (names : List (List ℕ)) (all lines : List (List ℕ)) (place : ℕ) (item line : List ℕ) → all ≡ lines → place < length all → item ≡ get_or all place item → line ≡ item → AreMailboxLines names (take place all) → ((row : MailboxRow) → IsRow row line → list_any (λ other. bytes_eq other row.name) names ≡ true) → IsFirstFault AreMailboxLines lines place
row_fault names all lines place item line same below is also (rows, (named, are)) none =
    let front = take place all in
    let rest = line ∷ drop (suc place) all in
    let known : List ℕ → Bool = λ name. list_any (λ other. bytes_eq other name) (map row_name rows) in
    let bad : IsBadItem row_lines RowFits row_name known rest 0 = bad_row known line (drop (suc place) all) (λ row told. ap (list_any (λ other. bytes_eq other row.name)) (sym named) ∙ none row told) in
    let first : IsFirstFault AreRows (front ++ rest) (length front + 0) = fault row_lines RowFits bytes_eq row_name some_row first_row rows front rest known 0 are (λ _. refl) bad in
    let whole : front ++ rest ≡ lines = ap (λ behind. front ++ behind) (sym (cut_at all place item line below is also)) ∙ take-append-drop place all ∙ same in
    let at : length front + 0 ≡ place = omega (arith, length-take-le place all (omega arith)) in
    by_names lines place (subst (λ (n : ℕ). IsFirstFault AreRows lines n) at (subst (λ (all : List (List ℕ)). IsFirstFault AreRows all (length front + 0)) whole first))

-- one mailbox more
pub row_on : (names : List (List ℕ)) (all : List (List ℕ)) (place : ℕ) (item line name : List ℕ) (row : MailboxRow) → place < length all → item ≡ get_or all place item → line ≡ item → AreMailboxLines names (take place all) → name ≡ row.name → IsRow row line → list_any (λ other. bytes_eq other name) names ≡ false → AreMailboxLines (names ++ name ∷ []) (take (place + 1) all)
row_on names all place item line name row below is also (rows, (named, are)) called told new =
    let front = take place all in
    let longer : take (place + 1) all ≡ front ++ row_lines row = take_more all place item below ∙ ap (λ last. front ++ last ∷ []) (sym is ∙ sym also ∙ told.0) in
    let unknown : list_any (λ other. bytes_eq other (row_name row)) (map row_name rows) ≡ false = ap (λ key. list_any (λ other. bytes_eq other key) (map row_name rows)) (sym called) ∙ ap (list_any (λ other. bytes_eq other name)) (sym named) ∙ new in
    let pushed = items_push row_lines RowFits bytes_eq row_name some_row first_row rows front row are told.1 unknown in
    (rows ++ row ∷ [], (ap (λ all. all ++ name ∷ []) named ∙ ap (λ last. map row_name rows ++ last ∷ []) called ∙ sym (map-append row_name rows (row ∷ [])), subst (λ (lines : List (List ℕ)). AreRows (rows ++ row ∷ []) lines) (sym longer) pushed))

-- lines tell of one list of names
pub names_once : (names others : List (List ℕ)) (lines : List (List ℕ)) → AreMailboxLines names lines → AreMailboxLines others lines → names ≡ others
names_once names others lines (rows, (named, are)) (more, (called, also)) =
    named ∙ ap (map row_name) (one_list row_lines RowFits bytes_eq row_name some_row first_row rows more lines are also) ∙ sym called

pub names_all : (names others : List (List ℕ)) (place : ℕ) (all lines : List (List ℕ)) → all ≡ lines → length all ≤ place → AreMailboxLines names (take place all) → AreMailboxLines others lines → names ≡ others
names_all names others place all lines same done are also =
    names_once names others lines (subst (λ (lines : List (List ℕ)). AreMailboxLines names lines) (take_all place all done ∙ same) are) also

-- a name that is put into the names
pub names_know : (names : List (List ℕ)) (name key : List ℕ) (before after : Bool) → before ≡ list_any (λ other. bytes_eq other key) names → after ≡ cond (bytes_eq name key) true before → after ≡ list_any (λ other. bytes_eq other key) (names ++ name ∷ [])
names_know names name key before after knows is =
    is ∙ ap (cond (bytes_eq name key) true) knows ∙ turned (bytes_eq name key) (list_any (λ other. bytes_eq other key) names) ∙ sym (list_any-append (λ other. bytes_eq other key) names (name ∷ []))
  where
    turned : (a b : Bool) → cond a true b ≡ (b || (a || false))
    turned true true = refl
    turned true false = refl
    turned false true = refl
    turned false false = refl

-- what putting a name into the names that are known tells
pub was_known : (added found : Bool) → added ≡ not found → added ≡ false → found ≡ true
was_known added true is none = refl
was_known added false is none = absurd (false≢true (sym none ∙ is))

pub was_new : (added found : Bool) → added ≡ not found → added ≡ true → found ≡ false
was_new added true is some = absurd (false≢true (sym is ∙ some))
was_new added false is some = refl
