-- How much longer update lists are once uids are touched.
use Rattle.std.proofs.Common.{◌≡◌, ℕ, suc, ◌+◌, ◌<◌, ◌≤◌, ◌==◌, Bool, true, false, cond, not, ◌&&◌, ◌||◌, List, [], ◌∷◌, length, refl, sym, ◌∙◌, ap, subst, arith, length-append}
use Rattle.std.specs.List.{filter, AllByRecursion as Every}
use Rattle.std.proofs.lemmas.Bool.{ne_eqb, eqb-true, eq-eqb}
use Rattle.pc_account_history.specs.declared.kept.Kept.{Kept}
use Rattle.pc_account_history.specs.declared.kept.Listed.{Listed}
use Rattle.pc_tables.specs.Table.{has_number, map_values, total}
use Rattle.pc_account_history.specs.Step.{stamped, without, touched, uids_of}
use Rattle.pc_tables.specs.Order.{Ordered}
use Rattle.pc_account_history.specs.Legal.{HasOtherUid, AreListsOf, IsChange}
use Rattle.pc_tables.proofs.Lists.{length-filter-le}
use Rattle.pc_mailbox.specs.UpdateList.{is_on, takers_of, Rise}
use Rattle.pc_mailbox.specs.Mailbox.{is_deleted}
use Rattle.pc_mailbox.specs.Growth.{unlisted, unlisted_by_all}
use Rattle.pc_mailbox.proofs.Touches.{on-cons}

-- ---- one list

-- how many of these uids aren't on a list
abbrev pub missing : List ℕ → List Listed → ℕ
missing uids list = length (filter (λ uid. not (is_on list uid)) uids)

abbrev pub Apart : List Listed → Type 0
Apart list = Ordered HasOtherUid list

length-cond : {X : Type 0} (b : Bool) (x : X) (xs : List X) → length (cond b (x ∷ xs) xs) ≡ cond b 1 0 + length xs
length-cond true x xs = omega arith
length-cond false x xs = omega arith

pub stamped-length : (number : ℕ) (uids : List ℕ) → length (stamped number uids) ≡ length uids
stamped-length number [] = refl
stamped-length number (uid ∷ uids) = ap suc (stamped-length number uids)

-- a number below all others isn't among them
below-apart : (uid : ℕ) (uids : List ℕ) → Every (λ (later : ℕ). uid < later) uids → has_number uid uids ≡ false
below-apart uid [] h = refl
below-apart uid (other ∷ uids) h = rw (ne_eqb other uid (λ e. let below = h.0 in omega (arith, below, e))) (below-apart uid uids h.1)

off-list : (uid : ℕ) (x : Listed) (list : List Listed) → x.uid ≡ uid → Every (HasOtherUid x) list → is_on list uid ≡ false
off-list uid x [] e h = refl
off-list uid x (y ∷ list) e h =
    let differs : (x.uid == y.uid) ≡ false = h.0 in
    let apart : (y.uid == uid) ≡ false = ne_eqb y.uid uid (λ g. absurd (true_false (sym (eq-eqb x.uid y.uid (e ∙ sym g)) ∙ differs))) in
    rw (on-cons y list uid, apart) (off-list uid x list e h.1)
  where
    true_false : true ≡ false → ⊥
    true_false k = cc

missing-step : (b c r on : Bool) (uid n m : ℕ) (rest more : List ℕ) → on ≡ (b || c) → (b ≡ true → (c ≡ false) × (r ≡ false)) → length rest + cond r 1 0 ≡ length more → length (cond (not on) (uid ∷ rest) rest) + cond (b || r) 1 0 ≡ length (cond (not c) (uid ∷ more) more)
missing-step true true r on uid n m rest more e h g = let k = (h refl).0 in absurd (bad k)
  where
    bad : true ≡ false → ⊥
    bad k = cc
missing-step true false true on uid n m rest more e h g = let k = (h refl).1 in absurd (bad k)
  where
    bad : true ≡ false → ⊥
    bad k = cc
missing-step true false false on uid n m rest more e h g = rw e (omega (arith, g))
missing-step false true r on uid n m rest more e h g = rw e g
missing-step false false r on uid n m rest more e h g = rw e (omega (arith, g))

missing-cons : (uids : List ℕ) (x : Listed) (list : List Listed) → Rise uids → Every (HasOtherUid x) list → missing uids (x ∷ list) + cond (has_number x.uid uids) 1 0 ≡ missing uids list
missing-cons [] x list r h = refl
missing-cons (uid ∷ uids) x list r h =
    let same_test : (uid == x.uid) ≡ (x.uid == uid) = flip uid x.uid in
    rw same_test
    (missing-step (x.uid == uid) (is_on list uid) (has_number x.uid uids) (is_on (x ∷ list) uid) uid 0 0 (filter (λ u. not (is_on (x ∷ list) u)) uids) (filter (λ u. not (is_on list u)) uids) (on-cons x list uid)
    (λ e. let here : x.uid ≡ uid = eqb-true x.uid uid e in (off-list uid x list here h, subst (λ (n : ℕ). has_number n uids ≡ false) (sym here) (below-apart uid uids r.0)))
    (missing-cons uids x list r.1 h))
  where
    flip : (a b : ℕ) → (a == b) ≡ (b == a)
    flip a b = grind arith

pub touched-length : (number : ℕ) (uids : List ℕ) (list : List Listed) → Rise uids → Apart list → length (touched number uids list) ≡ length list + missing uids list
touched-length number uids list r apart = length-append (without uids list) (stamped number uids) ∙ ap (λ n. length (without uids list) + n) (stamped-length number uids) ∙ kept-length list apart
  where
    none-on : (us : List ℕ) → missing us [] ≡ length us
    none-on [] = refl
    none-on (u ∷ us) = ap suc (none-on us)

    arrange : (b : Bool) (x : Listed) (rest : List Listed) (us more less : ℕ) (whole : ℕ) → length rest + us ≡ whole + more → less + cond b 1 0 ≡ more → length (cond (not b) (x ∷ rest) rest) + us ≡ suc whole + less
    arrange true x rest us more less whole h g = omega (arith, h, g)
    arrange false x rest us more less whole h g = omega (arith, h, g)

    kept-length : (l : List Listed) → Apart l → length (without uids l) + length uids ≡ length l + missing uids l
    kept-length [] h = let none = none-on uids in omega (arith, none)
    kept-length (x ∷ l) h = arrange (has_number x.uid uids) x (without uids l) (length uids) (missing uids l) (missing uids (x ∷ l)) (length l) (kept-length l h.1) (missing-cons uids x l r h.0)

-- ---- all lists of a mailbox

abbrev pub AllApart : List (List ℕ × List Listed) → Type 0
AllApart lists = Every (λ (entry : List ℕ × List Listed). Apart entry.1) lists

pub lists-apart : (number highest : ℕ) (clients : List (List ℕ × ℕ)) (lists : List (List ℕ × List Listed)) → AreListsOf number highest clients lists → AllApart lists
lists-apart number highest [] [] h = tt
lists-apart number highest [] (list ∷ lists) h = absurd h
lists-apart number highest (client ∷ clients) [] h = absurd h
lists-apart number highest (client ∷ clients) (list ∷ lists) h = (h.1.distinct, lists-apart number highest clients lists h.2)

pub lists-length : (number highest : ℕ) (clients : List (List ℕ × ℕ)) (lists : List (List ℕ × List Listed)) → AreListsOf number highest clients lists → length lists ≡ length clients
lists-length number highest [] [] h = refl
lists-length number highest [] (list ∷ lists) h = absurd h
lists-length number highest (client ∷ clients) [] h = absurd h
lists-length number highest (client ∷ clients) (list ∷ lists) h = ap suc (lists-length number highest clients lists h.2)

pub touched-for-all : (number : ℕ) (uids : List ℕ) (lists : List (List ℕ × List Listed)) → Rise uids → AllApart lists → total (λ (entry : List ℕ × List Listed). length entry.1) (map_values (touched number uids) lists) ≡ total (λ (entry : List ℕ × List Listed). length entry.1) lists + total (λ (entry : List ℕ × List Listed). missing uids entry.1) lists
touched-for-all number uids [] r h = refl
touched-for-all number uids (entry ∷ lists) r h = let one = touched-length number uids entry.1 r h.0 in let rest = touched-for-all number uids lists r h.1 in omega (arith, one, rest)

chosen-step : (chosen : Kept → Bool) (kept : Kept) (messages : List Kept) (list : List Listed) (b on : Bool) → is_on list kept.uid ≡ on → missing (uids_of (filter chosen messages)) list ≡ length (filter (λ (k : Kept). chosen k && not (is_on list k.uid)) messages) → missing (uids_of (cond b (kept ∷ filter chosen messages) (filter chosen messages))) list ≡ length (cond (b && not on) (kept ∷ filter (λ (k : Kept). chosen k && not (is_on list k.uid)) messages) (filter (λ (k : Kept). chosen k && not (is_on list k.uid)) messages))
chosen-step chosen kept messages list true true e h = rw e h
chosen-step chosen kept messages list true false e h = rw e (ap suc h)
chosen-step chosen kept messages list false on e h = h

-- uids of messages that pass a test
pub missing-messages : (chosen : Kept → Bool) (messages : List Kept) (list : List Listed) → missing (uids_of (filter chosen messages)) list ≡ length (filter (λ (kept : Kept). chosen kept && not (is_on list kept.uid)) messages)
missing-messages chosen [] list = refl
missing-messages chosen (kept ∷ messages) list = chosen-step chosen kept messages list (chosen kept) (is_on list kept.uid) refl (missing-messages chosen messages list)

total-same : {X : Type 0} (f g : X → ℕ) (xs : List X) → ((x : X) → f x ≡ g x) → total f xs ≡ total g xs
total-same f g [] h = refl
total-same f g (x ∷ xs) h = let one = h x in let rest = total-same f g xs h in omega (arith, one, rest)

pub missing-deleted : (messages : List Kept) (lists : List (List ℕ × List Listed)) → total (λ (entry : List ℕ × List Listed). missing (uids_of (filter is_deleted messages)) entry.1) lists ≡ unlisted_by_all true messages lists
missing-deleted messages lists = total-same (λ (entry : List ℕ × List Listed). missing (uids_of (filter is_deleted messages)) entry.1) (λ (entry : List ℕ × List Listed). unlisted true messages entry.1) lists (λ entry. missing-messages is_deleted messages entry.1)

pub missing-whole : (messages : List Kept) (list : List Listed) → missing (uids_of messages) list ≡ unlisted false messages list
missing-whole [] list = refl
missing-whole (kept ∷ messages) list = elim (is_on list kept.uid) as (λ on. length (cond (not on) (kept.uid ∷ filter (λ uid. not (is_on list uid)) (uids_of messages)) (filter (λ uid. not (is_on list uid)) (uids_of messages))) ≡ length (cond (not on) (kept ∷ filter (λ (k : Kept). not (is_on list k.uid)) messages) (filter (λ (k : Kept). not (is_on list k.uid)) messages))) [ true ↦ missing-whole messages list | false ↦ ap suc (missing-whole messages list) ]

pub missing-all : (messages : List Kept) (lists : List (List ℕ × List Listed)) → total (λ (entry : List ℕ × List Listed). missing (uids_of messages) entry.1) lists ≡ unlisted_by_all false messages lists
missing-all messages lists = total-same (λ (entry : List ℕ × List Listed). missing (uids_of messages) entry.1) (λ (entry : List ℕ × List Listed). unlisted false messages entry.1) lists (λ entry. missing-whole messages entry.1)

-- one uid: each client has it listed or misses it
pub missing-one : (uid : ℕ) (lists : List (List ℕ × List Listed)) → total (λ (entry : List ℕ × List Listed). missing (uid ∷ []) entry.1) lists + takers_of uid lists ≡ length lists
missing-one uid [] = refl
missing-one uid (entry ∷ lists) = by_test (is_on entry.1 uid) (missing-one uid lists)
  where
    by_test : (on : Bool) → total (λ (e : List ℕ × List Listed). missing (uid ∷ []) e.1) lists + takers_of uid lists ≡ length lists → (length (cond (not on) (uid ∷ []) []) + total (λ (e : List ℕ × List Listed). missing (uid ∷ []) e.1) lists) + length (cond on (entry ∷ filter (λ (e : List ℕ × List Listed). is_on e.1 uid) lists) (filter (λ (e : List ℕ × List Listed). is_on e.1 uid) lists)) ≡ suc (length lists)
    by_test true h = omega (arith, h)
    by_test false h = omega (arith, h)

-- a uid past the highest is on no list
pub unlisted-above : (number highest birth uid : ℕ) (list : List Listed) → Every (IsChange number highest birth) list → highest < uid → is_on list uid ≡ false
unlisted-above number highest birth uid [] h lt = refl
unlisted-above number highest birth uid (x ∷ list) h lt =
    let given = h.0.given in
    rw (on-cons x list uid, ne_eqb x.uid uid (λ e. omega (arith, given, lt, e))) (unlisted-above number highest birth uid list h.1 lt)

pub missing-next : (number highest : ℕ) (clients : List (List ℕ × ℕ)) (lists : List (List ℕ × List Listed)) (uid : ℕ) → AreListsOf number highest clients lists → highest < uid → total (λ (entry : List ℕ × List Listed). missing (uid ∷ []) entry.1) lists ≡ length clients
missing-next number highest [] [] uid h lt = refl
missing-next number highest [] (list ∷ lists) uid h lt = absurd h
missing-next number highest (client ∷ clients) [] uid h lt = absurd h
missing-next number highest (client ∷ clients) (list ∷ lists) uid h lt =
    let off = unlisted-above number highest client.1 uid list.1 h.1.changes lt in
    let rest = missing-next number highest clients lists uid h.2 lt in
    rw off (omega (arith, rest))

pub takers-few : (uid : ℕ) (lists : List (List ℕ × List Listed)) → takers_of uid lists ≤ length lists
takers-few uid lists = length-filter-le (λ (entry : List ℕ × List Listed). is_on entry.1 uid) lists
