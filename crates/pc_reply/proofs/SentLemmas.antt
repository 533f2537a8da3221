-- Replies line by line: what lines make of one, and which line fits none.
use Rattle.std.proofs.Common.{◌≡◌, ℕ, ◌+◌, ◌<◌, ◌≤◌, Bool, true, false, nat_le, IsTrue, codes, List, [], ◌∷◌, ◌++◌, length, map, refl, sym, ap, subst, ◌∙◌, arith, append_assoc, length-append, lit≤}
use Rattle.std.specs.Prelude.{MatchBool}
use Rattle.std.specs.List.{AllZip, list_any, list_all}
use Rattle.std.proofs.lemmas.Bool.{and_parts, or_parts, false≢true, eqb-true, MatchBool-at_true, MatchBool-at_false}
use Rattle.std.proofs.lemmas.Bool.Decides.{nat_tests}
use Rattle.std.proofs.lemmas.List.{map-append}
use Rattle.pc_wire.specs.Lines.{has_feed}
use Rattle.pc_wire.specs.Body.{dot, Carries, size_of}
use Rattle.pc_wire.specs.BodyFeed.{is_dot, content_of, all_fit}
use Rattle.pc_wire.proofs.BodyLemmas.{content-Carries, AllZip-contents}
use Rattle.pc_reply.specs.declared.head.Head.{Head}
use Rattle.pc_reply.specs.declared.head.Head.TheVariants as head
use Rattle.pc_reply.specs.declared.reply.Reply.{Reply}
use Rattle.pc_reply.specs.Head.{head_text, IsHead, has_list}
use Rattle.pc_reply.specs.Reply.{list_fits, IsSentFor, Follows, IsSentAs}
use Rattle.pc_reply.specs.ReplyFeed.{Progress, no_line, listing, stopped, wanting}
use Rattle.pc_reply.specs.Told.{Makes}
use Rattle.pc_reply.proofs.HeadLemmas.{one_head}

-- the only dot is the single one
pub dot_is : (line : List ℕ) → is_dot line ≡ true → line ≡ dot
dot_is [] h = absurd (false≢true h)
dot_is (b ∷ []) h = ap (λ byte. byte ∷ []) (eqb-true b 46 h)
dot_is (b ∷ c ∷ cs) h = absurd (false≢true h)

-- lines up to their first dot
to_first_dot : (sent others : List (List ℕ)) (more rest : List (List ℕ)) → list_any is_dot sent ≡ false → list_any is_dot others ≡ false → sent ++ dot ∷ more ≡ others ++ dot ∷ rest → (sent ≡ others) × (more ≡ rest)
to_first_dot [] [] more rest h k e = (refl, cc)
to_first_dot [] (y ∷ ys) more rest h k e =
    let same : dot ∷ more ≡ y ∷ (ys ++ dot ∷ rest) = e in
    let one : dot ≡ y = cc in
    absurd (false≢true (sym (or_parts (is_dot y) (list_any is_dot ys) k).0 ∙ sym (ap is_dot one)))
to_first_dot (x ∷ xs) [] more rest h k e =
    let same : x ∷ (xs ++ dot ∷ more) ≡ dot ∷ rest = e in
    let one : x ≡ dot = cc in
    absurd (false≢true (sym (or_parts (is_dot x) (list_any is_dot xs) h).0 ∙ ap is_dot one))
to_first_dot (x ∷ xs) (y ∷ ys) more rest h k e =
    let same : x ∷ (xs ++ dot ∷ more) ≡ y ∷ (ys ++ dot ∷ rest) = e in
    let tails : xs ++ dot ∷ more ≡ ys ++ dot ∷ rest = cc in
    let one : x ≡ y = cc in
    let more = to_first_dot xs ys more rest (or_parts (is_dot x) (list_any is_dot xs) h).1 (or_parts (is_dot y) (list_any is_dot ys) k).1 tails in
    (ap (λ z. z ∷ xs) one ∙ ap (λ zs. y ∷ zs) more.0, more.1)

-- a line before the dot is one of the lines sent
before_dot : (front others : List (List ℕ)) (line : List ℕ) (more : List (List ℕ)) → list_any is_dot front ≡ false → is_dot line ≡ false → front ++ line ∷ more ≡ others ++ dot ∷ [] → (tail : List (List ℕ)) × (others ≡ front ++ line ∷ tail)
before_dot [] [] line more h k e =
    let same : line ∷ more ≡ dot ∷ [] = e in
    let one : line ≡ dot = cc in
    absurd (false≢true (sym k ∙ ap is_dot one))
before_dot [] (y ∷ ys) line more h k e =
    let same : line ∷ more ≡ y ∷ (ys ++ dot ∷ []) = e in
    let one : line ≡ y = cc in
    (ys, ap (λ z. z ∷ ys) (sym one))
before_dot (x ∷ xs) [] line more h k e =
    let same : x ∷ (xs ++ line ∷ more) ≡ dot ∷ [] = e in
    let one : x ≡ dot = cc in
    absurd (false≢true (sym (or_parts (is_dot x) (list_any is_dot xs) h).0 ∙ ap is_dot one))
before_dot (x ∷ xs) (y ∷ ys) line more h k e =
    let same : x ∷ (xs ++ line ∷ more) ≡ y ∷ (ys ++ dot ∷ []) = e in
    let tails : xs ++ line ∷ more ≡ ys ++ dot ∷ [] = cc in
    let one : x ≡ y = cc in
    let found = before_dot xs ys line more (or_parts (is_dot x) (list_any is_dot xs) h).1 k tails in
    (found.0, ap (λ z. z ∷ ys) (sym one) ∙ ap (λ zs. x ∷ zs) found.1)

reply_of : Head → List (List ℕ) → Reply
reply_of head lines = record { head = head; lines = lines }

reply_same : (one other : Reply) → one.head ≡ other.head → one.lines ≡ other.lines → one ≡ other
unfolding reply_of
reply_same one other head lines =
    let made : reply_of one.head one.lines ≡ reply_of other.head other.lines = same one.head other.head one.lines other.lines head lines in made
  where
    same : (h h' : Head) (l l' : List (List ℕ)) → h ≡ h' → l ≡ l' → reply_of h l ≡ reply_of h' l'
    same h h' l l' e0 e1 = rw (e0, e1) refl

-- lines are sent for at most one list, and those of no list begin those of another
one_list : (lines others : List (List ℕ)) (all more : List (List ℕ)) → IsSentFor lines all → IsSentFor others (all ++ more) → (lines ≡ others) × (more ≡ [])
one_list lines others all more (sent, (is, carry, fit, few)) (sent', (is', carry', fit', few')) =
    let p = AllZip-contents sent lines carry in
    let q = AllZip-contents sent' others carry' in
    let joined : sent ++ dot ∷ more ≡ sent' ++ dot ∷ [] = sym (ap (λ front. front ++ more) is ∙ append_assoc sent (dot ∷ []) more) ∙ is' in
    let same = to_first_dot sent sent' more [] p.0 q.0 joined in
    (p.1 ∙ ap (map content_of) same.0 ∙ sym q.1, same.1)

-- lines are sent for at most one reply, and those of no reply begin those of another
pub one_reply : (one other : Reply) (lines more : List (List ℕ)) → IsSentAs one lines → IsSentAs other (lines ++ more) → (one ≡ other) × (more ≡ [])
one_reply one other lines more (first, (others, (is, head, short, follows))) (first', (others', (is', head', short', follows'))) =
    let joined : first ∷ (others ++ more) ≡ first' ∷ others' = sym (ap (λ front. front ++ more) is) ∙ is' in
    let same : first ≡ first' = cc in
    let tails : others ++ more ≡ others' = cc in
    let P : List ℕ → Type 0 = λ line. IsHead other.head line in
    let heads : one.head ≡ other.head = one_head one.head other.head first head (subst P (sym same) head') in
    let Q : Head → Type 0 = λ head. MatchBool (has_list head) (IsSentFor other.lines others') ((other.lines ≡ []) × (others' ≡ [])) in
    by_list (has_list one.head) refl follows (subst Q (sym heads) follows') tails heads
  where
    by_list : (b : Bool) → has_list one.head ≡ b → MatchBool (has_list one.head) (IsSentFor one.lines others) ((one.lines ≡ []) × (others ≡ [])) → MatchBool (has_list one.head) (IsSentFor other.lines others') ((other.lines ≡ []) × (others' ≡ [])) → others ++ more ≡ others' → one.head ≡ other.head → (one ≡ other) × (more ≡ [])
    by_list true e f f' tails heads =
        let a = MatchBool-at_true (IsSentFor one.lines others) ((one.lines ≡ []) × (others ≡ [])) e f in
        let b = MatchBool-at_true (IsSentFor other.lines others') ((other.lines ≡ []) × (others' ≡ [])) e f' in
        let R : List (List ℕ) → Type 0 = λ all. IsSentFor other.lines all in
        let lists = one_list one.lines other.lines others more a (subst R (sym tails) b) in
        (reply_same one other heads lists.0, lists.1)
    by_list false e f f' tails heads =
        let a = MatchBool-at_false (IsSentFor one.lines others) ((one.lines ≡ []) × (others ≡ [])) e f in
        let b = MatchBool-at_false (IsSentFor other.lines others') ((other.lines ≡ []) × (others' ≡ [])) e f' in
        let none : more ≡ [] = sym (ap (λ front. front ++ more) a.1) ∙ tails ∙ b.1 in
        (reply_same one other heads (a.0 ∙ sym b.0), none)

size_of-append : (front rest : List (List ℕ)) → size_of (front ++ rest) ≡ size_of front + size_of rest
size_of-append [] rest = omega arith
size_of-append (line ∷ lines) rest = omega (arith, size_of-append lines rest)

-- what is too much stays too much
too_much : (lines : List (List ℕ)) (line : List ℕ) (more : List (List ℕ)) → list_fits (lines ++ line ∷ []) ≡ false → list_fits (lines ++ line ∷ more) ≡ true → ⊥
too_much lines line more past fits =
    let longer : lines ++ line ∷ more ≡ (lines ++ line ∷ []) ++ more = sym (append_assoc lines (line ∷ []) more) in
    let sizes = size_of-append (lines ++ line ∷ []) more in
    let counts = length-append (lines ++ line ∷ []) more in
    let parts = and_parts (nat_le (size_of ((lines ++ line ∷ []) ++ more)) 4194304) (nat_le (length ((lines ++ line ∷ []) ++ more)) 32768) (sym (ap list_fits longer) ∙ fits) in
    let bytes : nat_le (size_of (lines ++ line ∷ [])) 4194304 ≡ true = smaller (size_of (lines ++ line ∷ [])) (size_of ((lines ++ line ∷ []) ++ more)) 4194304 (omega (arith, sizes)) parts.0 in
    let many : nat_le (length (lines ++ line ∷ [])) 32768 ≡ true = smaller (length (lines ++ line ∷ [])) (length ((lines ++ line ∷ []) ++ more)) 32768 (omega (arith, counts)) parts.1 in
    false≢true (sym past ∙ rw (bytes, many) refl)
  where
    smaller : (m n most : ℕ) → m ≤ n → nat_le n most ≡ true → nat_le m most ≡ true
    smaller m n most less fits = grind (arith, nat_tests)

list_all-parts : (test : List ℕ → Bool) (front : List (List ℕ)) (line : List ℕ) (more : List (List ℕ)) → list_all test (front ++ line ∷ more) ≡ true → test line ≡ true
list_all-parts test [] line more all = (and_parts (test line) (list_all test more) all).0
list_all-parts test (x ∷ xs) line more all = list_all-parts test xs line more (and_parts (test x) (list_all test (xs ++ line ∷ more)) all).1

pub list_all-push : (test : List ℕ → Bool) (front : List (List ℕ)) (line : List ℕ) → list_all test front ≡ true → test line ≡ true → list_all test (front ++ line ∷ []) ≡ true
list_all-push test [] line all last = rw last refl
list_all-push test (x ∷ xs) line all last =
    let parts = and_parts (test x) (list_all test xs) all in
    rw (parts.0, list_all-push test xs line parts.1 last) refl

-- what goes on behind a head and lines of its list
listed_behind : (reply : Reply) (head : Head) (first line : List ℕ) (sent others : List (List ℕ)) → IsHead head first → has_list head ≡ true → IsSentAs reply (first ∷ (sent ++ line ∷ others)) → IsSentFor reply.lines (sent ++ line ∷ others)
listed_behind reply head first line sent others is lists (first', (all, (e, is', short, follows))) =
    let same : first ≡ first' = cc in
    let tails : sent ++ line ∷ others ≡ all = cc in
    let P : List ℕ → Type 0 = λ line. IsHead reply.head line in
    let heads : reply.head ≡ head = one_head reply.head head first (subst P (sym same) is') is in
    let R : List (List ℕ) → Type 0 = λ all. IsSentFor reply.lines all in
    subst R (sym tails) (MatchBool-at_true (IsSentFor reply.lines all) ((reply.lines ≡ []) × (all ≡ [])) (ap has_list heads ∙ lists) follows)

-- a line other than the dot is among those sent for the list
among : (reply : Reply) (head : Head) (first line : List ℕ) (sent others : List (List ℕ)) → IsHead head first → has_list head ≡ true → list_any is_dot sent ≡ false → is_dot line ≡ false → IsSentAs reply (first ∷ (sent ++ line ∷ others)) → (all : List (List ℕ)) × ((tail : List (List ℕ)) × ((all ≡ sent ++ line ∷ tail) × (reply.lines ≡ map content_of all) × IsTrue (all_fit 1000 all) × IsTrue (list_fits reply.lines)))
among reply head first line sent others is lists undotted apart whole =
    let listed = listed_behind reply head first line sent others is lists whole in
    let all = listed.0 in
    let found = before_dot sent all line others undotted apart listed.1.0 in
    (all, (found.0, (found.1, (AllZip-contents all reply.lines listed.1.1).1, listed.1.2, listed.1.3)))

-- a list that would be too much is that of no reply
pub none_too_much : (reply : Reply) (head : Head) (first line : List ℕ) (sent contents others : List (List ℕ)) → IsHead head first → has_list head ≡ true → AllZip Carries sent contents → is_dot line ≡ false → list_fits (contents ++ content_of line ∷ []) ≡ false → IsSentAs reply (first ∷ (sent ++ line ∷ others)) → ⊥
none_too_much reply head first line sent contents others is lists carry apart past whole =
    let p = AllZip-contents sent contents carry in
    let found = among reply head first line sent others is lists p.0 apart whole in
    let lines : reply.lines ≡ contents ++ content_of line ∷ map content_of found.1.0 = found.1.1.1 ∙ ap (map content_of) found.1.1.0 ∙ map-append content_of sent (line ∷ found.1.0) ∙ ap (λ front. front ++ content_of line ∷ map content_of found.1.0) (sym p.1) in
    too_much contents (content_of line) (map content_of found.1.0) past (sym (ap list_fits lines) ∙ found.1.1.3)

long_apart : (line : List ℕ) → 1000 < length line → is_dot line ≡ false
long_apart [] long = absurd (omega arith)
long_apart (b ∷ []) long = absurd (omega arith)
long_apart (b ∷ c ∷ cs) long = refl

-- a line past 1,000 bytes is sent for no list
pub none_too_long : (reply : Reply) (head : Head) (first line : List ℕ) (sent contents others : List (List ℕ)) → IsHead head first → has_list head ≡ true → AllZip Carries sent contents → 1000 < length line → IsSentAs reply (first ∷ (sent ++ line ∷ others)) → ⊥
none_too_long reply head first line sent contents others is lists carry long whole =
    let p = AllZip-contents sent contents carry in
    let found = among reply head first line sent others is lists p.0 (long_apart line long) whole in
    let fits : nat_le (length line) 1000 ≡ true = list_all-parts (λ line. nat_le (length line) 1000) sent line found.1.0 (sym (ap (all_fit 1000) found.1.1.0) ∙ found.1.1.2) in
    contradicts (length line) long fits
  where
    contradicts : (n : ℕ) → 1000 < n → nat_le n 1000 ≡ true → ⊥
    contradicts n long fits = grind (arith, nat_tests)

-- a head past 512 bytes is that of no reply
pub none_long_head : (reply : Reply) (line : List ℕ) (others : List (List ℕ)) → 512 < length line → IsSentAs reply (line ∷ others) → ⊥
none_long_head reply line others long (first, (all, (e, is, short, follows))) =
    let same : line ≡ first = cc in omega (arith, ap length same, short)

-- a line that is no head is the first of no reply
pub none_no_head : (reply : Reply) (line : List ℕ) (others : List (List ℕ)) → ((head : Head) → IsHead head line → ⊥) → IsSentAs reply (line ∷ others) → ⊥
none_no_head reply line others none (first, (all, (e, is, short, follows))) =
    let same : line ≡ first = cc in
    let P : List ℕ → Type 0 = λ line. IsHead reply.head line in
    none reply.head (subst P (sym same) is)

-- a reply that begins with what the lines make
pub ends_with : (progress : Progress) (lines : List (List ℕ)) → Makes progress lines → (reply : Reply) × ((last : List ℕ) × (IsSentAs reply (lines ++ last ∷ []) × (has_feed last ≡ false)))
unfolding head_text
ends_with no_line lines made =
    (record { head = head.Ok; lines = [] }, (codes "200 Ok", (subst (λ (all : List (List ℕ)). IsSentAs (record { head = head.Ok; lines = [] }) (all ++ codes "200 Ok" ∷ [])) (sym made) (codes "200 Ok", ([], (refl, (refl, tt), lit≤ tt, (refl, refl)))), refl)))
ends_with (listing head contents) lines (first, (sent, (is, head_is, short, lists, carry, fit, few))) =
    let reply : Reply = record { head = head; lines = contents } in
    let follows : Follows reply (sent ++ dot ∷ []) = rw lists (sent, (refl, carry, fit, few)) in
    (reply, (dot, (subst (λ (all : List (List ℕ)). IsSentAs reply (all ++ dot ∷ [])) (sym is) (first, (sent ++ dot ∷ [], (refl, head_is, short, follows))), refl)))
ends_with (stopped place) lines made = absurd made
ends_with wanting lines made = absurd made

-- a head without a list is a reply
pub head_ends : (reply : Reply) (line : List ℕ) → IsHead reply.head line → has_list reply.head ≡ false → reply.lines ≡ [] → length line ≤ 512 → IsSentAs reply (line ∷ [])
head_ends reply line is lists none short =
    let follows : Follows reply [] = rw lists (none, refl) in
    (line, ([], (refl, is, short, follows)))

-- the dot ends a list
pub dot_ends : (head : Head) (first line : List ℕ) (sent contents : List (List ℕ)) → IsHead head first → length first ≤ 512 → has_list head ≡ true → AllZip Carries sent contents → IsTrue (all_fit 1000 sent) → IsTrue (list_fits contents) → is_dot line ≡ true → IsSentAs (record { head = head; lines = contents }) (first ∷ (sent ++ line ∷ []))
dot_ends head first line sent contents is short lists carry fit few ends =
    let reply : Reply = record { head = head; lines = contents } in
    let follows : Follows reply (sent ++ line ∷ []) = rw lists (sent, (ap (λ last. sent ++ last ∷ []) (dot_is line ends), carry, fit, few)) in
    (first, (sent ++ line ∷ [], (refl, is, short, follows)))

-- a line more of a list
pub carry_push : (sent contents : List (List ℕ)) (line : List ℕ) → AllZip Carries sent contents → is_dot line ≡ false → AllZip Carries (sent ++ line ∷ []) (contents ++ content_of line ∷ [])
carry_push [] [] line carry apart = (content-Carries line apart, tt)
carry_push [] (c ∷ cs) line carry apart = absurd carry
carry_push (s ∷ ss) [] line carry apart = absurd carry
carry_push (s ∷ ss) (c ∷ cs) line carry apart = (carry.0, carry_push ss cs line carry.1 apart)
