-- What one entry more can change.
use Rattle.std.proofs.Common.{◌≡◌, ℕ, ◌^◌, ◌<◌, ◌≤◌, ◌==◌, Bool, true, false, cond, not, ◌&&◌, ◌||◌, ◌⊎◌, min, max, List, [], ◌∷◌, Option, None, Some, is_some, option_and_then, MatchOption, refl, sym, ◌∙◌, ap, subst, inl, inr, arith, eq-eqb, ne_eqb, true≢false, w16, bit_and, bit_or}
use Rattle.std.specs.Map.{lookup}
use Rattle.std.specs.Int.{bit_at, bit_not}
use Rattle.std.specs.Option.{option_map_or}
use Rattle.std.proofs.lemmas.Bool.{cases_eq, cases_Bool, or_parts, or_right}
use Rattle.std.proofs.lemmas.Nat.{pow_below}
use Rattle.std.proofs.lemmas.Nat.Bits.{bit_at_and, bit_at_or, bit_at_not, bit_at-pow_same, bit_at-pow_other, bit_at-lt}
use Rattle.pc_account_history.specs.declared.kept.Kept.{Kept}
use Rattle.pc_account_history.specs.declared.kept.Listed.{Listed}
use Rattle.pc_account_history.specs.declared.entry.Entry.{Entry}
use Rattle.pc_account_history.specs.declared.entry.Entry.TheVariants.{MakeMailbox, DropMailbox, Flag, Expunge, MakeClient, DropClient}
use Rattle.pc_message.specs.Flags.{flag_of, flags_with}
use Rattle.pc_tables.specs.Table.{same, others}
use Rattle.pc_account_history.specs.Record.{mailbox_of, list_of, kept_at, stamp_at}
use Rattle.pc_account_history.specs.Effect.{begins, forgets, concerns, left_by, clients_after}
use Rattle.pc_account_history.specs.Known.{Known, stamps, touches, kept_after, is_given, is_client_after}
use Rattle.pc_account_history.specs.History.{History, start, ◌▸◌, ◌▸▸◌, known, next, birth}
use Rattle.pc_account_history.specs.Allowed.{is_client}
use Rattle.pc_account_history.specs.Legal.{IsChange, IsUpdateList, IsLegal}
use Rattle.pc_account_history.specs.Step.{record_of}
use Rattle.pc_account_history.specs.UpdateList.{is_taken}
use Rattle.pc_account_history.specs.Laws.{touched_since}
use Rattle.std.specs.List.{AllByRecursion as Every}
use Rattle.std.specs.Prelude.{⊤}
use Rattle.pc_account_history.proofs.Mailboxes.{IsMailbox-mailbox_of}
use Rattle.pc_account_history.proofs.Histories.{Stands-legal}
use Rattle.pc_tables.proofs.Options.{some-none, some-same, option_or-none}
use Rattle.pc_tables.proofs.Table.{same-sym, lookup-append, lookup-others}
use Rattle.pc_account_history.proofs.Lists.{list-is, listed-stamp_at, Every-on, stamp_at-IsOn}

-- ---- messages

left-unconcerned : (e : Entry) (client mailbox : List ℕ) (uid : ℕ) (kept : Kept) → concerns e client mailbox uid kept.flags ≡ false → left_by e mailbox uid kept ≡ Some kept
left-unconcerned (DropMailbox name) client mailbox uid kept h = rw h
left-unconcerned (Expunge name) client mailbox uid kept h = rw h
left-unconcerned (Flag name at flag on) client mailbox uid kept h = rw h
left-unconcerned (MakeMailbox name) client mailbox uid kept h = refl
left-unconcerned _ client mailbox uid kept h = refl

left-untouched : (e : Entry) (client mailbox : List ℕ) (uid : ℕ) (found : Option Kept) → option_map_or (λ kept. concerns e client mailbox uid kept.flags) found false ≡ false → option_and_then (left_by e mailbox uid) found ≡ found
left-untouched e client mailbox uid None h = refl
left-untouched e client mailbox uid (Some kept) h = left-unconcerned e client mailbox uid kept h

pub kept-untouched : (k : Known) (e : Entry) (client mailbox : List ℕ) (uid : ℕ) → touches k e client mailbox uid ≡ false → kept_after k e mailbox uid ≡ k.kept mailbox uid
kept-untouched k e client mailbox uid h =
    let parts = or_parts (is_given k e mailbox uid) (option_map_or (λ kept. concerns e client mailbox uid kept.flags) (k.kept mailbox uid) false) h in
    rw parts.0 (left-untouched e client mailbox uid (k.kept mailbox uid) parts.1)

-- ---- clients

pub client-stays : (e : Entry) (number : ℕ) (clients : List (List ℕ × ℕ)) (client : List ℕ) → begins e client ≡ false → lookup (same client) (clients_after e number clients) ≡ lookup (same client) clients
client-stays (MakeClient name) number clients client h = rw (lookup-append (same client) (others name clients) ((name, number) ∷ []), lookup-others name client clients, h, same-sym client name, h) (option_or-none (lookup (same client) clients))
client-stays (DropClient name) number clients client h = rw (lookup-others name client clients, h)
client-stays (MakeMailbox name) number clients client h = refl
client-stays _ number clients client h = refl

-- ---- what isn't listed was taken

some-passes : (b : Bool) (found : Option Kept) → is_some found ≡ true → b ≡ true → option_map_or (λ kept. b) found false ≡ true
some-passes b None h g = h
some-passes b (Some kept) h g = g

-- a client whose lists begin anew is touched for all that lives
begun-touches : (k : Known) (e : Entry) (client mailbox : List ℕ) (uid : ℕ) → begins e client ≡ true → is_client_after k e client ≡ true → is_some (k.kept mailbox uid) ≡ true → touches k e client mailbox uid ≡ true
begun-touches k (MakeClient name) client mailbox uid h one lives = or_right (is_given k (MakeClient name) mailbox uid) (option_map_or (λ kept. same name client) (k.kept mailbox uid) false) (some-passes (same name client) (k.kept mailbox uid) lives h)
begun-touches k (DropClient name) client mailbox uid h one lives =
    let gone : is_client_after k (DropClient name) client ≡ false = rw (lookup-others name client k.clients, h) in
    absurd (true≢false (sym one ∙ gone))
begun-touches k (MakeMailbox name) client mailbox uid h one lives = absurd (true≢false (sym h))
begun-touches k _ client mailbox uid h one lives = absurd (true≢false (sym h))

told-start : (listed : Option ℕ) → (is_some listed ≡ true) ⊎ (not (is_some listed) ≡ true)
told-start None = inr refl
told-start (Some stamp) = inl refl

told-step : (forgotten taken : Bool) (listed : Option ℕ) → (is_some listed ≡ true) ⊎ (taken ≡ true) → (is_some (cond forgotten None listed) ≡ true) ⊎ ((forgotten || taken) ≡ true)
told-step true taken listed h = inr refl
told-step false taken listed h = h

pub unlisted-taken : (h : History) (client mailbox : List ℕ) (uid : ℕ) → is_client (known h) client ≡ true → is_some ((known h).kept mailbox uid) ≡ true → (is_some ((known h).listed client mailbox uid) ≡ true) ⊎ (is_taken h client mailbox uid ≡ true)
unlisted-taken (start r number) client mailbox uid one lives = told-start (stamp_at uid (list_of (mailbox_of r mailbox) client))
unlisted-taken (h ▸ e) client mailbox uid one lives =
    elim (cases_Bool (touches (known h) e client mailbox uid)) [
      | inl touched ↦
          let stamped : stamps (known h) e client mailbox uid ≡ true = rw (one, touched) in
          inl (rw stamped)
      | inr untouched ↦
          let unstamped : stamps (known h) e client mailbox uid ≡ false = rw (one, untouched) in
          let lived : is_some ((known h).kept mailbox uid) ≡ true = ap is_some (sym (kept-untouched (known h) e client mailbox uid untouched)) ∙ lives in
          elim (cases_Bool (begins e client)) [
            | inl begun ↦ absurd (true≢false (sym (begun-touches (known h) e client mailbox uid begun one lived) ∙ untouched))
            | inr old ↦
                let was_one : is_client (known h) client ≡ true = ap is_some (sym (client-stays e (next h) (known h).clients client old)) ∙ one in
                rw (unstamped, old) (told-step (forgets e client mailbox uid) (is_taken h client mailbox uid) ((known h).listed client mailbox uid) (unlisted-taken h client mailbox uid was_one lived))
          ]
    ]

-- ---- a stamp that stays

legal-front : (h : History) (es : List Entry) → IsLegal (h ▸▸ es) → IsLegal h
legal-front h [] legal = legal
legal-front h (e ∷ es) legal = (legal-front (h ▸ e) es legal).0

listed-of : (number highest : ℕ) (birth : Option ℕ) (list : List Listed) (uid stamp : ℕ) → MatchOption birth (list ≡ []) (λ born. (0 < born) × (born < number) × IsUpdateList number highest born list) → stamp_at uid list ≡ Some stamp → (stamp < number) × (is_some birth ≡ true)
listed-of number highest None list uid stamp h e = absurd (some-none stamp (sym (sym (ap (stamp_at uid) h) ∙ e)))
listed-of number highest (Some born) list uid stamp h e = ((Every-on (IsChange number highest born) (record { uid = uid; stamp = stamp }) list h.2.changes (stamp_at-IsOn uid stamp list e)).so_far, refl)

-- a stamp is the number of an entry before, and of a client
pub listed-facts : (h : History) → IsLegal h → (client mailbox : List ℕ) (uid stamp : ℕ) → (known h).listed client mailbox uid ≡ Some stamp → (stamp < next h) × (is_client (known h) client ≡ true)
listed-facts h legal client mailbox uid stamp e = listed-of (next h) ((known h).highest mailbox) (birth h client) ((known h).changes client mailbox) uid stamp (list-is h legal client mailbox) (listed-stamp_at h legal client mailbox uid ∙ e)

stamp-stays : (stamped gone : Bool) (number stamp : ℕ) (listed : Option ℕ) → stamp < number → cond stamped (Some number) (cond gone None listed) ≡ Some stamp → (stamped ≡ false) × (gone ≡ false) × (listed ≡ Some stamp)
stamp-stays true gone number stamp listed early h = absurd (omega (arith, some-same number stamp h))
stamp-stays false true number stamp listed early h = absurd (some-none stamp (sym h))
stamp-stays false false number stamp listed early h = (refl, refl, h)

and-second : (a b : Bool) → (a && b) ≡ false → a ≡ true → b ≡ false
and-second true b h e = h
and-second false b h e = absurd (true≢false (sym e))

same-stamp : (h : History) (es : List Entry) → IsLegal (h ▸▸ es) → (client mailbox : List ℕ) (uid stamp : ℕ) → stamp < next h → (known (h ▸▸ es)).listed client mailbox uid ≡ Some stamp → ((known (h ▸▸ es)).kept mailbox uid ≡ (known h).kept mailbox uid) × ((known h).listed client mailbox uid ≡ Some stamp)
same-stamp h [] legal client mailbox uid stamp early still = (refl, still)
same-stamp h (e ∷ es) legal client mailbox uid stamp early still =
    let behind = same-stamp (h ▸ e) es legal client mailbox uid stamp (omega arith) still in
    let stays = stamp-stays (stamps (known h) e client mailbox uid) (begins e client || forgets e client mailbox uid) (next h) stamp ((known h).listed client mailbox uid) early behind.1 in
    let old = (or_parts (begins e client) (forgets e client mailbox uid) stays.1).0 in
    let facts = listed-facts h (legal-front h (e ∷ es) legal) client mailbox uid stamp stays.2 in
    let one : is_client_after (known h) e client ≡ true = ap is_some (client-stays e (next h) (known h).clients client old) ∙ facts.1 in
    let untouched = and-second (is_client_after (known h) e client) (touches (known h) e client mailbox uid) stays.0 one in
    (behind.0 ∙ kept-untouched (known h) e client mailbox uid untouched, stays.2)

pub same-stamp-same-message : (h : History) → IsLegal h → (es : List Entry) → IsLegal (h ▸▸ es) → (client mailbox : List ℕ) (uid stamp : ℕ) → (known h).listed client mailbox uid ≡ Some stamp → (known (h ▸▸ es)).listed client mailbox uid ≡ Some stamp → (known (h ▸▸ es)).kept mailbox uid ≡ (known h).kept mailbox uid
same-stamp-same-message h legal es later client mailbox uid stamp shown still = (same-stamp h es later client mailbox uid stamp (listed-facts h legal client mailbox uid stamp shown).0 still).0

-- ---- what is touched while nothing is taken

or-false : (b : Bool) → b ≡ (b || false)
or-false true = refl
or-false false = refl

since-step : (stamped : Bool) (number : ℕ) (listed : Option ℕ) (rest : Bool) → (is_some (cond stamped (Some number) listed) || rest) ≡ (is_some listed || (stamped || rest))
since-step true number None rest = refl
since-step true number (Some stamp) rest = refl
since-step false number listed rest = refl

pub listed-since : (h : History) (es : List Entry) (client mailbox : List ℕ) (uid : ℕ) → is_client (known h) client ≡ true → Every (λ (e : Entry). (begins e client ≡ false) × (forgets e client mailbox uid ≡ false)) es → is_some ((known (h ▸▸ es)).listed client mailbox uid) ≡ (is_some ((known h).listed client mailbox uid) || touched_since h es client mailbox uid)
listed-since h [] client mailbox uid one quiet = or-false (is_some ((known h).listed client mailbox uid))
listed-since h (e ∷ es) client mailbox uid one quiet =
    let still : is_client_after (known h) e client ≡ true = ap is_some (client-stays e (next h) (known h).clients client quiet.0.0) ∙ one in
    let behind = listed-since (h ▸ e) es client mailbox uid still quiet.1 in
    let step : (known (h ▸ e)).listed client mailbox uid ≡ cond (touches (known h) e client mailbox uid) (Some (next h)) ((known h).listed client mailbox uid) = rw (still, quiet.0.0, quiet.0.1) in
    behind ∙ ap (λ listed. is_some listed || touched_since (h ▸ e) es client mailbox uid) step ∙ since-step (touches (known h) e client mailbox uid) (next h) ((known h).listed client mailbox uid) (touched_since (h ▸ e) es client mailbox uid)

-- ---- the uid of a message

own-uid : (highest uid : ℕ) (messages : List Kept) → Every (λ (kept : Kept). (0 < kept.uid) × (kept.uid ≤ highest)) messages → MatchOption (kept_at uid messages) ⊤ (λ kept. (kept.uid ≡ uid) × (0 < uid) × (uid ≤ highest))
own-uid highest uid [] h = tt
own-uid highest uid (kept ∷ messages) h =
    elim (cases_eq kept.uid uid) [
      | inl here ↦ rw (eq-eqb kept.uid uid here) (here, omega (arith, h.0.0), omega (arith, h.0.1))
      | inr other ↦ rw (ne_eqb kept.uid uid other) (own-uid highest uid messages h.1)
    ]

pub kept-own-uid : (h : History) → IsLegal h → (mailbox : List ℕ) (uid : ℕ) → MatchOption ((known h).kept mailbox uid) ⊤ (λ kept. (kept.uid ≡ uid) × (0 < uid) × (uid ≤ (known h).highest mailbox))
kept-own-uid h legal mailbox uid =
    let stands = Stands-legal h legal in
    let box = mailbox_of (record_of h) mailbox in
    subst (λ (k : Known). MatchOption (k.kept mailbox uid) ⊤ (λ kept. (kept.uid ≡ uid) × (0 < uid) × (uid ≤ k.highest mailbox))) (sym stands.alike) (own-uid box.highest uid box.messages (IsMailbox-mailbox_of (record_of h) (next h) mailbox stands.formed).messages.given)

-- ---- flags

bit-on : (bit : ℕ) → bit < 2 → (max bit 1 == 1) ≡ true
bit-on bit h = eq-eqb (max bit 1) 1 (omega arith)

flag-on : (flags flag other : ℕ) → (bit_at (bit_or flags (2 ^ flag)) other == 1) ≡ cond (flag == other) true (bit_at flags other == 1)
flag-on flags flag other = rw (bit_at_or flags (2 ^ flag) other) (elim (cases_eq flag other) [
  | inl e ↦ rw (eq-eqb flag other e, ← e, bit_at-pow_same flag) (bit-on (bit_at flags flag) (bit_at-lt flags flag))
  | inr ne ↦ let zero_bit = bit_at-pow_other flag other (λ e. ne (sym e)) in let same : max (bit_at flags other) 0 ≡ bit_at flags other = omega arith in rw (ne_eqb flag other ne, zero_bit, same)
])

flag-off : (flags flag other : ℕ) → 2 ^ flag < 2 ^ 16 → other < 16 → (bit_at (bit_and flags (bit_not w16 (2 ^ flag))) other == 1) ≡ cond (flag == other) false (bit_at flags other == 1)
flag-off flags flag other small within = rw (bit_at_and flags (bit_not w16 (2 ^ flag)) other, bit_at_not w16 (2 ^ flag) other small within) (elim (cases_eq flag other) [
  | inl e ↦ let gone : min (bit_at flags flag) 0 ≡ 0 = omega arith in rw (eq-eqb flag other e, ← e, bit_at-pow_same flag) (ap (λ n. n == 1) gone)
  | inr ne ↦ let zero_bit = bit_at-pow_other flag other (λ e. ne (sym e)) in let same : min (bit_at flags other) 1 ≡ bit_at flags other = omega (arith, bit_at-lt flags other) in rw (ne_eqb flag other ne, zero_bit) (ap (λ n. n == 1) same)
])

pub one-flag : (flags flag other : ℕ) (on : Bool) → flag < 16 → other < 16 → flag_of (flags_with flags flag on) other ≡ cond (flag == other) on (flag_of flags other)
one-flag flags flag other true within also = flag-on flags flag other
one-flag flags flag other false within also = flag-off flags flag other (pow_below flag 16 within) also
