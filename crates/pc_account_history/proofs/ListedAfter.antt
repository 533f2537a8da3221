-- What is listed for a client after one entry more.
use Rattle.std.proofs.Common.{◌≡◌, ℕ, ◌<◌, Bool, true, false, cond, ◌&&◌, ◌||◌, ◌⊎◌, List, Option, None, Some, is_some, refl, sym, ◌∙◌, ap, arith, inl, inr, true≢false}
use Rattle.std.specs.Option.{option_map_or, option_and_then}
use Rattle.pc_account_history.specs.declared.kept.Kept.{Kept}
use Rattle.pc_account_history.specs.declared.entry.Entry.{Entry}
use Rattle.pc_account_history.specs.declared.entry.Entry.TheVariants.{ResetClient}
use Rattle.pc_account_history.specs.Effect.{begins, forgets, left_by}
use Rattle.pc_account_history.specs.Known.{Known, is_given, touches, kept_after, listed_after, is_client_after}
use Rattle.pc_account_history.specs.Allowed.{is_client}
use Rattle.pc_account_history.proofs.Steps.{kept-untouched}
use Rattle.pc_tables.proofs.Options.{some-none, some-same}
use Rattle.pc_tables.proofs.Table.{same-refl}

decided-none : (one touched gone : Bool) (number : ℕ) (listed : Option ℕ) → one ≡ true → cond (one && touched) (Some number) (cond gone None listed) ≡ None → (touched ≡ false) × ((gone ≡ true) ⊎ (listed ≡ None))
decided-none true true gone number listed h e = absurd (some-none number e)
decided-none true false true number listed h e = (refl, inl refl)
decided-none true false false number listed h e = (refl, inr e)
decided-none false touched gone number listed h e = absurd (true≢false (sym h))

pub unlisted-unchanged : (k : Known) (e : Entry) (client mailbox : List ℕ) (uid : ℕ) → is_client_after k e client ≡ true → begins e client ≡ false → listed_after k e client mailbox uid ≡ None → (kept_after k e mailbox uid ≡ k.kept mailbox uid) × ((forgets e client mailbox uid ≡ true) ⊎ (k.listed client mailbox uid ≡ None))
unlisted-unchanged k e client mailbox uid one old h =
    let d = decided-none (is_client_after k e client) (touches k e client mailbox uid) (begins e client || forgets e client mailbox uid) k.next (k.listed client mailbox uid) one h in
    (kept-untouched k e client mailbox uid d.0, elim d.1 [ inl gone ↦ inl (rw old at gone) | inr none ↦ inr none ])

decided-earlier : (one touched gone : Bool) (number stamp : ℕ) (listed : Option ℕ) → one ≡ true → stamp < number → cond (one && touched) (Some number) (cond gone None listed) ≡ Some stamp → (touched ≡ false) × (listed ≡ Some stamp)
decided-earlier true true gone number stamp listed h l e = absurd (omega (arith, some-same number stamp e))
decided-earlier true false true number stamp listed h l e = absurd (some-none stamp (sym e))
decided-earlier true false false number stamp listed h l e = (refl, e)
decided-earlier false touched gone number stamp listed h l e = absurd (true≢false (sym h))

pub earlier-stamp : (k : Known) (e : Entry) (client mailbox : List ℕ) (uid stamp : ℕ) → is_client_after k e client ≡ true → stamp < k.next → listed_after k e client mailbox uid ≡ Some stamp → (kept_after k e mailbox uid ≡ k.kept mailbox uid) × (k.listed client mailbox uid ≡ Some stamp)
earlier-stamp k e client mailbox uid stamp one early h =
    let d = decided-earlier (is_client_after k e client) (touches k e client mailbox uid) (begins e client || forgets e client mailbox uid) k.next stamp (k.listed client mailbox uid) one early h in
    (kept-untouched k e client mailbox uid d.0, d.1)

still-listed : (stamped gone : Bool) (number : ℕ) (listed : Option ℕ) → gone ≡ false → is_some listed ≡ true → is_some (cond stamped (Some number) (cond gone None listed)) ≡ true
still-listed true gone number listed h l = refl
still-listed false true number listed h l = absurd (true≢false h)
still-listed false false number listed h l = l

pub listed-stays : (k : Known) (e : Entry) (client mailbox : List ℕ) (uid : ℕ) → begins e client ≡ false → forgets e client mailbox uid ≡ false → is_some (k.listed client mailbox uid) ≡ true → is_some (listed_after k e client mailbox uid) ≡ true
listed-stays k e client mailbox uid old quiet h = still-listed (is_client_after k e client && touches k e client mailbox uid) (begins e client || forgets e client mailbox uid) k.next (k.listed client mailbox uid) (rw (old, quiet)) h

lists-what-lives : (one touched gone : Bool) (number : ℕ) (listed : Option ℕ) → one ≡ true → gone ≡ false → (touched ≡ false → is_some listed ≡ true) → is_some (cond (one && touched) (Some number) (cond gone None listed)) ≡ true
lists-what-lives true true gone number listed o g h = refl
lists-what-lives true false true number listed o g h = absurd (true≢false g)
lists-what-lives true false false number listed o g h = h refl
lists-what-lives false touched gone number listed o g h = absurd (true≢false (sym o))

pub living-listed : (k : Known) (e : Entry) (client mailbox : List ℕ) (uid : ℕ) → is_client_after k e client ≡ true → begins e client ≡ false → forgets e client mailbox uid ≡ false → (is_some (k.kept mailbox uid) ≡ true → is_some (k.listed client mailbox uid) ≡ true) → is_some (kept_after k e mailbox uid) ≡ true → is_some (listed_after k e client mailbox uid) ≡ true
living-listed k e client mailbox uid one old quiet before lives = lists-what-lives (is_client_after k e client) (touches k e client mailbox uid) (begins e client || forgets e client mailbox uid) k.next (k.listed client mailbox uid) one (rw (old, quiet)) (λ untouched. before (ap is_some (sym (kept-untouched k e client mailbox uid untouched)) ∙ lives))

-- ---- resets

resets-what-lives : (one given : Bool) (number : ℕ) (kept : Option Kept) (listed : Option ℕ) → one ≡ true → (given ≡ false → is_some kept ≡ true) → is_some (cond (one && (given || option_map_or (λ _. true) kept false)) (Some number) listed) ≡ true
resets-what-lives true true number kept listed o h = refl
resets-what-lives true false number (Some k) listed o h = refl
resets-what-lives true false number None listed o h = absurd (true≢false (sym (h refl)))
resets-what-lives false given number kept listed o h = absurd (true≢false (sym o))

lived-before : (client mailbox : List ℕ) (uid : ℕ) (kept : Option Kept) → is_some (option_and_then (left_by (ResetClient client) mailbox uid) kept) ≡ true → is_some kept ≡ true
lived-before client mailbox uid None h = h
lived-before client mailbox uid (Some kept) h = refl

pub reset-lists : (k : Known) (client mailbox : List ℕ) (uid : ℕ) → is_client k client ≡ true → is_some (kept_after k (ResetClient client) mailbox uid) ≡ true → is_some (listed_after k (ResetClient client) client mailbox uid) ≡ true
reset-lists k client mailbox uid one lives =
    rw (same-refl client) (resets-what-lives (is_client k client) (is_given k (ResetClient client) mailbox uid) k.next (k.kept mailbox uid) (k.listed client mailbox uid) one (λ old. lived-before client mailbox uid (k.kept mailbox uid) (rw old at lives)))
