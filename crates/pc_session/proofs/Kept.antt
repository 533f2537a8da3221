-- Changes that a session was told of stay in the history.
use Rattle.std.proofs.Common.{◌≡◌, ℕ, ◌≤◌, ◌==◌, Bool, true, false, cond, List, [], ◌∷◌, ◌++◌, Option, None, Some, refl, sym, ap, subst, ◌∙◌, if◌then◌else◌, arith}
use Rattle.std.specs.List.{find}
use Rattle.std.specs.Option.{option_map_or}
use Rattle.std.proofs.lemmas.Bool.{eqb-true}
use Rattle.std.proofs.lemmas.List.{reverse-append}
use Rattle.pc_account_history.specs.declared.entry.Entry.{Entry}
use Rattle.pc_account_history.specs.History.{History, start, ◌▸◌, next}
use Rattle.pc_tables.specs.Table.{same}
use Rattle.pc_tables.proofs.Table.{same-refl}
use Rattle.pc_tables.proofs.Options.{some-none}
use Rattle.pc_account_spelling.specs.Spelling.{spelled_entry}
use Rattle.pc_session.specs.declared.receipts.Receipt.{Receipt}
use Rattle.pc_session.specs.Desk.{entry_at}
use Rattle.pc_session.specs.Receipts.{is_account_of, missing, missing_in, pass_of, receipt_of}

-- ---- entries

-- no entry has a number yet to come
pub none_ahead : (h : History) (at : ℕ) → next h ≤ at → entry_at h at ≡ None
none_ahead (start r number) at ahead = refl
none_ahead (h ▸ e) at ahead =
    let other : (at == next h) ≡ false = grind arith in
    let before : next h ≤ at = omega (arith, ahead) in
    ap (λ b. if b then Some e else entry_at h at) other ∙ none_ahead h at before

-- an entry keeps its number
entry_stays : (h : History) (e : Entry) (at : ℕ) (entry : Entry) → entry_at h at ≡ Some entry → entry_at (h ▸ e) at ≡ Some entry
entry_stays h e at entry there = by (at == next h) refl
  where
    by : (b : Bool) → (at == next h) ≡ b → (if b then Some e else entry_at h at) ≡ Some entry
    by true is =
        let ahead : next h ≤ at = omega (arith, eqb-true at (next h) is) in
        absurd (some-none entry (sym there ∙ none_ahead h at ahead))
    by false is = there

-- ---- receipts

-- the receipt's number, unless its entry was found
abbrev missing_of : Option Entry → Receipt → Option ℕ
missing_of found receipt = if option_map_or (λ (entry : Entry). same (spelled_entry entry) receipt.entry) found false then None else Some receipt.number

found_stays : (h : History) (e : Entry) (receipt : Receipt) (found : Option Entry) → entry_at h receipt.number ≡ found → missing_of found receipt ≡ None → missing_in (h ▸ e) receipt ≡ None
found_stays h e receipt None is kept = absurd (some-none receipt.number kept)
found_stays h e receipt (Some entry) is kept = subst (λ (found : Option Entry). missing_of found receipt ≡ None) (sym (entry_stays h e receipt.number entry is)) kept

pub stays_kept : (user : List ℕ) (receipts : List Receipt) (h : History) (e : Entry) → missing user receipts h ≡ None → missing user receipts (h ▸ e) ≡ None
stays_kept user receipts h e kept = by (pass_of user receipts) kept
  where
    by : (pass : Option Receipt) → option_map_or (missing_in h) pass None ≡ None → option_map_or (missing_in (h ▸ e)) pass None ≡ None
    by None kept = refl
    by (Some receipt) kept = found_stays h e receipt (entry_at h receipt.number) refl kept

-- the last of the receipts comes first from the back
pass_behind : (user : List ℕ) (receipts : List Receipt) (receipt : Receipt) → pass_of user (receipts ++ receipt ∷ []) ≡ cond (is_account_of user receipt.owner) (Some receipt) (pass_of user receipts)
pass_behind user receipts receipt = ap (find (λ (r : Receipt). is_account_of user r.owner)) (reverse-append receipts (receipt ∷ []))

-- the entry just made has its number
entry_made : (h : History) (e : Entry) → entry_at (h ▸ e) (next h) ≡ Some e
entry_made h e =
    let here : (next h == next h) ≡ true = grind arith in
    ap (λ b. if b then Some e else entry_at h (next h)) here

pub last_is_kept : (user : List ℕ) (receipts : List Receipt) (h : History) (e : Entry) → missing user (receipts ++ receipt_of user (next h) e ∷ []) (h ▸ e) ≡ None
last_is_kept user receipts h e =
    let receipt : Receipt = receipt_of user (next h) e in
    ap (λ (pass : Option Receipt). option_map_or (missing_in (h ▸ e)) pass None) (pass_behind user receipts receipt ∙ ap (λ b. cond b (Some receipt) (pass_of user receipts)) (same-refl user))
    ∙ ap (λ (found : Option Entry). missing_of found receipt) (entry_made h e)
    ∙ ap (λ (b : Bool). if b then None else Some receipt.number) (same-refl (spelled_entry e))

pub other_pass_stays : (user other : List ℕ) (receipts : List Receipt) (number : ℕ) (e : Entry) → same user other ≡ false → pass_of other (receipts ++ receipt_of user number e ∷ []) ≡ pass_of other receipts
other_pass_stays user other receipts number e apart =
    let receipt : Receipt = receipt_of user number e in
    pass_behind other receipts receipt ∙ ap (λ b. cond b (Some receipt) (pass_of other receipts)) apart
