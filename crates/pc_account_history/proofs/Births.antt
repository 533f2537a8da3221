-- The births of clients, and the number of the next entry.
use Rattle.std.proofs.Common.{◌≡◌, ℕ, ◌<◌, true, false, ◌⊎◌, List, [], ◌∷◌, None, Some, MatchOption, sym, ◌∙◌, subst, arith, inl, inr, true≢false}
use Rattle.std.specs.Map.{lookup}
use Rattle.std.proofs.lemmas.Bool.{cases_Bool}
use Rattle.pc_account_history.specs.declared.entry.Entry.{Entry}
use Rattle.pc_account_history.specs.declared.entry.Entry.TheVariants.{MakeClient, DropClient, MakeMailbox}
use Rattle.pc_tables.specs.Table.{same, others}
use Rattle.pc_account_history.specs.Effect.{begins, clients_after}
use Rattle.pc_account_history.specs.History.{History, ◌▸◌, known, next, birth}
use Rattle.pc_account_history.specs.Legal.{IsUpdateList, IsLegal}
use Rattle.pc_account_history.proofs.Histories.{Stands-legal}
use Rattle.pc_account_history.proofs.Lists.{list-is}
use Rattle.pc_account_history.proofs.Steps.{client-stays}
use Rattle.pc_tables.proofs.Options.{some-none, some-same}
use Rattle.pc_tables.proofs.Table.{lookup-append, lookup-others, same-sym}

-- an entry that begins or ends the lists of a client makes it with the entry's number, or drops it
begun-birth : (e : Entry) (number : ℕ) (clients : List (List ℕ × ℕ)) (client : List ℕ) → begins e client ≡ true → (lookup (same client) (clients_after e number clients) ≡ Some number) ⊎ (lookup (same client) (clients_after e number clients) ≡ None)
begun-birth (MakeClient name) number clients client h = inl (rw (lookup-append (same client) (others name clients) ((name, number) ∷ []), lookup-others name client clients, h, same-sym client name, h))
begun-birth (DropClient name) number clients client h = inr (rw (lookup-others name client clients, h))
begun-birth (MakeMailbox name) number clients client h = absurd (true≢false (sym h))
begun-birth _ number clients client h = absurd (true≢false (sym h))

pub earlier-birth : (h : History) (e : Entry) (client : List ℕ) (born : ℕ) → born < next h → birth (h ▸ e) client ≡ Some born → (begins e client ≡ false) × (birth h client ≡ Some born)
earlier-birth h e client born early b =
    elim (cases_Bool (begins e client)) [
      | inl begun ↦ elim (begun-birth e (next h) (known h).clients client begun) [
        | inl new ↦ absurd (omega (arith, some-same (next h) born (sym new ∙ b)))
        | inr gone ↦ absurd (some-none born (sym b ∙ gone))
      ]
      | inr old ↦ (old, sym (client-stays e (next h) (known h).clients client old) ∙ b)
    ]

pub birth-before : (h : History) → IsLegal h → (client : List ℕ) (born : ℕ) → birth h client ≡ Some born → (0 < born) × (born < next h)
birth-before h legal client born b =
    let found = subst (λ one. MatchOption one ((known h).changes client [] ≡ []) (λ number. (0 < number) × (number < next h) × IsUpdateList (next h) ((known h).highest []) number ((known h).changes client []))) b (list-is h legal client []) in
    (found.0, found.1)

pub next-positive : (h : History) → IsLegal h → 0 < next h
next-positive h legal = (Stands-legal h legal).formed.positive
