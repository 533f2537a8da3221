-- Lists of uids whose number fits four bytes.
use Rattle.std.proofs.Common.{◌≡◌, ℕ, suc, ◌+◌, ◌<◌, nat_lt, true, List, [], ◌∷◌, length, get_or, refl, arith}
use Rattle.std.specs.List.{list_all}
use Rattle.std.proofs.lemmas.Bool.{ltb-true, lt-ltb, and_parts, and_from}
use Rattle.pc_account_history.specs.Known.{Known}
use Rattle.pc_tables.specs.Order.{rises_from}
use Rattle.pc_account_history.specs.Allowed.{is_allowed}
use Rattle.pc_account_history.specs.declared.entry.Entry.TheVariants.{Forget}
use Rattle.pc_account_history.proofs.Needs.{forget-parts}
use Rattle.pc_fields.specs.Fitting.{is_u32}

pub each-fits : (uids : List ℕ) → ((i : ℕ) → get_or uids i 0 < 4294967296) → list_all is_u32 uids ≡ true
each-fits [] fit = refl
each-fits (uid ∷ uids) fit = and_from (is_u32 uid) (list_all is_u32 uids) (lt-ltb uid 4294967296 (fit 0)) (each-fits uids (λ i. fit (suc i)))

-- numbers of four bytes that rise are no more than there are
rise-few : (low : ℕ) (uids : List ℕ) → low < 4294967296 → rises_from low uids ≡ true → list_all is_u32 uids ≡ true → low + length uids < 4294967296
rise-few low [] small rise fit = omega (arith, small)
rise-few low (uid ∷ uids) small rise fit =
    let rises = and_parts (nat_lt low uid) (rises_from uid uids) rise in
    let parts = and_parts (is_u32 uid) (list_all is_u32 uids) fit in
    let above = ltb-true low uid rises.0 in
    let rest = rise-few uid uids (ltb-true uid 4294967296 parts.0) rises.1 parts.1 in
    omega (arith, above, rest)

-- the uids that an allowed entry takes can be counted in four bytes
pub taken-few : (k : Known) (client mailbox uids : List ℕ) → list_all is_u32 uids ≡ true → is_allowed k (Forget client mailbox uids) ≡ true → is_u32 (length uids) ≡ true
taken-few k client mailbox uids fit allowed =
    let few = rise-few 0 uids (omega arith) (forget-parts k client mailbox uids allowed).2 fit in
    lt-ltb (length uids) 4294967296 (omega (arith, few))
