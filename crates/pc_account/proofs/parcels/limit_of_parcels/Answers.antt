use Rattle.std.proofs.Common.{◌+◌, ◌*◌, ◌∙◌, sym, ap, arith, ℕ, List, Bool, not, length, nat_lt, None}
use Rattle.std.specs.List.{list_all}
use Rattle.pc_base.specs.declared.refusal.LimitWord.TheVariants.{Changes}
use Rattle.pc_account_history.specs.declared.limits.TheConstants.{MOST_WEIGHT, MOST_CHANGES}
use Rattle.pc_account_history.specs.Limits.{weight, listed_count}
use Rattle.pc_tables.specs.Table.{total}
use Rattle.pc_account_history.specs.Known.{Known}
use Rattle.pc_account_holdings.specs.State.{said}
use Rattle.pc_account.specs.Limits.{limit_where, weight_in, has_uids, has_places}
use Rattle.pc_account.proofs.Found.{clients-counted}
use Rattle.pc_account.proofs.Passed.{above, not-above}
use Rattle.pc_account.proofs.FirstOf.{first-uids, first-places, first-bytes, last-changes}
use Rattle.pc_account.proofs.parcels.limit_of_parcels.Goals as goal

abbrev no-uids : Known → List (List ℕ × ℕ) → Bool
no-uids k parcels = not (list_all (λ (parcel : List ℕ × ℕ). has_uids k parcels parcel.0) parcels)

abbrev no-places : Known → List (List ℕ × ℕ) → Bool
no-places k parcels = not (list_all (λ (parcel : List ℕ × ℕ). has_places k parcels parcel.0) parcels)

abbrev too-heavy : Known → List (List ℕ × ℕ) → Bool
too-heavy k parcels = nat_lt MOST_WEIGHT (weight k + total weight_in parcels)

abbrev too-many : Known → List (List ℕ × ℕ) → Bool
too-many k parcels = nat_lt MOST_CHANGES (listed_count k + length parcels * length k.clients)

pub returns-then-not-have_uids : goal.returns-then-not-have_uids
returns-then-not-have_uids c =
    let k = said c.args.holdings.now in
    let parcels = c.args.parcels.now in
    first-uids (no-uids k parcels) (no-places k parcels) (too-heavy k parcels) (too-many k parcels)
    (ap not (sym c.have_uids.ensures ∙ c.if-not-have_uids.true))

pub returns-then-not-have_places : goal.returns-then-not-have_places
returns-then-not-have_places c =
    let k = said c.args.holdings.now in
    let parcels = c.args.parcels.now in
    first-places (no-uids k parcels) (no-places k parcels) (too-heavy k parcels) (too-many k parcels)
    (ap not (sym c.have_uids.ensures ∙ c.if-not-have_uids.false))
    (ap not (sym c.have_places.ensures ∙ c.if-not-have_places.true))

pub returns-then-weight-weight_of : goal.returns-then-weight-weight_of
returns-then-weight-weight_of c =
    let k = said c.args.holdings.now in
    let parcels = c.args.parcels.now in
    first-bytes (no-uids k parcels) (no-places k parcels) (too-heavy k parcels) (too-many k parcels)
    (ap not (sym c.have_uids.ensures ∙ c.if-not-have_uids.false))
    (ap not (sym c.have_places.ensures ∙ c.if-not-have_places.false))
    (above MOST_WEIGHT (weight k + total weight_in parcels) (omega (arith, c.weight.ensures, c.weight_of.ensures.weight, c.if-weight-weight_of.true)))

pub returns : goal.returns
returns c =
    let k = said c.args.holdings.now in
    let parcels = c.args.parcels.now in
    let clients = clients-counted c.clients.result.now.entries c.args.holdings.now.held.clients c.len.result c.clients.ensures c.len.ensures.len in
    last-changes (no-uids k parcels) (no-places k parcels) (too-heavy k parcels) (too-many k parcels) c.limit_of_changes.result
    (ap not (sym c.have_uids.ensures ∙ c.if-not-have_uids.false))
    (ap not (sym c.have_places.ensures ∙ c.if-not-have_places.false))
    (not-above MOST_WEIGHT (weight k + total weight_in parcels) (omega (arith, c.weight.ensures, c.weight_of.ensures.weight, c.if-weight-weight_of.false)))
    (c.limit_of_changes.ensures ∙ ap (λ n. limit_where (nat_lt MOST_CHANGES (listed_count k + length parcels * n)) Changes None) clients)
