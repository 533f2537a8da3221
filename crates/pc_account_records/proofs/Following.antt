-- What holds of an entry that a store accepts.
use Rattle.std.proofs.Common.{◌≡◌, ◌<◌, ◌≤◌, true, length, arith}
use Rattle.std.proofs.lemmas.Bool.{and_parts}
use Rattle.pc_account_history.specs.declared.entry.Entry.{Entry}
use Rattle.pc_account_history.specs.declared.entry.Entry.TheVariants.{MakeMailbox, Forget}
use Rattle.pc_account_history.specs.declared.limits.TheConstants.{MOST_CHANGES}
use Rattle.pc_account_history.specs.Allowed.{is_allowed}
use Rattle.pc_account_spelling.specs.Spelling.{spelled_entry}
use Rattle.pc_account_spelling.specs.EntryForm.{entry_fits}
use Rattle.pc_account_spelling.specs.Laws.{forgotten}
use Rattle.pc_account_spelling.proofs.EntryLaws.{entry-is-short}
use Rattle.pc_account_spelling.proofs.ForgetSize.{forget_few}
use Rattle.pc_account_spelling.proofs.FitsAfter.{step_fits}
use Rattle.pc_account_holdings.specs.State.{State, said, may_follow, step}
use Rattle.pc_account_holdings.specs.Following.{may-parts, canonical-after}
use Rattle.pc_account_records.specs.Legal.{IsLegalState, accepts}

pub accepts-parts : (state : State) (entry : Entry) → accepts state entry ≡ true → (may_follow (said state) entry ≡ true) × (entry_fits entry ≡ true)
accepts-parts state entry accepted = and_parts (may_follow (said state) entry) (entry_fits entry) accepted

pub step_is_legal : (state : State) (entry : Entry) → IsLegalState state → accepts state entry ≡ true → state.next < 9223372036854775808 → IsLegalState (step state entry)
step_is_legal state entry legal accepted small =
    let parts = accepts-parts state entry accepted in
    let may = may-parts (said state) entry parts.0 in
    let canonical = canonical-after state entry legal.canonical parts.0 in
    record { canonical = canonical; fits = step_fits state.held state.next entry legal.canonical.well_formed legal.fits may.0 parts.1 canonical small }

forgotten-few : (state : State) (entry : Entry) → IsLegalState state → is_allowed (said state) entry ≡ true → length (forgotten entry) ≤ MOST_CHANGES
forgotten-few state (Forget client mailbox uids) legal allowed = forget_few state.held state.next client mailbox uids legal.canonical allowed
forgotten-few state (MakeMailbox mailbox) legal allowed = omega arith
forgotten-few state _ legal allowed = omega arith

pub accepted_is_short : (state : State) (entry : Entry) → IsLegalState state → accepts state entry ≡ true → (1 ≤ length (spelled_entry entry)) × (length (spelled_entry entry) ≤ 8388608)
accepted_is_short state entry legal accepted =
    let parts = accepts-parts state entry accepted in
    entry-is-short entry parts.1 (forgotten-few state entry legal (may-parts (said state) entry parts.0).0)
