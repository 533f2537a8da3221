use Rattle.std.proofs.Common.{◌≡◌, ◌∙◌, ℕ, ◌-◌, List, [], ◌∷◌, ◌++◌, Option, Some, Result, sym, ap, subst, inl, inr}
use Rattle.std.specs.Prelude.{◌⊎◌, MatchOption}
use Rattle.pc_base.specs.declared.machine.Machine.{Ghosts}
use Rattle.pc_disk.specs.Images.{Images}
use Rattle.pc_disk.specs.Deeds.{reads}
use Rattle.pc_disk.specs.Memory.{DiskState}
use Rattle.pc_log.specs.Area.{Head}
use Rattle.pc_store.specs.declared.fault.OpenFault.{OpenFault}
use Rattle.pc_store.specs.Current.{OpensIn}
use Rattle.pc_store.specs.Opening.{OpensAs}
use Rattle.pc_store.specs.Store.{OpensInDoubt, StoreState}
use Rattle.pc_store.specs.Store.MayOpen.{as_it_was, with_entry, renewed}
use Rattle.pc_store.proofs.tests.openings.open_after_a_crash.Goals as goal

some_is : {X : Type 0} (option : Option X) (x : X) (P : X → Type 0) → option ≡ Some x → P x → MatchOption option ⊥ P
some_is option x P is holds = rw is holds

opens_one : {M D E : Type 0} (machine : Ghosts M E) (store : StoreState M D E) (images : Images) (result : Result (StoreState M D E) (OpenFault D))
    → ((index : ℕ) (head : Head) (trail : List E) → OpensIn machine index head trail images → OpensAs index head trail result) → OpensInDoubt machine store images
    → OpensAs store.area store.head store.trail result ⊎ MatchOption store.doubt ⊥ (λ entry. OpensAs store.area store.head (store.trail ++ entry ∷ []) result) ⊎ MatchOption store.renewal ⊥ (λ head. OpensAs (1 - store.area) head [] result)
opens_one machine store images result finds (as_it_was opens) = inl (finds store.area store.head store.trail opens)
opens_one machine store images result finds (with_entry entry is opens) = inr (inl (some_is store.doubt entry (λ entry. OpensAs store.area store.head (store.trail ++ entry ∷ []) result) is (finds store.area store.head (store.trail ++ entry ∷ []) opens)))
opens_one machine store images result finds (renewed head is opens) = inr (inr (some_is store.renewal head (λ head. OpensAs (1 - store.area) head [] result) is (finds (1 - store.area) head [] opens)))

pub returns : goal.returns
returns g c =
    let disk = c.crashed.result in
    let first = ap (λ (d : DiskState). d.first) c.crashed.ensures.left in
    let seen : reads disk.first disk.deeds ≡ disk.first = ap (λ (d : DiskState). reads d.first d.deeds) c.crashed.ensures.left ∙ sym first in
    let finds = λ (index : ℕ) (head : Head) (trail : List _) (opens : OpensIn g.M.Machine index head trail disk.first).
    c.open_store.ensures.only tt index head trail (subst (λ (images : Images). OpensIn g.M.Machine index head trail images) (sym seen) opens) in
    opens_one g.M.Machine c.args.store disk.first c.open_store.result finds (c.into_disk.ensures.leaves tt disk.first c.crashed.ensures.possible)
