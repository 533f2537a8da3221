use Rattle.std.proofs.Common.{ℕ, List, ◌&&◌, sym, ap, ◌∙◌}
use Rattle.std.specs.List.{filter}
use Rattle.std.specs.Map.{keys_of}
use Rattle.pc_tables.specs.Table.{same}
use Rattle.pc_office_history.specs.declared.kept.Target.{Target}
use Rattle.pc_office_history.specs.Record.{OfficeRecord}
use Rattle.pc_office_history.specs.Known.{Known, said_by}
use Rattle.pc_office_history.specs.Answers.{addresses_of}
use Rattle.pc_office_history.proofs.Names.{read-off}
use Rattle.pc_office_holdings.specs.Held.{record_in}
use Rattle.pc_office.proofs.Told.{names-told}
use Rattle.pc_office.proofs.Standing.{said_is_known}
use Rattle.pc_office.proofs.office.Office.addresses.Goals as goal

pub returns-clause-held : goal.returns-clause-held
returns-clause-held c =
    let user = c.args.user.now in
    let mailbox = c.args.mailbox.now in
    let test = λ (address : List ℕ × Target). same user address.1.user && same mailbox address.1.mailbox in
    names-told test c.loop-address.names c.loop-address.address-iterator c.into_iter-address-iterator.result c.loop-address.invariant c.in-None.ensures.steps.0
    ∙ ap (λ (table : List (List ℕ × Target)). keys_of (filter test table)) (c.into_iter-address-iterator.ensures.into_iter_gives ∙ c.iter-address-items.ensures.rest ∙ c.addresses.ensures)
    ∙ sym ((read-off (record_in c.self.inside.holdings) c.self.invariant.canonical.well_formed).addresses user mailbox)
    ∙ ap (λ (r : OfficeRecord). addresses_of (said_by r) user mailbox) c.self.view_is

pub returns-clause-history : goal.returns-clause-history
returns-clause-history c = λ h stands. returns-clause-held c ∙ ap (λ (k : Known). addresses_of k c.args.user.now c.args.mailbox.now) (said_is_known c.args.self.now h stands)
