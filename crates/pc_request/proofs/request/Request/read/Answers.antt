use Rattle.std.proofs.Common.{◌≡◌, Some}
use Rattle.pc_request.specs.Fault.{fault_of}
use Rattle.pc_request.specs.declared.request.RequestFault.TheVariants.{Unknown}
use Rattle.pc_request.proofs.Grammar.{every_request, fault_of-request, writable}
use Rattle.pc_request.proofs.request.Request.read.Goals as goal

pub returns-in_default-clause-every_request : goal.returns-in_default-clause-every_request
returns-in_default-clause-every_request c = λ request spells.
    let unknown : fault_of c.args.line.now ≡ Some Unknown = c.in_default.ensures {u = tt} in
    let faultless = fault_of-request request c.args.line.now spells in
    cc

pub returns-clause-every_request : goal.returns-clause-every_request
returns-clause-every_request c =
    let call = c.in-Some.ensures in
    every_request c.args.line.now call.0 _ c.in-Some.operation call.1.0 call.1.1 _ c.read_arguments.ensures

pub returns-clause-writable : goal.returns-clause-writable
returns-clause-writable c =
    let call = c.in-Some.ensures in
    writable c.args.line.now call.0 _ c.in-Some.operation call.1.0 call.1.1 _ c.read_arguments.ensures
