use Rattle.pc_request.proofs.Faultless.{request_from}
use Rattle.pc_request.proofs.laws.faultless_lines_are_requests.Goals as goal

pub returns : goal.returns
returns c = request_from
