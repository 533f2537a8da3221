use Rattle.pc_request.proofs.Written.{IsRequest-line_of, IsSpelling-line_of}
use Rattle.pc_request.proofs.writing.text_of.Goals as goal

pub returns-clause-read : goal.returns-clause-read
returns-clause-read c = IsRequest-line_of c.args.request.now c.with_arguments.ensures.spelled

pub returns-clause-spelling : goal.returns-clause-spelling
returns-clause-spelling c = IsSpelling-line_of c.args.request.now c.with_arguments.ensures.spelled
