use Rattle.pc_account_history.specs.declared.entry.Entry.TheVariants.{Pull}
use Rattle.pc_fields.specs.Format.{ends}
use Rattle.pc_fields.proofs.Formats.{nothing_more, after_field, after_part, no_part}
use Rattle.pc_account_spelling.proofs.spelling.entry_reading.read_pull.Goals as goal

pub returns-in_err-letters : goal.returns-in_err-letters
returns-in_err-letters c = after_field c.in_ok-upto.ensures (after_field c.in_ok-count.ensures (no_part (λ letters. ends (Pull c.in_ok-upto.upto letters)) c.in_err-letters.ensures c.from_residual-in_err-letters.ensures))

pub returns : goal.returns
returns c = after_field c.in_ok-upto.ensures (after_field c.in_ok-count.ensures (after_part (λ letters. ends (Pull c.in_ok-upto.upto letters)) c.in_ok-letters.ensures nothing_more))
