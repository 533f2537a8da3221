use Rattle.std.proofs.Common.{take}
use Rattle.pc_office.proofs.Told.{AreTold}
use Rattle.pc_office.proofs.telling.first_for.Given as goal

-- those told of the mails so far, of which there are at most 64
abbrev pub invariant-loop-mail : goal.invariant-loop-mail
invariant-loop-mail l = AreTold l.user (take l.mail-index l.kept) l.mails
