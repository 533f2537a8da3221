use Rattle.std.proofs.Common.{◌∙◌, ap, ◌∷◌, rules}
use Rattle.pc_disk.specs.Deeds.{Write, deed_of}
use Rattle.pc_disk.specs.Notes.{Noted}
use Rattle.pc_disk.proofs.NoteLemmas.{AreNoted-write, told_write}
use Rattle.pc_disk.proofs.deeds.Deeds.push_write.Goals as goal

pub invariant_of-self : goal.invariant_of-self
invariant_of-self c =
    AreNoted-write c.args.fate _ _ _ _ _ c.args.area c.args.at c.len.result _ c.self.invariant c.in-Ok.ensures.items (search rules) c.in-Ok-push.ensures.items

pub returns-clause-deeds : goal.returns-clause-deeds
returns-clause-deeds c =
    told_write c.args.fate _ _ _ _ _ c.args.area c.args.at c.len.result c.self.invariant.within c.in-Ok.ensures.items (search rules) c.in-Ok-push.ensures.items
    ∙ ap (λ (noted : Noted). deed_of c.args.fate (Write c.args.area c.args.at c.args.bytes.now) ∷ noted.deeds) c.self.view_is
