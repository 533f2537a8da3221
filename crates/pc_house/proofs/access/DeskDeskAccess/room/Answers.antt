use Rattle.std.proofs.Common.{◌∙◌}
use Rattle.pc_house.specs.Base.{base_of}
use Rattle.pc_house.proofs.Rooms.{room_is}
use Rattle.pc_house.proofs.access.DeskDeskAccess.room.Goals as goal

pub returns : goal.returns
returns g c = rw (← c.self.view_is) (c.room.ensures ∙ room_is (base_of c.self.inside.base) c.self.inside.store)
