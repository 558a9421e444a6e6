use mathlib.Core.List.{map}
use Rattle.text_fields.specs.Parts.{parts, parts_left}
use Rattle.freebusy_components.specs.Components.{busy}
use Rattle.freebusy.proofs.ReadLaws.{Going}
use Rattle.freebusy.proofs.Lent.read_value.Given as goal

abbrev pub invariant-loop-s : goal.invariant-loop-s
invariant-loop-s l = Going l.self.room l.self.resource l.initial.rows l.initial.so_far (map (busy l.p l.free) (parts 44 l.value)) l.rows l.so_far (map (busy l.p l.free) (parts_left l.s-iterator))
