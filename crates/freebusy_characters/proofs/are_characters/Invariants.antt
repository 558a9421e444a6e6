use Rattle.std.proofs.Common.{◌≡◌, length}
use Rattle.freebusy_characters.specs.Utf8.{characters}
use Rattle.freebusy_characters.proofs.are_characters.Given as goal

abbrev pub invariant-loop-rest : goal.invariant-loop-rest
invariant-loop-rest g l = characters g.test l.rest ≡ characters g.test l.s

abbrev pub decreases-loop-rest : goal.decreases-loop-rest
decreases-loop-rest g l = length l.rest
