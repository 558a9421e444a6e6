use Rattle.std.proofs.Common.{◌≡◌, drop}
use Rattle.text_fields.specs.Spelling.{digits_from, limited}
use Rattle.text_fields.proofs.digits_value.Given as goal

-- the digits from here on, read on from n, spell what all of them spell
abbrev pub invariant-loop-x : goal.invariant-loop-x
invariant-loop-x l = limited (digits_from l.n (drop l.x-index l.s)) ≡ limited (digits_from 0 l.s)
