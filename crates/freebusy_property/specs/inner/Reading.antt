-- What the reader of a line's parameters knows on its way: the public promises do not speak of it. Assumes nothing.
use Rattle.std.specs.Prelude.{ℕ, ◌+◌, Bool, cond, ◌&&◌, List, ltb}
use Rattle.loops.specs.Lists.{all_of, count_of}
use Rattle.freebusy_property.specs.Property.{is_fbtype, one_fbparam}

-- the parameters, where one before them is FBTYPE or none is
unfoldable pub fbparam_from : Bool → List (List ℕ) → Bool
fbparam_from typed ps = all_of one_fbparam ps && ltb (cond typed 1 0 + count_of is_fbtype ps) 2
