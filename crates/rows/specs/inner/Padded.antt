-- The columns of a kind as the table has them: nine, the last of them blank. Assumes nothing.
use Rattle.std.specs.Prelude.{Bool, true, false, List, ◌++◌, ◌-◌, length, replicate}
use Rattle.rows.specs.declared.Class.{Class}
use Rattle.rows.specs.declared.Class.TheVariants.{Blank}

unfoldable pub padded : List Class → List Class
padded l = l ++ replicate (9 - length l) Blank

-- whether it is the class of what comes past a kind's columns
abbrev pub is_blank : Class → Bool
is_blank Blank = true
is_blank x = false
