-- How many cases there were. Assumes nothing.
use Rattle.std.specs.Prelude.{ℕ, ◌+◌, cond, ltb}

-- one more, as far as a count goes
abbrev pub more : ℕ → ℕ
more n = cond (ltb n 1000000) (n + 1) n
