-- Lines that were found, handed over to a lent buffer, all or none. Assumes nothing.
use Rattle.std.specs.Prelude.{ℕ, cond, List, ◌++◌, take, drop, ltb, ℤ}
use Rattle.line_buffer.specs.declared.Handed.{Handed}
use Rattle.line_buffer.specs.declared.Handed.TheVariants.{Over, Full, Longer}

-- what becomes of so many lines, where the lent buffer has room for `room` lines and `held` stand where they were found
unfoldable pub handed : ℕ → ℕ → ℕ → Handed
handed room held count = cond (ltb room count) Full (cond (ltb held count) Longer Over)

-- the lent buffer afterwards: n numbers of what was found, and what lay after them
abbrev pub after_handing : Handed → ℕ → List ℤ → List ℤ → List ℤ
after_handing Over n found before = take n found ++ drop n before
after_handing Full n found before = before
after_handing Longer n found before = before
