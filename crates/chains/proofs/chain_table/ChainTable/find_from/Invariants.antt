use Rattle.std.proofs.Common.{ℕ, Bool, ◌≤◌, ◌-◌}
use Rattle.loops.specs.inner.Chain.{Stands, Blind}
use Rattle.loops.proofs.TableLaws.{Seeking}
use Rattle.chains.specs.inner.Along.{Along, Means}
use Rattle.chains.proofs.chain_table.ChainTable.find_from.Given as goal

abbrev pub invariant-loop-i : goal.invariant-loop-i
invariant-loop-i g l = (p q : ℕ → Bool) (n : ℕ) → Along p n l.self → Stands p n l.from → l.end ≤ n → Blind p q → Means p q (goal.F-post g l.fn.test) → Seeking p q n l.from l.i

abbrev pub decreases-loop-i : goal.decreases-loop-i
decreases-loop-i g l = l.end - l.i
