use Rattle.std.proofs.Common.{ℕ, ◌≡◌, Option}
use Rattle.std.specs.Prelude.{None}
use Rattle.loops.specs.Search.{first}
use Rattle.refusals.specs.declared.Refusal.{Refusal}
use Rattle.validation.specs.inner.Answer.{Tells}
use Rattle.validation.proofs.first_fault.Given as goal

abbrev pub invariant-loop-k : goal.invariant-loop-k
invariant-loop-k g l = (f : ℕ → Option Refusal) → Tells f l.count (goal.F-post g l.fn.fault) → first f l.k ≡ None
