use Rattle.overlap.specs.Bounds.{overlap_of}
use mathlib.Core.Path.{◌≡◌, sym, subst}
use Prim.Native.Nat.{◌≤◌, ℕ}
use lib.Dec.{T}
use lib.IntN.{ℤ}
use Rattle.overlap.specs.inner.Shares.{is_share}
use Rattle.overlap.specs.declared.Overlap.{Overlap}
use Rattle.overlap.proofs.Laws.{bits_share}
use borrow.Author.Rules.{rules}
use Rattle.replay_derived_times.proofs.overlap_case.Goals as goal

-- an overlap as it was made: its share is one
made_share : {o : Overlap} (bits : ℕ) (lag : ℤ) → o ≡ overlap_of bits lag → bits ≤ 4607182418800017408 → T (is_share o.start_after)
made_share bits lag e h = subst (λ (o : Overlap). T (is_share o.start_after)) (sym e) (bits_share bits h)

pub earliest_start-requires : goal.earliest_start-requires
earliest_start-requires c = search (rules, made_share)
