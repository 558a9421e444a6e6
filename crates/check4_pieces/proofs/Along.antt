-- Walks along a chain that test each of its places. Assumes nothing.
use Prim.Native.Nat.{ℕ}
use mathlib.Core.Path.{◌≡◌, refl, ap, ◌∙◌}
use mathlib.Core.Bool.{Bool, true, false, ◌&&◌}
use mathlib.Core.List.{append-nil}
use Rattle.loops.specs.Lists.{given, keep, any_of, head}
use Rattle.loops.specs.Search.{any_below, first_place}
use Rattle.loops.proofs.RangeLaws.{collect_ext}
use Rattle.loops.proofs.ListLaws.{keep_collect}
use Rattle.chains.specs.Places.{places}
use Rattle.chains.proofs.PlaceLaws.{any_places, head_places}
use Rattle.check4_pieces.specs.inner.OfPiece.{both}

-- some place passes a test
pub any_both : (p t : ℕ → Bool) (n : ℕ) → any_of t (places p n) ≡ any_below (both p t) n
unfolding both
any_both p t n = any_places p t n

-- the first place that does
pub first_both : (p t : ℕ → Bool) (n : ℕ) → head (keep t (places p n)) ≡ first_place (both p t) n
unfolding places both keep
first_both p t n = ap head (keep_collect t (λ k. given (p k) k) n ∙ collect_ext _ _ n (λ k l. go k (p k))) ∙ head_places (both p t) n
  where
    go : (k : ℕ) (b : Bool) → keep t (given b k) ≡ given (b && t k) k
    go k true = append-nil (given (t k) k)
    go k false = refl
