-- Candidates and usages by rows. Assumes nothing.
use Prim.Native.Nat.{ℕ, ◌<◌, ◌≤◌}
use mathlib.Core.Path.{◌≡◌, refl, ap, sym, ◌∙◌}
use mathlib.Core.Bool.{Bool, true, false, cond, not, ◌&&◌}
use mathlib.Core.List.{List, [], ◌∷◌, ◌++◌}
use Rattle.std.specs.Prelude.{Option, None, Some}
use lib.IntN.{ℤ}
use Rattle.loops.specs.Lists.{given, keep, head, option, among, is_empty}
use Rattle.loops.specs.Search.{some_if, first_place, any_below}
use Rattle.loops.proofs.ListLaws.{keep_collect, head_collect}
use Rattle.chains.specs.Places.{places}
use Rattle.chains.proofs.PlaceLaws.{keep_places, head_places}
use Rattle.rows.specs.Cells.{row_count, num, is}
use Rattle.sheet.specs.Places.{place_of}
use Rattle.sheet.specs.Refusals.{refusal_of}
use Rattle.owners.specs.inner.Owners.{owner_kind, owned_by}
use Rattle.model.specs.Sheet.{sheet}
use Rattle.model.specs.Activity.{requirement_at, requirements, candidates, is_candidate, usage_on}
use Rattle.model.specs.inner.Records.{activity_of, requirement_of, resource_of}
use Rattle.model.proofs.Accepting.{accepted, at_most}
use Rattle.model.proofs.OwnedLaws.{of_activity}
use Rattle.model.proofs.Finds.{first_same, first_placed, given_head}
use Rattle.model.proofs.Requiring.{requirement_row, requirement_none, candidates_are, none_given, among_given}

-- ---- candidates

module _ (rows : List ℤ) (q : ℕ) (l : q < row_count rows) (h : is rows q 0 5 ≡ true) where
  pub listed_are : (id : ℕ) → any_below (λ k. owned_by rows q 6 k && is rows k 3 id) (row_count rows) ≡ among id (candidates (sheet rows) (requirement_of rows q))
  unfolding is
  listed_are id = sym (ap (among id) (candidates_are rows q l h) ∙ among_given (owned_by rows q 6) (λ k. num rows k 3) id (row_count rows))

  none_listed : is_empty (candidates (sheet rows) (requirement_of rows q)) ≡ not (any_below (owned_by rows q 6) (row_count rows))
  none_listed = ap is_empty (candidates_are rows q l h) ∙ none_given (owned_by rows q 6) (λ k. num rows k 3) (row_count rows)

  -- it lists some
  pub by_list : (k : ℕ) → any_below (owned_by rows q 6) (row_count rows) ≡ true
      → is_candidate (sheet rows) (requirement_of rows q) (resource_of rows k) ≡ any_below (λ j. owned_by rows q 6 j && is rows j 3 (num rows k 1)) (row_count rows)
  unfolding is_candidate
  by_list k e = let t : is_empty (candidates (sheet rows) (requirement_of rows q)) ≡ false = none_listed ∙ ap not e in rw t (sym (listed_are (num rows k 1)))

  -- it lists none
  pub by_type : (k : ℕ) → any_below (owned_by rows q 6) (row_count rows) ≡ false
      → is_candidate (sheet rows) (requirement_of rows q) (resource_of rows k) ≡ is rows k 2 (num rows q 2)
  unfolding is_candidate is
  by_type k e = let t : is_empty (candidates (sheet rows) (requirement_of rows q)) ≡ true = none_listed ∙ ap not e in rw t refl

-- ---- usage

module _ (rows : List ℤ) (k : ℕ) where
  -- row q takes the resource, if it is a requirement
  abbrev pub takes : ℕ → Bool
  takes q = is_candidate (sheet rows) (requirement_of rows q) (resource_of rows k)

  -- what the first of the requirements uses that takes it
  unfoldable pub first_usage : List ℕ → ℕ
  first_usage [] = 1
  first_usage (q ∷ l) = cond (takes q) (num rows q 4) (first_usage l)

  first_kept : (l : List ℕ) → first_usage l ≡ option (head (keep takes l)) 1 (λ q. num rows q 4)
  unfolding first_usage keep
  first_kept [] = refl
  first_kept (q ∷ l) = go (takes q) (first_kept l)
    where
      go : (b : Bool) → first_usage l ≡ option (head (keep takes l)) 1 (λ q. num rows q 4)
          → cond b (num rows q 4) (first_usage l) ≡ option (head (given b q ++ keep takes l)) 1 (λ q. num rows q 4)
      go true e = refl
      go false e = e

module _ (rows : List ℤ) (a k : ℕ) where
  -- it is one of the activity that takes the resource
  abbrev pub mine : ℕ → Bool
  mine q = owned_by rows a 5 q && takes rows k q

  requirement_at_lem : place_of rows 2 (num rows a 1) ≡ Some a → (q : ℕ)
      → head (keep (λ q. is_candidate (sheet rows) q (resource_of rows k)) (requirement_at (sheet rows) (num rows a 1) q)) ≡ some_if (mine q) (requirement_of rows q)
  unfolding keep
  requirement_at_lem p q = rw (of_activity rows 5 a (num rows a 1) (unfold owner_kind in refl) p q) (go (is rows q 0 5) refl (is rows q 1 (num rows a 1)) refl)
    where
      go : (b : Bool) → is rows q 0 5 ≡ b → (d : Bool) → is rows q 1 (num rows a 1) ≡ d
          → head (keep (λ q. is_candidate (sheet rows) q (resource_of rows k)) (requirement_at (sheet rows) (num rows a 1) q))
          ≡ some_if ((is rows q 0 5 && is rows q 1 (num rows a 1)) && is_candidate (sheet rows) (requirement_of rows q) (resource_of rows k)) (requirement_of rows q)
      go true h true g = rw (requirement_row rows (num rows a 1) q h, h, g) (given_head (is_candidate (sheet rows) (requirement_of rows q) (resource_of rows k)) (requirement_of rows q))
      go true h false g = rw (requirement_row rows (num rows a 1) q h, h, g)
      go false h d g = rw (requirement_none rows (num rows a 1) q h, h)

  pub usage_found : place_of rows 2 (num rows a 1) ≡ Some a → first_usage rows k (places (owned_by rows a 5) (row_count rows)) ≡ usage_on (sheet rows) (activity_of rows a) (resource_of rows k)
  unfolding usage_on requirements
  usage_found p =
      first_kept rows k (places (owned_by rows a 5) (row_count rows))
      ∙ ap (λ y. option y 1 (λ q. num rows q 4)) (ap head (keep_places (owned_by rows a 5) (takes rows k) (row_count rows)) ∙ head_places mine (row_count rows))
      ∙ sym
      (ap (λ y. option y 1 (λ q. q.usage))
      (ap head (keep_collect (λ q. is_candidate (sheet rows) q (resource_of rows k)) (requirement_at (sheet rows) (num rows a 1)) (row_count rows))
      ∙ head_collect (λ j. keep (λ q. is_candidate (sheet rows) q (resource_of rows k)) (requirement_at (sheet rows) (num rows a 1) j)) (row_count rows)
      ∙ first_same _ _ (row_count rows) (requirement_at_lem p)
      ∙ first_placed mine (requirement_of rows) (row_count rows))
      ∙ go (first_place mine (row_count rows)))
    where
      go : (x : Option ℕ) → option (option x None (λ j. Some (requirement_of rows j))) 1 (λ q. q.usage) ≡ option x 1 (λ q. num rows q 4)
      go None = refl
      go (Some j) = refl

-- a requirement of an accepted sheet takes no more
pub usage_most : (rows : List ℤ) (q : ℕ) → refusal_of rows ≡ None → is rows q 0 5 ≡ true → num rows q 4 ≤ 1000000
usage_most rows q acc h = at_most rows (accepted rows acc) q 5 4 h
