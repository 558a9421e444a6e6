-- The windows of a row, place by place along the chain of their owner. Assumes nothing.
use Prim.Native.Nat.{ℕ}
use mathlib.Core.Path.{◌≡◌, refl, ap, sym, ◌∙◌}
use mathlib.Core.Logic.{⊎_elim}
use mathlib.Core.Bool.{Bool, true, false, ◌&&◌}
use mathlib.Core.List.{List, map}
use Rattle.std.specs.Prelude.{Some}
use lib.IntN.{ℤ}
use Rattle.loops.specs.Lists.{given}
use Rattle.loops.specs.Range.{collect}
use Rattle.loops.proofs.ListLaws.{map_collect}
use Rattle.loops.proofs.RangeLaws.{collect_ext}
use Rattle.chains.specs.Places.{places}
use Rattle.rows.specs.Cells.{row_count, num, is}
use Rattle.sheet.specs.Places.{place_of}
use Rattle.owners.specs.inner.Owners.{owner_kind, owned_by}
use Rattle.model.specs.Sheet.{sheet}
use Rattle.model.specs.Resource.{windows}
use Rattle.model.proofs.OwnedLaws.{of_activity, of_resource}
use Rattle.window_rows.specs.inner.Laid.{Holder}
use Rattle.window_rows.proofs.WindowRows.{window_row, window_naming, resource_windows, activity_windows}

module _ (rows : List ℤ) (o x : ℕ) where
  -- the windows of row o, place by place
  by_owner : (id : ℕ) → ((k : ℕ) → owned_by rows o x k ≡ (is rows k 0 x && is rows k 1 id))
      → map (window_row rows) (places (owned_by rows o x) (row_count rows)) ≡ collect (window_naming rows x id) (row_count rows)
  unfolding places
  by_owner id h =
      map_collect (window_row rows) (λ k. given (owned_by rows o x k) k) (row_count rows)
      ∙ collect_ext _ _ (row_count rows) (λ k l. go k (owned_by rows o x k) ∙ ap (λ b. given b (window_row rows k)) (h k))
    where
      go : (k : ℕ) (b : Bool) → map (window_row rows) (given b k) ≡ given b (window_row rows k)
      go k true = refl
      go k false = refl

  -- they are those of the definition
  pub windows_are : Holder rows o x → map (window_row rows) (places (owned_by rows o x) (row_count rows)) ≡ windows (sheet rows) x (num rows o 1)
  windows_are h =
      ⊎_elim
      (λ (q : (x ≡ 16) × (place_of rows 2 (num rows o 1) ≡ Some o)).
      by_owner (num rows o 1) (rw q.0 (of_activity rows 16 o (num rows o 1) (unfold owner_kind in refl) q.1))
      ∙ rw q.0 (sym (activity_windows rows (num rows o 1))))
      (λ (q : (x ≡ 15) × (place_of rows 11 (num rows o 1) ≡ Some o)).
      by_owner (num rows o 1) (rw q.0 (of_resource rows 15 o (num rows o 1) (unfold owner_kind in refl) q.1))
      ∙ rw q.0 (sym (resource_windows rows (num rows o 1))))
      h
