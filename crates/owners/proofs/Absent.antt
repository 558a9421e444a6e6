-- Refusal 4 by what a row belongs to: the table of kinds and columns says which columns name an owner, and `owner_kind` which row that is.
-- Assumes nothing.
use Prim.Native.Nat.{ℕ, suc, ◌+◌, ◌<◌, ◌≤◌}
use mathlib.Core.Path.{◌≡◌, refl, ap, sym, ◌∙◌}
use mathlib.Core.Bool.{Bool, true, false, not, ◌||◌, or-false, or-true, false≢true}
use mathlib.Core.List.{List, []}
use Rattle.std.specs.Prelude.{Option, None, Some}
use Rattle.std.specs.Option.{is_some}
use native.Mathlib.Omega.{arith}
use native.Mathlib.Decide.{dec_lt}
use lib.IntN.{ℤ}
use lib.ListN.{get_or-eq_default}
use borrow.Author.Tests.{not-false}
use Rattle.loops.specs.Search.{any_below}
use Rattle.loops.proofs.BoolLaws.{and_left, and_right}
use Rattle.loops.proofs.SearchLaws.{any_none}
use Rattle.rows.specs.declared.Class.{Class}
use Rattle.rows.specs.declared.Class.TheVariants.{RowKind, TaskId, ActivityId, ResourceId, RequirementPlace, ConstraintPlace}
use Rattle.rows.specs.declared.Kind.{Kind}
use Rattle.rows.specs.declared.Kind.TheVariants.{Task, Activity, Candidate, WantedSkill, Resource, Precedence, Capacity, TimeWindow, NoOverlap, Synchronize, Booking, TimeOnlySpan}
use Rattle.rows.specs.Kinds.{kind_of, kind_number}
use Rattle.rows.specs.Cells.{row_count, num, is}
use Rattle.rows.specs.Table.{columns, class_of}
use Rattle.rows.proofs.KindNumbers.{kind_there, kind_number_is, kind_past}
use Rattle.sheet.specs.Places.{named, activity_place, nth_place}
use Rattle.sheet.specs.Refusals.{is_absent, has_members, lacks, absent_at, unowned}
use Rattle.sheet.proofs.Lookups.{is_num, nth_at}
use Rattle.owners.specs.declared.Owner.{Owner}
use Rattle.owners.specs.declared.Owner.TheVariants.{TaskRow, ActivityRow, RequirementRow, ResourceRow, ConstraintRow}
use Rattle.owners.specs.inner.Owners.{owner_kind, owner_of_kind, owner_of, owner_place}

-- ---- the columns that name an owner

-- a class that names none
abbrev plain : Class → Bool
plain TaskId = false
plain ActivityId = false
plain ResourceId = false
plain RequirementPlace = false
plain ConstraintPlace = false
plain _ = true

lacks_none : (cl : Class) (rows : List ℤ) (k c : ℕ) → plain cl ≡ true → lacks cl rows k c ≡ false
unfolding lacks
lacks_none TaskId rows k c e = absurd (false≢true e)
lacks_none ActivityId rows k c e = absurd (false≢true e)
lacks_none ResourceId rows k c e = absurd (false≢true e)
lacks_none RequirementPlace rows k c e = absurd (false≢true e)
lacks_none ConstraintPlace rows k c e = absurd (false≢true e)
lacks_none _ rows k c e = refl

past : (kind c : ℕ) → 25 ≤ kind → plain (class_of kind (suc c)) ≡ true
past kind c h = rw (get_or-eq_default columns [] h)

-- no kind names an owner in column 3 or later
rest : any_below (λ kind. any_below (λ c. not (plain (class_of kind (3 + c)))) 7) 25 ≡ false
unfolding any_below
rest = refl

rest_at_lem : (kind c : ℕ) → c < 7 → plain (class_of kind (suc (suc (suc c)))) ≡ true
rest_at_lem kind c l = go (dec_lt kind 25)
  where
    s : 3 + c ≡ suc (suc (suc c))
    s = omega arith

    go : Dec (kind < 25) → plain (class_of kind (suc (suc (suc c)))) ≡ true
    go (yes h) = rw s at (not-false (plain (class_of kind (3 + c))) (any_none (λ c. not (plain (class_of kind (3 + c)))) 7 c (any_none (λ kind. any_below (λ c. not (plain (class_of kind (3 + c)))) 7) 25 kind rest h) l))
    go (no h) = past kind (suc (suc c)) (omega arith)

any_ten : (p : ℕ → Bool) → p 0 ≡ false → ((c : ℕ) → c < 7 → p (suc (suc (suc c))) ≡ false) → any_below p 10 ≡ (p 1 || p 2)
unfolding any_below
any_ten p a h = rw (a, h 0 (omega arith), h 1 (omega arith), h 2 (omega arith), h 3 (omega arith), h 4 (omega arith), h 5 (omega arith), h 6 (omega arith)) (simp or-false)

-- a lookup that found nothing
absent_not : (u : Option ℕ) (b : Bool) → is_some u ≡ not b → b ≡ is_absent u
absent_not None true h = refl
absent_not None false h = absurd (false≢true h)
absent_not (Some j) true h = absurd (false≢true (sym h))
absent_not (Some j) false h = refl

module _ (rows : List ℤ) (k : ℕ) where
  -- only columns 1 and 2 name owners
  pub unowned_is : unowned rows k ≡ (absent_at rows k 1 || absent_at rows k 2)
  unfolding unowned absent_at
  unowned_is = any_ten (absent_at rows k) (lacks_none RowKind rows k 0 refl) (λ c l. lacks_none (class_of (num rows k 0) (suc (suc (suc c)))) rows k (suc (suc (suc c))) (rest_at_lem (num rows k 0) c l))

  -- an owner is absent where its row is; a requirement's activity too, and a member's owner is of kind 20 or 21
  abbrev absent : Option Owner → Bool
  absent None = false
  absent (Some TaskRow) = is_absent (owner_of rows (Some TaskRow) k)
  absent (Some ActivityRow) = is_absent (owner_of rows (Some ActivityRow) k)
  absent (Some RequirementRow) = is_absent (activity_place rows (num rows k 1)) || is_absent (owner_of rows (Some RequirementRow) k)
  absent (Some ResourceRow) = is_absent (owner_of rows (Some ResourceRow) k)
  absent (Some ConstraintRow) = not (has_members rows (owner_of rows (Some ConstraintRow) k))

  of_kind : (x : Kind) → num rows k 0 ≡ kind_number x → kind_number x ≤ 22 → unowned rows k ≡ absent (owner_of_kind (Some x))
  unfolding absent_at lacks owner_of
  of_kind Booking e l = absurd (omega arith)
  of_kind TimeOnlySpan e l = absurd (omega arith)
  of_kind Task e l = rw (unowned_is, e)
  of_kind Resource e l = rw (unowned_is, e)
  of_kind Precedence e l = rw (unowned_is, e)
  of_kind Capacity e l = rw (unowned_is, e)
  of_kind TimeWindow e l = rw (unowned_is, e)
  of_kind NoOverlap e l = rw (unowned_is, e)
  of_kind Synchronize e l = rw (unowned_is, e)
  of_kind Activity e l = rw (unowned_is, e)
  of_kind Candidate e l = rw (unowned_is, e)
  of_kind WantedSkill e l = rw (unowned_is, e)
  of_kind _ e l = rw (unowned_is, e) (or-false _)

  module _ {kind : ℕ} (e : kind ≡ num rows k 0) where
    neither : plain (class_of kind 1) ≡ true → plain (class_of kind 2) ≡ true → unowned rows k ≡ false
    unfolding absent_at
    neither a b = rw (unowned_is, ← e, lacks_none (class_of kind 1) rows k 1 a, lacks_none (class_of kind 2) rows k 2 b)

    -- bookings and time-only spans name no owner
    pub booked : 22 < kind → false ≡ unowned rows k
    booked l = sym (go (dec_lt kind 24) (dec_lt kind 25))
      where
        go : Dec (kind < 24) → Dec (kind < 25) → unowned rows k ≡ false
        go (yes h) y = let q : kind ≡ 23 = omega arith in neither (rw q) (rw q)
        go (no h) (yes m) = let q : kind ≡ 24 = omega arith in neither (rw q) (rw q)
        go (no h) (no m) = neither (past kind 0 (omega arith)) (past kind 1 (omega arith))

    owned : kind ≤ 22 → unowned rows k ≡ absent (owner_kind kind)
    unfolding owner_kind
    owned l = go (kind_of kind) refl
      where
        go : (y : Option Kind) → kind_of kind ≡ y → unowned rows k ≡ absent (owner_of_kind y)
        go None q = go_zero (dec_lt 0 kind)
          where
            go_zero : Dec (0 < kind) → unowned rows k ≡ false
            go_zero (yes h) = absurd (kind_there kind q h (omega arith))
            go_zero (no h) = let z : kind ≡ 0 = omega arith in neither (rw z) (rw z)
        go (Some x) q = let s : kind ≡ kind_number x = kind_number_is kind q in of_kind x (sym e ∙ s) (omega arith)

    module _ {x : Option Owner} (q : x ≡ owner_kind kind) (l : kind ≤ 22) where
      by_owner : (y : Option Owner) → x ≡ y → unowned rows k ≡ absent y
      by_owner y w = owned l ∙ ap absent (sym q ∙ w)

      pub ownerless : x ≡ None → false ≡ unowned rows k
      ownerless w = sym (by_owner None w)

      -- ---- what the lookup of the owner says

      module _ {v : Option ℕ} (p : v ≡ owner_place rows k) where
        place_is : (y : Option Owner) → x ≡ y → owner_of rows y k ≡ v
        unfolding owner_place
        place_is y w = ap (λ z. owner_of rows z k) (sym w ∙ q ∙ ap owner_kind e) ∙ sym p

        absent_gone : (y : Owner) → owner_of rows (Some y) k ≡ None → absent (Some y) ≡ true
        unfolding has_members
        absent_gone TaskRow g = ap is_absent g
        absent_gone ActivityRow g = ap is_absent g
        absent_gone RequirementRow g = ap (λ y. is_absent (activity_place rows (num rows k 1)) || is_absent y) g ∙ or-true (is_absent (activity_place rows (num rows k 1)))
        absent_gone ResourceRow g = ap is_absent g
        absent_gone ConstraintRow g = ap (λ y. not (has_members rows y)) g

        -- it has none
        pub gone : (y : Owner) → x ≡ Some y → v ≡ None → true ≡ unowned rows k
        gone y w m = sym (by_owner (Some y) w ∙ absent_gone y (place_is (Some y) w ∙ m))

        -- the requirement is there: is its activity?
        pub of_requirement : (o : ℕ) {u : Option ℕ} {b : Bool} → x ≡ Some RequirementRow → v ≡ Some o → u ≡ owner_place rows o → is_some u ≡ not b → b ≡ unowned rows k
        unfolding owner_place owner_of owner_kind named
        of_requirement o {u = u} w m s h =
            let t : nth_place (named rows 5 (num rows k 1)) (num rows k 2) (row_count rows) ≡ Some o = place_is (Some RequirementRow) w ∙ m in
            let f = nth_at (named rows 5 (num rows k 1)) (num rows k 2) (row_count rows) o t in
            let a : num rows o 0 ≡ 5 = is_num rows o 0 5 (and_left (is rows o 0 5) (is rows o 1 (num rows k 1)) f.1) in
            let d : num rows o 1 ≡ num rows k 1 = is_num rows o 1 (num rows k 1) (and_right (is rows o 0 5) (is rows o 1 (num rows k 1)) f.1) in
            let c : u ≡ activity_place rows (num rows k 1) = s ∙ ap (λ z. owner_of rows (owner_kind z) o) a ∙ ap (activity_place rows) d in
            absent_not _ _ h ∙ ap is_absent c ∙ sym (or-false (is_absent (activity_place rows (num rows k 1))))
            ∙ sym (by_owner (Some RequirementRow) w ∙ ap (λ y. is_absent (activity_place rows (num rows k 1)) || is_absent y) (place_is (Some RequirementRow) w ∙ m))

        pub of_constraint : (o : ℕ) {r : Bool} → x ≡ Some ConstraintRow → v ≡ Some o → r ≡ has_members rows (Some o) → not r ≡ unowned rows k
        of_constraint o w m s = ap not s ∙ sym (by_owner (Some ConstraintRow) w ∙ ap (λ y. not (has_members rows y)) (place_is (Some ConstraintRow) w ∙ m))

        pub found : (y : Owner) (o : ℕ) → x ≡ Some y → (y ≡ RequirementRow → ⊥) → (y ≡ ConstraintRow → ⊥) → v ≡ Some o → false ≡ unowned rows k
        found TaskRow o w a b m = sym (by_owner (Some TaskRow) w ∙ ap is_absent (place_is (Some TaskRow) w ∙ m))
        found ActivityRow o w a b m = sym (by_owner (Some ActivityRow) w ∙ ap is_absent (place_is (Some ActivityRow) w ∙ m))
        found ResourceRow o w a b m = sym (by_owner (Some ResourceRow) w ∙ ap is_absent (place_is (Some ResourceRow) w ∙ m))
        found RequirementRow o w a b m = absurd (a refl)
        found ConstraintRow o w a b m = absurd (b refl)

    abbrev of_activity : Owner → Bool
    of_activity ActivityRow = true
    of_activity _ = false

    module _ {x : Option Owner} (q : x ≡ owner_kind kind) where
      -- a row behind the kinds that must have their owner belongs to an activity, or to nothing
      late : (y : Owner) → x ≡ Some y → 22 < kind → y ≡ ActivityRow
      unfolding owner_kind
      late y w h = go (dec_lt kind 24) (dec_lt kind 25)
        where
          go : Dec (kind < 24) → Dec (kind < 25) → y ≡ ActivityRow
          go (yes a) b = let z : kind ≡ 23 = omega arith in cc
          go (no a) (yes b) = let z : kind ≡ 24 = omega arith in cc
          go (no a) (no b) = let z : kind_of kind ≡ None = kind_past kind (λ p. omega arith) in absurd (cc)

      pub early : (y : Owner) → x ≡ Some y → of_activity y ≡ false → kind ≤ 22
      early y w a = go (dec_lt 22 kind)
        where
          go : Dec (22 < kind) → kind ≤ 22
          go (yes h) = absurd (false≢true (sym a ∙ ap of_activity (late y w h)))
          go (no h) = omega arith

      pub unnamed : x ≡ None → false ≡ unowned rows k
      unnamed w = go (dec_lt 22 kind)
        where
          go : Dec (22 < kind) → false ≡ unowned rows k
          go (yes h) = booked h
          go (no h) = ownerless q (omega arith) w

      module _ {v : Option ℕ} (p : v ≡ owner_place rows k) where
        -- what belongs to something that is not there
        pub lost : kind ≤ 22 → v ≡ None → is_some x ≡ unowned rows k
        lost l m = go x refl
          where
            go : (y : Option Owner) → x ≡ y → is_some y ≡ unowned rows k
            go None w = ownerless q l w
            go (Some y) w = gone q l p y w m

        pub standing : (y : Owner) (o : ℕ) → x ≡ Some y → (y ≡ RequirementRow → ⊥) → (y ≡ ConstraintRow → ⊥) → v ≡ Some o → false ≡ unowned rows k
        standing y o w a b m = go (dec_lt 22 kind)
          where
            go : Dec (22 < kind) → false ≡ unowned rows k
            go (yes h) = booked h
            go (no h) = found q (omega arith) p y o w a b m
