-- Laws of a list's lines and their fields, which are looked at from the first on. Assumes nothing.
use Prim.Native.Nat.{ℕ, suc, ◌+◌, ◌-◌, ◌≤◌, ◌<◌, ◌^◌, min}
use mathlib.Core.Bool.{Bool, true, false, cond}
use mathlib.Core.List.{List, [], ◌∷◌}
use mathlib.Core.Path.{◌≡◌, refl, ap, ◌∙◌}
use native.Mathlib.Omega.{arith}
use lib.Dec.{eqb}
use mir.Syntax.{w64}
use mir.Val.{Fits}
use lib.ListN.{length, take, drop, length-drop}
use Rattle.loops.proofs.ListLaws.{rest_is}
use Rattle.text_fields.specs.Parts.{until_byte, parts, on_first}
use Rattle.text_fields.proofs.PartLaws.{up_within}
use Rattle.stored_lines.specs.inner.Line.{is_judging}
use Rattle.stored_lines.specs.inner.Case.{gathering_length, judging_at, CaseAt}

-- how many bytes the parts have, with the bytes that part them, and one more
unfoldable pub spread : List (List ℕ) → ℕ
spread [] = 0
spread (p ∷ ps) = length p + 1 + spread ps

pub parts_spread : (b : ℕ) (xs : List ℕ) → spread (parts b xs) ≡ length xs + 1
unfolding spread parts
parts_spread b [] = refl
parts_spread b (x ∷ xs) = go (eqb x b) (parts b xs) (parts_spread b xs)
  where
    go : (t : Bool) (ps : List (List ℕ)) → spread ps ≡ length xs + 1 → spread (cond t ([] ∷ ps) (on_first x ps)) ≡ suc (length xs) + 1
    go true ps h = omega arith
    go false [] h = omega arith
    go false (p ∷ ps) h = omega arith

-- a line that was read of a part that goes to the end
line_at : (list : List ℕ) (at : ℕ) (f : List ℕ) → f ≡ until_byte 10 (take (length list - at) (drop at list)) → f ≡ until_byte 10 (drop at list)
line_at list at f e = e ∙ ap (until_byte 10) (rest_is at list)

-- where the first line judges, looked for from a place on; ps are the lines that are left: f is the first of them, and judges or does not; none is left
pub judges_start : (list : List ℕ) (from : ℕ) {ps : List (List ℕ)} → from ≤ length list → ps ≡ parts 10 (take (length list - from) (drop from list))
    → (min (from + gathering_length ps) (length list) ≡ judging_at list from) × (from + spread ps ≡ length list + 1)
judges_start list from {ps} h e =
    let p : ps ≡ parts 10 (drop from list) = e ∙ ap (parts 10) (rest_is from list) in
    let k : length (drop from list) ≡ length list - from = simp length-drop in
    (ap (λ (qs : List (List ℕ)). min (from + gathering_length qs) (length list)) p, ap (λ (qs : List (List ℕ)). from + spread qs) p ∙ omega (arith, parts_spread 10 (drop from list), k))

module _ (list : List ℕ) (at : ℕ) {t : ℕ} (ps : List (List ℕ)) (now : (min (at + gathering_length ps) (length list) ≡ t) × (at + spread ps ≡ length list + 1)) where
  module _ {f : List ℕ} {qs : List (List ℕ)} (p : ps ≡ f ∷ qs) where
    reach : at + (length f + 1 + spread qs) ≡ length list + 1
    unfolding spread
    reach = rw p at now.1

    pub judges_here : is_judging f ≡ true → at ≡ t
    unfolding gathering_length
    judges_here y = let z : gathering_length ps ≡ 0 = rw (p, y) in omega (arith, now.0, z, reach)

    pub judges_later : is_judging f ≡ false → (min (at + (length f + 1) + gathering_length qs) (length list) ≡ t) × (at + (length f + 1) + spread qs ≡ length list + 1)
    unfolding gathering_length
    judges_later n = let z : gathering_length ps ≡ length f + 1 + gathering_length qs = rw (p, n) in (omega (arith, now.0, z), omega (arith, reach))

    pub later_fits : length list < 2 ^ 63 → Fits w64 (at + (length f + 1))
    later_fits l = record { fits = omega (arith, reach) }

  pub judges_nowhere : ps ≡ [] → length list ≡ t
  unfolding gathering_length spread
  judges_nowhere e = let z : gathering_length ps ≡ 0 = rw e in let y : spread ps ≡ 0 = rw e in omega (arith, now.0, now.1, z, y)

-- the case from a place on, where f is the line that judges it
module _ (list : List ℕ) (at line : ℕ) (f : List ℕ) (p : line ≡ judging_at list at) (e : f ≡ until_byte 10 (take (length list - line) (drop line list))) where
  pub line_within : line + length f ≤ length list
  line_within =
      let k : length (drop line list) ≡ length list - line = simp length-drop in
      omega (arith, p, ap length (line_at list line f e), up_within 10 (drop line list), k)

  pub case_found : {next : ℕ} → next ≡ min (line + length f + 1) (length list) → CaseAt list at (record { start = at; line = line; end = line + length f; next = next })
  case_found q = record { start = refl; line = p; end = ap (λ (g : List ℕ). line + length g) (line_at list line f e); next = q }

pub line_from : (list : List ℕ) (at line : ℕ) → line ≡ judging_at list at → at ≤ length list → at ≤ line
line_from list at line p h = omega arith
