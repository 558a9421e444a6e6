-- A walk that finds the next of its places that pass a test. Assumes nothing.
use Prim.Native.Nat.{ℕ, ◌<◌}
use mathlib.Core.Path.{◌≡◌, refl, ap, subst, sym, ◌∙◌}
use mathlib.Core.Bool.{Bool, true, false}
use mathlib.Core.List.{List, [], ◌∷◌}
use denote.Param.Members.{Mut}
use borrow.Author.Rules.{rules}
use Rattle.std.specs.Prelude.{Option, None, Some}
use Rattle.std.specs.Borrow.{Bor}
use Rattle.std.specs.Fn.{CalledAt, TakesAt}
use Rattle.std.specs.List.{FoldsTo}
use Rattle.std.specs.Iterator.{Yields, FindsItem, CallableWhileAt, MakesProgress, item_count}
use Rattle.loops.specs.Lists.{keep}
use Rattle.chains.specs.inner.Left.{Left}
use Rattle.chains.proofs.PlaceLaws.{left_below, left_here, left_next}
use Rattle.chains.proofs.WalkLaws.{taken}
use Rattle.load.proofs.Firsts.{passed_over, came_to, at_end}

module _ (p q : ℕ → Bool) (n : ℕ) {F : Type 0} (g : Mut F (Bor ℕ × Unit {0}) Bool) (f : F) where
  -- a test that fails stays as it was, and fails where q does
  abbrev pub Fails : Type 0
  Fails = (x : ℕ) (f' : F) → CalledAt g f x false f' → (f' ≡ f) × (false ≡ q x)

  -- places that were passed over leave the same places that pass
  over : Fails → (xs s t : List ℕ) (f₁ f' : F) → f₁ ≡ f → Yields taken s xs t → FoldsTo (λ h x j. CalledAt g h x false j) f₁ xs f'
      → (f' ≡ f) × (keep q s ≡ keep q t) × (Left p n s → Left p n t)
  over a [] s t f₁ f' e y c = (sym c ∙ e, ap (keep q) y, λ l. subst (Left p n) y l)
  over a (x ∷ xs) s t f₁ f' e y c =
      let b = a x c.0 (subst (λ h. CalledAt g h x false c.0) e c.1) in
      let o = over a xs y.0 t c.0 f' b.0 y.2 c.2 in
      (o.0, passed_over q y.1 b.1 refl ∙ o.1, λ l. o.2 (left_next p n y.1 l))

  pub find_takes : {s : List ℕ} → Fails → ((x : ℕ) → x < n → p x ≡ true → TakesAt g f x) → Left p n s → CallableWhileAt taken g false s f
  find_takes {s} a h l = record {
    at = λ xs t f' x u y c k.
        let o = over a xs s t f f' refl y c in
        subst (λ j. TakesAt g j x) (sym o.0) (h x (left_below p n k (o.2 l)) (left_here p n k (o.2 l)));
  }

  module _ {s : List ℕ} (u : List ℕ) (a : Fails) (b : (x : ℕ) (f' : F) → CalledAt g f x true f' → true ≡ q x) where
    pub find_left : (r : Option ℕ) → FindsItem taken g s f r u → Left p n s → Left p n u
    find_left None c l = subst (Left p n) (sym c.2.2.1) tt
    find_left (Some x) c l = left_next p n c.2.2 ((over a c.0 s c.2.0 f c.1 refl c.2.1 c.3).2 l)

    pub find_taken : {v : List ℕ} → v ≡ keep q s → (r : Option ℕ) → FindsItem taken g s f r u → taken v r (keep q u)
    find_taken e None c = (e ∙ (over a c.0 s c.2.0 f c.1 refl c.2.1 c.3).1 ∙ at_end q c.2.2.0, at_end q c.2.2.1)
    find_taken e (Some x) c =
        let o = over a c.0 s c.2.0 f c.1 refl c.2.1 c.3 in
        e ∙ o.1 ∙ came_to q c.2.2 (b x c.4.0 (subst (λ h. CalledAt g h x true c.4.0) o.0 c.4.1)) refl

-- a step leaves fewer places
pub step_goes : {can : List ℕ → Type 0} {s t : List ℕ} (r : Option ℕ) → ((l : List ℕ) → can l) → taken s r t → MakesProgress can (item_count (λ l. l)) s r t
step_goes None k e = search rules
step_goes (Some x) k e = rw e (search (rules, k))
