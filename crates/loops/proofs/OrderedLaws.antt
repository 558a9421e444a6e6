-- A map that is filled by `upsert`: what stands under a key, what a test of all values comes to, and a sum over the entries. Assumes nothing.
use Prim.Native.Nat.{ℕ, ◌+◌}
use mathlib.Core.Path.{◌≡◌, refl, sym, ap, ◌∙◌}
use mathlib.Core.Bool.{Bool, true, false, cond, not, ◌&&◌, ◌||◌, or-true, true≢false, false≢true}
use mathlib.Core.List.{List, [], ◌∷◌, ◌++◌}
use Rattle.std.specs.Prelude.{Option, None, Some}
use native.Mathlib.Omega.{arith}
use lib.Signed.{lt_z}
use Rattle.loops.specs.Lists.{given, keep, head, any_of, option, is_some}
use Rattle.loops.specs.Ordered.{Entry, entry, upsert, values}
use Rattle.loops.specs.Sums.{total}
use Rattle.loops.proofs.BoolLaws.{and_left, and_right, both}
use Rattle.loops.proofs.IntegerLaws.{signed_trans, signed_asym, signed_total}

-- an order of keys: of two that are not the same one is before the other
pub record Order {A : Type 0} (before : A → A → Bool) : Type 0 where
  pub trans : (x y z : A) → before x y ≡ true → before y z ≡ true → before x z ≡ true
  pub asym : (x y : A) → before x y ≡ true → before y x ≡ false
  pub total : (x y : A) → before x y ≡ false → before y x ≡ false → x ≡ y

abbrev pub alike : {A : Type 0} → (A → A → Bool) → A → A → Bool
alike before x y = not (before x y) && not (before y x)

pub integer_order : Order lt_z
integer_order = record { trans = signed_trans; asym = signed_asym; total = signed_total }

pub not_self : {A : Type 0} (before : A → A → Bool) → Order before → (x : A) → before x x ≡ false
not_self before o x = go (before x x) refl
  where
    go : (b : Bool) → before x x ≡ b → b ≡ false
    go true e = sym e ∙ o.asym x x e
    go false e = refl

pub none_some : {B : Type 0} {v : B} → ◌≡◌ {A = Option B} None (Some v) → ⊥
none_some e = false≢true (ap is_some e)

module _ {A B : Type 0} (before : A → A → Bool) where
  -- the value under a key
  unfoldable pub lookup : A → List (Entry A B) → Option B
  lookup x [] = None
  lookup x (e ∷ m) = cond (before x e.key) None (cond (before e.key x) (lookup x m) (Some e.value))

  pub below : A → List (Entry A B) → Bool
  below x [] = true
  below x (e ∷ m) = before x e.key

  unfoldable pub sorted : List (Entry A B) → Bool
  sorted [] = true
  sorted (e ∷ m) = below e.key m && sorted m

  module _ (o : Order before) where
    module _ (k : A) (d : B) (f : B → B) where
      below_upsert : (y : A) (m : List (Entry A B)) → before y k ≡ true → below y m ≡ true → below y (upsert before k d f m) ≡ true
      unfolding below upsert
      below_upsert y [] h e = h
      below_upsert y (x ∷ m) h e = go (before k x.key) (before x.key k)
        where
          go : (a b : Bool) → below y (cond a (entry k (f d) ∷ x ∷ m) (cond b (x ∷ upsert before k d f m) (entry x.key (f x.value) ∷ m))) ≡ true
          go true b = h
          go false true = e
          go false false = e

      pub sorted_upsert : (m : List (Entry A B)) → sorted m ≡ true → sorted (upsert before k d f m) ≡ true
      unfolding below sorted upsert
      sorted_upsert [] e = refl
      sorted_upsert (x ∷ m) e = go (before k x.key) (before x.key k) refl refl (sorted_upsert m (and_right (below x.key m) (sorted m) e))
        where
          go : (a b : Bool) → before k x.key ≡ a → before x.key k ≡ b → sorted (upsert before k d f m) ≡ true
              → sorted (cond a (entry k (f d) ∷ x ∷ m) (cond b (x ∷ upsert before k d f m) (entry x.key (f x.value) ∷ m))) ≡ true
          go true b p q r = both p e
          go false true p q r = both (below_upsert x.key m q (and_left (below x.key m) (sorted m) e)) r
          go false false p q r = e

      -- one key more: a value changes under its key, and under no other
      pub lookup_upsert : (x : A) (m : List (Entry A B))
          → lookup x (upsert before k d f m) ≡ cond (alike before x k) (Some (f (option (lookup x m) d (λ v. v)))) (lookup x m)
      unfolding lookup upsert
      lookup_upsert x [] = go (before x k) (before k x)
        where
          go : (a b : Bool) → cond a None (cond b None (Some (f d))) ≡ cond (not a && not b) (Some (f d)) None
          go true b = refl
          go false true = refl
          go false false = refl
      lookup_upsert x (e ∷ m) = go (before k e.key) (before e.key k) refl refl (lookup_upsert x m)
        where
          rest : Option B
          rest = cond (before x e.key) None (cond (before e.key x) (lookup x m) (Some e.value))

          first : before k e.key ≡ true → (a b : Bool) → before x k ≡ a → before k x ≡ b
              → cond a None (cond b rest (Some (f d))) ≡ cond (not a && not b) (Some (f (option rest d (λ v. v)))) rest
          first p true b g h = rw (o.trans x k e.key g p)
          first p false true g h = refl
          first p false false g h = rw (o.total x k g h, p)

          later : before k e.key ≡ false → before e.key k ≡ true
              → lookup x (upsert before k d f m) ≡ cond (alike before x k) (Some (f (option (lookup x m) d (λ v. v)))) (lookup x m)
              → (a b : Bool) → before x e.key ≡ a → before e.key x ≡ b
              → cond a None (cond b (lookup x (upsert before k d f m)) (Some e.value))
              ≡ cond (alike before x k) (Some (f (option (cond a None (cond b (lookup x m) (Some e.value))) d (λ v. v)))) (cond a None (cond b (lookup x m) (Some e.value)))
          later p q r true b g h = rw (o.trans x e.key k g q)
          later p q r false true g h = r
          later p q r false false g h = rw (o.total x e.key g h, q)

          here : before k e.key ≡ false → before e.key k ≡ false → (a b : Bool) → before x e.key ≡ a → before e.key x ≡ b
              → cond a None (cond b (lookup x m) (Some (f e.value)))
              ≡ cond (alike before x k) (Some (f (option (cond a None (cond b (lookup x m) (Some e.value))) d (λ v. v)))) (cond a None (cond b (lookup x m) (Some e.value)))
          here p q true b g h = rw (o.total k e.key p q, g)
          here p q false true g h = rw (o.total k e.key p q, g, h)
          here p q false false g h = rw (o.total k e.key p q, g, h)

          go : (a b : Bool) → before k e.key ≡ a → before e.key k ≡ b
              → lookup x (upsert before k d f m) ≡ cond (alike before x k) (Some (f (option (lookup x m) d (λ v. v)))) (lookup x m)
              → lookup x (cond a (entry k (f d) ∷ e ∷ m) (cond b (e ∷ upsert before k d f m) (entry e.key (f e.value) ∷ m)))
              ≡ cond (alike before x k) (Some (f (option rest d (λ v. v)))) rest
          go true b p q r = first p (before x k) (before k x) refl refl
          go false true p q r = later p q r (before x e.key) (before e.key x) refl refl
          go false false p q r = here p q (before x e.key) (before e.key x) refl refl

    -- ---- a test of all values

    pub record Stored (Q : B → Bool) (m : List (Entry A B)) : Type 0 where
      pub key : A
      pub value : B
      pub found : lookup key m ≡ Some value
      pub passes : Q value ≡ true

    found_above : (y x : A) (v : B) (m : List (Entry A B)) → below y m ≡ true → lookup x m ≡ Some v → before y x ≡ true
    unfolding below lookup
    found_above y x v [] h e = absurd (none_some e)
    found_above y x v (e ∷ m) h q = go (before x e.key) (before e.key x) refl refl q
      where
        go : (a b : Bool) → before x e.key ≡ a → before e.key x ≡ b → cond a None (cond b (lookup x m) (Some e.value)) ≡ Some v → before y x ≡ true
        go true b f g q = absurd (none_some q)
        go false true f g q = o.trans y e.key x h g
        go false false f g q = rw (o.total x e.key f g) h

    pub any_stored : (Q : B → Bool) (m : List (Entry A B)) → sorted m ≡ true → any_of Q (values m) ≡ true → Stored Q m
    unfolding sorted any_of lookup
    any_stored Q [] s h = absurd (true≢false (sym h))
    any_stored Q (e ∷ m) s h = go (Q e.value) refl h (any_stored Q m (and_right (below e.key m) (sorted m) s))
      where
        go : (b : Bool) → Q e.value ≡ b → (b || any_of Q (values m)) ≡ true → (any_of Q (values m) ≡ true → Stored Q m) → Stored Q (e ∷ m)
        go true q h r = record { key = e.key; value = e.value; found = rw (not_self before o e.key); passes = q }
        go false q h r =
            let t = r h in
            let u = found_above e.key t.key t.value m (and_left (below e.key m) (sorted m) s) t.found in
            record { key = t.key; value = t.value; found = rw (o.asym e.key t.key u, u) t.found; passes = t.passes }

    pub stored_any : (Q : B → Bool) (x : A) (v : B) (m : List (Entry A B)) → lookup x m ≡ Some v → Q v ≡ true → any_of Q (values m) ≡ true
    unfolding any_of lookup
    stored_any Q x v [] e h = absurd (none_some e)
    stored_any Q x v (e ∷ m) q h = go (before x e.key) (before e.key x) q (λ f. stored_any Q x v m f h)
      where
        some_is : ◌≡◌ {A = Option B} (Some e.value) (Some v) → e.value ≡ v
        some_is q = cc

        go : (a b : Bool) → cond a None (cond b (lookup x m) (Some e.value)) ≡ Some v → (lookup x m ≡ Some v → any_of Q (values m) ≡ true) → (Q e.value || any_of Q (values m)) ≡ true
        go true b f r = absurd (none_some f)
        go false true f r = rw (r f) (or-true (Q e.value))
        go false false f r = rw (some_is f, h)

    -- ---- a sum over the entries

    module _ (g : A → B → ℕ) (k : A) (d : B) (f : B → B) where
      abbrev weight : Entry A B → ℕ
      weight e = g e.key e.value

      -- what stood under the key is left out, what stands there now comes in
      pub total_upsert : (m : List (Entry A B))
          → total weight (upsert before k d f m) + option (lookup k m) 0 (g k) ≡ total weight m + g k (f (option (lookup k m) d (λ v. v)))
      unfolding upsert total lookup
      total_upsert [] = omega arith
      total_upsert (e ∷ m) = go (before k e.key) (before e.key k) refl refl (total_upsert m)
        where
          go : (a b : Bool) → before k e.key ≡ a → before e.key k ≡ b
              → total weight (upsert before k d f m) + option (lookup k m) 0 (g k) ≡ total weight m + g k (f (option (lookup k m) d (λ v. v)))
              → total weight (cond a (entry k (f d) ∷ e ∷ m) (cond b (e ∷ upsert before k d f m) (entry e.key (f e.value) ∷ m)))
              + option (cond a None (cond b (lookup k m) (Some e.value))) 0 (g k)
              ≡ weight e + total weight m + g k (f (option (cond a None (cond b (lookup k m) (Some e.value))) d (λ v. v)))
          go true b p q r = omega arith
          go false true p q r = omega arith
          go false false p q r = rw (o.total k e.key p q) (omega arith)

    -- ---- a search through all entries

    -- the first entry whose key is neither before nor after x
    abbrev pub scan : A → List (Entry A B) → Option B
    scan x m = option (head (keep (λ e. not (before e.key x) && not (before x e.key)) m)) None (λ e. Some e.value)

    none_under : (y x : A) (m : List (Entry A B)) → before x y ≡ true → below y m ≡ true → lookup x m ≡ None
    unfolding below lookup
    none_under y x [] h e = refl
    none_under y x (z ∷ m) h e = rw (o.trans x y z.key h e)

    pub scan_is : (x : A) (m : List (Entry A B)) → sorted m ≡ true → scan x m ≡ lookup x m
    unfolding keep sorted lookup
    scan_is x [] s = refl
    scan_is x (e ∷ m) s = go (before x e.key) (before e.key x) refl (scan_is x m (and_right (below e.key m) (sorted m) s))
      where
        go : (a b : Bool) → before x e.key ≡ a → scan x m ≡ lookup x m
            → option (head (given (not b && not a) e ++ keep (λ e. not (before e.key x) && not (before x e.key)) m)) None (λ e. Some e.value)
            ≡ cond a None (cond b (lookup x m) (Some e.value))
        go true true p r = r ∙ none_under e.key x m p (and_left (below e.key m) (sorted m) s)
        go true false p r = r ∙ none_under e.key x m p (and_left (below e.key m) (sorted m) s)
        go false true p r = r
        go false false p r = refl
