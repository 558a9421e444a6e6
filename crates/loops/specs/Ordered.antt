-- A map with its keys in order, as a list of entries. Assumes nothing.
use Rattle.std.specs.Prelude.{Bool, cond, List, [], ◌∷◌, map}

pub record Entry (A B : Type 0) : Type 0 where
  pub key : A
  pub value : B

module _ {A B : Type 0} where
  abbrev pub entry : A → B → Entry A B
  entry k v = record { key = k; value = v }

  -- the entry of k changed by f, from d where there is none yet: `entry(k).or_insert(d)`, then f
  unfoldable pub upsert : (A → A → Bool) → A → B → (B → B) → List (Entry A B) → List (Entry A B)
  upsert before k d f [] = entry k (f d) ∷ []
  upsert before k d f (e ∷ m) =
      cond (before k e.key) (entry k (f d) ∷ e ∷ m)
      (cond (before e.key k) (e ∷ upsert before k d f m) (entry e.key (f e.value) ∷ m))

  abbrev pub values : List (Entry A B) → List B
  values m = map (λ e. e.value) m
