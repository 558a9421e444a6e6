-- Moving the instants of a thing, and nothing else of it: what "every instant d later" means. (The law that what is worked out through a
-- clock moves with them is in proofs/Moving.antt.)
use Rattle.std.specs.Prelude.{◌≡◌, refl, List, [], ◌∷◌, map, ℤ, ◌+ℤ◌}
use Rattle.std.proofs.Common.{ap₂}
use Rattle.calendar.specs.Calendar.{Window, Calendar}
use Rattle.calendar.specs.WorkEnd.{Ending, ends_at, pauses, never, map_ending}

-- what instants may stand in: a map of the instants is one of the whole, and the map that does nothing does nothing
pub record Moves (S : Type 0 → Type 0) : Type 1 where
  pub map : {A B : Type 0} → (A → B) → S A → S B
  pub same : {A : Type 0} (x : S A) → map (λ a. a) x ≡ x

-- d milliseconds later; earlier where d is below 0
abbrev pub by : ℤ → ℤ → ℤ
by d x = x +ℤ d

abbrev pub instant : Moves (λ T. T)
instant = record { map = λ f x. f x; same = λ x. refl }

-- no instant in it
abbrev pub fixed : (X : Type 0) → Moves (λ T. X)
fixed X = record { map = λ f x. x; same = λ x. refl }

module _ {S R : Type 0 → Type 0} (s : Moves S) (r : Moves R) where
  abbrev pub both : Moves (λ T. S T × R T)
  both = record { map = λ f x. (s.map f x.0, r.map f x.1); same = λ x i. (s.same x.0 i, r.same x.1 i) }

module _ {S : Type 0 → Type 0} (s : Moves S) where
  pub map_same : {A : Type 0} (l : List (S A)) → map (s.map (λ a. a)) l ≡ l
  map_same [] = refl
  map_same (x ∷ l) = ap₂ ◌∷◌ (s.same x) (map_same l)

  abbrev pub list : Moves (λ T. List (S T))
  list = record { map = λ f l. map (s.map f) l; same = map_same }

-- ---- of calendars and work ends

abbrev pub map_window : {A B : Type 0} → (A → B) → Window A → Window B
map_window f x = record { kind = x.kind; start = f x.start; end = f x.end }

abbrev pub window : Moves Window
window = record { map = map_window; same = λ x. refl }

abbrev pub calendar : Moves Calendar
calendar = list window

abbrev pub ending : Moves Ending
ending = record { map = map_ending; same = same }
  where
    same : {A : Type 0} (x : Ending A) → map_ending (λ a. a) x ≡ x
    same (ends_at e) = refl
    same pauses = refl
    same never = refl

-- the calendar d later; several calendars
abbrev pub later : ℤ → Calendar ℤ → Calendar ℤ
later d l = calendar.map (by d) l

abbrev pub laters : ℤ → List (Calendar ℤ) → List (Calendar ℤ)
laters d cs = (list calendar).map (by d) cs
