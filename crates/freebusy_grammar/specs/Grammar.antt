-- The line FREEBUSY as RFC 5545 writes its grammar, 3.8.2.6 with 3.1, 3.2 and 3.2.9: a string of a production is strings of others, put one after the
-- other. The page Property of freebusy_property decides it by parts between separators outside quotes, and takes exactly these lines. Assumes nothing.
use Rattle.std.specs.Prelude.{ℕ, suc, ◌<◌, Bool, true, false, List, [], ◌∷◌, ◌++◌, ◌↔◌, ◌≡◌}
use Rattle.freebusy_lines.specs.Bytes.{COMMA, COLON, SEMICOLON, EQUALS, spells, iana_token}
use Rattle.freebusy_characters.specs.ParamValue.{param_value}
use Rattle.freebusy_periods.specs.Period.{period}
use Rattle.freebusy_property.specs.Property.{FREEBUSY, FBTYPE, freebusy}

-- one *("," one), where the test says what is one
pub data Listed (test : List ℕ → Bool) : List ℕ → Type 0 where
  last_one : (v : List ℕ) → test v ≡ true → Listed test v
  one_more : (v vs : List ℕ) → test v ≡ true → Listed test vs → Listed test (v ++ (COMMA ∷ vs))

-- fbtypeparam = "FBTYPE" "=" ("FREE" / "BUSY" / .. / x-name / iana-token)
pub data Fbtypeparam : List ℕ → Type 0 where
  fbtypeparam_of : (n t : List ℕ) → spells FBTYPE n ≡ true → iana_token t ≡ true → Fbtypeparam (n ++ (EQUALS ∷ t))

-- other-param = param-name "=" param-value *("," param-value), of another name
pub data OtherParam : List ℕ → Type 0 where
  other_param_of : (n v : List ℕ) → iana_token n ≡ true → spells FBTYPE n ≡ false → Listed param_value v → OtherParam (n ++ (EQUALS ∷ v))

-- fbparam = *( (";" fbtypeparam) / (";" other-param) ), with so many fbtypeparam
pub data Fbparam : ℕ → List ℕ → Type 0 where
  no_param : Fbparam 0 []
  and_type : {k : ℕ} (p ps : List ℕ) → Fbtypeparam p → Fbparam k ps → Fbparam (suc k) (SEMICOLON ∷ (p ++ ps))
  and_other : {k : ℕ} (p ps : List ℕ) → OtherParam p → Fbparam k ps → Fbparam k (SEMICOLON ∷ (p ++ ps))

-- freebusy = "FREEBUSY" fbparam ":" fbvalue, with one fbtypeparam at most; fbvalue = period *("," period)
pub data Freebusy : List ℕ → Type 0 where
  freebusy_of : {k : ℕ} (n ps v : List ℕ) → spells FREEBUSY n ≡ true → Fbparam k ps → k < 2 → Listed period v → Freebusy (n ++ (ps ++ (COLON ∷ v)))

-- a line keeps to the page Property exactly if it is one of these
abbrev pub Exactly : Type 0
Exactly = (l : List ℕ) → (freebusy l ≡ true) ↔ Freebusy l
