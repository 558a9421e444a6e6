-- Laws of a walk over the lines of a text as they are sent, and of the one that finds the least place against the rules. Assumes nothing.
use Prim.Native.Nat.{ℕ, ◌+◌, ◌≤◌}
use mathlib.Core.List.{List, [], ◌∷◌, map}
use Rattle.std.specs.Prelude.{Option, None, Some}
use mathlib.Core.Path.{◌≡◌, refl, ap, ◌∙◌}
use native.Mathlib.Omega.{arith}
use native.Mathlib.Numerals.{add-one}
use lib.ListN.{length}
use Rattle.freebusy_lines.specs.Lines.{Line, line, sent_lines, unfolded, lines}
use Rattle.freebusy_lines.proofs.LineLaws.{Within, within_more, sent_within, sent_few}
use Rattle.freebusy_components.specs.Components.{open_after, wrong_at, least, wrong_from}
use Rattle.freebusy_components.specs.inner.Room.{after_line, after_lines, space_after}

-- no more of them are left than are numbered
pub few : (text : List ℕ) {left : List Line} → left ≡ sent_lines text → length left ≤ length text
few text e = rw e (sent_few text)

-- ---- lines that are left: the space has room for each, and holds after them what it holds after all

pub record Unfolding (text space₀ : List ℕ) (left : List Line) (space : List ℕ) : Type 0 where
  pub room : Within (length space₀) left
  pub holds : after_lines left space ≡ space_after text space₀
  pub long : length space ≡ length space₀

-- without their folds
abbrev pub unfolded_all : List Line → List Line
unfolded_all ls = map (λ l. line (unfolded l.bytes) l.ended) ls

pub unfolding_start : (text space : List ℕ) → length text ≤ length space → {left : List Line} → left ≡ sent_lines text → Unfolding text space left space
unfolding space_after
unfolding_start text space h {left} e = rw e (record {
  room = within_more (length text) (length space) (sent_lines text) h (sent_within text);
  holds = refl;
  long = refl;
})

module _ {text space₀ : List ℕ} {left : List Line} {space : List ℕ} (u : Unfolding text space₀ left space) where
  module _ {l : Line} {ls : List Line} (e : left ≡ l ∷ ls) where
    opened : Unfolding text space₀ (l ∷ ls) space
    opened = rw e at u

    pub unfolding_on : {space' : List ℕ} → space' ≡ after_line l.bytes space → length space' ≡ length space → Unfolding text space₀ ls space'
    unfolding after_lines
    unfolding_on s k = record { room = opened.room.1; holds = rw s opened.holds; long = k ∙ u.long }

  pub unfolding_end : left ≡ [] → space ≡ space_after text space₀
  unfolding after_lines
  unfolding_end e = rw e at u.holds

-- ---- the least place: what was found so far, with what the lines that are left give, is what the text gives

least_assoc : (a b c : Option ℕ) → least (least a b) c ≡ least a (least b c)
least_assoc None b c = refl
least_assoc (Some x) None c = refl
least_assoc (Some x) (Some y) None = refl
least_assoc (Some x) (Some y) (Some z) = ap (λ (n : ℕ). Some n) (omega arith)

pub wrong_start : (text : List ℕ) {left : List Line} → left ≡ sent_lines text → least None (wrong_from None 0 (unfolded_all left)) ≡ wrong_from None 0 (lines text)
unfolding lines
wrong_start text e = rw e

module _ (begun wrong : Option ℕ) (p : ℕ) {left : List Line} {r : Option ℕ} (w : least wrong (wrong_from begun p (unfolded_all left)) ≡ r) where
  pub wrong_on : {l : Line} {ls : List Line} → left ≡ l ∷ ls → {b : List ℕ} → b ≡ unfolded l.bytes → (k : ℕ) → k ≡ p → {begun' wrong' : Option ℕ} → begun' ≡ open_after begun k b
      → wrong' ≡ least wrong (wrong_at begun k (line b l.ended)) → {p' : ℕ} → p' ≡ p + 1 → least wrong' (wrong_from begun' p' (unfolded_all ls)) ≡ r
  unfolding wrong_from
  wrong_on e u k q o f n = rw (n, add-one p, o, f, u, q) (least_assoc wrong _ _ ∙ (rw e at w))

  pub wrong_end : left ≡ [] → {s : Option ℕ} → s ≡ least wrong begun → s ≡ r
  unfolding wrong_from
  wrong_end e f = f ∙ (rw e at w)
