-- What is said of a case that has gathered what is read is said of its lines. Assumes nothing.
use Rattle.std.proofs.Common.{◌≡◌, ℕ, Bool, true, false, List, [], ℤ, Option, None, Some, MatchOption, refl, ◌∙◌}
use Rattle.std.proofs.lemmas.Bool.{and_right}
use Rattle.stored_lines.specs.inner.Line.{letter, body}
use Rattle.stored_numbers.specs.inner.Numbers.{numbers_in}
use Rattle.stored_run.specs.declared.Gathered.{Gathered}
use Rattle.stored_run.specs.declared.Reads.{Reads}
use Rattle.stored_run.specs.inner.Cases.{bytes_given, bytes_read, expected_given, expected_read, numbers_given, fit, has_room, Has, Says}

module _ (reads : Reads) (lines : List ℕ) where
  pub bytes_all : reads.bytes ≡ true → bytes_given lines ≡ bytes_read reads lines
  bytes_all e = rw e refl

  pub bytes_none : reads.bytes ≡ false → [] ≡ bytes_read reads lines
  bytes_none e = rw e refl

  pub expected_all : reads.expected ≡ true → expected_read reads lines ≡ expected_given lines
  expected_all e = rw e refl

  pub expected_none : reads.expected ≡ false → [] ≡ expected_read reads lines
  expected_none e = rw e refl

  pub said_of_lines : (Judges : Gathered → Bool → Type 0) (line : List ℕ) (l : ℕ) (js : List ℤ) (bs : List ℕ) (r : Option Bool)
      → l ≡ letter line → js ≡ numbers_in (body line) → bs ≡ bytes_read reads lines
      → MatchOption r (fit (numbers_given lines) bs (expected_read reads lines) ≡ false)
      (λ said. (c : Gathered) × Has l js (numbers_given lines) bs (expected_read reads lines) c × Judges c said)
      → MatchOption r (has_room reads lines line ≡ false) (Says Judges reads lines line)
  said_of_lines Judges line l js bs None e f b h = and_right _ _ (rw b at h)
  said_of_lines Judges line l js bs (Some said) e f b (c, h, s) = (
    c,
    record {
      letter = h.letter ∙ e;
      judging = h.judging ∙ f;
      numbers = h.numbers;
      bytes = h.bytes ∙ b;
      expected = h.expected;
    },
    s,
  )
