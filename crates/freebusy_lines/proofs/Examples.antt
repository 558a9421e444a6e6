-- Lines and folds, computed: 97 is a, 98 is b. Assumes nothing.
use mathlib.Core.Bool.{true, false}
use mathlib.Core.List.{[], ◌∷◌}
use mathlib.Core.Path.{◌≡◌, refl}
use Rattle.loops.specs.Lists.{last}
use Rattle.freebusy_lines.specs.Lines.{line, sent_lines, unfolded, lines}
use Rattle.freebusy_lines.specs.Folding.{ends_crlf, foldable}

-- a fold with a space, a fold with a tab, a line end, and a line without its CRLF
four : lines (97 ∷ 13 ∷ 10 ∷ 32 ∷ 98 ∷ 13 ∷ 10 ∷ 9 ∷ 97 ∷ 13 ∷ 10 ∷ 98 ∷ []) ≡ line (97 ∷ 98 ∷ 97 ∷ []) true ∷ line (98 ∷ []) false ∷ []
unfolding sent_lines unfolded lines
four = refl

-- nothing stands after the last end
ended : lines (97 ∷ 13 ∷ 10 ∷ []) ≡ line (97 ∷ []) true ∷ []
unfolding sent_lines unfolded lines
ended = refl

-- a CR and an LF that meet only once the fold between them is gone end no line
met : lines (13 ∷ 13 ∷ 10 ∷ 32 ∷ 10 ∷ []) ≡ line (13 ∷ 10 ∷ []) false ∷ []
unfolding sent_lines unfolded lines
met = refl

-- a rest of nothing but a fold is a line
bare : lines (13 ∷ 10 ∷ 32 ∷ []) ≡ line [] false ∷ []
unfolding sent_lines unfolded lines
bare = refl

-- why no fold may part a CRLF, or part a fold, or stand after the last end
parted : foldable (97 ∷ 13 ∷ []) (10 ∷ []) ≡ false
unfolding foldable ends_crlf last
parted = refl

parted_fold : foldable (97 ∷ 13 ∷ 10 ∷ []) (32 ∷ []) ≡ false
unfolding foldable ends_crlf last
parted_fold = refl

past : foldable (97 ∷ 13 ∷ 10 ∷ []) [] ≡ false
unfolding foldable ends_crlf last
past = refl

before_the_end : foldable (97 ∷ []) (13 ∷ 10 ∷ []) ≡ true
unfolding foldable ends_crlf last
before_the_end = refl

after_the_end : foldable (97 ∷ 13 ∷ 10 ∷ []) (98 ∷ []) ≡ true
unfolding foldable ends_crlf last
after_the_end = refl
