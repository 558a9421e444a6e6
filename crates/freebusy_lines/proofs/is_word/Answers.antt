use Rattle.std.proofs.Common.{ℕ, rules, ◌∙◌}
use Rattle.std.proofs.lemmas.Iterator.{YieldsList-from_slice, YieldsList-from_zip}
use Rattle.std.proofs.lemmas.Iterator.Search.{all_from_yields_List}
use Rattle.letters.specs.Letters.{is_letter}
use Rattle.freebusy_lines.proofs.WordLaws.{other_length, spelled_by_bytes}
use Rattle.freebusy_lines.proofs.is_word.Goals as goal

pub returns-then-word-s : goal.returns-then-word-s
returns-then-word-s c =
    all_from_yields_List (λ (p : ℕ × ℕ). is_letter p.0 p.1) c.all.new.self _ _ c.all.ensures.ran
    (YieldsList-from_zip (YieldsList-from_slice c.args.word.now cc) (YieldsList-from_slice c.args.s.now cc)) (λ x b q k. search rules)
    ∙ spelled_by_bytes c.args.word.now c.args.s.now c.if-word-s.true

pub returns-else-word-s : goal.returns-else-word-s
returns-else-word-s c = search (rules, other_length)
