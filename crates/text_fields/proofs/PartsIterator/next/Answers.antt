use Rattle.std.proofs.Common.{◌∙◌, arith, length, ap, Option}
use denote.Ref.{Bor}
use mathlib.Core.List.{List}
use Prim.Native.Nat.{ℕ}
use Rattle.text_fields.specs.Parts.{parts_left}
use Rattle.text_fields.proofs.PartLaws.{parts_turn}
use Rattle.text_fields.proofs.PartsIterator.next.Goals as goal

pub returns-clause-steps : goal.returns-clause-steps
returns-clause-steps c =
    ap (λ (r : Option (Bor (List ℕ))). parts_left (record { rest = r; stop = c.args.self.now.stop })) c.in_ok-self.was
    ∙ parts_turn _ _ _ _ c.split_at_first.ensures.first c.split_at_first.ensures.rest

pub returns-clause-goes : goal.returns-clause-goes
returns-clause-goes c = record {
  on = λ _. (tt, tt, omega (arith, ap length (returns-clause-steps c)));
  keeps = tt;
  rests = λ _. tt;
}
