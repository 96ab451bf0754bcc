use Rattle.std.proofs.Common.{◌≡◌, ◌≤◌, ◌&&◌, true, eqb, drop}
use Rattle.model.specs.Lists.{all}
use Rattle.tokens.proofs.are_spaces.Given as goal

abbrev pub invariant-loop-i : goal.invariant-loop-i
invariant-loop-i l = record {
  letters : l.i ≤ l.n → l.spaces ≡ true;
  rest : l.n ≤ l.i → l.spaces && all (λ b. eqb b 32) (drop l.i l.word) ≡ all (λ b. eqb b 32) (drop l.n l.word);
}
