use Rattle.std.proofs.Common.{Bool, true, ◌≡◌, eqb, ap₂, ◌&&◌, ◌∙◌, ◌+◌, arith, rules, tests, drop}
use Rattle.model.specs.Lists.{all}
use Rattle.tokens.proofs.Filled.{spaces-met, spaces-seen, spaces-first}
use Rattle.tokens.proofs.are_spaces.Goals.{then-i-n, else-i-n}
use Rattle.tokens.proofs.are_spaces.Goals as goal

pub loop-i-preserved : goal.loop-i-preserved
loop-i-preserved c = elim c.if-i-n.branch [
  | then-i-n w ↦ let b : c.if-i-n.spaces ≡ true = search (rules, tests, w.spaces-is, w.if-i-n.true) in record {
    letters = λ l. ap₂ (λ (s b : Bool). s && b) (c.loop-i.invariant.letters (omega arith)) b;
    rest = λ l. ap₂ (λ (s b : Bool). (s && b) && all (λ b. eqb b 32) (drop (c.loop-i.i + 1) c.args.word.now)) (c.loop-i.invariant.letters (omega (arith, w.if-i-n.true))) b ∙ spaces-first c.args.word.now (λ b. eqb b 32) c.args.n (c.loop-i.i + 1) (omega (arith, l, w.if-i-n.true));
  }
  | else-i-n w ↦ record {
    letters = λ l. absurd (omega (arith, l, w.if-i-n.false));
    rest = λ l. spaces-met c.args.word.now (λ b. eqb b 32) c.args.n c.loop-i.i c.loop-i.spaces c.if-i-n.spaces c.loop-i-test.true (c.loop-i.invariant.rest (omega (arith, w.if-i-n.false))) (search (rules, tests, w.spaces-is));
  }
]

pub returns : goal.returns
returns c = spaces-seen c.args.word.now (λ b. eqb b 32) c.args.n c.loop-i.i c.loop-i.spaces c.loop-i-test.false c.loop-i.invariant.letters c.loop-i.invariant.rest
