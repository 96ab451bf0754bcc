use Rattle.buckets.proofs.Laws.{heads-clear}
use lib.ListN.{take, drop}
use native.Mathlib.Omega.{arith}
use mathlib.Core.Path.{refl, sym, ap, subst, ◌∙◌}
use Prim.Native.Nat.{ℕ}
use lib.ListN.{length}
use Rattle.elaborate.specs.Places.{name_in}
use Rattle.elaborate.specs.Numbers.{Numbering}
use Rattle.elaborate.proofs.marks.Walks.{name-past}
use Rattle.elaborate.proofs.marks.Numbers.{number-start, number-end}
use Rattle.elaborate.proofs.marks.Tokens.number.Goals as goal

pub loop-i-init : goal.loop-i-init
loop-i-init c = let index = c.args.index.now in
    (number-start (name_in c.args.self.now.text.now c.args.self.now.kinds.now c.args.self.now.starts.now) (take 512 index) (drop 512 index) c.args.ids.now (heads-clear index c.requires.2) c.requires.3, omega arith, refl, refl)

pub enter-requires : goal.enter-requires
enter-requires c = (c.loop-i-test.true, omega (arith, c.loop-i.invariant.2, c.requires.0, c.loop-i-test.true), omega (arith, c.loop-i.invariant.3, c.requires.1, c.loop-i-test.true), c.loop-i.invariant.0)

pub loop-i-preserved : goal.loop-i-preserved
loop-i-preserved c = (c.enter.ensures, omega (arith, c.loop-i-test.true), c.enter.auto.index ∙ c.loop-i.invariant.2, c.enter.auto.ids ∙ c.loop-i.invariant.3)

pub returns : goal.returns
returns c = let kinds = c.args.self.now.kinds.now in let starts = c.args.self.now.starts.now in let text = c.args.self.now.text.now in
    number-end (name_in text kinds starts) (length kinds) _ _ _ (subst (λ (n : ℕ). Numbering (name_in text kinds starts) n (take 512 c.loop-i.index) (drop 512 c.loop-i.index) c.loop-i.ids) (omega (arith, c.loop-i-test.false, c.loop-i.invariant.1)) c.loop-i.invariant.0) (λ y l. sym (ap length (name-past text kinds starts y l)))
