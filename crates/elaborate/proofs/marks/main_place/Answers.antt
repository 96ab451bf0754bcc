use Rattle.elaborate.proofs.marks.Walks.{main-turn, main-end}
use borrow.Author.Tests.{ne_eqb}
use Rattle.flat.specs.Flat.{main_of}
use Rattle.elaborate.specs.Places.{table, tokens_from}
use Prim.Native.Nat.{ℕ}
use lib.ListN.{length}
use mathlib.Core.Path.{◌≡◌, sym, ap, ◌∙◌}
use native.Mathlib.Omega.{arith}
use Rattle.elaborate.proofs.marks.main_place.Goals as goal

pub returns-then-kind-eq14-clause-by_index : goal.returns-then-kind-eq14-clause-by_index
returns-then-kind-eq14-clause-by_index c = λ text ss ns. sym (c.loop-i.invariant text ss ns ∙ main-turn text (table c.args.kinds.now ss ns) c.loop-i.i c.loop-i-test.true ∙ rw c.if-kind-eq14.true)

pub loop-i-preserved : goal.loop-i-preserved
loop-i-preserved c = λ text ss ns. c.loop-i.invariant text ss ns ∙ main-turn text (table c.args.kinds.now ss ns) c.loop-i.i c.loop-i-test.true ∙ rw (ne_eqb _ _ c.if-kind-eq14.false)

pub returns-clause-by_index : goal.returns-clause-by_index
returns-clause-by_index c = let kinds = c.args.kinds.now in let e : c.loop-i.i ≡ length kinds = omega (arith, c.loop-i-test.false, c.loop-i.auto.i-end) in
    λ text ss ns. main-end text (table kinds ss ns) (length kinds) (omega arith) ∙ sym (c.loop-i.invariant text ss ns ∙ ap (λ (n : ℕ). main_of (tokens_from text (table kinds ss ns) n)) e)
