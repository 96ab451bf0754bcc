use native.Mathlib.Omega.{arith}
use mathlib.Core.Path.{sym, ap, ◌∙◌}
use Prim.Native.Nat.{ℕ, ◌+◌, ◌*◌, ◌-◌}
use lib.ListN.{get_or}
use borrow.Author.Tests.{not-true, not-false}
use Rattle.quel.specs.Tokens.{is_letter}
use Rattle.tokens.proofs.Places.{within-bounds}
use Rattle.quick.proofs.index.Letters.{letters-start, letters-small, letters-next, letters-found, letters-all}
use Rattle.quick.proofs.index.spelled.Goals as goal

pub loop-i-init : goal.loop-i-init
loop-i-init c = (letters-start c.args.name.now, omega arith)

pub bounds-name-i : goal.bounds-name-i
bounds-name-i c = omega (arith, c.loop-i-test.true, c.requires)

pub returns-then-not-is_letter : goal.returns-then-not-is_letter
returns-then-not-is_letter c = letters-found c.args.name.now c.requires c.loop-i.i c.loop-i.code c.loop-i.invariant.0 (omega (arith, c.loop-i-test.true, c.requires)) (sym (c.is_letter.ensures ∙ ap is_letter c.from-b.ensures) ∙ not-true c.is_letter.result c.if-not-is_letter.true-raw) c.loop-i.invariant.1 c.padded.result c.padded.ensures

pub overflow_mul-code : goal.overflow_mul-code
overflow_mul-code c = let pre = c.requires in record { fits = omega (arith, letters-small c.args.name.now (pre) c.loop-i.i c.loop-i.code c.loop-i.invariant.0) }

pub overflow_sub-code : goal.overflow_sub-code
overflow_sub-code c = omega (arith, c.from-b.ensures, (within-bounds 65 90 (get_or c.args.name.now c.loop-i.i 0) (sym (c.is_letter.ensures ∙ ap is_letter c.from-b.ensures) ∙ not-false c.is_letter.result c.if-not-is_letter.false-raw)).0)

pub overflow_add-code : goal.overflow_add-code
overflow_add-code c = let pre = c.requires in let name = c.args.name.now in
    record { fits = omega (arith, c.from-b.ensures, letters-small name (pre) c.loop-i.i c.loop-i.code c.loop-i.invariant.0, (within-bounds 65 90 (get_or name c.loop-i.i 0) (sym (c.is_letter.ensures ∙ ap is_letter c.from-b.ensures) ∙ not-false c.is_letter.result c.if-not-is_letter.false-raw)).1) }

pub loop-i-preserved : goal.loop-i-preserved
loop-i-preserved c = let pre = c.requires in (letters-next c.args.name.now (pre) c.loop-i.i c.loop-i.code c.loop-i.invariant.0 (omega (arith, c.loop-i-test.true, (pre))) (sym (c.is_letter.ensures ∙ ap is_letter c.from-b.ensures) ∙ not-false c.is_letter.result c.if-not-is_letter.false-raw) _ (ap (λ (m : ℕ). 26 * c.loop-i.code + (m - 65)) c.from-b.ensures), omega (arith, c.loop-i.invariant.1))

pub returns : goal.returns
returns c = (c.loop-i.invariant.1, letters-all c.args.name.now c.requires c.loop-i.i c.loop-i.code c.loop-i.invariant.0 (omega (arith, c.loop-i-test.false, c.requires)) c.loop-i.auto.i-end)
