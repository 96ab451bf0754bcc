use mathlib.Core.Path.{◌≡◌, sym, ap, ◌∙◌}
use Prim.Native.Nat.{ℕ}
use native.Mathlib.Omega.{arith}
use lib.ListN.{length, take}
use lib.Seq.{take_all}
use Rattle.quel.specs.Tokens.{is_letter, run}
use Rattle.tokens.proofs.Places.{first-at, first-end, run-goes, run-stops, take-run}
use Rattle.elaborate.proofs.marks.letters.Goals as goal

pub returns-then-not-is_ascii_uppercase : goal.returns-then-not-is_ascii_uppercase
returns-then-not-is_ascii_uppercase c = let q = c.args.q.now in let i = c.loop-i.i in
    let stop = run-stops is_letter q i (first-at is_letter q i c.loop-i-test.true ∙ sym c.is_ascii_uppercase.ensures.value ∙ c.if-not-is_ascii_uppercase.true) in
    let e : i ≡ length (run is_letter q) = omega (arith, c.loop-i.invariant, ap length stop) in
    ap (λ (n : ℕ). take n q) e ∙ take-run is_letter q

pub loop-i-preserved : goal.loop-i-preserved
loop-i-preserved c = let q = c.args.q.now in let i = c.loop-i.i in
    omega (arith, c.loop-i.invariant, ap length (run-goes is_letter q i (first-at is_letter q i c.loop-i-test.true ∙ sym c.is_ascii_uppercase.ensures.value ∙ c.if-not-is_ascii_uppercase.false)))

pub returns : goal.returns
returns c = let q = c.args.q.now in let i = c.loop-i.i in
    let stop = run-stops is_letter q i (first-end is_letter q i c.loop-i-test.false) in
    let e : length (run is_letter q) ≡ length q = omega (arith, c.loop-i.invariant, c.loop-i.auto.i-end, ap length stop) in
    sym (take_all (length q) q (omega arith)) ∙ ap (λ (n : ℕ). take n q) (sym e) ∙ take-run is_letter q
