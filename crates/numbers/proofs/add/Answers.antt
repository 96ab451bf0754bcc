use Rattle.std.proofs.Common.{arith, ◌≡◌, ℕ, ℤ, ◌+◌, ap, ap₂, ◌∙◌, ◌+ℤ◌, w64, to_z, of_z}
use mir.Facts.{to_z-of_z}
use Rattle.numbers.specs.Numbers as N
use Rattle.numbers.specs.declared.Accumulator.{Accumulator}
use Rattle.numbers.proofs.Signed.{fits64, abs32, test-is, op-is, sum_fits}
use Rattle.numbers.proofs.Laws.{bounded-added}
use Rattle.numbers.proofs.add.Goals as goal

abbrev made : ℕ → ℤ → ℤ → ℤ → Accumulator
made n s u v = record { count = n; sum = s; max = u; min = v }

same : (a : Accumulator) (x s u v : ℤ) → s ≡ a.sum +ℤ x → u ≡ N.larger a.count a.max x → v ≡ N.smaller a.count a.min x → made (a.count + 1) s u v ≡ N.added a x
same a x s u v es eu ev = ap (λ (z : ℤ). made (a.count + 1) z u v) es ∙ ap₂ (λ (y z : ℤ). made (a.count + 1) (a.sum +ℤ x) y z) eu ev

pub returns : goal.returns
returns c =
    let a = c.args.a in
    let x = c.args.x in
    let v = c.from-value.result in
    let vx : v ≡ x = c.from-value.ensures ∙ to_z-of_z c.ranges.x in
    let e = same a x _ _ _
    (ap (λ (y : ℤ). to_z w64 (of_z w64 (to_z w64 (of_z w64 a.sum) +ℤ to_z w64 (of_z w64 y)))) vx
    ∙ op-is (◌+ℤ◌) a.sum x (fits64 a.sum (omega (arith, c.requires.0.sum, c.requires.1))) (fits64 x (omega (arith, abs32 x c.ranges.x.sfits))) (sum_fits a.sum x (omega (arith, c.requires.0.sum, c.requires.1, abs32 x c.ranges.x.sfits))))
    (to_z-of_z {w = w64} (record { sfits = c.larger.type_inv }) ∙ c.larger.ensures ∙ test-is (N.larger a.count) a.max v (fits64 a.max (omega (arith, c.requires.0.max))) (record { sfits = c.from-value.type_inv }) ∙ ap (N.larger a.count a.max) vx)
    (to_z-of_z {w = w64} (record { sfits = c.smaller.type_inv }) ∙ c.smaller.ensures ∙ test-is (N.smaller a.count) a.min v (fits64 a.min (omega (arith, c.requires.0.min))) (record { sfits = c.from-value.type_inv }) ∙ ap (N.smaller a.count a.min) vx) in
    record { value = e; bounded = rw e (bounded-added a x c.requires.0 (abs32 x c.ranges.x.sfits)) }
