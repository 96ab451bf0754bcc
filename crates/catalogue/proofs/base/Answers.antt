use Rattle.std.proofs.Common.{arith, ◌≡◌, refl, ℕ, List, ◌+◌, ◌*◌}
use native.Mathlib.Nat.{mul-le-mul}
use Prim.Native.Nat.{suc}
use Rattle.catalogue.specs.Layout.{attributes_of, rows_of, base_of}
use Rattle.catalogue.proofs.base.Goals as goal

next : (c : List ℕ) (i at n w : ℕ) → at ≡ base_of c i → n ≡ rows_of c i → w ≡ attributes_of c i → at + n * w ≡ base_of c (i + 1)
unfolding base_of
next c i at n w ea en ew = let e : i + 1 ≡ suc i = omega arith in rw (e, ea, en, ew)

pub loop-i-init : goal.loop-i-init
unfolding base_of
loop-i-init c = record { passed = refl; small = omega arith }

pub loop-i-preserved : goal.loop-i-preserved
loop-i-preserved c = record {
  passed = next c.args.catalogue.now c.loop-i.i c.loop-i.at c.rows.result c.attributes.result c.loop-i.invariant.passed c.rows.ensures.value c.attributes.ensures.value;
  small = omega (arith, mul-le-mul c.rows.ensures.upper_bound c.attributes.ensures.upper_bound);
}
