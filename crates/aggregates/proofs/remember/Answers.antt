use mir.Syntax.{w64}
use mir.Facts.{to_z-of_z}
use mathlib.Core.Path.{ap, ◌∙◌}
use Prim.Native.Nat.{ℕ, ◌*◌}
use Rattle.numbers.specs.Numbers.{value_of}
use Rattle.aggregates.proofs.Remembers.{remembered-is}
use Rattle.aggregates.proofs.remember.Goals as goal

pub returns : goal.returns
returns c = remembered-is c.args.memo.now _ _ c.args.variable _ (value_of c.args.x) _ _ (ap (λ (n : ℕ). 2 * n) c.from-i.ensures) (to_z-of_z {w = w64} (record { sfits = c.numerator.type_inv }) ∙ c.numerator.ensures) (to_z-of_z {w = w64} (record { sfits = c.mark.type_inv }) ∙ c.mark.ensures) c.store.ensures c.store-2.ensures
