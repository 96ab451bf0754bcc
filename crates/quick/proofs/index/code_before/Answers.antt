use native.Mathlib.Omega.{arith}
use mathlib.Core.Path.{refl, sym, ◌∙◌}
use Prim.Native.Nat.{◌-◌}
use mathlib.Core.Bool.{true}
use Rattle.quick.proofs.index.Letters.{by_kind}
use Rattle.quick.proofs.index.code_before.Goals as goal

pub returns-then-is_free : goal.returns-then-is_free
returns-then-is_free c = let pre = c.requires in (c.in_ok-code.ensures.0, by_kind c.args.list.now (c.args.end - 12) (omega (arith, (pre), c.if-list-end.false)) (c.args.end - (c.args.end - 12)) (omega (arith, (pre))) c.in_ok-code.code _ c.in_ok-code.ensures.1 refl true (sym c.is_free.ensures ∙ c.if-is_free.true))
