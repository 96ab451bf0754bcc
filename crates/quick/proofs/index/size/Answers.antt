use native.Mathlib.Omega.{arith}
use Rattle.names.proofs.Walk.{place-relation, place-attribute, place_other}
use Rattle.quick.proofs.index.size.Goals as goal

pub returns-in-80 : goal.returns-in-80
returns-in-80 c = (omega arith, omega arith, omega (arith, place-relation c.args.kind c.in-80.is), omega arith, omega arith)

pub returns-in-81 : goal.returns-in-81
returns-in-81 c = (omega arith, omega arith, omega (arith, place-attribute c.args.kind c.in-81.is), omega arith, omega arith)

pub returns-in-82 : goal.returns-in-82
returns-in-82 c = (omega arith, omega arith, omega (arith, place_other c.args.kind (λ z. omega (arith, z, c.in-82.is)) (λ z. omega (arith, z, c.in-82.is))), omega arith, omega arith)
