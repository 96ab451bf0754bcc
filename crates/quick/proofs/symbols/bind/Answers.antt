use native.Mathlib.Omega.{arith}
use Rattle.quick.proofs.symbols.Writes.{one-long, two-long, three-long, bound-slot, bound-rest}
use Rattle.quick.proofs.symbols.bind.Goals as goal

pub bounds-symbols-i : goal.bounds-symbols-i
bounds-symbols-i c = omega (arith, c.requires.0, c.requires.1)

pub bounds-symbols-i-2 : goal.bounds-symbols-i-2
bounds-symbols-i-2 c = omega (arith, one-long c.args.symbols.now c.args.i c.args.code c.args.relation c.args.number c.args.level c.requires.0 c.requires.1, c.requires.1)

pub bounds-symbols-i-3 : goal.bounds-symbols-i-3
bounds-symbols-i-3 c = omega (arith, two-long c.args.symbols.now c.args.i c.args.code c.args.relation c.args.number c.args.level c.requires.0 c.requires.1, c.requires.1)

pub bounds-symbols-i-4 : goal.bounds-symbols-i-4
bounds-symbols-i-4 c = omega (arith, three-long c.args.symbols.now c.args.i c.args.code c.args.relation c.args.number c.args.level c.requires.0 c.requires.1, c.requires.1)

pub returns : goal.returns
returns c = record { slotted = bound-slot c.args.symbols.now c.args.i c.args.code c.args.relation c.args.number c.args.level c.requires.0 c.requires.1; by_index = bound-rest c.args.symbols.now c.args.i c.args.code c.args.relation c.args.number c.args.level c.requires.0 c.requires.1 }
