use native.Mathlib.Omega.{arith}
use Rattle.kinds.proofs.Entries.{children-small}
use Rattle.grammar.proofs.children.Goals as goal

pub returns : goal.returns
returns c = omega (arith, children-small c.args.kind)
