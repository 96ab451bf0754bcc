use native.Mathlib.Omega.{arith}
use mathlib.Core.Path.{refl, ◌∙◌}
use Rattle.elaborate.proofs.reaches.push.Goals as goal

pub keep-requires : goal.keep-requires
keep-requires c = (c.requires.2, c.requires.1, omega (arith, c.entry.ensures, c.requires.3 c.args.x))

pub returns : goal.returns
returns c = record { frame = c.keep.result; mode = c.keep.ensures.0; name = c.keep.ensures.1; cross = c.keep.ensures.2; old = c.keep.ensures.3 ∙ c.entry.ensures; there = refl; stands = c.store.ensures }
