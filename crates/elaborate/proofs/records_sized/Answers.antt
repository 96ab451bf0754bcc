use native.Mathlib.Omega.{arith}
use lib.ListN.{length-replicate}
use Rattle.model.proofs.Lists.{get_or-same}
use Rattle.elaborate.proofs.records_sized.Goals as goal

pub records_with-requires : goal.records_with-requires
records_with-requires g c = let n = g.row.N in (omega arith, rw length-replicate c.requires.0, rw length-replicate c.requires.0, c.requires.2, get_or-same n 0, c.requires.3)
