use mathlib.Core.Path.{◌≡◌}
use lib.ListN.{length}
use Rattle.catalogue.specs.Layout.{rows_of}
use Rattle.rewriter.specs.Applying.{conditions_by}
use Rattle.permitted.specs.Marked.{Bits}
use Rattle.permitted.proofs.Lists.{Decides}
use Rattle.permitted.proofs.Granting.mark.Given as goal

abbrev pub invariant-loop-k : goal.invariant-loop-k
invariant-loop-k l = (length l.marks ≡ length l.initial.marks) × Bits l.marks × Decides l.self.catalogue.now l.self.values.now (conditions_by l.self.applying) l.relation l.mask (rows_of l.self.catalogue.now l.relation) l.m l.k l.initial.marks l.marks
