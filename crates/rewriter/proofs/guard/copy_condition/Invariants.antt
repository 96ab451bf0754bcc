use Rattle.std.proofs.Common.{◌≡◌, length}
use Rattle.scans.specs.Flat.{flat}
use Rattle.copier.specs.Copied.{copied_record, copied_bytes}
use Rattle.copier.proofs.Sets.{Left}
use Rattle.rewriter.proofs.guard.copy_condition.Given as goal

abbrev pub invariant-loop-bytes : goal.invariant-loop-bytes
invariant-loop-bytes l = Left l.initial.out l.at (copied_bytes l.condition l.variable l.next) l.out l.to (flat (copied_record l.condition l.variable l.next) l.bytes-iterator.rest.now) × (length l.out ≡ length l.initial.out)
