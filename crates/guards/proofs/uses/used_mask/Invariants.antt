use Rattle.std.proofs.Common.{◌≡◌, ℕ, ◌<◌, ◌||◌}
use Rattle.model.specs.Permits.{bit}
use Rattle.scans.specs.Flat.{flat_uses, used_in}
use Rattle.guards.proofs.uses.used_mask.Given as goal

abbrev pub invariant-loop-record : goal.invariant-loop-record
invariant-loop-record l = (a : ℕ) → a < 16 → (bit l.mask a || used_in (flat_uses l.record-iterator.rest.now) l.variable a) ≡ used_in (flat_uses l.q) l.variable a
