use Rattle.std.proofs.Common.{◌≡◌, ◌+◌, ◌-◌, ◌≤◌, ◌<◌, length}
use Rattle.kinds.specs.Tables.{record_length}
use Rattle.permits.specs.Entries.{span_of}
use Rattle.guards.proofs.applying.span.Given as goal

abbrev pub invariant-loop-record : goal.invariant-loop-record
invariant-loop-record l = record {
  within : length l.record-iterator.rest.now ≤ length l.q;
  left : 0 < length l.record-iterator.rest.now → length l.q - length l.record-iterator.rest.now + span_of l.record-iterator.rest.now ≡ span_of l.q;
  last : 0 < length l.q → length l.record-iterator.rest.now ≡ 0 → (l.at + record_length l.kind ≡ span_of l.q) × (l.at < length l.q);
}
