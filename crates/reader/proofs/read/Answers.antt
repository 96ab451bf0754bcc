use Rattle.std.proofs.Common.{arith}
use Rattle.elaborate.proofs.Lookup.{room_small, room-large}
use Rattle.reader.proofs.read.Goals as goal

pub read_in-requires-clause-names : goal.read_in-requires-clause-names
read_in-requires-clause-names c = omega (arith, room_small 1023 (omega arith))

pub read_in-requires-else-list-le3584-clause-names : goal.read_in-requires-else-list-le3584-clause-names
read_in-requires-else-list-le3584-clause-names c = omega (arith, room-large 6608 (omega arith))
