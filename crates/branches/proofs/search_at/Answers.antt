use Rattle.std.proofs.Common.{arith}
use Rattle.branches.proofs.Joining.{search-found}
use Rattle.branches.proofs.search_at.Goals as goal

pub returns : goal.returns
returns c = search-found c.args.room c.args.level c.args.place c.args.q.now _ c.byte.result c.record_length.result _ _ c.condition_record.result c.if-level-eq0.false c.if-room-lt2.false c.tail-here.ensures c.condition_record.ensures c.in-Some.is c.byte.ensures c.record_length.ensures.value c.if-inner-gt65535.false (omega arith)
