use Rattle.permitted.proofs.judges.Shorts.{long-marks}
use Rattle.permitted.proofs.judges.judge_long.Goals as goal

pub returns : goal.returns
returns c = long-marks c.args.catalogue.now c.args.values.now c.args.q.now _ _ _ c.args.walk _ c.args.marks.now _ c.condition.ensures.z_after c.fill.ensures c.condition-2.ensures.memo_after c.judge_at.ensures
