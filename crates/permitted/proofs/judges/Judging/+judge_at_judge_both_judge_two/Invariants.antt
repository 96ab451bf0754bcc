use Prim.Native.Nat.{◌+◌, ◌*◌}
use Rattle.permitted.proofs.judges.Judging.+judge_at_judge_both_judge_two.Given as goal

abbrev pub decreases-judge_at : goal.decreases-judge_at
decreases-judge_at l = 3 * l.task.level

abbrev pub decreases-judge_both : goal.decreases-judge_both
decreases-judge_both l = 3 * l.task.level + 2

abbrev pub decreases-judge_two : goal.decreases-judge_two
decreases-judge_two l = 3 * l.task.level + 1
