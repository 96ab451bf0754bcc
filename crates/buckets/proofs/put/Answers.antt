use Prim.Native.Nat.{◌+◌}
use Rattle.buckets.proofs.Laws.{put-heads, put-nexts}
use Rattle.buckets.proofs.put.Goals as goal

pub returns : goal.returns
returns c = record { index_after = put-heads c.args.index.now c.args.bucket c.args.slot (c.args.place + 1) c.requires.0; index_after_2 = put-nexts c.args.index.now c.args.bucket c.args.slot (c.args.place + 1) c.requires.0 }
