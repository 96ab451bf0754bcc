use Rattle.std.proofs.Common.{arith, sym, ◌∙◌}
use Rattle.rows.proofs.Folded.{hash-next, hash-end}
use Rattle.rows.proofs.hash.Goals as goal

pub loop-x-preserved : goal.loop-x-preserved
loop-x-preserved c = record {
  so_far = c.loop-x.invariant.so_far ∙ hash-next c.args.row.now c.loop-x.x-index c.loop-x.h _ (omega arith) (record { sfits = omega arith }) c.mix-h.ensures.value;
  low = c.mix-h.ensures.upper_bound;
}

pub returns : goal.returns
returns c = sym (c.loop-x.invariant.so_far ∙ hash-end c.args.row.now c.loop-x.x-index c.loop-x.h (omega arith))
