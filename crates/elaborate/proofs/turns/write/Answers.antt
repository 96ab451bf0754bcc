use Rattle.elaborate.proofs.turns.Laws.{open-most, record-most, write-all}
use native.Mathlib.Omega.{arith}
use lib.ListN.{get_or}
use Prim.Native.Nat.{◌+◌}
use Rattle.elaborate.specs.Counts.{ors_in, ands_in, sign_in}
use Rattle.elaborate.specs.Modes.{mode_no}
use Rattle.elaborate.proofs.turns.write.Goals as goal

pub put_record-requires : goal.put_record-requires
put_record-requires c = omega (arith, c.open-p.ensures.value, c.ors.ensures, c.ands.ensures, open-most (mode_no c.args.mode) c.args.kind c.ors.result c.ands.result c.operator.result, record-most c.args.item)

pub returns : goal.returns
returns c = let counts = c.args.counts.now in let i = c.args.i in
    let w = write-all c.args.out.now _ _ c.args.at _ _ (mode_no c.args.mode) c.args.kind c.ors.result c.ands.result c.operator.result (ors_in (get_or counts i 0)) (ands_in (get_or counts i 0)) (1 + sign_in (get_or counts (i + 1) 0)) c.args.item c.ors.ensures c.ands.ensures (omega (arith, c.operator.ensures)) (omega arith) (omega arith) c.open-p.ensures.value c.open-p.ensures.out_after c.put_record.ensures.value c.put_record.ensures.out_after in record { value = w.0; out_after = w.1; upper_bound = w.2 }
