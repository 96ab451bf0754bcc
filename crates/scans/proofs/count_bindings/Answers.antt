use Rattle.std.proofs.Common.{length, ap, inl, arith}
use Rattle.scans.proofs.Walk.{bindings-few}
use Rattle.scans.proofs.count_bindings.Goals as goal

pub count-requires-clause-fits : goal.count-requires-clause-fits
count-requires-clause-fits c = inl (omega (arith, ap length c.of.ensures, bindings-few c.args.q.now))
