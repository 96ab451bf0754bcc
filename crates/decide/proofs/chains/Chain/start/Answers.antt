use mathlib.Core.Path.{refl}
use Rattle.decide.specs.Chains as C
use Rattle.decide.specs.Linked as L
use Rattle.decide.proofs.chains.Steps.{at_head, bucket-low}
use Rattle.decide.proofs.chains.Chain.start.Goals as goal

pub returns-then-from-eq0 : goal.returns-then-from-eq0
returns-then-from-eq0 c = let s = c.args.self.now in at_head (L.value_in s) _ s.entry.at s.table.now s.entered.built s.entry.value (C.bucket_of s.entry.value) _ c.args.from refl (bucket-low s.entry.value) c.head.ensures c.if-from-eq0.true
