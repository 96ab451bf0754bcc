use Rattle.decide.specs.Chains as C
use Rattle.decide.specs.Linked as L
use Rattle.decide.proofs.chains.Chain.reach.Given as goal

abbrev pub invariant-loop : goal.invariant-loop
invariant-loop l = C.Passing (L.value_in l.self) l.self.entry.value l.from l.self.rows.walk.count l.link
