use Rattle.decide.specs.Keys as K
use Rattle.decide.proofs.seeks.Source.add_searches.Given as goal

abbrev pub invariant-loop-i : goal.invariant-loop-i
invariant-loop-i l = K.Filling l.next l.self.t.now l.self.walks.now l.self.values.now l.chains
