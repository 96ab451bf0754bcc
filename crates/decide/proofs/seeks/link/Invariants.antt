use Rattle.decide.specs.Keys as K
use Rattle.decide.proofs.seeks.link.Given as goal

abbrev pub invariant-loop-d : goal.invariant-loop-d
invariant-loop-d l = K.Filling l.free l.t l.walks l.values l.chains
