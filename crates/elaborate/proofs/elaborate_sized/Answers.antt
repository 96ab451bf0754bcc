use mathlib.Core.Path.{sym, subst}
use lib.ListN.{length-replicate}
use Rattle.model.proofs.Lists.{get_or-same}
use Rattle.names.specs.Search.{Indexed}
use Rattle.elaborate.specs.Lookup.{ids_in}
use Rattle.elaborate.specs.Places.{table}
use Rattle.elaborate.proofs.Names.{named}
use Rattle.elaborate.proofs.elaborate_sized.Goals as goal

pub number_names-requires : goal.number_names-requires
number_names-requires g c = (rw length-replicate c.requires.sizes.0, get_or-same g.row.L 0, c.requires.lent.2, c.requires.lent.3)

pub resolve-requires : goal.resolve-requires
resolve-requires g c = (c.requires.lent.0, rw length-replicate c.requires.sizes.2, λ x. c.number_names.ensures.numbered.most x, subst (Indexed c.args.list.now) (sym c.number_names.ensures.lookup_unchanged) c.requires.lent.1)

pub returns : goal.returns
returns g c = let t = c.args.tokens.now in c.resolve.ensures t.text.now t.starts.now c.number_names.ensures.numbered (named t.text.now (table t.kinds.now t.starts.now t.numbers.now) (ids_in c.number_names.new.lookup) c.number_names.ensures.numbered t.coded)
