use mathlib.Core.Path.{◌∙◌}
use Rattle.elaborate.proofs.Lookup.{id-is}
use Rattle.elaborate.proofs.lookups.Lookup.id_at.Goals as goal

pub returns : goal.returns
returns c = record { value = c.size_at.ensures.value ∙ id-is c.args.self.now.table.now c.room.result c.room.ensures _ c.tail_sizes.ensures c.args.x; upper_bound = c.size_at.ensures.upper_bound }
