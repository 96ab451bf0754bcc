use Prim.Native.Nat.{◌+◌}
use lib.ListN.{length, get_or}
use Rattle.quel.specs.Names.{relation_named}
use Rattle.names.specs.Entries.{entries}
use Rattle.quick.proofs.index.Whole.{told-relation, told-found}
use Rattle.quick.proofs.index.relation_at.Goals as goal

pub look-requires : goal.look-requires
look-requires c = record { at = length c.args.list.now; count = c.requires.count; filled = c.requires.filled }

pub returns : goal.returns
returns c = let list = c.args.list.now in told-found list c.args.names.now c.requires 80 0 c.args.code (relation_named (entries list)) (λ i. get_or list (i + 1) 0) (told-relation list c.args.names.now c.requires 0) c.look.result c.look.ensures.result_in_bounds c.look.ensures.by_index
