use Prim.Native.Nat.{◌+◌}
use lib.ListN.{length, get_or}
use Rattle.quel.specs.Names.{attribute_named}
use Rattle.names.specs.Entries.{entries}
use Rattle.quick.proofs.index.Whole.{told-attribute, told-found}
use Rattle.quick.proofs.index.attribute_at.Goals as goal

pub look-requires : goal.look-requires
look-requires c = record { at = length c.args.list.now; count = c.requires.count; filled = c.requires.filled }

pub returns : goal.returns
returns c = let list = c.args.list.now in told-found list c.args.names.now c.requires 81 c.args.relation c.args.code (attribute_named (entries list) c.args.relation) (λ i. get_or list (i + 2) 0) (told-attribute list c.args.names.now c.requires c.args.relation) c.look.result c.look.ensures.result_in_bounds c.look.ensures.by_index
