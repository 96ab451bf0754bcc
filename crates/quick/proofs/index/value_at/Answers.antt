use lib.ListN.{length}
use Rattle.quel.specs.Names.{value_named}
use Rattle.names.specs.Entries.{entries}
use Rattle.quick.specs.Index.{bytes_at}
use Rattle.quick.proofs.index.Whole.{told-value, told-found}
use Rattle.quick.proofs.index.value_at.Goals as goal

pub look-requires : goal.look-requires
look-requires c = record { at = length c.args.list.now; count = c.requires.count; filled = c.requires.filled }

pub returns : goal.returns
returns c = let list = c.args.list.now in told-found list c.args.names.now c.requires 82 0 c.args.code (value_named (entries list)) (λ i. bytes_at list i) (told-value list c.args.names.now c.requires 0) c.look.result c.look.ensures.result_in_bounds c.look.ensures.by_index
