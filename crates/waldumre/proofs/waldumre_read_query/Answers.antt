use mathlib.Core.Path.{ap, ◌∙◌}
use Rattle.waldumre.specs.declared.Reading.{Reading}
use Rattle.waldumre.specs.Outcome.{reading_of}
use Rattle.waldumre.proofs.Replies.{read-told}
use Rattle.waldumre.proofs.waldumre_read_query.Goals as goal

pub returns : goal.returns
returns c = ap (λ (r : Reading). reading_of r c.read.new.out) c.from.ensures ∙ read-told c.read.result c.read.new.out ∙ c.read.ensures
