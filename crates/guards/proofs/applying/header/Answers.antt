use mathlib.Core.Path.{◌≡◌, refl, ◌∙◌}
use Rattle.model.specs.Kinds.{kind_of, find}
use Rattle.kinds.specs.Tables.{of_kind, record_length}
use Rattle.guards.proofs.applying.header.Goals as goal

four : record_length 64 ≡ 4
unfolding record_length of_kind kind_of find
four = refl

pub returns : goal.returns
returns c = c.record_length.ensures.value ∙ four
