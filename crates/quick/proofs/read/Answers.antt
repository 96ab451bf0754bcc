use mathlib.Core.Path.{◌∙◌, ap}
use Rattle.quel.specs.ReadText.{read_text}
use Rattle.quick.proofs.read.Goals as goal

pub returns-in-None : goal.returns-in-None
returns-in-None c = c.read.ensures ∙ ap (read_text c.args.list.now c.args.text.now) c.in-None.ensures
