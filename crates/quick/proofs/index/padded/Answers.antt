use mathlib.Core.Path.{refl, sym, ap, ◌∙◌}
use mathlib.Core.Bool.{Bool, cond}
use Rattle.quick.proofs.index.Letters.{padded-none, padded-some}
use Rattle.quick.proofs.index.padded.Goals as goal

pub returns-then-n-eq0 : goal.returns-then-n-eq0
returns-then-n-eq0 c = padded-none c.args.name.now c.args.n c.args.code c.if-n-eq0.true

pub returns-then-spaces : goal.returns-then-spaces
returns-then-spaces c = let code = c.args.code in
    (refl, sym (ap (λ (b : Bool). cond b code 0) c.if-spaces.true) ∙ padded-some c.args.name.now c.args.n code c.if-n-eq0.false c.spaces.result c.spaces.ensures)

pub returns-else-spaces : goal.returns-else-spaces
returns-else-spaces c = let code = c.args.code in
    sym (ap (λ (b : Bool). cond b code 0) c.if-spaces.false) ∙ padded-some c.args.name.now c.args.n code c.if-n-eq0.false c.spaces.result c.spaces.ensures
