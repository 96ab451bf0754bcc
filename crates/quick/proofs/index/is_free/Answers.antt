use mathlib.Core.Bool.{Bool, true, false, not}
use mathlib.Core.Path.{◌≡◌, refl, ap, ◌∙◌}
use lib.Dec.{eqb}
use Rattle.quel.specs.Tokens.{reserved}
use Rattle.tokens.specs.Kinds.{kind_spelled}
use Rattle.quick.proofs.index.Letters.{free-above}
use Rattle.quick.proofs.index.is_free.Goals as goal

pub returns-then-code-gt19658916 : goal.returns-then-code-gt19658916
returns-then-code-gt19658916 c = free-above c.args.code c.if-code-gt19658916.true

twice : (b : Bool) → not (not b) ≡ b
twice true = refl
twice false = refl

pub returns : goal.returns
returns c = ap not c.is_reserved.ensures ∙ twice (eqb (kind_spelled reserved c.args.code) 0)
