use mathlib.Core.Path.{sym, ap, ◌∙◌}
use Prim.Native.Nat.{ℕ}
use lib.ListN.{get_or}
use Rattle.elaborate.specs.Reach.{standing}
use Rattle.elaborate.proofs.reach.seek.Goals as goal

pub returns : goal.returns
returns c = λ w ρ d h. c.decoded.ensures ∙ ap (standing c.args.crossing) (c.entry.ensures ∙ ap (λ (j : ℕ). get_or c.args.known.now j 0) c.id_at.ensures.value) ∙ sym (h.says c.args.x)
