use mathlib.Core.Path.{refl, sym, ap, ◌∙◌}
use Rattle.model.specs.Kinds.{kind_of, find, k-not, k-and, k-or}
use Rattle.kinds.specs.Places.{condition_of}
use Rattle.branches.proofs.Joining.{bare}
use Rattle.branches.proofs.kind_at.Goals as goal

pub returns-in-18 : goal.returns-in-18
unfolding kind_of find
returns-in-18 c = ap condition_of (bare c.args.q.now 17 k-not (sym c.byte.ensures ∙ c.in-18.is) refl refl)

pub returns-in-19 : goal.returns-in-19
unfolding kind_of find
returns-in-19 c = ap condition_of (bare c.args.q.now 18 k-and (sym c.byte.ensures ∙ c.in-19.is) refl refl)

pub returns-in-20 : goal.returns-in-20
unfolding kind_of find
returns-in-20 c = ap condition_of (bare c.args.q.now 19 k-or (sym c.byte.ensures ∙ c.in-20.is) refl refl)
