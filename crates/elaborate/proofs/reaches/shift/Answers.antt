use native.Mathlib.Omega.{arith}
use mathlib.Core.Path.{refl, sym, subst, ◌∙◌}
use Prim.Native.Nat.{◌+◌}
use Rattle.quel.specs.Writing.{Reaches}
use Rattle.elaborate.specs.Frames.{Stack}
use Rattle.elaborate.specs.Modes.{action_no}
use Rattle.elaborate.specs.Lookup.{ids_in}
use Rattle.elaborate.proofs.reaches.Laws.{open-reach, close-reach, same-reach}
use Rattle.elaborate.proofs.reaches.shift.Goals as goal

pub returns-then-opening : goal.returns-then-opening
returns-then-opening c = let i = c.args.i in record { stack = λ f w σ sm st. subst (λ (τ : Reaches). Stack w (ids_in c.args.lookup.now.table.now) c.enter.new.frames c.enter.result.depth c.enter.result.crossing c.enter.new.known τ) (open-reach (action_no c.args.a) c.args.item (w (i + 1)) (w (i + 2)) σ f (sym c.opening.ensures ∙ c.if-opening.true)) (c.enter.ensures.by_index w σ sm st); depth_bound = (omega (arith, c.enter.ensures.depth_value.0), c.enter.ensures.depth_value.1, c.enter.ensures.depth_value.2, c.enter.ensures.depth_value.3) }

pub returns-then-closing : goal.returns-then-closing
returns-then-closing c = let ids = ids_in c.args.lookup.now.table.now in let i = c.args.i in record { stack = λ f w σ sm st. subst (λ (τ : Reaches). Stack w ids c.args.frames.now c.leave.result.depth c.leave.result.crossing c.leave.new.known τ) (close-reach (action_no c.args.a) c.args.item (w (i + 1)) (w (i + 2)) σ (sym c.opening.ensures ∙ c.if-opening.false) (sym c.closing.ensures ∙ c.if-closing.true)) (c.leave.ensures.by_index w ids σ st); depth_bound = (omega (arith, c.leave.ensures.depth_le_depth.0), c.leave.ensures.depth_le_depth.1, c.leave.ensures.depth_le_depth.2, λ j l. refl) }

pub returns : goal.returns
returns c = let i = c.args.i in let r = c.args.r in record { stack = λ f w σ sm st. subst (λ (τ : Reaches). Stack w (ids_in c.args.lookup.now.table.now) c.args.frames.now r.depth r.crossing c.args.known.now τ) (same-reach (action_no c.args.a) c.args.item (w (i + 1)) (w (i + 2)) σ (sym c.opening.ensures ∙ c.if-opening.false) (sym c.closing.ensures ∙ c.if-closing.false)) st; depth_bound = (omega arith, c.requires.2, c.requires.6, λ j l. refl) }
