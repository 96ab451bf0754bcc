use native.Mathlib.Omega.{arith}
use mathlib.Core.Path.{◌≡◌, sym, subst}
use Prim.Native.Nat.{ℕ, ◌<◌}
use mathlib.Core.List.{List}
use lib.ListN.{get_or}
use Rattle.model.proofs.Lists.{get_or-same}
use Rattle.elaborate.proofs.reaches.Laws.{leave_none, leave-last, leave-frame, small-set}
use Rattle.elaborate.proofs.reaches.leave.Goals as goal

pub returns-then-depth-eq0 : goal.returns-then-depth-eq0
returns-then-depth-eq0 c = let r = c.args.r in record { by_index = λ w ids σ st. leave_none w ids c.args.frames.now r.depth r.crossing c.args.known.now σ c.if-depth-eq0.true st; depth_le_depth = (omega arith, c.requires.0, c.requires.1) }

pub returns-then-c-eq0 : goal.returns-then-c-eq0
returns-then-c-eq0 c = let r = c.args.r in let z : (x : ℕ) → get_or c.fill.new.self x 0 ≡ 0 = λ x. rw (c.fill.ensures.after (λ y e. e)) (get_or-same _ 0 x) in record { by_index = λ w ids σ st. leave-last w ids c.args.frames.now r.depth r.crossing c.args.known.now σ _ c.if-depth-eq0.false c.entry-c.ensures c.if-c-eq0.true _ z st; depth_le_depth = (omega arith, omega arith, λ y. omega (arith, z y)) }

pub returns : goal.returns
returns c = let known = c.args.known.now in let r = c.args.r in record { by_index = λ w ids σ st. leave-frame w ids c.args.frames.now r.depth r.crossing known σ _ c.if-depth-eq0.false c.entry-c.ensures c.if-c-eq0.false _ c.store.ensures st; depth_le_depth = (omega arith, omega arith, λ y. subst (λ (k : List ℕ). get_or k y 0 < 68719476736) (sym c.store.ensures) (small-set known _ _ c.requires.1 (omega arith) y)) }
