use native.Mathlib.Omega.{arith}
use mathlib.Core.Path.{refl}
use Rattle.rewriter.specs.Applying.{masks_by, conditions_by}
use Rattle.rewriter.proofs.Sequences.{pair-first, pair-second, pair-did, no_targets, target_first}
use Rattle.rewriter.proofs.+targets.Goals as goal

pub returns-then-left-eq0 : goal.returns-then-left-eq0
returns-then-left-eq0 t c = let h = no_targets (masks_by c.args.applying.now) (conditions_by c.args.applying.now) c.args.left c.args.level c.args.part.now.q.now c.args.part.now.z.now c.if-left-eq0.true c.args.out.now c.args.to.at c.args.to.next in record { after = h.0; out_after = h.1 }

pub term-w-requires : goal.term-w-requires
term-w-requires t c = pair-first _ _ _ _ _ _ _ (target_first (masks_by c.args.applying.now) (conditions_by c.args.applying.now) c.args.left c.args.level c.args.part.now.q.now c.args.part.now.z.now c.if-left-eq0.false _ refl _ _ refl refl c.args.to.next) c.args.to.at c.requires

pub targets-requires : goal.targets-requires
targets-requires t c = (omega (arith, c.decreases, c.if-left-eq0.false), pair-second _ _ _ _ _ _ _ (target_first (masks_by c.args.applying.now) (conditions_by c.args.applying.now) c.args.left c.args.level c.args.part.now.q.now c.args.part.now.z.now c.if-left-eq0.false _ c.size_at.ensures.value _ _ c.from-rest.ensures.bytes c.from-rest.ensures.sizes c.args.to.next) c.args.to.at c.args.out.now _ _ _ (c.term-w.ensures.after, c.term-w.ensures.out_after) c.requires)

pub returns : goal.returns
returns t c = let h = pair-did _ _ _ _ _ _ _ (target_first (masks_by c.args.applying.now) (conditions_by c.args.applying.now) c.args.left c.args.level c.args.part.now.q.now c.args.part.now.z.now c.if-left-eq0.false _ c.size_at.ensures.value _ _ c.from-rest.ensures.bytes c.from-rest.ensures.sizes c.args.to.next) c.args.to.at c.args.out.now _ _ _ (c.term-w.ensures.after, c.term-w.ensures.out_after) _ _ _ (c.targets.ensures.after, c.targets.ensures.out_after) in record { after = h.0; out_after = h.1 }
