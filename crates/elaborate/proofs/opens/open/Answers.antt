use mathlib.Core.Bool.{cond}
use mathlib.Core.Path.{◌≡◌, ap}
use lib.Dec.{eqb, leb}
use Prim.Native.Nat.{ℕ}
use Rattle.elaborate.specs.Modes.{mode_no}
use Rattle.elaborate.proofs.opens.Often.{opened-all, neither}
use Rattle.elaborate.proofs.opens.open.Goals.{in-Condition, in-Conjunct, in_default}
use Rattle.elaborate.proofs.opens.open.Goals as goal

pub returns : goal.returns
returns c = let mode = c.args.mode in
    let counts : c.match-mode.ors ≡ (cond (eqb (mode_no mode) 0) c.args.ors 0, cond (leb (mode_no mode) 1) c.args.ands 0) = elim c.match-mode.branch [ in-Condition w ↦ rw w.in-Condition.is w.ors-is | in-Conjunct w ↦ rw w.in-Conjunct.is w.ors-is | in_default w ↦ (let n = neither mode w.in_default.not-Condition w.in_default.not-Conjunct in rw (n.0, n.1) w.ors-is) ] in
    let all = opened-all c.args.out.now _ _ _ c.args.at _ _ _ _ _ _ _ _ (ap (λ (p : ℕ × ℕ). p.0) counts) (ap (λ (p : ℕ × ℕ). p.1) counts) c.many-p.ensures.value c.many-p.ensures.out_after c.many-q.ensures.value c.many-q.ensures.out_after c.compare.ensures.value c.compare.ensures.out_after in
    record { value = all.0; out_after = all.1 }
