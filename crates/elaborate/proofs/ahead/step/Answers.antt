use Rattle.elaborate.proofs.ahead.Laws.{step-sign, step-or, step-and, step_left, step_right, step-rest}
use native.Mathlib.Omega.{arith}
use mathlib.Core.Bool.{false, ◌&&◌}
use mathlib.Core.Path.{◌≡◌, ap}
use lib.Dec.{leb}
use borrow.Author.Tests.{le-leb, lt-leb}
use Prim.Native.Nat.{ℕ, ◌-◌}
use Rattle.elaborate.proofs.ahead.step.Goals.{in_default-via-then-kind-lt7, in_default-via-else-kind-lt7+else-kind-lt13}
use Rattle.elaborate.proofs.ahead.step.Goals as goal

pub returns-in-7-to-12 : goal.returns-in-7-to-12
returns-in-7-to-12 c = step-sign c.args.kind c.args.next c.args.after _ (rw (le-leb 7 c.args.kind (omega arith), le-leb c.args.kind 12 (omega arith))) _ (ap (λ (n : ℕ). n - 7) c.from.ensures) c.pack-in-7-to-12.ensures

pub returns-in-18 : goal.returns-in-18
returns-in-18 c = step-or c.args.kind c.args.next c.args.after _ c.in-18.is c.pack.ensures

pub returns-in-19 : goal.returns-in-19
returns-in-19 c = step-and c.args.kind c.args.next c.args.after _ c.in-19.is c.pack-in-19.ensures

pub returns-in-20 : goal.returns-in-20
returns-in-20 c = step_left c.args.kind c.args.next c.args.after _ c.in-20.is c.pack-in-20.ensures

pub returns-in-21 : goal.returns-in-21
returns-in-21 c = step_right c.args.kind c.args.next c.args.after _ c.in-21.is c.pack-in-21.ensures

pub returns-in_default : goal.returns-in_default
returns-in_default c = let kind = c.args.kind in
    let low : (leb 7 kind && leb kind 12) ≡ false = elim c.in_default.branch [ in_default-via-then-kind-lt7 w ↦ rw (lt-leb 7 kind (omega arith)) | in_default-via-else-kind-lt7+else-kind-lt13 w ↦ rw (le-leb 7 kind (omega arith), lt-leb kind 12 (omega arith)) ] in
    step-rest kind c.args.next c.args.after _ low (λ e. omega arith) (λ e. omega arith) (λ e. omega arith) (λ e. omega arith) c.further.ensures
