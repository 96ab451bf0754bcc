use Prim.Native.Nat.{◌-◌, ◌/◌}
use native.Mathlib.Omega.{arith}
use Rattle.program.specs.Text as T
use Rattle.program.proofs.text.Laws.{last, small, more, one-room, one-wrote, front-room, end-room, end-wrote}
use Rattle.program.proofs.text.+digits.Goals as goal

pub put-requires : goal.put-requires
put-requires t c = let k = c.args.k in let n = c.args.n in
    one-room (T.digits k n) _ 0 (last k n c.if-k-eq0.true) c.args.at c.requires

pub returns-then-k-eq0 : goal.returns-then-k-eq0
returns-then-k-eq0 t c = let k = c.args.k in let n = c.args.n in record { value = (one-wrote (T.digits k n) _ _ (last k n c.if-k-eq0.true) c.args.out.now c.args.at _ _ c.digit.ensures (c.put.ensures.value, c.put.ensures.out_after)).0; out_after = (one-wrote (T.digits k n) _ _ (last k n c.if-k-eq0.true) c.args.out.now c.args.at _ _ c.digit.ensures (c.put.ensures.value, c.put.ensures.out_after)).1 }

pub put-requires-then-n-lt10 : goal.put-requires-then-n-lt10
put-requires-then-n-lt10 t c = let k = c.args.k in let n = c.args.n in
    one-room (T.digits k n) _ 0 (small k n c.if-n-lt10.true) c.args.at c.requires

pub returns-then-n-lt10 : goal.returns-then-n-lt10
returns-then-n-lt10 t c = let k = c.args.k in let n = c.args.n in record { value = (one-wrote (T.digits k n) _ _ (small k n c.if-n-lt10.true) c.args.out.now c.args.at _ _ c.digit-then-n-lt10.ensures (c.put-then-n-lt10.ensures.value, c.put-then-n-lt10.ensures.out_after)).0; out_after = (one-wrote (T.digits k n) _ _ (small k n c.if-n-lt10.true) c.args.out.now c.args.at _ _ c.digit-then-n-lt10.ensures (c.put-then-n-lt10.ensures.value, c.put-then-n-lt10.ensures.out_after)).1 }

pub digits-to-requires : goal.digits-to-requires
digits-to-requires t c = let k = c.args.k in let n = c.args.n in
    (omega arith, front-room (T.digits k n) (T.digits (k - 1) (n / 10)) _ (more k n c.if-k-eq0.false c.if-n-lt10.false) c.args.at c.requires)

pub put-requires-2 : goal.put-requires-2
put-requires-2 t c = let k = c.args.k in let n = c.args.n in
    end-room (T.digits k n) (T.digits (k - 1) (n / 10)) _ (more k n c.if-k-eq0.false c.if-n-lt10.false) c.args.at _ c.requires c.digits-to.ensures.value

pub returns : goal.returns
returns t c = let k = c.args.k in let n = c.args.n in record { value = (end-wrote (T.digits k n) (T.digits (k - 1) (n / 10)) _ (more k n c.if-k-eq0.false c.if-n-lt10.false) c.args.out.now c.args.at _ _ _ _ _ (c.digits-to.ensures.value, c.digits-to.ensures.out_after) c.digit-2.ensures (c.put-2.ensures.value, c.put-2.ensures.out_after)).0; out_after = (end-wrote (T.digits k n) (T.digits (k - 1) (n / 10)) _ (more k n c.if-k-eq0.false c.if-n-lt10.false) c.args.out.now c.args.at _ _ _ _ _ (c.digits-to.ensures.value, c.digits-to.ensures.out_after) c.digit-2.ensures (c.put-2.ensures.value, c.put-2.ensures.out_after)).1 }
