use native.Mathlib.Omega.{arith}
use mathlib.Core.Path.{refl}
use Rattle.quel.specs.Tokens.{key, point, token, sign_in}
use Rattle.quick.proofs.lexis.Standing.{some}
use Rattle.quick.proofs.lexis.Text.attribute.Goals as goal

pub past-requires : goal.past-requires
past-requires c = (c.word-x.ensures.end_bound.0, omega arith)

pub returns : goal.returns
unfolding token sign_in
returns c =
    let one = some _ c.if-end-eq0.false in
    let last = some _ c.if-last-eq0.false in
    (omega (arith, c.word-a.ensures.end_bound.1 last, c.in_ok-p.ensures.0, c.word-x.ensures.end_bound.1 one), c.word-a.ensures.end_bound.0, λ given k. record { p = c.word-x.result.end; q = c.in_ok-p.p; owner = c.word-x.ensures.by_index given k one; dot = c.in_ok-p.ensures.2 given (key point) k (λ x. refl); attribute = c.word-a.ensures.by_index given k last })
