use native.Mathlib.Omega.{arith}
use mathlib.Core.Path.{refl}
use Rattle.quel.specs.Tokens.{key, left, token, sign_in}
use Rattle.quick.proofs.lexis.Standing.{some, some-code, in-here}
use Rattle.quick.proofs.lexis.Text.relation.Goals as goal

pub past-requires : goal.past-requires
past-requires c = (c.word-r.ensures.end_bound.0, omega arith)

pub returns : goal.returns
unfolding token sign_in
returns c =
    let f = some-code c.word-i.result.end c.word-i.result.value c.word-i.ensures.end_bound.2 (omega (arith, c.if-code-ne897.false)) in
    let last = some _ c.if-last-eq0.false in
    (omega (arith, c.in_ok-end.ensures.0, c.word-r.ensures.end_bound.1 last, c.word-i.ensures.end_bound.1 f), c.in_ok-end.ensures.1, λ given k. record { p = c.word-i.result.end; q = c.word-r.result.end; in-word = in-here given c.args.at c.word-i.result.end c.word-i.result.value (c.word-i.ensures.by_index given k f) c.if-code-ne897.false; relation = c.word-r.ensures.by_index given k last; opens = c.in_ok-end.ensures.2 given (key left) k (λ x. refl) })
