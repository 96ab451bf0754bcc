use native.Mathlib.Omega.{arith}
use Prim.Native.Nat.{◌+◌}
use lib.ListN.{get_or}
use Rattle.quel.specs.Tokens.{key, left}
use Rattle.names.specs.Entries.{entries}
use Rattle.parts.proofs.Heads.{range-read}
use Rattle.quick.proofs.heads.Keys.{left_is}
use Rattle.quick.proofs.heads.range.Goals as goal

pub word-r-requires : goal.word-r-requires
word-r-requires c = c.requires.0

pub returns-then-end-eq0 : goal.returns-then-end-eq0
returns-then-end-eq0 c = record { at_bound = (omega arith, (λ h. absurd (omega (arith, h))), c.requires.1, omega arith); by_index = λ given ss k d e h. absurd (omega (arith, h)) }

pub relation_at-requires : goal.relation_at-requires
relation_at-requires c = c.requires.2

pub returns-in_default : goal.returns-in_default
returns-in_default c = record { at_bound = (omega arith, (λ h. absurd (omega (arith, h))), c.requires.1, omega arith); by_index = λ given ss k d e h. absurd (omega (arith, h)) }

pub returns-in_default-past : goal.returns-in_default-past
returns-in_default-past c = record { at_bound = (omega arith, (λ h. absurd (omega (arith, h))), c.requires.1, omega arith); by_index = λ given ss k d e h. absurd (omega (arith, h)) }

pub bounds-source-q : goal.bounds-source-q
bounds-source-q c = omega (arith, c.in-Some.ensures.0)

pub bound-requires : goal.bound-requires
bound-requires c = (c.in-Some-past.ensures.1, c.requires.1)

pub returns : goal.returns
returns c = let list = c.args.source.now.list.now in record { at_bound = (c.bound.ensures.at_bound.0, (λ h. omega (arith, c.word-r.ensures.end_bound.1 (omega (arith, c.if-end-eq0.false)), c.in-Some-past.ensures.0, c.bound.ensures.at_bound.1 h)), c.bound.ensures.at_bound.2, c.bound.ensures.at_bound.3); by_index = λ given ss k d e h. range-read (entries list) given ss c.args.s.at c.word-r.result.end c.in-Some-past.at c.bound.result.at c.word-r.result.value (get_or list (c.in-Some.q + 1) 0) _ c.bound.result.to (c.word-r.ensures.by_index given k (omega (arith, c.if-end-eq0.false))) ((c.in-Some.ensures.1 (c.word-r.ensures.by_index given k (omega (arith, c.if-end-eq0.false))).word (c.word-r.ensures.by_index given k (omega (arith, c.if-end-eq0.false))).spelt).named (omega (arith, c.in-Some.ensures.0))) ((c.in-Some.ensures.1 (c.word-r.ensures.by_index given k (omega (arith, c.if-end-eq0.false))).word (c.word-r.ensures.by_index given k (omega (arith, c.if-end-eq0.false))).spelt).found (omega (arith, c.in-Some.ensures.0))) (c.in-Some-past.ensures.2 given (key left) k left_is) (c.bound.ensures.by_index given (entries list) ss k d e h) }

pub past-requires : goal.past-requires
past-requires c = (c.word-r.ensures.end_bound.0, omega arith)
