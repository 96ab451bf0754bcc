use native.Mathlib.Omega.{arith}
use Rattle.quel.specs.Tokens.{key, colon}
use Rattle.names.specs.Entries.{entries}
use Rattle.parts.proofs.Heads.{ranges-none, ranges-end, ranges_more}
use Rattle.quick.proofs.heads.Keys.{colon-is}
use Rattle.quick.proofs.heads.ranges.Goals as goal

pub loop-start-init : goal.loop-start-init
loop-start-init c = (c.requires.0, c.requires.1.tabled.words.long, λ given k. ranges-none (entries c.args.source.now.list.now) given c.args.start c.args.symbols.now c.requires.1)

pub range-g-requires : goal.range-g-requires
range-g-requires c = (c.loop-start.invariant.0, c.loop-start.invariant.1, c.requires.2)

pub returns-then-end-eq0 : goal.returns-then-end-eq0
returns-then-end-eq0 c = record { at_bound = (omega arith, c.range-g.ensures.at_bound.2, omega arith); by_index = λ given k h. absurd (omega (arith, h)) }

pub returns-in_default : goal.returns-in_default
returns-in_default c = record { at_bound = (c.range-g.ensures.at_bound.0, c.range-g.ensures.at_bound.2, c.range-g.ensures.at_bound.3); by_index = λ given k h. ranges-end (entries c.args.source.now.list.now) given c.args.start c.loop-start.at c.loop-start.symbols c.loop-start.to (c.loop-start.invariant.2 given k) c.range-g.result.at _ c.range-g.result.to (c.range-g.ensures.by_index given (c.loop-start.invariant.2 given k).symbols k (c.loop-start.invariant.2 given k).heads (c.loop-start.invariant.2 given k).size (omega (arith, c.if-end-eq0.false))) }

pub loop-start-smaller : goal.loop-start-smaller
loop-start-smaller c = omega (arith, c.range-g.ensures.at_bound.1 (omega (arith, c.if-end-eq0.false)), c.in-Some.ensures.0, c.in-Some.ensures.1)

pub loop-start-preserved : goal.loop-start-preserved
loop-start-preserved c = (c.in-Some.ensures.1, c.range-g.ensures.at_bound.2, λ given k. ranges_more (entries c.args.source.now.list.now) given c.args.start c.loop-start.at c.loop-start.symbols c.loop-start.to (c.loop-start.invariant.2 given k) c.range-g.result.at _ c.range-g.result.to (c.range-g.ensures.by_index given (c.loop-start.invariant.2 given k).symbols k (c.loop-start.invariant.2 given k).heads (c.loop-start.invariant.2 given k).size (omega (arith, c.if-end-eq0.false))) c.in-Some.next (c.in-Some.ensures.2 given (key colon) k colon-is))

pub past-requires : goal.past-requires
past-requires c = (c.range-g.ensures.at_bound.0, omega arith)
