use native.Mathlib.Omega.{arith}
use mathlib.Core.Path.{◌∙◌}
use Rattle.quel.specs.Tokens.{key, colon}
use Rattle.names.specs.Entries.{entries}
use Rattle.parts.proofs.Heads.{head_read}
use Rattle.quick.proofs.lexis.Standing.{some-code, range-here, retrieve-here}
use Rattle.quick.proofs.heads.Keys.{mapped, colon-is, counted, counted-long, counted_same, counted_next, counted-many}
use Rattle.quick.proofs.heads.head.Goals as goal

pub ranges-g-requires : goal.ranges-g-requires
ranges-g-requires c = (c.word-k.ensures.end_bound.0, c.requires.0, c.requires.1)

pub past-requires : goal.past-requires
past-requires c = (c.in_ok-w.ensures.1, omega arith)

pub returns : goal.returns
returns c = mapped c.past.result (λ j e. (e.1, counted-long c.ranges-g.new.symbols c.ranges-g.result.to ∙ c.ranges-g.ensures.at_bound.1, omega (arith, counted-many c.ranges-g.new.symbols c.ranges-g.result.to c.ranges-g.ensures.at_bound.1, c.ranges-g.ensures.at_bound.2), λ given k. head_read (entries c.args.source.now.list.now) given c.skip.result c.word-k.result.end c.ranges-g.result.at c.word-r.result.end c.in_ok-w.w.end j c.in_ok-w.w.value c.ranges-g.result.to c.ranges-g.new.symbols (counted c.ranges-g.new.symbols c.ranges-g.result.to) (c.skip.ensures.by_index given k).spells (range-here given c.skip.result c.word-k.result.end c.word-k.result.value (c.word-k.ensures.by_index given k (some-code c.word-k.result.end c.word-k.result.value c.word-k.ensures.end_bound.2 (omega (arith, c.if-k-ne19658916.false)))) c.if-k-ne19658916.false) (c.ranges-g.ensures.by_index given k (omega (arith, c.if-at-eq0.false))) (retrieve-here given c.ranges-g.result.at c.word-r.result.end c.word-r.result.value (c.word-r.ensures.by_index given k (some-code c.word-r.result.end c.word-r.result.value c.word-r.ensures.end_bound.2 (omega (arith, c.if-r-ne346837159270.false)))) c.if-r-ne346837159270.false) (c.in_ok-w.ensures.2 given k) (e.2 given (key colon) k colon-is) (counted-long c.ranges-g.new.symbols c.ranges-g.result.to) (counted_same c.ranges-g.new.symbols c.ranges-g.result.to) (counted_next c.ranges-g.new.symbols c.ranges-g.result.to c.ranges-g.ensures.at_bound.1) (counted-many c.ranges-g.new.symbols c.ranges-g.result.to c.ranges-g.ensures.at_bound.1))) c.past.ensures
