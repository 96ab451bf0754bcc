use native.Mathlib.Omega.{arith}
use Rattle.names.specs.Entries.{entries}
use Rattle.parts.proofs.Terms.{as-target}
use Rattle.quick.proofs.heads.target.Goals as goal

pub word-w-requires : goal.word-w-requires
word-w-requires c = (c.requires.at_bound.0)

pub term-c-requires : goal.term-c-requires
term-c-requires c = record { lent = c.requires.lent; at_bound = (c.requires.at_bound.0, c.requires.at_bound.1, c.word-w.ensures.end_bound.0, c.word-w.ensures.end_bound.1) }

pub bounds-made-to : goal.bounds-made-to
bounds-made-to c = omega (arith, c.requires.at_bound.1)

pub returns-then-made-to-eq32 : goal.returns-then-made-to-eq32
returns-then-made-to-eq32 c = record { went = record { inside = omega arith; on = λ h. absurd (omega (arith, h)); more = λ h. absurd (omega (arith, h)); long = c.term-c.ensures.went.long; wide = c.term-c.ensures.went.wide }; by_index = λ given ρ ws k r h. absurd (omega (arith, h)) }

pub returns : goal.returns
returns c = record { went = c.term-c.ensures.went; by_index = λ given ρ ws k r h. as-target (entries c.args.source.now.list.now) ρ ws given c.args.s.at c.term-c.result.at c.args.symbols.now _ c.args.made.now _ c.args.s.to c.term-c.result.to (omega (arith, c.requires.lent.wide, c.requires.at_bound.1)) (c.term-c.ensures.termed_from.reads given ρ ws k r (λ e. c.word-w.ensures.by_index given k e) h) c.if-made-to-eq32.false }
