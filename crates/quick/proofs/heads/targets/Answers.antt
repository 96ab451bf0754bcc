use native.Mathlib.Omega.{arith}
use mathlib.Core.List.{◌++◌}
use Rattle.model.specs.Lists.{concat_map}
use Rattle.quel.specs.Tokens.{key, comma}
use Rattle.quel.specs.Elaboration.{somes_t}
use Rattle.names.specs.Entries.{entries}
use Rattle.parts.proofs.Targets.{targets-none, targets-ready, targets-end, targets-more}
use Rattle.quick.proofs.heads.Keys.{comma-is}
use Rattle.quick.proofs.heads.targets.Goals as goal

pub loop-start-init : goal.loop-start-init
loop-start-init c = (c.requires.start_bound, omega arith, omega arith, c.requires.lent, λ given ρ ws k r. targets-none (entries c.args.source.now.list.now) ρ ws given c.args.start c.args.symbols.now c.args.made.now 0 r)

pub target-t-requires : goal.target-t-requires
target-t-requires c = record { lent = c.loop-start.invariant.3; at_bound = (c.loop-start.invariant.0, omega (arith, c.loop-start.invariant.2)) }

pub returns-then-end-eq0 : goal.returns-then-end-eq0
returns-then-end-eq0 c = record { went = record { inside = omega arith; on = λ h. absurd (omega (arith, h)); more = λ h. absurd (omega (arith, h)); long = c.target-t.ensures.went.long; wide = c.target-t.ensures.went.wide }; to_bound = (λ h. absurd (omega (arith, h))); by_index = λ given ρ ws k r h. absurd (omega (arith, h)) }

pub returns-then-to-gt980 : goal.returns-then-to-gt980
returns-then-to-gt980 c = record { went = record { inside = omega arith; on = λ h. absurd (omega (arith, h)); more = λ h. absurd (omega (arith, h)); long = c.target-t.ensures.went.long; wide = c.target-t.ensures.went.wide }; to_bound = (λ h. absurd (omega (arith, h))); by_index = λ given ρ ws k r h. absurd (omega (arith, h)) }

pub past-requires : goal.past-requires
past-requires c = (c.target-t.ensures.went.inside, omega arith)

pub returns-in_default : goal.returns-in_default
returns-in_default c = let list = c.args.source.now.list.now in let made = c.args.made.now in let symbols = c.args.symbols.now in let start = c.args.start in record { went = record { inside = c.target-t.ensures.went.inside; on = λ _. omega (arith, c.loop-start.invariant.1, c.target-t.ensures.went.on (omega (arith, c.if-end-eq0.false))); more = λ _. omega arith; long = c.target-t.ensures.went.long; wide = c.target-t.ensures.went.wide }; to_bound = (λ _. omega (arith, c.if-to-gt980.false)); by_index = λ given ρ ws k r h. targets-end (entries list) ρ ws given start c.loop-start.at c.target-t.result.at symbols c.loop-start.symbols c.target-t.new.symbols made c.loop-start.made c.target-t.new.made 0 c.loop-start.to c.target-t.result.to (c.loop-start.invariant.4 given ρ ws k r) (c.target-t.ensures.by_index given ρ (ws ++ concat_map somes_t (c.loop-start.invariant.4 given ρ ws k r).are) k (targets-ready (entries list) ρ ws given start c.loop-start.at c.target-t.result.at symbols c.loop-start.symbols c.target-t.new.symbols made c.loop-start.made c.target-t.new.made 0 c.loop-start.to c.target-t.result.to (c.loop-start.invariant.4 given ρ ws k r) r) (omega (arith, c.if-end-eq0.false))) }

pub loop-start-smaller : goal.loop-start-smaller
loop-start-smaller c = omega (arith, c.target-t.ensures.went.on (omega (arith, c.if-end-eq0.false)), c.in-Some.ensures.0, c.in-Some.ensures.1)

pub loop-start-preserved : goal.loop-start-preserved
loop-start-preserved c = let list = c.args.source.now.list.now in let made = c.args.made.now in let symbols = c.args.symbols.now in let start = c.args.start in
    (c.in-Some.ensures.1, omega (arith, c.loop-start.invariant.1, c.target-t.ensures.went.on (omega (arith, c.if-end-eq0.false)), c.in-Some.ensures.0), omega (arith, c.if-to-gt980.false), record { indexed = c.requires.lent.indexed; long = c.target-t.ensures.went.long; wide = c.target-t.ensures.went.wide }, λ given ρ ws k r. targets-more (entries list) ρ ws given start c.loop-start.at c.target-t.result.at symbols c.loop-start.symbols c.target-t.new.symbols made c.loop-start.made c.target-t.new.made 0 c.loop-start.to c.target-t.result.to (c.loop-start.invariant.4 given ρ ws k r) (c.target-t.ensures.by_index given ρ (ws ++ concat_map somes_t (c.loop-start.invariant.4 given ρ ws k r).are) k (targets-ready (entries list) ρ ws given start c.loop-start.at c.target-t.result.at symbols c.loop-start.symbols c.target-t.new.symbols made c.loop-start.made c.target-t.new.made 0 c.loop-start.to c.target-t.result.to (c.loop-start.invariant.4 given ρ ws k r) r) (omega (arith, c.if-end-eq0.false))) c.in-Some.next (c.in-Some.ensures.2 given (key comma) k comma-is))
