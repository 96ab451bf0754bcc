use native.Mathlib.Omega.{arith}
use mathlib.Core.Path.{◌∙◌}
use mathlib.Core.List.{◌++◌}
use lib.ListN.{length-set}
use Rattle.model.specs.Lists.{concat_map}
use Rattle.quel.specs.Results.{each}
use Rattle.quel.specs.Tokens.{key, colon}
use Rattle.quel.specs.Elaboration.{somes_t}
use Rattle.names.specs.Entries.{entries}
use Rattle.parts.proofs.Targets.{rest_plain, rest-ready, rest-qualified}
use Rattle.quick.proofs.heads.Keys.{colon-is}
use Rattle.quick.proofs.rest.Goals as goal

pub targets-t-requires : goal.targets-t-requires
targets-t-requires c = record { lent = c.requires.lent; start_bound = c.requires.start_bound }

pub returns-then-end-eq0 : goal.returns-then-end-eq0
returns-then-end-eq0 c = record { went = record { inside = omega arith; on = λ h. absurd (omega (arith, h)); more = λ h. absurd (omega (arith, h)); long = c.targets-t.ensures.went.long; wide = c.targets-t.ensures.went.wide }; to_bound = (λ h. absurd (omega (arith, h))); by_index = λ given ρ ws k r h. absurd (omega (arith, h)) }

pub past-requires : goal.past-requires
past-requires c = (c.targets-t.ensures.went.inside, omega arith)

pub bounds-made-to : goal.bounds-made-to
bounds-made-to c = omega (arith, c.targets-t.ensures.to_bound (omega (arith, c.if-end-eq0.false)))

pub overflow_add-result : goal.overflow_add-result
overflow_add-result c = record { fits = omega (arith, c.targets-t.ensures.to_bound (omega (arith, c.if-end-eq0.false))) }

pub returns-in_default : goal.returns-in_default
returns-in_default c = record { went = record { inside = c.targets-t.ensures.went.inside; on = c.targets-t.ensures.went.on; more = λ _. omega arith; long = c.targets-t.ensures.went.long; wide = length-set c.targets-t.new.made c.targets-t.result.to 16 ∙ c.targets-t.ensures.went.wide }; to_bound = (λ _. omega (arith, c.targets-t.ensures.to_bound (omega (arith, c.if-end-eq0.false)))); by_index = λ given ρ ws k r h. rest_plain (entries c.args.source.now.list.now) ρ ws given c.args.start c.targets-t.result.at c.args.symbols.now c.targets-t.new.symbols c.args.made.now c.targets-t.new.made 0 c.targets-t.result.to (c.targets-t.ensures.by_index given ρ ws k r (omega (arith, c.if-end-eq0.false))) (omega (arith, c.targets-t.ensures.to_bound (omega (arith, c.if-end-eq0.false)), c.targets-t.ensures.went.wide)) }

pub condition-requires : goal.condition-requires
condition-requires c = record { lent = record { indexed = c.requires.lent.indexed; long = c.targets-t.ensures.went.long; wide = c.targets-t.ensures.went.wide }; at_bound = c.in-Some.ensures.1 }

pub returns : goal.returns
returns c = let list = c.args.source.now.list.now in let made = c.args.made.now in let symbols = c.args.symbols.now in let start = c.args.start in record { went = record { inside = c.condition.ensures.went.inside; on = λ h. omega (arith, c.targets-t.ensures.went.on (omega (arith, c.if-end-eq0.false)), c.in-Some.ensures.0, c.condition.ensures.went.on h); more = λ _. omega arith; long = c.condition.ensures.went.long; wide = c.condition.ensures.went.wide }; to_bound = (λ h. omega (arith, c.condition.ensures.to_bound h)); by_index = λ given ρ ws k r h. rest-qualified (entries list) ρ ws given start c.targets-t.result.at symbols c.targets-t.new.symbols made c.targets-t.new.made 0 c.targets-t.result.to (c.targets-t.ensures.by_index given ρ ws k r (omega (arith, c.if-end-eq0.false))) c.in-Some.at c.condition.result.at c.condition.new.symbols c.condition.new.made c.condition.result.to (c.in-Some.ensures.2 given (key colon) k colon-is) (c.condition.ensures.formed.reads given ρ (ws ++ concat_map somes_t (each (c.targets-t.ensures.by_index given ρ ws k r (omega (arith, c.if-end-eq0.false))).are)) k (rest-ready (entries list) ρ ws given start c.targets-t.result.at symbols c.targets-t.new.symbols made c.targets-t.new.made 0 c.targets-t.result.to (c.targets-t.ensures.by_index given ρ ws k r (omega (arith, c.if-end-eq0.false))) r) h) }
