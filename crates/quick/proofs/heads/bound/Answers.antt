use native.Mathlib.Omega.{arith}
use mathlib.Core.Path.{subst, ◌∙◌}
use Prim.Native.Nat.{ℕ}
use Rattle.quel.specs.Tokens.{key, right, comma}
use Rattle.parts.specs.Table.{Slotted}
use Rattle.parts.proofs.Heads.{bound-none, bound-more, bound-end}
use Rattle.quick.proofs.symbols.Writes.{none-found}
use Rattle.quick.proofs.heads.Keys.{right_is, comma-is}
use Rattle.quick.proofs.heads.bound.Goals as goal

pub loop-n-init : goal.loop-n-init
loop-n-init c = (c.requires.0, omega arith, c.requires.1, λ given es ss k d e. bound-none es given c.args.relation ss c.args.s.at c.args.symbols.now c.args.s.to d e)

pub returns-in_default : goal.returns-in_default
returns-in_default c = record { at_bound = (omega arith, (λ h. absurd (omega (arith, h))), c.loop-n.invariant.2, omega arith); by_index = λ given es ss k d e h. absurd (omega (arith, h)) }

pub returns-then-is_some : goal.returns-then-is_some
returns-then-is_some c = record { at_bound = (omega arith, (λ h. absurd (omega (arith, h))), c.loop-n.invariant.2, omega arith); by_index = λ given es ss k d e h. absurd (omega (arith, h)) }

pub bind-requires : goal.bind-requires
bind-requires c = (c.loop-n.invariant.2, c.loop-n-test.true)

pub returns-in_default-past : goal.returns-in_default-past
returns-in_default-past c = record { at_bound = (c.in-Some-past-2.ensures.1, (λ h. omega (arith, c.loop-n.invariant.1, c.in-Some.ensures.0, c.in-Some-past-2.ensures.0)), c.bind.ensures.slotted.long ∙ c.loop-n.invariant.2, omega (arith, c.loop-n-test.true)); by_index = λ given es ss k d e h. bound-end es given c.args.relation ss c.args.s.at c.loop-n.at c.in-Some.x.end c.in-Some.x.value 30 c.loop-n.symbols c.bind.new.symbols c.loop-n.n (c.loop-n.invariant.3 given es ss k d e) (c.in-Some.ensures.2 given k) (none-found c.loop-n.symbols c.in-Some.x.value c.find.result c.is_some.result c.is_some.ensures c.if-is_some.false c.find.ensures) (omega arith) c.loop-n-test.true c.ranges.relation.fits (subst (λ (q : ℕ). Slotted c.loop-n.symbols c.bind.new.symbols c.loop-n.n c.in-Some.x.value q c.loop-n.n 0) c.from.ensures c.bind.ensures.slotted) (c.bind.ensures.by_index 155 (omega arith)) c.in-Some-past-2.at (c.in-Some-past-2.ensures.2 given (key right) k right_is) }

pub loop-n-preserved : goal.loop-n-preserved
loop-n-preserved c = (c.in-Some-past.ensures.1, omega (arith, c.loop-n.invariant.1, c.in-Some.ensures.0, c.in-Some-past.ensures.0), c.bind.ensures.slotted.long ∙ c.loop-n.invariant.2, λ given es ss k d e. bound-more es given c.args.relation ss c.args.s.at c.loop-n.at c.in-Some.x.end c.in-Some.x.value 30 c.loop-n.symbols c.bind.new.symbols c.loop-n.n (c.loop-n.invariant.3 given es ss k d e) (c.in-Some.ensures.2 given k) (none-found c.loop-n.symbols c.in-Some.x.value c.find.result c.is_some.result c.is_some.ensures c.if-is_some.false c.find.ensures) (omega arith) c.loop-n-test.true c.ranges.relation.fits (subst (λ (q : ℕ). Slotted c.loop-n.symbols c.bind.new.symbols c.loop-n.n c.in-Some.x.value q c.loop-n.n 0) c.from.ensures c.bind.ensures.slotted) (c.bind.ensures.by_index 155 (omega arith)) c.in-Some-past.next (c.in-Some-past.ensures.2 given (key comma) k comma-is))

pub returns : goal.returns
returns c = record { at_bound = (omega arith, (λ h. absurd (omega (arith, h))), c.loop-n.invariant.2, omega arith); by_index = λ given es ss k d e h. absurd (omega (arith, h)) }
