use mathlib.Core.Path.{sym, subst}
use Prim.Native.Nat.{ℕ, ◌+◌}
use Rattle.tokens.specs.Codes.{Spelt}
use Rattle.elaborate.proofs.items.item_at.Goals as goal

pub returns-in-Use : goal.returns-in-Use
returns-in-Use c = λ w ρ d t h. rw c.in-Use.is (c.use_at.ensures w ρ d t h)

pub returns-in-Value : goal.returns-in-Value
returns-in-Value c = let i = c.args.scope.i in λ w ρ d t h. rw c.in-Value.is (c.value_item.ensures (w i) (subst (λ (v : ℕ). Spelt (w i) v) (sym c.code.ensures) (t.spelt i)))

pub returns-in-Number : goal.returns-in-Number
returns-in-Number c = λ w ρ d t h. rw c.in-Number.is c.constant_item.ensures

pub returns-in-Aggregate : goal.returns-in-Aggregate
returns-in-Aggregate c = λ w ρ d t h. rw c.in-Aggregate.is (c.head_at.ensures w ρ d t h)

pub returns-in-Some : goal.returns-in-Some
returns-in-Some c = let i = c.args.scope.i in λ w ρ d t h. rw c.in-Some.is (c.some_item.ensures (w (i + 3)) (subst (λ (v : ℕ). Spelt (w (i + 3)) v) (sym c.code-in-Some.ensures) (t.spelt (i + 3))))
