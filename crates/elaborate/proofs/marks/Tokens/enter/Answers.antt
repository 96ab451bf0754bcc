use lib.ListN.{take, drop}
use Rattle.buckets.proofs.Laws.{heads-room, nexts-room}
use native.Mathlib.Omega.{arith}
use mathlib.Core.Path.{sym, ap, subst, ◌∙◌}
use Prim.Native.Nat.{ℕ}
use lib.ListN.{length}
use Prim.Native.Nat.{◌%◌}
use Rattle.elaborate.specs.Places.{table, name_in}
use Rattle.elaborate.specs.Numbers.{Met}
use Rattle.elaborate.proofs.marks.Walks.{name-other}
use Rattle.elaborate.proofs.marks.Numbers.{number-other, number-new, number-old, named_some, named-code}
use Rattle.elaborate.proofs.marks.Tokens.enter.Goals as goal

pub returns-then-self-i-ne0 : goal.returns-then-self-i-ne0
returns-then-self-i-ne0 c = let index = c.args.index.now in let kinds = c.args.self.now.kinds.now in let starts = c.args.self.now.starts.now in let text = c.args.self.now.text.now in let i = c.args.i in
    number-other (name_in text kinds starts) i (take 512 index) (drop 512 index) c.args.ids.now c.requires.3 (sym (ap length (name-other text kinds starts i c.if-self-i-ne0.true)))

pub returns-in-Some : goal.returns-in-Some
returns-in-Some c = let index = c.args.index.now in let kinds = c.args.self.now.kinds.now in let starts = c.args.self.now.starts.now in let text = c.args.self.now.text.now in let i = c.args.i in
    number-old (name_in text kinds starts) i (take 512 index) (drop 512 index) c.args.ids.now c.requires.3 (named_some text (table kinds starts c.args.self.now.numbers.now) c.args.self.now.coded i c.requires.0 (omega (arith, c.if-self-i-ne0.false))) c.requires.2 c.in-Some.id (c.in-Some.ensures c.requires.3)

pub returns : goal.returns
returns c = let ids = c.args.ids.now in let index = c.args.index.now in let kinds = c.args.self.now.kinds.now in let numbers = c.args.self.now.numbers.now in let starts = c.args.self.now.starts.now in let text = c.args.self.now.text.now in let i = c.args.i in
    number-new (name_in text kinds starts) i (take 512 index) (drop 512 index) ids c.requires.3 ((named_some text (table kinds starts numbers) c.args.self.now.coded i c.requires.0 (omega (arith, c.if-self-i-ne0.false)))) c.requires.2 (subst (Met (name_in text kinds starts) ids i c.requires.3.places) c.in_default.is (c.earlier.ensures c.requires.3)) (heads-room index (omega (arith, c.requires.1))) (nexts-room index i c.requires.1) c.bucket.result (c.bucket.ensures.value ∙ ap (λ (v : ℕ). v % 512) (named-code text (table kinds starts numbers) c.args.self.now.coded i c.requires.0 (omega (arith, c.if-self-i-ne0.false)))) c.bucket.ensures.upper_bound _ _ c.put.ensures.index_after c.put.ensures.index_after_2
