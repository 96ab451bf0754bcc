use Prim.Native.Nat.{ℕ}
use lib.ListN.{drop}
use Rattle.elaborate.proofs.marks.Walks.{name-past, name-other, name-there}
use mathlib.Core.Path.{◌∙◌, ap}
use Rattle.elaborate.proofs.marks.Tokens.word.Goals as goal

pub returns-then-self-i : goal.returns-then-self-i
returns-then-self-i c = name-past c.args.self.now.text.now c.args.self.now.kinds.now c.args.self.now.starts.now c.args.i c.if-self-i.true

pub returns-then-self-i-ne0 : goal.returns-then-self-i-ne0
returns-then-self-i-ne0 c = name-other c.args.self.now.text.now c.args.self.now.kinds.now c.args.self.now.starts.now c.args.i c.if-self-i-ne0.true

pub returns : goal.returns
returns c = let text = c.args.self.now.text.now in
    name-there text c.args.self.now.kinds.now c.args.self.now.starts.now c.args.i c.if-self-i.false c.if-self-i-ne0.false c.tail.result.now _ (c.tail.ensures ∙ ap (λ (n : ℕ). drop n text) c.size_at.ensures.value) c.letters.ensures
