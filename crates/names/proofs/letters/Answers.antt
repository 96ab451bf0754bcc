use Rattle.std.proofs.Common.{ℕ, List, ap, arith, ◌∙◌, ◌+◌, ◌-◌}
use Rattle.tokens.specs.Spans.{capped}
use Rattle.tokens.specs.Kinds.{code_of}
use Rattle.names.proofs.Words.{name-run, name-tail}
use Rattle.names.proofs.letters.Goals as goal

pub returns-then-end-list : goal.returns-then-end-list
returns-then-end-list c = let list = c.args.list.now in let at = c.args.at in
    c.spelling.ensures.code_value ∙ ap (λ (w : List ℕ). capped (code_of w)) (name-run list at (at + 12 - at) (omega arith))

pub returns : goal.returns
returns c = c.spelling-2.ensures.code_value ∙ ap (λ (w : List ℕ). capped (code_of w)) (name-tail c.args.list.now c.args.at _ c.tail.ensures c.if-end-list.false)
