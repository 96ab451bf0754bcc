use Rattle.std.proofs.Common.{ℕ, ◌≡◌, ◌+◌, ◌-◌, take, drop, ap, ◌∙◌, arith}
use Rattle.quel.specs.Tokens.{is_letter, run}
use Rattle.tokens.specs.Spans.{capped}
use Rattle.tokens.specs.Kinds.{code_of, nonzero, is_name}
use Rattle.names.proofs.Words as words
use Rattle.names.proofs.good_code.Goals.{After-spelling-s}
use Rattle.names.proofs.good_code.Goals as goal

-- the part is twelve bytes long
twelve : (c : After-spelling-s) → take (c.args.at + 12 - c.args.at) (drop c.args.at c.args.list.now) ≡ take 12 (drop c.args.at c.args.list.now)
twelve c =
    let m : c.args.at + 12 - c.args.at ≡ 12 = omega arith in
    ap (λ (n : ℕ). take n (drop c.args.at c.args.list.now)) m

pub returns-then-list-end : goal.returns-then-list-end
returns-then-list-end c = ap nonzero (words.code-not c.args.list.now c.args.at (words.padded-cut c.args.list.now c.args.at c.if-list-end.true))

pub returns-then-s : goal.returns-then-s
returns-then-s c =
    let e = twelve (goal.at.returns-then-s c).After-spelling-s in
    words.named-some c.args.list.now c.args.at c.if-list-end.false c.spelling-s.result.name (c.spelling-s.ensures.name_value ∙ ap is_name e) c.spelling-s.result.code (c.spelling-s.ensures.code_value ∙ ap (λ x. capped (code_of (run is_letter x))) e) c.if-s.true

pub returns-else-s : goal.returns-else-s
returns-else-s c =
    let e = twelve (goal.at.returns-else-s c).After-spelling-s in
    ap nonzero (words.code-unnamed c.args.list.now c.args.at c.if-list-end.false c.spelling-s.result.name (c.spelling-s.ensures.name_value ∙ ap is_name e) c.if-s.false)
