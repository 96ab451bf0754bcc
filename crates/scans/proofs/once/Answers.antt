use mathlib.Core.Path.{sym, ◌∙◌}
use Rattle.model.specs.Syntax.{variables}
use Rattle.scans.specs.Flat.{flat_bindings}
use Rattle.scans.proofs.Lists.{fresh_start, few-once}
use Rattle.scans.proofs.once.Goals as goal

pub returns-then-few : goal.returns-then-few
returns-then-few c = let start = c in let f = c.few.ensures c.if-few.true in
    few-once start.args.zero (flat_bindings start.args.q.now) ((λ z. sym start.requires ∙ f.0 z), (λ z. rw start.requires at (f.1 z)))

pub returns : goal.returns
returns c = let start = c in
    c.all_fresh.ensures ∙ fresh_start start.args.zero (variables (flat_bindings start.args.q.now))
