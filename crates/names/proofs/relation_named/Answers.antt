use Rattle.std.proofs.Common.{◌∙◌}
use Rattle.names.proofs.Finds as finds
use Rattle.names.proofs.relation_named.Goals as goal

pub returns : goal.returns
returns c = λ w s. finds.relation-some c.args.list.now w 0 c.in_ok-at.at c.byte.result (c.in_ok-at.ensures.value w s) c.in_ok-at.ensures.inside c.byte.ensures

pub returns-in_err-at : goal.returns-in_err-at
returns-in_err-at c = λ w s. c.from_residual.ensures ∙ finds.relation-none c.args.list.now w 0 0 (c.in_err-at.ensures.value w s)
