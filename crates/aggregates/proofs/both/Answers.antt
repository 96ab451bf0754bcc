use Rattle.aggregates.proofs.Taking.{both-no, both_yes}
use mathlib.Core.Path.{◌∙◌}
use Rattle.aggregates.proofs.both.Goals as goal

pub returns-then-not-leads : goal.returns-then-not-leads
returns-then-not-leads c = record { value = both-no c.args.t.now c.args.q.now c.args.z.now c.args.walks.now c.args.values.now c.args.memo.now c.args.env.now c.args.next _ c.leads.ensures.value c.if-not-leads.true-raw; env_unchanged = c.leads.ensures.env_unchanged }

pub returns : goal.returns
returns c = record { value = both_yes c.args.t.now c.args.q.now c.args.z.now c.args.walks.now c.args.values.now c.args.memo.now c.args.env.now c.args.next _ _ _ _ c.leads.ensures.value c.if-not-leads.false-raw c.leads.ensures.env_unchanged c.size_at-second.ensures.value c.leads-2.ensures.value; env_unchanged = c.leads-2.ensures.env_unchanged ∙ c.leads.ensures.env_unchanged }
