use Rattle.std.proofs.Common.{ℕ, sym, ap, ◌∙◌}
use Rattle.walks.specs.Assigned.{assigned}
use Rattle.branches.specs.Branches.{runs}
use Rattle.branches.proofs.Running.{runs-0}
use Rattle.decide.proofs.leads.Goals as goal

pub returns-then-start-eq0-clause-value : goal.returns-then-start-eq0-clause-value
returns-then-start-eq0-clause-value c = let t = c.args.t.now in let q = c.args.q.now in let z = c.args.z.now in let walks = c.args.walks.now in let values = c.args.values.now in let memo = c.args.memo.now in
    let e = assigned values c.args.env.now in
    sym (ap (λ (i : ℕ). runs t q z walks values memo i e) c.if-start-eq0.true ∙ runs-0 t q z walks values memo e)
