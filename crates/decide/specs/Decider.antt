-- The branches of a table, with all that decides them.
use Rattle.std.specs.Prelude.{ℕ, Bool}
use Rattle.model.specs.Meaning.{Assignment}
use Rattle.branches.specs.Branches as B
use Rattle.decide.specs.declared.Decider.{Decider}

abbrev pub branch_holds : Decider → ℕ → Assignment → Bool
branch_holds d i e = B.branch_holds d.t.now d.q.now d.z.now d.walks.now d.values.now d.memo.now i e

abbrev pub runs : Decider → ℕ → Assignment → Bool
runs d i e = B.runs d.t.now d.q.now d.z.now d.walks.now d.values.now d.memo.now i e
