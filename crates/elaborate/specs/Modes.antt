-- The code's modes and actions by the numbers of the definitions (Actions).
use Rattle.std.specs.Prelude.{ℕ}
use Rattle.elaborate.specs.declared.modes.Mode.{Mode}
use Rattle.elaborate.specs.declared.modes.Mode.TheVariants as M
use Rattle.elaborate.specs.declared.modes.Action.{Action}
use Rattle.elaborate.specs.declared.modes.Action.TheVariants as A

abbrev pub mode_no : Mode → ℕ
mode_no M.Condition = 0
mode_no M.Conjunct = 1
mode_no M.Factor = 2
mode_no M.Rest = 3
mode_no M.InSome = 4
mode_no M.InAttribute = 5
mode_no M.InAggregate = 6

abbrev pub action_no : Action → ℕ
action_no A.Nothing = 0
action_no A.Use = 1
action_no A.Value = 2
action_no A.Number = 3
action_no A.Aggregate = 4
action_no A.Not = 5
action_no A.Some = 6
action_no A.Open = 7
action_no A.Close = 8
action_no A.Finish = 9
