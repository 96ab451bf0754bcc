use mathlib.Core.Path.{refl}
use Rattle.queries.proofs.Telling.{number-refused, number-32, number-none, ready}
use Rattle.model.specs.Refusals.{number_of}
use Rattle.queries.proofs.check.Goals as goal

pub returns-in_default : goal.returns-in_default
returns-in_default c = let q = c.args.q.now in let limits = c.args.limits in record { result_value = number-refused limits _ q _ c.read.result c.read.ensures.told c.in_default.is (number_of c.unread.result) _ refl c.unread.ensures; ready = tt; z_unchanged = c.read.ensures.z_unchanged }

pub returns-then-not-found : goal.returns-then-not-found
returns-then-not-found c = record { result_value = number-32 c.args.limits _ c.args.q.now _ c.read.result c.read.ensures.told _ _ c.in-Some.is c.if-not-found.true; ready = tt; z_unchanged = c.read.ensures.z_unchanged }

pub returns : goal.returns
returns c = let q = c.args.q.now in let limits = c.args.limits in record { result_value = number-none limits _ q _ c.read.result c.read.ensures.told _ _ c.in-Some.is c.if-not-found.false; ready = ready limits _ q _ c.read.result c.read.ensures.told _ _ c.in-Some.is; z_unchanged = c.read.ensures.z_unchanged }
