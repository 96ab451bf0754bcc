-- No refusal has the number 0, which says that there is none.
use Prim.Native.Nat.{◌≤◌}
use native.Mathlib.Omega.{arith}
use Rattle.model.specs.declared.refusal.Refusal.{Refusal}
use Rattle.model.specs.declared.refusal.Refusal.TheVariants as R
use Rattle.model.specs.Refusals.{number_of}

pub number-positive : (e : Refusal) → 1 ≤ number_of e
number-positive R.Catalogue = omega arith
number-positive R.Values = omega arith
number-positive R.PermitSyntax = omega arith
number-positive R.PermitLimits = omega arith
number-positive R.PermitScope = omega arith
number-positive R.PermitWorkspace = omega arith
number-positive R.QuerySyntax = omega arith
number-positive R.QueryLimits = omega arith
number-positive R.QueryScope = omega arith
number-positive R.NoPermit = omega arith
number-positive R.RewrittenRoom = omega arith
number-positive R.AnswerRoom = omega arith
number-positive R.Grammar = omega arith
number-positive R.Name = omega arith
number-positive R.RecordRoom = omega arith
