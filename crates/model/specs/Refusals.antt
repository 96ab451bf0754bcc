-- The numbers that the papers give to refusals, one for each reason.
use Rattle.std.specs.Prelude.{ℕ, Result, Ok, Err}
use Rattle.model.specs.declared.refusal.Refusal.{Refusal}
use Rattle.model.specs.declared.refusal.Refusal.TheVariants.{Catalogue, Values, PermitSyntax, PermitLimits, PermitScope, PermitWorkspace, QuerySyntax, QueryLimits, QueryScope, NoPermit, RewrittenRoom, AnswerRoom, Grammar, Name, RecordRoom}

-- the number of a reason
abbrev pub number_of : Refusal → ℕ
number_of Catalogue = 10
number_of Values = 11
number_of PermitSyntax = 20
number_of PermitLimits = 21
number_of PermitScope = 22
number_of PermitWorkspace = 23
number_of QuerySyntax = 30
number_of QueryLimits = 31
number_of QueryScope = 32
number_of NoPermit = 33
number_of RewrittenRoom = 40
number_of AnswerRoom = 41
number_of Grammar = 50
number_of Name = 51
number_of RecordRoom = 52

-- the number of an outcome, 0 where nothing was refused
abbrev pub code_of : {A : Type 0} → Result A Refusal → ℕ
code_of (Ok _) = 0
code_of (Err r) = number_of r
