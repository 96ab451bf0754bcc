use lib.Dec.{eqb}
use mathlib.Core.Path.{refl}
use Rattle.model.proofs.Tests.{clash}
use Rattle.permitted.proofs.judges.Steps.{marked-same}
use Rattle.permitted.proofs.judges.Terms.{compared_is, not-zero, not-one, eq-zero}
use Rattle.permitted.proofs.judges.Judging.mark_compared.Goals as goal

pub returns-then-task-lt2 : goal.returns-then-task-lt2
returns-then-task-lt2 c = record { marked = λ h. clash h; marks_unchanged = λ h. refl }

pub returns-in_default : goal.returns-in_default
returns-in_default c = record { marked = λ h. clash h; marks_unchanged = λ h. refl }

pub returns-in_default-term_record : goal.returns-in_default-term_record
returns-in_default-term_record c = record { marked = λ h. clash h; marks_unchanged = λ h. refl }

pub returns-then-variable-ne0 : goal.returns-then-variable-ne0
returns-then-variable-ne0 c = record { marked = λ h. clash h; marks_unchanged = λ h. refl }

pub mark_against-requires : goal.mark_against-requires
mark_against-requires c = (c.requires.0, c.args.self.now.fits, c.in-Some.ensures.1, c.requires.1)

pub returns : goal.returns
returns c = let values = c.args.self.now.values.now in let memo = c.args.self.now.memo.now in let q = c.args.q.now in let z = c.args.z.now in record { marked = λ h ws. marked-same (c.mark_against.ensures.marked h) refl (λ i l. compared_is memo q c.args.task.level _ (not-zero c.args.task.level c.if-task-lt2.false) c.condition_record.ensures _ _ _ _ _ _ _ _ _ c.in-Some.x z c.in-Compare.is c.byte.ensures c.record_length-a.ensures.value c.size_at.ensures.value c.tail.ensures c.tail-2.ensures (not-one c.args.task.level c.if-task-lt2.false) c.term_record.ensures c.in-Attribute.is (eq-zero _ c.if-variable-ne0.false) c.in-Some.ensures.0 ws values c.args.self.now.walk (eqb c.args.task.end 0) i); marks_unchanged = c.mark_against.ensures.marks_unchanged }
