use mir.Syntax.{w32}
use mir.Facts.{to_z-of_z}
use mathlib.Core.Path.{refl, ◌∙◌}
use Rattle.model.proofs.Tests.{clash, not-no}
use Rattle.permitted.proofs.judges.Shorts.{short-marks}
use Rattle.permitted.proofs.judges.judge_short.Goals as goal

pub returns-then-not-is_short : goal.returns-then-not-is_short
returns-then-not-is_short c = record { marked = λ h. clash h; marks_unchanged = λ h. refl }

pub returns : goal.returns
returns c = record { marked = (λ h cb. short-marks c.args.q.now (c.is_short.ensures (not-no _ c.if-not-is_short.false-raw)) c.args.values.now c.args.walk _ c.args.marks.now _ _ _ _ _ _ _ _ c.whole-x.result c.byte-operator.ensures c.byte-attribute.ensures c.byte-a.ensures c.byte-b.ensures c.byte-c.ensures c.byte-d.ensures (to_z-of_z {w = w32} (record { sfits = c.constant.type_inv }) ∙ c.constant.ensures.value) c.whole-x.ensures.result_value (c.mark_against.ensures.marked h) cb); marks_unchanged = c.mark_against.ensures.marks_unchanged }
