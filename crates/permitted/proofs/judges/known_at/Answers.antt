use mir.Syntax.{w32}
use mir.Facts.{to_z-of_z}
use mathlib.Core.Path.{◌∙◌}
use Rattle.std.specs.Prelude.{Option, Some, None, IfSome}
use Rattle.numbers.specs.declared.Ratio.{Ratio}
use Rattle.permitted.proofs.judges.Terms.{constant-known, aggregate-known}
use Rattle.permitted.proofs.judges.known_at.Goals as goal

mapped : {P Q : Ratio → Type 0} (o : Option Ratio) → ((x : Ratio) → P x → Q x) → IfSome o P → IfSome o Q
mapped (Some x) f h = f x h
mapped None f h = h

pub returns-in-Constant : goal.returns-in-Constant
returns-in-Constant c = (constant-known c.args.memo.now c.args.q.now c.args.level _ c.if-level-eq0.false c.term_record.ensures c.whole.result _ _ _ _ _ c.in-Constant.is (to_z-of_z {w = w32} (record { sfits = c.constant.type_inv }) ∙ c.constant.ensures.value) c.whole.ensures.result_value, c.whole.ensures.small)

pub returns-in-Aggregate : goal.returns-in-Aggregate
returns-in-Aggregate c = mapped c.recalled.result (λ x h. (aggregate-known c.args.memo.now c.args.q.now c.args.level _ c.if-level-eq0.false c.term_record.ensures x _ _ _ _ c.in-Aggregate.is h.0 h.1, h.2)) c.recalled.ensures
