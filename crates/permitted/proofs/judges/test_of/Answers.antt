use Prim.Native.Nat.{ℕ}
use mathlib.Core.Path.{sym, ap, ◌∙◌}
use mathlib.Core.Bool.{true, false, not}
use Rattle.numbers.specs.Numbers.{ordered}
use Rattle.permitted.specs.Marked.{turned}
use Rattle.permitted.proofs.judges.Terms.{test-is, test-1, test-2, test-3, test-4, test-5, test-6, other}
use Rattle.permitted.proofs.judges.test_of.Goals as goal

pub returns-in-1 : goal.returns-in-1
returns-in-1 c = let w = c.args.wanted in let h = test-is c.args.operator false false w w c.args.x c.test_with.result c.test_with.ensures (λ n v. test-1 w n v ∙ sym (ap (λ (o : ℕ). turned w (ordered o v n)) c.in-1.is)) in record { a_value = h.0; number_value = h.1 }

pub returns-in-2 : goal.returns-in-2
returns-in-2 c = let w = c.args.wanted in let h = test-is c.args.operator false false (not w) w c.args.x c.test_with-in-2.result c.test_with-in-2.ensures (λ n v. test-2 w n v ∙ sym (ap (λ (o : ℕ). turned w (ordered o v n)) c.in-2.is)) in record { a_value = h.0; number_value = h.1 }

pub returns-in-3 : goal.returns-in-3
returns-in-3 c = let w = c.args.wanted in let h = test-is c.args.operator false true (not w) w c.args.x c.test_with-in-3.result c.test_with-in-3.ensures (λ n v. test-3 w n v ∙ sym (ap (λ (o : ℕ). turned w (ordered o v n)) c.in-3.is)) in record { a_value = h.0; number_value = h.1 }

pub returns-in-4 : goal.returns-in-4
returns-in-4 c = let w = c.args.wanted in let h = test-is c.args.operator true false w w c.args.x c.test_with-in-4.result c.test_with-in-4.ensures (λ n v. test-4 w n v ∙ sym (ap (λ (o : ℕ). turned w (ordered o v n)) c.in-4.is)) in record { a_value = h.0; number_value = h.1 }

pub returns-in-5 : goal.returns-in-5
returns-in-5 c = let w = c.args.wanted in let h = test-is c.args.operator true false (not w) w c.args.x c.test_with-in-5.result c.test_with-in-5.ensures (λ n v. test-5 w n v ∙ sym (ap (λ (o : ℕ). turned w (ordered o v n)) c.in-5.is)) in record { a_value = h.0; number_value = h.1 }

pub returns-in_default : goal.returns-in_default
returns-in_default c = let w = c.args.wanted in let h = test-is c.args.operator false true w w c.args.x c.test_with-in_default.result c.test_with-in_default.ensures (λ n v. test-6 w n v ∙ ap (turned w) (other c.args.operator v n c.in_default.in_default-own.rest)) in record { a_value = h.0; number_value = h.1 }
