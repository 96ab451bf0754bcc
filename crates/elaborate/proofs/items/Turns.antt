-- The numbers of modes and kinds say what quel's loop does.
use Prim.Native.Nat.{ℕ, zero, suc, ◌-◌, ◌≤◌}
use mathlib.Core.Bool.{Bool, true, false, cond, ◌&&◌}
use mathlib.Core.List.{List, ◌∷◌}
use mathlib.Core.Path.{◌≡◌, refl, ap, ◌∙◌}
use native.Mathlib.Omega.{arith}
use lib.Dec.{eqb, leb}
use lib.ListN.{get_or-eq_default}
use borrow.Author.Tests.{ne_eqb, lt-leb, le-leb}
use Rattle.quel.specs.Results.{Word, fail, ok}
use Rattle.quel.specs.Tokens.{Token, key, point}
use Rattle.quel.specs.Reader.{starts}
use Rattle.quel.specs.Names.{Entry}
use Rattle.quel.specs.Elaboration.{operator_of}
use Rattle.quel.specs.Ahead.{Mode, at-condition, at-conjunct, at-factor, at_rest, in_some, in-attribute, in-aggregate, next, word_at, ors_at, ands_at, operator_at}
use Rattle.quel.specs.Writing.{Written, before, often, Reaches, inner, name_of, bytes_rest, bytes_factor, bytes_aggregate, bytes}
use Rattle.tokens.specs.Table.{fixed, token_of}
use Rattle.elaborate.specs.Actions.{mode_number, action_of, rest_of, next_of, perform}

pub past-token : (k : ℕ) (w : Word) (n : ℕ) → 26 ≤ k → token_of k w n ≡ key point
unfolding token_of
past-token k w n h = rw (ne_eqb k 0 (λ e. omega arith), ne_eqb k 1 (λ e. omega arith), get_or-eq_default fixed (key point) {n = k - 2} (omega arith))

by-point : (b : Bool) → mode_number (cond b in-attribute at_rest) ≡ cond b 5 3
by-point true = refl
by-point false = refl

next-at-condition-past : (k : ℕ) (w : Word) (n : ℕ) (s : List Token) → 26 ≤ k → mode_number (next at-condition (token_of k w n) s) ≡ next_of (mode_number at-condition) k (starts point s)
unfolding token_of next_of rest_of
next-at-condition-past k w n s h = rw (past-token k w n h, lt-leb k 6 (omega arith), ne_eqb k 15 (λ e. omega arith), ne_eqb k 16 (λ e. omega arith), ne_eqb k 20 (λ e. omega arith))

next-at-condition : (k : ℕ) (w : Word) (n : ℕ) (s : List Token) → mode_number (next at-condition (token_of k w n) s) ≡ next_of (mode_number at-condition) k (starts point s)
unfolding token_of next_of rest_of
next-at-condition zero w n s = by-point (starts point s)
next-at-condition (suc zero) w n s = refl
next-at-condition (suc (suc zero)) w n s = refl
next-at-condition (suc (suc (suc zero))) w n s = refl
next-at-condition (suc (suc (suc (suc zero)))) w n s = refl
next-at-condition (suc (suc (suc (suc (suc zero))))) w n s = refl
next-at-condition (suc (suc (suc (suc (suc (suc zero)))))) w n s = refl
next-at-condition (suc (suc (suc (suc (suc (suc (suc zero))))))) w n s = refl
next-at-condition (suc (suc (suc (suc (suc (suc (suc (suc zero)))))))) w n s = refl
next-at-condition (suc (suc (suc (suc (suc (suc (suc (suc (suc zero))))))))) w n s = refl
next-at-condition (suc (suc (suc (suc (suc (suc (suc (suc (suc (suc zero)))))))))) w n s = refl
next-at-condition (suc (suc (suc (suc (suc (suc (suc (suc (suc (suc (suc zero))))))))))) w n s = refl
next-at-condition (suc (suc (suc (suc (suc (suc (suc (suc (suc (suc (suc (suc zero)))))))))))) w n s = refl
next-at-condition (suc (suc (suc (suc (suc (suc (suc (suc (suc (suc (suc (suc (suc zero))))))))))))) w n s = refl
next-at-condition (suc (suc (suc (suc (suc (suc (suc (suc (suc (suc (suc (suc (suc (suc zero)))))))))))))) w n s = refl
next-at-condition (suc (suc (suc (suc (suc (suc (suc (suc (suc (suc (suc (suc (suc (suc (suc zero))))))))))))))) w n s = refl
next-at-condition (suc (suc (suc (suc (suc (suc (suc (suc (suc (suc (suc (suc (suc (suc (suc (suc zero)))))))))))))))) w n s = refl
next-at-condition (suc (suc (suc (suc (suc (suc (suc (suc (suc (suc (suc (suc (suc (suc (suc (suc (suc zero))))))))))))))))) w n s = refl
next-at-condition (suc (suc (suc (suc (suc (suc (suc (suc (suc (suc (suc (suc (suc (suc (suc (suc (suc (suc zero)))))))))))))))))) w n s = refl
next-at-condition (suc (suc (suc (suc (suc (suc (suc (suc (suc (suc (suc (suc (suc (suc (suc (suc (suc (suc (suc zero))))))))))))))))))) w n s = refl
next-at-condition (suc (suc (suc (suc (suc (suc (suc (suc (suc (suc (suc (suc (suc (suc (suc (suc (suc (suc (suc (suc zero)))))))))))))))))))) w n s = refl
next-at-condition (suc (suc (suc (suc (suc (suc (suc (suc (suc (suc (suc (suc (suc (suc (suc (suc (suc (suc (suc (suc (suc zero))))))))))))))))))))) w n s = refl
next-at-condition (suc (suc (suc (suc (suc (suc (suc (suc (suc (suc (suc (suc (suc (suc (suc (suc (suc (suc (suc (suc (suc (suc zero)))))))))))))))))))))) w n s = refl
next-at-condition (suc (suc (suc (suc (suc (suc (suc (suc (suc (suc (suc (suc (suc (suc (suc (suc (suc (suc (suc (suc (suc (suc (suc zero))))))))))))))))))))))) w n s = refl
next-at-condition (suc (suc (suc (suc (suc (suc (suc (suc (suc (suc (suc (suc (suc (suc (suc (suc (suc (suc (suc (suc (suc (suc (suc (suc zero)))))))))))))))))))))))) w n s = refl
next-at-condition (suc (suc (suc (suc (suc (suc (suc (suc (suc (suc (suc (suc (suc (suc (suc (suc (suc (suc (suc (suc (suc (suc (suc (suc (suc zero))))))))))))))))))))))))) w n s = refl
next-at-condition (suc (suc (suc (suc (suc (suc (suc (suc (suc (suc (suc (suc (suc (suc (suc (suc (suc (suc (suc (suc (suc (suc (suc (suc (suc (suc k)))))))))))))))))))))))))) w n s = next-at-condition-past (suc (suc (suc (suc (suc (suc (suc (suc (suc (suc (suc (suc (suc (suc (suc (suc (suc (suc (suc (suc (suc (suc (suc (suc (suc (suc k)))))))))))))))))))))))))) w n s (omega arith)

next-at-conjunct-past : (k : ℕ) (w : Word) (n : ℕ) (s : List Token) → 26 ≤ k → mode_number (next at-conjunct (token_of k w n) s) ≡ next_of (mode_number at-conjunct) k (starts point s)
unfolding token_of next_of rest_of
next-at-conjunct-past k w n s h = rw (past-token k w n h, lt-leb k 6 (omega arith), ne_eqb k 15 (λ e. omega arith), ne_eqb k 16 (λ e. omega arith), ne_eqb k 20 (λ e. omega arith))

next-at-conjunct : (k : ℕ) (w : Word) (n : ℕ) (s : List Token) → mode_number (next at-conjunct (token_of k w n) s) ≡ next_of (mode_number at-conjunct) k (starts point s)
unfolding token_of next_of rest_of
next-at-conjunct zero w n s = by-point (starts point s)
next-at-conjunct (suc zero) w n s = refl
next-at-conjunct (suc (suc zero)) w n s = refl
next-at-conjunct (suc (suc (suc zero))) w n s = refl
next-at-conjunct (suc (suc (suc (suc zero)))) w n s = refl
next-at-conjunct (suc (suc (suc (suc (suc zero))))) w n s = refl
next-at-conjunct (suc (suc (suc (suc (suc (suc zero)))))) w n s = refl
next-at-conjunct (suc (suc (suc (suc (suc (suc (suc zero))))))) w n s = refl
next-at-conjunct (suc (suc (suc (suc (suc (suc (suc (suc zero)))))))) w n s = refl
next-at-conjunct (suc (suc (suc (suc (suc (suc (suc (suc (suc zero))))))))) w n s = refl
next-at-conjunct (suc (suc (suc (suc (suc (suc (suc (suc (suc (suc zero)))))))))) w n s = refl
next-at-conjunct (suc (suc (suc (suc (suc (suc (suc (suc (suc (suc (suc zero))))))))))) w n s = refl
next-at-conjunct (suc (suc (suc (suc (suc (suc (suc (suc (suc (suc (suc (suc zero)))))))))))) w n s = refl
next-at-conjunct (suc (suc (suc (suc (suc (suc (suc (suc (suc (suc (suc (suc (suc zero))))))))))))) w n s = refl
next-at-conjunct (suc (suc (suc (suc (suc (suc (suc (suc (suc (suc (suc (suc (suc (suc zero)))))))))))))) w n s = refl
next-at-conjunct (suc (suc (suc (suc (suc (suc (suc (suc (suc (suc (suc (suc (suc (suc (suc zero))))))))))))))) w n s = refl
next-at-conjunct (suc (suc (suc (suc (suc (suc (suc (suc (suc (suc (suc (suc (suc (suc (suc (suc zero)))))))))))))))) w n s = refl
next-at-conjunct (suc (suc (suc (suc (suc (suc (suc (suc (suc (suc (suc (suc (suc (suc (suc (suc (suc zero))))))))))))))))) w n s = refl
next-at-conjunct (suc (suc (suc (suc (suc (suc (suc (suc (suc (suc (suc (suc (suc (suc (suc (suc (suc (suc zero)))))))))))))))))) w n s = refl
next-at-conjunct (suc (suc (suc (suc (suc (suc (suc (suc (suc (suc (suc (suc (suc (suc (suc (suc (suc (suc (suc zero))))))))))))))))))) w n s = refl
next-at-conjunct (suc (suc (suc (suc (suc (suc (suc (suc (suc (suc (suc (suc (suc (suc (suc (suc (suc (suc (suc (suc zero)))))))))))))))))))) w n s = refl
next-at-conjunct (suc (suc (suc (suc (suc (suc (suc (suc (suc (suc (suc (suc (suc (suc (suc (suc (suc (suc (suc (suc (suc zero))))))))))))))))))))) w n s = refl
next-at-conjunct (suc (suc (suc (suc (suc (suc (suc (suc (suc (suc (suc (suc (suc (suc (suc (suc (suc (suc (suc (suc (suc (suc zero)))))))))))))))))))))) w n s = refl
next-at-conjunct (suc (suc (suc (suc (suc (suc (suc (suc (suc (suc (suc (suc (suc (suc (suc (suc (suc (suc (suc (suc (suc (suc (suc zero))))))))))))))))))))))) w n s = refl
next-at-conjunct (suc (suc (suc (suc (suc (suc (suc (suc (suc (suc (suc (suc (suc (suc (suc (suc (suc (suc (suc (suc (suc (suc (suc (suc zero)))))))))))))))))))))))) w n s = refl
next-at-conjunct (suc (suc (suc (suc (suc (suc (suc (suc (suc (suc (suc (suc (suc (suc (suc (suc (suc (suc (suc (suc (suc (suc (suc (suc (suc zero))))))))))))))))))))))))) w n s = refl
next-at-conjunct (suc (suc (suc (suc (suc (suc (suc (suc (suc (suc (suc (suc (suc (suc (suc (suc (suc (suc (suc (suc (suc (suc (suc (suc (suc (suc k)))))))))))))))))))))))))) w n s = next-at-conjunct-past (suc (suc (suc (suc (suc (suc (suc (suc (suc (suc (suc (suc (suc (suc (suc (suc (suc (suc (suc (suc (suc (suc (suc (suc (suc (suc k)))))))))))))))))))))))))) w n s (omega arith)

next-at-factor-past : (k : ℕ) (w : Word) (n : ℕ) (s : List Token) → 26 ≤ k → mode_number (next at-factor (token_of k w n) s) ≡ next_of (mode_number at-factor) k (starts point s)
unfolding token_of next_of rest_of
next-at-factor-past k w n s h = rw (past-token k w n h, lt-leb k 6 (omega arith), ne_eqb k 15 (λ e. omega arith), ne_eqb k 16 (λ e. omega arith), ne_eqb k 20 (λ e. omega arith))

next-at-factor : (k : ℕ) (w : Word) (n : ℕ) (s : List Token) → mode_number (next at-factor (token_of k w n) s) ≡ next_of (mode_number at-factor) k (starts point s)
unfolding token_of next_of rest_of
next-at-factor zero w n s = by-point (starts point s)
next-at-factor (suc zero) w n s = refl
next-at-factor (suc (suc zero)) w n s = refl
next-at-factor (suc (suc (suc zero))) w n s = refl
next-at-factor (suc (suc (suc (suc zero)))) w n s = refl
next-at-factor (suc (suc (suc (suc (suc zero))))) w n s = refl
next-at-factor (suc (suc (suc (suc (suc (suc zero)))))) w n s = refl
next-at-factor (suc (suc (suc (suc (suc (suc (suc zero))))))) w n s = refl
next-at-factor (suc (suc (suc (suc (suc (suc (suc (suc zero)))))))) w n s = refl
next-at-factor (suc (suc (suc (suc (suc (suc (suc (suc (suc zero))))))))) w n s = refl
next-at-factor (suc (suc (suc (suc (suc (suc (suc (suc (suc (suc zero)))))))))) w n s = refl
next-at-factor (suc (suc (suc (suc (suc (suc (suc (suc (suc (suc (suc zero))))))))))) w n s = refl
next-at-factor (suc (suc (suc (suc (suc (suc (suc (suc (suc (suc (suc (suc zero)))))))))))) w n s = refl
next-at-factor (suc (suc (suc (suc (suc (suc (suc (suc (suc (suc (suc (suc (suc zero))))))))))))) w n s = refl
next-at-factor (suc (suc (suc (suc (suc (suc (suc (suc (suc (suc (suc (suc (suc (suc zero)))))))))))))) w n s = refl
next-at-factor (suc (suc (suc (suc (suc (suc (suc (suc (suc (suc (suc (suc (suc (suc (suc zero))))))))))))))) w n s = refl
next-at-factor (suc (suc (suc (suc (suc (suc (suc (suc (suc (suc (suc (suc (suc (suc (suc (suc zero)))))))))))))))) w n s = refl
next-at-factor (suc (suc (suc (suc (suc (suc (suc (suc (suc (suc (suc (suc (suc (suc (suc (suc (suc zero))))))))))))))))) w n s = refl
next-at-factor (suc (suc (suc (suc (suc (suc (suc (suc (suc (suc (suc (suc (suc (suc (suc (suc (suc (suc zero)))))))))))))))))) w n s = refl
next-at-factor (suc (suc (suc (suc (suc (suc (suc (suc (suc (suc (suc (suc (suc (suc (suc (suc (suc (suc (suc zero))))))))))))))))))) w n s = refl
next-at-factor (suc (suc (suc (suc (suc (suc (suc (suc (suc (suc (suc (suc (suc (suc (suc (suc (suc (suc (suc (suc zero)))))))))))))))))))) w n s = refl
next-at-factor (suc (suc (suc (suc (suc (suc (suc (suc (suc (suc (suc (suc (suc (suc (suc (suc (suc (suc (suc (suc (suc zero))))))))))))))))))))) w n s = refl
next-at-factor (suc (suc (suc (suc (suc (suc (suc (suc (suc (suc (suc (suc (suc (suc (suc (suc (suc (suc (suc (suc (suc (suc zero)))))))))))))))))))))) w n s = refl
next-at-factor (suc (suc (suc (suc (suc (suc (suc (suc (suc (suc (suc (suc (suc (suc (suc (suc (suc (suc (suc (suc (suc (suc (suc zero))))))))))))))))))))))) w n s = refl
next-at-factor (suc (suc (suc (suc (suc (suc (suc (suc (suc (suc (suc (suc (suc (suc (suc (suc (suc (suc (suc (suc (suc (suc (suc (suc zero)))))))))))))))))))))))) w n s = refl
next-at-factor (suc (suc (suc (suc (suc (suc (suc (suc (suc (suc (suc (suc (suc (suc (suc (suc (suc (suc (suc (suc (suc (suc (suc (suc (suc zero))))))))))))))))))))))))) w n s = refl
next-at-factor (suc (suc (suc (suc (suc (suc (suc (suc (suc (suc (suc (suc (suc (suc (suc (suc (suc (suc (suc (suc (suc (suc (suc (suc (suc (suc k)))))))))))))))))))))))))) w n s = next-at-factor-past (suc (suc (suc (suc (suc (suc (suc (suc (suc (suc (suc (suc (suc (suc (suc (suc (suc (suc (suc (suc (suc (suc (suc (suc (suc (suc k)))))))))))))))))))))))))) w n s (omega arith)

next-at-rest-past : (k : ℕ) (w : Word) (n : ℕ) (s : List Token) → 26 ≤ k → mode_number (next at_rest (token_of k w n) s) ≡ next_of (mode_number at_rest) k (starts point s)
unfolding token_of next_of rest_of
next-at-rest-past k w n s h = rw (past-token k w n h, ne_eqb k 0 (λ e. omega arith), lt-leb k 6 (omega arith), le-leb 2 k (omega arith), ne_eqb k 18 (λ e. omega arith), ne_eqb k 19 (λ e. omega arith), ne_eqb k 23 (λ e. omega arith))

next-at-rest : (k : ℕ) (w : Word) (n : ℕ) (s : List Token) → mode_number (next at_rest (token_of k w n) s) ≡ next_of (mode_number at_rest) k (starts point s)
unfolding token_of next_of rest_of
next-at-rest zero w n s = by-point (starts point s)
next-at-rest (suc zero) w n s = refl
next-at-rest (suc (suc zero)) w n s = refl
next-at-rest (suc (suc (suc zero))) w n s = refl
next-at-rest (suc (suc (suc (suc zero)))) w n s = refl
next-at-rest (suc (suc (suc (suc (suc zero))))) w n s = refl
next-at-rest (suc (suc (suc (suc (suc (suc zero)))))) w n s = refl
next-at-rest (suc (suc (suc (suc (suc (suc (suc zero))))))) w n s = refl
next-at-rest (suc (suc (suc (suc (suc (suc (suc (suc zero)))))))) w n s = refl
next-at-rest (suc (suc (suc (suc (suc (suc (suc (suc (suc zero))))))))) w n s = refl
next-at-rest (suc (suc (suc (suc (suc (suc (suc (suc (suc (suc zero)))))))))) w n s = refl
next-at-rest (suc (suc (suc (suc (suc (suc (suc (suc (suc (suc (suc zero))))))))))) w n s = refl
next-at-rest (suc (suc (suc (suc (suc (suc (suc (suc (suc (suc (suc (suc zero)))))))))))) w n s = refl
next-at-rest (suc (suc (suc (suc (suc (suc (suc (suc (suc (suc (suc (suc (suc zero))))))))))))) w n s = refl
next-at-rest (suc (suc (suc (suc (suc (suc (suc (suc (suc (suc (suc (suc (suc (suc zero)))))))))))))) w n s = refl
next-at-rest (suc (suc (suc (suc (suc (suc (suc (suc (suc (suc (suc (suc (suc (suc (suc zero))))))))))))))) w n s = refl
next-at-rest (suc (suc (suc (suc (suc (suc (suc (suc (suc (suc (suc (suc (suc (suc (suc (suc zero)))))))))))))))) w n s = refl
next-at-rest (suc (suc (suc (suc (suc (suc (suc (suc (suc (suc (suc (suc (suc (suc (suc (suc (suc zero))))))))))))))))) w n s = refl
next-at-rest (suc (suc (suc (suc (suc (suc (suc (suc (suc (suc (suc (suc (suc (suc (suc (suc (suc (suc zero)))))))))))))))))) w n s = refl
next-at-rest (suc (suc (suc (suc (suc (suc (suc (suc (suc (suc (suc (suc (suc (suc (suc (suc (suc (suc (suc zero))))))))))))))))))) w n s = refl
next-at-rest (suc (suc (suc (suc (suc (suc (suc (suc (suc (suc (suc (suc (suc (suc (suc (suc (suc (suc (suc (suc zero)))))))))))))))))))) w n s = refl
next-at-rest (suc (suc (suc (suc (suc (suc (suc (suc (suc (suc (suc (suc (suc (suc (suc (suc (suc (suc (suc (suc (suc zero))))))))))))))))))))) w n s = refl
next-at-rest (suc (suc (suc (suc (suc (suc (suc (suc (suc (suc (suc (suc (suc (suc (suc (suc (suc (suc (suc (suc (suc (suc zero)))))))))))))))))))))) w n s = refl
next-at-rest (suc (suc (suc (suc (suc (suc (suc (suc (suc (suc (suc (suc (suc (suc (suc (suc (suc (suc (suc (suc (suc (suc (suc zero))))))))))))))))))))))) w n s = refl
next-at-rest (suc (suc (suc (suc (suc (suc (suc (suc (suc (suc (suc (suc (suc (suc (suc (suc (suc (suc (suc (suc (suc (suc (suc (suc zero)))))))))))))))))))))))) w n s = refl
next-at-rest (suc (suc (suc (suc (suc (suc (suc (suc (suc (suc (suc (suc (suc (suc (suc (suc (suc (suc (suc (suc (suc (suc (suc (suc (suc zero))))))))))))))))))))))))) w n s = refl
next-at-rest (suc (suc (suc (suc (suc (suc (suc (suc (suc (suc (suc (suc (suc (suc (suc (suc (suc (suc (suc (suc (suc (suc (suc (suc (suc (suc k)))))))))))))))))))))))))) w n s = next-at-rest-past (suc (suc (suc (suc (suc (suc (suc (suc (suc (suc (suc (suc (suc (suc (suc (suc (suc (suc (suc (suc (suc (suc (suc (suc (suc (suc k)))))))))))))))))))))))))) w n s (omega arith)

next-in-some-past : (k : ℕ) (w : Word) (n : ℕ) (s : List Token) → 26 ≤ k → mode_number (next in_some (token_of k w n) s) ≡ next_of (mode_number in_some) k (starts point s)
unfolding token_of next_of rest_of
next-in-some-past k w n s h = rw (past-token k w n h, ne_eqb k 20 (λ e. omega arith), ne_eqb k 24 (λ e. omega arith))

next-in-some : (k : ℕ) (w : Word) (n : ℕ) (s : List Token) → mode_number (next in_some (token_of k w n) s) ≡ next_of (mode_number in_some) k (starts point s)
unfolding token_of next_of rest_of
next-in-some zero w n s = refl
next-in-some (suc zero) w n s = refl
next-in-some (suc (suc zero)) w n s = refl
next-in-some (suc (suc (suc zero))) w n s = refl
next-in-some (suc (suc (suc (suc zero)))) w n s = refl
next-in-some (suc (suc (suc (suc (suc zero))))) w n s = refl
next-in-some (suc (suc (suc (suc (suc (suc zero)))))) w n s = refl
next-in-some (suc (suc (suc (suc (suc (suc (suc zero))))))) w n s = refl
next-in-some (suc (suc (suc (suc (suc (suc (suc (suc zero)))))))) w n s = refl
next-in-some (suc (suc (suc (suc (suc (suc (suc (suc (suc zero))))))))) w n s = refl
next-in-some (suc (suc (suc (suc (suc (suc (suc (suc (suc (suc zero)))))))))) w n s = refl
next-in-some (suc (suc (suc (suc (suc (suc (suc (suc (suc (suc (suc zero))))))))))) w n s = refl
next-in-some (suc (suc (suc (suc (suc (suc (suc (suc (suc (suc (suc (suc zero)))))))))))) w n s = refl
next-in-some (suc (suc (suc (suc (suc (suc (suc (suc (suc (suc (suc (suc (suc zero))))))))))))) w n s = refl
next-in-some (suc (suc (suc (suc (suc (suc (suc (suc (suc (suc (suc (suc (suc (suc zero)))))))))))))) w n s = refl
next-in-some (suc (suc (suc (suc (suc (suc (suc (suc (suc (suc (suc (suc (suc (suc (suc zero))))))))))))))) w n s = refl
next-in-some (suc (suc (suc (suc (suc (suc (suc (suc (suc (suc (suc (suc (suc (suc (suc (suc zero)))))))))))))))) w n s = refl
next-in-some (suc (suc (suc (suc (suc (suc (suc (suc (suc (suc (suc (suc (suc (suc (suc (suc (suc zero))))))))))))))))) w n s = refl
next-in-some (suc (suc (suc (suc (suc (suc (suc (suc (suc (suc (suc (suc (suc (suc (suc (suc (suc (suc zero)))))))))))))))))) w n s = refl
next-in-some (suc (suc (suc (suc (suc (suc (suc (suc (suc (suc (suc (suc (suc (suc (suc (suc (suc (suc (suc zero))))))))))))))))))) w n s = refl
next-in-some (suc (suc (suc (suc (suc (suc (suc (suc (suc (suc (suc (suc (suc (suc (suc (suc (suc (suc (suc (suc zero)))))))))))))))))))) w n s = refl
next-in-some (suc (suc (suc (suc (suc (suc (suc (suc (suc (suc (suc (suc (suc (suc (suc (suc (suc (suc (suc (suc (suc zero))))))))))))))))))))) w n s = refl
next-in-some (suc (suc (suc (suc (suc (suc (suc (suc (suc (suc (suc (suc (suc (suc (suc (suc (suc (suc (suc (suc (suc (suc zero)))))))))))))))))))))) w n s = refl
next-in-some (suc (suc (suc (suc (suc (suc (suc (suc (suc (suc (suc (suc (suc (suc (suc (suc (suc (suc (suc (suc (suc (suc (suc zero))))))))))))))))))))))) w n s = refl
next-in-some (suc (suc (suc (suc (suc (suc (suc (suc (suc (suc (suc (suc (suc (suc (suc (suc (suc (suc (suc (suc (suc (suc (suc (suc zero)))))))))))))))))))))))) w n s = refl
next-in-some (suc (suc (suc (suc (suc (suc (suc (suc (suc (suc (suc (suc (suc (suc (suc (suc (suc (suc (suc (suc (suc (suc (suc (suc (suc zero))))))))))))))))))))))))) w n s = refl
next-in-some (suc (suc (suc (suc (suc (suc (suc (suc (suc (suc (suc (suc (suc (suc (suc (suc (suc (suc (suc (suc (suc (suc (suc (suc (suc (suc k)))))))))))))))))))))))))) w n s = next-in-some-past (suc (suc (suc (suc (suc (suc (suc (suc (suc (suc (suc (suc (suc (suc (suc (suc (suc (suc (suc (suc (suc (suc (suc (suc (suc (suc k)))))))))))))))))))))))))) w n s (omega arith)

next-in-attribute-past : (k : ℕ) (w : Word) (n : ℕ) (s : List Token) → 26 ≤ k → mode_number (next in-attribute (token_of k w n) s) ≡ next_of (mode_number in-attribute) k (starts point s)
unfolding token_of next_of rest_of
next-in-attribute-past k w n s h = rw (past-token k w n h, le-leb 13 k (omega arith))

next-in-attribute : (k : ℕ) (w : Word) (n : ℕ) (s : List Token) → mode_number (next in-attribute (token_of k w n) s) ≡ next_of (mode_number in-attribute) k (starts point s)
unfolding token_of next_of rest_of
next-in-attribute zero w n s = refl
next-in-attribute (suc zero) w n s = refl
next-in-attribute (suc (suc zero)) w n s = refl
next-in-attribute (suc (suc (suc zero))) w n s = refl
next-in-attribute (suc (suc (suc (suc zero)))) w n s = refl
next-in-attribute (suc (suc (suc (suc (suc zero))))) w n s = refl
next-in-attribute (suc (suc (suc (suc (suc (suc zero)))))) w n s = refl
next-in-attribute (suc (suc (suc (suc (suc (suc (suc zero))))))) w n s = refl
next-in-attribute (suc (suc (suc (suc (suc (suc (suc (suc zero)))))))) w n s = refl
next-in-attribute (suc (suc (suc (suc (suc (suc (suc (suc (suc zero))))))))) w n s = refl
next-in-attribute (suc (suc (suc (suc (suc (suc (suc (suc (suc (suc zero)))))))))) w n s = refl
next-in-attribute (suc (suc (suc (suc (suc (suc (suc (suc (suc (suc (suc zero))))))))))) w n s = refl
next-in-attribute (suc (suc (suc (suc (suc (suc (suc (suc (suc (suc (suc (suc zero)))))))))))) w n s = refl
next-in-attribute (suc (suc (suc (suc (suc (suc (suc (suc (suc (suc (suc (suc (suc zero))))))))))))) w n s = refl
next-in-attribute (suc (suc (suc (suc (suc (suc (suc (suc (suc (suc (suc (suc (suc (suc zero)))))))))))))) w n s = refl
next-in-attribute (suc (suc (suc (suc (suc (suc (suc (suc (suc (suc (suc (suc (suc (suc (suc zero))))))))))))))) w n s = refl
next-in-attribute (suc (suc (suc (suc (suc (suc (suc (suc (suc (suc (suc (suc (suc (suc (suc (suc zero)))))))))))))))) w n s = refl
next-in-attribute (suc (suc (suc (suc (suc (suc (suc (suc (suc (suc (suc (suc (suc (suc (suc (suc (suc zero))))))))))))))))) w n s = refl
next-in-attribute (suc (suc (suc (suc (suc (suc (suc (suc (suc (suc (suc (suc (suc (suc (suc (suc (suc (suc zero)))))))))))))))))) w n s = refl
next-in-attribute (suc (suc (suc (suc (suc (suc (suc (suc (suc (suc (suc (suc (suc (suc (suc (suc (suc (suc (suc zero))))))))))))))))))) w n s = refl
next-in-attribute (suc (suc (suc (suc (suc (suc (suc (suc (suc (suc (suc (suc (suc (suc (suc (suc (suc (suc (suc (suc zero)))))))))))))))))))) w n s = refl
next-in-attribute (suc (suc (suc (suc (suc (suc (suc (suc (suc (suc (suc (suc (suc (suc (suc (suc (suc (suc (suc (suc (suc zero))))))))))))))))))))) w n s = refl
next-in-attribute (suc (suc (suc (suc (suc (suc (suc (suc (suc (suc (suc (suc (suc (suc (suc (suc (suc (suc (suc (suc (suc (suc zero)))))))))))))))))))))) w n s = refl
next-in-attribute (suc (suc (suc (suc (suc (suc (suc (suc (suc (suc (suc (suc (suc (suc (suc (suc (suc (suc (suc (suc (suc (suc (suc zero))))))))))))))))))))))) w n s = refl
next-in-attribute (suc (suc (suc (suc (suc (suc (suc (suc (suc (suc (suc (suc (suc (suc (suc (suc (suc (suc (suc (suc (suc (suc (suc (suc zero)))))))))))))))))))))))) w n s = refl
next-in-attribute (suc (suc (suc (suc (suc (suc (suc (suc (suc (suc (suc (suc (suc (suc (suc (suc (suc (suc (suc (suc (suc (suc (suc (suc (suc zero))))))))))))))))))))))))) w n s = refl
next-in-attribute (suc (suc (suc (suc (suc (suc (suc (suc (suc (suc (suc (suc (suc (suc (suc (suc (suc (suc (suc (suc (suc (suc (suc (suc (suc (suc k)))))))))))))))))))))))))) w n s = next-in-attribute-past (suc (suc (suc (suc (suc (suc (suc (suc (suc (suc (suc (suc (suc (suc (suc (suc (suc (suc (suc (suc (suc (suc (suc (suc (suc (suc k)))))))))))))))))))))))))) w n s (omega arith)

next-in-aggregate-past : (k : ℕ) (w : Word) (n : ℕ) (s : List Token) → 26 ≤ k → mode_number (next in-aggregate (token_of k w n) s) ≡ next_of (mode_number in-aggregate) k (starts point s)
unfolding token_of next_of rest_of
next-in-aggregate-past k w n s h = rw (past-token k w n h, ne_eqb k 21 (λ e. omega arith), ne_eqb k 24 (λ e. omega arith))

next-in-aggregate : (k : ℕ) (w : Word) (n : ℕ) (s : List Token) → mode_number (next in-aggregate (token_of k w n) s) ≡ next_of (mode_number in-aggregate) k (starts point s)
unfolding token_of next_of rest_of
next-in-aggregate zero w n s = refl
next-in-aggregate (suc zero) w n s = refl
next-in-aggregate (suc (suc zero)) w n s = refl
next-in-aggregate (suc (suc (suc zero))) w n s = refl
next-in-aggregate (suc (suc (suc (suc zero)))) w n s = refl
next-in-aggregate (suc (suc (suc (suc (suc zero))))) w n s = refl
next-in-aggregate (suc (suc (suc (suc (suc (suc zero)))))) w n s = refl
next-in-aggregate (suc (suc (suc (suc (suc (suc (suc zero))))))) w n s = refl
next-in-aggregate (suc (suc (suc (suc (suc (suc (suc (suc zero)))))))) w n s = refl
next-in-aggregate (suc (suc (suc (suc (suc (suc (suc (suc (suc zero))))))))) w n s = refl
next-in-aggregate (suc (suc (suc (suc (suc (suc (suc (suc (suc (suc zero)))))))))) w n s = refl
next-in-aggregate (suc (suc (suc (suc (suc (suc (suc (suc (suc (suc (suc zero))))))))))) w n s = refl
next-in-aggregate (suc (suc (suc (suc (suc (suc (suc (suc (suc (suc (suc (suc zero)))))))))))) w n s = refl
next-in-aggregate (suc (suc (suc (suc (suc (suc (suc (suc (suc (suc (suc (suc (suc zero))))))))))))) w n s = refl
next-in-aggregate (suc (suc (suc (suc (suc (suc (suc (suc (suc (suc (suc (suc (suc (suc zero)))))))))))))) w n s = refl
next-in-aggregate (suc (suc (suc (suc (suc (suc (suc (suc (suc (suc (suc (suc (suc (suc (suc zero))))))))))))))) w n s = refl
next-in-aggregate (suc (suc (suc (suc (suc (suc (suc (suc (suc (suc (suc (suc (suc (suc (suc (suc zero)))))))))))))))) w n s = refl
next-in-aggregate (suc (suc (suc (suc (suc (suc (suc (suc (suc (suc (suc (suc (suc (suc (suc (suc (suc zero))))))))))))))))) w n s = refl
next-in-aggregate (suc (suc (suc (suc (suc (suc (suc (suc (suc (suc (suc (suc (suc (suc (suc (suc (suc (suc zero)))))))))))))))))) w n s = refl
next-in-aggregate (suc (suc (suc (suc (suc (suc (suc (suc (suc (suc (suc (suc (suc (suc (suc (suc (suc (suc (suc zero))))))))))))))))))) w n s = refl
next-in-aggregate (suc (suc (suc (suc (suc (suc (suc (suc (suc (suc (suc (suc (suc (suc (suc (suc (suc (suc (suc (suc zero)))))))))))))))))))) w n s = refl
next-in-aggregate (suc (suc (suc (suc (suc (suc (suc (suc (suc (suc (suc (suc (suc (suc (suc (suc (suc (suc (suc (suc (suc zero))))))))))))))))))))) w n s = refl
next-in-aggregate (suc (suc (suc (suc (suc (suc (suc (suc (suc (suc (suc (suc (suc (suc (suc (suc (suc (suc (suc (suc (suc (suc zero)))))))))))))))))))))) w n s = refl
next-in-aggregate (suc (suc (suc (suc (suc (suc (suc (suc (suc (suc (suc (suc (suc (suc (suc (suc (suc (suc (suc (suc (suc (suc (suc zero))))))))))))))))))))))) w n s = refl
next-in-aggregate (suc (suc (suc (suc (suc (suc (suc (suc (suc (suc (suc (suc (suc (suc (suc (suc (suc (suc (suc (suc (suc (suc (suc (suc zero)))))))))))))))))))))))) w n s = refl
next-in-aggregate (suc (suc (suc (suc (suc (suc (suc (suc (suc (suc (suc (suc (suc (suc (suc (suc (suc (suc (suc (suc (suc (suc (suc (suc (suc zero))))))))))))))))))))))))) w n s = refl
next-in-aggregate (suc (suc (suc (suc (suc (suc (suc (suc (suc (suc (suc (suc (suc (suc (suc (suc (suc (suc (suc (suc (suc (suc (suc (suc (suc (suc k)))))))))))))))))))))))))) w n s = next-in-aggregate-past (suc (suc (suc (suc (suc (suc (suc (suc (suc (suc (suc (suc (suc (suc (suc (suc (suc (suc (suc (suc (suc (suc (suc (suc (suc (suc k)))))))))))))))))))))))))) w n s (omega arith)

pub next-number : (m : Mode) (k : ℕ) (w : Word) (n : ℕ) (s : List Token) → mode_number (next m (token_of k w n) s) ≡ next_of (mode_number m) k (starts point s)
next-number at-condition k w n s = next-at-condition k w n s
next-number at-conjunct k w n s = next-at-conjunct k w n s
next-number at-factor k w n s = next-at-factor k w n s
next-number at_rest k w n s = next-at-rest k w n s
next-number in_some k w n s = next-in-some k w n s
next-number in-attribute k w n s = next-in-attribute k w n s
next-number in-aggregate k w n s = next-in-aggregate k w n s

-- the V's, the ^'s and the sign that are written before a token
abbrev pub opening : ℕ → ℕ → Token → List Token → Written → Written
opening m k t s g =
    before (often (cond (eqb m 0) (ors_at (t ∷ s)) 0) 20)
    (before (often (cond (leb m 1) (ands_at (t ∷ s)) 0) 19)
    (cond (leb m 2 && leb k 6) (before (λ bs. 21 ∷ operator_of (operator_at s) ∷ bs) g) g))

often-none : (b : ℕ) (g : Written) → g ≡ before (often 0 b) g
unfolding often
often-none b fail = refl
often-none b (ok bs n) = refl

module _ (es : List Entry) where
  -- where a name stands
  by_name : (m : ℕ) (x : Word) (s : List Token) (σ : Reaches) (i : ℕ) (c : Reaches → ℕ → Written) (b : Bool) → name_of es b x s (inner σ) (c σ i) ≡ perform es (cond b 1 2) (0 - 1) m x (word_at 0 s) (word_at 1 s) (word_at 2 s) (word_at 3 s) σ i c
  by_name m x s σ i c true = refl
  by_name m x s σ i c false = refl

  factor-act-past : (k : ℕ) (w : Word) (n : ℕ) (s : List Token) (σ : Reaches) (i : ℕ) (c : Reaches → ℕ → Written) → 26 ≤ k → bytes_factor es (token_of k w n) s σ i c ≡ cond (leb k 6) (before (λ bs. 21 ∷ operator_of (operator_at s) ∷ bs) (perform es (action_of 2 k (starts point s)) (k - 1) n w (word_at 0 s) (word_at 1 s) (word_at 2 s) (word_at 3 s) σ i c)) (perform es (action_of 2 k (starts point s)) (k - 1) n w (word_at 0 s) (word_at 1 s) (word_at 2 s) (word_at 3 s) σ i c)
  unfolding token_of action_of
  factor-act-past k w n s σ i c h = rw (past-token k w n h, ne_eqb k 0 (λ e. omega arith), ne_eqb k 1 (λ e. omega arith), lt-leb k 6 (omega arith), le-leb 2 k (omega arith), ne_eqb k 15 (λ e. omega arith), ne_eqb k 16 (λ e. omega arith), ne_eqb k 20 (λ e. omega arith))

  factor-act : (k : ℕ) (w : Word) (n : ℕ) (s : List Token) (σ : Reaches) (i : ℕ) (c : Reaches → ℕ → Written) → bytes_factor es (token_of k w n) s σ i c ≡ cond (leb k 6) (before (λ bs. 21 ∷ operator_of (operator_at s) ∷ bs) (perform es (action_of 2 k (starts point s)) (k - 1) n w (word_at 0 s) (word_at 1 s) (word_at 2 s) (word_at 3 s) σ i c)) (perform es (action_of 2 k (starts point s)) (k - 1) n w (word_at 0 s) (word_at 1 s) (word_at 2 s) (word_at 3 s) σ i c)
  unfolding token_of action_of
  factor-act zero w n s σ i c = ap (λ (g : Written). before (λ bs. 21 ∷ operator_of (operator_at s) ∷ bs) g) (by_name n w s σ i c (starts point s))
  factor-act (suc zero) w n s σ i c = refl
  factor-act (suc (suc zero)) w n s σ i c = refl
  factor-act (suc (suc (suc zero))) w n s σ i c = refl
  factor-act (suc (suc (suc (suc zero)))) w n s σ i c = refl
  factor-act (suc (suc (suc (suc (suc zero))))) w n s σ i c = refl
  factor-act (suc (suc (suc (suc (suc (suc zero)))))) w n s σ i c = refl
  factor-act (suc (suc (suc (suc (suc (suc (suc zero))))))) w n s σ i c = refl
  factor-act (suc (suc (suc (suc (suc (suc (suc (suc zero)))))))) w n s σ i c = refl
  factor-act (suc (suc (suc (suc (suc (suc (suc (suc (suc zero))))))))) w n s σ i c = refl
  factor-act (suc (suc (suc (suc (suc (suc (suc (suc (suc (suc zero)))))))))) w n s σ i c = refl
  factor-act (suc (suc (suc (suc (suc (suc (suc (suc (suc (suc (suc zero))))))))))) w n s σ i c = refl
  factor-act (suc (suc (suc (suc (suc (suc (suc (suc (suc (suc (suc (suc zero)))))))))))) w n s σ i c = refl
  factor-act (suc (suc (suc (suc (suc (suc (suc (suc (suc (suc (suc (suc (suc zero))))))))))))) w n s σ i c = refl
  factor-act (suc (suc (suc (suc (suc (suc (suc (suc (suc (suc (suc (suc (suc (suc zero)))))))))))))) w n s σ i c = refl
  factor-act (suc (suc (suc (suc (suc (suc (suc (suc (suc (suc (suc (suc (suc (suc (suc zero))))))))))))))) w n s σ i c = refl
  factor-act (suc (suc (suc (suc (suc (suc (suc (suc (suc (suc (suc (suc (suc (suc (suc (suc zero)))))))))))))))) w n s σ i c = refl
  factor-act (suc (suc (suc (suc (suc (suc (suc (suc (suc (suc (suc (suc (suc (suc (suc (suc (suc zero))))))))))))))))) w n s σ i c = refl
  factor-act (suc (suc (suc (suc (suc (suc (suc (suc (suc (suc (suc (suc (suc (suc (suc (suc (suc (suc zero)))))))))))))))))) w n s σ i c = refl
  factor-act (suc (suc (suc (suc (suc (suc (suc (suc (suc (suc (suc (suc (suc (suc (suc (suc (suc (suc (suc zero))))))))))))))))))) w n s σ i c = refl
  factor-act (suc (suc (suc (suc (suc (suc (suc (suc (suc (suc (suc (suc (suc (suc (suc (suc (suc (suc (suc (suc zero)))))))))))))))))))) w n s σ i c = refl
  factor-act (suc (suc (suc (suc (suc (suc (suc (suc (suc (suc (suc (suc (suc (suc (suc (suc (suc (suc (suc (suc (suc zero))))))))))))))))))))) w n s σ i c = refl
  factor-act (suc (suc (suc (suc (suc (suc (suc (suc (suc (suc (suc (suc (suc (suc (suc (suc (suc (suc (suc (suc (suc (suc zero)))))))))))))))))))))) w n s σ i c = refl
  factor-act (suc (suc (suc (suc (suc (suc (suc (suc (suc (suc (suc (suc (suc (suc (suc (suc (suc (suc (suc (suc (suc (suc (suc zero))))))))))))))))))))))) w n s σ i c = refl
  factor-act (suc (suc (suc (suc (suc (suc (suc (suc (suc (suc (suc (suc (suc (suc (suc (suc (suc (suc (suc (suc (suc (suc (suc (suc zero)))))))))))))))))))))))) w n s σ i c = refl
  factor-act (suc (suc (suc (suc (suc (suc (suc (suc (suc (suc (suc (suc (suc (suc (suc (suc (suc (suc (suc (suc (suc (suc (suc (suc (suc zero))))))))))))))))))))))))) w n s σ i c = refl
  factor-act (suc (suc (suc (suc (suc (suc (suc (suc (suc (suc (suc (suc (suc (suc (suc (suc (suc (suc (suc (suc (suc (suc (suc (suc (suc (suc k)))))))))))))))))))))))))) w n s σ i c = factor-act-past (suc (suc (suc (suc (suc (suc (suc (suc (suc (suc (suc (suc (suc (suc (suc (suc (suc (suc (suc (suc (suc (suc (suc (suc (suc (suc k)))))))))))))))))))))))))) w n s σ i c (omega arith)

  rest-act-past : (k : ℕ) (w : Word) (n : ℕ) (s : List Token) (σ : Reaches) (i : ℕ) (c : Reaches → ℕ → Written) → 26 ≤ k → bytes_rest es (token_of k w n) s σ i c ≡ perform es (action_of 3 k (starts point s)) (k - 1) n w (word_at 0 s) (word_at 1 s) (word_at 2 s) (word_at 3 s) σ i c
  unfolding token_of action_of
  rest-act-past k w n s σ i c h = rw (past-token k w n h, ne_eqb k 0 (λ e. omega arith), ne_eqb k 1 (λ e. omega arith), lt-leb k 6 (omega arith), le-leb 2 k (omega arith), ne_eqb k 21 (λ e. omega arith))

  rest-act : (k : ℕ) (w : Word) (n : ℕ) (s : List Token) (σ : Reaches) (i : ℕ) (c : Reaches → ℕ → Written) → bytes_rest es (token_of k w n) s σ i c ≡ perform es (action_of 3 k (starts point s)) (k - 1) n w (word_at 0 s) (word_at 1 s) (word_at 2 s) (word_at 3 s) σ i c
  unfolding token_of action_of
  rest-act zero w n s σ i c = by_name n w s σ i c (starts point s)
  rest-act (suc zero) w n s σ i c = refl
  rest-act (suc (suc zero)) w n s σ i c = refl
  rest-act (suc (suc (suc zero))) w n s σ i c = refl
  rest-act (suc (suc (suc (suc zero)))) w n s σ i c = refl
  rest-act (suc (suc (suc (suc (suc zero))))) w n s σ i c = refl
  rest-act (suc (suc (suc (suc (suc (suc zero)))))) w n s σ i c = refl
  rest-act (suc (suc (suc (suc (suc (suc (suc zero))))))) w n s σ i c = refl
  rest-act (suc (suc (suc (suc (suc (suc (suc (suc zero)))))))) w n s σ i c = refl
  rest-act (suc (suc (suc (suc (suc (suc (suc (suc (suc zero))))))))) w n s σ i c = refl
  rest-act (suc (suc (suc (suc (suc (suc (suc (suc (suc (suc zero)))))))))) w n s σ i c = refl
  rest-act (suc (suc (suc (suc (suc (suc (suc (suc (suc (suc (suc zero))))))))))) w n s σ i c = refl
  rest-act (suc (suc (suc (suc (suc (suc (suc (suc (suc (suc (suc (suc zero)))))))))))) w n s σ i c = refl
  rest-act (suc (suc (suc (suc (suc (suc (suc (suc (suc (suc (suc (suc (suc zero))))))))))))) w n s σ i c = refl
  rest-act (suc (suc (suc (suc (suc (suc (suc (suc (suc (suc (suc (suc (suc (suc zero)))))))))))))) w n s σ i c = refl
  rest-act (suc (suc (suc (suc (suc (suc (suc (suc (suc (suc (suc (suc (suc (suc (suc zero))))))))))))))) w n s σ i c = refl
  rest-act (suc (suc (suc (suc (suc (suc (suc (suc (suc (suc (suc (suc (suc (suc (suc (suc zero)))))))))))))))) w n s σ i c = refl
  rest-act (suc (suc (suc (suc (suc (suc (suc (suc (suc (suc (suc (suc (suc (suc (suc (suc (suc zero))))))))))))))))) w n s σ i c = refl
  rest-act (suc (suc (suc (suc (suc (suc (suc (suc (suc (suc (suc (suc (suc (suc (suc (suc (suc (suc zero)))))))))))))))))) w n s σ i c = refl
  rest-act (suc (suc (suc (suc (suc (suc (suc (suc (suc (suc (suc (suc (suc (suc (suc (suc (suc (suc (suc zero))))))))))))))))))) w n s σ i c = refl
  rest-act (suc (suc (suc (suc (suc (suc (suc (suc (suc (suc (suc (suc (suc (suc (suc (suc (suc (suc (suc (suc zero)))))))))))))))))))) w n s σ i c = refl
  rest-act (suc (suc (suc (suc (suc (suc (suc (suc (suc (suc (suc (suc (suc (suc (suc (suc (suc (suc (suc (suc (suc zero))))))))))))))))))))) w n s σ i c = refl
  rest-act (suc (suc (suc (suc (suc (suc (suc (suc (suc (suc (suc (suc (suc (suc (suc (suc (suc (suc (suc (suc (suc (suc zero)))))))))))))))))))))) w n s σ i c = refl
  rest-act (suc (suc (suc (suc (suc (suc (suc (suc (suc (suc (suc (suc (suc (suc (suc (suc (suc (suc (suc (suc (suc (suc (suc zero))))))))))))))))))))))) w n s σ i c = refl
  rest-act (suc (suc (suc (suc (suc (suc (suc (suc (suc (suc (suc (suc (suc (suc (suc (suc (suc (suc (suc (suc (suc (suc (suc (suc zero)))))))))))))))))))))))) w n s σ i c = refl
  rest-act (suc (suc (suc (suc (suc (suc (suc (suc (suc (suc (suc (suc (suc (suc (suc (suc (suc (suc (suc (suc (suc (suc (suc (suc (suc zero))))))))))))))))))))))))) w n s σ i c = refl
  rest-act (suc (suc (suc (suc (suc (suc (suc (suc (suc (suc (suc (suc (suc (suc (suc (suc (suc (suc (suc (suc (suc (suc (suc (suc (suc (suc k)))))))))))))))))))))))))) w n s σ i c = rest-act-past (suc (suc (suc (suc (suc (suc (suc (suc (suc (suc (suc (suc (suc (suc (suc (suc (suc (suc (suc (suc (suc (suc (suc (suc (suc (suc k)))))))))))))))))))))))))) w n s σ i c (omega arith)

  aggregate-act-past : (k : ℕ) (w : Word) (n : ℕ) (s : List Token) (σ : Reaches) (i : ℕ) (c : Reaches → ℕ → Written) → 26 ≤ k → bytes_aggregate es (token_of k w n) σ i c ≡ perform es (action_of 6 k (starts point s)) (k - 1) n w (word_at 0 s) (word_at 1 s) (word_at 2 s) (word_at 3 s) σ i c
  unfolding token_of action_of
  aggregate-act-past k w n s σ i c h = rw (past-token k w n h, ne_eqb k 21 (λ e. omega arith))

  aggregate-act : (k : ℕ) (w : Word) (n : ℕ) (s : List Token) (σ : Reaches) (i : ℕ) (c : Reaches → ℕ → Written) → bytes_aggregate es (token_of k w n) σ i c ≡ perform es (action_of 6 k (starts point s)) (k - 1) n w (word_at 0 s) (word_at 1 s) (word_at 2 s) (word_at 3 s) σ i c
  unfolding token_of action_of
  aggregate-act zero w n s σ i c = refl
  aggregate-act (suc zero) w n s σ i c = refl
  aggregate-act (suc (suc zero)) w n s σ i c = refl
  aggregate-act (suc (suc (suc zero))) w n s σ i c = refl
  aggregate-act (suc (suc (suc (suc zero)))) w n s σ i c = refl
  aggregate-act (suc (suc (suc (suc (suc zero))))) w n s σ i c = refl
  aggregate-act (suc (suc (suc (suc (suc (suc zero)))))) w n s σ i c = refl
  aggregate-act (suc (suc (suc (suc (suc (suc (suc zero))))))) w n s σ i c = refl
  aggregate-act (suc (suc (suc (suc (suc (suc (suc (suc zero)))))))) w n s σ i c = refl
  aggregate-act (suc (suc (suc (suc (suc (suc (suc (suc (suc zero))))))))) w n s σ i c = refl
  aggregate-act (suc (suc (suc (suc (suc (suc (suc (suc (suc (suc zero)))))))))) w n s σ i c = refl
  aggregate-act (suc (suc (suc (suc (suc (suc (suc (suc (suc (suc (suc zero))))))))))) w n s σ i c = refl
  aggregate-act (suc (suc (suc (suc (suc (suc (suc (suc (suc (suc (suc (suc zero)))))))))))) w n s σ i c = refl
  aggregate-act (suc (suc (suc (suc (suc (suc (suc (suc (suc (suc (suc (suc (suc zero))))))))))))) w n s σ i c = refl
  aggregate-act (suc (suc (suc (suc (suc (suc (suc (suc (suc (suc (suc (suc (suc (suc zero)))))))))))))) w n s σ i c = refl
  aggregate-act (suc (suc (suc (suc (suc (suc (suc (suc (suc (suc (suc (suc (suc (suc (suc zero))))))))))))))) w n s σ i c = refl
  aggregate-act (suc (suc (suc (suc (suc (suc (suc (suc (suc (suc (suc (suc (suc (suc (suc (suc zero)))))))))))))))) w n s σ i c = refl
  aggregate-act (suc (suc (suc (suc (suc (suc (suc (suc (suc (suc (suc (suc (suc (suc (suc (suc (suc zero))))))))))))))))) w n s σ i c = refl
  aggregate-act (suc (suc (suc (suc (suc (suc (suc (suc (suc (suc (suc (suc (suc (suc (suc (suc (suc (suc zero)))))))))))))))))) w n s σ i c = refl
  aggregate-act (suc (suc (suc (suc (suc (suc (suc (suc (suc (suc (suc (suc (suc (suc (suc (suc (suc (suc (suc zero))))))))))))))))))) w n s σ i c = refl
  aggregate-act (suc (suc (suc (suc (suc (suc (suc (suc (suc (suc (suc (suc (suc (suc (suc (suc (suc (suc (suc (suc zero)))))))))))))))))))) w n s σ i c = refl
  aggregate-act (suc (suc (suc (suc (suc (suc (suc (suc (suc (suc (suc (suc (suc (suc (suc (suc (suc (suc (suc (suc (suc zero))))))))))))))))))))) w n s σ i c = refl
  aggregate-act (suc (suc (suc (suc (suc (suc (suc (suc (suc (suc (suc (suc (suc (suc (suc (suc (suc (suc (suc (suc (suc (suc zero)))))))))))))))))))))) w n s σ i c = refl
  aggregate-act (suc (suc (suc (suc (suc (suc (suc (suc (suc (suc (suc (suc (suc (suc (suc (suc (suc (suc (suc (suc (suc (suc (suc zero))))))))))))))))))))))) w n s σ i c = refl
  aggregate-act (suc (suc (suc (suc (suc (suc (suc (suc (suc (suc (suc (suc (suc (suc (suc (suc (suc (suc (suc (suc (suc (suc (suc (suc zero)))))))))))))))))))))))) w n s σ i c = refl
  aggregate-act (suc (suc (suc (suc (suc (suc (suc (suc (suc (suc (suc (suc (suc (suc (suc (suc (suc (suc (suc (suc (suc (suc (suc (suc (suc zero))))))))))))))))))))))))) w n s σ i c = refl
  aggregate-act (suc (suc (suc (suc (suc (suc (suc (suc (suc (suc (suc (suc (suc (suc (suc (suc (suc (suc (suc (suc (suc (suc (suc (suc (suc (suc k)))))))))))))))))))))))))) w n s σ i c = aggregate-act-past (suc (suc (suc (suc (suc (suc (suc (suc (suc (suc (suc (suc (suc (suc (suc (suc (suc (suc (suc (suc (suc (suc (suc (suc (suc (suc k)))))))))))))))))))))))))) w n s σ i c (omega arith)

  -- a turn of quel's loop, by numbers
  pub bytes-act : (m : Mode) (k : ℕ) (w : Word) (n : ℕ) (s : List Token) (σ : Reaches) (i : ℕ) (c : Reaches → ℕ → Written)
      → bytes es m (token_of k w n) s σ i c ≡ opening (mode_number m) k (token_of k w n) s (perform es (action_of (mode_number m) k (starts point s)) (k - 1) n w (word_at 0 s) (word_at 1 s) (word_at 2 s) (word_at 3 s) σ i c)
  unfolding action_of
  bytes-act at-condition k w n s σ i c = ap (λ (g : Written). before (often (ors_at (token_of k w n ∷ s)) 20) (before (often (ands_at (token_of k w n ∷ s)) 19) g)) (factor-act k w n s σ i c)
  bytes-act at-conjunct k w n s σ i c = ap (λ (g : Written). before (often (ands_at (token_of k w n ∷ s)) 19) g) (factor-act k w n s σ i c) ∙ often-none 20 _
  bytes-act at-factor k w n s σ i c = factor-act k w n s σ i c ∙ often-none 19 _ ∙ often-none 20 _
  bytes-act at_rest k w n s σ i c = rest-act k w n s σ i c ∙ often-none 19 _ ∙ often-none 20 _
  bytes-act in_some k w n s σ i c = often-none 19 _ ∙ often-none 20 _
  bytes-act in-attribute k w n s σ i c = often-none 19 _ ∙ often-none 20 _
  bytes-act in-aggregate k w n s σ i c = aggregate-act k w n s σ i c ∙ often-none 19 _ ∙ often-none 20 _
