-- A walk's step by the kind of the token.
use Prim.Native.Nat.{ℕ, zero, suc, ◌-◌, ◌≤◌}
use mathlib.Core.Bool.{cond, ◌&&◌}
use mathlib.Core.List.{List, [], ◌∷◌}
use mathlib.Core.Path.{◌≡◌, refl}
use native.Mathlib.Omega.{arith}
use lib.Dec.{eqb, leb}
use lib.ListN.{drop, get_or-eq_default}
use borrow.Author.Tests.{ne_eqb, lt-leb, le-leb}
use Rattle.quel.specs.Results.{Word}
use Rattle.quel.specs.Tokens.{Token, key, point}
use Rattle.quel.specs.Reader.{starts}
use Rattle.quel.specs.Ahead.{word_at, word_of}
use Rattle.tokens.specs.Table.{fixed, token_of}
use Rattle.flat.specs.Flat.{outside, uses, binding, binders, main_of, colons}
use Rattle.elaborate.specs.Places.{depth_kind, part_kind}

past-token : (k : ℕ) (w : Word) (n : ℕ) → 26 ≤ k → token_of k w n ≡ key point
unfolding token_of
past-token k w n h = rw (ne_eqb k 0 (λ e. omega arith), ne_eqb k 1 (λ e. omega arith), get_or-eq_default fixed (key point) {n = k - 2} (omega arith))

uses-kind-past : (k : ℕ) (w : Word) (n : ℕ) (d : ℕ) (s : List Token) → 26 ≤ k → uses d (token_of k w n ∷ s) ≡ cond (eqb k 0) (cond (outside d && starts point s) (w ∷ uses d s) (uses d s)) (uses (depth_kind k d) s)
unfolding uses token_of depth_kind
uses-kind-past k w n d s h = rw (past-token k w n h, ne_eqb k 0 (λ e. omega arith), lt-leb k 6 (omega arith), le-leb 2 k (omega arith), ne_eqb k 20 (λ e. omega arith), ne_eqb k 21 (λ e. omega arith))

pub uses-kind : (k : ℕ) (w : Word) (n : ℕ) (d : ℕ) (s : List Token) → uses d (token_of k w n ∷ s) ≡ cond (eqb k 0) (cond (outside d && starts point s) (w ∷ uses d s) (uses d s)) (uses (depth_kind k d) s)
unfolding uses token_of depth_kind
uses-kind zero w n d s = refl
uses-kind (suc zero) w n d s = refl
uses-kind (suc (suc zero)) w n d s = refl
uses-kind (suc (suc (suc zero))) w n d s = refl
uses-kind (suc (suc (suc (suc zero)))) w n d s = refl
uses-kind (suc (suc (suc (suc (suc zero))))) w n d s = refl
uses-kind (suc (suc (suc (suc (suc (suc zero)))))) w n d s = refl
uses-kind (suc (suc (suc (suc (suc (suc (suc zero))))))) w n d s = refl
uses-kind (suc (suc (suc (suc (suc (suc (suc (suc zero)))))))) w n d s = refl
uses-kind (suc (suc (suc (suc (suc (suc (suc (suc (suc zero))))))))) w n d s = refl
uses-kind (suc (suc (suc (suc (suc (suc (suc (suc (suc (suc zero)))))))))) w n d s = refl
uses-kind (suc (suc (suc (suc (suc (suc (suc (suc (suc (suc (suc zero))))))))))) w n d s = refl
uses-kind (suc (suc (suc (suc (suc (suc (suc (suc (suc (suc (suc (suc zero)))))))))))) w n d s = refl
uses-kind (suc (suc (suc (suc (suc (suc (suc (suc (suc (suc (suc (suc (suc zero))))))))))))) w n d s = refl
uses-kind (suc (suc (suc (suc (suc (suc (suc (suc (suc (suc (suc (suc (suc (suc zero)))))))))))))) w n d s = refl
uses-kind (suc (suc (suc (suc (suc (suc (suc (suc (suc (suc (suc (suc (suc (suc (suc zero))))))))))))))) w n d s = refl
uses-kind (suc (suc (suc (suc (suc (suc (suc (suc (suc (suc (suc (suc (suc (suc (suc (suc zero)))))))))))))))) w n d s = refl
uses-kind (suc (suc (suc (suc (suc (suc (suc (suc (suc (suc (suc (suc (suc (suc (suc (suc (suc zero))))))))))))))))) w n d s = refl
uses-kind (suc (suc (suc (suc (suc (suc (suc (suc (suc (suc (suc (suc (suc (suc (suc (suc (suc (suc zero)))))))))))))))))) w n d s = refl
uses-kind (suc (suc (suc (suc (suc (suc (suc (suc (suc (suc (suc (suc (suc (suc (suc (suc (suc (suc (suc zero))))))))))))))))))) w n d s = refl
uses-kind (suc (suc (suc (suc (suc (suc (suc (suc (suc (suc (suc (suc (suc (suc (suc (suc (suc (suc (suc (suc zero)))))))))))))))))))) w n d s = refl
uses-kind (suc (suc (suc (suc (suc (suc (suc (suc (suc (suc (suc (suc (suc (suc (suc (suc (suc (suc (suc (suc (suc zero))))))))))))))))))))) w n d s = refl
uses-kind (suc (suc (suc (suc (suc (suc (suc (suc (suc (suc (suc (suc (suc (suc (suc (suc (suc (suc (suc (suc (suc (suc zero)))))))))))))))))))))) w n d s = refl
uses-kind (suc (suc (suc (suc (suc (suc (suc (suc (suc (suc (suc (suc (suc (suc (suc (suc (suc (suc (suc (suc (suc (suc (suc zero))))))))))))))))))))))) w n d s = refl
uses-kind (suc (suc (suc (suc (suc (suc (suc (suc (suc (suc (suc (suc (suc (suc (suc (suc (suc (suc (suc (suc (suc (suc (suc (suc zero)))))))))))))))))))))))) w n d s = refl
uses-kind (suc (suc (suc (suc (suc (suc (suc (suc (suc (suc (suc (suc (suc (suc (suc (suc (suc (suc (suc (suc (suc (suc (suc (suc (suc zero))))))))))))))))))))))))) w n d s = refl
uses-kind (suc (suc (suc (suc (suc (suc (suc (suc (suc (suc (suc (suc (suc (suc (suc (suc (suc (suc (suc (suc (suc (suc (suc (suc (suc (suc k)))))))))))))))))))))))))) w n d s = uses-kind-past (suc (suc (suc (suc (suc (suc (suc (suc (suc (suc (suc (suc (suc (suc (suc (suc (suc (suc (suc (suc (suc (suc (suc (suc (suc (suc k)))))))))))))))))))))))))) w n d s (omega arith)

binders-kind-past : (k : ℕ) (w : Word) (n : ℕ) (p : ℕ) (s : List Token) → 26 ≤ k → binders p (token_of k w n ∷ s) ≡ cond (eqb k 0) (cond (binding p) (w ∷ binders p s) (binders p s)) (cond (eqb k 16) (word_at 0 s ∷ binders p s) (binders (part_kind k p) s))
unfolding binders token_of part_kind
binders-kind-past k w n p s h = rw (past-token k w n h, ne_eqb k 0 (λ e. omega arith), ne_eqb k 16 (λ e. omega arith), ne_eqb k 14 (λ e. omega arith), ne_eqb k 20 (λ e. omega arith), ne_eqb k 21 (λ e. omega arith))

pub binders-kind : (k : ℕ) (w : Word) (n : ℕ) (p : ℕ) (s : List Token) → binders p (token_of k w n ∷ s) ≡ cond (eqb k 0) (cond (binding p) (w ∷ binders p s) (binders p s)) (cond (eqb k 16) (word_at 0 s ∷ binders p s) (binders (part_kind k p) s))
unfolding binders token_of part_kind
binders-kind zero w n p s = refl
binders-kind (suc zero) w n p s = refl
binders-kind (suc (suc zero)) w n p s = refl
binders-kind (suc (suc (suc zero))) w n p s = refl
binders-kind (suc (suc (suc (suc zero)))) w n p s = refl
binders-kind (suc (suc (suc (suc (suc zero))))) w n p s = refl
binders-kind (suc (suc (suc (suc (suc (suc zero)))))) w n p s = refl
binders-kind (suc (suc (suc (suc (suc (suc (suc zero))))))) w n p s = refl
binders-kind (suc (suc (suc (suc (suc (suc (suc (suc zero)))))))) w n p s = refl
binders-kind (suc (suc (suc (suc (suc (suc (suc (suc (suc zero))))))))) w n p s = refl
binders-kind (suc (suc (suc (suc (suc (suc (suc (suc (suc (suc zero)))))))))) w n p s = refl
binders-kind (suc (suc (suc (suc (suc (suc (suc (suc (suc (suc (suc zero))))))))))) w n p s = refl
binders-kind (suc (suc (suc (suc (suc (suc (suc (suc (suc (suc (suc (suc zero)))))))))))) w n p s = refl
binders-kind (suc (suc (suc (suc (suc (suc (suc (suc (suc (suc (suc (suc (suc zero))))))))))))) w n p s = refl
binders-kind (suc (suc (suc (suc (suc (suc (suc (suc (suc (suc (suc (suc (suc (suc zero)))))))))))))) w n p s = refl
binders-kind (suc (suc (suc (suc (suc (suc (suc (suc (suc (suc (suc (suc (suc (suc (suc zero))))))))))))))) w n p s = refl
binders-kind (suc (suc (suc (suc (suc (suc (suc (suc (suc (suc (suc (suc (suc (suc (suc (suc zero)))))))))))))))) w n p s = refl
binders-kind (suc (suc (suc (suc (suc (suc (suc (suc (suc (suc (suc (suc (suc (suc (suc (suc (suc zero))))))))))))))))) w n p s = refl
binders-kind (suc (suc (suc (suc (suc (suc (suc (suc (suc (suc (suc (suc (suc (suc (suc (suc (suc (suc zero)))))))))))))))))) w n p s = refl
binders-kind (suc (suc (suc (suc (suc (suc (suc (suc (suc (suc (suc (suc (suc (suc (suc (suc (suc (suc (suc zero))))))))))))))))))) w n p s = refl
binders-kind (suc (suc (suc (suc (suc (suc (suc (suc (suc (suc (suc (suc (suc (suc (suc (suc (suc (suc (suc (suc zero)))))))))))))))))))) w n p s = refl
binders-kind (suc (suc (suc (suc (suc (suc (suc (suc (suc (suc (suc (suc (suc (suc (suc (suc (suc (suc (suc (suc (suc zero))))))))))))))))))))) w n p s = refl
binders-kind (suc (suc (suc (suc (suc (suc (suc (suc (suc (suc (suc (suc (suc (suc (suc (suc (suc (suc (suc (suc (suc (suc zero)))))))))))))))))))))) w n p s = refl
binders-kind (suc (suc (suc (suc (suc (suc (suc (suc (suc (suc (suc (suc (suc (suc (suc (suc (suc (suc (suc (suc (suc (suc (suc zero))))))))))))))))))))))) w n p s = refl
binders-kind (suc (suc (suc (suc (suc (suc (suc (suc (suc (suc (suc (suc (suc (suc (suc (suc (suc (suc (suc (suc (suc (suc (suc (suc zero)))))))))))))))))))))))) w n p s = refl
binders-kind (suc (suc (suc (suc (suc (suc (suc (suc (suc (suc (suc (suc (suc (suc (suc (suc (suc (suc (suc (suc (suc (suc (suc (suc (suc zero))))))))))))))))))))))))) w n p s = refl
binders-kind (suc (suc (suc (suc (suc (suc (suc (suc (suc (suc (suc (suc (suc (suc (suc (suc (suc (suc (suc (suc (suc (suc (suc (suc (suc (suc k)))))))))))))))))))))))))) w n p s = binders-kind-past (suc (suc (suc (suc (suc (suc (suc (suc (suc (suc (suc (suc (suc (suc (suc (suc (suc (suc (suc (suc (suc (suc (suc (suc (suc (suc k)))))))))))))))))))))))))) w n p s (omega arith)

main-kind-past : (k : ℕ) (w : Word) (n : ℕ) (s : List Token) → 26 ≤ k → main_of (token_of k w n ∷ s) ≡ cond (eqb k 14) (drop 2 s) (main_of s)
unfolding main_of token_of
main-kind-past k w n s h = rw (past-token k w n h, ne_eqb k 14 (λ e. omega arith))

pub main-kind : (k : ℕ) (w : Word) (n : ℕ) (s : List Token) → main_of (token_of k w n ∷ s) ≡ cond (eqb k 14) (drop 2 s) (main_of s)
unfolding main_of token_of
main-kind zero w n s = refl
main-kind (suc zero) w n s = refl
main-kind (suc (suc zero)) w n s = refl
main-kind (suc (suc (suc zero))) w n s = refl
main-kind (suc (suc (suc (suc zero)))) w n s = refl
main-kind (suc (suc (suc (suc (suc zero))))) w n s = refl
main-kind (suc (suc (suc (suc (suc (suc zero)))))) w n s = refl
main-kind (suc (suc (suc (suc (suc (suc (suc zero))))))) w n s = refl
main-kind (suc (suc (suc (suc (suc (suc (suc (suc zero)))))))) w n s = refl
main-kind (suc (suc (suc (suc (suc (suc (suc (suc (suc zero))))))))) w n s = refl
main-kind (suc (suc (suc (suc (suc (suc (suc (suc (suc (suc zero)))))))))) w n s = refl
main-kind (suc (suc (suc (suc (suc (suc (suc (suc (suc (suc (suc zero))))))))))) w n s = refl
main-kind (suc (suc (suc (suc (suc (suc (suc (suc (suc (suc (suc (suc zero)))))))))))) w n s = refl
main-kind (suc (suc (suc (suc (suc (suc (suc (suc (suc (suc (suc (suc (suc zero))))))))))))) w n s = refl
main-kind (suc (suc (suc (suc (suc (suc (suc (suc (suc (suc (suc (suc (suc (suc zero)))))))))))))) w n s = refl
main-kind (suc (suc (suc (suc (suc (suc (suc (suc (suc (suc (suc (suc (suc (suc (suc zero))))))))))))))) w n s = refl
main-kind (suc (suc (suc (suc (suc (suc (suc (suc (suc (suc (suc (suc (suc (suc (suc (suc zero)))))))))))))))) w n s = refl
main-kind (suc (suc (suc (suc (suc (suc (suc (suc (suc (suc (suc (suc (suc (suc (suc (suc (suc zero))))))))))))))))) w n s = refl
main-kind (suc (suc (suc (suc (suc (suc (suc (suc (suc (suc (suc (suc (suc (suc (suc (suc (suc (suc zero)))))))))))))))))) w n s = refl
main-kind (suc (suc (suc (suc (suc (suc (suc (suc (suc (suc (suc (suc (suc (suc (suc (suc (suc (suc (suc zero))))))))))))))))))) w n s = refl
main-kind (suc (suc (suc (suc (suc (suc (suc (suc (suc (suc (suc (suc (suc (suc (suc (suc (suc (suc (suc (suc zero)))))))))))))))))))) w n s = refl
main-kind (suc (suc (suc (suc (suc (suc (suc (suc (suc (suc (suc (suc (suc (suc (suc (suc (suc (suc (suc (suc (suc zero))))))))))))))))))))) w n s = refl
main-kind (suc (suc (suc (suc (suc (suc (suc (suc (suc (suc (suc (suc (suc (suc (suc (suc (suc (suc (suc (suc (suc (suc zero)))))))))))))))))))))) w n s = refl
main-kind (suc (suc (suc (suc (suc (suc (suc (suc (suc (suc (suc (suc (suc (suc (suc (suc (suc (suc (suc (suc (suc (suc (suc zero))))))))))))))))))))))) w n s = refl
main-kind (suc (suc (suc (suc (suc (suc (suc (suc (suc (suc (suc (suc (suc (suc (suc (suc (suc (suc (suc (suc (suc (suc (suc (suc zero)))))))))))))))))))))))) w n s = refl
main-kind (suc (suc (suc (suc (suc (suc (suc (suc (suc (suc (suc (suc (suc (suc (suc (suc (suc (suc (suc (suc (suc (suc (suc (suc (suc zero))))))))))))))))))))))))) w n s = refl
main-kind (suc (suc (suc (suc (suc (suc (suc (suc (suc (suc (suc (suc (suc (suc (suc (suc (suc (suc (suc (suc (suc (suc (suc (suc (suc (suc k)))))))))))))))))))))))))) w n s = main-kind-past (suc (suc (suc (suc (suc (suc (suc (suc (suc (suc (suc (suc (suc (suc (suc (suc (suc (suc (suc (suc (suc (suc (suc (suc (suc (suc k)))))))))))))))))))))))))) w n s (omega arith)

colons-kind-past : (k : ℕ) (w : Word) (n : ℕ) (s : List Token) → 26 ≤ k → colons (token_of k w n ∷ s) ≡ cond (eqb k 23) ([] ∷ colons s) (colons s)
unfolding colons token_of
colons-kind-past k w n s h = rw (past-token k w n h, ne_eqb k 23 (λ e. omega arith))

pub colons-kind : (k : ℕ) (w : Word) (n : ℕ) (s : List Token) → colons (token_of k w n ∷ s) ≡ cond (eqb k 23) ([] ∷ colons s) (colons s)
unfolding colons token_of
colons-kind zero w n s = refl
colons-kind (suc zero) w n s = refl
colons-kind (suc (suc zero)) w n s = refl
colons-kind (suc (suc (suc zero))) w n s = refl
colons-kind (suc (suc (suc (suc zero)))) w n s = refl
colons-kind (suc (suc (suc (suc (suc zero))))) w n s = refl
colons-kind (suc (suc (suc (suc (suc (suc zero)))))) w n s = refl
colons-kind (suc (suc (suc (suc (suc (suc (suc zero))))))) w n s = refl
colons-kind (suc (suc (suc (suc (suc (suc (suc (suc zero)))))))) w n s = refl
colons-kind (suc (suc (suc (suc (suc (suc (suc (suc (suc zero))))))))) w n s = refl
colons-kind (suc (suc (suc (suc (suc (suc (suc (suc (suc (suc zero)))))))))) w n s = refl
colons-kind (suc (suc (suc (suc (suc (suc (suc (suc (suc (suc (suc zero))))))))))) w n s = refl
colons-kind (suc (suc (suc (suc (suc (suc (suc (suc (suc (suc (suc (suc zero)))))))))))) w n s = refl
colons-kind (suc (suc (suc (suc (suc (suc (suc (suc (suc (suc (suc (suc (suc zero))))))))))))) w n s = refl
colons-kind (suc (suc (suc (suc (suc (suc (suc (suc (suc (suc (suc (suc (suc (suc zero)))))))))))))) w n s = refl
colons-kind (suc (suc (suc (suc (suc (suc (suc (suc (suc (suc (suc (suc (suc (suc (suc zero))))))))))))))) w n s = refl
colons-kind (suc (suc (suc (suc (suc (suc (suc (suc (suc (suc (suc (suc (suc (suc (suc (suc zero)))))))))))))))) w n s = refl
colons-kind (suc (suc (suc (suc (suc (suc (suc (suc (suc (suc (suc (suc (suc (suc (suc (suc (suc zero))))))))))))))))) w n s = refl
colons-kind (suc (suc (suc (suc (suc (suc (suc (suc (suc (suc (suc (suc (suc (suc (suc (suc (suc (suc zero)))))))))))))))))) w n s = refl
colons-kind (suc (suc (suc (suc (suc (suc (suc (suc (suc (suc (suc (suc (suc (suc (suc (suc (suc (suc (suc zero))))))))))))))))))) w n s = refl
colons-kind (suc (suc (suc (suc (suc (suc (suc (suc (suc (suc (suc (suc (suc (suc (suc (suc (suc (suc (suc (suc zero)))))))))))))))))))) w n s = refl
colons-kind (suc (suc (suc (suc (suc (suc (suc (suc (suc (suc (suc (suc (suc (suc (suc (suc (suc (suc (suc (suc (suc zero))))))))))))))))))))) w n s = refl
colons-kind (suc (suc (suc (suc (suc (suc (suc (suc (suc (suc (suc (suc (suc (suc (suc (suc (suc (suc (suc (suc (suc (suc zero)))))))))))))))))))))) w n s = refl
colons-kind (suc (suc (suc (suc (suc (suc (suc (suc (suc (suc (suc (suc (suc (suc (suc (suc (suc (suc (suc (suc (suc (suc (suc zero))))))))))))))))))))))) w n s = refl
colons-kind (suc (suc (suc (suc (suc (suc (suc (suc (suc (suc (suc (suc (suc (suc (suc (suc (suc (suc (suc (suc (suc (suc (suc (suc zero)))))))))))))))))))))))) w n s = refl
colons-kind (suc (suc (suc (suc (suc (suc (suc (suc (suc (suc (suc (suc (suc (suc (suc (suc (suc (suc (suc (suc (suc (suc (suc (suc (suc zero))))))))))))))))))))))))) w n s = refl
colons-kind (suc (suc (suc (suc (suc (suc (suc (suc (suc (suc (suc (suc (suc (suc (suc (suc (suc (suc (suc (suc (suc (suc (suc (suc (suc (suc k)))))))))))))))))))))))))) w n s = colons-kind-past (suc (suc (suc (suc (suc (suc (suc (suc (suc (suc (suc (suc (suc (suc (suc (suc (suc (suc (suc (suc (suc (suc (suc (suc (suc (suc k)))))))))))))))))))))))))) w n s (omega arith)

point-kind-past : (k : ℕ) (w : Word) (n : ℕ) (s : List Token) → 26 ≤ k → starts point (token_of k w n ∷ s) ≡ leb 25 k
unfolding starts token_of
point-kind-past k w n s h = rw (past-token k w n h, le-leb 25 k (omega arith))

pub point-kind : (k : ℕ) (w : Word) (n : ℕ) (s : List Token) → starts point (token_of k w n ∷ s) ≡ leb 25 k
unfolding starts token_of
point-kind zero w n s = refl
point-kind (suc zero) w n s = refl
point-kind (suc (suc zero)) w n s = refl
point-kind (suc (suc (suc zero))) w n s = refl
point-kind (suc (suc (suc (suc zero)))) w n s = refl
point-kind (suc (suc (suc (suc (suc zero))))) w n s = refl
point-kind (suc (suc (suc (suc (suc (suc zero)))))) w n s = refl
point-kind (suc (suc (suc (suc (suc (suc (suc zero))))))) w n s = refl
point-kind (suc (suc (suc (suc (suc (suc (suc (suc zero)))))))) w n s = refl
point-kind (suc (suc (suc (suc (suc (suc (suc (suc (suc zero))))))))) w n s = refl
point-kind (suc (suc (suc (suc (suc (suc (suc (suc (suc (suc zero)))))))))) w n s = refl
point-kind (suc (suc (suc (suc (suc (suc (suc (suc (suc (suc (suc zero))))))))))) w n s = refl
point-kind (suc (suc (suc (suc (suc (suc (suc (suc (suc (suc (suc (suc zero)))))))))))) w n s = refl
point-kind (suc (suc (suc (suc (suc (suc (suc (suc (suc (suc (suc (suc (suc zero))))))))))))) w n s = refl
point-kind (suc (suc (suc (suc (suc (suc (suc (suc (suc (suc (suc (suc (suc (suc zero)))))))))))))) w n s = refl
point-kind (suc (suc (suc (suc (suc (suc (suc (suc (suc (suc (suc (suc (suc (suc (suc zero))))))))))))))) w n s = refl
point-kind (suc (suc (suc (suc (suc (suc (suc (suc (suc (suc (suc (suc (suc (suc (suc (suc zero)))))))))))))))) w n s = refl
point-kind (suc (suc (suc (suc (suc (suc (suc (suc (suc (suc (suc (suc (suc (suc (suc (suc (suc zero))))))))))))))))) w n s = refl
point-kind (suc (suc (suc (suc (suc (suc (suc (suc (suc (suc (suc (suc (suc (suc (suc (suc (suc (suc zero)))))))))))))))))) w n s = refl
point-kind (suc (suc (suc (suc (suc (suc (suc (suc (suc (suc (suc (suc (suc (suc (suc (suc (suc (suc (suc zero))))))))))))))))))) w n s = refl
point-kind (suc (suc (suc (suc (suc (suc (suc (suc (suc (suc (suc (suc (suc (suc (suc (suc (suc (suc (suc (suc zero)))))))))))))))))))) w n s = refl
point-kind (suc (suc (suc (suc (suc (suc (suc (suc (suc (suc (suc (suc (suc (suc (suc (suc (suc (suc (suc (suc (suc zero))))))))))))))))))))) w n s = refl
point-kind (suc (suc (suc (suc (suc (suc (suc (suc (suc (suc (suc (suc (suc (suc (suc (suc (suc (suc (suc (suc (suc (suc zero)))))))))))))))))))))) w n s = refl
point-kind (suc (suc (suc (suc (suc (suc (suc (suc (suc (suc (suc (suc (suc (suc (suc (suc (suc (suc (suc (suc (suc (suc (suc zero))))))))))))))))))))))) w n s = refl
point-kind (suc (suc (suc (suc (suc (suc (suc (suc (suc (suc (suc (suc (suc (suc (suc (suc (suc (suc (suc (suc (suc (suc (suc (suc zero)))))))))))))))))))))))) w n s = refl
point-kind (suc (suc (suc (suc (suc (suc (suc (suc (suc (suc (suc (suc (suc (suc (suc (suc (suc (suc (suc (suc (suc (suc (suc (suc (suc zero))))))))))))))))))))))))) w n s = refl
point-kind (suc (suc (suc (suc (suc (suc (suc (suc (suc (suc (suc (suc (suc (suc (suc (suc (suc (suc (suc (suc (suc (suc (suc (suc (suc (suc k)))))))))))))))))))))))))) w n s = point-kind-past (suc (suc (suc (suc (suc (suc (suc (suc (suc (suc (suc (suc (suc (suc (suc (suc (suc (suc (suc (suc (suc (suc (suc (suc (suc (suc k)))))))))))))))))))))))))) w n s (omega arith)

word-kind-past : (k : ℕ) (w : Word) (n : ℕ) → 26 ≤ k → word_of (token_of k w n) ≡ cond (eqb k 0) w []
unfolding token_of
word-kind-past k w n h = rw (past-token k w n h, ne_eqb k 0 (λ e. omega arith))

pub word-kind : (k : ℕ) (w : Word) (n : ℕ) → word_of (token_of k w n) ≡ cond (eqb k 0) w []
unfolding token_of
word-kind zero w n = refl
word-kind (suc zero) w n = refl
word-kind (suc (suc zero)) w n = refl
word-kind (suc (suc (suc zero))) w n = refl
word-kind (suc (suc (suc (suc zero)))) w n = refl
word-kind (suc (suc (suc (suc (suc zero))))) w n = refl
word-kind (suc (suc (suc (suc (suc (suc zero)))))) w n = refl
word-kind (suc (suc (suc (suc (suc (suc (suc zero))))))) w n = refl
word-kind (suc (suc (suc (suc (suc (suc (suc (suc zero)))))))) w n = refl
word-kind (suc (suc (suc (suc (suc (suc (suc (suc (suc zero))))))))) w n = refl
word-kind (suc (suc (suc (suc (suc (suc (suc (suc (suc (suc zero)))))))))) w n = refl
word-kind (suc (suc (suc (suc (suc (suc (suc (suc (suc (suc (suc zero))))))))))) w n = refl
word-kind (suc (suc (suc (suc (suc (suc (suc (suc (suc (suc (suc (suc zero)))))))))))) w n = refl
word-kind (suc (suc (suc (suc (suc (suc (suc (suc (suc (suc (suc (suc (suc zero))))))))))))) w n = refl
word-kind (suc (suc (suc (suc (suc (suc (suc (suc (suc (suc (suc (suc (suc (suc zero)))))))))))))) w n = refl
word-kind (suc (suc (suc (suc (suc (suc (suc (suc (suc (suc (suc (suc (suc (suc (suc zero))))))))))))))) w n = refl
word-kind (suc (suc (suc (suc (suc (suc (suc (suc (suc (suc (suc (suc (suc (suc (suc (suc zero)))))))))))))))) w n = refl
word-kind (suc (suc (suc (suc (suc (suc (suc (suc (suc (suc (suc (suc (suc (suc (suc (suc (suc zero))))))))))))))))) w n = refl
word-kind (suc (suc (suc (suc (suc (suc (suc (suc (suc (suc (suc (suc (suc (suc (suc (suc (suc (suc zero)))))))))))))))))) w n = refl
word-kind (suc (suc (suc (suc (suc (suc (suc (suc (suc (suc (suc (suc (suc (suc (suc (suc (suc (suc (suc zero))))))))))))))))))) w n = refl
word-kind (suc (suc (suc (suc (suc (suc (suc (suc (suc (suc (suc (suc (suc (suc (suc (suc (suc (suc (suc (suc zero)))))))))))))))))))) w n = refl
word-kind (suc (suc (suc (suc (suc (suc (suc (suc (suc (suc (suc (suc (suc (suc (suc (suc (suc (suc (suc (suc (suc zero))))))))))))))))))))) w n = refl
word-kind (suc (suc (suc (suc (suc (suc (suc (suc (suc (suc (suc (suc (suc (suc (suc (suc (suc (suc (suc (suc (suc (suc zero)))))))))))))))))))))) w n = refl
word-kind (suc (suc (suc (suc (suc (suc (suc (suc (suc (suc (suc (suc (suc (suc (suc (suc (suc (suc (suc (suc (suc (suc (suc zero))))))))))))))))))))))) w n = refl
word-kind (suc (suc (suc (suc (suc (suc (suc (suc (suc (suc (suc (suc (suc (suc (suc (suc (suc (suc (suc (suc (suc (suc (suc (suc zero)))))))))))))))))))))))) w n = refl
word-kind (suc (suc (suc (suc (suc (suc (suc (suc (suc (suc (suc (suc (suc (suc (suc (suc (suc (suc (suc (suc (suc (suc (suc (suc (suc zero))))))))))))))))))))))))) w n = refl
word-kind (suc (suc (suc (suc (suc (suc (suc (suc (suc (suc (suc (suc (suc (suc (suc (suc (suc (suc (suc (suc (suc (suc (suc (suc (suc (suc k)))))))))))))))))))))))))) w n = word-kind-past (suc (suc (suc (suc (suc (suc (suc (suc (suc (suc (suc (suc (suc (suc (suc (suc (suc (suc (suc (suc (suc (suc (suc (suc (suc (suc k)))))))))))))))))))))))))) w n (omega arith)
