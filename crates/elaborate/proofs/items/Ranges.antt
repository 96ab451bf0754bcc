-- A step of the loop over the RANGE list, by the kind of the token.
use Prim.Native.Nat.{ℕ, zero, suc, ◌≤◌}
use mathlib.Core.Bool.{cond}
use mathlib.Core.List.{List, [], ◌∷◌}
use mathlib.Core.Option.{Option, none}
use mathlib.Core.Path.{◌≡◌, refl}
use native.Mathlib.Omega.{arith}
use lib.Dec.{eqb}
use borrow.Author.Tests.{ne_eqb}
use Rattle.quel.specs.Results.{ok, Word}
use Rattle.quel.specs.Tokens.{Token}
use Rattle.quel.specs.Names.{Entry}
use Rattle.tokens.specs.Table.{token_of}
use Rattle.flat.specs.Flat.{range_name, bound}
use Rattle.elaborate.proofs.items.Turns.{past-token}

module _ (es : List Entry) (us : List Word) where
  bound-past : (k : ℕ) (w : Word) (v : ℕ) (o : Option ℕ) (n : ℕ) (s : List Token) → 26 ≤ k → bound es us o n (token_of k w v ∷ s) ≡ cond (eqb k 0) (range_name es o us w n (λ o n. bound es us o n s)) (cond (eqb k 14) (ok [] n) (bound es us (cond (eqb k 21) none o) n s))
  unfolding bound
  bound-past k w v o n s h = rw (past-token k w v h, ne_eqb k 0 (λ e. omega arith), ne_eqb k 14 (λ e. omega arith), ne_eqb k 21 (λ e. omega arith))

  pub bound-kind : (k : ℕ) (w : Word) (v : ℕ) (o : Option ℕ) (n : ℕ) (s : List Token) → bound es us o n (token_of k w v ∷ s) ≡ cond (eqb k 0) (range_name es o us w n (λ o n. bound es us o n s)) (cond (eqb k 14) (ok [] n) (bound es us (cond (eqb k 21) none o) n s))
  unfolding bound token_of
  bound-kind zero w v o n s = refl
  bound-kind (suc zero) w v o n s = refl
  bound-kind (suc (suc zero)) w v o n s = refl
  bound-kind (suc (suc (suc zero))) w v o n s = refl
  bound-kind (suc (suc (suc (suc zero)))) w v o n s = refl
  bound-kind (suc (suc (suc (suc (suc zero))))) w v o n s = refl
  bound-kind (suc (suc (suc (suc (suc (suc zero)))))) w v o n s = refl
  bound-kind (suc (suc (suc (suc (suc (suc (suc zero))))))) w v o n s = refl
  bound-kind (suc (suc (suc (suc (suc (suc (suc (suc zero)))))))) w v o n s = refl
  bound-kind (suc (suc (suc (suc (suc (suc (suc (suc (suc zero))))))))) w v o n s = refl
  bound-kind (suc (suc (suc (suc (suc (suc (suc (suc (suc (suc zero)))))))))) w v o n s = refl
  bound-kind (suc (suc (suc (suc (suc (suc (suc (suc (suc (suc (suc zero))))))))))) w v o n s = refl
  bound-kind (suc (suc (suc (suc (suc (suc (suc (suc (suc (suc (suc (suc zero)))))))))))) w v o n s = refl
  bound-kind (suc (suc (suc (suc (suc (suc (suc (suc (suc (suc (suc (suc (suc zero))))))))))))) w v o n s = refl
  bound-kind (suc (suc (suc (suc (suc (suc (suc (suc (suc (suc (suc (suc (suc (suc zero)))))))))))))) w v o n s = refl
  bound-kind (suc (suc (suc (suc (suc (suc (suc (suc (suc (suc (suc (suc (suc (suc (suc zero))))))))))))))) w v o n s = refl
  bound-kind (suc (suc (suc (suc (suc (suc (suc (suc (suc (suc (suc (suc (suc (suc (suc (suc zero)))))))))))))))) w v o n s = refl
  bound-kind (suc (suc (suc (suc (suc (suc (suc (suc (suc (suc (suc (suc (suc (suc (suc (suc (suc zero))))))))))))))))) w v o n s = refl
  bound-kind (suc (suc (suc (suc (suc (suc (suc (suc (suc (suc (suc (suc (suc (suc (suc (suc (suc (suc zero)))))))))))))))))) w v o n s = refl
  bound-kind (suc (suc (suc (suc (suc (suc (suc (suc (suc (suc (suc (suc (suc (suc (suc (suc (suc (suc (suc zero))))))))))))))))))) w v o n s = refl
  bound-kind (suc (suc (suc (suc (suc (suc (suc (suc (suc (suc (suc (suc (suc (suc (suc (suc (suc (suc (suc (suc zero)))))))))))))))))))) w v o n s = refl
  bound-kind (suc (suc (suc (suc (suc (suc (suc (suc (suc (suc (suc (suc (suc (suc (suc (suc (suc (suc (suc (suc (suc zero))))))))))))))))))))) w v o n s = refl
  bound-kind (suc (suc (suc (suc (suc (suc (suc (suc (suc (suc (suc (suc (suc (suc (suc (suc (suc (suc (suc (suc (suc (suc zero)))))))))))))))))))))) w v o n s = refl
  bound-kind (suc (suc (suc (suc (suc (suc (suc (suc (suc (suc (suc (suc (suc (suc (suc (suc (suc (suc (suc (suc (suc (suc (suc zero))))))))))))))))))))))) w v o n s = refl
  bound-kind (suc (suc (suc (suc (suc (suc (suc (suc (suc (suc (suc (suc (suc (suc (suc (suc (suc (suc (suc (suc (suc (suc (suc (suc zero)))))))))))))))))))))))) w v o n s = refl
  bound-kind (suc (suc (suc (suc (suc (suc (suc (suc (suc (suc (suc (suc (suc (suc (suc (suc (suc (suc (suc (suc (suc (suc (suc (suc (suc zero))))))))))))))))))))))))) w v o n s = refl
  bound-kind (suc (suc (suc (suc (suc (suc (suc (suc (suc (suc (suc (suc (suc (suc (suc (suc (suc (suc (suc (suc (suc (suc (suc (suc (suc (suc k)))))))))))))))))))))))))) w v o n s = bound-past (suc (suc (suc (suc (suc (suc (suc (suc (suc (suc (suc (suc (suc (suc (suc (suc (suc (suc (suc (suc (suc (suc (suc (suc (suc (suc k)))))))))))))))))))))))))) w v o n s (omega arith)
