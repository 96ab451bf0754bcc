-- What stands ahead of each token, one number a place: the V's of its level, the ^'s before the next V, the sign, how many tokens end the level; and its kind.
use Rattle.std.specs.Prelude.{ℕ, suc, ◌/◌, ◌%◌, ◌≤◌, List, [], ◌∷◌, map, ◌≡◌, length, drop, get_or}
use Rattle.quel.specs.Tokens.{Token}
use Rattle.quel.specs.Elaboration.{operator_of}
use Rattle.quel.specs.Ahead.{ahead, outer, ors_at, ands_at, operator_at}
use Rattle.tokens.specs.Table.{token_of}

abbrev pub ors_in : ℕ → ℕ
ors_in c = c / 2097152 % 4096

abbrev pub ands_in : ℕ → ℕ
ands_in c = c / 8589934592 % 4096

-- one less than the operator's number, so that 0 stands for nothing ahead
abbrev pub sign_in : ℕ → ℕ
sign_in c = c / 35184372088832 % 8

abbrev pub skip_in : ℕ → ℕ
skip_in c = c / 256 % 8192

abbrev pub kind_in : ℕ → ℕ
kind_in c = c % 256

-- tokens by their kinds alone: words and numbers do not count
unfoldable pub plain : List ℕ → List Token
plain ks = map (λ (k : ℕ). token_of k [] 0) ks

-- c says what stands ahead in ts
pub record Place (c : ℕ) (ts : List Token) : Type 0 where
  pub ors : ors_in c ≡ ors_at ts
  pub ands : ands_in c ≡ ands_at ts
  pub operator : suc (sign_in c) ≡ operator_of (operator_at ts)
  pub level : outer (ahead ts) ≡ ahead (drop (skip_in c) ts)
  pub ors-most : ors_in c ≤ length ts
  pub ands-most : ands_in c ≤ length ts
  pub skip-most : skip_in c ≤ length ts

-- one token more, before those of `next`; `after` is the place at which their level has ended
pub record Stepped (kind next after r : ℕ) : Type 0 where
  pub place : (ts : List Token) → Place next ts → Place after (drop (skip_in next) ts) → Place r (token_of kind [] 0 ∷ ts)
  pub kind-is : kind_in r ≡ kind

-- every place of the kinds from the nth on, and the one after the last
pub record Counted (kinds counts : List ℕ) (n : ℕ) : Type 0 where
  pub at : (i : ℕ) → n ≤ i → i ≤ length kinds → Place (get_or counts i 0) (plain (drop i kinds))
  pub kind : (i : ℕ) → n ≤ i → i ≤ length kinds → kind_in (get_or counts i 0) ≡ get_or kinds i 0
