-- A condition as a table of branches: each leads on to one of two earlier ones, until 0, it holds, or 1, it fails. Eight numbers a branch:
-- operator (0: a condition of the query, by its place and its level; 256: some row of a variable leads from an earlier branch to 0), left variable or
-- place or the variable, left attribute or level or that branch, right variable, right attribute, where it leads if it holds, where if it fails,
-- and 0. Behind all branches, from entry 512 on, stand two numbers for each, the left and the right, as two halves of 16 bits each.
use Rattle.std.specs.Prelude.{ℕ, zero, suc, ◌+◌, ◌-◌, ◌*◌, Bool, false, cond, List, eqb, ltb, ℤ, pos, get_or, drop}
use Rattle.std.proofs.Math.Option.{some}
use Rattle.model.specs.Meaning.{Assignment, Value, whole, compare, signed}
use Rattle.numbers.specs.Memo.{knows, recalled}
use Rattle.sizes.specs.Decode.{decode}
use Rattle.numbers.specs.Recalled.{holds_by}
use Rattle.walks.specs.Walks.{walked, rows_by}
use Rattle.model.specs.Lists.{update, any}

-- number j of branch i
abbrev pub field : List ℕ → ℕ → ℕ → ℕ
field t i j = get_or t (8 * i + j) 0

-- number j of a table
abbrev pub number : List ℕ → ℕ → ℤ
number t j = signed (get_or t (512 + 2 * j) 0) 0 (get_or t (513 + 2 * j) 0) 0

-- what the memo has for a variable, 0 where it does not know it: no branch asks for that
abbrev pub recalled_or0 : List ℤ → ℕ → Value
recalled_or0 m v = cond (knows m v) (recalled m v) (some (whole (pos 0)))

-- a side of a comparison: an attribute of a variable's row; from 256 on what the memo has for the variable 256 below; from 512 on the number x
abbrev pub operand : List ℤ → ℕ → ℕ → ℤ → Assignment → Value
operand m v a x e = cond (ltb v 256) (some (whole (e v a))) (cond (ltb v 512) (recalled_or0 m (v - 256)) (some (whole x)))

module _ (t q z ws : List ℕ) (vs m : List ℤ) where
  -- whether branch i holds, where `run` says which of the earlier ones lead to 0
  unfoldable pub holds_in : (ℕ → Assignment → Bool) → ℕ → Assignment → Bool
  holds_in run i e =
      cond (eqb (field t i 0) 0)
      (holds_by m (decode (field t i 2) (drop (field t i 1) q) (drop (field t i 1) z)) (rows_by ws vs) e)
      (cond (eqb (field t i 0) 256)
      (cond (ltb (field t i 2) i) (cond (ltb (field t i 1) 256) (any (λ x. run (field t i 2) (update e (field t i 1) x)) (walked ws vs (field t i 1))) false) false)
      (compare (field t i 0) (operand m (field t i 1) (field t i 2) (number t (2 * i)) e) (operand m (field t i 3) (field t i 4) (number t (2 * i + 1)) e)))

  -- where it leads
  abbrev pub next_in : (ℕ → Assignment → Bool) → ℕ → Assignment → ℕ
  next_in run i e = cond (holds_in run i e) (field t i 5) (field t i 6)

  -- the end that branch i leads to, in fewer than n steps; one that does not lead to an earlier branch fails
  unfoldable pub leads : ℕ → ℕ → Assignment → Bool
  leads zero i e = false
  leads (suc n) i e = cond (ltb i 2) (eqb i 0) (cond (ltb (next_in (λ j u. leads n j u) i e) i) (leads n (next_in (λ j u. leads n j u) i e) e) false)

  unfoldable pub runs : ℕ → Assignment → Bool
  runs i e = leads (suc i) i e

  unfoldable pub branch_holds : ℕ → Assignment → Bool
  branch_holds i e = holds_in (λ j u. runs j u) i e

  abbrev pub next : ℕ → Assignment → ℕ
  next i e = cond (branch_holds i e) (field t i 5) (field t i 6)
