-- One side of a comparison read.
use Prim.Native.Nat.{ℕ, ◌+◌, ◌-◌, ◌≤◌, ◌<◌}
use mathlib.Core.Bool.{Bool, true, false, not}
use mathlib.Core.List.{List}
use mathlib.Core.Option.{some}
use mathlib.Core.Path.{◌≡◌, sym, ap, ap₂, ◌∙◌}
use native.Mathlib.Omega.{arith}
use lib.IntN.{ℤ, pos}
use lib.ListN.{length, get_or}
use borrow.Author.Tests.{lt-ltb, le-ltb}
use Rattle.model.specs.Meaning as M
use Rattle.model.specs.Meaning.{whole, compare}
use Rattle.model.proofs.Tests.{not_yes, not-no}
use Rattle.numbers.specs.Numbers.{value_of}
use Rattle.numbers.specs.Memo.{knows, recalled}
use Rattle.numbers.specs.declared.Ratio.{Ratio}
use Rattle.walks.specs.Assigned.{assigned}
use Rattle.walks.proofs.Assigned.{get_or-inside}
use Rattle.branches.specs.Branches.{number, recalled_or0, operand}

-- what the memo has
module _ (m : List ℤ) (v : ℕ) (b : Bool) (r : Ratio) (eb : b ≡ knows m v) where
  pub recalled-none : (x : ℤ) → not b ≡ true → x ≡ pos 0 → value_of r ≡ some (whole x) → value_of r ≡ recalled_or0 m v
  recalled-none x h ex er = er ∙ ap (λ (y : ℤ). some (whole y)) ex ∙ sym (rw (sym eb ∙ not_yes b h))

  pub recalled-some : not b ≡ false → value_of r ≡ recalled m v → value_of r ≡ recalled_or0 m v
  recalled-some h er = er ∙ sym (rw (sym eb ∙ not-no b h))

-- one side of a comparison
module _ (t e : List ℕ) (vs m : List ℤ) (i j v : ℕ) (r : Ratio) (ev : v ≡ get_or t i 0) where
  at-v : (x : M.Value) → value_of r ≡ x → operand m v (get_or t (i + 1) 0) (number t j) (assigned vs e) ≡ x
      → value_of r ≡ operand m (get_or t i 0) (get_or t (i + 1) 0) (number t j) (assigned vs e)
  at-v x er ex = er ∙ sym ex ∙ ap (λ (w : ℕ). operand m w (get_or t (i + 1) 0) (number t j) (assigned vs e)) ev

  pub side-attribute : (row a : ℕ) (x : ℤ) → v < 256 → 256 ≤ length e → row ≡ get_or e v 0 → a ≡ get_or t (i + 1) 0 → x ≡ get_or vs (row + a) (pos 0) → value_of r ≡ some (whole x)
      → value_of r ≡ operand m (get_or t i 0) (get_or t (i + 1) 0) (number t j) (assigned vs e)
  side-attribute row a x h k er ea ex eq =
      at-v (some (whole x)) eq (rw (lt-ltb v 256 h) (ap (λ (y : ℤ). some (whole y)) (sym (ex ∙ ap₂ (λ (r b : ℕ). get_or vs (r + b) (pos 0)) (er ∙ get_or-inside e v 0 (length vs) (omega arith)) ea))))

  pub side-memo : (w : ℕ) → 256 ≤ v → v < 512 → w ≡ v - 256 → value_of r ≡ recalled_or0 m w → value_of r ≡ operand m (get_or t i 0) (get_or t (i + 1) 0) (number t j) (assigned vs e)
  side-memo w h k ew eq = at-v (recalled_or0 m w) eq (rw (le-ltb v 256 h, lt-ltb v 512 k) (ap (recalled_or0 m) (sym ew)))

  pub side-number : (x : ℤ) → 256 ≤ v → 512 ≤ v → x ≡ number t j → value_of r ≡ some (whole x) → value_of r ≡ operand m (get_or t i 0) (get_or t (i + 1) 0) (number t j) (assigned vs e)
  side-number x h k ex eq = at-v (some (whole x)) eq (rw (le-ltb v 256 h, le-ltb v 512 k) (ap (λ (y : ℤ). some (whole y)) (sym ex)))
