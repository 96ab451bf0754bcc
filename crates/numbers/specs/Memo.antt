-- Values kept by the number of a variable: the numerator of v at 2v, its denominator and 1 after it.
use Rattle.std.specs.Prelude.{ℕ, suc, ◌+◌, ◌-◌, ◌*◌, Bool, ◌&&◌, List, ℤ, pos, neg_ℤ, nat_abs, get_or, set}
use Rattle.std.proofs.Math.Option.{none, some}
use Rattle.std.specs.Int.Signed.{le_z}
use Rattle.model.specs.Meaning as M
use Rattle.numbers.specs.Numbers.{fraction}

abbrev pub numerator_at : List ℤ → ℕ → ℤ
numerator_at m v = get_or m (2 * v) (pos 0)

-- the mark of a variable: 0 where nothing was kept, 1 where the value kept is nothing, else the denominator and 1
abbrev pub mark_at : List ℤ → ℕ → ℤ
mark_at m v = get_or m (2 * v + 1) (pos 0)

abbrev pub within : ℤ → ℤ → ℤ → Bool
within low x high = le_z low x && le_z x high

-- whether a value is kept, of those that a query can have
unfoldable pub knows : List ℤ → ℕ → Bool
knows m v = within (neg_ℤ (pos 140735340871680)) (numerator_at m v) (pos 140735340871680) && within (pos 1) (mark_at m v) (pos 65536)

unfoldable pub recalled : List ℤ → ℕ → M.Value
recalled m v = fraction (numerator_at m v) (nat_abs (mark_at m v) - 1)

-- how a value is kept
abbrev pub numerator_of : M.Value → ℤ
numerator_of none = pos 0
numerator_of (some x) = x.numerator

abbrev pub mark_of : M.Value → ℤ
mark_of none = pos 1
mark_of (some x) = pos (suc x.denominator)

unfoldable pub remembered : List ℤ → ℕ → M.Value → List ℤ
remembered m v x = set (set m (2 * v) (numerator_of x)) (2 * v + 1) (mark_of x)
