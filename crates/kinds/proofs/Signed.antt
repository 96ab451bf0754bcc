-- Two's complement at 32 bits.
use mathlib.Core.Path.{◌≡◌, refl}
use Prim.Native.Nat.{ℕ, ◌+◌, ◌*◌, ◌<◌}
use borrow.Author.Tests.{lt-ltb}
use mir.Syntax.{w32}
use mir.Val.{to_z}
use Rattle.model.specs.Meaning.{signed}

module _ (a b c d n : ℕ) (e : n ≡ a + 256 * b + 65536 * c + 16777216 * d) where
  -- as the methods from_le_bytes and cast_signed say it
  pub read-as : n < 4294967296 → to_z w32 n ≡ signed a b c d
  unfolding signed
  read-as k = rw (← e, lt-ltb n 4294967296 k) refl
