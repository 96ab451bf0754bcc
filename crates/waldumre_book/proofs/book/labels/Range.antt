-- The test of a row's three cells, each read from its bits.
use mathlib.Core.Path.{◌≡◌}
use lib.IntN.{ℤ}
use mir.Syntax.{w64}
use mir.Val.{SFits, to_z, of_z}
use mir.Facts.{to_z-of_z}
use Rattle.model.specs.Book.{Row, in_range}

module _ (label offer price : ℤ) where
  abbrev row : Row
  row = record { label = label; offer = offer; price = price }

  -- the cells may be read from their bits
  pub row-bits : SFits w64 label → SFits w64 offer → SFits w64 price → in_range (record { label = to_z w64 (of_z w64 label); offer = to_z w64 (of_z w64 offer); price = to_z w64 (of_z w64 price) }) ≡ in_range row
  row-bits f g h = rw (to_z-of_z f, to_z-of_z g, to_z-of_z h)
