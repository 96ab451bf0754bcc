use native.Mathlib.Omega.{arith}
use mathlib.Core.Path.{refl, ◌∙◌}
use Prim.Native.Nat.{◌*◌, ◌-◌, ◌/◌}
use lib.ListN.{length, length-set}
use mir.Syntax.{w64}
use mir.Facts.{to_z-of_z}
use Rattle.waldumre_book.proofs.book.Entries.{blank-size}
use Rattle.waldumre_book.proofs.book.Walk.{from_end, from_next, label-cast, price-cast, label-most}
use Rattle.waldumre_book.proofs.book.enter.Goals as goal

pub loop-i-init : goal.loop-i-init
loop-i-init c = (from_end c.args.cells.now c.args.offers.now c.args.display.now (3 * (length c.args.cells.now / 3)) (omega arith) c.requires.display_value, refl, refl)

pub overflow_cast-label : goal.overflow_cast-label
overflow_cast-label c = label-cast c.args.cells.now c.requires.cells_value (c.loop-i.i - 1) (omega arith)

pub overflow_cast-price : goal.overflow_cast-price
overflow_cast-price c = price-cast c.args.cells.now c.requires.cells_value (c.loop-i.i - 1) (omega arith)

pub offset_bounds-offers-label : goal.offset_bounds-offers-label
offset_bounds-offers-label c = record { fits = omega (arith, label-most c.args.cells.now c.requires.cells_value (c.loop-i.i - 1) (omega arith)) }

pub bounds-offers-label : goal.bounds-offers-label
bounds-offers-label c =
    omega (arith, label-most c.args.cells.now c.requires.cells_value (c.loop-i.i - 1) (omega arith), blank-size c.args.offers.now c.args.display.now c.requires.display_value, c.loop-i.invariant.1)

pub overflow_mul-label : goal.overflow_mul-label
overflow_mul-label c = record { fits = omega (arith, label-most c.args.cells.now c.requires.cells_value (c.loop-i.i - 1) (omega arith)) }

pub put_price-requires : goal.put_price-requires
put_price-requires c = omega (arith, label-most c.args.cells.now c.requires.cells_value (c.loop-i.i - 1) (omega arith))

pub loop-i-preserved : goal.loop-i-preserved
loop-i-preserved c =
    (from_next c.args.cells.now c.requires.cells_value (c.loop-i.i - 1) (omega arith) c.loop-i.offers c.loop-i.display (3 * c.loop-i.i) (omega arith) c.loop-i.invariant.0 _ _ (to_z-of_z {w = w64} (record { sfits = c.offer-1.given })) c.put_price.ensures, length-set c.loop-i.offers _ _ ∙ c.loop-i.invariant.1, c.put_price.auto.display ∙ c.loop-i.invariant.2)
