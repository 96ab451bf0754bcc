use mathlib.Core.Path.{◌≡◌, sym, ap, subst, ◌∙◌}
use mathlib.Core.List.{List}
use Prim.Native.Nat.{ℕ, ◌≤◌}
use native.Mathlib.Omega.{arith}
use lib.ListN.{length, get_or}
use lib.Seq.{length-take-le}
use Rattle.names.specs.Search.{Indexed}
use Rattle.elaborate.proofs.Lookup.{room_most, take-zero, ids-zero, chains-back, ids-still}
use Rattle.reader.proofs.chained.Goals as goal

pub slice_bounds-listed-end : goal.slice_bounds-listed-end
slice_bounds-listed-end c = omega (arith, c.room-k.ensures, c.requires.0)

pub slice_bounds-listed-end-2 : goal.slice_bounds-listed-end-2
slice_bounds-listed-end-2 c = sym (length-take-le c.room-k.result c.args.lookup.now (omega (arith, c.room-k.ensures, c.requires.0)))

pub listed-requires : goal.listed-requires
listed-requires c = let k = c.room-k.result in let t = c.args.lookup.now in let ek = c.room-k.ensures in
    let l = length-take-le k t (omega (arith, ek, c.requires.0)) in let m = room_most (length t) in
    (omega (arith, l, ek, m.0), omega (arith, l, ek, m.1), take-zero k t c.requires.1)

pub returns : goal.returns
returns c = let k = c.room-k.result in let t = c.args.lookup.now in let ek = c.room-k.ensures in
    let h : k ≤ length t = omega (arith, ek, c.requires.0) in
    let y = c.listed.new.index in
    let ey : length y ≡ k = c.listed.auto.index ∙ length-take-le k t h in record { value = c.listed.ensures.value; indexed = (λ e. subst (Indexed c.args.list.now) (chains-back t k ek h y ey) (c.listed.ensures.indexed e), λ x. ap (λ (l : List ℕ). get_or l x 0) (ids-still t k ek h y ey) ∙ ids-zero t k ek c.requires.1 x) }
