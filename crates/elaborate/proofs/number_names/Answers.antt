use mathlib.Core.Path.{◌≡◌, sym, ap, subst, ◌∙◌}
use mathlib.Core.List.{List}
use Prim.Native.Nat.{ℕ, ◌-◌, ◌≤◌}
use native.Mathlib.Omega.{arith}
use lib.ListN.{length, get_or, drop, length-drop}
use lib.Seq.{length-take-le}
use Rattle.elaborate.specs.Places.{name_in}
use Rattle.elaborate.specs.Numbers.{Numbered}
use Rattle.elaborate.proofs.Lookup.{room_most, ids-lent, numbers-back, chains-still}
use Rattle.elaborate.proofs.number_names.Goals as goal

pub offset_bounds-lookup-k : goal.offset_bounds-lookup-k
offset_bounds-lookup-k c = record { fits = omega (arith, c.room-k.ensures, (room_most (length c.args.lookup.now)).1) }

pub slice_bounds-number-count : goal.slice_bounds-number-count
slice_bounds-number-count c = omega (arith, c.room-k.ensures, c.requires.2)

pub slice_bounds-number-start : goal.slice_bounds-number-start
slice_bounds-number-start c = omega (arith, c.room-k.ensures, c.requires.2)

pub number-requires : goal.number-requires
number-requires c = let k = c.room-k.result in let t = c.args.lookup.now in let ek = c.room-k.ensures in (c.requires.0, omega (arith, length-take-le (length t - k) (drop k t) (omega (arith, length-drop k t)), ek, c.requires.2), c.requires.1, λ x. ap (λ (l : List ℕ). get_or l x 0) (ids-lent t k ek) ∙ c.requires.3 x)

pub returns : goal.returns
returns c = let k = c.room-k.result in let t = c.args.lookup.now in let ek = c.room-k.ensures in
    let ids = c.number.new.ids in
    let h : k ≤ length t = omega (arith, ek, c.requires.2) in
    let ey : length ids ≡ length t - k = c.number.auto.ids ∙ length-take-le (length t - k) (drop k t) (omega (arith, length-drop k t)) in record { numbered = subst (Numbered (name_in c.args.tokens.now.text.now c.args.tokens.now.kinds.now c.args.tokens.now.starts.now) (length c.args.tokens.now.kinds.now)) (sym (numbers-back t k ek h ids ey)) c.number.ensures; lookup_unchanged = chains-still t k ek h ids ey }
