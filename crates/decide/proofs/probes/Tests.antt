-- A comparison as bounds of a value.
use mathlib.Core.Path.{◌≡◌, refl, sym, ap, ap₂, ◌∙◌}
use mathlib.Core.Bool.{Bool, true, false, not, cond, ◌&&◌}
use mathlib.Core.Option.{some}
use mathlib.Core.List.{List}
use Prim.Native.Nat.{ℕ, ◌+◌}
use native.Mathlib.Omega.{arith}
use lib.ListN.{get_or, drop}
use lib.Seq.{get_or-drop}
use lib.Dec.{ltb, leb}
use lib.IntN.{ℤ, pos, negsuc, nat_abs, ◌*ℤ◌, one, *ℤ-one}
use lib.Signed.{le_z, lt_z}
use borrow.Author.Tests.{ltb-true, ltb-false, le-leb, lt-leb}
use Rattle.model.specs.Meaning as M
use Rattle.numbers.specs.Numbers.{ordered, value_of, Number, Small}
use Rattle.numbers.proofs.Laws.{value-some}
use Rattle.numbers.specs.declared.Ratio.{Ratio}
use Rattle.decide.specs.Probe.{sided}
use Rattle.model.specs.Meaning.{Tuple}
use Rattle.catalogue.specs.Layout.{tuple_at}
use Rattle.decide.specs.Cursor.{inside, meets, passes}
use Rattle.decide.specs.declared.probes.Test.{Test}

pub and-turn : (a b : Bool) → a && b ≡ b && a
and-turn true true = refl
and-turn true false = refl
and-turn false true = refl
and-turn false false = refl

below-is : (a b : ℕ) → ltb a b ≡ not (leb b a)
below-is a b = go (ltb a b) refl
  where
    go : (x : Bool) → ltb a b ≡ x → ltb a b ≡ not (leb b a)
    go true h = h ∙ sym (ap not (lt-leb b a (ltb-true a b h)))
    go false h = h ∙ sym (ap not (le-leb b a (ltb-false a b h)))

pub less-is : (a b : ℤ) → lt_z a b ≡ not (le_z b a)
less-is (pos a) (pos b) = below-is a b
less-is (pos a) (negsuc b) = refl
less-is (negsuc a) (pos b) = refl
less-is (negsuc a) (negsuc b) = below-is b a

-- a value that is wanted to be elsewhere
pub unwanted : (x : Test) (u : ℤ) (b : Bool) → x.wanted ≡ false → inside x u ≡ b → meets x u ≡ not b
unwanted x u b w e = ap₂ (λ (v i : Bool). cond v i (not i)) w e

-- the sides exchanged
abbrev pub placed : ℕ → Bool → ℤ → ℤ → Bool
placed o mirrored a x = cond mirrored (ordered o x a) (ordered o a x)

-- a number is compared by its cross product
pub number-meets : (o : ℕ) (mirrored : Bool) (a n d : ℤ) (x : Ratio) → Small x → Number x → n ≡ x.numerator → d ≡ x.denominator → placed o mirrored (a *ℤ d) n ≡ sided o mirrored (some (M.whole a)) (value_of x)
unfolding M.ordered one
number-meets o mirrored a n d x s k en ed =
    let left : x.numerator *ℤ pos 1 ≡ n = *ℤ-one x.numerator ∙ sym en in
    let right : a *ℤ pos (nat_abs x.denominator) ≡ a *ℤ d = ap (λ (y : ℤ). a *ℤ y) (sym (ed ∙ s.sign)) in
    sym (ap (sided o mirrored (some (M.whole a))) (value-some x k) ∙ ap₂ (placed o mirrored) right left)

-- a value of a column, which begins with the attribute's first one
pub column-at : (a p w : ℕ) (vs col : List ℤ) (v : ℤ) → v ≡ get_or col p (pos 0) → col ≡ drop a vs → p ≡ w → v ≡ tuple_at vs w a
column-at a p w vs col v e f g = e ∙ ap (λ (xs : List ℤ). get_or xs p (pos 0)) f ∙ get_or-drop a vs p (pos 0) ∙ (let k : a + p ≡ w + a = omega (arith, g) in ap (λ (i : ℕ). get_or vs i (pos 0)) k)

-- what a value that the code has found says of the row that it is of
pub row-passes : (x : Test) (u : ℤ) (row : Tuple) (i : Bool) → u ≡ row x.attribute → i ≡ inside x u → cond x.wanted i (not i) ≡ passes x row
row-passes x u row i e f = ap (λ (b : Bool). cond x.wanted b (not b)) (f ∙ ap (inside x) e)
