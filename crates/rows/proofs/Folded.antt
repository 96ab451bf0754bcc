-- The hash of a row, and its bucket.
use mathlib.Core.Path.{◌≡◌, ap, ◌∙◌}
use mathlib.Core.Bool.{Bool, true, false, cond}
use mathlib.Core.List.{List}
use Prim.Native.Nat.{ℕ, suc, ◌+◌, ◌/◌, ◌%◌, ◌≤◌, ◌<◌}
use native.Mathlib.Omega.{arith}
use lib.Dec.{ltb}
use lib.IntN.{ℤ, pos}
use lib.ListN.{length, get_or, drop, drop_of_length-le}
use lib.Seq.{drop-cons}
use mir.Syntax.{w64}
use mir.Val.{SFits, to_z, of_z}
use mir.Facts.{to_z-of_z}
use Rattle.rows.specs.Chains.{mixed, hashed, heads_of, bucket_of}

-- what is left of a row decides
pub hash-next : (row : List ℤ) (i h k : ℕ) → i < length row → SFits w64 (get_or row i (pos 0)) → k ≡ mixed h (to_z w64 (of_z w64 (get_or row i (pos 0)))) → hashed h (drop i row) ≡ hashed k (drop (i + 1) row)
unfolding hashed
hash-next row i h k l f e =
    let e₁ : i + 1 ≡ suc i = omega arith in
    let e₂ : k ≡ mixed h (get_or row i (pos 0)) = e ∙ ap (λ (z : ℤ). mixed h z) (to_z-of_z f) in
    ap (hashed h) (drop-cons row i (pos 0) l) ∙ (rw (e₁, e₂))

pub hash-end : (row : List ℤ) (i h : ℕ) → length row ≤ i → hashed h (drop i row) ≡ h
unfolding hashed
hash-end row i h l = rw (drop_of_length-le row l)

-- a bucket has a head
pub bucket-low : (l : ℕ) (x : List ℤ) → bucket_of l x < heads_of l
bucket-low l x = go (ltb l 512) (ltb l 8192)
  where
    go : (a b : Bool) → cond a 0 (hashed 0 x / 1024 % cond b 512 4096) < cond b 512 4096
    go true true = omega arith
    go true false = omega arith
    go false true = omega arith
    go false false = omega arith
