-- The part of a list from a on, as a slice's part states it.
use mathlib.Core.Path.{◌≡◌}
use mathlib.Core.List.{List, []}
use Prim.Native.Nat.{ℕ, ◌-◌, ◌≤◌}
use native.Mathlib.Omega.{arith}
use lib.ListN.{length, take, drop, length-drop, drop_of_length-le}
use lib.Seq.{take_all}

pub rest : (a : ℕ) (l : List ℕ) → take (length l - a) (drop a l) ≡ drop a l
rest a l = take_all (length l - a) (drop a l) (simp length-drop (omega arith))

pub nothing : (a : ℕ) (l : List ℕ) → length l ≤ a → drop a l ≡ []
nothing a l h = drop_of_length-le l h
