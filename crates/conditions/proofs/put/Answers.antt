use mathlib.Core.Path.{◌≡◌, sym}
use mathlib.Core.List.{List}
use Prim.Native.Nat.{ℕ, ◌<◌, ◌≤◌}
use lib.ListN.{length, set}
use lib.Seq.{set_out}
use Rattle.std.proofs.Common.{inl, inr}
use borrow.Author.Tests.{lt-ltb, le-ltb}
use Rattle.sizes.specs.Measured.{store}
use Rattle.conditions.proofs.put.Goals as goal

large : (z : List ℕ) (p n : ℕ) → 65536 ≤ n → z ≡ store z p n
unfolding store
large z p n h = simp (le-ltb _ _ h)

outside : (z : List ℕ) (p n : ℕ) → n < 65536 → length z ≤ p → z ≡ store z p n
unfolding store
outside z p n h l = simp (lt-ltb _ _ h) (sym (set_out z p n l))

inside : (z : List ℕ) (p n : ℕ) → n < 65536 → set z p n ≡ store z p n
unfolding store
inside z p n h = simp (lt-ltb _ _ h)

pub returns-then-at-z : goal.returns-then-at-z
returns-then-at-z c = inside c.args.z.now c.args.at c.args.n c.if-n-lt65536.true

pub returns-else-n-lt65536 : goal.returns-else-n-lt65536
returns-else-n-lt65536 c = elim c.else-n-lt65536.either [ inl w ↦ outside c.args.z.now c.args.at c.args.n w.0 w.1 | inr w ↦ large c.args.z.now c.args.at c.args.n w ]
