use borrow.Author.Rules.{rules}
use native.Mathlib.Omega.{arith}
use mathlib.Core.Path.{◌≡◌, ap, sym, ◌∙◌}
use Prim.Native.Nat.{ℕ, suc, ◌+◌}
use Rattle.kinds.specs.Tables.{body_of, record_length}
use Rattle.kinds.proofs.Entries.{length-unknown, length-known, length-small}
use Rattle.kinds.proofs.record_length.Goals as goal

one : (k n : ℕ) → n ≡ body_of k → n ≡ 255 → 1 ≡ record_length k
one k n e h = sym (length-unknown k (sym e ∙ h))

more : (k n w : ℕ) → n ≡ body_of k → (n ≡ 255 → ⊥) → w ≡ n → 1 + w ≡ record_length k
more k n w e h q = omega (arith, length-known k (λ x. h (e ∙ x)))

pub returns-then-n : goal.returns-then-n
returns-then-n c = let p = one c.args.kind c.body_length-n.result c.body_length-n.ensures c.if-n.true in record { value = p; lower_bound = (omega arith, omega arith) }

pub returns-else-n : goal.returns-else-n
returns-else-n c = let p = more c.args.kind c.body_length-n.result c.from.result c.body_length-n.ensures c.if-n.false c.from.ensures in record { value = p; lower_bound = (omega arith, omega (arith, (length-small c.args.kind).1)) }
