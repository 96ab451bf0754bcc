use native.Mathlib.Omega.{arith}
use mathlib.Core.Path.{refl}
use Rattle.quick.proofs.symbols.mark.Goals as goal

pub bounds-symbols-i : goal.bounds-symbols-i
bounds-symbols-i c = omega (arith, c.requires)

pub returns-then-symbols-eq0 : goal.returns-then-symbols-eq0
returns-then-symbols-eq0 c = record { symbols_after = (λ _. refl); symbols_unchanged = λ n. absurd (n c.if-symbols-eq0.true) }

pub returns-else-symbols-eq0 : goal.returns-else-symbols-eq0
returns-else-symbols-eq0 c = record { symbols_after = (λ e. absurd (c.if-symbols-eq0.false e)); symbols_unchanged = λ _. refl }
