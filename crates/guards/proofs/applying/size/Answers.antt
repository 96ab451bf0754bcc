use mathlib.Core.Path.{ap, ap₂, ◌∙◌}
use native.Mathlib.Omega.{arith}
use Prim.Native.Nat.{ℕ, ◌+◌}
use Rattle.permits.specs.Entries.{span_of, size_of}
use lib.ListN.{length, drop, length-drop}
use Rattle.guards.proofs.applying.size.Goals as goal

pub returns : goal.returns
unfolding size_of
returns c = let list = c.args.permits.now in
    let rest = c.tail.ensures ∙ ap (λ (n : ℕ). drop n list) c.header-own.ensures in record { value = ap₂ (λ (n m : ℕ). n + m) c.header-own.ensures (c.span.ensures.value ∙ ap span_of rest); lower_bound = (omega (arith, c.header-own.ensures), omega (arith, c.header-own.ensures, c.span.ensures.upper_bound, ap length rest, length-drop 4 list)) }
