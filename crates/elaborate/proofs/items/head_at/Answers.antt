use mathlib.Core.Path.{refl, sym, subst, ◌∙◌}
use Prim.Native.Nat.{ℕ, ◌+◌}
use Rattle.names.specs.Entries.{entries}
use Rattle.tokens.specs.Codes.{Spelt}
use Rattle.elaborate.proofs.items.Tests.{head-same}
use Rattle.elaborate.proofs.items.head_at.Goals as goal

pub returns : goal.returns
returns c = let i = c.args.scope.i in
    λ w ρ d t h. c.head_item.ensures (w (i + 4)) (subst (λ (v : ℕ). Spelt (w (i + 4)) v) (sym c.code.ensures) (t.spelt (i + 4))) ∙ head-same (entries c.args.lookup.now.list.now) c.args.scope.n c.saturating_sub.ensures refl (c.seek-symbol.ensures w ρ d h)
