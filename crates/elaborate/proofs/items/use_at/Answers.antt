use mathlib.Core.Path.{sym, ap, subst, ◌∙◌}
use Prim.Native.Nat.{ℕ, ◌+◌}
use Rattle.names.specs.Entries.{entries}
use Rattle.tokens.specs.Codes.{Spelt}
use Rattle.elaborate.specs.Actions.{use_item}
use Rattle.elaborate.proofs.items.use_at.Goals as goal

pub returns : goal.returns
returns c = let i = c.args.scope.i in
    λ w ρ d t h. c.use_item.ensures (w (i + 2)) (subst (λ (v : ℕ). Spelt (w (i + 2)) v) (sym c.code.ensures) (t.spelt (i + 2))) ∙ ap (use_item (entries c.args.lookup.now.list.now) (w (i + 2))) (c.seek-symbol.ensures w ρ d h)
