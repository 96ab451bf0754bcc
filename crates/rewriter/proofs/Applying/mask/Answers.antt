use mathlib.Core.Path.{sym, ap, ◌∙◌}
use Prim.Native.Nat.{ℕ, ◌+◌}
use lib.ListN.{get_or}
use lib.Seq.{get_or-drop}
use Rattle.rewriter.proofs.Applying.mask.Goals as goal

pub returns : goal.returns
returns c = let t = c.args.self.now.table.now in
    record { value = c.size_at.ensures.value ∙ ap (λ (i : ℕ). get_or t (16 + i) 0) c.from.ensures ∙ sym (get_or-drop 16 t c.args.variable 0); upper_bound = c.size_at.ensures.upper_bound }
