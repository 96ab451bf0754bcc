use Rattle.std.proofs.Common.{ℕ, List, set, sym, subst, ap, ◌∙◌}
use mathlib.Core.Path.{ap₂}
use Rattle.rewriter.specs.Rewritten.{masks_in}
use Rattle.guards.specs.Counted.{Short, length_from}
use Rattle.guards.proofs.Parts.{mask-put}
use Rattle.guards.proofs.enter.Goals as goal

pub guard_length-requires : goal.guard_length-requires
guard_length-requires c = subst Short (sym (mask-put c.args.table.now _ _ _ _ _ c.from.ensures c.from-2.ensures c.put.ensures).1) c.requires

pub returns-clause-length : goal.returns-clause-length
returns-clause-length c =
    let p = mask-put c.args.table.now _ _ _ _ _ c.from.ensures c.from-2.ensures c.put.ensures in
    c.guard_length.ensures.0 ∙ ap₂ (λ (x : List ℕ) (m : ℕ). length_from x 8 m 0) p.1 c.mask_for-mask.ensures

pub returns-clause-table_after : goal.returns-clause-table_after
returns-clause-table_after c =
    let p = mask-put c.args.table.now _ _ _ _ _ c.from.ensures c.from-2.ensures c.put.ensures in
    (p.0 ∙ ap (set (masks_in c.args.table.now) c.args.b.variable) c.mask_for-mask.ensures, p.1)
