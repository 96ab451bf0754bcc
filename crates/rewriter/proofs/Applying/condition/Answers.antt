use mathlib.Core.Path.{refl, ap, ◌∙◌}
use Prim.Native.Nat.{ℕ}
use lib.ListN.{take}
use Rattle.std.proofs.lemmas.List.{take_min}
use Rattle.rewriter.specs.Rewritten.{places_in}
use Rattle.copier.proofs.Turns.{part-is}
use Rattle.rewriter.proofs.Applying.condition.Goals as goal

pub returns : goal.returns
returns c = let rest = c.tail-rest.result.now in
    part-is c.args.self.now.permits.now (places_in c.args.self.now.table.now) c.args.k _ _ _ _ _ refl c.place.ensures c.place-2.ensures c.tail-rest.ensures (ap (λ (n : ℕ). take n rest) c.min.ensures ∙ take_min c.place-2.result rest)
