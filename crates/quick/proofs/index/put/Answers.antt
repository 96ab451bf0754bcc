use native.Mathlib.Omega.{arith}
use mathlib.Core.Path.{ap, ◌∙◌}
use Prim.Native.Nat.{ℕ, ◌+◌, ◌%◌}
use lib.ListN.{set}
use lib.Seq.{get_or-set_other}
use Rattle.quick.specs.Index.{put_in}
use Rattle.quick.proofs.index.put.Goals as goal

pub returns : goal.returns
unfolding put_in
returns c = let names = c.args.names.now in let code = c.args.code in let slot = c.args.slot in
    ap (λ (v : ℕ). set (set (set (set names slot code) (64 + slot) c.args.at) (128 + slot) v) (192 + code % 64) slot) (get_or-set_other (set names slot code) (64 + slot) (192 + code % 64) c.args.at 0 (λ z. omega (arith, z, c.requires.1)) ∙ get_or-set_other names slot (192 + code % 64) code 0 (λ z. omega (arith, z, c.requires.1)))
