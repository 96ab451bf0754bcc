use native.Mathlib.Omega.{arith}
use mathlib.Core.Path.{refl}
use Prim.Native.Nat.{ℕ}
use lib.ListN.{length-replicate, replicate}
use Rattle.model.proofs.Lists.{get_or-same}
use Rattle.parts.proofs.Heads.{heads-none}
use Rattle.quick.proofs.one_pass.Goals as goal

pub read_with-requires : goal.read_with-requires
read_with-requires c = record {
  ended = (omega (arith, c.if-length-eq0.false), heads-none (replicate {A = ℕ} 160 0) (length-replicate {A = ℕ} 160 0) (get_or-same 160 0), length-replicate {A = ℕ} 1024 0);
  names_value = (length-replicate {A = ℕ} 256 0, get_or-same 256 0);
}

pub returns : goal.returns
returns c = c.read_with.ensures c.args.given.now c.of-text.ensures refl
