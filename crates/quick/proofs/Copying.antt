-- A text copied into cleared bytes.
use Prim.Native.Nat.{ℕ, ◌-◌, ◌≤◌}
use mathlib.Core.List.{List, ◌++◌}
use mathlib.Core.Path.{◌≡◌, sym, ◌∙◌, ap}
use native.Mathlib.Omega.{arith}
use lib.ListN.{length, get_or, drop, replicate, length-append, length-replicate, get_or-append, get_or-eq_default}
use lib.Seq.{get_or-append_right}
use Rattle.std.proofs.lemmas.List.{drop-replicate}
use Rattle.model.proofs.Lists.{get_or-same}
use Rattle.model.proofs.Tests.{by-lt}
use Rattle.parts.specs.Parts.{Copied}

pub copied : (given x : List ℕ) → length given ≤ 254 → x ≡ given ++ drop (length given) (replicate 256 0) → Copied x given
copied given x m e =
    let zeros = replicate {A = ℕ} (256 - length given) 0 in
    let f : x ≡ given ++ zeros = e ∙ ap (λ (y : List ℕ). given ++ y) (drop-replicate (length given) 256 0) in
    record {
      size = omega (arith, ap length f, length-append given zeros, length-replicate {A = ℕ} (256 - length given) 0);
      room = m;
      same = λ i. ap (λ (y : List ℕ). get_or y i 0) f ∙ by-lt i (length given)
          (λ k. get_or-append given zeros 0 i k)
          (λ k. get_or-append_right given zeros i 0 k ∙ get_or-same (256 - length given) 0 (i - length given) ∙ sym (get_or-eq_default given 0 k));
    }
