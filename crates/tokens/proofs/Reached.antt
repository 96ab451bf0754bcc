-- A loop over a stretch of bytes: what is left, added to what was passed, is the whole.
use Prim.Native.Nat.{ℕ, ◌+◌, ◌*◌, ◌-◌, ◌≤◌}
use mathlib.Core.Bool.{true, false}
use mathlib.Core.List.{List}
use mathlib.Core.Path.{◌≡◌, sym, ◌∙◌, ap}
use native.Mathlib.Omega.{arith}
use lib.ListN.{length, get_or, drop}
use Rattle.quel.specs.Tokens.{run}
use Rattle.quel.specs.Lexical.{first}
use Rattle.tokens.specs.Spans.{within, positional, capped}
use Rattle.tokens.proofs.Places.{first-lt, run-stops, run-goes}
use Rattle.tokens.proofs.Values.{capped-low, capped_le, capped-digit}

pub record Reached (text : List ℕ) (low high base start end value : ℕ) : Type 0 where
  pub ends : end + length (run (within low high) (drop end text)) ≡ length (run (within low high) text)
  pub spells : capped (positional base low value (run (within low high) (drop end text))) ≡ capped (positional base low start (run (within low high) text))
  pub small : value ≤ 288230376151711744
  pub inside : end ≤ length text

module _ (text : List ℕ) (low high base start : ℕ) (b : 1 ≤ base) (end value : ℕ) (h : Reached text low high base start end value) where
  pub turn : first (within low high) (drop end text) ≡ true → (v : ℕ) → v ≡ capped (base * value + (get_or text end 0 - low)) → Reached text low high base start (end + 1) v
  turn f v e = record {
    ends = omega (arith, h.ends, ap length (run-goes (within low high) text end f));
    spells =
        capped-digit base low b value v (get_or text end 0) (run (within low high) (drop (end + 1) text)) e
        ∙ (ap (λ (l : List ℕ). capped (positional base low value l)) (sym (run-goes (within low high) text end f)) ∙ h.spells);
    small = omega (arith, e, (capped_le (base * value + (get_or text end 0 - low))).1);
    inside = omega (arith, first-lt (within low high) text end f);
  }

  -- what the stretch is, where no digit comes
  pub ended : first (within low high) (drop end text) ≡ false → (end ≡ length (run (within low high) text)) × (value ≡ capped (positional base low start (run (within low high) text)))
  unfolding positional
  ended f = (
    omega (arith, h.ends, ap length (run-stops (within low high) text end f)),
    sym (capped-low value h.small) ∙ (ap (λ (l : List ℕ). capped (positional base low value l)) (sym (run-stops (within low high) text end f)) ∙ h.spells),
  )
