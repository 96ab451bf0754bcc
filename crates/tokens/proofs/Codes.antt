-- Words of up to twelve letters are the same where their codes are.
use Prim.Native.Nat.{ℕ, zero, suc, ◌+◌, ◌*◌, ◌-◌, ◌/◌, ◌≤◌, ◌<◌}
use mathlib.Core.Bool.{true}
use mathlib.Core.List.{[], ◌∷◌}
use mathlib.Core.Path.{◌≡◌, sym, ◌∙◌, ap}
use native.Mathlib.Omega.{arith}
use lib.ListN.{length}
use Rattle.model.specs.Lists.{all}
use Rattle.model.proofs.Tests.{and-inv}
use Rattle.quel.specs.Results.{Word}
use Rattle.quel.specs.Tokens.{is_letter}
use Rattle.tokens.specs.Spans.{positional, capped}
use Rattle.tokens.specs.Kinds.{code_of}
use Rattle.tokens.specs.Codes.{Spelt}
use Rattle.tokens.proofs.Places.{within-bounds}
use Rattle.tokens.proofs.Values.{capped-exact, same_code}

abbrev limit : ℕ
limit = 288230376151711744

-- below what a value stays under the limit with so many letters more
unfoldable room : ℕ → ℕ
room zero = limit
room (suc k) = room k / 26

room_most : (k : ℕ) → room k ≤ limit
unfolding room
room_most zero = omega arith
room_most (suc k) = omega (arith, room_most k)

stays : (k n : ℕ) (w : Word) → length w ≤ k → all is_letter w ≡ true → n < room k → positional 26 65 n w < limit
unfolding positional all room
stays k n [] l a h = omega (arith, room_most k)
stays zero n (b ∷ w) l a h = absurd (omega arith)
stays (suc k) n (b ∷ w) l a h =
    let i = and-inv (is_letter b) (all is_letter w) a in
    let p = within-bounds 65 90 b i.0 in
    stays k (26 * n + (b - 65)) w (omega arith) i.1 (omega (arith, p.0, p.1))

pub code-small : (w : Word) → all is_letter w ≡ true → length w ≤ 12 → code_of w < limit
unfolding room
code-small w a l = stays 12 1 w l a (omega arith)

-- one of two words is below the limit
module _ (v w : Word) (a b : ℕ) (s : Spelt v a) (t : Spelt w b) where
  pub spelt-same : a ≡ b → a < limit → v ≡ w
  spelt-same e l = same_code v w s.letters t.letters (capped-exact (code_of v) a (sym s.code) l ∙ e ∙ sym (capped-exact (code_of w) b (sym t.code) (omega arith)))

  pub spelt-code : v ≡ w → a ≡ b
  spelt-code e = s.code ∙ (ap (λ (u : Word). capped (code_of u)) e ∙ sym t.code)
