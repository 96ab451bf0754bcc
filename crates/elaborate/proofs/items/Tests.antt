-- What an answer of the name list says of the entries.
use Prim.Native.Nat.{ℕ}
use mathlib.Core.Option.{Option, none, some}
use mathlib.Core.Path.{◌≡◌, refl, sym, ap, ◌∙◌}
use native.Mathlib.Omega.{arith}
use mathlib.Core.List.{List}
use Rattle.quel.specs.Results.{Word}
use Rattle.quel.specs.Names.{Bytes, Entry}
use Rattle.elaborate.specs.declared.reach.Known.{Known}
use Rattle.names.specs.Answers.{Found, found, valued}
use Rattle.std.specs.Prelude.{Some, None}
use Rattle.std.specs.Prelude as P
use Rattle.kinds.specs.declared.Record.{Record}
use Rattle.elaborate.specs.Actions.{number_of, value_by, head_item}

pub found_none : (o : Option ℕ) (r : P.Option ℕ) → r ≡ number_of (found o) → r ≡ None → o ≡ none
found_none none r e g = refl
found_none (some n) r e g = absurd cc

pub found_some : (o : Option ℕ) (r : P.Option ℕ) (n : ℕ) → r ≡ number_of (found o) → r ≡ Some n → o ≡ some n
found_some none r n e g = absurd cc
found_some (some m) r n e g = let z : m ≡ n = cc in ap some z

pub value_none : (o : Option Bytes) (f : Found) → f ≡ valued o → f ≡ None → None ≡ value_by o
value_none none f e g = refl
value_none (some b) f e g = let z : ◌≡◌ {A = ℕ} 0 1 = cc in absurd (omega arith)

abbrev as_item : Found → P.Option Record
as_item (Some m) = value_by (some (record { b0 = m.0; b1 = m.1; b2 = m.2; b3 = m.3 }))
as_item None = None

as-item : (o : Option Bytes) → value_by o ≡ as_item (valued o)
as-item none = refl
as-item (some b) = refl

pub value-some : (o : Option Bytes) (f : Found) (a b c d : ℕ) → f ≡ valued o → f ≡ Some (a, b, c, d) → value_by (some (record { b0 = a; b1 = b; b2 = c; b3 = d })) ≡ value_by o
value-some o f a b c d e g = sym (as-item o ∙ ap as_item (sym e ∙ g))

pub head-same : (es : List Entry) (n : ℕ) {f g : ℕ} {a b : Word} {k l : P.Option Known} → f ≡ g → a ≡ b → k ≡ l → head_item es f n a k ≡ head_item es g n b l
head-same es n {f} {g} {a} {b} {k} {l} ef ea ek =
    ap (λ (x : ℕ). head_item es x n a k) ef ∙ ap (λ (x : Word). head_item es g n x k) ea ∙ ap (head_item es g n b) ek
