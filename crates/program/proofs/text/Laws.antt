-- A number's digits, as the code writes them.
use mathlib.Core.Path.{◌≡◌, refl, sym, ap, ◌∙◌}
use mathlib.Core.List.{List, [], ◌∷◌, ◌++◌}
use Prim.Native.Nat.{ℕ, zero, suc, ◌+◌, ◌-◌, ◌/◌, ◌≤◌, ◌<◌}
use native.Mathlib.Omega.{arith}
use native.Mathlib.Numerals.{add-one}
use lib.ListN.{length, get_or, drop, length-append, length-drop, drop_of_length-le}
use borrow.Author.Tests.{lt-ltb, le-ltb}
use lib.Seq.{sets, drop-cons}
use Rattle.copier.proofs.Sets.{Wrote, wrote_as, wrote_then, Left, left-then, left-room}
use Rattle.program.specs.Text as T

suc-sub-one : (k : ℕ) → suc k - 1 ≡ k
suc-sub-one k = omega arith

pub last : (k n : ℕ) → k ≡ 0 → T.digits k n ≡ T.digit n ∷ []
unfolding T.digits
last zero n h = refl
last (suc k) n h = absurd (omega arith)

pub small : (k n : ℕ) → n < 10 → T.digits k n ≡ T.digit n ∷ []
unfolding T.digits
small zero n h = refl
small (suc k) n h = rw (lt-ltb n 10 h)

pub more : (k n : ℕ) → (k ≡ 0 → ⊥) → 10 ≤ n → T.digits k n ≡ T.digits (k - 1) (n / 10) ++ (T.digit n ∷ [])
unfolding T.digits
more zero n h l = absurd (h refl)
more (suc k) n h l = rw (le-ltb n 10 l, suc-sub-one k)

-- one byte: b, which is the whole of w
module _ (w : List ℕ) (a b : ℕ) (e : w ≡ a ∷ []) where
  pub one-room : (at : ℕ) → at + length w < 9223372036854775808 → at + 1 < 9223372036854775808
  one-room at h = omega (arith, ap length e)

  pub one-wrote : (d : List ℕ) (at : ℕ) (x : List ℕ) (r : ℕ) → b ≡ a → (r ≡ at + 1) × (x ≡ sets d at (b ∷ [])) → Wrote d at w x r
  one-wrote d at x r eb h = wrote_as d at (b ∷ []) w x r (ap (λ (y : ℕ). y ∷ []) eb ∙ sym e) (h.0, h.1)

-- s, then one byte b, the last of w
module _ (w s : List ℕ) (a : ℕ) (e : w ≡ s ++ (a ∷ [])) where
  pub front-room : (at : ℕ) → at + length w < 9223372036854775808 → at + length s < 9223372036854775808
  front-room at h = omega (arith, ap length e, length-append s (a ∷ []))

  pub end-room : (at p : ℕ) → at + length w < 9223372036854775808 → p ≡ at + length s → p + 1 < 9223372036854775808
  end-room at p h k = omega (arith, ap length e, length-append s (a ∷ []))

  pub end-wrote : (d : List ℕ) (at : ℕ) (x y : List ℕ) (p r b : ℕ) → Wrote d at s x p → b ≡ a → (r ≡ p + 1) × (y ≡ sets x p (b ∷ [])) → Wrote d at w y r
  end-wrote d at x y p r b k eb h =
      wrote_as d at (s ++ (b ∷ [])) w y r (ap (λ (z : ℕ). s ++ (z ∷ [])) eb ∙ sym e) (wrote_then d at s (b ∷ []) x y p r k (h.0, h.1))

-- s, then t: the whole of w
module _ (w s t : List ℕ) (e : w ≡ s ++ t) where
  pub first-room : (at : ℕ) → at + length w < 9223372036854775808 → at + length s < 9223372036854775808
  first-room at h = omega (arith, ap length e, length-append s t)

  pub then-room : (at p : ℕ) → at + length w < 9223372036854775808 → p ≡ at + length s → p + length t < 9223372036854775808
  then-room at p h k = omega (arith, ap length e, length-append s t)

  pub then-wrote : (d : List ℕ) (at : ℕ) (x y : List ℕ) (p r : ℕ) → Wrote d at s x p → (r ≡ p + length t) × (y ≡ sets x p t) → Wrote d at w y r
  then-wrote d at x y p r k h = wrote_as d at (s ++ t) w y r (sym e) (wrote_then d at s t x y p r k h)

-- an item of a line, and what follows it
pub line-end : {A : Type 0} (f : A → List ℕ) (xs : List A) (i : ℕ) → length xs ≤ i → T.line f (drop i xs) ≡ []
unfolding T.line
line-end f xs i h = ap (T.line f) (drop_of_length-le xs h)

module _ {A : Type 0} (f : A → List ℕ) (xs : List A) (i : ℕ) (o : A) (h : i < length xs) where
  pub line_step : T.line f (drop i xs) ≡ f (get_or xs i o) ++ (T.gap (length xs - (i + 1)) ∷ T.line f (drop (i + 1) xs))
  unfolding T.line
  line_step = ap (T.line f) (drop-cons xs i o h) ∙ ap (λ (k : ℕ). f (get_or xs i o) ++ (T.gap k ∷ T.line f (drop (suc i) xs))) (length-drop (suc i) xs) ∙ ap (λ (k : ℕ). f (get_or xs i o) ++ (T.gap (length xs - k) ∷ T.line f (drop k xs))) (sym (add-one i))

  -- s is the item's text; w is to be written from `at` on, and a turn begins at `to`
  module _ (s : List ℕ) (es : s ≡ f (get_or xs i o)) (d w x : List ℕ) (at to : ℕ) (l : Left d at w x to (T.line f (drop i xs))) where
    abbrev after : List ℕ
    after = T.gap (length xs - (i + 1)) ∷ T.line f (drop (i + 1) xs)

    whole : T.line f (drop i xs) ≡ s ++ after
    whole = line_step ∙ ap (λ (q : List ℕ). q ++ after) (sym es)

    pub item_room : at + length w < 9223372036854775808 → to + length s < 9223372036854775808
    item_room m = left-room d at w x to _ s after whole l m

    between : (y : List ℕ) (p : ℕ) → Wrote x to s y p → Left d at w y p after
    between y p k = left-then d at w x to _ s after y p whole l k

    pub gap-room : at + length w < 9223372036854775808 → (y : List ℕ) (p : ℕ) → Wrote x to s y p → p + 1 < 9223372036854775808
    gap-room m y p k = left-room d at w y p after (T.gap (length xs - (i + 1)) ∷ []) (T.line f (drop (i + 1) xs)) refl (between y p k) m

    pub item-left : (y z : List ℕ) (p r g : ℕ) → Wrote x to s y p → g ≡ T.gap (length xs - (i + 1)) → (r ≡ p + 1) × (z ≡ sets y p (g ∷ [])) → Left d at w z r (T.line f (drop (i + 1) xs))
    item-left y z p r g k eg h =
        left-then d at w y p after (T.gap (length xs - (i + 1)) ∷ []) (T.line f (drop (i + 1) xs)) z r refl (between y p k)
        (wrote_as y p (g ∷ []) _ z r (ap (λ (q : ℕ). q ∷ []) eg) (h.0, h.1))
