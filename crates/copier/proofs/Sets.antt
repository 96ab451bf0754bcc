-- Runs of stores one after the other are one run.
use mathlib.Core.Path.{◌≡◌, refl, sym, ap, ◌∙◌, subst}
use mathlib.Core.List.{List, [], ◌∷◌, ◌++◌}
use Prim.Native.Nat.{ℕ, suc, ◌+◌, ◌<◌}
use native.Mathlib.Nat.{add-zero, add-suc, suc-add, le_of_lt}
use lib.ListN.{length, take, get_or, length-append}
use native.Mathlib.Omega.{arith}
use lib.Seq.{sets, take-suc, take-length, length-take-le}
use native.Mathlib.Numerals.{add-one}

pub sets-append : (xs d : List ℕ) (i : ℕ) (bs : List ℕ) → sets (sets d i xs) (i + length xs) bs ≡ sets d i (xs ++ bs)
sets-append [] d i bs = ap (λ (k : ℕ). sets d k bs) (add-zero i)
sets-append (a ∷ xs) d i bs = ap (λ (k : ℕ). sets (sets d i (a ∷ xs)) k bs) (add-suc i (length xs) ∙ sym (suc-add i (length xs))) ∙ sets-append xs _ (suc i) bs

-- a store after a run, at the place that the run's end has
pub sets_then : (xs d : List ℕ) (i : ℕ) (bs x y : List ℕ) (p : ℕ) → x ≡ sets d i xs → p ≡ i + length xs → y ≡ sets x p bs → y ≡ sets d i (xs ++ bs)
sets_then xs d i bs x y p ex ep ey = rw (ey, ex, ep) (sets-append xs d i bs)

pub turn : (d src out : List ℕ) (at i : ℕ) (y : List ℕ) → i < length src → out ≡ sets d at (take i src) → y ≡ sets out (at + i) (get_or src i 0 ∷ []) → y ≡ sets d at (take (i + 1) src)
turn d src out at i y h inv ey =
    sets_then (take i src) d at (get_or src i 0 ∷ []) out y (at + i) inv (ap (λ (k : ℕ). at + k) (sym (length-take-le i src (le_of_lt h)))) ey
    ∙ ap (sets d at) (sym (take-suc src i 0 h) ∙ ap (λ (k : ℕ). take k src) (sym (add-one i)))

pub done : (d src out : List ℕ) (at i : ℕ) → i ≡ length src → out ≡ sets d at (take i src) → out ≡ sets d at src
done d src out at i h inv = inv ∙ ap (λ (k : ℕ). sets d at (take k src)) h ∙ ap (sets d at) (take-length src)

-- s has been written from `at` on, and p is the place after it
abbrev pub Wrote : List ℕ → ℕ → List ℕ → List ℕ → ℕ → Type 0
Wrote d at s x p = (p ≡ at + length s) × (x ≡ sets d at s)

pub wrote_then : (d : List ℕ) (at : ℕ) (s t x y : List ℕ) (p r : ℕ) → Wrote d at s x p → (r ≡ p + length t) × (y ≡ sets x p t) → Wrote d at (s ++ t) y r
wrote_then d at s t x y p r w h = (omega (arith, length-append s t, w.0, h.0), sets_then s d at t x y p w.1 w.0 h.1)

pub wrote-whole : (d : List ℕ) (at : ℕ) (s w x : List ℕ) (p : ℕ) → w ≡ s → Wrote d at s x p → (p ≡ at + length w) × (x ≡ sets d at w)
wrote-whole d at s w x p e h = rw e h

-- what is still to be written has room
pub room : (d : List ℕ) (at : ℕ) (s t u w x : List ℕ) (p : ℕ) → Wrote d at s x p → w ≡ s ++ (t ++ u) → at + length w < 9223372036854775808 → p + length t < 9223372036854775808
room d at s t u w x p h e k = omega (arith, ap length e, length-append s (t ++ u), length-append t u, h.0)

-- what was written is what was to be written, given by another name
pub wrote_as : (d : List ℕ) (at : ℕ) (s w x : List ℕ) (p : ℕ) → s ≡ w → Wrote d at s x p → Wrote d at w x p
wrote_as d at s w x p e h = subst (λ (y : List ℕ). Wrote d at y x p) e h

pub wrote_nothing : (d : List ℕ) (at : ℕ) (w : List ℕ) → [] ≡ w → Wrote d at w d at
wrote_nothing d at w e = subst (λ (y : List ℕ). Wrote d at y d at) e (sym (add-zero at), refl)

pub room_as : (at : ℕ) (s w : List ℕ) → s ≡ w → at + length w < 9223372036854775808 → at + length s < 9223372036854775808
room_as at s w e h = omega (arith, ap length e)

-- with `rest` still to be written from `to` on, w will have been written from `at` on
abbrev pub Left : List ℕ → ℕ → List ℕ → List ℕ → ℕ → List ℕ → Type 0
Left d at w x to rest = (to + length rest ≡ at + length w) × (sets x to rest ≡ sets d at w)

pub left-then : (d : List ℕ) (at : ℕ) (w x : List ℕ) (to : ℕ) (rest s rest' y : List ℕ) (p : ℕ) → rest ≡ s ++ rest' → Left d at w x to rest → Wrote x to s y p → Left d at w y p rest'
left-then d at w x to rest s rest' y p e h k =
    (omega (arith, ap length e, length-append s rest', h.0, k.0), sets_then s x to rest' y (sets y p rest') p k.1 k.0 refl ∙ ap (sets x to) (sym e) ∙ h.1)

pub left_end : (d : List ℕ) (at : ℕ) (w x : List ℕ) (to : ℕ) (rest : List ℕ) → rest ≡ [] → Left d at w x to rest → Wrote d at w x to
left_end d at w x to rest e h = (omega (arith, ap length e, h.0), sym (ap (sets x to) e) ∙ h.1)

pub left-room : (d : List ℕ) (at : ℕ) (w x : List ℕ) (to : ℕ) (rest s rest' : List ℕ) → rest ≡ s ++ rest' → Left d at w x to rest → at + length w < 9223372036854775808 → to + length s < 9223372036854775808
left-room d at w x to rest s rest' e h k = omega (arith, ap length e, length-append s rest', h.0)
