-- What is written, against what the definition says: by way of a draft, or straight into the buffer.
use Prim.Native.Nat.{ℕ, ◌+◌, ◌≤◌, ◌<◌}
use mathlib.Core.List.{List, ◌++◌}
use mathlib.Core.Path.{◌≡◌, refl, sym, ap, ap₂, ◌∙◌}
use native.Mathlib.Omega.{arith}
use lib.ListN.{length, take, drop}
use lib.Seq.{sets, sets-eq, take-append_seam}
use borrow.Author.Tests.{le-leb, lt-leb}
use Rattle.quel.specs.Results.{fail, ok}
use Rattle.quel.specs.Writing.{Written}
use Rattle.quel.specs.ReadText.{refused, written}
use Rattle.quel.proofs.Results.{never, ok-value, ok-left}
use Rattle.elaborate.specs.After.{ended}
use Rattle.std.specs.Prelude.{Option, Some, None, Ok, Err}
use Rattle.model.specs.declared.refusal.Refusal.TheVariants.{Name, RecordRoom}
use Rattle.elaborate.specs.Whole.{outcome}
use Rattle.elaborate.specs.Answers.{answered, writing}

-- where bytes that are written from the first place on end
abbrev measured : Written → Option ℕ
measured fail = None
measured (ok bs n) = Some (length bs)

-- the place is that of the bytes, whatever the buffer
pub measures : (d x : List ℕ) (w : Written) (r : Option ℕ) → ended d 0 w ≡ outcome r x → r ≡ measured w
measures d x fail None e = refl
measures d x fail (Some at) e = never x at e
measures d x (ok bs n) None e = never (sets d 0 bs) (0 + length bs) (sym e)
measures d x (ok bs n) (Some at) e = ap Some (omega (arith, ok-left e))

long : (bs d : List ℕ) → length d < length bs → written bs d ≡ refused 52 d
unfolding written
long bs d h = rw (lt-leb (length bs) (length d) h, written)

whole : (bs d : List ℕ) → length bs ≤ length d → written bs d ≡ record { number = 0; count = length bs; records = bs ++ drop (length bs) d }
unfolding written
whole bs d h = rw (le-leb (length bs) (length d) h, written)

in_place : (bs d x : List ℕ) (n : ℕ) → n ≡ length bs → n ≤ length d → x ≡ sets d 0 bs → answered (Ok n) x ≡ written bs d
in_place bs d x n j k e =
    let y : length bs ≤ length d = omega (arith, k, j) in
    let z : 0 + length bs ≡ length bs = omega arith in
    ap₂ (λ (c : ℕ) (z : List ℕ). record { number = 0; count = c; records = z }) j (e ∙ sets-eq bs d 0 (omega (arith, y)) ∙ ap (λ (c : ℕ). bs ++ drop c d) z) ∙ sym (whole bs d y)

module _ (r : Option ℕ) (w : Written) (d : List ℕ) (e : r ≡ measured w) where
  -- a name that is unknown, out of reach or bound twice
  pub no_name : r ≡ None → answered (Err Name) d ≡ writing w d
  no_name h = go w (sym h ∙ e)
    where
      go : (w : Written) → None ≡ measured w → refused 51 d ≡ writing w d
      go fail i = refl
      go (ok bs m) i = let z : ◌≡◌ {A = ℕ} 0 1 = cc in absurd (omega arith)

  module _ (n : ℕ) (h : r ≡ Some n) where
    pub too_long : length d < n → answered (Err RecordRoom) d ≡ writing w d
    too_long l = go w (sym h ∙ e)
      where
        go : (w : Written) → Some n ≡ measured w → refused 52 d ≡ writing w d
        go fail i = let z : ◌≡◌ {A = ℕ} 0 1 = cc in absurd (omega arith)
        go (ok bs m) i = let j : n ≡ length bs = cc in sym (long bs d (omega (arith, l, j)))

    -- made elsewhere, and copied
    pub copied : n ≤ length d → (s y : List ℕ) → n ≤ length s → ended s 0 w ≡ outcome r y → (x : List ℕ) → x ≡ sets d 0 (take n y) → answered (Ok n) x ≡ writing w d
    copied k s y l o x c = go w (sym h ∙ e) (o ∙ ap (λ (z : Option ℕ). outcome z y) h)
      where
        go : (w : Written) → Some n ≡ measured w → ended s 0 w ≡ ok y n → answered (Ok n) x ≡ writing w d
        go fail i o = never y n o
        go (ok bs m) i o =
            let j : n ≡ length bs = cc in
            let f : y ≡ bs ++ drop (0 + length bs) s = sym (ok-value o) ∙ sets-eq bs s 0 (omega (arith, l, j)) in
            let g : take n y ≡ bs = ap₂ (λ (c : ℕ) (z : List ℕ). take c z) j f ∙ take-append_seam bs (drop (0 + length bs) s) in
            in_place bs d x n j k (c ∙ ap (λ (z : List ℕ). sets d 0 z) g)

    pub fits : n ≤ length d → (l : Option ℕ) (x : List ℕ) → ended d 0 w ≡ outcome l x → answered (Ok n) x ≡ writing w d
    fits k l x o = go w l (sym h ∙ e) o
      where
        go : (w : Written) (l : Option ℕ) → Some n ≡ measured w → ended d 0 w ≡ outcome l x → answered (Ok n) x ≡ writing w d
        go fail l i o = let z : ◌≡◌ {A = ℕ} 0 1 = cc in absurd (omega arith)
        go (ok bs m) None i o = never (sets d 0 bs) (0 + length bs) (sym o)
        go (ok bs m) (Some at) i o = let j : n ≡ length bs = cc in in_place bs d x n j k (sym (ok-value o))

-- a symbol that is bound twice
pub twice-refused : (w : Written) (d out : List ℕ) → ended d 0 w ≡ fail → answered (Err Name) out ≡ writing w out
twice-refused fail d out e = refl
twice-refused (ok bs n) d out e = never (sets d 0 bs) (0 + length bs) (sym e)
