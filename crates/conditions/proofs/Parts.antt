-- Answers and tables put together from those of the parts: what a reading makes of its children's.
use mathlib.Core.Path.{◌≡◌, refl, sym, ap, ap₂, ◌∙◌}
use mathlib.Core.Bool.{Bool, true, false, not, ◌&&◌}
use borrow.Author.Tests.{not-true, not-false}
use mathlib.Core.List.{List}
use Prim.Native.Nat.{ℕ, zero, suc, ◌+◌, ◌-◌, ◌≤◌}
use native.Mathlib.Nat.{add-zero, zero-add}
use native.Mathlib.Omega.{arith}
use lib.ListN.{length, drop}
use lib.Seq.{drop-drop}
use Rattle.model.specs.Encoding.{Read, fail, ok, then}
use Rattle.sizes.specs.Measured.{Measured, leaves, onward, children, stored, size_read}
use Rattle.sizes.proofs.Reader.{Taken}
use Rattle.conditions.specs.declared.Reading.{Reading}
use Rattle.conditions.specs.Answers.{reading, answer, Pair, two, both, size_of, bytes_of, held, grown, kept}
use Rattle.std.specs.Prelude.{Option, Some, None}

-- an answer is not two things
pub never : {X : Type 0} (n : ℕ) (b : Bool) → reading n b ≡ None → X
never n b h = let e : ◌≡◌ {A = ℕ} 0 1 = cc in absurd (omega arith)

pub bytes_same : (n m : ℕ) (b d : Bool) → reading n b ≡ reading m d → n ≡ m
bytes_same n m b d h = ap bytes_of h

pub scope-same : (n m : ℕ) (b d : Bool) → reading n b ≡ reading m d → b ≡ d
scope-same n m b d h = let p : ◌≡◌ {A = Reading} (record { length = n; inside = b }) (record { length = m; inside = d }) = cc in ap (λ (r : Reading). r.inside) p

-- its size is that of what the model reads
pub answer-size : {A : Type 0} (q : List ℕ) (s : A → Bool) (w : Read A) → size_of (answer q s w) ≡ size_read q w
answer-size q s fail = refl
answer-size q s (ok a r) = refl

pub answer-refused : {A : Type 0} (q : List ℕ) (s : A → Bool) (w : Read A) → size_read q w ≡ None → None ≡ answer q s w
answer-refused q s fail h = refl
answer-refused q s (ok a r) h = let e : ◌≡◌ {A = ℕ} 0 1 = cc in absurd (omega arith)

-- what was read stays within the bytes
pub bytes_fit : {A : Type 0} (q : List ℕ) (s : A → Bool) (w : Read A) → bytes_of (answer q s w) ≤ length q
bytes_fit q s fail = omega arith
bytes_fit q s (ok a r) = omega arith

-- one part, after a bytes of its parent
pub wrap : {A B : Type 0} (a : ℕ) (k : A → B) (s : A → Bool) (t : B → Bool) → ((c : A) → t (k c) ≡ s c) → (x q : List ℕ) → length q ≡ a + length x → (w : Read A) → ((c : A) (r : List ℕ) → w ≡ ok c r → length r ≤ length x)
    → grown a (answer x s w) ≡ answer q t (then w λ c r. ok (k c) r)
wrap a k s t es x q e fail f = refl
wrap a k s t es x q e (ok c r) f = ap₂ reading (omega (arith, f c r refl)) (sym (es c))

-- two parts, one after the other
module _ {A : Type 0} (g : List ℕ → Read A) (takes : (x : List ℕ) (c : A) (r : List ℕ) → g x ≡ ok c r → Taken x r) where
  pub two_fits : (x : List ℕ) (c : Pair A) (r : List ℕ) → two g x ≡ ok c r → length r ≤ length x
  two_fits x c r h = first (g x) refl h
    where
      second : (a : A) (u : List ℕ) → length u ≤ length x → (w : Read A) → g u ≡ w → then w (λ d r. ok (record { left = a; right = d }) r) ≡ ok c r → length r ≤ length x
      second a u l fail e k = let n : ◌≡◌ {A = ℕ} 0 1 = cc in absurd (omega arith)
      second a u l (ok d v) e k = let n : v ≡ r = cc in let i = takes u d v e in omega (arith, i.fits, ap length n)

      first : (w : Read A) → g x ≡ w → then w (λ c r. then (g r) λ d r. ok (record { left = c; right = d }) r) ≡ ok c r → length r ≤ length x
      first fail e k = let n : ◌≡◌ {A = ℕ} 0 1 = cc in absurd (omega arith)
      first (ok a u) e k = let i = takes x a u e in second a u i.fits (g u) refl k

  pub two_then : {B : Type 0} (k : A → A → B) (x : List ℕ) → then (two g x) (λ p r. ok (k p.left p.right) r) ≡ then (g x) (λ c r. then (g r) λ d r. ok (k c d) r)
  two_then k x = first (g x)
    where
      second : (c : A) (w : Read A) → then (then w λ d r. ok (record { left = c; right = d }) r) (λ (p : Pair A) r. ok (k p.left p.right) r) ≡ then w (λ d r. ok (k c d) r)
      second c fail = refl
      second c (ok d v) = refl

      first : (w : Read A) → then (then w λ c r. then (g r) λ d r. ok (record { left = c; right = d }) r) (λ (p : Pair A) r. ok (k p.left p.right) r) ≡ then w (λ c r. then (g r) λ d r. ok (k c d) r)
      first fail = refl
      first (ok c u) = second c (g u)

  module _ (s : A → Bool) (x : List ℕ) (r : Option Reading) (er : r ≡ answer x s (g x)) where
    pub two-stop : r ≡ None → None ≡ answer x (both s) (two g x)
    two-stop e = go (g x) refl
      where
        go : (w : Read A) → g x ≡ w → None ≡ answer x (both s) (then w λ c r. then (g r) λ d r. ok (record { left = c; right = d }) r)
        go fail ew = refl
        go (ok c u) ew = never (length x - length u) (s c) (sym (ap (answer x s) ew) ∙ sym er ∙ e)

    pub two-go : (n : ℕ) (a : Bool) → r ≡ reading n a → (y : List ℕ) → y ≡ drop n x → (t : Option Reading) → t ≡ answer y s (g y) → held a (grown n t) ≡ answer x (both s) (two g x)
    two-go n a e y ey t et = go (g x) refl
      where
        second : (c : A) (u : List ℕ) → length u ≤ length x → u ≡ y → n ≡ length x - length u → a ≡ s c → (w : Read A) → g u ≡ w → held a (grown n t) ≡ answer x (both s) (then w λ d r. ok (record { left = c; right = d }) r)
        second c u l eu en ea fail ew =
            let f : t ≡ None = et ∙ ap (λ v. answer v s (g v)) (sym eu) ∙ ap (answer u s) ew in
            ap (λ v. held a (grown n v)) f
        second c u l eu en ea (ok d v) ew =
            let f : t ≡ reading (length u - length v) (s d) = et ∙ ap (λ v. answer v s (g v)) (sym eu) ∙ ap (answer u s) ew in
            let i = takes u d v ew in
            ap (λ v. held a (grown n v)) f ∙ ap₂ reading (omega (arith, i.fits)) (ap (λ b. b && s d) ea)

        go : (w : Read A) → g x ≡ w → held a (grown n t) ≡ answer x (both s) (then w λ c r. then (g r) λ d r. ok (record { left = c; right = d }) r)
        go fail ew = never n a (sym e ∙ er ∙ ap (answer x s) ew)
        go (ok c u) ew =
            let f : reading n a ≡ reading (length x - length u) (s c) = sym e ∙ er ∙ ap (answer x s) ew in
            let i = takes x c u ew in
            let en : n ≡ length x - length u = bytes_same _ _ _ _ f in
            second c u i.fits (i.rest ∙ ap (λ m. drop m x) (sym en) ∙ sym ey) en (scope-same _ _ _ _ f) (g u) refl

-- the children measured from a bytes further on
abbrev shifted : ℕ → Measured → Measured
shifted a m = onward m.size m.table (λ n y. leaves (Some (a + n)) y)

module _ (f : List ℕ → ℕ → List ℕ → Measured) where
  shift : (n a b : ℕ) (q : List ℕ) (p : ℕ) (z : List ℕ) → children n (a + b) f q p z ≡ shifted a (children n b f (drop a q) (p + a) z)
  unfolding children
  shift zero a b q p z = refl
  shift (suc n) a b q p z =
      ap (λ (m : Measured). onward m.size m.table (λ m y. children n (a + b + m) f q p y)) (ap₂ (λ x i. f x i z) (sym (drop-drop b a q)) (omega arith))
      ∙ go (λ i y. shift n a i q p y) (f (drop b (drop a q)) (p + a + b) z).size (f (drop b (drop a q)) (p + a + b) z).table
    where
      go : ((i : ℕ) (y : List ℕ) → children n (a + i) f q p y ≡ shifted a (children n i f (drop a q) (p + a) y)) → (s : Option ℕ) (y : List ℕ) → onward s y (λ m y. children n (a + b + m) f q p y) ≡ shifted a (onward s y (λ m y. children n (b + m) f (drop a q) (p + a) y))
      go h (Some m) y = ap (λ i. children n i f q p y) (omega arith) ∙ h (b + m) y
      go h None y = refl

  single : (x : List ℕ) (p : ℕ) (z : List ℕ) → f x p z ≡ children 1 0 f x p z
  unfolding children
  single x p z =
      go (f x p z)
      ∙ ap (λ (m : Measured). onward m.size m.table (λ n y. leaves (Some (0 + n)) y)) (ap (λ i. f x i z) (sym (add-zero p)))
    where
      by : (s : Option ℕ) (y : List ℕ) → leaves s y ≡ onward s y (λ n y. leaves (Some (0 + n)) y)
      by (Some n) y = ap (λ i. leaves (Some i) y) (sym (zero-add n))
      by None y = refl

      go : (m : Measured) → m ≡ onward m.size m.table (λ n y. leaves (Some (0 + n)) y)
      go m = by m.size m.table

  pub one-inner : (x : List ℕ) (p : ℕ) (z : List ℕ) (r : Option Reading) (y : List ℕ) → leaves (size_of r) y ≡ f x p z → leaves (size_of r) y ≡ children 1 0 f x p z
  one-inner x p z r y e = e ∙ single x p z

  -- two parts
  module _ (x : List ℕ) (p : ℕ) (z : List ℕ) (r : Option Reading) (y : List ℕ) (er : leaves (size_of r) y ≡ f x p z) where
    first-is : children 2 0 f x p z ≡ onward (size_of r) y (λ n y. children 1 (0 + n) f x p y)
    unfolding children
    first-is = ap (λ (m : Measured). onward m.size m.table (λ n y. children 1 (0 + n) f x p y)) (ap (λ i. f x i z) (add-zero p) ∙ sym er)

    pub inner-stop : r ≡ None → leaves None y ≡ children 2 0 f x p z
    inner-stop e = sym (first-is ∙ ap (λ v. onward (size_of v) y (λ n y. children 1 (0 + n) f x p y)) e)

    pub inner-go : (n : ℕ) (a : Bool) → r ≡ reading n a → (t : Option Reading) (v w : List ℕ) → v ≡ drop n x → leaves (size_of t) w ≡ f v (p + n) y → leaves (size_of (held a (grown n t))) w ≡ children 2 0 f x p z
    inner-go n a e t v w ev et =
        sized t
        ∙ ap (shifted n) (et ∙ ap (λ u. f u (p + n) y) ev ∙ single (drop n x) (p + n) y)
        ∙ sym (shift 1 n 0 x p y) ∙ ap (λ i. children 1 i f x p y) (add-zero n ∙ sym (zero-add n))
        ∙ sym (first-is ∙ ap (λ v. onward (size_of v) y (λ n y. children 1 (0 + n) f x p y)) e)
      where
        sized : (t : Option Reading) → leaves (size_of (held a (grown n t))) w ≡ shifted n (leaves (size_of t) w)
        sized (Some r) = refl
        sized None = refl

  -- a parent of a bytes, and the children after them
  pub parent_is : (n a : ℕ) (q x : List ℕ) (p : ℕ) (z : List ℕ) (r : Option Reading) (u w : List ℕ) → x ≡ drop a q → w ≡ kept p a r u → leaves (size_of r) u ≡ children n 0 f x (p + a) z → leaves (size_of (grown a r)) w ≡ stored p (children n a f q p z)
  parent_is n a q x p z r u w ex ew e =
      go r ew
      ∙ ap (λ m. stored p (shifted a m)) (e ∙ ap (λ v. children n 0 f v (p + a) z) ex)
      ∙ ap (stored p) (sym (shift n a 0 q p z) ∙ ap (λ i. children n i f q p z) (add-zero a))
    where
      go : (r : Option Reading) → w ≡ kept p a r u → leaves (size_of (grown a r)) w ≡ stored p (shifted a (leaves (size_of r) u))
      go (Some r) h = ap (leaves (Some (a + r.length))) h
      go None h = ap (leaves None) h

-- the code's tests
pub also-not : (r : Option Reading) (n : ℕ) (b k : Bool) → r ≡ reading n b → not k ≡ true → reading n false ≡ held k r
also-not r n b k e h = sym (ap₂ held (not-true k h) e)

pub also-yes : (r : Option Reading) (n : ℕ) (b k : Bool) → r ≡ reading n b → not k ≡ false → reading n b ≡ held k r
also-yes r n b k e h = sym (ap₂ held (not-false k h) e)

pub same-sized : (r s : Option Reading) (w : List ℕ) (m : Measured) → r ≡ s → leaves (size_of s) w ≡ m → leaves (size_of r) w ≡ m
same-sized r s w m e h = ap (λ v. leaves (size_of v) w) e ∙ h
