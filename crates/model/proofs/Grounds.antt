-- Checks in the order of their numbers: the number of the first that fails is the one with its exact ground.
use Prim.Native.Nat.{ℕ, zero, suc, ◌<◌, ◌≤◌}
use mathlib.Core.Bool.{Bool, true, false, cond, ◌&&◌, ◌||◌}
use mathlib.Core.List.{List, [], ◌∷◌, ◌++◌, map}
use mathlib.Core.Path.{◌≡◌, refl, sym, ◌∙◌}
use native.Mathlib.Omega.{arith}
use lib.Dec.{eqb, ltb}
use borrow.Author.Tests.{eq-eqb, ne_eqb, eqb-true, ltb-true, ltb-false}
use Rattle.model.specs.Lists.{any, contains, Every}
use Rattle.model.specs.Checks.{Check, refusal}
use Rattle.model.specs.Demands.{fails, Ground, Passes}
use Rattle.model.proofs.Tests.{clash, or-inv, or_no, or_left, or_right, and-inv}

-- the numbers rise, all above m
unfoldable pub Rising : ℕ → List Check → Type 0
Rising m [] = Unit
Rising m (c ∷ cs) = (m < c.1) × Rising c.1 cs

pub fails-low : (m k : ℕ) (cs : List Check) → Rising m cs → k ≤ m → fails cs k ≡ false
unfolding Rising fails any
fails-low m k [] r h = refl
fails-low m k (c ∷ cs) r h = and-other c.0 (eqb c.1 k) (ne_eqb c.1 k (λ e. omega (arith, r.0))) (fails-low c.1 k cs r.1 (omega (arith, r.0)))
  where
    and-other : (a b : Bool) → b ≡ false → fails cs k ≡ false → (a && b) || fails cs k ≡ false
    and-other true b e f = rw e f
    and-other false b e f = f

-- the first check of a list: whether it fails at n
fails-cons : (b : Bool) (m n : ℕ) (cs : List Check) → fails ((b, m) ∷ cs) n ≡ (b && eqb m n) || fails cs n
unfolding fails any
fails-cons b m n cs = refl

pub refusal-ground : (m n : ℕ) (cs : List Check) → Rising m cs → refusal cs ≡ n → 1 ≤ n → Ground cs n
unfolding Rising refusal
refusal-ground m n [] r e h = absurd (omega arith)
refusal-ground m n (c ∷ cs) r e h = go c.0 refl (λ e. refusal-ground c.1 n cs r.1 e h)
  where
    go : (b : Bool) → c.0 ≡ b → (refusal cs ≡ n → Ground cs n) → Ground (c ∷ cs) n
    go true p k =
        let f : c.1 ≡ n = rw p at e in
        record {
          failing = fails-cons c.0 c.1 n cs ∙ rw (p, eq-eqb c.1 n f);
          lower = λ i l. fails-cons c.0 c.1 i cs ∙ rw (p, ne_eqb c.1 i (λ z. omega arith)) (fails-low c.1 i cs r.1 (omega arith));
        }
    go false p k =
        let i = k (rw p at e) in
        record {
          failing = fails-cons c.0 c.1 n cs ∙ rw p i.failing;
          lower = λ j l. fails-cons c.0 c.1 j cs ∙ rw p (i.lower j l);
        }

-- the number is 0 or that of a check
pub refusal-listed : (cs : List Check) (ns : List ℕ) → contains (refusal cs) (0 ∷ (map (λ (c : Check). c.1) cs ++ ns)) ≡ true
unfolding refusal contains any
refusal-listed [] ns = refl
refusal-listed (c ∷ cs) ns = go c.0 (refusal-listed cs ns)
  where
    rest : List ℕ
    rest = map (λ (c : Check). c.1) cs ++ ns

    go : (b : Bool) → contains (refusal cs) (0 ∷ rest) ≡ true → contains (cond b c.1 (refusal cs)) (0 ∷ c.1 ∷ rest) ≡ true
    go true h = or_right (eqb c.1 0) _ (or_left (eqb c.1 c.1) (contains c.1 rest) (eq-eqb c.1 c.1 refl))
    go false h = or-inv (eqb (refusal cs) 0) (contains (refusal cs) rest) h (λ e. or_left (eqb (refusal cs) 0) _ e) (λ e. or_right (eqb (refusal cs) 0) _ (or_right (eqb (refusal cs) c.1) (contains (refusal cs) rest) e))

none-fails : (n : ℕ) → fails [] n ≡ true → false ≡ true
unfolding fails any
none-fails n h = h

pub ground-refusal : (m n : ℕ) (cs : List Check) → Rising m cs → Ground cs n → refusal cs ≡ n
unfolding Rising refusal
ground-refusal m n [] r g = clash (none-fails n g.failing)
ground-refusal m n (c ∷ cs) r g = go c.0 refl (λ g. ground-refusal c.1 n cs r.1 g)
  where
    go : (b : Bool) → c.0 ≡ b → (Ground cs n → refusal cs ≡ n) → cond c.0 c.1 (refusal cs) ≡ n
    go true p k =
        rw p
        (or-inv (c.0 && eqb c.1 n) (fails cs n) (sym (fails-cons c.0 c.1 n cs) ∙ g.failing)
        (λ e. eqb-true c.1 n (and-inv c.0 (eqb c.1 n) e).1)
        (λ e. at e (ltb c.1 n) refl))
      where
        at : fails cs n ≡ true → (t : Bool) → ltb c.1 n ≡ t → c.1 ≡ n
        at e true q =
            let z : false ≡ true = sym (g.lower c.1 (ltb-true c.1 n q)) ∙ fails-cons c.0 c.1 c.1 cs ∙ rw (p, eq-eqb c.1 c.1 refl) in
            clash z
        at e false q = clash (sym (fails-low c.1 n cs r.1 (ltb-false c.1 n q)) ∙ e)
    go false p k =
        let f : (i : ℕ) → fails (c ∷ cs) i ≡ fails cs i = λ i. fails-cons c.0 c.1 i cs ∙ rw p in
        rw p (k (record { failing = sym (f n) ∙ g.failing; lower = λ i l. sym (f i) ∙ g.lower i l }))

pub refusal-passes : (cs : List Check) → Every (λ c. 1 ≤ c.1) cs → refusal cs ≡ 0 → Passes cs
unfolding Every refusal fails any
refusal-passes [] s e m = refl
refusal-passes (c ∷ cs) s e m = go c.0 refl (λ e. refusal-passes cs s.1 e m)
  where
    go : (b : Bool) → c.0 ≡ b → (refusal cs ≡ 0 → fails cs m ≡ false) → (c.0 && eqb c.1 m) || fails cs m ≡ false
    go true p k = let f : c.1 ≡ 0 = rw p at e in absurd (omega (arith, s.0))
    go false p k = rw p (k (rw p at e))

pub passes-refusal : (cs : List Check) → Passes cs → refusal cs ≡ 0
unfolding refusal fails any
passes-refusal [] h = refl
passes-refusal (c ∷ cs) h = go c.0 refl (passes-refusal cs (λ m. (or_no (c.0 && eqb c.1 m) (fails cs m) (h m)).1))
  where
    go : (b : Bool) → c.0 ≡ b → refusal cs ≡ 0 → cond c.0 c.1 (refusal cs) ≡ 0
    go true p k =
        let z : (c.0 && eqb c.1 c.1) ≡ false = (or_no (c.0 && eqb c.1 c.1) (fails cs c.1) (h c.1)).0 in
        clash (sym z ∙ rw (p, eq-eqb c.1 c.1 refl))
    go false p k = rw p k

-- no check has a number from m up
pub fails-high : (n : ℕ) (cs : List Check) → Every (λ c. c.1 < n) cs → fails cs n ≡ false
unfolding Every fails any
fails-high n [] s = refl
fails-high n (c ∷ cs) s = go c.0 (fails-high n cs s.1)
  where
    go : (b : Bool) → fails cs n ≡ false → (b && eqb c.1 n) || fails cs n ≡ false
    go true k = rw (ne_eqb c.1 n (λ e. omega (arith, s.0))) k
    go false k = k

pub ground-positive : (cs : List Check) → Rising 0 cs → (n : ℕ) → Ground cs n → 1 ≤ n
ground-positive cs r zero g = clash (sym (fails-low 0 0 cs r (omega arith)) ∙ g.failing)
ground-positive cs r (suc n) g = omega arith

-- two lists of checks, one after the other
pub refusal-skip : (xs ys : List Check) → Every (λ c. 1 ≤ c.1) xs → refusal xs ≡ 0 → refusal (xs ++ ys) ≡ refusal ys
unfolding Every refusal
refusal-skip [] ys s e = refl
refusal-skip (c ∷ xs) ys s e = go c.0 refl (λ e. refusal-skip xs ys s.1 e)
  where
    go : (b : Bool) → c.0 ≡ b → (refusal xs ≡ 0 → refusal (xs ++ ys) ≡ refusal ys) → cond c.0 c.1 (refusal (xs ++ ys)) ≡ refusal ys
    go true p k = let f : c.1 ≡ 0 = rw p at e in absurd (omega (arith, s.0))
    go false p k = rw p (k (rw p at e))

pub refusal-first : (xs ys : List Check) → Every (λ c. 1 ≤ c.1) xs → refusal (xs ++ ys) ≡ 0 → refusal xs ≡ 0
unfolding Every refusal
refusal-first [] ys s e = refl
refusal-first (c ∷ xs) ys s e = go c.0 refl (λ e. refusal-first xs ys s.1 e)
  where
    go : (b : Bool) → c.0 ≡ b → (refusal (xs ++ ys) ≡ 0 → refusal xs ≡ 0) → cond c.0 c.1 (refusal xs) ≡ 0
    go true p k = let f : c.1 ≡ 0 = rw p at e in absurd (omega (arith, s.0))
    go false p k = rw p (k (rw p at e))
