-- Bytes written: at the end, in front of what is written, and one moved in.
use Prim.Native.Nat.{ℕ, zero, suc, ◌+◌, ◌-◌, ◌≤◌, ◌<◌}
use mathlib.Core.List.{List, [], ◌∷◌, ◌++◌, append_assoc, append-nil}
use mathlib.Core.Path.{◌≡◌, sym, ◌∙◌, ap, ap₂}
use native.Mathlib.Omega.{arith}
use native.Mathlib.Numerals.{add-one}
use lib.ListN.{length, get_or, set, take, drop, length-append, length-drop, take-append-drop, get_or-append, drop_of_length-le}
use lib.Seq.{sets, sets-eq, length-take-le, take-suc, take-suc-set, take-set-lt, drop-cons, set_at, take_at, get_or-take, take-append-add, take-append-le}
use Rattle.parts.specs.Reads.{Wrote}

-- five stores, of which so many count
module _ (l : List ℕ) (to k a b c d : ℕ) where
  abbrev five : List ℕ
  five = k ∷ a ∷ b ∷ c ∷ d ∷ []

  as-sets : (p q r s : ℕ) → p ≡ suc to → q ≡ suc (suc to) → r ≡ suc (suc (suc to)) → s ≡ suc (suc (suc (suc to))) → set (set (set (set (set l to k) p a) q b) r c) s d ≡ sets l to five
  as-sets p q r s e f g h = rw (e, f, g, h)

  pub put_five : (n : ℕ) → to + 5 ≤ length l → n ≤ 5 → take (to + n) (set (set (set (set (set l to k) (to + 1) a) (to + 2) b) (to + 3) c) (to + 4) d) ≡ take to l ++ take n five
  put_five n h m =
      ap (take (to + n)) (as-sets (to + 1) (to + 2) (to + 3) (to + 4) (omega arith) (omega arith) (omega arith) (omega arith) ∙ sets-eq five l to h ∙ append_assoc (take to l) five (drop (to + length five) l))
      ∙ ap (λ (j : ℕ). take (j + n) (take to l ++ (five ++ drop (to + length five) l))) (sym (length-take-le to l (omega arith)))
      ∙ take-append-add (take to l) (five ++ drop (to + length five) l) n
      ∙ ap (λ (x : List ℕ). take to l ++ x) (take-append-le n five (drop (to + length five) l) m)

-- the bytes from i to `to` moved up by one
abbrev pub shifted : List ℕ → ℕ → ℕ → List ℕ
shifted M to i = take (i + 1) M ++ (drop i (take to M) ++ drop (to + 1) M)

module _ (M : List ℕ) (to : ℕ) (h : to < length M) where
  pub shifted_start : M ≡ shifted M to to
  shifted_start =
      sym (ap (λ (x : List ℕ). take (to + 1) M ++ (x ++ drop (to + 1) M)) (let z : length (take to M) ≤ to = omega (arith, length-take-le to M (omega arith)) in drop_of_length-le (take to M) z) ∙ take-append-drop (to + 1) M)

  -- the first part, its last byte apart
  parted : (i : ℕ) → i ≤ to → shifted M to i ≡ take i M ++ (get_or M i 0 ∷ (drop i (take to M) ++ drop (to + 1) M))
  parted i l = ap (λ (x : List ℕ). x ++ (drop i (take to M) ++ drop (to + 1) M)) (ap (λ (j : ℕ). take j M) (add-one i) ∙ take-suc M i 0 (omega arith)) ∙ append_assoc (take i M) (get_or M i 0 ∷ []) (drop i (take to M) ++ drop (to + 1) M)

  pub shifted-put : (i b : ℕ) → i ≤ to → set (shifted M to i) i b ≡ take i M ++ (b ∷ (drop i (take to M) ++ drop (to + 1) M))
  shifted-put i b l = ap (λ (x : List ℕ). set x i b) (parted i l) ∙ set_at (take i M) (get_or M i 0) (drop i (take to M) ++ drop (to + 1) M) b i (length-take-le i M (omega arith))

  pub shifted_step : (i : ℕ) (x : List ℕ) → 0 < i → i ≤ to → x ≡ shifted M to i → set x i (get_or x (i - 1) 0) ≡ shifted M to (i - 1)
  shifted_step zero x z l e = absurd (omega arith)
  shifted_step (suc k) x z l e = rw (let z : suc k - 1 ≡ k = omega arith in z) (go k x l e)
    where
      go : (k : ℕ) (x : List ℕ) → suc k ≤ to → x ≡ shifted M to (suc k) → set x (suc k) (get_or x k 0) ≡ shifted M to k
      go k x l e =
          ap (λ (y : List ℕ). set y (suc k) (get_or y k 0)) e
          ∙ shifted-put (suc k) (get_or (shifted M to (suc k)) k 0) l
          ∙ ap (λ (b : ℕ). take (suc k) M ++ (b ∷ (drop (suc k) (take to M) ++ drop (to + 1) M)))
          (ap (λ (y : List ℕ). get_or y k 0) (parted (suc k) l) ∙ get_or-append (take (suc k) M) (get_or M (suc k) 0 ∷ (drop (suc k) (take to M) ++ drop (to + 1) M)) 0 k (omega (arith, length-take-le (suc k) M (omega arith))) ∙ get_or-take (suc k) M k 0 (omega arith))
          ∙ ap (λ (y : List ℕ). take (suc k) M ++ (y ++ drop (to + 1) M)) (ap (λ (b : ℕ). b ∷ drop (suc k) (take to M)) (sym (get_or-take to M k 0 (omega arith))) ∙ sym (drop-cons (take to M) k 0 (omega (arith, length-take-le to M (omega arith)))))
          ∙ ap (λ (j : ℕ). take j M ++ (drop k (take to M) ++ drop (to + 1) M)) (sym (add-one k))

  pub inserted : (from i b : ℕ) (x y : List ℕ) → i ≤ from → from ≤ i → from ≤ to → x ≡ shifted M to i → y ≡ set x from b → take (to + 1) y ≡ take from M ++ (b ∷ drop from (take to M))
  inserted from i b x y l m k e f =
      ap (take (to + 1)) (f ∙ ap (λ (z : List ℕ). set z from b) (e ∙ ap (shifted M to) {x = i} {y = from} (omega arith)) ∙ shifted-put from b k ∙ sym (append_assoc (take from M) (b ∷ drop from (take to M)) (drop (to + 1) M)))
      ∙ take_at (take from M ++ (b ∷ drop from (take to M))) (drop (to + 1) M) (to + 1)
      (omega (arith, length-append (take from M) (b ∷ drop from (take to M)), length-take-le from M (omega arith), length-drop from (take to M), length-take-le to M (omega arith)))

-- one after another
pub wrote_none : (made : List ℕ) (to : ℕ) → Wrote made made to to []
wrote_none made to = record { written = sym (append-nil (take to made)); ends = omega arith }

pub wrote_then : {made out last : List ℕ} {to mid end : ℕ} {xs ys : List ℕ} → Wrote made out to mid xs → Wrote out last mid end ys → Wrote made last to end (xs ++ ys)
wrote_then {made} {to} {xs} {ys} p q = record {
  written = q.written ∙ ap (λ (l : List ℕ). l ++ ys) p.written ∙ append_assoc (take to made) xs ys;
  ends = omega (arith, p.ends, q.ends, length-append xs ys);
}

module _ (l : List ℕ) (to : ℕ) where
  pub wrote_one : (a : ℕ) → to < length l → Wrote l (set l to a) to (to + 1) (a ∷ [])
  wrote_one a h = record { written = ap (λ (k : ℕ). take k (set l to a)) (add-one to) ∙ take-suc-set l to a h; ends = omega arith }

  -- two bytes in front, where there is room for them
  pub wrote-front : {out : List ℕ} {end : ℕ} {bs : List ℕ} (a b : ℕ) → to + 2 ≤ length l → Wrote l out (to + 2) end bs → Wrote l (set (set out to a) (to + 1) b) to end (a ∷ b ∷ bs)
  wrote-front {out} {end} {bs} a b h w = record {
    written =
        take-set-lt end (set out to a) (to + 1) b (omega (arith, w.ends)) ∙ ap (λ (x : List ℕ). set x (to + 1) b) (take-set-lt end out to a (omega (arith, w.ends)))
        ∙ ap (λ (x : List ℕ). set (set x to a) (to + 1) b) (w.written ∙ ap (λ (x : List ℕ). x ++ bs) (two-more) ∙ append_assoc (take to l) (get_or l to 0 ∷ get_or l (to + 1) 0 ∷ []) bs)
        ∙ ap (λ (x : List ℕ). set x (to + 1) b) (set_at (take to l) (get_or l to 0) (get_or l (to + 1) 0 ∷ bs) a to front)
        ∙ ap (λ (x : List ℕ). set x (to + 1) b) (sym (append_assoc (take to l) (a ∷ []) (get_or l (to + 1) 0 ∷ bs)))
        ∙ set_at (take to l ++ (a ∷ [])) (get_or l (to + 1) 0) bs b (to + 1) (length-append (take to l) (a ∷ []) ∙ omega (arith, front))
        ∙ append_assoc (take to l) (a ∷ []) (b ∷ bs);
    ends = omega (arith, w.ends);
  }
    where
      front : length (take to l) ≡ to
      front = length-take-le to l (omega arith)

      two-more : take (to + 2) l ≡ take to l ++ (get_or l to 0 ∷ get_or l (to + 1) 0 ∷ [])
      two-more =
          ap (λ (k : ℕ). take k l) (let z : to + 2 ≡ suc (suc to) = omega arith in z) ∙ take-suc l (suc to) 0 (omega arith)
          ∙ ap₂ (λ (x : List ℕ) (k : ℕ). x ++ (get_or l k 0 ∷ [])) (take-suc l to 0 (omega arith)) (let z : suc to ≡ to + 1 = omega arith in z)
          ∙ append_assoc (take to l) (get_or l to 0 ∷ []) (get_or l (to + 1) 0 ∷ [])

  module _ (k a b c d : ℕ) (h : to + 5 ≤ length l) where
    pub wrote-five : Wrote l (set (set (set (set (set l to k) (to + 1) a) (to + 2) b) (to + 3) c) (to + 4) d) to (to + 5) (k ∷ a ∷ b ∷ c ∷ d ∷ [])
    wrote-five = record { written = put_five l to k a b c d 5 h (omega arith); ends = omega arith }

  pub wrote-three : (k a b : ℕ) → to + 3 ≤ length l → Wrote l (set (set (set l to k) (to + 1) a) (to + 2) b) to (to + 3) (k ∷ a ∷ b ∷ [])
  wrote-three k a b h = record {
    written = ap (take (to + 3)) (as-three (to + 1) (to + 2) (omega arith) (omega arith) ∙ sets-eq (k ∷ a ∷ b ∷ []) l to h)
        ∙ take_at (take to l ++ (k ∷ a ∷ b ∷ [])) (drop (to + 3) l) (to + 3) (omega (arith, length-append (take to l) (k ∷ a ∷ b ∷ []), length-take-le to l (omega arith)));
    ends = omega arith;
  }
    where
      as-three : (p q : ℕ) → p ≡ suc to → q ≡ suc (suc to) → set (set (set l to k) p a) q b ≡ sets l to (k ∷ a ∷ b ∷ [])
      as-three p q e f = rw (e, f)
