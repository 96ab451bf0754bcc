-- The parts of the table `work`: what a change of one leaves of the others.
use mathlib.Core.Path.{◌≡◌, refl, sym, ap, ◌∙◌, subst}
use mathlib.Core.List.{List, [], ◌∷◌, ◌++◌, append-nil}
use Prim.Native.Nat.{ℕ, zero, suc, ◌+◌, ◌-◌, ◌≤◌}
use native.Mathlib.Omega.{arith}
use lib.IntN.{ℤ}
use lib.ListN.{length, take, drop, length-drop}
use lib.Seq.{take-take, take_all, take_at, drop_at, drop-drop, drop-length, length-take-le}
use Rattle.model.specs.Meaning.{Assignment}
use Rattle.branches.specs.Branches.{runs}
use Rattle.decide.specs.Keys.{Faithful}
use Rattle.odometer.specs.declared.Plan.{Plan}
use Rattle.odometer.specs.Plan.{code_in, chains_in, list_in, table_in, front_of, Listed}

-- a part that ends by n
inside : (a k n : ℕ) (l : List ℕ) → a + k ≤ n → take k (drop a (take n l)) ≡ take k (drop a l)
inside zero k n l h = take-take k n l (omega arith)
inside (suc a) k zero l h = absurd (omega arith)
inside (suc a) k (suc n) [] h = refl
inside (suc a) k (suc n) (x ∷ l) h = inside a k n l (omega arith)

part_same : (n a k : ℕ) (w w' : List ℕ) → a + k ≤ n → take n w' ≡ take n w → take k (drop a w') ≡ take k (drop a w)
part_same n a k w w' h e = sym (inside a k n w' h) ∙ ap (λ (l : List ℕ). take k (drop a l)) e ∙ inside a k n w h

-- what stands before the table of the answer's rows is as it was
module _ (p : Plan) (w w' : List ℕ) (h : 768 ≤ p.front) (e : front_of p w' ≡ front_of p w) where
  pub code_same : code_in w' ≡ code_in w
  code_same = part_same (p.front + 16) 0 768 w w' (omega arith) e

  pub chains-same : chains_in p w' ≡ chains_in p w
  chains-same = part_same (p.front + 16) 768 (p.front - 768) w w' (omega arith) e

  pub runs_same : (q z ws : List ℕ) (vs m : List ℤ) (i : ℕ) (a : Assignment) → runs (code_in w') q z ws vs m i a ≡ runs (code_in w) q z ws vs m i a
  runs_same q z ws vs m i a = ap (λ (l : List ℕ). runs l q z ws vs m i a) code_same

  pub faithful-same : (ws : List ℕ) (vs : List ℤ) → Faithful (code_in w) ws vs (chains_in p w) → Faithful (code_in w') ws vs (chains_in p w')
  faithful-same ws vs f = subst (λ (l : List ℕ). Faithful l ws vs (chains_in p w')) (sym code_same) (subst (λ (l : List ℕ). Faithful (code_in w) ws vs l) (sym chains-same) f)

  pub listed_same : (q z : List ℕ) (m : List ℤ) → Listed (list_in p w) p q z m → Listed (list_in p w') p q z m
  listed_same q z m l = subst (λ (k : List ℕ). Listed k p q z m) (sym (part_same (p.front + 16) p.front 16 w w' (omega arith) e)) l

-- the list as it is handed on
pub sixteen : (f : ℕ) (w : List ℕ) → take (f + 16 - f) (drop f w) ≡ take 16 (drop f w)
sixteen f w = let h : f + 16 - f ≡ 16 = omega arith in ap (λ (k : ℕ). take k (drop f w)) h

pub sixteen-long : (f : ℕ) (w : List ℕ) → f + 16 ≤ length w → length (take (f + 16 - f) (drop f w)) ≡ f + 16 - f
sixteen-long f w h = length-take-le (f + 16 - f) (drop f w) (omega (arith, length-drop f w))

-- a part to the end is all that is left
pub to_end : (b : ℕ) (w : List ℕ) → take (length w - b) (drop b w) ≡ drop b w
to_end b w = take_all (length w - b) (drop b w) (omega (arith, length-drop b w))

-- the table of the answer's rows, lent and given back
module _ (b : ℕ) (w y : List ℕ) (h : b ≤ length w) where
  abbrev back : List ℕ
  back = take b w ++ (y ++ drop (length w - b) (drop b w))

  pub table-back : drop b back ≡ y
  table-back =
      let n : b + (length w - b) ≡ length w = omega arith in
      drop_at (take b w) (y ++ drop (length w - b) (drop b w)) b (length-take-le b w h)
      ∙ ap (◌++◌ y) (drop-drop (length w - b) b w ∙ ap (λ (k : ℕ). drop k w) n ∙ drop-length w)
      ∙ append-nil y

  pub front-back : take b back ≡ take b w
  front-back = take_at (take b w) (y ++ drop (length w - b) (drop b w)) b (length-take-le b w h)

-- the list of targets, lent and given back
module _ (p : Plan) (w y : List ℕ) (h : 768 ≤ p.front) (room : p.front + 16 ≤ length w) (k : ℕ) (ek : k ≡ 16) (ey : length y ≡ k) where
  abbrev listed : List ℕ
  listed = take p.front w ++ (y ++ drop k (drop p.front w))

  front-still : take p.front listed ≡ take p.front w
  front-still = take_at (take p.front w) (y ++ drop k (drop p.front w)) p.front (length-take-le p.front w (omega arith))

  rest-is : drop p.front listed ≡ y ++ drop k (drop p.front w)
  rest-is = drop_at (take p.front w) (y ++ drop k (drop p.front w)) p.front (length-take-le p.front w (omega arith))

  pub code-still : code_in listed ≡ code_in w
  code-still = part_same p.front 0 768 w listed (omega arith) front-still

  pub faithful-still : (ws : List ℕ) (vs : List ℤ) → Faithful (code_in w) ws vs (chains_in p w) → Faithful (code_in listed) ws vs (chains_in p listed)
  faithful-still ws vs f = subst (λ (l : List ℕ). Faithful l ws vs (chains_in p listed)) (sym code-still) (subst (λ (l : List ℕ). Faithful (code_in w) ws vs l) (sym (part_same p.front 768 (p.front - 768) w listed (omega arith) front-still)) f)

  pub list-is : list_in p listed ≡ y
  list-is = ap (take 16) rest-is ∙ take_at y (drop k (drop p.front w)) 16 (ey ∙ ek)

  pub table-still : table_in p listed ≡ table_in p w
  table-still =
      sym (drop-drop 16 p.front listed)
      ∙ ap (drop 16) rest-is
      ∙ drop_at y (drop k (drop p.front w)) 16 (ey ∙ ek)
      ∙ drop-drop k p.front w
      ∙ ap (λ (j : ℕ). drop (p.front + j) w) ek
