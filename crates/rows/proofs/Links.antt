-- Chains through the stored rows: one row more at the front, and one link further back.
use mathlib.Core.Path.{◌≡◌, refl, sym, ap, ◌∙◌, subst}
use mathlib.Core.Bool.{Bool, true, false, cond}
use mathlib.Core.List.{List, ◌++◌}
use Prim.Native.Nat.{ℕ, suc, ◌+◌, ◌-◌, ◌*◌, ◌/◌, ◌≤◌, ◌<◌, min}
use native.Mathlib.Nat.{mul-le-mul, le_refl}
use native.Mathlib.Omega.{arith}
use lib.Dec.{eqb, ltb}
use lib.IntN.{ℤ}
use lib.ListN.{length, get_or, set, take, drop, length-append, length-take, length-drop, length-set, take-append-drop}
use lib.Seq.{take_all, drop_at, take-length, take-append-le, drop-append-le, get_or-set_same, get_or-set_other}
use borrow.Author.Tests.{eqb-true, eqb-false, ltb-true, ltb-false}
use Rattle.model.specs.Meaning.{same_row}
use Rattle.model.specs.Search.{Search, search}
use Rattle.model.proofs.Monotone.{same-equal, same_refl}
use Rattle.model.proofs.Search.{NoneBelow, search-before, search-after}
use Rattle.model.proofs.Tests.{clash}
use Rattle.rows.specs.Buffer.{stored_rows, sought, over}
use Rattle.rows.specs.Chains.{heads_of, nexts_of, bucket_of, row_at, bucket_at, Last, LastOf, Chained, Linked}
use Rattle.std.specs.List.{slice_range}
use Rattle.rows.proofs.Compared.{same_at, row_count, sought-hit, sought-none, rows_split}
use Rattle.rows.proofs.Laws.{row_room, over-length}

-- a walk along the chain of a row: no row equal to it from the link on
abbrev pub Passed : List ℤ → List ℤ → ℕ → ℕ → ℕ → Type 0
Passed x c l n link = Last (λ (j : ℕ). bucket_at l (length x) c j ≡ bucket_of l x) (λ (j : ℕ). same_row x (row_at (length x) c j) ≡ true) n link

module _ (x c : List ℤ) (l n : ℕ) where
  -- equal rows are in one bucket
  same-bucket : (j : ℕ) → same_row x (row_at (length x) c j) ≡ true → bucket_at l (length x) c j ≡ bucket_of l x
  same-bucket j s = ap (bucket_of l) (sym (same-equal x (row_at (length x) c j) s))

  pub passed_start : (link : ℕ) → LastOf (λ (j : ℕ). bucket_at l (length x) c j ≡ bucket_of l x) n link → Passed x c l n link
  passed_start link f = record { low = f.low; here = f.here; above = λ j a b s. f.above j a b (same-bucket j s) }

  pub passed_none : (link : ℕ) → link ≡ 0 → Passed x c l n link → sought n c x ≡ record { found = false; tried = n }
  passed_none link e f = sought-none x n c (λ j h. go (same_at x c j) (λ s. f.above j (omega arith) h s))
    where
      go : (b : Bool) → (b ≡ true → ⊥) → b ≡ false
      go true k = absurd (k refl)
      go false k = refl

  -- an equal row is the first, where no two are equal
  pub passed-hit : (link : ℕ) → 0 < link → link ≤ n → ((i j : ℕ) → i < j → j < n → row_at (length x) c i ≡ row_at (length x) c j → ⊥) → same_at x c (link - 1) ≡ true → sought n c x ≡ record { found = true; tried = link }
  passed-hit link h k distinct s =
      sought-hit x n (link - 1) c (omega arith) (λ i a. go i a (same_at x c i) refl) s ∙ ap (λ (m : ℕ). record { found = true; tried = m }) (omega arith)
    where
      go : (i : ℕ) → i < link - 1 → (b : Bool) → same_at x c i ≡ b → b ≡ false
      go i a true e = absurd (distinct i (link - 1) a (omega arith) (sym (same-equal x (row_at (length x) c i) e) ∙ same-equal x (row_at (length x) c (link - 1)) s))
      go i a false e = refl

  pub passed-step : (i link to : ℕ) → link ≡ i + 1 → same_row x (row_at (length x) c i) ≡ false → Passed x c l n link → LastOf (λ (j : ℕ). bucket_at l (length x) c j ≡ bucket_at l (length x) c i) i to → Passed x c l n to
  passed-step i link to e differs f g =
      record { low = omega (arith, g.low, f.low); here = λ j q. g.here j q ∙ f.here i e; above = λ j a b. go j a b (ltb j i) (eqb i j) refl refl }
    where
      go : (j : ℕ) → to ≤ j → j < n → (s t : Bool) → ltb j i ≡ s → eqb i j ≡ t → same_row x (row_at (length x) c j) ≡ true → ⊥
      go j a b true t p q y = g.above j a (ltb-true j i p) (same-bucket j y ∙ sym (f.here i e))
      go j a b false true p q y = clash (sym differs ∙ ap (λ (m : ℕ). same_row x (row_at (length x) c m)) (eqb-true i j q) ∙ y)
      go j a b false false p q y = f.above j (omega (arith, ltb-false j i p, eqb-false i j q)) b y

-- buckets that are alike below n
module _ (b c : ℕ → ℕ) (n : ℕ) (alike : (j : ℕ) → j < n → b j ≡ c j) where
  last-alike : (m h link : ℕ) → m ≤ n → LastOf (λ (j : ℕ). b j ≡ h) m link → LastOf (λ (j : ℕ). c j ≡ h) m link
  last-alike m h link k f =
      record { low = f.low; here = λ j e. sym (alike j (omega (arith, f.low))) ∙ f.here j e; above = λ j a d p. f.above j a d (alike j (omega arith) ∙ p) }

  pub chained-alike : (heads m : ℕ) (t : List ℕ) → m ≤ n → Chained b heads m t → Chained c heads m t
  chained-alike heads m t k f =
      record { first = λ h d. last-alike m h _ k (f.first h d); next = λ i d. subst (λ (h : ℕ). LastOf (λ (j : ℕ). c j ≡ h) i (get_or t (heads + i) 0)) (alike i (omega arith)) (last-alike i (b i) _ (omega arith) (f.next i d)) }

-- row n at the front of its chain
module _ (b : ℕ → ℕ) (heads n : ℕ) (t : List ℕ) (h : ℕ) (f : Chained b heads n t) (low : h < heads) (room : heads + n < length t) (is : b n ≡ h) where
  last-front : (link : ℕ) → link ≡ n + 1 → LastOf (λ (j : ℕ). b j ≡ h) (n + 1) link
  last-front link e = record { low = omega arith; here = λ j k. it j (omega arith); above = λ j a d p. omega arith }
    where
      it : (j : ℕ) → j ≡ n → b j ≡ h
      it j k = ap b k ∙ is

  last-other : (g link : ℕ) → (h ≡ g → ⊥) → LastOf (λ (j : ℕ). b j ≡ g) n link → LastOf (λ (j : ℕ). b j ≡ g) (n + 1) link
  last-other g link differs l = record { low = omega (arith, l.low); here = l.here; above = λ j a d. go j a d (eqb n j) refl }
    where
      go : (j : ℕ) → link ≤ j → j < n + 1 → (s : Bool) → eqb n j ≡ s → b j ≡ g → ⊥
      go j a d true e p = differs (sym is ∙ ap b (eqb-true n j e) ∙ p)
      go j a d false e p = l.above j a (omega (arith, eqb-false n j e)) p

  module _ (x y : ℕ) (ex : x ≡ get_or t h 0) (ey : y ≡ n + 1) where
    abbrev after : List ℕ
    after = set (set t (heads + n) x) h y

    pub chained_more : Chained b heads (n + 1) after
    chained_more = record { first = λ g k. first g k (eqb h g) refl; next = λ i k. next i k (eqb n i) refl }
      where
        first : (g : ℕ) → g < heads → (s : Bool) → eqb h g ≡ s → LastOf (λ (j : ℕ). b j ≡ g) (n + 1) (get_or after g 0)
        first g k true e =
            subst (λ (m : ℕ). LastOf (λ (j : ℕ). b j ≡ m) (n + 1) (get_or after m 0)) (eqb-true h g e)
            (last-front (get_or after h 0) (get_or-set_same (set t (heads + n) x) h y 0 (rw (length-set t (heads + n) x) (omega arith)) ∙ ey))
        first g k false e =
            let differs = eqb-false h g e in
            let p : get_or after g 0 ≡ get_or t g 0 = get_or-set_other (set t (heads + n) x) h g y 0 (λ q. differs (sym q)) ∙ get_or-set_other t (heads + n) g x 0 (λ q. omega arith) in
            last-other g (get_or after g 0) differs (subst (LastOf (λ (j : ℕ). b j ≡ g) n) (sym p) (f.first g k))

        link_at : (i : ℕ) → get_or after (heads + i) 0 ≡ get_or (set t (heads + n) x) (heads + i) 0
        link_at i = get_or-set_other (set t (heads + n) x) h (heads + i) y 0 (λ q. omega arith)

        next : (i : ℕ) → i < n + 1 → (s : Bool) → eqb n i ≡ s → LastOf (λ (j : ℕ). b j ≡ b i) i (get_or after (heads + i) 0)
        next i k true e =
            let p : get_or after (heads + n) 0 ≡ get_or t h 0 = link_at n ∙ get_or-set_same t (heads + n) x 0 room ∙ ex in
            subst (λ (m : ℕ). LastOf (λ (j : ℕ). b j ≡ b m) m (get_or after (heads + m) 0)) (eqb-true n i e)
            (subst (LastOf (λ (j : ℕ). b j ≡ b n) n) (sym p) (subst (λ (m : ℕ). LastOf (λ (j : ℕ). b j ≡ m) n (get_or t h 0)) (sym is) (f.first h low)))
        next i k false e =
            let differs = eqb-false n i e in
            let p : get_or after (heads + i) 0 ≡ get_or t (heads + i) 0 = link_at i ∙ get_or-set_other t (heads + n) (heads + i) x 0 (λ q. omega (arith, differs (omega arith))) in
            subst (LastOf (λ (j : ℕ). b j ≡ b i) i) (sym p) (f.next i (omega (arith, differs)))

-- the same where the table tells how many rows it can link
module _ (b : ℕ → ℕ) (n : ℕ) (t : List ℕ) where
  pub chained-full : nexts_of (length t) ≤ n → Chained b (heads_of (length t)) (min n (nexts_of (length t))) t → Chained b (heads_of (length t)) (min (n + 1) (nexts_of (length t))) t
  chained-full h f = let e : min (n + 1) (nexts_of (length t)) ≡ min n (nexts_of (length t)) = omega arith in subst (λ (m : ℕ). Chained b (heads_of (length t)) m t) (sym e) f

pub chained-put : (b : ℕ → ℕ) (n h : ℕ) (t : List ℕ) (heads x y : ℕ) → heads ≡ heads_of (length t) → h < heads_of (length t) → n < nexts_of (length t) → b n ≡ h → x ≡ get_or t h 0 → y ≡ n + 1
    → Chained b (heads_of (length t)) (min n (nexts_of (length t))) t → Chained b (heads_of (length t)) (min (n + 1) (nexts_of (length t))) (set (set t (heads + n) x) h y)
chained-put b n h t heads x y eh low room is ex ey f =
    let e : min n (nexts_of (length t)) ≡ n = omega arith in
    let e₁ : min (n + 1) (nexts_of (length t)) ≡ n + 1 = omega arith in
    rw (e₁, eh) (chained_more b (heads_of (length t)) n t h (subst (λ (m : ℕ). Chained b (heads_of (length t)) m t) e f) low (omega arith) is x y ex ey)

-- a linked row is within the cells, and its link within the table
pub row_within : (link n w l : ℕ) → 0 < link → link ≤ n → n * w ≤ l → (link - 1) * w + w ≤ l
row_within link n w l h k room =
    let p : suc (link - 1) ≤ n = omega arith in
    omega (arith, room, mul-le-mul p (le_refl w))

pub heads-most : (l : ℕ) → heads_of l ≤ 4096
heads-most l = go (ltb l 8192)
  where
    go : (b : Bool) → cond b 512 4096 ≤ 4096
    go true = omega arith
    go false = omega arith

-- row j, read as a part of the cells and compared
pub row-part : (c : List ℤ) (at j : ℕ) (x s : List ℤ) (r b : Bool) → at ≡ j * length x → s ≡ slice_range c at (at + length x) → r ≡ same_row x s → r ≡ b → same_at x c j ≡ b
row-part c at j x s r b ea es e f =
    let k : at + length x - at ≡ length x = omega arith in
    ap (λ (m : ℕ). same_row x (take (length x) (drop m c))) (sym ea) ∙ ap (λ (m : ℕ). same_row x (take m (drop at c))) (sym k) ∙ ap (same_row x) (sym es) ∙ sym e ∙ f

-- s is what the search among the first of n rows gave, as many as a table can link
module _ (x c : List ℤ) (n k : ℕ) (s : Search) (es : s ≡ sought (min n k) c x) where
  pub known-linked : s.found ≡ true → s ≡ sought n c x
  known-linked h =
      let l = min n k in
      let after = stored_rows (length x) (n - l) (drop (l * length x) c) in
      es
      ∙ sym (search-before (same_row x) (stored_rows (length x) l c) after (ap (λ (r : Search). r.found) (sym es) ∙ h))
      ∙ ap (search (same_row x)) (sym (rows_split x l (n - l) n c (omega arith)))

  pub known-all : n ≤ k → s ≡ sought n c x
  known-all h = let e : min n k ≡ n = omega arith in es ∙ ap (λ (i : ℕ). sought i c x) e

  -- r is what the search among the rows after them gave
  pub known-rest : (m : ℕ) → m ≡ k → m < n → s.found ≡ false → (at : ℕ) → at ≡ m * length x → (r : Search) → r ≡ sought (n - m) (take (length c - at) (drop at c)) x → record { found = r.found; tried = m + r.tried } ≡ sought n c x
  known-rest m em h none at ea r er =
      let e : min n k ≡ m = omega arith in
      let after = stored_rows (length x) (n - m) (drop (m * length x) c) in
      ap (λ (y : Search). record { found = y.found; tried = m + y.tried }) (er ∙ ap (λ (d : List ℤ). sought (n - m) d x) (take_all (length c - at) (drop at c) (rw (length-drop at c) (omega arith)) ∙ ap (λ (i : ℕ). drop i c) ea))
      ∙ ap (λ (i : ℕ). record { found = (search (same_row x) after).found; tried = i + (search (same_row x) after).tried }) (sym (row_count x m c))
      ∙ sym (search-after (same_row x) (stored_rows (length x) m c) after (ap (λ (i : ℕ). (sought i c x).found) (sym e) ∙ ap (λ (y : Search). y.found) (sym es) ∙ none))
      ∙ ap (search (same_row x)) (sym (rows_split x m (n - m) n c (omega arith)))

pub rest-within : (k n w l : ℕ) → k < n → n * w ≤ l → k * w ≤ l
rest-within k n w l h room =
    let p : k ≤ n = omega arith in
    omega (arith, room, mul-le-mul p (le_refl w))

-- the rows below n stay, and row n is the new one
module _ (c x : List ℤ) (n : ℕ) (room : n * length x + length x ≤ length c) where
  abbrev front : List ℤ
  front = take (n * length x) c

  front_length : length front ≡ n * length x
  front_length = length-take (n * length x) c ∙ omega (arith, room)

  row-front : (a d : List ℤ) (j : ℕ) → j * length x + length x ≤ length a → row_at (length x) (a ++ d) j ≡ row_at (length x) a j
  row-front a d j h =
      ap (take (length x)) (drop-append-le (j * length x) a d (omega arith))
      ∙ take-append-le (length x) (drop (j * length x) a) d (rw (length-drop (j * length x) a) (omega arith))

  both-length : length (front ++ x) ≡ n * length x + length x
  both-length = length-append front x ∙ ap (λ (k : ℕ). k + length x) front_length

  row_below : (j : ℕ) → j < n → row_at (length x) c j ≡ row_at (length x) (over c (n * length x) x) j
  row_below j h =
      let k : j * length x + length x ≤ n * length x = omega (arith, mul-le-mul h (le_refl (length x))) in
      ap (λ (l : List ℤ). row_at (length x) l j) (sym (take-append-drop (n * length x) c))
      ∙ row-front front (drop (n * length x) c) j (omega (arith, front_length))
      ∙ sym (row-front front x j (omega (arith, front_length)))
      ∙ sym (row-front (front ++ x) (drop (n * length x + length x) c) j (omega (arith, both-length)))

  row_new : row_at (length x) (over c (n * length x) x) n ≡ x
  row_new =
      row-front (front ++ x) (drop (n * length x + length x) c) n (omega (arith, both-length))
      ∙ ap (take (length x)) (drop_at front x (n * length x) front_length)
      ∙ take-length x

  -- a row that equals none of them leaves them distinct
  distinct-laid : ((i j : ℕ) → i < j → j < n → row_at (length x) c i ≡ row_at (length x) c j → ⊥) → NoneBelow (same_at x c) n
      → (i j : ℕ) → i < j → j < n + 1 → row_at (length x) (over c (n * length x) x) i ≡ row_at (length x) (over c (n * length x) x) j → ⊥
  distinct-laid old new i j a b e = go (ltb j n) refl
    where
      go : (t : Bool) → ltb j n ≡ t → ⊥
      go true h = old i j a (ltb-true j n h) (row_below i (omega (arith, ltb-true j n h)) ∙ e ∙ sym (row_below j (ltb-true j n h)))
      go false h =
          let g : j ≡ n = omega (arith, ltb-false j n h) in
          let is : row_at (length x) c i ≡ x = row_below i (omega arith) ∙ e ∙ ap (row_at (length x) (over c (n * length x) x)) g ∙ row_new in
          clash (sym (new i (omega arith)) ∙ ap (same_row x) is ∙ same_refl x)

-- one row more, laid and linked
pub linked-laid : (c d x : List ℤ) (n h : ℕ) (t u : List ℕ) → Linked (length x) n c t → NoneBelow (same_at x c) n → n < length c / length x → h ≡ bucket_of (length t) x → d ≡ over c (n * length x) x → length u ≡ length t
    → ((b : ℕ → ℕ) → b n ≡ h → Chained b (heads_of (length t)) (min n (nexts_of (length t))) t → Chained b (heads_of (length t)) (min (n + 1) (nexts_of (length t))) u)
    → Linked (length x) (n + 1) d u
linked-laid c d x n h t u f new lt eh ed lu more =
    let room = row_room n (length x) (length c) lt in
    let ld : length d ≡ length c = ap length ed ∙ over-length c x (n * length x) room in
    let b : ℕ → ℕ = bucket_at (length t) (length x) d in
    let row_n : b n ≡ h = ap (λ (l : List ℤ). bucket_at (length t) (length x) l n) ed ∙ ap (bucket_of (length t)) (row_new c x n room) ∙ sym eh in
    let old = chained-alike (bucket_at (length t) (length x) c) b n (λ j k. ap (bucket_of (length t)) (row_below c x n room j k) ∙ ap (λ (l : List ℤ). bucket_at (length t) (length x) l j) (sym ed)) (heads_of (length t)) (min n (nexts_of (length t))) t (omega arith) f.chained in
    record {
      room = omega (arith, room, ld);
      distinct = λ i j a b e. distinct-laid c x n room f.distinct new i j a b (ap (λ (l : List ℤ). row_at (length x) l i) (sym ed) ∙ e ∙ ap (λ (l : List ℤ). row_at (length x) l j) ed);
      short = omega (arith, f.short, lu);
      chained = subst (λ (l : ℕ). Chained (bucket_at l (length x) d) (heads_of l) (min (n + 1) (nexts_of l)) u) (sym lu) (more b row_n old);
    }

-- a cleared table links no row
pub linked-none : (w : ℕ) (c : List ℤ) (t : List ℕ) → length t ≤ 65535 → ((i : ℕ) → get_or t i 0 ≡ 0) → Linked w 0 c t
linked-none w c t h z =
    let e : min 0 (nexts_of (length t)) ≡ 0 = omega arith in
    record {
      room = omega arith;
      distinct = λ i j a b. absurd (omega arith);
      short = h;
      chained = rw e (record { first = λ g _. record { low = omega (arith, z g); here = λ j k. absurd (omega (arith, z g)); above = λ j _ k _. omega arith }; next = λ i k. absurd (omega arith) });
    }
