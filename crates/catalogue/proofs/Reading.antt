-- A catalogue that passes check 10 is read from its bytes as the model reads it.
use mathlib.Core.Path.{◌≡◌, refl, sym, ap, ap₂, ◌∙◌, fun_ext}
use mathlib.Core.Bool.{Bool, true, false, not, ◌&&◌, ◌||◌}
use mathlib.Core.List.{List, [], ◌∷◌, map}
use Prim.Native.Nat.{ℕ, zero, suc, ◌+◌, ◌-◌, ◌*◌, ◌≤◌, ◌<◌}
use native.Mathlib.Nat.{add-zero, mul-le-mul}
use native.Mathlib.Omega.{arith}
use lib.Dec.{eqb, leb, ltb}
use lib.IntN.{ℤ, pos}
use lib.ListN.{length, get_or, drop, length-drop, length-map, get_or-eq_default}
use lib.Seq.{get_or-drop, drop-drop}
use borrow.Author.Tests.{eqb-false, eq-eqb, ne_eqb, leb-true, ltb-false, le-ltb}
use Rattle.model.proofs.Tests.{and-inv, or_no, by-lt}
use Rattle.model.specs.Lists as S
use Rattle.model.specs.Encoding.{Read, need, then, failed}
use Rattle.model.specs.Encoding as E
use Rattle.model.specs.Meaning.{Tuple}
use Rattle.model.specs.Catalogue.{Relation, read_catalogue, catalogue_read, catalogue_of, value_count, shape_of, attributes_at, stored_at, tuples_of, walk, tuples_at}
use Rattle.model.specs.Checks.{fails10, fails11, refusal, keeper_checks}
use Rattle.catalogue.specs.Layout.{kind_of, attributes_of, rows_of, stored_of, latest_of, count_of, base_of, known_of, tuple_at, offsets, tuples_in}

-- the records from the front
abbrev pub relation_at : List ℕ → ℕ → Relation
relation_at c r = record { stored = stored_of c r; latest = latest_of c r; attributes = attributes_of c r; rows = rows_of c r }

unfoldable pub relations_in : ℕ → List ℕ → List Relation
relations_in zero c = []
relations_in (suc n) c = relation_at c 0 ∷ relations_in n (drop 4 c)

byte_next : (c : List ℕ) (r j : ℕ) → get_or (drop 4 c) (4 * r + j) 0 ≡ get_or c (4 * suc r + j) 0
byte_next c r j =
    let e : 4 + (4 * r + j) ≡ 4 * suc r + j = omega arith in
    get_or-drop 4 c (4 * r + j) 0 ∙ ap (λ (i : ℕ). get_or c i 0) e

kind-next : (c : List ℕ) (r : ℕ) → kind_of (drop 4 c) r ≡ kind_of c (suc r)
unfolding kind_of
kind-next c r =
    let e : 4 + 4 * r ≡ 4 * suc r = omega arith in
    get_or-drop 4 c (4 * r) 0 ∙ ap (λ (i : ℕ). get_or c i 0) e

attributes-next : (c : List ℕ) (r : ℕ) → attributes_of (drop 4 c) r ≡ attributes_of c (suc r)
unfolding attributes_of
attributes-next c r = byte_next c r 1

rows_next : (c : List ℕ) (r : ℕ) → rows_of (drop 4 c) r ≡ rows_of c (suc r)
unfolding rows_of
rows_next c r = ap₂ (λ (x y : ℕ). x + 256 * y) (byte_next c r 2) (byte_next c r 3)

known_next : (c : List ℕ) (r : ℕ) → known_of (drop 4 c) r ≡ known_of c (suc r)
known_next c r = rw (kind-next, attributes-next, rows_next)

-- reading
need-true : {A : Type 0} (b : Bool) (g : Read A) (x : A) (r : List ℕ) → need b g ≡ E.ok x r → (b ≡ true) × (g ≡ E.ok x r)
need-true true g x r h = (refl, h)
need-true false g x r h = let z : ◌≡◌ {A = ℕ} 0 1 = cc in absurd (omega arith)

known-parts : (c : List ℕ) (r : ℕ) → known_of c r ≡ true → ((eqb (kind_of c r) 48 || eqb (kind_of c r) 49 || eqb (kind_of c r) 50) ≡ true) × ((leb 1 (attributes_of c r) && leb (attributes_of c r) 16) ≡ true) × (leb (rows_of c r) 1024 ≡ true)
known-parts c r h =
    let p = and-inv (eqb (kind_of c r) 48 || eqb (kind_of c r) 49 || eqb (kind_of c r) 50) ((leb 1 (attributes_of c r) && leb (attributes_of c r) 16) && leb (rows_of c r) 1024) h in
    let q = and-inv (leb 1 (attributes_of c r) && leb (attributes_of c r) 16) (leb (rows_of c r) 1024) p.1 in
    (p.0, q.0, q.1)

-- whole records that are known are read
module _ (k w a b : ℕ) (c : List ℕ) where
  read_known : (f : ℕ) (xs : List Relation) → known_of (k ∷ w ∷ a ∷ b ∷ c) 0 ≡ true → read_catalogue f c ≡ E.ok xs [] → read_catalogue (suc f) (k ∷ w ∷ a ∷ b ∷ c) ≡ E.ok (relation_at (k ∷ w ∷ a ∷ b ∷ c) 0 ∷ xs) []
  unfolding read_catalogue kind_of attributes_of rows_of
  read_known f xs h e =
      let p = known-parts (k ∷ w ∷ a ∷ b ∷ c) 0 h in
      rw (p.0, p.1, p.2, e)

read_whole : (n f : ℕ) (c : List ℕ) → length c ≡ 4 * n → n < f → ((r : ℕ) → r < n → known_of c r ≡ true) → read_catalogue f c ≡ E.ok (relations_in n c) []
unfolding read_catalogue relations_in
read_whole n zero c e h k = absurd (omega arith)
read_whole zero (suc f) [] e h k = refl
read_whole zero (suc f) (x ∷ c) e h k = absurd (omega arith)
read_whole (suc n) (suc f) [] e h k = absurd (omega arith)
read_whole (suc n) (suc f) (x ∷ []) e h k = absurd (omega arith)
read_whole (suc n) (suc f) (x ∷ y ∷ []) e h k = absurd (omega arith)
read_whole (suc n) (suc f) (x ∷ y ∷ z ∷ []) e h k = absurd (omega arith)
read_whole (suc n) (suc f) (x ∷ y ∷ z ∷ t ∷ c) e h k =
    read_known x y z t c f (relations_in n c) (k 0 (omega arith))
    (read_whole n f c (omega arith) (omega arith) (λ r l. known_next (x ∷ y ∷ z ∷ t ∷ c) r ∙ k (suc r) (omega arith)))

-- and what is read is whole records that are known
record Whole (c : List ℕ) (n : ℕ) : Type 0 where
  size : length c ≡ 4 * n
  known : (r : ℕ) → r < n → known_of c r ≡ true

need-none : {A : Type 0} (b : Bool) (x : A) (r : List ℕ) → need b E.fail ≡ E.ok x r → ⊥
need-none true x r h = let z : ◌≡◌ {A = ℕ} 0 1 = cc in omega arith
need-none false x r h = let z : ◌≡◌ {A = ℕ} 0 1 = cc in omega arith

whole-next : (x y z t : ℕ) (c : List ℕ) (n : ℕ) → known_of (x ∷ y ∷ z ∷ t ∷ c) 0 ≡ true → Whole c n → Whole (x ∷ y ∷ z ∷ t ∷ c) (suc n)
whole-next x y z t c n k h = record { size = omega (arith, h.size); known = at }
  where
    at : (r : ℕ) → r < suc n → known_of (x ∷ y ∷ z ∷ t ∷ c) r ≡ true
    at zero l = k
    at (suc r) l = sym (known_next (x ∷ y ∷ z ∷ t ∷ c) r) ∙ h.known r (omega arith)

known-front : (x y z t : ℕ) (c : List ℕ) → (eqb x 48 || eqb x 49 || eqb x 50) ≡ true → (leb 1 y && leb y 16) ≡ true → leb (z + 256 * t) 1024 ≡ true → known_of (x ∷ y ∷ z ∷ t ∷ c) 0 ≡ true
unfolding kind_of attributes_of rows_of
known-front x y z t c p q g = rw (p, q, g)

read-is-whole : (f : ℕ) (c : List ℕ) (xs : List Relation) (s : List ℕ) → read_catalogue f c ≡ E.ok xs s → Whole c (length xs)
unfolding read_catalogue
read-is-whole zero c xs s h = let z : ◌≡◌ {A = ℕ} 0 1 = cc in absurd (omega arith)
read-is-whole (suc f) [] xs s h = let e : [] ≡ xs = cc in rw (← e) (record { size = omega arith; known = λ r l. absurd (omega arith) })
read-is-whole (suc f) (x ∷ []) xs s h = absurd (need-none (eqb x 48 || eqb x 49 || eqb x 50) xs s h)
read-is-whole (suc f) (x ∷ y ∷ []) xs s h =
    absurd (need-none (leb 1 y && leb y 16) xs s (need-true (eqb x 48 || eqb x 49 || eqb x 50) _ xs s h).1)
read-is-whole (suc f) (x ∷ y ∷ z ∷ []) xs s h =
    absurd (need-none (leb 1 y && leb y 16) xs s (need-true (eqb x 48 || eqb x 49 || eqb x 50) _ xs s h).1)
read-is-whole (suc f) (x ∷ y ∷ z ∷ t ∷ c) xs s h =
    let p = need-true (eqb x 48 || eqb x 49 || eqb x 50) _ xs s h in
    let q = need-true (leb 1 y && leb y 16) _ xs s p.1 in
    let g = need-true (leb (z + 256 * t) 1024) _ xs s q.1 in
    go (read_catalogue f c) (known-front x y z t c p.0 q.0 g.0) (λ ys r e. read-is-whole f c ys r e) g.1
  where
    go : (m : Read (List Relation)) → known_of (x ∷ y ∷ z ∷ t ∷ c) 0 ≡ true → ((ys : List Relation) (r : List ℕ) → m ≡ E.ok ys r → Whole c (length ys)) → then m (λ ys r. E.ok (record { stored = not (eqb x 49); latest = eqb x 50; attributes = y; rows = z + 256 * t } ∷ ys) r) ≡ E.ok xs s → Whole (x ∷ y ∷ z ∷ t ∷ c) (length xs)
    go E.fail k i e = let z : ◌≡◌ {A = ℕ} 0 1 = cc in absurd (omega arith)
    go (E.ok ys r) k i e =
        let same : record { stored = not (eqb x 49); latest = eqb x 50; attributes = y; rows = z + 256 * t } ∷ ys ≡ xs = cc in
        rw (← same) (whole-next x y z t c (length ys) k (i ys r refl))

-- check 10 passes
pub record Valid (c : List ℕ) : Type 0 where
  pub size : length c ≡ 4 * count_of c
  pub some : 1 ≤ count_of c
  pub few : count_of c ≤ 16
  pub known : (r : ℕ) → r < count_of c → known_of c r ≡ true

count-of : (c : List ℕ) (n : ℕ) → length c ≡ 4 * n → count_of c ≡ n
count-of c n e = omega arith

read-valid : (c : List ℕ) → Valid c → catalogue_read c ≡ E.ok (relations_in (count_of c) c) []
unfolding catalogue_read
read-valid c h = read_whole (count_of c) (suc (length c)) c h.size (omega (arith, h.size)) h.known

relations-length : (n : ℕ) (c : List ℕ) → length (relations_in n c) ≡ n
unfolding relations_in
relations-length zero c = refl
relations-length (suc n) c = ap suc (relations-length n (drop 4 c))

catalogue-valid : (c : List ℕ) → Valid c → catalogue_of c ≡ relations_in (count_of c) c
unfolding catalogue_of
catalogue-valid c h = rw (read-valid c h)

pub valid-passes : (c : List ℕ) → Valid c → fails10 c ≡ false
unfolding fails10
valid-passes c h =
    let e : length (catalogue_of c) ≡ count_of c = ap length (catalogue-valid c h) ∙ relations-length (count_of c) c in
    rw (read-valid c h, e, ne_eqb (count_of c) 0 (λ z. omega (arith, h.some)), le-ltb 16 (count_of c) h.few)

pub passes-valid : (c : List ℕ) → fails10 c ≡ false → Valid c
unfolding fails10 catalogue_of catalogue_read
passes-valid c h = go (catalogue_read c) refl h
  where
    go : (m : Read (List Relation)) → catalogue_read c ≡ m → failed m || (eqb (length (E.read_or [] m)) 0 || ltb 16 (length (E.read_or [] m))) ≡ false → Valid c
    go E.fail e k = let z : ◌≡◌ {A = ℕ} 0 1 = cc in absurd (omega arith)
    go (E.ok xs r) e k =
        let w = read-is-whole (suc (length c)) c xs r e in
        let b = or_no (eqb (length xs) 0) (ltb 16 (length xs)) k in
        let n = count-of c (length xs) w.size in
        record {
          size = omega (arith, w.size, n);
          some = omega (arith, n, eqb-false (length xs) 0 b.0);
          few = omega (arith, n, ltb-false 16 (length xs) b.1);
          known = λ r l. w.known r (omega arith);
        }

pub refused : (c : List ℕ) → (Valid c → ⊥) → fails10 c ≡ true
refused c h = go (fails10 c) refl
  where
    go : (b : Bool) → fails10 c ≡ b → b ≡ true
    go true e = refl
    go false e = absurd (h (passes-valid c e))

-- past the end every number is 0
drop-length : (n : ℕ) (c : List ℕ) → length c ≡ 4 * suc n → length (drop 4 c) ≡ 4 * n
drop-length n c e = rw (length-drop 4 c) (omega arith)

attributes-none : (c : List ℕ) (r : ℕ) → length c ≤ 4 * r → attributes_of c r ≡ 0
unfolding attributes_of
attributes-none c r e = get_or-eq_default c 0 (omega arith)

rows_none : (c : List ℕ) (r : ℕ) → length c ≤ 4 * r → rows_of c r ≡ 0
unfolding rows_of
rows_none c r e =
    let p : get_or c (4 * r + 2) 0 ≡ 0 = get_or-eq_default c 0 (omega arith) in
    let q : get_or c (4 * r + 3) 0 ≡ 0 = get_or-eq_default c 0 (omega arith) in
    omega arith

stored-none : (c : List ℕ) (r : ℕ) → length c ≤ 4 * r → stored_of c r ≡ true
unfolding kind_of
stored-none c r e =
    let p : get_or c (4 * r) 0 ≡ 0 = get_or-eq_default c 0 (omega arith) in
    rw p

base-none : (c : List ℕ) (r : ℕ) → length c ≡ 0 → base_of c r ≡ 0
unfolding base_of
base-none c zero e = refl
base-none c (suc r) e = rw (base-none c r e, rows_none c r (omega arith)) (omega arith)

base-grows : (c : List ℕ) (r k : ℕ) → base_of c r ≤ base_of c (r + k)
unfolding base_of
base-grows c r zero = let e : r + 0 ≡ r = omega arith in rw e (omega arith)
base-grows c r (suc k) = let e : r + suc k ≡ suc (r + k) = omega arith in rw e (omega (arith, base-grows c r k))

-- where a relation begins, from the front
-- past the bytes there are no values
base-past : (c : List ℕ) (m k : ℕ) → length c ≤ 4 * m → base_of c (m + k) ≡ base_of c m
unfolding base_of rows_of
base-past c m zero h = ap (base_of c) (add-zero m)
base-past c m (suc k) h =
    let e : m + suc k ≡ suc (m + k) = omega arith in
    let low : get_or c (4 * (m + k) + 2) 0 ≡ 0 = get_or-eq_default c 0 (omega arith) in
    let high : get_or c (4 * (m + k) + 3) 0 ≡ 0 = get_or-eq_default c 0 (omega arith) in
    ap (base_of c) e ∙ rw (low, high) (omega (arith, base-past c m k h))

pub total-past : (c : List ℕ) (n m t : ℕ) → n ≡ count_of c → n < 16 → m ≡ n + 1 → t ≡ base_of c m → t ≡ base_of c 16
total-past c n m t en h em et =
    let e : m + (16 - m) ≡ 16 = omega (arith, em, h) in
    et ∙ sym (base-past c m (16 - m) (omega (arith, em, en))) ∙ ap (base_of c) e

base-next : (c : List ℕ) (r : ℕ) → base_of c (suc r) ≡ rows_of c 0 * attributes_of c 0 + base_of (drop 4 c) r
unfolding base_of
base-next c zero = omega arith
base-next c (suc r) = rw (base-next c r, rows_next c r, attributes-next c r) (omega arith)

attributes-in : (n : ℕ) (c : List ℕ) (r : ℕ) → length c ≡ 4 * n → attributes_at (shape_of (relations_in n c)) r ≡ attributes_of c r
unfolding attributes_at shape_of relations_in
attributes-in zero c r e = sym (attributes-none c r (omega arith))
attributes-in (suc n) c zero e = refl
attributes-in (suc n) c (suc r) e = attributes-in n (drop 4 c) r (drop-length n c e) ∙ attributes-next c r

stored-in : (n : ℕ) (c : List ℕ) (r : ℕ) → length c ≡ 4 * n → stored_at (shape_of (relations_in n c)) r ≡ stored_of c r
unfolding stored_at shape_of relations_in
stored-in zero c r e = sym (stored-none c r (omega arith))
stored-in (suc n) c zero e = refl
stored-in (suc n) c (suc r) e = stored-in n (drop 4 c) r (drop-length n c e) ∙ ap (λ (k : ℕ). not (eqb k 49)) (kind-next c r)

total-in : (n m : ℕ) (c : List ℕ) → length c ≡ 4 * n → n ≤ m → value_count (relations_in n c) ≡ base_of c m
unfolding value_count relations_in S.total
total-in zero m c e h = sym (base-none c m (omega arith))
total-in (suc n) zero c e h = absurd (omega arith)
total-in (suc n) (suc m) c e h = ap (λ (k : ℕ). rows_of c 0 * attributes_of c 0 + k) (total-in n m (drop 4 c) (drop-length n c e) (omega arith)) ∙ sym (base-next c m)

walk_none : (b : Bool) → walk b [] ≡ []
unfolding walk S.backwards
walk_none true = refl
walk_none false = refl

tuples-in : (n : ℕ) (c : List ℕ) (vs : List ℤ) (r : ℕ) → length c ≡ 4 * n → tuples_at (relations_in n c) vs r ≡ walk (latest_of c r) (tuples_of (rows_of c r) (attributes_of c r) (drop (base_of c r) vs))
unfolding tuples_at relations_in tuples_of base_of
tuples-in zero c vs r e = rw (rows_none c r (omega arith)) (sym (walk_none (latest_of c r)))
tuples-in (suc n) c vs zero e = refl
tuples-in (suc n) c vs (suc r) e =
    tuples-in n (drop 4 c) (drop (rows_of c 0 * attributes_of c 0) vs) r (drop-length n c e)
    ∙ rw (drop-drop, ← base-next c r, rows_next c r, attributes-next c r, kind-next c r)

-- rows by their offsets
tuples-by-offset : (n w p : ℕ) (vs : List ℤ) → tuples_of n w (drop p vs) ≡ map (tuple_at vs) (offsets p w n)
unfolding tuples_of offsets
tuples-by-offset zero w p vs = refl
tuples-by-offset (suc n) w p vs =
    ap₂ (λ (x : Tuple) (xs : List Tuple). x ∷ xs)
    (fun_ext λ a. get_or-drop p vs a (pos 0))
    (rw (drop-drop w p vs) (tuples-by-offset n w (p + w) vs))

-- the model's readings of a catalogue that passes check 10
module _ (c : List ℕ) (h : fails10 c ≡ false) where
  valid : Valid c
  valid = passes-valid c h

  pub relations-are : (catalogue_of c ≡ relations_in (count_of c) c) × (length c ≡ 4 * count_of c)
  relations-are = (catalogue-valid c valid, valid.size)

  pub count-is : length (catalogue_of c) ≡ count_of c
  count-is = ap length (catalogue-valid c valid) ∙ relations-length (count_of c) c

  pub shape-count : length (shape_of (catalogue_of c)) ≡ count_of c
  unfolding shape_of
  shape-count = length-map (catalogue_of c) _ ∙ count-is

  pub attributes-is : (r : ℕ) → attributes_at (shape_of (catalogue_of c)) r ≡ attributes_of c r
  attributes-is r = rw (catalogue-valid c valid) (attributes-in (count_of c) c r valid.size)

  pub stored_is : (r : ℕ) → stored_at (shape_of (catalogue_of c)) r ≡ stored_of c r
  stored_is r = rw (catalogue-valid c valid) (stored-in (count_of c) c r valid.size)

  pub total-is : value_count (catalogue_of c) ≡ base_of c 16
  total-is = rw (catalogue-valid c valid) (total-in (count_of c) 16 c valid.size valid.few)

  pub fails11-is : (vs : List ℤ) → fails11 c vs ≡ not (eqb (length vs) (base_of c 16))
  unfolding fails11
  fails11-is vs = rw total-is

  pub tuples-are : (vs : List ℤ) (r : ℕ) → tuples_at (catalogue_of c) vs r ≡ tuples_in c vs r
  unfolding tuples_in
  tuples-are vs r = rw (catalogue-valid c valid) (tuples-in (count_of c) c vs r valid.size ∙ ap (walk (latest_of c r)) (tuples-by-offset (rows_of c r) (attributes_of c r) (base_of c r) vs))

  pub attributes-some : (r : ℕ) → r < count_of c → 1 ≤ attributes_of c r
  attributes-some r l =
      let p = known-parts c r (valid.known r l) in
      leb-true 1 (attributes_of c r) (and-inv (leb 1 (attributes_of c r)) (leb (attributes_of c r) 16) p.1).0

  pub attributes-few : (r : ℕ) → attributes_of c r ≤ 16
  attributes-few r = by-lt r (count_of c) there past
    where
      there : r < count_of c → attributes_of c r ≤ 16
      there l =
          let p = known-parts c r (valid.known r l) in
          leb-true (attributes_of c r) 16 (and-inv (leb 1 (attributes_of c r)) (leb (attributes_of c r) 16) p.1).1

      past : count_of c ≤ r → attributes_of c r ≤ 16
      past l = rw (attributes-none c r (omega (arith, valid.size))) (omega arith)

  pub rows_few : (r : ℕ) → rows_of c r ≤ 1024
  rows_few r = by-lt r (count_of c) there past
    where
      there : r < count_of c → rows_of c r ≤ 1024
      there l = leb-true (rows_of c r) 1024 (known-parts c r (valid.known r l)).2

      past : count_of c ≤ r → rows_of c r ≤ 1024
      past l = rw (rows_none c r (omega (arith, valid.size))) (omega arith)

  -- the values of a relation lie within the slice that check 11 accepts
  pub base-room : (r : ℕ) → r < count_of c → base_of c r + rows_of c r * attributes_of c r ≤ base_of c 16
  unfolding base_of
  base-room r l =
      let e : suc r + (15 - r) ≡ 16 = omega (arith, valid.few) in
      rw e at (base-grows c (suc r) (15 - r))

  base-few : (r : ℕ) → base_of c r ≤ 16384 * r
  unfolding base_of
  base-few zero = omega arith
  base-few (suc r) = omega (arith, base-few r, mul-le-mul (rows_few r) (attributes-few r))

  pub total-few : base_of c 16 ≤ 262144
  total-few = base-few 16

-- check 11, and both
pub check-10 : (c : List ℕ) (vs : List ℤ) → fails10 c ≡ true → refusal (keeper_checks c vs) ≡ 10
unfolding refusal keeper_checks
check-10 c vs h = rw h

pub check-11 : (c : List ℕ) (vs : List ℤ) → fails10 c ≡ false → (length vs ≡ base_of c 16 → ⊥) → refusal (keeper_checks c vs) ≡ 11
unfolding refusal keeper_checks fails11
check-11 c vs h k = rw (h, total-is c h, ne_eqb (length vs) (base_of c 16) k)

pub check-none : (c : List ℕ) (vs : List ℤ) → fails10 c ≡ false → length vs ≡ base_of c 16 → refusal (keeper_checks c vs) ≡ 0
unfolding refusal keeper_checks fails11
check-none c vs h k = rw (h, total-is c h, eq-eqb (length vs) (base_of c 16) k)
