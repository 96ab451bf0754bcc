-- The table: a step gives one variable its rows, and what the others have stays theirs.
use mathlib.Core.Path.{◌≡◌, refl, sym, ap, ap₂, ◌∙◌, subst, fun_ext}
use mathlib.Core.Bool.{Bool, true, false, not, cond}
use mathlib.Core.List.{List, [], ◌∷◌, ◌++◌, map, map-map, map-append}
use Prim.Native.Nat.{ℕ, zero, suc, ◌+◌, ◌-◌, ◌*◌, ◌/◌, ◌≤◌, ◌<◌}
use native.Mathlib.Nat.{mul-le-mul, le_refl}
use native.Mathlib.Omega.{arith}
use lib.Dec.{eqb}
use lib.IntN.{ℤ}
use lib.ListN.{length, get_or, replicate, length-replicate, length-set}
use lib.Seq.{get_or-set_same, get_or-set_other}
use borrow.Author.Tests.{eqb-true, eqb-false, eq-eqb, ne_eqb}
use Rattle.model.specs.Lists.{contains, any, filter, below, unique, Every}
use Rattle.model.specs.Syntax.{Binding, variables}
use Rattle.model.specs.Meaning.{Tuple}
use Rattle.model.proofs.Tests.{and-inv, or_no, not_yes}
use Rattle.model.proofs.Lists.{every_map, every-both, every_append, every-join, filter_map, get_or-same}
use Rattle.catalogue.specs.Layout.{tuple_at, tuples_in, attributes_of, rows_of, latest_of, base_of}
use Rattle.walks.specs.declared.Walk.{Walk}
use Rattle.walks.specs.Walks.{walk_of, place_at, places, walked}
use Rattle.allrows.specs.Filled.{written, whole_of}
use Rattle.allrows.proofs.Table.{written-length, written-outside, written-other, written-here}
use Rattle.allrows.proofs.All.{walked_whole}
use Rattle.permitted.specs.Meets.{row_of}
use Rattle.permitted.specs.Given.{meets_any, rows_for, number_at, numbers_for, Listed, key_of, entered, Has, Keyed, Given, Low, Stepped}

-- walks that lead to the same rows
places_same : (P Q : ℕ → ℕ) (k n : ℕ) → ((j : ℕ) → j < k + n → P j ≡ Q j) → places P k n ≡ places Q k n
unfolding places
places_same P Q k zero h = refl
places_same P Q k (suc n) h = ap₂ ◌∷◌ (h k (omega arith)) (places_same P Q (suc k) n (λ j l. h j (omega arith)))

walked_same : (ws ws' : List ℕ) (vs : List ℤ) (u v : ℕ) → walk_of ws' v ≡ walk_of ws u → (2 ≤ (walk_of ws u).start → (j : ℕ) → j < (walk_of ws u).count → get_or ws' ((walk_of ws u).start + j) 0 ≡ get_or ws ((walk_of ws u).start + j) 0) → walked ws' vs v ≡ walked ws vs u
unfolding walked place_at
walked_same ws ws' vs u v e h =
    let x = walk_of ws u in
    ap (λ (y : Walk). map (tuple_at vs) (places (place_at ws' y) 0 y.count)) e
    ∙ ap (map (tuple_at vs)) (places_same (place_at ws' x) (place_at ws x) 0 x.count (λ j l. go j (omega arith) (eqb x.start 0) refl (eqb x.start 1) refl))
  where
    go : (j : ℕ) → j < (walk_of ws u).count → (b : Bool) → eqb (walk_of ws u).start 0 ≡ b → (c : Bool) → eqb (walk_of ws u).start 1 ≡ c → place_at ws' (walk_of ws u) j ≡ place_at ws (walk_of ws u) j
    go j l true k c m = rw k
    go j l false k true m = rw (k, m)
    go j l false k false m = rw (k, m) (ap (λ n. (walk_of ws u).base + n * (walk_of ws u).width) (h (omega (arith, eqb-false (walk_of ws u).start 0 k, eqb-false (walk_of ws u).start 1 m)) j l))

pub has-moved : (ws ws' : List ℕ) (vs : List ℤ) (next next' u v : ℕ) (xs : List Tuple) → Has ws vs next u xs → walk_of ws' v ≡ walk_of ws u → ((i : ℕ) → 64 ≤ i → i < next → get_or ws' i 0 ≡ get_or ws i 0) → next ≤ next' → Has ws' vs next' v xs
has-moved ws ws' vs next next' u v xs h e k l = record {
  rows = walked_same ws ws' vs u v e (λ d j g. let b = h.low d in k ((walk_of ws u).start + j) (omega (arith, b.0)) (omega (arith, b.1, g))) ∙ h.rows;
  low = λ d. let b = h.low (omega (arith, d, ap (λ (x : Walk). x.start) e)) in (omega (arith, ap (λ (x : Walk). x.start) e, b.0), omega (arith, ap (λ (x : Walk). x.start) e, ap (λ (x : Walk). x.count) e, b.1, l));
}

-- an entry for variable v
module _ (ws : List ℕ) (v : ℕ) (x : Walk) (key : ℕ) (low : v < 8) (room : 64 ≤ length ws) where
  entry-size : length (entered ws v x key) ≡ length ws
  entry-size = length-set (written ws v x) (8 * v + 5) key ∙ written-length ws v x

  entry-far : (i : ℕ) → 64 ≤ i → get_or (entered ws v x key) i 0 ≡ get_or ws i 0
  entry-far i h = get_or-set_other (written ws v x) (8 * v + 5) i key 0 (λ e. omega (arith, e, h, low)) ∙ written-outside ws v x i (λ k l e. omega (arith, e, h, low, l))

  entry_other : (u : ℕ) → (u ≡ v → ⊥) → walk_of (entered ws v x key) u ≡ walk_of ws u
  entry_other u d =
      let o : (j : ℕ) → j ≤ 4 → get_or (entered ws v x key) (8 * u + j) 0 ≡ get_or (written ws v x) (8 * u + j) 0 = λ j l. get_or-set_other (written ws v x) (8 * v + 5) (8 * u + j) key 0 (λ e. omega (arith, e, l)) in
      let z : 8 * u + 0 ≡ 8 * u = omega arith in
      let o₀ : get_or (entered ws v x key) (8 * u) 0 ≡ get_or (written ws v x) (8 * u) 0 = subst (λ n. get_or (entered ws v x key) n 0 ≡ get_or (written ws v x) n 0) z (o 0 (omega arith)) in
      rw (o₀, o 1 (omega arith), o 2 (omega arith), o 3 (omega arith), o 4 (omega arith)) (written-other ws v x u d)

  entry_here : walk_of (entered ws v x key) v ≡ x
  entry_here =
      let o : (j : ℕ) → j ≤ 4 → get_or (entered ws v x key) (8 * v + j) 0 ≡ get_or (written ws v x) (8 * v + j) 0 = λ j l. get_or-set_other (written ws v x) (8 * v + 5) (8 * v + j) key 0 (λ e. omega (arith, e, l)) in
      let z : 8 * v + 0 ≡ 8 * v = omega arith in
      let o₀ : get_or (entered ws v x key) (8 * v) 0 ≡ get_or (written ws v x) (8 * v) 0 = subst (λ n. get_or (entered ws v x key) n 0 ≡ get_or (written ws v x) n 0) z (o 0 (omega arith)) in
      rw (o₀, o 1 (omega arith), o 2 (omega arith), o 3 (omega arith), o 4 (omega arith)) (written-here ws v x (omega (arith, low, room)))

  entry_key : get_or (entered ws v x key) (8 * v + 5) 0 ≡ key
  entry_key = get_or-set_same (written ws v x) (8 * v + 5) key 0 (omega (arith, low, room, written-length ws v x))

  entry-keys : (u : ℕ) → (u ≡ v → ⊥) → get_or (entered ws v x key) (8 * u + 5) 0 ≡ get_or ws (8 * u + 5) 0
  entry-keys u d = get_or-set_other (written ws v x) (8 * v + 5) (8 * u + 5) key 0 (λ e. d (omega (arith, e))) ∙ written-outside ws v x (8 * u + 5) (λ k l e. omega (arith, e, l))

-- a step that enters variable v, after its list was written
module _ (cb : List ℕ) (vs : List ℤ) (f : ℕ → List ℕ) (r m v next next' : ℕ) (ws y : List ℕ) (x : Walk) (key : ℕ) (low : v < 8) (hm : m < 256) (k₀ : Keyed cb vs f ws next) (size : length y ≡ length ws) (room : 64 ≤ length ws)
    (before : (i : ℕ) → i < next → get_or y i 0 ≡ get_or ws i 0) (up : next ≤ next') (high : next' ≤ next + rows_of cb r) (ek : key ≡ cond (eqb m 0) 0 (key_of r m)) (own : Has (entered y v x key) vs next' v (rows_for cb vs f m r)) where
  abbrev z : List ℕ
  z = entered y v x key

  room' : 64 ≤ length y
  room' = omega (arith, room, size)

  early : (u j : ℕ) → u < 8 → j ≤ 7 → get_or y (8 * u + j) 0 ≡ get_or ws (8 * u + j) 0
  early u j hu hj = before (8 * u + j) (omega (arith, hu, hj, k₀.least))

  walk-early : (u : ℕ) → u < 8 → walk_of y u ≡ walk_of ws u
  walk-early u hu =
      let e : 8 * u + 0 ≡ 8 * u = omega arith in
      let o₀ : get_or y (8 * u) 0 ≡ get_or ws (8 * u) 0 = subst (λ n. get_or y n 0 ≡ get_or ws n 0) e (early u 0 hu (omega arith)) in
      rw (o₀, early u 1 hu (omega arith), early u 2 hu (omega arith), early u 3 hu (omega arith), early u 4 hu (omega arith))

  kept : (u : ℕ) (xs : List Tuple) → u < 8 → (u ≡ v → ⊥) → Has ws vs next u xs → Has z vs next' u xs
  kept u xs hu d h = has-moved ws z vs next next' u u xs h (entry_other y v x key low room' u d ∙ walk-early u hu) (λ i a b. entry-far y v x key low room' i a ∙ before i b) up

  keyed : Keyed cb vs f z next'
  keyed = record { keys = λ u s n hu hn hn' e. go u s n hu hn hn' e (eqb u v) refl; least = omega (arith, k₀.least, up) }
    where
      same : (b : Bool) → eqb m 0 ≡ b → (s n : ℕ) → (n ≡ 0 → ⊥) → n < 256 → key ≡ key_of s n → Has z vs next' v (rows_for cb vs f n s)
      same true h s n hn hn' e = let q : key ≡ 0 = ek ∙ ap (λ b. cond b 0 (key_of r m)) h in absurd (hn (omega (arith, e, q)))
      same false h s n hn hn' e =
          let q : key_of r m ≡ key_of s n = sym (ap (λ b. cond b 0 (key_of r m)) h) ∙ sym ek ∙ e in
          let em : m ≡ n = omega (arith, q, hm, hn') in
          let er : r ≡ s = omega (arith, q, hm, hn') in
          subst (λ k. Has z vs next' v (rows_for cb vs f k s)) em (subst (λ k. Has z vs next' v (rows_for cb vs f m k)) er own)

      go : (u s n : ℕ) → u < 8 → (n ≡ 0 → ⊥) → n < 256 → get_or z (8 * u + 5) 0 ≡ key_of s n → (b : Bool) → eqb u v ≡ b → Has z vs next' u (rows_for cb vs f n s)
      go u s n hu hn hn' e true h =
          let w = eqb-true u v h in
          subst (λ k. Has z vs next' k (rows_for cb vs f n s)) (sym w) (same (eqb m 0) refl s n hn hn' (sym (entry_key y v x key low room') ∙ ap (λ k. get_or z (8 * k + 5) 0) (sym w) ∙ e))
      go u s n hu hn hn' e false h =
          let d = eqb-false u v h in
          kept u (rows_for cb vs f n s) hu d (k₀.keys u s n hu hn hn' (sym (early u 5 hu (omega arith)) ∙ sym (entry-keys y v x key low room' u d) ∙ e))

  pub stepped : Stepped cb vs f v (rows_for cb vs f m r) (rows_of cb r) next next' ws z
  stepped = record { keyed = keyed; given = own; kept = kept; size = entry-size y v x key low room' ∙ size; high = high }

-- all rows
pub given-whole : (cb : List ℕ) (vs : List ℤ) (f : ℕ → List ℕ) (r m v next : ℕ) (ws w : List ℕ) (x : Walk) → v < 8 → m ≡ 0 → Keyed cb vs f ws next → 64 ≤ length ws → x ≡ whole_of cb r → w ≡ entered ws v x 0 → Stepped cb vs f v (rows_for cb vs f m r) (rows_of cb r) next next ws w
unfolding rows_for
given-whole cb vs f r m v next ws w x low em k room ex ew =
    let here : walk_of (entered ws v x 0) v ≡ whole_of cb r = entry_here ws v x 0 low room ∙ ex in
    subst (Stepped cb vs f v (rows_for cb vs f m r) (rows_of cb r) next next ws) (sym ew)
    (stepped cb vs f r m v next next ws ws x 0 low (omega (arith, em)) k refl room (λ i h. refl) (omega arith) (omega arith) (sym (rw (eq-eqb m 0 em))) (record {
      rows = walked_whole cb (entered ws v x 0) vs v r here ∙ sym (rw (eq-eqb m 0 em));
      low = λ d. absurd (omega (arith, d, ap (λ (y : Walk). y.start) here, bit (latest_of cb r)));
    }))
  where
    bit : (b : Bool) → cond b 1 0 ≤ 1
    bit true = omega arith
    bit false = omega arith

-- another variable's list
pub given-shared : (cb : List ℕ) (vs : List ℤ) (f : ℕ → List ℕ) (r m u v next key : ℕ) (ws w : List ℕ) (x : Walk) → u < 8 → v < 8 → (m ≡ 0 → ⊥) → m < 256 → key ≡ key_of r m → Keyed cb vs f ws next → 64 ≤ length ws → get_or ws (8 * u + 5) 0 ≡ key → x ≡ walk_of ws u → w ≡ entered ws v x key → Stepped cb vs f v (rows_for cb vs f m r) (rows_of cb r) next next ws w
given-shared cb vs f r m u v next key ws w x hu hv hm hm' ekey k room es ex ew =
    let own = has-moved ws (entered ws v x key) vs next next u v (rows_for cb vs f m r) (k.keys u r m hu hm hm' (es ∙ ekey)) (entry_here ws v x key hv room ∙ ex) (λ i a b. entry-far ws v x key hv room i a) (omega arith) in
    subst (Stepped cb vs f v (rows_for cb vs f m r) (rows_of cb r) next next ws) (sym ew)
    (stepped cb vs f r m v next next ws ws x key hv hm' k refl room (λ i h. refl) (omega arith) (omega arith) (ekey ∙ sym (rw (ne_eqb m 0 hm))) own)

-- a relation's rows by their numbers, as they are met
places-below : (P : ℕ → ℕ) (n : ℕ) → places P 0 n ≡ map P (below n)
unfolding below places
places-below P zero = refl
places-below P (suc n) = let z : 0 + n ≡ n = omega arith in last 0 n ∙ ap₂ (λ (l : List ℕ) (i : ℕ). l ++ (P i ∷ [])) (places-below P n) z ∙ sym (map-append P (below n) (n ∷ []))
  where
    last : (k n : ℕ) → places P k (suc n) ≡ places P k n ++ (P (k + n) ∷ [])
    last k zero = let z : k + 0 ≡ k = omega arith in ap (λ i. P i ∷ []) (sym z)
    last k (suc n) = let z : suc k + n ≡ k + suc n = omega arith in ap (λ (l : List ℕ). P k ∷ l) (last (suc k) n ∙ ap (λ i. places P (suc k) n ++ (P i ∷ [])) z)

tuples-below : (cb : List ℕ) (vs : List ℤ) (r : ℕ) → tuples_in cb vs r ≡ map (row_of cb vs r) (map (number_at (latest_of cb r) (rows_of cb r)) (below (rows_of cb r)))
unfolding walked place_at
tuples-below cb vs r =
    let n = rows_of cb r in
    let ws = written (replicate 8 0) 0 (whole_of cb r) in
    let e : walk_of ws 0 ≡ whole_of cb r = written-here (replicate 8 0) 0 (whole_of cb r) (omega (arith, length-replicate {A = ℕ} 8 0)) in
    sym (walked_whole cb ws vs 0 r e)
    ∙ ap (λ (x : Walk). map (tuple_at vs) (places (place_at ws x) 0 x.count)) e
    ∙ ap (map (tuple_at vs)) (places-below (place_at ws (whole_of cb r)) n ∙ ap (λ (P : ℕ → ℕ). map P (below n)) (fun_ext λ j. ap (λ k. base_of cb r + k * attributes_of cb r) (met (latest_of cb r) j)))
    ∙ map-map (tuple_at vs) (λ j. base_of cb r + number_at (latest_of cb r) n j * attributes_of cb r) (below n)
    ∙ sym (map-map (row_of cb vs r) (number_at (latest_of cb r) n) (below n))
  where
    met : (b : Bool) (j : ℕ) → cond (eqb (cond b 1 0) 0) j (cond (eqb (cond b 1 0) 1) (rows_of cb r - suc j) (get_or (written (replicate 8 0) 0 (whole_of cb r)) (cond b 1 0 + j) 0)) ≡ number_at b (rows_of cb r) j
    met true j = refl
    met false j = refl

places-listed : (P g : ℕ → ℕ) (k : ℕ) (xs : List ℕ) → ((j : ℕ) → j < length xs → P (k + j) ≡ g (get_or xs j 0)) → places P k (length xs) ≡ map g xs
unfolding places
places-listed P g k [] h = refl
places-listed P g k (x ∷ xs) h =
    let z : k + 0 ≡ k = omega arith in
    ap₂ ◌∷◌ (ap P (sym z) ∙ h 0 (omega arith)) (places-listed P g (suc k) xs (λ j l. let e : suc k + j ≡ k + suc j = omega arith in ap P e ∙ h (suc j) (omega arith)))

-- a list of its own
module _ (cb : List ℕ) (vs : List ℤ) (f : ℕ → List ℕ) (r m : ℕ) where
  abbrev xs : List ℕ
  xs = numbers_for cb vs f m r

  abbrev own : ℕ → Walk
  own s = record { start = s; count = length xs; base = base_of cb r; width = attributes_of cb r }

  walked-listed : (ws : List ℕ) (v s : ℕ) → (m ≡ 0 → ⊥) → walk_of ws v ≡ own s → 2 ≤ s → ((j : ℕ) → j < length xs → get_or ws (s + j) 0 ≡ get_or xs j 0) → walked ws vs v ≡ rows_for cb vs f m r
  unfolding walked place_at rows_for
  walked-listed ws v s hm h d e =
      let g : ℕ → ℕ = λ n. base_of cb r + n * attributes_of cb r in
      ap (λ (x : Walk). map (tuple_at vs) (places (place_at ws x) 0 x.count)) h
      ∙ ap (map (tuple_at vs)) (places-listed (place_at ws (own s)) g 0 xs (λ j l. let z : 0 + j ≡ j = omega arith in ap (place_at ws (own s)) z ∙ ap g (rw (ne_eqb s 0 (λ k. omega (arith, k, d)), ne_eqb s 1 (λ k. omega (arith, k, d))) (e j l))))
      ∙ map-map (tuple_at vs) g xs
      ∙ sym (filter_map (row_of cb vs r) (meets_any cb vs f m) (map (number_at (latest_of cb r) (rows_of cb r)) (below (rows_of cb r))))
      ∙ ap (filter (meets_any cb vs f m)) (sym (tuples-below cb vs r))
      ∙ sym (rw (ne_eqb m 0 hm))

  pub given-listed : (v next next' key : ℕ) (ws y w : List ℕ) (x : Walk) → v < 8 → (m ≡ 0 → ⊥) → m < 256 → key ≡ key_of r m → Keyed cb vs f ws next → 64 ≤ length ws → Listed xs next next' ws y → next ≤ next' → next' ≤ next + rows_of cb r → x ≡ whole_of cb r
      → w ≡ entered y v (record { start = next; count = next' - next; base = x.base; width = x.width }) key → Stepped cb vs f v (rows_for cb vs f m r) (rows_of cb r) next next' ws w
  given-listed v next next' key ws y w x hv hm hm' ekey k room l up high ex ew =
      let n : next' - next ≡ length xs = omega (arith, l.ends) in
      let ew' : w ≡ entered y v (own next) key = ew ∙ ap₂ (λ (c : ℕ) (u : Walk). entered y v (record { start = next; count = c; base = u.base; width = u.width }) key) n ex in
      let room' : 64 ≤ length y = omega (arith, room, l.size) in
      let here = entry_here y v (own next) key hv room' in
      let has : Has (entered y v (own next) key) vs next' v (rows_for cb vs f m r) = record {
        rows = walked-listed (entered y v (own next) key) v next hm here (omega (arith, k.least)) (λ j h. entry-far y v (own next) key hv room' (next + j) (omega (arith, k.least)) ∙ l.list j h);
        low = λ d. (omega (arith, ap (λ (u : Walk). u.start) here, k.least), omega (arith, ap (λ (u : Walk). u.start) here, ap (λ (u : Walk). u.count) here, l.ends));
      } in
      subst (Stepped cb vs f v (rows_for cb vs f m r) (rows_of cb r) next next' ws) (sym ew')
      (stepped cb vs f r m v next next' ws y (own next) key hv hm' k l.size room l.before up high (ekey ∙ sym (rw (ne_eqb m 0 hm))) has)

-- the bindings so far
module _ (cb : List ℕ) (vs : List ℤ) (f : ℕ → List ℕ) (masks : List ℕ) (most : ℕ) (bs : List Binding) where
  pub record Filling (left : List Binding) (next : ℕ) (ws : List ℕ) : Type 0 where
    pub done : List Binding
    pub split : done ++ left ≡ bs
    pub given : Every (Given cb vs f masks ws next) done
    pub keyed : Keyed cb vs f ws next
    pub room : next + most * length left ≤ length ws

  apart : (ds es : List Binding) (b : Binding) → unique (variables (ds ++ (b ∷ es))) ≡ true → Every (λ (d : Binding). d.variable ≡ b.variable → ⊥) ds
  unfolding unique Every contains any
  apart [] es b h = tt
  apart (d ∷ ds) es b h =
      let i = and-inv (not (contains d.variable (variables (ds ++ (b ∷ es))))) (unique (variables (ds ++ (b ∷ es)))) h in
      (found ds (not_yes (contains d.variable (variables (ds ++ (b ∷ es)))) i.0), apart ds es b i.1)
    where
      found : (ds : List Binding) → contains d.variable (variables (ds ++ (b ∷ es))) ≡ false → d.variable ≡ b.variable → ⊥
      found [] h e = eqb-false d.variable b.variable (or_no (eqb d.variable b.variable) (contains d.variable (variables es)) h).0 e
      found (c ∷ ds) h e = found ds (or_no (eqb d.variable c.variable) (contains d.variable (variables (ds ++ (b ∷ es)))) h).1 e

  snoc : (ds es : List Binding) (b : Binding) → (ds ++ (b ∷ [])) ++ es ≡ ds ++ (b ∷ es)
  snoc [] es b = refl
  snoc (d ∷ ds) es b = ap (λ (l : List Binding). d ∷ l) (snoc ds es b)

  -- what a step may ask of a bound variable
  pub asked : (left rest : List Binding) (c : Binding) (next : ℕ) (ws : List ℕ) → Every (Low cb most) bs → left ≡ c ∷ rest → Filling left next ws → ((c.variable < 8) × (rows_of cb c.relation ≤ most)) × ((next + most ≤ length ws) × Keyed cb vs f ws next)
  unfolding Every
  asked left rest c next ws lows e h =
      let l = (every_append (Low cb most) h.done left (subst (Every (Low cb most)) (sym h.split) lows)).1 in
      let i = (subst (Every (Low cb most)) e l).0 in
      let n : length left ≡ suc (length rest) = ap length e in
      let p : most * length left ≡ most * length rest + most = ap (λ k. most * k) n ∙ times most (length rest) in
      ((i.variable, i.rows), (omega (arith, h.room, p), h.keyed))
    where
      times : (a n : ℕ) → a * suc n ≡ a * n + a
      times a n = omega arith

  -- one bound variable of the query
  pub filling-on : (left rest : List Binding) (c : Binding) (next next' : ℕ) (ws ws' : List ℕ) → unique (variables bs) ≡ true → Every (Low cb most) bs → left ≡ c ∷ rest → Filling left next ws
      → Stepped cb vs f c.variable (rows_for cb vs f (get_or masks c.variable 0) c.relation) (rows_of cb c.relation) next next' ws ws' → Filling rest next' ws'
  unfolding Every
  filling-on left rest c next next' ws ws' once lows e h s =
      let ds = h.done in
      let whole : ds ++ (c ∷ rest) ≡ bs = ap (λ (l : List Binding). ds ++ l) (sym e) ∙ h.split in
      let a = asked left rest c next ws lows e h in
      let d = apart ds rest c (subst (λ (l : List Binding). unique (variables l) ≡ true) (sym whole) once) in
      let l = (every_append (Low cb most) ds (c ∷ rest) (subst (Every (Low cb most)) (sym whole) lows)).0 in
      let all = every-both (Given cb vs f masks ws next) (λ (x : Binding). (x.variable ≡ c.variable → ⊥) × Low cb most x) ds h.given (every-both (λ (x : Binding). x.variable ≡ c.variable → ⊥) (Low cb most) ds d l) in
      let n : most * length left ≡ most * length rest + most = ap (λ k. most * k) (ap length e) ∙ times most (length rest) in
      record {
        done = ds ++ (c ∷ []);
        split = snoc ds rest c ∙ whole;
        given = every-join (Given cb vs f masks ws' next') ds (c ∷ []) (every_map (λ (x : Binding). Given cb vs f masks ws next x × ((x.variable ≡ c.variable → ⊥) × Low cb most x)) (Given cb vs f masks ws' next') (λ x g. s.kept x.variable _ g.1.1.variable g.1.0 g.0) ds all) (s.given, tt);
        keyed = s.keyed;
        room = omega (arith, h.room, n, s.high, a.0.1, s.size);
      }
    where
      times : (a n : ℕ) → a * suc n ≡ a * n + a
      times a n = omega arith

  pub filling-end : (next : ℕ) (ws : List ℕ) → Filling [] next ws → Every (λ (b : Binding). walked ws vs b.variable ≡ rows_for cb vs f (get_or masks b.variable 0) b.relation) bs
  filling-end next ws h =
      every_map (Given cb vs f masks ws next) (λ (b : Binding). walked ws vs b.variable ≡ rows_for cb vs f (get_or masks b.variable 0) b.relation) (λ b g. g.rows) bs
      (subst (Every (Given cb vs f masks ws next)) (sym (nil h.done) ∙ h.split) h.given)
    where
      nil : (l : List Binding) → l ++ [] ≡ l
      nil [] = refl
      nil (x ∷ l) = ap (λ (m : List Binding). x ∷ m) (nil l)

  pub filling-start : (ws : List ℕ) → ((i : ℕ) → get_or ws i 0 ≡ 0) → 64 + most * length bs ≤ length ws → Filling bs 64 ws
  unfolding Every
  filling-start ws z h = record {
    done = [];
    split = refl;
    given = tt;
    keyed = record { keys = λ v r m hv hm hm' e. absurd (hm (omega (arith, e, z (8 * v + 5)))); least = omega arith };
    room = h;
  }

pub room-enough : (l n : ℕ) → n ≤ 8 → 64 ≤ l → 64 + ((l - 64) / 8) * n ≤ l
room-enough l n h k = let e : ((l - 64) / 8) * 8 ≤ l - 64 = omega arith in omega (arith, k, e, mul-le-mul (le_refl ((l - 64) / 8)) h)

pub most-low : (r l : ℕ) → r ≤ (l - 64) / 8 → l ≤ 8256 → r ≤ 1024
most-low r l h k = omega (arith, h, k)

-- a cleared table
pub cleared : (n i : ℕ) → get_or (replicate {A = ℕ} n 0) i 0 ≡ 0
cleared n i = get_or-same {A = ℕ} n 0 i
