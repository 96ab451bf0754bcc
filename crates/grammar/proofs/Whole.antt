-- A whole query by its parts, and check 30.
use Prim.Native.Nat.{ℕ, zero, suc, ◌+◌, ◌-◌, ◌*◌, ◌<◌, ◌≤◌}
use mathlib.Core.Bool.{Bool, true, false, cond, ◌||◌}
use mathlib.Core.List.{List, [], ◌∷◌}
use mathlib.Core.Path.{◌≡◌, refl, sym, ◌∙◌, ap}
use native.Mathlib.Omega.{arith}
use borrow.Author.Tests.{eq-eqb, ne_eqb, le-leb, lt-ltb, le-ltb}
use lib.Dec.{eqb, leb, ltb}
use lib.ListN.{length, drop, length-drop}
use lib.Seq.{drop-drop}
use Rattle.model.specs.Syntax.{Binding, Condition, TRUE, Term, Query}
use Rattle.model.specs.Encoding.{Read, fail, ok, then, need, at_end, read_or, query_of, encode, encode_targets, encode_ranges, encode_query, read_condition, read_ranges, read_targets, read_query, failed}
use Rattle.model.specs.Limits.{Limits}
use Rattle.model.specs.Checks.{fails30}
use Rattle.model.proofs.Sizes.{size, size_ts, size-targets, drop-ranges}
use Rattle.model.proofs.ReadingQueries.{query-inverse}
use Rattle.grammar.specs.declared.Layout.{Layout}
use Rattle.grammar.specs.Sizes.{condition_size}
use Rattle.grammar.specs.Shapes.{part_read, ranges_part, targets_part, layout, shape_read, shape_of, shape_within, fails30_at, number_of}
use Rattle.grammar.proofs.Reader.{took-condition, sized, condition-sized}
use Rattle.grammar.proofs.Bounds.{condition-within}
use Rattle.grammar.proofs.Parts.{drop-targets, took-ranges, took-targets, targets-same}
use Rattle.std.specs.Prelude.{Option, Some, None}

abbrev pub laid : ℕ → ℕ → ℕ → ℕ → Layout
laid n m a b = record { ranges = n; targets = m; first = a; condition = a + b }

-- as the code goes: after the RANGE records, after the targets, after the condition
abbrev pub condition_ends : ℕ → ℕ → ℕ → ℕ → Option ℕ → List ℕ → Option Layout
condition_ends n a m b (Some c) q = cond (eqb (a + b + c) (length q)) (Some (laid n m a b)) None
condition_ends n a m b None q = None

abbrev pub targets_end : ℕ → ℕ → Option (ℕ × ℕ) → List ℕ → Option Layout
targets_end n a (Some (m, b)) q = cond (eqb m 0) None (condition_ends n a m b (condition_size (drop (a + b) q)) q)
targets_end n a None q = None

abbrev pub ranges_end : Option (ℕ × ℕ) → List ℕ → Option Layout
ranges_end (Some (n, a)) q = targets_end n a (targets_part (drop a q)) q
ranges_end None q = None

module _ (q : List ℕ) (rs : List Binding) (s : List ℕ) (h : (length q ≡ 3 * length rs + length s) × (s ≡ drop (3 * length rs) q)) where
  module _ (ts : List Term) (u : List ℕ) (k : (length s ≡ size_ts ts + length u) × (u ≡ drop (size_ts ts) s)) where
    made : (c : Condition) → Some (layout (record { ranges = rs; targets = ts; condition = c })) ≡ Some (laid (length rs) (length ts) (3 * length rs) (size_ts ts))
    unfolding layout
    made c = let e : length (encode_targets ts []) ≡ size_ts ts = size-targets ts [] ∙ omega arith in ap (λ n. Some (laid (length rs) (length ts) (3 * length rs) n)) e

    last : (c : Condition) (w : List ℕ) → length u ≡ size c + length w
        → shape_read (at_end (record { ranges = rs; targets = ts; condition = c }) w) ≡ condition_ends (length rs) (3 * length rs) (length ts) (size_ts ts) (Some (size c)) q
    last c [] l = made c ∙ rw (eq-eqb (3 * length rs + size_ts ts + size c) (length q) (omega arith))
    last c (x ∷ w) l = rw (ne_eqb (3 * length rs + size_ts ts + size c) (length q) (λ e. omega arith))

    final : (x : Read Condition) → read_condition (suc (length q)) u ≡ x
        → shape_read (then x λ c r. at_end (record { ranges = rs; targets = ts; condition = c }) r) ≡ condition_ends (length rs) (3 * length rs) (length ts) (size_ts ts) (sized size x) q
    final fail e = refl
    final (ok c w) e = last c w (took-condition (suc (length q)) u c w e).bytes

    some-target : (n : ℕ) → length ts ≡ n
        → shape_read (need (leb 1 n) (then (read_condition (suc (length q)) u) λ c r. at_end (record { ranges = rs; targets = ts; condition = c }) r))
        ≡ cond (eqb n 0) None (condition_ends (length rs) (3 * length rs) (length ts) (size_ts ts) (condition_size (drop (3 * length rs + size_ts ts) q)) q)
    some-target zero e = refl
    some-target (suc n) e =
        let r : drop (3 * length rs + size_ts ts) q ≡ u = sym (drop-drop (size_ts ts) (3 * length rs) q) ∙ ap (drop (size_ts ts)) (sym h.1) ∙ sym k.1 in
        rw (le-leb 1 (suc n) (omega arith), ne_eqb (suc n) 0 (λ z. omega arith), r, condition-sized (suc (length q)) u (omega arith))
        (final (read_condition (suc (length q)) u) refl)

  targets-end : (x : Read (List Term)) → read_targets (suc (length s)) s ≡ x
      → shape_read (then x λ ts r. need (leb 1 (length ts)) (then (read_condition (suc (length q)) r) λ c r. at_end (record { ranges = rs; targets = ts; condition = c }) r))
      ≡ targets_end (length rs) (3 * length rs) (part_read s x) q
  targets-end fail e = refl
  targets-end (ok ts u) e =
      let t = took-targets (suc (length s)) s ts u e in
      let l : length s - length u ≡ size_ts ts = omega arith in
      rw l (some-target ts u t (length ts) refl)

pub query-is : (q : List ℕ) → ranges_end (ranges_part q) q ≡ shape_of q
unfolding shape_of read_query ranges_part targets_part
query-is q = sym (go (read_ranges (suc (length q)) q) refl)
  where
    go : (x : Read (List Binding)) → read_ranges (suc (length q)) q ≡ x
        → shape_read (then x λ rs r. then (read_targets (suc (length q)) r) λ ts r. need (leb 1 (length ts)) (then (read_condition (suc (length q)) r) λ c r. at_end (record { ranges = rs; targets = ts; condition = c }) r))
        ≡ ranges_end (part_read q x) q
    go fail e = refl
    go (ok rs s) e =
        let t = took-ranges (suc (length q)) q rs s e in
        let l : length q - length s ≡ 3 * length rs = omega arith in
        rw (l, ← t.1, targets-same (suc (length q)) (suc (length s)) s (omega arith) (omega arith)) (targets-end q rs s t (read_targets (suc (length s)) s) refl)

-- of what the code finds, part by part
part-within : {A : Type 0} (q : List ℕ) (x : Read (List A)) (n a : ℕ) → part_read q x ≡ Some (n, a) → a ≤ length q
part-within q fail n a h = absurd (let z : ◌≡◌ {A = ℕ} 0 1 = cc in omega arith)
part-within q (ok xs r) n a h = let p : ◌≡◌ {A = ℕ × ℕ} (length xs, length q - length r) (n, a) = cc in let e = ap (λ (x : ℕ × ℕ). x.1) p in omega arith

ranges-within : (q : List ℕ) (n a : ℕ) → ranges_part q ≡ Some (n, a) → a ≤ length q
unfolding ranges_part
ranges-within q n a h = part-within q (read_ranges (suc (length q)) q) n a h

targets-within : (q : List ℕ) (n a : ℕ) → targets_part q ≡ Some (n, a) → a ≤ length q
unfolding targets_part
targets-within q n a h = part-within q (read_targets (suc (length q)) q) n a h

module _ (q : List ℕ) (p : Option (ℕ × ℕ)) (ep : p ≡ ranges_part q) where
  pub no-ranges : p ≡ None → None ≡ shape_of q
  no-ranges e = ap (λ z. ranges_end z q) (sym e ∙ ep) ∙ query-is q

  module _ (n a : ℕ) (e : p ≡ Some (n, a)) (x : List ℕ) (t : Option (ℕ × ℕ)) (ex : x ≡ drop a q) (et : t ≡ targets_part x) where
    after-ranges : (s : Option (ℕ × ℕ)) → t ≡ s → targets_end n a s q ≡ shape_of q
    after-ranges s i = ap (λ z. targets_end n a z q) (sym i ∙ et ∙ ap targets_part ex) ∙ ap (λ z. ranges_end z q) (sym e ∙ ep) ∙ query-is q

    pub no_targets : t ≡ None → None ≡ shape_of q
    no_targets i = after-ranges None i

    module _ (m b : ℕ) (i : t ≡ Some (m, b)) where
      pub two-fit : a + b ≤ length q
      two-fit = omega (arith, ranges-within q n a (sym ep ∙ e), targets-within x m b (sym et ∙ i), ap length ex, length-drop a q)

      pub none-targeted : m ≡ 0 → None ≡ shape_of q
      none-targeted h = sym (rw (eq-eqb m 0 h)) ∙ after-ranges (Some (m, b)) i

      module _ (h : m ≡ 0 → ⊥) (y : List ℕ) (s : Option ℕ) (ey : y ≡ drop (a + b) q) (es : s ≡ condition_size y) where
        after-targets : (z : Option ℕ) → s ≡ z → condition_ends n a m b z q ≡ shape_of q
        after-targets z j =
            ap (λ w. condition_ends n a m b w q) (sym j ∙ es ∙ ap condition_size ey)
            ∙ sym (rw (ne_eqb m 0 h))
            ∙ after-ranges (Some (m, b)) i

        pub no-condition : s ≡ None → None ≡ shape_of q
        no-condition j = after-targets None j

        module _ (c : ℕ) (j : s ≡ Some c) where
          pub three-fit : a + b + c ≤ length q
          three-fit = omega (arith, two-fit, condition-within y c (sym es ∙ j), ap length ey, length-drop (a + b) q)

          pub more_bytes : (a + b + c ≡ length q → ⊥) → None ≡ shape_of q
          more_bytes k = sym (rw (ne_eqb (a + b + c) (length q) k)) ∙ after-targets (Some c) j

          pub no-byte-more : a + b + c ≡ length q → Some (laid n m a b) ≡ shape_of q
          no-byte-more k = sym (rw (eq-eqb (a + b + c) (length q) k)) ∙ after-targets (Some c) j

-- check 30 of the model, at its limit
pub at-limit : (l : Limits) (q : List ℕ) → fails30 l q ≡ fails30_at l.bytes q
unfolding fails30 fails30_at
at-limit l q = refl

pub too_long : (limit : ℕ) (q : List ℕ) → limit < length q → None ≡ shape_within limit q
unfolding shape_within
too_long limit q h = rw (lt-ltb limit (length q) h)

pub within-limit : (limit : ℕ) (q : List ℕ) → length q ≤ limit → shape_of q ≡ shape_within limit q
unfolding shape_within
within-limit limit q h = rw (le-ltb limit (length q) h)

-- refused exactly if check 30 fails
module _ (limit : ℕ) (q : List ℕ) where
  pub ill-formed : None ≡ shape_within limit q → true ≡ fails30_at limit q
  unfolding shape_within shape_of fails30_at
  ill-formed e = go (ltb limit (length q)) (read_query q) e
    where
      go : (b : Bool) (x : Read Query) → None ≡ cond b None (shape_read x) → true ≡ b || failed x
      go true x i = refl
      go false fail i = refl
      go false (ok a r) i = absurd (let z : ◌≡◌ {A = ℕ} 0 1 = cc in omega arith)

  pub well-formed : (y : Layout) → Some y ≡ shape_within limit q → false ≡ fails30_at limit q
  unfolding shape_within shape_of fails30_at
  well-formed y e = go (ltb limit (length q)) (read_query q) e
    where
      go : (b : Bool) (x : Read Query) → Some y ≡ cond b None (shape_read x) → false ≡ b || failed x
      go true x i = absurd (let z : ◌≡◌ {A = ℕ} 0 1 = cc in omega arith)
      go false fail i = absurd (let z : ◌≡◌ {A = ℕ} 0 1 = cc in omega arith)
      go false (ok a r) i = refl

-- what a well-formed query's layout is of
pub well-read : (q : List ℕ) (y : Layout) → Some y ≡ shape_of q → (read_query q ≡ ok (query_of q) []) × (y ≡ layout (query_of q))
unfolding shape_of query_of
well-read q y e = go (read_query q) refl e
  where
    go : (x : Read Query) → read_query q ≡ x → Some y ≡ shape_read x → (x ≡ ok (read_or (record { ranges = []; targets = []; condition = TRUE }) x) []) × (y ≡ layout (read_or (record { ranges = []; targets = []; condition = TRUE }) x))
    go fail p i = absurd (let z : ◌≡◌ {A = ℕ} 0 1 = cc in omega arith)
    go (ok a r) p i = let w = (query-inverse q a r p).whole in (ap (ok a) w, cc)

-- the bytes from the places of the layout on
module _ (q : List ℕ) (x : Query) (e : read_query q ≡ ok x []) where
  all : q ≡ encode_ranges x.ranges (encode_targets x.targets (encode x.condition []))
  unfolding encode_query
  all = (query-inverse q x [] e).bytes

  pub targets-place : drop (layout x).first q ≡ encode_targets x.targets (encode x.condition [])
  unfolding layout
  targets-place = ap (drop (3 * length x.ranges)) all ∙ drop-ranges x.ranges (encode_targets x.targets (encode x.condition []))

  pub condition-place : drop (layout x).condition q ≡ encode x.condition []
  unfolding layout
  condition-place =
      let l : length (encode_targets x.targets []) ≡ size_ts x.targets = size-targets x.targets [] ∙ omega arith in
      ap (λ n. drop (3 * length x.ranges + n) q) l
      ∙ sym (drop-drop (size_ts x.targets) (3 * length x.ranges) q)
      ∙ ap (drop (size_ts x.targets)) (targets-place)
      ∙ drop-targets x.targets (encode x.condition [])

pub number_is : (limit : ℕ) (q : List ℕ) → number_of (shape_within limit q) ≡ cond (fails30_at limit q) 30 0
unfolding shape_within shape_of fails30_at
number_is limit q = go (ltb limit (length q)) (read_query q)
  where
    go : (b : Bool) (x : Read Query) → number_of (cond b None (shape_read x)) ≡ cond (b || failed x) 30 0
    go true x = refl
    go false fail = refl
    go false (ok a r) = refl

pub numbered : (s : Option Layout) (limit : ℕ) (q : List ℕ) → s ≡ shape_within limit q → (s ≡ shape_within limit q) × (number_of s ≡ cond (fails30_at limit q) 30 0)
numbered s limit q e = (e, ap number_of e ∙ number_is limit q)
