-- Of a well-formed query: the table is filled exactly if its levels are within the bound, and then the parts read with the table are the query's.
use mathlib.Core.Path.{◌≡◌, refl, sym, ap, ap₂, ◌∙◌, subst}
use mathlib.Core.List.{List, [], ◌∷◌}
use Prim.Native.Nat.{ℕ, ◌+◌, ◌*◌, ◌≤◌, ◌<◌}
use native.Mathlib.Omega.{arith}
use lib.ListN.{length, get_or, drop}
use lib.Seq.{drop-drop}
use Rattle.model.specs.Syntax.{Term, CONSTANT, ATTRIBUTE, AGGREGATE, Binding, Query, WellFormed, WellFormedT, Targets, WellFormedQ, levels_ts, levels_q}
use Rattle.model.specs.Encoding.{encode, encode_t, encode_targets, encode_ranges, encode_query, ok, read_condition, read_term}
use Rattle.model.proofs.Reading.{read-encode, read-encode_t}
use Rattle.model.proofs.Sizes.{size_t, size_ts, drop-encode_t, drop-ranges}
use Rattle.sizes.specs.Decode.{decode}
use Rattle.sizes.specs.Measured.{Measured, onward, condition_table, term_size, term_table}
use Rattle.sizes.proofs.Sized.{SizedT, sized-head_t, Agree}
use Rattle.sizes.proofs.Decoding.{decode-encode, decode-encode_t, condition-before, condition-sized, term-size, term-rest, term-length, term-before, term-sized, sized-kept_t}
use Rattle.sizes.specs.Parts.{targets_at, ranges_at}
use Rattle.model.specs.Kinds.{find, kind_of}
use Rattle.kinds.specs.Tables.{record_length, of_kind}
use Rattle.queries.specs.Tables.{targets_measured, condition_measured, query_measured}
use Rattle.std.specs.Prelude.{Option, Some}

pub target-well : (t : Term) (ts : List Term) → Targets (t ∷ ts) → WellFormedT t × Targets ts
unfolding Targets WellFormed
target-well (CONSTANT a b c d) ts h = absurd h
target-well (ATTRIBUTE v a) ts h = (tt, h)
target-well (AGGREGATE f v r a c) ts h = (h.0, h.1)

-- the table holds the sizes of terms that stand one after the other
unfoldable pub TermsSized : List Term → List ℕ → Type 0
TermsSized [] z = Unit
TermsSized (t ∷ ts) z = SizedT t z × TermsSized ts (drop (size_t t) z)

pub targets-decoded : (l : ℕ) (ts : List Term) (r z : List ℕ) → levels_ts ts ≤ l → TermsSized ts z → targets_at (length ts) l (encode_targets ts r) z ≡ ts
unfolding targets_at encode_targets TermsSized levels_ts
targets-decoded l [] r z h s = refl
targets-decoded l (t ∷ ts) r z h s =
    let n = sized-head_t t z s.0 in
    let e : drop (get_or z 0 0) (encode_t t (encode_targets ts r)) ≡ encode_targets ts r = ap (λ k. drop k (encode_t t (encode_targets ts r))) n ∙ drop-encode_t t (encode_targets ts r) in
    ap₂ (λ (a : Term) (b : List Term). a ∷ b) (decode-encode_t t l (encode_targets ts r) z (omega arith) s.0)
    (ap₂ (λ (a b : List ℕ). targets_at (length ts) l a b) e (ap (λ k. drop k z) n) ∙ targets-decoded l ts r (drop (size_t t) z) (omega arith) s.1)

-- what measuring leaves behind
record Fine (ts : List Term) (p : ℕ) (z : List ℕ) (m : Measured) : Type 0 where
  place : m.size ≡ Some (p + size_ts ts)
  same_length : length m.table ≡ length z
  before : Agree p m.table z
  sized : TermsSized ts (drop p m.table)

module _ (l : ℕ) (q : List ℕ) (short : length q < 65536) where
  targets-fine : (ts : List Term) (p : ℕ) (r z : List ℕ) → drop p q ≡ encode_targets ts r → Targets ts → levels_ts ts ≤ l → length q ≤ length z → Fine ts p z (targets_measured (length ts) l q p z)
  unfolding targets_measured encode_targets levels_ts size_ts TermsSized
  targets-fine [] p r z e w h k = record { place = ap Some (omega arith); same_length = refl; before = λ i a. refl; sized = tt }
  targets-fine (t ∷ ts) p r z e w h k =
      let rest = encode_targets ts r in
      let v = target-well t ts w in
      let rd : read_term l (drop p q) ≡ ok t rest = ap (read_term l) e ∙ read-encode_t t l rest v.0 (omega arith) in
      let y = term_table l q p z in
      let i = targets-fine ts (p + size_t t) r y (term-rest l q p z t rest rd) v.1 (omega arith) (omega (arith, term-length l q p z t rest rd)) in
      let s : onward (term_size l (drop p q)) y (λ m u. targets_measured (length ts) l q (p + m) u) ≡ targets_measured (length ts) l q (p + size_t t) y = ap (λ (x : Option ℕ). onward x y (λ m u. targets_measured (length ts) l q (p + m) u)) (term-size l q p z t rest rd) in
      subst (Fine (t ∷ ts) p z) (sym s) (record {
        place = i.place ∙ ap Some (omega arith);
        same_length = i.same_length ∙ term-length l q p z t rest rd;
        before = λ j a. i.before j (omega arith) ∙ term-before l q p z t rest rd j a;
        sized = (
          sized-kept_t t p (p + size_t t) (targets_measured (length ts) l q (p + size_t t) y).table y (omega arith) i.before (term-sized l q p z t rest rd k short),
          subst (TermsSized ts) (sym (drop-drop (size_t t) p (targets_measured (length ts) l q (p + size_t t) y).table)) i.sized,
        );
      })

pub ranges-decoded : (bs : List Binding) (r : List ℕ) → ranges_at (length bs) (encode_ranges bs r) ≡ bs
unfolding ranges_at encode_ranges record_length of_kind kind_of find
ranges-decoded [] r = refl
ranges-decoded (b ∷ bs) r = ap (λ l. record { variable = b.variable; relation = b.relation } ∷ l) (ranges-decoded bs r)

-- where the final condition starts
abbrev pub condition_place : Query → ℕ
condition_place u = 3 * length u.ranges + size_ts u.targets

-- the parts of the bytes q, read with the table z to level l, are those of the query u
pub record Prepared (l : ℕ) (u : Query) (q z : List ℕ) : Type 0 where
  pub ranges : ranges_at (length u.ranges) q ≡ u.ranges
  pub targets : targets_at (length u.targets) l (drop (3 * length u.ranges) q) (drop (3 * length u.ranges) z) ≡ u.targets
  pub condition : decode l (drop (condition_place u) q) (drop (condition_place u) z) ≡ u.condition

module _ (l : ℕ) (u : Query) (w : WellFormedQ u) (q : List ℕ) (e : q ≡ encode_query u) (short : length q < 65536) (z : List ℕ) (room : length q ≤ length z) where
  abbrev p : ℕ
  p = 3 * length u.ranges

  at-targets : drop p q ≡ encode_targets u.targets (encode u.condition [])
  unfolding encode_query
  at-targets = ap (drop p) e ∙ drop-ranges u.ranges (encode_targets u.targets (encode u.condition []))

  at-condition : drop (p + size_ts u.targets) q ≡ encode u.condition []
  unfolding size_ts encode_targets
  at-condition = sym (drop-drop (size_ts u.targets) p q) ∙ ap (drop (size_ts u.targets)) at-targets ∙ drop-targets u.targets (encode u.condition [])
    where
      drop-targets : (ts : List Term) (r : List ℕ) → drop (size_ts ts) (encode_targets ts r) ≡ r
      drop-targets [] r = refl
      drop-targets (t ∷ ts) r = sym (drop-drop (size_ts ts) (size_t t) (encode_t t (encode_targets ts r))) ∙ ap (drop (size_ts ts)) (drop-encode_t t (encode_targets ts r)) ∙ drop-targets ts r

  abbrev m : Measured
  m = targets_measured (length u.targets) l q p z

  pub measured-prepared : levels_q u ≤ l → Prepared l u q (query_measured (length u.targets) l q p z).table
  unfolding query_measured levels_q encode_query TermsSized size_ts
  measured-prepared h =
      let f = targets-fine l q short u.targets p (encode u.condition []) z at-targets w.targets (omega arith) room in
      let c = p + size_ts u.targets in
      let rd : read_condition l (drop c q) ≡ ok u.condition [] = ap (read_condition l) at-condition ∙ read-encode u.condition l [] w.condition (omega arith) in
      let y = m.table in
      let x = condition_table l q c y in
      let s : onward m.size y (λ c y. condition_measured l q c y) ≡ condition_measured l q c y = ap (λ (t : Option ℕ). onward t y (λ c y. condition_measured l q c y)) f.place in
      subst (λ (n : Measured). Prepared l u q n.table) (sym s) (record {
        ranges = ap (ranges_at (length u.ranges)) e ∙ ranges-decoded u.ranges _;
        targets = ap (λ (t : List ℕ). targets_at (length u.targets) l t (drop p x)) at-targets ∙ targets-decoded l u.targets (encode u.condition []) (drop p x) (omega arith) (terms-kept u.targets p c x y (omega arith) (condition-before l q c y u.condition [] rd) f.sized);
        condition = ap (λ (t : List ℕ). decode l t (drop c x)) at-condition ∙ decode-encode u.condition l [] (drop c x) (omega arith) (condition-sized l q c y u.condition [] rd (omega (arith, f.same_length)) short);
      })
    where
      terms-kept : (ts : List Term) (p c : ℕ) (x y : List ℕ) → p + size_ts ts ≤ c → Agree c x y → TermsSized ts (drop p y) → TermsSized ts (drop p x)
      terms-kept [] p c x y h a s = tt
      terms-kept (t ∷ ts) p c x y h a s = (
        sized-kept_t t p c x y (omega arith) a s.0,
        subst (TermsSized ts) (sym (drop-drop (size_t t) p x)) (terms-kept ts (p + size_t t) c x y (omega arith) a (subst (TermsSized ts) (drop-drop (size_t t) p y) s.1)),
      )
