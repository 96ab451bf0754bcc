-- RANGE records and targets, read one at a time.
use mathlib.Core.Path.{◌≡◌, refl, sym, ap, ap₂, ◌∙◌, subst}
use mathlib.Core.Bool.{Bool, true, ◌&&◌}
use mathlib.Core.List.{List, [], ◌∷◌}
use Prim.Native.Nat.{ℕ, zero, suc, ◌+◌, ◌-◌, ◌*◌, ◌≤◌, ◌<◌}
use native.Mathlib.Omega.{arith}
use lib.ListN.{length, get_or, drop}
use lib.Seq.{drop-drop}
use Rattle.model.specs.Lists.{all}
use Rattle.model.proofs.Lists.{first-at}
use Rattle.model.specs.Syntax.{Condition, Term, TRUE, FALSE, NOT, AND, OR, COMPARE, SOME, CONSTANT, ATTRIBUTE, AGGREGATE, Binding, Query, Targets, WellFormedT, levels_ts}
use Rattle.model.specs.Encoding.{encode, encode_t, encode_targets, encode_ranges, encode_query}
use Rattle.model.specs.Catalogue.{Shape}
use Rattle.model.specs.Scope.{Scope}
use Rattle.model.specs.Kinds.{kind_of, find}
use Rattle.kinds.specs.Tables.{record_length, of_kind}
use Rattle.kinds.specs.Places.{head_at}
use Rattle.kinds.specs.declared.HeadRecord.{HeadRecord}
use Rattle.kinds.specs.declared.HeadRecord.TheVariants as H
use Rattle.kinds.proofs.Heads.{range-bytes, range_at, no-range}
use Rattle.sizes.specs.Measured.{Measured, onward, term_size, term_table}
use Rattle.sizes.specs.Parts.{ranges_at}
use Rattle.sizes.proofs.Decoding.{term-size}
use Rattle.conditions.specs.declared.Reading.{Reading}
use Rattle.conditions.specs.Answers.{reading, term_reading}
use Rattle.conditions.proofs.Found.{FoundT, found_t, unread_t, the_term}
use Rattle.queries.specs.Tables.{targets_measured}
use Rattle.queries.specs.declared.Run.{Run}
use Rattle.queries.specs.Found.{range_then, head_ranges, run, Targeted, Standing, Leads, TargetsFound}
use Rattle.queries.proofs.Prepared.{target-well}
use Rattle.std.specs.Prelude.{Option, Some, None}

-- RANGE records that were read stand there
pub ranged : (k : ℕ) (q : List ℕ) → q ≡ encode_ranges (head_ranges k q) (drop (3 * length (head_ranges k q)) q)
unfolding head_ranges encode_ranges record_length of_kind kind_of find
ranged zero q = refl
ranged (suc k) q = go (head_at q) refl (ranged k (drop 3 q))
  where
    go : (h : HeadRecord) → head_at q ≡ h → drop 3 q ≡ encode_ranges (head_ranges k (drop 3 q)) (drop (3 * length (head_ranges k (drop 3 q))) (drop 3 q))
        → q ≡ encode_ranges (range_then h (head_ranges k (drop 3 q))) (drop (3 * length (range_then h (head_ranges k (drop 3 q)))) q)
    go H.Other e ih = refl
    go (H.Range v y) e ih =
        let three : 3 + 3 * length (head_ranges k (drop 3 q)) ≡ 3 * suc (length (head_ranges k (drop 3 q))) = omega arith in
        range-bytes q v y e
        ∙ ap (λ (l : List ℕ). 1 ∷ v ∷ y ∷ l) (ih ∙ ap (encode_ranges (head_ranges k (drop 3 q))) (drop-drop (3 * length (head_ranges k (drop 3 q))) 3 q ∙ ap (λ n. drop n q) three))

-- and are those at their places
pub ranges-are : (k : ℕ) (q : List ℕ) → head_ranges k q ≡ ranges_at (length (head_ranges k q)) q
unfolding head_ranges ranges_at
ranges-are zero q = refl
ranges-are (suc k) q = go (head_at q) refl (head_ranges k (drop (record_length 1) q)) (ranges-are k (drop (record_length 1) q))
  where
    go : (h : HeadRecord) → head_at q ≡ h → (bs : List Binding) → bs ≡ ranges_at (length bs) (drop (record_length 1) q) → range_then h bs ≡ ranges_at (length (range_then h bs)) q
    go H.Other e bs ih = refl
    go (H.Range v y) e bs ih =
        let b = range-bytes q v y e in
        let f : v ≡ get_or q 1 0 = sym (ap (λ (l : List ℕ). get_or l 1 0) b) in let g : y ≡ get_or q 2 0 = sym (ap (λ (l : List ℕ). get_or l 2 0) b) in
        ap (λ (l : List Binding). record { variable = v; relation = y } ∷ l) ih
        ∙ ap₂ (λ (i j : ℕ). record { variable = i; relation = j } ∷ ranges_at (length bs) (drop (record_length 1) q)) f g

-- where RANGE records stand, all are read
pub all_read : (bs : List Binding) (k : ℕ) (x : List ℕ) → length bs ≤ k → (length bs < k → get_or x 0 0 ≡ 1 → ⊥) → head_ranges k (encode_ranges bs x) ≡ bs
unfolding head_ranges encode_ranges record_length of_kind kind_of find
all_read [] zero x h n = refl
all_read [] (suc k) x h n = ap (λ (r : HeadRecord). range_then r (head_ranges k (drop 3 x))) (no-range x (n (omega arith)))
all_read (b ∷ bs) zero x h n = absurd (omega arith)
all_read (b ∷ bs) (suc k) x h n =
    ap (λ (r : HeadRecord). range_then r (head_ranges k (encode_ranges bs x))) (range_at b.variable b.relation (encode_ranges bs x))
    ∙ ap (λ (l : List Binding). b ∷ l) (all_read bs k x (omega arith) (λ l. n (omega arith)))

pub ranges-length : (n : ℕ) (q : List ℕ) → length (ranges_at n q) ≡ n
unfolding ranges_at
ranges-length zero q = refl
ranges-length (suc n) q = ap suc (ranges-length n (drop (record_length 1) q))

-- of a query they are its own
pub own-ranges : (u : Query) (q : List ℕ) (n : ℕ) → q ≡ encode_query u → ranges_at n q ≡ u.ranges → head_ranges n q ≡ ranges_at n q
unfolding encode_query
own-ranges u q n e h =
    let l : n ≡ length u.ranges = sym (ranges-length n q) ∙ ap length h in
    ap₂ head_ranges l e ∙ all_read u.ranges (length u.ranges) (encode_targets u.targets (encode u.condition [])) (omega arith) (λ l. absurd (omega arith)) ∙ sym h

-- the first byte of a target, and of a condition
pub target-byte : (t : Term) (ts : List Term) (r : List ℕ) → Targets (t ∷ ts) → 33 ≤ get_or (encode_t t r) 0 0
unfolding encode Targets
target-byte (CONSTANT a b c d) ts r w = absurd w
target-byte (ATTRIBUTE v a) ts r w = omega arith
target-byte (AGGREGATE f v s a c) ts r w = omega arith

condition-byte : (c : Condition) (r : List ℕ) → get_or (encode c r) 0 0 < 33
unfolding encode
condition-byte TRUE r = omega arith
condition-byte FALSE r = omega arith
condition-byte (NOT c) r = omega arith
condition-byte (AND c d) r = omega arith
condition-byte (OR c d) r = omega arith
condition-byte (COMPARE o s t) r = omega arith
condition-byte (SOME v s c) r = omega arith

module _ (l : ℕ) (q : List ℕ) (p k b : ℕ) (eb : b ≡ get_or q p 0) where
  -- no target starts here
  pub leads-end : b < 33 → Leads (run 0 p true) l q p k
  unfolding encode_targets
  leads-end h [] c s st = st.bytes
  leads-end h (t ∷ ts) c s st = absurd (omega (arith, target-byte t ts (encode_targets ts (encode c s)) st.well, ap (λ x. get_or x 0 0) st.bytes, first-at p q, eb))

  -- one does
  module _ (hb : 33 ≤ b) where
    starts : {X : Type 0} (ts : List Term) (c : Condition) (s : List ℕ) → Standing l q p k ts c s → ((t : Term) (us : List Term) → ts ≡ t ∷ us → X) → X
    unfolding encode_targets
    starts [] c s st f = absurd (omega (arith, condition-byte c s, ap (λ x. get_or x 0 0) st.bytes, first-at p q, eb))
    starts (t ∷ us) c s st f = f t us refl

    pub leads-full : k ≡ 0 → Leads None l q p k
    leads-full e ts c s st = starts ts c s st λ t us f. absurd (omega (arith, ap length f, st.few))

    module _ (sh : Shape) (limit : ℕ) (σ : Scope) (r : Option Reading) (er : r ≡ term_reading sh limit l σ (drop p q)) where
      pub leads-unread : r ≡ None → Leads None l q p k
      unfolding encode_targets levels_ts
      leads-unread e ts c s st = starts ts c s st λ t us f.
          let v = subst (λ x. Standing l q p k x c s) f st in
          unread_t sh limit l σ q p r er e t (encode_targets us (encode c s)) v.bytes (target-well t us v.well).0 (omega (arith, v.deep))

      -- the others stand after it
      module _ (n : ℕ) (d : Bool) (e : r ≡ reading n d) where
        one : FoundT sh limit l σ q p n d
        one = found_t sh limit l σ q p r er n d e

        others : {X : Type 0} (ts : List Term) (c : Condition) (s : List ℕ) → Standing l q p k ts c s → ((us : List Term) → Standing l q (p + n) (k - 1) us c s → X) → X
        unfolding encode_targets levels_ts
        others ts c s st f = starts ts c s st λ t us g.
            let v = subst (λ x. Standing l q p k x c s) g st in
            let w = target-well t us v.well in
            let i = the_term one t (encode_targets us (encode c s)) v.bytes w.0 (omega (arith, v.deep)) in
            f us (record { bytes = one.after ∙ i.1; well = w.1; deep = omega (arith, v.deep); few = omega (arith, v.few) })

        pub leads-refused : (m : Option Run) → m ≡ None → Leads m l q (p + n) (k - 1) → Leads None l q p k
        leads-refused m em h ts c s st = others ts c s st λ us v. subst (λ x. Leads x l q (p + n) (k - 1)) em h us c s v

        pub leads-more : (m : Option Run) (j i : ℕ) (x : Bool) → m ≡ run j i x → Leads m l q (p + n) (k - 1) → (j' : ℕ) (x' : Bool) → Leads (run j' i x') l q p k
        leads-more m j i x em h j' x' ts c s st = others ts c s st λ us v. subst (λ x. Leads x l q (p + n) (k - 1)) em h us c s v

-- targets, one at a time
module _ (sh : Shape) (limit l : ℕ) (σ : Scope) (q : List ℕ) (p k : ℕ) (z : List ℕ) (b : ℕ) (eb : b ≡ get_or q p 0) where
  pub targets-end : p ≤ length q → b < 33 → Targeted sh limit l σ q p k 0 p true z z
  unfolding encode_targets Targets levels_ts all targets_measured
  targets-end h hb = record { targets = []; bytes = refl; well = tt; deep = omega arith; scope = refl; counted = refl; few = omega arith; inside = h; stops = omega (arith, eb, hb); measured = refl; table = refl }

  target_first : (t : Term) (ts : List Term) (r : List ℕ) → drop p q ≡ encode_t t r → 33 ≤ b → WellFormedT t → Targets ts → Targets (t ∷ ts)
  unfolding encode Targets
  target_first (CONSTANT a b c d) ts r e h w v = absurd (omega (arith, eb, first-at p q, ap (λ x. get_or x 0 0) e))
  target_first (ATTRIBUTE x a) ts r e h w v = v
  target_first (AGGREGATE f x s a c) ts r e h w v = (w, v)

  pub targets-more : 33 ≤ b → (k ≡ 0 → ⊥) → (r : Option Reading) (n : ℕ) (d : Bool) (y w : List ℕ) → r ≡ term_reading sh limit l σ (drop p q) → r ≡ reading n d → y ≡ term_table l q p z
      → (m : Option Run) (c e : ℕ) (x : Bool) → m ≡ run c e x → TargetsFound m sh limit l σ q (p + n) (k - 1) y w → Targeted sh limit l σ q p k (c + 1) e (d && x) z w
  unfolding encode_targets levels_ts all targets_measured
  targets-more hb nz r n d y w er en ey m c e x em h =
      let a = found_t sh limit l σ q p r er n d en in
      let i : Targeted sh limit l σ q (p + n) (k - 1) c e x y w = subst (λ v. TargetsFound v sh limit l σ q (p + n) (k - 1) y w) em h in
      let t = a.term in let ts = i.targets in
      let s : term_size l (drop p q) ≡ Some n = term-size l q p z t a.rest a.read ∙ ap Some (sym a.sized) in
      let suc-c : c + 1 ≡ suc c = omega arith in
      let f : targets_measured (c + 1) l q p z ≡ targets_measured c l q (p + n) y =
      ap (λ j. targets_measured j l q p z) suc-c
      ∙ ap₂ (λ (x : Option ℕ) (u : List ℕ). onward x u (λ j v. targets_measured c l q (p + j) v)) s (sym ey) in
      record {
        targets = t ∷ ts;
        bytes = a.bytes ∙ ap (encode_t t) (sym a.after ∙ i.bytes);
        well = target_first t ts a.rest a.bytes hb a.well i.well;
        deep = omega (arith, a.deep, i.deep);
        scope = ap₂ ◌&&◌ a.scope i.scope;
        counted = omega (arith, i.counted);
        few = omega (arith, i.few, nz);
        inside = i.inside;
        stops = i.stops;
        measured = ap (λ (x : Measured). x.size) f ∙ i.measured;
        table = i.table ∙ ap (λ (x : Measured). x.table) (sym f);
      }

pub found-few : (sh : Shape) (limit l : ℕ) (σ : Scope) (q : List ℕ) (p k : ℕ) (z w : List ℕ) (m : Option Run) (c e : ℕ) (x : Bool) → m ≡ run c e x → TargetsFound m sh limit l σ q p k z w → c ≤ k
found-few sh limit l σ q p k z w m c e x em h = (subst (λ v. TargetsFound v sh limit l σ q p k z w) em h).few
