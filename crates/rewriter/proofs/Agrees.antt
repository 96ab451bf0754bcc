-- The bytes of a rewritten query are the rewritten query, written out.
use mathlib.Core.Path.{◌≡◌, refl, sym, ap, ap₂, ◌∙◌}
use mathlib.Core.List.{List, [], ◌∷◌, ◌++◌, append_assoc, append-nil}
use Prim.Native.Nat.{ℕ, ◌+◌}
use native.Mathlib.Omega.{arith}
use lib.ListN.{get_or}
use Rattle.model.specs.Lists.{total, concat_map, Every}
use Rattle.model.specs.Syntax.{Condition, Term, TRUE, FALSE, NOT, AND, OR, COMPARE, SOME, CONSTANT, ATTRIBUTE, AGGREGATE, Binding, Query, bindings, bindings_t, bindings_q}
use Rattle.model.specs.Permits.{Guard, free, only, Guards}
use Rattle.model.specs.Encoding.{encode, encode_t, encode_targets, encode_ranges, encode_query}
use Rattle.model.specs.Rewriting.{disjunction, new_in, guarded, new_for, rewrite, rewrite_t, rewrite_targets, guard_ranges, rewrite_query}
use Rattle.model.proofs.Lists.{every_append}
use Rattle.model.proofs.Limits.{new_for-append}
use Rattle.copier.specs.Guard.{picked, new_in_part, disjunction_bytes, opening, guard_from, new_from, guard_bytes, guard_new}
use Rattle.copier.proofs.Turns.{something-is}
use Rattle.copier.proofs.Encoded.{encode-append, encode-append_t, disjunction-written, numbers-written}
use Rattle.rewriter.specs.Rewritten.{new_of, rewritten, rewritten_t, StandsFor, Stands}
use Rattle.rewriter.specs.Parts.{targets_bytes, targets_new, openings, range_guards, final_bytes, query_bytes, query_new}

-- the guard of one variable
pub guard-new : (g : Guard) (m : ℕ) (f : ℕ → List ℕ) → StandsFor g m f → guard_new m f ≡ new_in g
unfolding StandsFor new_from new_in total picked
guard-new free m f s = ap (λ (i : ℕ). new_from i i 0 f) s
guard-new (only cs) m f s = ap (total new_in_part) s.1 ∙ numbers-written cs

pub guard-agrees : (g : Guard) (m : ℕ) (f : ℕ → List ℕ) → StandsFor g m f → (c : Condition) (v n : ℕ) → opening m ++ (encode c [] ++ guard_bytes m f v n) ≡ encode (guarded g v n c) []
unfolding StandsFor guard_from guarded encode
guard-agrees free m f s c v n = ap (λ (i : ℕ). opening i ++ (encode c [] ++ guard_bytes i f v n)) s ∙ append-nil (encode c [])
guard-agrees (only cs) m f s c v n =
    ap₂ (λ (x y : List ℕ). x ++ (encode c [] ++ y)) (sym (something-is m (19 ∷ []) s.0)) (sym (something-is m (disjunction_bytes (picked m m 0 f) v n) s.0) ∙ ap (λ (bs : List (List ℕ)). disjunction_bytes bs v n) s.1 ∙ disjunction-written cs v n)
    ∙ ap (λ (l : List ℕ). 19 ∷ l) (sym (encode-append c (encode (disjunction cs v n) [])))

module _ (G : Guards) (masks : List ℕ) (f : ℕ → List ℕ) where
  abbrev S : List Binding → Type 0
  S bs = Stands G masks f bs

  pub new-agrees : (bs : List Binding) → S bs → new_of masks f bs ≡ new_for G bs
  unfolding new_of new_for total Stands Every
  new-agrees [] s = refl
  new-agrees (b ∷ bs) s = ap₂ ◌+◌ (guard-new (G b.variable b.relation) (get_or masks b.variable 0) f s.0) (new-agrees bs s.1)

  pub stands-append : (xs ys : List Binding) → S (xs ++ ys) → S xs × S ys
  unfolding Stands
  stands-append xs ys s = every_append _ xs ys s

  -- two parts, the second with the numbers after the first's
  both : (w : List ℕ) (k i n : ℕ) (w' e : ℕ → List ℕ) (r : List ℕ → List ℕ) → ((s : List ℕ) → r s ≡ r [] ++ s) → w ≡ r [] → k ≡ i → ((m : ℕ) → w' m ≡ e m) → w ++ w' (n + k) ≡ r (e (n + i))
  both w k i n w' e r h p q u = ap₂ (λ (x : List ℕ) (j : ℕ). x ++ w' (n + j)) p q ∙ ap (λ (x : List ℕ). r [] ++ x) (u (n + i)) ∙ sym (h (e (n + i)))

  under : (g : Guard) (m v : ℕ) → StandsFor g m f → (c : Condition) (w : List ℕ) (k i n : ℕ) → w ≡ encode c [] → k ≡ i → opening m ++ (w ++ guard_bytes m f v (n + k)) ≡ encode (guarded g v (n + i) c) []
  under g m v s c w k i n p q = ap₂ (λ (x : List ℕ) (j : ℕ). opening m ++ (x ++ guard_bytes m f v (n + j))) p q ∙ guard-agrees g m f s c v (n + i)

  mutual
    unfolding rewritten rewrite encode bindings Stands Every

    pub rewritten-agrees : (c : Condition) (n : ℕ) → S (bindings c) → rewritten masks f c n ≡ encode (rewrite G c n) []
    rewritten-agrees TRUE n s = refl
    rewritten-agrees FALSE n s = refl
    rewritten-agrees (NOT c) n s = ap (λ (l : List ℕ). 18 ∷ l) (rewritten-agrees c n s)
    rewritten-agrees (AND c d) n s =
        let p : S (bindings c) × S (bindings d) = stands-append (bindings c) (bindings d) s in
        ap (λ (l : List ℕ). 19 ∷ l) (both (rewritten masks f c n) (new_of masks f (bindings c)) (new_for G (bindings c)) n (λ m. rewritten masks f d m) (λ m. encode (rewrite G d m) []) (λ x. encode (rewrite G c n) x) (λ x. encode-append (rewrite G c n) x) (rewritten-agrees c n p.0) (new-agrees (bindings c) p.0) (λ m. rewritten-agrees d m p.1))
    rewritten-agrees (OR c d) n s =
        let p : S (bindings c) × S (bindings d) = stands-append (bindings c) (bindings d) s in
        ap (λ (l : List ℕ). 20 ∷ l) (both (rewritten masks f c n) (new_of masks f (bindings c)) (new_for G (bindings c)) n (λ m. rewritten masks f d m) (λ m. encode (rewrite G d m) []) (λ x. encode (rewrite G c n) x) (λ x. encode-append (rewrite G c n) x) (rewritten-agrees c n p.0) (new-agrees (bindings c) p.0) (λ m. rewritten-agrees d m p.1))
    rewritten-agrees (COMPARE o t u) n s =
        let p : S (bindings_t t) × S (bindings_t u) = stands-append (bindings_t t) (bindings_t u) s in
        ap (λ (l : List ℕ). 21 ∷ o ∷ l) (both (rewritten_t masks f t n) (new_of masks f (bindings_t t)) (new_for G (bindings_t t)) n (λ m. rewritten_t masks f u m) (λ m. encode_t (rewrite_t G u m) []) (λ x. encode_t (rewrite_t G t n) x) (λ x. encode-append_t (rewrite_t G t n) x) (rewritten-agrees_t t n p.0) (new-agrees (bindings_t t) p.0) (λ m. rewritten-agrees_t u m p.1))
    rewritten-agrees (SOME v r c) n s =
        ap (λ (l : List ℕ). 22 ∷ v ∷ r ∷ l) (under (G v r) (get_or masks v 0) v s.0 (rewrite G c n) (rewritten masks f c n) (new_of masks f (bindings c)) (new_for G (bindings c)) n (rewritten-agrees c n s.1) (new-agrees (bindings c) s.1))

    pub rewritten-agrees_t : (t : Term) (n : ℕ) → S (bindings_t t) → rewritten_t masks f t n ≡ encode_t (rewrite_t G t n) []
    rewritten-agrees_t (CONSTANT a b c d) n s = refl
    rewritten-agrees_t (ATTRIBUTE v a) n s = refl
    rewritten-agrees_t (AGGREGATE h v r a c) n s =
        ap (λ (l : List ℕ). 34 ∷ h ∷ v ∷ r ∷ a ∷ l) (under (G v r) (get_or masks v 0) v s.0 (rewrite G c n) (rewritten masks f c n) (new_of masks f (bindings c)) (new_for G (bindings c)) n (rewritten-agrees c n s.1) (new-agrees (bindings c) s.1))

  targets-new : (ts : List Term) → S (concat_map bindings_t ts) → targets_new masks f ts ≡ new_for G (concat_map bindings_t ts)
  unfolding targets_new concat_map new_for total
  targets-new [] s = refl
  targets-new (t ∷ ts) s =
      let p : S (bindings_t t) × S (concat_map bindings_t ts) = stands-append (bindings_t t) (concat_map bindings_t ts) s in
      ap₂ ◌+◌ (new-agrees (bindings_t t) p.0) (targets-new ts p.1) ∙ sym (new_for-append G (bindings_t t) (concat_map bindings_t ts))

  targets-agree : (ts : List Term) (n : ℕ) (r : List ℕ) → S (concat_map bindings_t ts) → targets_bytes masks f ts n ++ r ≡ encode_targets (rewrite_targets G ts n) r
  unfolding targets_bytes encode_targets rewrite_targets concat_map
  targets-agree [] n r s = refl
  targets-agree (t ∷ ts) n r s =
      let p : S (bindings_t t) × S (concat_map bindings_t ts) = stands-append (bindings_t t) (concat_map bindings_t ts) s in
      append_assoc (rewritten_t masks f t n) (targets_bytes masks f ts (n + new_of masks f (bindings_t t))) r
      ∙ ap₂ (λ (x : List ℕ) (k : ℕ). x ++ (targets_bytes masks f ts (n + k) ++ r)) (rewritten-agrees_t t n p.0) (new-agrees (bindings_t t) p.0)
      ∙ ap (λ (x : List ℕ). encode_t (rewrite_t G t n) [] ++ x) (targets-agree ts (n + new_for G (bindings_t t)) r p.1)
      ∙ sym (encode-append_t (rewrite_t G t n) (encode_targets (rewrite_targets G ts (n + new_for G (bindings_t t))) r))

  -- the final condition under the guards of the RANGEs
  ranges-agree : (bs : List Binding) (n : ℕ) (c : Condition) → S bs → openings masks bs ++ (encode c [] ++ range_guards masks f bs n) ≡ encode (guard_ranges G bs n c) []
  unfolding openings range_guards guard_ranges Stands Every
  ranges-agree [] n c s = append-nil (encode c [])
  ranges-agree (b ∷ bs) n c s =
      let m : ℕ = get_or masks b.variable 0 in
      let g : Guard = G b.variable b.relation in
      let v : ℕ = b.variable in
      let rest : List ℕ = range_guards masks f bs (n + guard_new m f) in
      append_assoc (openings masks bs) (opening m) (encode c [] ++ (guard_bytes m f v n ++ rest))
      ∙ ap (λ (x : List ℕ). openings masks bs ++ (opening m ++ x)) (sym (append_assoc (encode c []) (guard_bytes m f v n) rest))
      ∙ ap (λ (x : List ℕ). openings masks bs ++ x) (sym (append_assoc (opening m) (encode c [] ++ guard_bytes m f v n) rest))
      ∙ ap₂ (λ (x : List ℕ) (k : ℕ). openings masks bs ++ (x ++ range_guards masks f bs (n + k))) (guard-agrees g m f s.0 c v n) (guard-new g m f s.0)
      ∙ ranges-agree bs (n + new_in g) (guarded g v n c) s.1

  ranges-append : (bs : List Binding) (r : List ℕ) → encode_ranges bs [] ++ r ≡ encode_ranges bs r
  unfolding encode_ranges
  ranges-append [] r = refl
  ranges-append (b ∷ bs) r = ap (λ (l : List ℕ). 1 ∷ b.variable ∷ b.relation ∷ l) (ranges-append bs r)

  module _ (q : Query) (s : S (bindings_q q)) where
    abbrev ts : List Binding
    ts = concat_map bindings_t q.targets

    abbrev cs : List Binding
    cs = bindings q.condition

    parts : S q.ranges × (S ts × S cs)
    unfolding bindings_q
    parts =
        let p : S q.ranges × S (ts ++ cs) = stands-append q.ranges (ts ++ cs) s in
        (p.0, stands-append ts cs p.1)

    pub numbers-agree : query_new masks f q ≡ new_for G (bindings_q q)
    unfolding query_new bindings_q
    numbers-agree =
        let a : targets_new masks f q.targets ≡ new_for G ts = targets-new q.targets parts.1.0 in
        let b : new_of masks f cs ≡ new_for G cs = new-agrees cs parts.1.1 in
        let c : new_of masks f q.ranges ≡ new_for G q.ranges = new-agrees q.ranges parts.0 in
        omega (arith, a, b, c, new_for-append G q.ranges (ts ++ cs), new_for-append G ts cs)

    pub query-agrees : query_bytes masks f q ≡ encode_query (rewrite_query G q)
    unfolding query_bytes encode_query rewrite_query
    query-agrees =
        ranges-append q.ranges (targets_bytes masks f q.targets 8 ++ final_bytes masks f q.ranges q.condition (8 + targets_new masks f q.targets))
        ∙ ap (encode_ranges q.ranges)
        (ap (λ (k : ℕ). targets_bytes masks f q.targets 8 ++ final_bytes masks f q.ranges q.condition (8 + k)) (targets-new q.targets parts.1.0)
        ∙ ap (λ (x : List ℕ). targets_bytes masks f q.targets 8 ++ x) (final (8 + new_for G ts))
        ∙ targets-agree q.targets 8 _ parts.1.0
        )
      where
        final : (n : ℕ) → final_bytes masks f q.ranges q.condition n ≡ encode (guard_ranges G q.ranges (n + new_for G cs) (rewrite G q.condition n)) []
        final n =
            ap₂ (λ (x : List ℕ) (k : ℕ). openings masks q.ranges ++ (x ++ range_guards masks f q.ranges (n + k))) (rewritten-agrees q.condition n parts.1.1) (new-agrees cs parts.1.1)
            ∙ ranges-agree q.ranges (n + new_for G cs) (rewrite G q.condition n) parts.0
