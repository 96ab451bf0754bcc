-- A record with its children, read: a law for each way to return.
use mathlib.Core.Path.{◌≡◌, refl, sym, ap, ap₂, ◌∙◌}
use mathlib.Core.Bool.{Bool, true, false, not, ◌&&◌}
use mathlib.Core.List.{List, [], ◌∷◌}
use mathlib.Core.Option.{some}
use Prim.Native.Nat.{ℕ, suc, ◌+◌, ◌-◌, ◌<◌, ◌≤◌}
use native.Mathlib.Omega.{arith}
use lib.Dec.{ltb}
use lib.ListN.{length, get_or, drop, set, replicate, length-drop}
use lib.Seq.{drop-drop}
use denote.Enum.Declared.{tag_of, declared}
use types.Run.{OneOf}
use borrow.Author.Tests.{not-false, not-true}
use Rattle.model.specs.Lists.{update}
use Rattle.model.specs.Kinds.{kind_of, find, k-and, k-or, k-true, k-false}
use Rattle.model.specs.Syntax.{Condition, Term, TRUE, FALSE, NOT, AND, OR, COMPARE, SOME, CONSTANT, ATTRIBUTE, AGGREGATE, Binding, is_operator, is_function}
use Rattle.model.specs.Encoding.{Read, fail, ok, then, need, on_kind, condition_body, term_body, read_condition, read_term}
use Rattle.model.specs.Catalogue.{Shape, attributes_at}
use Rattle.model.specs.Scope.{Scope, known_binding, known_attribute, in_scope, in_scope_t}
use Rattle.kinds.specs.Tables.{record_length, of_kind, conditions_of, terms_of}
use Rattle.kinds.specs.Record.{record_at}
use Rattle.kinds.specs.Places.{condition_at, term_at, is_condition, is_term}
use Rattle.kinds.specs.declared.ConditionRecord.{ConditionRecord}
use Rattle.kinds.specs.declared.ConditionRecord.TheVariants as C
use Rattle.kinds.specs.declared.TermRecord.{TermRecord}
use Rattle.kinds.specs.declared.TermRecord.TheVariants as T
use Rattle.kinds.specs.contracts.ConditionRecord.{enum}
use Rattle.kinds.proofs.Records.{whole-record}
use Rattle.sizes.specs.Measured.{Measured, leaves, accepts, children_of, child_term, children, store, measured, condition_table, term_table}
use Rattle.sizes.proofs.Reader.{agree, condition-taken, term-taken}
use Rattle.sizes.proofs.Steps.{zero_is, wrong, whole}
use Rattle.conditions.specs.Reach.{scope_of, some_in_scope, aggregate_in_scope}
use Rattle.conditions.proofs.scope.Steps.{known-below}
use Rattle.conditions.proofs.scope.Tables.{scope-set, scope-one}
use Rattle.conditions.specs.declared.Reading.{Reading}
use Rattle.conditions.specs.Answers.{reading, answer, two, both, condition_reading, term_reading, some_reading, aggregate_reading, conditions_reading, terms_reading, two_measured, size_of, bytes_of, held, grown, kept}
use Rattle.conditions.proofs.Parts.{answer-size, answer-refused, bytes_fit, wrap, two_fits, two_then, two-stop, two-go, one-inner, inner-stop, inner-go, parent_is}
use Rattle.conditions.proofs.Records.{begins, begins_t, truth, joining, truth-at, join-at, lengths}
use Rattle.std.specs.Prelude.{Option, None}

-- an answer with its table is what is measured
module _ (sh : Shape) (limit l : ℕ) (σ : Scope) (q : List ℕ) (p : ℕ) (z : List ℕ) where
  pub measured-condition : (r : Option Reading) (y : List ℕ) → r ≡ condition_reading sh limit l σ (drop p q) → y ≡ condition_table l q p z → leaves (size_of r) y ≡ measured l false (drop p q) p z
  unfolding condition_reading condition_table
  measured-condition r y er ey = ap₂ leaves (ap size_of er ∙ answer-size (drop p q) (λ c. in_scope sh limit c σ) (read_condition l (drop p q)) ∙ sym ((agree l).0 (drop p q) p z)) ey

  pub measured-term : (r : Option Reading) (y : List ℕ) → r ≡ term_reading sh limit l σ (drop p q) → y ≡ term_table l q p z → leaves (size_of r) y ≡ measured l true (drop p q) p z
  unfolding term_reading term_table
  measured-term r y er ey = ap₂ leaves (ap size_of er ∙ answer-size (drop p q) (λ t. in_scope_t sh limit t σ) (read_term l (drop p q)) ∙ sym ((agree l).1 (drop p q) p z)) ey

  -- the same under SOME and an aggregate
  pub measured-some : (b : Binding) (r : Option Reading) (y : List ℕ) → r ≡ some_reading sh limit l b σ (drop p q) → y ≡ condition_table l q p z → leaves (size_of r) y ≡ measured l false (drop p q) p z
  unfolding some_reading condition_table
  measured-some b r y er ey = ap₂ leaves (ap size_of er ∙ answer-size (drop p q) (λ c. some_in_scope sh limit b c σ) (read_condition l (drop p q)) ∙ sym ((agree l).0 (drop p q) p z)) ey

  pub measured-aggregate : (b : Binding) (a : ℕ) (r : Option Reading) (y : List ℕ) → r ≡ aggregate_reading sh limit l b a (drop p q) → y ≡ condition_table l q p z → leaves (size_of r) y ≡ measured l false (drop p q) p z
  unfolding aggregate_reading condition_table
  measured-aggregate b a r y er ey = ap₂ leaves (ap size_of er ∙ answer-size (drop p q) (λ c. aggregate_in_scope sh limit b a c) (read_condition l (drop p q)) ∙ sym ((agree l).0 (drop p q) p z)) ey

  -- nothing is measured
  none-condition : leaves None z ≡ measured l false (drop p q) p z → (None ≡ condition_reading sh limit l σ (drop p q)) × (z ≡ condition_table l q p z)
  unfolding condition_reading condition_table
  none-condition h = (
    answer-refused (drop p q) (λ c. in_scope sh limit c σ) (read_condition l (drop p q)) (sym ((agree l).0 (drop p q) p z) ∙ ap (λ (m : Measured). m.size) (sym h)),
    ap (λ (m : Measured). m.table) h,
  )

  none-term : leaves None z ≡ measured l true (drop p q) p z → (None ≡ term_reading sh limit l σ (drop p q)) × (z ≡ term_table l q p z)
  unfolding term_reading term_table
  none-term h = (
    answer-refused (drop p q) (λ t. in_scope_t sh limit t σ) (read_term l (drop p q)) (sym ((agree l).1 (drop p q) p z) ∙ ap (λ (m : Measured). m.size) (sym h)),
    ap (λ (m : Measured). m.table) h,
  )

  pub no-level : l ≡ 0 → (None ≡ condition_reading sh limit l σ (drop p q)) × (z ≡ condition_table l q p z)
  no-level h = none-condition (zero_is l false (drop p q) p z h)

  pub no-level_t : l ≡ 0 → (None ≡ term_reading sh limit l σ (drop p q)) × (z ≡ term_table l q p z)
  no-level_t h = none-term (zero_is l true (drop p q) p z h)

  -- a record that can stand for none
  module _ (nz : l ≡ 0 → ⊥) (x : List ℕ) (ex : x ≡ drop p q) where
    not-accepted : (t : Bool) → accepts t (record_at (drop p q)) ≡ false → leaves None z ≡ measured l t (drop p q) p z
    not-accepted t h = wrong l t (drop p q) p z nz (accepts t (record_at (drop p q))) refl (rw h)

    module _ (y : ConditionRecord) (ey : y ≡ condition_at x) where
      refused : (c : ConditionRecord) → y ≡ c → is_condition c ≡ false → (None ≡ condition_reading sh limit l σ (drop p q)) × (z ≡ condition_table l q p z)
      refused c e h = none-condition (not-accepted false (ap is_condition (sym (ap condition_at ex) ∙ sym ey ∙ e) ∙ h))

      pub no-operator : (o : ℕ) (b : Bool) → y ≡ C.Compare o → b ≡ is_operator o → not b ≡ true → (None ≡ condition_reading sh limit l σ (drop p q)) × (z ≡ condition_table l q p z)
      no-operator o b e eb h = refused (C.Compare o) e (sym eb ∙ not-true b h)

      pub no-condition : y ≡ C.Other → (None ≡ condition_reading sh limit l σ (drop p q)) × (z ≡ condition_table l q p z)
      no-condition e = refused C.Other e refl

    module _ (y : TermRecord) (ey : y ≡ term_at x) where
      refused_t : (c : TermRecord) → y ≡ c → is_term c ≡ false → (None ≡ term_reading sh limit l σ (drop p q)) × (z ≡ term_table l q p z)
      refused_t c e h = none-term (not-accepted true (ap is_term (sym (ap term_at ex) ∙ sym ey ∙ e) ∙ h))

      pub no-function : (f v r a : ℕ) (b : Bool) → y ≡ T.Aggregate f v r a → b ≡ is_function f → not b ≡ true → (None ≡ term_reading sh limit l σ (drop p q)) × (z ≡ term_table l q p z)
      no-function f v r a b e eb h = refused_t (T.Aggregate f v r a) e (sym eb ∙ not-true b h)

      pub no-term : y ≡ T.Other → (None ≡ term_reading sh limit l σ (drop p q)) × (z ≡ term_table l q p z)
      no-term e = refused_t T.Other e refl

-- the bytes that were read end within the query
module _ (q : List ℕ) (p : ℕ) (h : p ≤ length q) where
  ends : {A : Type 0} (s : A → Bool) (w : Read A) (r : Option Reading) → r ≡ answer (drop p q) s w → p + bytes_of r ≤ length q
  ends s w r e = omega (arith, ap bytes_of e, bytes_fit (drop p q) s w, length-drop p q)

  module _ (sh : Shape) (limit l : ℕ) (σ : Scope) (r : Option Reading) where
    pub condition-ends : r ≡ condition_reading sh limit l σ (drop p q) → p + bytes_of r ≤ length q
    unfolding condition_reading
    condition-ends e = ends (λ c. in_scope sh limit c σ) (read_condition l (drop p q)) r e

    pub term-ends : r ≡ term_reading sh limit l σ (drop p q) → p + bytes_of r ≤ length q
    unfolding term_reading
    term-ends e = ends (λ t. in_scope_t sh limit t σ) (read_term l (drop p q)) r e

    pub some-ends : (b : Binding) → r ≡ some_reading sh limit l b σ (drop p q) → p + bytes_of r ≤ length q
    unfolding some_reading
    some-ends b e = ends (λ c. some_in_scope sh limit b c σ) (read_condition l (drop p q)) r e

    pub aggregate-ends : (b : Binding) (a : ℕ) → r ≡ aggregate_reading sh limit l b a (drop p q) → p + bytes_of r ≤ length q
    unfolding aggregate_reading
    aggregate-ends b a e = ends (λ c. aggregate_in_scope sh limit b a c) (read_condition l (drop p q)) r e

    pub conditions-ends : r ≡ conditions_reading sh limit l σ (drop p q) → p + bytes_of r ≤ length q
    unfolding conditions_reading
    conditions-ends e = ends (both (λ c. in_scope sh limit c σ)) (two (λ x. read_condition l x) (drop p q)) r e

    pub terms-ends : r ≡ terms_reading sh limit l σ (drop p q) → p + bytes_of r ≤ length q
    unfolding terms_reading
    terms-ends e = ends (both (λ t. in_scope_t sh limit t σ)) (two (λ x. read_term l x) (drop p q)) r e

-- two parts end within it too
module _ (q : List ℕ) (p : ℕ) (h : p ≤ length q) (sh : Shape) (limit l : ℕ) (σ τ : Scope) (r t : Option Reading) (n m : ℕ) (a b : Bool) (en : r ≡ reading n a) (em : t ≡ reading m b) where
  pub conditions-fit : r ≡ condition_reading sh limit l σ (drop p q) → t ≡ condition_reading sh limit l τ (drop (p + n) q) → n + m ≤ length q
  conditions-fit er et =
      let i : p + n ≤ length q = omega (arith, ap bytes_of en, condition-ends q p h sh limit l σ r er) in
      omega (arith, ap bytes_of em, condition-ends q (p + n) i sh limit l τ t et)

  pub terms-fit : r ≡ term_reading sh limit l σ (drop p q) → t ≡ term_reading sh limit l τ (drop (p + n) q) → n + m ≤ length q
  terms-fit er et =
      let i : p + n ≤ length q = omega (arith, ap bytes_of en, term-ends q p h sh limit l σ r er) in
      omega (arith, ap bytes_of em, term-ends q (p + n) i sh limit l τ t et)

-- two parts, the reach as it was
module _ (sh : Shape) (limit l : ℕ) (q : List ℕ) (p : ℕ) (z : List ℕ) (r : Option Reading) (y : List ℕ) where
  module _ (s : List ℕ) (er : r ≡ condition_reading sh limit l (scope_of s) (drop p q)) (ey : y ≡ condition_table l q p z) where
    pub conditions-stop : r ≡ None → (None ≡ conditions_reading sh limit l (scope_of s) (drop p q)) × (leaves None y ≡ two_measured false l q p z)
    unfolding condition_reading conditions_reading two_measured
    conditions-stop e = (
      two-stop (λ x. read_condition l x) (condition-taken l) (λ c. in_scope sh limit c (scope_of s)) (drop p q) r er e,
      inner-stop (λ x m y. measured l false x m y) (drop p q) p z r y (measured-condition sh limit l (scope_of s) q p z r y er ey) e,
    )

    pub conditions-go : (n : ℕ) (a : Bool) → r ≡ reading n a → (u : List ℕ) → u ≡ s → (t : Option Reading) (w : List ℕ) → t ≡ condition_reading sh limit l (scope_of u) (drop (p + n) q) → w ≡ condition_table l q (p + n) y
        → (held a (grown n t) ≡ conditions_reading sh limit l (scope_of s) (drop p q)) × (leaves (size_of (held a (grown n t))) w ≡ two_measured false l q p z)
    unfolding condition_reading conditions_reading two_measured
    conditions-go n a e u eu t w et ew =
        let f : t ≡ condition_reading sh limit l (scope_of s) (drop (p + n) q) = et ∙ ap (λ v. condition_reading sh limit l (scope_of v) (drop (p + n) q)) eu in (
          two-go (λ x. read_condition l x) (condition-taken l) (λ c. in_scope sh limit c (scope_of s)) (drop p q) r er n a e (drop (p + n) q) (sym (drop-drop n p q)) t f,
          inner-go (λ x m y. measured l false x m y) (drop p q) p z r y (measured-condition sh limit l (scope_of s) q p z r y er ey) n a e t (drop (p + n) q) w (sym (drop-drop n p q)) (measured-condition sh limit l (scope_of s) q (p + n) y t w f ew),
        )

  module _ (σ : Scope) (er : r ≡ term_reading sh limit l σ (drop p q)) (ey : y ≡ term_table l q p z) where
    pub terms-stop : r ≡ None → (None ≡ terms_reading sh limit l σ (drop p q)) × (leaves None y ≡ two_measured true l q p z)
    unfolding term_reading terms_reading two_measured
    terms-stop e = (
      two-stop (λ x. read_term l x) (term-taken l) (λ t. in_scope_t sh limit t σ) (drop p q) r er e,
      inner-stop (λ x m y. measured l true x m y) (drop p q) p z r y (measured-term sh limit l σ q p z r y er ey) e,
    )

    pub terms-go : (n : ℕ) (a : Bool) → r ≡ reading n a → (t : Option Reading) (w : List ℕ) → t ≡ term_reading sh limit l σ (drop (p + n) q) → w ≡ term_table l q (p + n) y
        → (held a (grown n t) ≡ terms_reading sh limit l σ (drop p q)) × (leaves (size_of (held a (grown n t))) w ≡ two_measured true l q p z)
    unfolding term_reading terms_reading two_measured
    terms-go n a e t w et ew = (
      two-go (λ x. read_term l x) (term-taken l) (λ t. in_scope_t sh limit t σ) (drop p q) r er n a e (drop (p + n) q) (sym (drop-drop n p q)) t et,
      inner-go (λ x m y. measured l true x m y) (drop p q) p z r y (measured-term sh limit l σ q p z r y er ey) n a e t (drop (p + n) q) w (sym (drop-drop n p q)) (measured-term sh limit l σ q (p + n) y t w et ew),
    )

-- the records that have children: how many, and whether these are terms
counts : ((children_of 16 ≡ 0) × (children_of 17 ≡ 0) × (children_of 18 ≡ 1) × (children_of 19 ≡ 2) × (children_of 20 ≡ 2) × (children_of 21 ≡ 2) × (children_of 22 ≡ 1) × (children_of 32 ≡ 0) × (children_of 33 ≡ 0) × (children_of 34 ≡ 1))
unfolding children_of conditions_of terms_of of_kind kind_of find
counts = (refl, refl, refl, refl, refl, refl, refl, refl, refl, refl)

sorts : ((child_term 18 ≡ false) × (child_term 19 ≡ false) × (child_term 20 ≡ false) × (child_term 21 ≡ true) × (child_term 22 ≡ false) × (child_term 34 ≡ false))
unfolding child_term terms_of of_kind kind_of find
sorts = (refl, refl, refl, refl, refl, refl)

same-lengths : (record_length 17 ≡ record_length 16) × (record_length 20 ≡ record_length 19)
unfolding record_length of_kind kind_of find
same-lengths = (refl, refl)

-- the record that stands at p, its kind byte k, its length a by the table, its n children
module _ (l : ℕ) (nz : l ≡ 0 → ⊥) (q : List ℕ) (p : ℕ) (z : List ℕ) (t : Bool) (ht : accepts t (record_at (drop p q)) ≡ true) (k a : ℕ) (ek : k ≡ get_or (drop p q) 0 0) (ea : a ≡ record_length k) where
  leaf-table : children_of k ≡ 0 → (w : List ℕ) → w ≡ store z p a → w ≡ (measured l t (drop p q) p z).table
  unfolding children
  leaf-table en w ew = ew ∙ ap (λ (m : Measured). m.table) (whole l t (drop p q) p z nz (accepts t (record_at (drop p q))) k 0 a (child_term k) refl (rw ht) ek (sym en) refl ea)

  parent-table : (n : ℕ) (s : Bool) → children_of k ≡ n → child_term k ≡ s → (r : Option Reading) (u w : List ℕ) → w ≡ kept p a r u → leaves (size_of r) u ≡ children n 0 (λ x m y. measured (l - 1) s x m y) (drop (p + a) q) (p + a) z → w ≡ (measured l t (drop p q) p z).table
  parent-table n s en es r u w ew e =
      ap (λ (m : Measured). m.table) (
      parent_is (λ x m y. measured (l - 1) s x m y) n a (drop p q) (drop (p + a) q) p z r u w (sym (drop-drop a p q)) ew e
      ∙ whole l t (drop p q) p z nz (accepts t (record_at (drop p q))) k n a s refl (rw ht) ek (sym en) (sym es) ea
      )

-- a record with no child
leaf-answer : {A : Type 0} (s : A → Bool) (c : A) (b : Bool) (u v : List ℕ) (a : ℕ) (w : Read A) → w ≡ ok c v → s c ≡ b → length u ≡ a + length v → reading a b ≡ answer u s w
leaf-answer s c b u v a w ew es e = ap₂ reading (omega (arith, e)) (sym es) ∙ sym (ap (answer u s) ew)

-- the record k that stands at p, its length a by the table, and what was read of its children
module _ (sh : Shape) (limit l : ℕ) (nz : l ≡ 0 → ⊥) (σ : Scope) (q : List ℕ) (p : ℕ) (z x : List ℕ) (ex : x ≡ drop p q) where
  Condition-read : Option Reading → List ℕ → Type 0
  Condition-read r w = (r ≡ condition_reading sh limit l σ (drop p q)) × (w ≡ condition_table l q p z)

  Term-read : Option Reading → List ℕ → Type 0
  Term-read r w = (r ≡ term_reading sh limit l σ (drop p q)) × (w ≡ term_table l q p z)

  level : l ≡ suc (l - 1)
  level = omega (arith, nz)

  next : (a b : ℕ) → b ≡ a → drop a (drop p q) ≡ drop (p + b) q
  next a b e = drop-drop a p q ∙ ap (λ i. drop (p + i) q) (sym e)

  module _ {A : Type 0} (a : ℕ) (s : A → Bool) (w : Read A) (f : (c : A) (r : List ℕ) → w ≡ ok c r → length r ≤ length (drop (p + a) q)) (len : length (drop p q) ≡ a + length (drop (p + a) q)) (r r' : Option Reading) (er : r ≡ answer (drop (p + a) q) s w) (er' : r' ≡ grown a r) where
    arm : (m : A → Condition) → ((c : A) → in_scope sh limit (m c) σ ≡ s c) → read_condition l (drop p q) ≡ then w (λ c r. ok (m c) r) → r' ≡ condition_reading sh limit l σ (drop p q)
    unfolding condition_reading
    arm m es rd = er' ∙ ap (grown a) er ∙ wrap a m s (λ c. in_scope sh limit c σ) es (drop (p + a) q) (drop p q) len w f ∙ ap (answer (drop p q) (λ c. in_scope sh limit c σ)) (sym rd)

    arm_t : (m : A → Term) → ((c : A) → in_scope_t sh limit (m c) σ ≡ s c) → read_term l (drop p q) ≡ then w (λ c r. ok (m c) r) → r' ≡ term_reading sh limit l σ (drop p q)
    unfolding term_reading
    arm_t m es rd = er' ∙ ap (grown a) er ∙ wrap a m s (λ t. in_scope_t sh limit t σ) es (drop (p + a) q) (drop p q) len w f ∙ ap (answer (drop p q) (λ t. in_scope_t sh limit t σ)) (sym rd)

  module _ (k : ConditionRecord) (ek : k ≡ condition_at x) where
    record_is : k ≡ condition_at (drop p q)
    record_is = ek ∙ ap condition_at ex

    module _ (a : ℕ) where
      pub truth-is : (r : Option Reading) (w : List ℕ) → a ≡ record_length 16 → OneOf (0 ∷ 1 ∷ []) (tag_of (declared enum) k) → r ≡ reading a true → w ≡ store z p a → (r ≡ condition_reading sh limit l σ (drop p q)) × (w ≡ condition_table l q p z)
      unfolding condition_reading condition_table read_condition on_kind kind_of find condition_body in_scope
      truth-is r w ea o er ew = let t = truth-at q x p ex k ek o in go t.0 t.1
        where
          go : (b : Bool) → drop p q ≡ truth b ∷ drop 1 (drop p q) → (r ≡ condition_reading sh limit l σ (drop p q)) × (w ≡ condition_table l q p z)
          go true h = (
            er ∙ leaf-answer (λ c. in_scope sh limit c σ) TRUE true (drop p q) (drop 1 (drop p q)) a (read_condition l (drop p q)) (ap₂ read_condition level h) refl (omega (arith, ap length h, ea ∙ lengths.0)),
            leaf-table l nz q p z false (ap (accepts false) (ap record_at h ∙ whole-record 16 (drop 1 (drop p q)) k-true refl (omega arith))) 16 a (sym (ap (λ v. get_or v 0 0) h)) ea counts.0 w ew,
          )
          go false h = (
            er ∙ leaf-answer (λ c. in_scope sh limit c σ) FALSE true (drop p q) (drop 1 (drop p q)) a (read_condition l (drop p q)) (ap₂ read_condition level h) refl (omega (arith, ap length h, ea ∙ lengths.0)),
            leaf-table l nz q p z false (ap (accepts false) (ap record_at h ∙ whole-record 17 (drop 1 (drop p q)) k-false refl (omega arith))) 17 a (sym (ap (λ v. get_or v 0 0) h)) (ea ∙ sym same-lengths.0) counts.1 w ew,
          )

      module _ (r r' : Option Reading) (u w : List ℕ) (er' : r' ≡ grown a r) (ew : w ≡ kept p a r u) where
        pub not_is : a ≡ record_length 18 → k ≡ C.Not → r ≡ condition_reading sh limit (l - 1) σ (drop (p + a) q) → u ≡ condition_table (l - 1) q (p + a) z → (r' ≡ condition_reading sh limit l σ (drop p q)) × (w ≡ condition_table l q p z)
        unfolding condition_reading condition_table read_condition on_kind kind_of find condition_body in_scope
        not_is ea e er eu =
            let h = begins q x p ex k ek C.Not e in let n = ea ∙ lengths.1 in
            let b : drop p q ≡ 18 ∷ drop (p + a) q = h ∙ ap (λ v. 18 ∷ v) (next 1 a n) in (
              arm a (λ c. in_scope sh limit c σ) (read_condition (l - 1) (drop (p + a) q)) (λ c r i. (condition-taken (l - 1) (drop (p + a) q) c r i).fits) (omega (arith, ap length b, n)) r r' er er' NOT (λ c. refl) (ap₂ read_condition level b),
              parent-table l nz q p z false (ap is_condition (sym record_is ∙ e)) 18 a (sym (ap (λ v. get_or v 0 0) h)) ea 1 false counts.2 sorts.0 r u w ew
                  (one-inner (λ x m y. measured (l - 1) false x m y) (drop (p + a) q) (p + a) z r u (measured-condition sh limit (l - 1) σ q (p + a) z r u er eu)),
            )

        pub some_is : (v m : ℕ) → a ≡ record_length 22 → k ≡ C.Some v m → r ≡ some_reading sh limit (l - 1) (record { variable = v; relation = m }) σ (drop (p + a) q) → u ≡ condition_table (l - 1) q (p + a) z → (r' ≡ condition_reading sh limit l σ (drop p q)) × (w ≡ condition_table l q p z)
        unfolding condition_reading some_reading condition_table read_condition on_kind kind_of find condition_body in_scope
        some_is v m ea e er eu =
            let h = begins q x p ex k ek (C.Some v m) e in let n = ea ∙ lengths.4 in
            let b : drop p q ≡ 22 ∷ v ∷ m ∷ drop (p + a) q = h ∙ ap (λ y. 22 ∷ v ∷ m ∷ y) (next 3 a n) in (
              arm a (λ c. some_in_scope sh limit (record { variable = v; relation = m }) c σ) (read_condition (l - 1) (drop (p + a) q)) (λ c r i. (condition-taken (l - 1) (drop (p + a) q) c r i).fits) (omega (arith, ap length b, n)) r r' er er' (SOME v m) (λ c. refl) (ap₂ read_condition level b),
              parent-table l nz q p z false (ap is_condition (sym record_is ∙ e)) 22 a (sym (ap (λ v. get_or v 0 0) h)) ea 1 false counts.6 sorts.4 r u w ew
                  (one-inner (λ x m y. measured (l - 1) false x m y) (drop (p + a) q) (p + a) z r u (measured-some sh limit (l - 1) σ q (p + a) z (record { variable = v; relation = m }) r u er eu)),
            )

        pub both_is : a ≡ record_length 19 → OneOf (3 ∷ 4 ∷ []) (tag_of (declared enum) k) → r ≡ conditions_reading sh limit (l - 1) σ (drop (p + a) q) → leaves (size_of r) u ≡ two_measured false (l - 1) q (p + a) z → (r' ≡ condition_reading sh limit l σ (drop p q)) × (w ≡ condition_table l q p z)
        unfolding condition_reading conditions_reading two_measured condition_table read_condition on_kind kind_of find condition_body in_scope
        both_is ea o er eu = let t = join-at q x p ex k ek o in go t.0 t.1
          where
            go : (b : Bool) → drop p q ≡ joining b ∷ drop 1 (drop p q) → (r' ≡ condition_reading sh limit l σ (drop p q)) × (w ≡ condition_table l q p z)
            go true h =
                let n = ea ∙ lengths.2 in let b : drop p q ≡ 19 ∷ drop (p + a) q = h ∙ ap (λ v. 19 ∷ v) (next 1 a n) in (
                  arm a (both (λ c. in_scope sh limit c σ)) (two (λ x. read_condition (l - 1) x) (drop (p + a) q)) (two_fits (λ x. read_condition (l - 1) x) (condition-taken (l - 1)) (drop (p + a) q)) (omega (arith, ap length b, n)) r r' er er'
                      (λ c. AND c.left c.right) (λ c. refl) (ap₂ read_condition level b ∙ sym (two_then (λ x. read_condition (l - 1) x) (condition-taken (l - 1)) AND (drop (p + a) q))),
                  parent-table l nz q p z false (ap (accepts false) (ap record_at h ∙ whole-record 19 (drop 1 (drop p q)) k-and refl (omega arith))) 19 a (sym (ap (λ v. get_or v 0 0) h)) ea 2 false counts.3 sorts.1 r u w ew eu,
                )
            go false h =
                let n = ea ∙ lengths.2 in let b : drop p q ≡ 20 ∷ drop (p + a) q = h ∙ ap (λ v. 20 ∷ v) (next 1 a n) in (
                  arm a (both (λ c. in_scope sh limit c σ)) (two (λ x. read_condition (l - 1) x) (drop (p + a) q)) (two_fits (λ x. read_condition (l - 1) x) (condition-taken (l - 1)) (drop (p + a) q)) (omega (arith, ap length b, n)) r r' er er'
                      (λ c. OR c.left c.right) (λ c. refl) (ap₂ read_condition level b ∙ sym (two_then (λ x. read_condition (l - 1) x) (condition-taken (l - 1)) OR (drop (p + a) q))),
                  parent-table l nz q p z false (ap (accepts false) (ap record_at h ∙ whole-record 20 (drop 1 (drop p q)) k-or refl (omega arith))) 20 a (sym (ap (λ v. get_or v 0 0) h)) (ea ∙ sym same-lengths.1) 2 false counts.4 sorts.2 r u w ew eu,
                )

        pub compare-is : (o : ℕ) (d : Bool) → a ≡ record_length 21 → k ≡ C.Compare o → d ≡ is_operator o → not d ≡ false → r ≡ terms_reading sh limit (l - 1) σ (drop (p + a) q) → leaves (size_of r) u ≡ two_measured true (l - 1) q (p + a) z → (r' ≡ condition_reading sh limit l σ (drop p q)) × (w ≡ condition_table l q p z)
        unfolding condition_reading terms_reading two_measured condition_table read_condition on_kind kind_of find condition_body in_scope
        compare-is o d ea e ed hd er eu =
            let h = begins q x p ex k ek (C.Compare o) e in let n = ea ∙ lengths.3 in let known = sym ed ∙ not-false d hd in
            let b : drop p q ≡ 21 ∷ o ∷ drop (p + a) q = h ∙ ap (λ v. 21 ∷ o ∷ v) (next 2 a n) in (
              arm a (both (λ t. in_scope_t sh limit t σ)) (two (λ x. read_term (l - 1) x) (drop (p + a) q)) (two_fits (λ x. read_term (l - 1) x) (term-taken (l - 1)) (drop (p + a) q)) (omega (arith, ap length b, n)) r r' er er'
                  (λ c. COMPARE o c.left c.right) (λ c. refl)
                  (ap₂ read_condition level b ∙ ap (λ g. need g (then (read_term (l - 1) (drop (p + a) q)) λ s r. then (read_term (l - 1) r) λ t r. ok (COMPARE o s t) r)) known ∙ sym (two_then (λ x. read_term (l - 1) x) (term-taken (l - 1)) (COMPARE o) (drop (p + a) q))),
              parent-table l nz q p z false (ap is_condition (sym record_is ∙ e) ∙ known) 21 a (sym (ap (λ v. get_or v 0 0) h)) ea 2 true counts.5 sorts.3 r u w ew eu,
            )

  module _ (k : TermRecord) (ek : k ≡ term_at x) where
    term_is : k ≡ term_at (drop p q)
    term_is = ek ∙ ap term_at ex

    module _ (a : ℕ) where
      pub constant-is : (r : Option Reading) (w : List ℕ) (b c d e : ℕ) → a ≡ record_length 32 → k ≡ T.Constant b c d e → r ≡ reading a true → w ≡ store z p a → (r ≡ term_reading sh limit l σ (drop p q)) × (w ≡ term_table l q p z)
      unfolding term_reading term_table read_condition on_kind kind_of find term_body in_scope
      constant-is r w b c d e ea f er ew =
          let h = begins_t q x p ex k ek (T.Constant b c d e) f in (
            er ∙ leaf-answer (λ t. in_scope_t sh limit t σ) (CONSTANT b c d e) true (drop p q) (drop 5 (drop p q)) a (read_term l (drop p q)) (ap₂ read_term level h) refl (omega (arith, ap length h, ea ∙ lengths.5)),
            leaf-table l nz q p z true (ap is_term (sym term_is ∙ f)) 32 a (sym (ap (λ v. get_or v 0 0) h)) ea counts.7 w ew,
          )

      pub attribute-is : (r : Option Reading) (w : List ℕ) (v b : ℕ) (d : Bool) → a ≡ record_length 33 → k ≡ T.Attribute v b → d ≡ known_attribute sh (σ v) b → r ≡ reading a d → w ≡ store z p a → (r ≡ term_reading sh limit l σ (drop p q)) × (w ≡ term_table l q p z)
      unfolding term_reading term_table read_condition on_kind kind_of find term_body in_scope
      attribute-is r w v b d ea f ed er ew =
          let h = begins_t q x p ex k ek (T.Attribute v b) f in (
            er ∙ leaf-answer (λ t. in_scope_t sh limit t σ) (ATTRIBUTE v b) d (drop p q) (drop 3 (drop p q)) a (read_term l (drop p q)) (ap₂ read_term level h) (sym ed) (omega (arith, ap length h, ea ∙ lengths.6)),
            leaf-table l nz q p z true (ap is_term (sym term_is ∙ f)) 33 a (sym (ap (λ v. get_or v 0 0) h)) ea counts.8 w ew,
          )

      module _ (r r' : Option Reading) (u w : List ℕ) (er' : r' ≡ grown a r) (ew : w ≡ kept p a r u) where
        pub aggregate-is : (f v m i : ℕ) (d : Bool) → a ≡ record_length 34 → k ≡ T.Aggregate f v m i → d ≡ is_function f → not d ≡ false → r ≡ aggregate_reading sh limit (l - 1) (record { variable = v; relation = m }) i (drop (p + a) q) → u ≡ condition_table (l - 1) q (p + a) z → (r' ≡ term_reading sh limit l σ (drop p q)) × (w ≡ term_table l q p z)
        unfolding term_reading aggregate_reading term_table read_condition on_kind kind_of find term_body in_scope
        aggregate-is f v m i d ea e ed hd er eu =
            let h = begins_t q x p ex k ek (T.Aggregate f v m i) e in let n = ea ∙ lengths.7 in let known = sym ed ∙ not-false d hd in
            let b : drop p q ≡ 34 ∷ f ∷ v ∷ m ∷ i ∷ drop (p + a) q = h ∙ ap (λ y. 34 ∷ f ∷ v ∷ m ∷ i ∷ y) (next 5 a n) in (
              arm_t a (λ c. aggregate_in_scope sh limit (record { variable = v; relation = m }) i c) (read_condition (l - 1) (drop (p + a) q)) (λ c r i. (condition-taken (l - 1) (drop (p + a) q) c r i).fits) (omega (arith, ap length b, n)) r r' er er' (AGGREGATE f v m i) (λ c. refl)
                  (ap₂ read_term level b ∙ ap (λ g. need g (then (read_condition (l - 1) (drop (p + a) q)) λ c r. ok (AGGREGATE f v m i c) r)) known),
              parent-table l nz q p z true (ap is_term (sym term_is ∙ e) ∙ known) 34 a (sym (ap (λ v. get_or v 0 0) h)) ea 1 false counts.9 sorts.5 r u w ew
                  (one-inner (λ x m y. measured (l - 1) false x m y) (drop (p + a) q) (p + a) z r u (measured-aggregate sh limit (l - 1) σ q (p + a) z (record { variable = v; relation = m }) i r u er eu)),
            )

-- what more must hold
also-answer : {A : Type 0} (b : Bool) (x : List ℕ) (s t : A → Bool) → ((c : A) → (b && s c) ≡ t c) → (w : Read A) → held b (answer x s w) ≡ answer x t w
also-answer b x s t h fail = refl
also-answer b x s t h (ok c r) = ap (reading (length x - length r)) (h c)

-- a condition whose variable was put in reach
module _ (sh : Shape) (limit l v m : ℕ) (k : Bool) (ek : k ≡ known_binding sh limit (record { variable = v; relation = m })) (x : List ℕ) (r r' : Option Reading) where
  known-and : (s : Bool) (b d : Bool) → k ≡ s → (s ≡ true → b ≡ d) → (k && b) ≡ (known_binding sh limit (record { variable = v; relation = m }) && d)
  known-and true b d e h = ap₂ ◌&&◌ ek (h refl)
  known-and false b d e h = ap (λ g. g && b) e ∙ ap (λ g. g && d) (sym e ∙ ek)

  pub under-is : (s t : List ℕ) → limit ≤ length s → t ≡ set s v (m + 1) → r ≡ condition_reading sh limit l (scope_of t) x → r' ≡ held k r → r' ≡ some_reading sh limit l (record { variable = v; relation = m }) (scope_of s) x
  unfolding condition_reading some_reading
  under-is s t h et er er' =
      er' ∙ ap (held k) er
      ∙ also-answer k x (λ c. in_scope sh limit c (scope_of t)) (λ c. some_in_scope sh limit (record { variable = v; relation = m }) c (scope_of s)) same (read_condition l x)
    where
      same : (c : Condition) → (k && in_scope sh limit c (scope_of t)) ≡ some_in_scope sh limit (record { variable = v; relation = m }) c (scope_of s)
      same c = known-and k (in_scope sh limit c (scope_of t)) (in_scope sh limit c (update (scope_of s) v (some m))) refl λ e.
          let i : v < limit = known-below sh limit v m k ek (ap not e) in
          ap (in_scope sh limit c) (ap scope_of et ∙ scope-set s v m (omega arith))

  pub aggregated-is : (b i : ℕ) (y : Bool) (r'' : Option Reading) → i ≡ m → y ≡ ltb b (attributes_at sh i) → v < 256 → (t : List ℕ) → t ≡ set (replicate 256 0) v (m + 1) → r ≡ condition_reading sh limit l (scope_of t) x → r'' ≡ held y r → r' ≡ held k r'' → r' ≡ aggregate_reading sh limit l (record { variable = v; relation = m }) b x
  unfolding condition_reading aggregate_reading
  aggregated-is b i y r'' ei ey hv t et er er'' er' =
      er' ∙ ap (held k) (er'' ∙ ap (held y) er ∙ also-answer y x (λ c. in_scope sh limit c (scope_of t)) (λ c. y && in_scope sh limit c (scope_of t)) (λ c. refl) (read_condition l x))
      ∙ also-answer k x (λ c. y && in_scope sh limit c (scope_of t)) (λ c. aggregate_in_scope sh limit (record { variable = v; relation = m }) b c) same (read_condition l x)
    where
      same : (c : Condition) → (k && (y && in_scope sh limit c (scope_of t))) ≡ aggregate_in_scope sh limit (record { variable = v; relation = m }) b c
      same c = ap₂ ◌&&◌ ek (ap₂ ◌&&◌ (ey ∙ ap (λ j. ltb b (attributes_at sh j)) ei) (ap (in_scope sh limit c) (ap scope_of et ∙ scope-one v m hv)))
