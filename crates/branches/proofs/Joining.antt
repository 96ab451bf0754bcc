-- The parts of NOT, AND and OR: where they stand, and their branches put together.
use Prim.Native.Nat.{ℕ, suc, ◌+◌, ◌-◌, ◌≤◌, ◌<◌}
use mathlib.Core.Bool.{Bool, true, false, not, cond, ◌&&◌, ◌||◌}
use mathlib.Core.List.{List, [], ◌∷◌}
use mathlib.Core.Option.{some}
use mathlib.Core.Path.{◌≡◌, refl, sym, ap, ap₂, ◌∙◌, subst}
use native.Mathlib.Omega.{arith}
use lib.IntN.{ℤ}
use lib.ListN.{get_or, drop}
use lib.Seq.{drop-drop, get_or-drop}
use Rattle.model.specs.Kinds.{Kind, kind_of, body_length}
use Rattle.model.specs.Syntax.{Condition, NOT, AND, OR, SOME}
use Rattle.model.specs.Meaning.{Assignment, holds_with}
use Rattle.kinds.specs.Tables.{record_length}
use Rattle.kinds.specs.Record.{filled, record_at}
use Rattle.kinds.proofs.Records.{whole-record}
use Rattle.kinds.specs.Places.{condition_at}
use Rattle.kinds.specs.declared.ConditionRecord.{ConditionRecord}
use Rattle.kinds.specs.declared.ConditionRecord.TheVariants as C
use Rattle.sizes.specs.Decode.{first, second, condition_by, decode, decode_t}
use Rattle.sizes.proofs.Decoding.{decode-step}
use Rattle.numbers.specs.Recalled.{holds_by}
use Rattle.walks.specs.Walks.{rows_by}
use Rattle.branches.specs.Branches.{runs}
use Rattle.branches.specs.Compiled.{Compiled, node, joined, Parted, Searched}
use Rattle.branches.specs.declared.Connective.{Connective}
use Rattle.branches.specs.declared.Connective.TheVariants as K
use Rattle.branches.specs.declared.Parts.{Parts}
use Rattle.branches.proofs.Running.{runs-kept, kept-both}

-- where the byte of a kind stands that has no body, its record does
pub bare : (q : List ℕ) (k : ℕ) (x : Kind) → get_or q 0 0 ≡ suc k → kind_of (suc k) ≡ some x → body_length x ≡ 0 → record_at q ≡ filled (get_or q 1 0) (get_or q 2 0) (get_or q 3 0) (get_or q 4 0) x
bare [] k x h e l = absurd (omega (arith, h))
bare (b ∷ r) k x h e l = whole-record b r x (ap kind_of h ∙ e) (omega (arith, l))

-- where the parts stand
by-node : (k : Connective) (f : List ℕ → List ℕ → Condition) (l : ℕ) (q z : List ℕ) → condition_by (node k) f (λ x y. decode_t l x y) q z ≡ joined k (f (drop (first q) q) (drop (first q) z)) (f (drop (second q z) q) (drop (second q z) z))
by-node K.Not f l q z = refl
by-node K.And f l q z = refl
by-node K.Or f l q z = refl

module _ (x : Parts) (n l place : ℕ) (q z here : List ℕ) (k : Connective) (b a s : ℕ) (nz : l ≡ 0 → ⊥) (eh : here ≡ drop place q) (ek : condition_at here ≡ node k) (eb : b ≡ get_or here 0 0) (ea : a ≡ record_length b)
    (es : s ≡ get_or z (place + a) 0) (le : place + a + s ≤ 65535) (ex : x ≡ record { kind = k; first = place + a; second = place + a + s }) where
  at_first : x.first ≡ place + first (drop place q)
  at_first = ap (λ (y : Parts). y.first) ex ∙ ap (λ j. place + j) (ea ∙ ap record_length (eb ∙ ap (λ (y : List ℕ). get_or y 0 0) eh))

  at_second : x.second ≡ place + second (drop place q) (drop place z)
  at_second =
      let i : a ≡ first (drop place q) = ea ∙ ap record_length (eb ∙ ap (λ (y : List ℕ). get_or y 0 0) eh) in
      let j : a + s ≡ second (drop place q) (drop place z) = ap (λ j. a + j) (es ∙ sym (get_or-drop place z a 0)) ∙ ap (λ j. j + get_or (drop place z) j 0) i in
      ap (λ (y : Parts). y.second) ex ∙ omega (arith, j)

  part : (y : List ℕ) (i o : ℕ) → i ≡ place + o → drop o (drop place y) ≡ drop i y
  part y i o e = drop-drop o place y ∙ ap (λ (j : ℕ). drop j y) (sym e)

  pub parted : ((k ≡ K.Not → ⊥) → 2 ≤ n) → Parted x n l place q z
  parted room =
      let ex-kind = ap (λ (y : Parts). y.kind) ex in
      record {
        room = λ g. room (λ e. g (ex-kind ∙ e));
        deep = nz;
        first = omega (arith, ap (λ (y : Parts). y.first) ex);
        second = omega (arith, ap (λ (y : Parts). y.second) ex);
        whole =
            decode-step l (drop place q) (drop place z) (node k) nz (sym (ap condition_at eh) ∙ ek)
            ∙ by-node k (λ u w. decode (l - 1) u w) (l - 1) (drop place q) (drop place z)
            ∙ ap₂ (joined k) (ap₂ (decode (l - 1)) (part q x.first (first (drop place q)) at_first) (part z x.first (first (drop place q)) at_first))
            (ap₂ (decode (l - 1)) (part q x.second (second (drop place q) (drop place z)) at_second) (part z x.second (second (drop place q) (drop place z)) at_second))
            ∙ ap (λ (j : Connective). joined j (decode (l - 1) (drop x.first q) (drop x.first z)) (decode (l - 1) (drop x.second q) (drop x.second z))) (sym ex-kind);
      }

-- a SOME
pub search-found : (n l place : ℕ) (q here : List ℕ) (b a v g : ℕ) (r : ConditionRecord) → (l ≡ 0 → ⊥) → 2 ≤ n → here ≡ drop place q → r ≡ condition_at here → r ≡ C.Some v g → b ≡ get_or here 0 0 → a ≡ record_length b → place + a ≤ 65535 → v ≤ 255 → Searched (place + a) v n l place q
search-found n l place q here b a v g r nz room eh er es eb ea le hv =
    record {
      room = room;
      deep = nz;
      low = le;
      byte = omega arith;
      relation = g;
      whole = λ z.
          decode-step l (drop place q) (drop place z) (C.Some v g) nz (sym (er ∙ ap condition_at eh) ∙ es)
          ∙ ap₂ (λ (x y : List ℕ). SOME v g (decode (l - 1) x y)) (part q) (part z);
    }
  where
    i : a ≡ first (drop place q)
    i = ea ∙ ap record_length (eb ∙ ap (λ (y : List ℕ). get_or y 0 0) eh)

    part : (y : List ℕ) → drop (first (drop place q)) (drop place y) ≡ drop (place + a) y
    part y = drop-drop (first (drop place q)) place y ∙ ap (λ (j : ℕ). drop (place + j) y) (sym i)

pub positive : (l : ℕ) → (l ≡ 0 → ⊥) → 1 ≤ l
positive l h = omega (arith, h)

-- a level that falls
pub falls-by : (l t : ℕ) → (l ≡ 0 → ⊥) → l ≡ t → l - 1 < t
falls-by l t h e = omega (arith, h)

-- branches of the parts
module _ (k met unmet : ℕ) (q z : List ℕ) (m : List ℤ) (c d w : Condition) (kind : Connective) (ew : w ≡ joined kind c d) where
  pub joined-not : (r : ℕ) (t t' : List ℕ) → kind ≡ K.Not → Compiled k r unmet met t t' q z m c → Compiled k r met unmet t t' q z m w
  unfolding holds_with
  joined-not r t t' h a =
      subst (Compiled k r met unmet t t' q z m) (sym is-not)
      (record { kept = a.kept; means = λ ws vs e. a.means ws vs e ∙ turned (holds_by m c (rows_by ws vs) e) (runs t q z ws vs m met e) (runs t q z ws vs m unmet e) })
    where
      is-not : w ≡ NOT c
      is-not = ew ∙ rw h

      turned : (b x y : Bool) → cond b y x ≡ cond (not b) x y
      turned true x y = refl
      turned false x y = refl

  module _ (r s : ℕ) (t t' t'' : List ℕ) (le : k ≤ r) (hm : met < k) (hu : unmet < k) (b : Compiled k r met unmet t t' q z m d) where
    back : (i : ℕ) (ws : List ℕ) (vs : List ℤ) (e : Assignment) → i < k → runs t' q z ws vs m i e ≡ runs t q z ws vs m i e
    back i ws vs e h = runs-kept k t t' q z ws vs m b.kept i e h

    pub joined-and : kind ≡ K.And → Compiled (r + 1) s r unmet t' t'' q z m c → Compiled k s met unmet t t'' q z m w
    unfolding holds_with
    joined-and h a =
        subst (Compiled k s met unmet t t'' q z m) (sym is-and)
        (record {
          kept = kept-both k (r + 1) t t' t'' (omega arith) b.kept a.kept;
          means = λ ws vs e. a.means ws vs e ∙ ap₂ (cond (holds_by m c (rows_by ws vs) e)) (b.means ws vs e) (back unmet ws vs e hu)
              ∙ both (holds_by m c (rows_by ws vs) e) (holds_by m d (rows_by ws vs) e) (runs t q z ws vs m met e) (runs t q z ws vs m unmet e);
        })
      where
        is-and : w ≡ AND c d
        is-and = ew ∙ rw h

        both : (x y u v : Bool) → cond x (cond y u v) v ≡ cond (x && y) u v
        both true y u v = refl
        both false y u v = refl

    pub joined-or : kind ≡ K.Or → Compiled (r + 1) s met r t' t'' q z m c → Compiled k s met unmet t t'' q z m w
    unfolding holds_with
    joined-or h a =
        subst (Compiled k s met unmet t t'' q z m) (sym is-or)
        (record {
          kept = kept-both k (r + 1) t t' t'' (omega arith) b.kept a.kept;
          means = λ ws vs e. a.means ws vs e ∙ ap₂ (cond (holds_by m c (rows_by ws vs) e)) (back met ws vs e hm) (b.means ws vs e)
              ∙ either (holds_by m c (rows_by ws vs) e) (holds_by m d (rows_by ws vs) e) (runs t q z ws vs m met e) (runs t q z ws vs m unmet e);
        })
      where
        is-or : w ≡ OR c d
        is-or = ew ∙ rw h

        either : (x y u v : Bool) → cond x u (cond y u v) ≡ cond (x || y) u v
        either true y u v = refl
        either false y u v = refl
