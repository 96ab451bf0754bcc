-- Conjuncts joined to the stages of a table of branches.
use Prim.Native.Nat.{ℕ, zero, suc, ◌+◌, ◌-◌, ◌*◌, ◌≤◌, ◌<◌}
use mathlib.Core.Bool.{Bool, true, false, cond, ◌&&◌}
use mathlib.Core.List.{List, [], ◌∷◌}
use mathlib.Core.Path.{◌≡◌, refl, sym, ap, ap₂, ◌∙◌, subst}
use native.Mathlib.Omega.{arith}
use lib.Dec.{eqb, ltb}
use lib.IntN.{ℤ}
use lib.ListN.{length, get_or, drop, set}
use lib.Seq.{get_or-set_same, get_or-set_other}
use borrow.Author.Tests.{eqb-true, eqb-false, ltb-false}
use Rattle.model.specs.Kinds.{kind_of, find, k-true}
use Rattle.model.proofs.Lists.{first-at}
use Rattle.model.specs.Lists.{any, contains}
use Rattle.model.specs.Syntax.{Condition, TRUE, AND, Binding, variables}
use Rattle.model.specs.Meaning.{Assignment, holds_with, signed}
use Rattle.model.proofs.Tests.{and-true, or_no}
use Rattle.kinds.specs.declared.ConditionRecord.TheVariants as C
use Rattle.kinds.specs.Places.{condition_of}
use Rattle.sizes.specs.Decode.{decode}
use Rattle.sizes.proofs.Decoding.{decode-step}
use Rattle.numbers.specs.Recalled.{holds_by}
use Rattle.walks.specs.Walks.{rows_by}
use Rattle.branches.specs.Branches.{field, number, holds_in, next_in, leads, runs}
use Rattle.branches.specs.Compiled.{Compiled, Parted}
use denote.Enum.Bare.{sameb}
use Rattle.branches.specs.contracts.Connective.{the_type}
use Rattle.branches.specs.declared.Connective.{Connective}
use Rattle.branches.specs.declared.Connective.TheVariants as K
use Rattle.branches.specs.declared.Parts.{Parts}
use Rattle.branches.proofs.Joining.{bare}
use Rattle.branches.proofs.Running.{runs-0, runs-1, runs-kept, holds_same}
use Rattle.conjuncts.specs.Stages.{stage_holds, stages_hold, Steady, Planned}
use Rattle.conjuncts.specs.Filling.{Stable, Begun, Joined}
use Rattle.conjuncts.proofs.Below.{and-and, all_true, all-gains}

-- a stage from where it starts
pub from_start : (t q z ws : List ℕ) (vs m : List ℤ) (i s : ℕ) (e : Assignment) → i ≡ get_or t s 0 → runs t q z ws vs m i e ≡ stage_holds t q z ws vs m s e
unfolding stage_holds
from_start t q z ws vs m i s e h = ap (λ j. runs t q z ws vs m j e) h

-- tables that differ before branch 2 alone
module _ (t t' q z ws : List ℕ) (vs m : List ℤ) (h : (i : ℕ) → 16 ≤ i → get_or t' i 0 ≡ get_or t i 0) where
  same-field : (i j : ℕ) → 2 ≤ i → field t' i j ≡ field t i j
  same-field i j a = h (8 * i + j) (omega arith)

  same_number : (j : ℕ) → number t' j ≡ number t j
  same_number j = ap₂ (λ (x y : ℕ). signed x 0 y 0) (h (512 + 2 * j) (omega arith)) (h (513 + 2 * j) (omega arith))

  same_branch : (f : ℕ → Assignment → Bool) (i : ℕ) (e : Assignment) → 2 ≤ i → holds_in t' q z ws vs m f i e ≡ holds_in t q z ws vs m f i e
  unfolding holds_in
  same_branch f i e a = rw (same-field i 0 a, same-field i 1 a, same-field i 2 a, same-field i 3 a, same-field i 4 a, same_number (2 * i), same_number (2 * i + 1))

  same_next : (f g : ℕ → Assignment → Bool) (i : ℕ) (e : Assignment) → 2 ≤ i → ((j : ℕ) (u : Assignment) → f j u ≡ g j u) → next_in t' q z ws vs m f i e ≡ next_in t q z ws vs m g i e
  same_next f g i e a r = rw (same-holds, same-field i 5 a, same-field i 6 a)
    where
      same-holds : holds_in t' q z ws vs m f i e ≡ holds_in t q z ws vs m g i e
      same-holds = same_branch f i e a ∙ holds_same t q z ws vs m f g i e (λ j l u. r j u)

  same-leads : (n i : ℕ) (e : Assignment) → leads t' q z ws vs m n i e ≡ leads t q z ws vs m n i e
  unfolding leads
  same-leads zero i e = refl
  same-leads (suc n) i e = go (ltb i 2) refl (λ o u. same-leads n o u)
    where
      go : (b : Bool) → ltb i 2 ≡ b → ((o : ℕ) (u : Assignment) → leads t' q z ws vs m n o u ≡ leads t q z ws vs m n o u)
          → cond b (eqb i 0) (cond (ltb (next_in t' q z ws vs m (λ j u. leads t' q z ws vs m n j u) i e) i) (leads t' q z ws vs m n (next_in t' q z ws vs m (λ j u. leads t' q z ws vs m n j u) i e) e) false) ≡ cond b (eqb i 0) (cond (ltb (next_in t q z ws vs m (λ j u. leads t q z ws vs m n j u) i e) i) (leads t q z ws vs m n (next_in t q z ws vs m (λ j u. leads t q z ws vs m n j u) i e) e) false)
      go true p f = refl
      go false p f =
          ap (λ o. cond (ltb o i) (leads t' q z ws vs m n o e) false) (same_next (λ j u. leads t' q z ws vs m n j u) (λ j u. leads t q z ws vs m n j u) i e (ltb-false i 2 p) f)
          ∙ ap (λ b. cond (ltb (next_in t q z ws vs m (λ j u. leads t q z ws vs m n j u) i e) i) b false) (f (next_in t q z ws vs m (λ j u. leads t q z ws vs m n j u) i e) e)

  same_runs : (i : ℕ) (e : Assignment) → runs t' q z ws vs m i e ≡ runs t q z ws vs m i e
  unfolding runs
  same_runs i e = same-leads (suc i) i e

-- fewer ranges that may differ
fewer : (w : ℕ) (bs : List Binding) (s s' : ℕ) → s ≤ s' → contains w (variables (drop s bs)) ≡ false → contains w (variables (drop s' bs)) ≡ false
unfolding contains any
fewer w [] zero zero h k = k
fewer w [] zero (suc s') h k = k
fewer w [] (suc s) zero h k = k
fewer w [] (suc s) (suc s') h k = k
fewer w (b ∷ bs) zero zero h k = k
fewer w (b ∷ bs) zero (suc s') h k = fewer w bs zero s' (omega arith) (or_no (eqb w b.variable) (contains w (variables bs)) k).1
fewer w (b ∷ bs) (suc s) zero h k = absurd (omega arith)
fewer w (b ∷ bs) (suc s) (suc s') h k = fewer w bs s s' (omega arith) k

-- a condition compiled before stage s
module _ (k r s after : ℕ) (t t₁ t' q z : List ℕ) (m : List ℤ) (c : Condition) (bs : List Binding)
    (d : Compiled k r after 1 t t₁ q z m c) (ea : after ≡ get_or t s 0) (et : t' ≡ set t₁ s r) (two : 2 ≤ k) (low : k ≤ r) (room : 16 ≤ length t₁) (b : Begun k t) (few : length bs ≤ 7) where
  start-here : s < 16 → get_or t' s 0 ≡ r
  start-here h = ap (λ (y : List ℕ). get_or y s 0) et ∙ get_or-set_same t₁ s r 0 (omega arith)

  start-other : (i : ℕ) → i < 16 → (i ≡ s → ⊥) → get_or t' i 0 ≡ get_or t i 0
  start-other i h n = ap (λ (y : List ℕ). get_or y i 0) et ∙ get_or-set_other t₁ s i r 0 n ∙ d.kept.fields i (omega arith)

  begun : s < 16 → Begun (r + 1) t'
  begun h i g = go (eqb i s) refl
    where
      go : (x : Bool) → eqb i s ≡ x → get_or t' i 0 < r + 1
      go true p = let j = eqb-true i s p in let f = start-here h in subst (λ (y : ℕ). get_or t' y 0 < r + 1) (sym j) (omega arith)
      go false p = let f = start-other i g (eqb-false i s p) in let f' = b i g in omega arith

  module _ (ws : List ℕ) (vs : List ℤ) (hs : s < 16) where
    past : (i : ℕ) (e : Assignment) → runs t' q z ws vs m i e ≡ runs t₁ q z ws vs m i e
    past i e = same_runs t₁ t' q z ws vs m (λ j a. ap (λ (y : List ℕ). get_or y j 0) et ∙ get_or-set_other t₁ s j r 0 (λ f. omega arith)) i e

    stage-here : (e : Assignment) → stage_holds t' q z ws vs m s e ≡ holds_by m c (rows_by ws vs) e && stage_holds t q z ws vs m s e
    unfolding stage_holds
    stage-here e =
        ap (λ i. runs t' q z ws vs m i e) (start-here hs) ∙ past r e ∙ d.means ws vs e
        ∙ ap₂ (λ (i : ℕ) (y : Bool). cond (holds_by m c (rows_by ws vs) e) (runs t q z ws vs m i e) y) ea (runs-1 t q z ws vs m e) ∙ both (holds_by m c (rows_by ws vs) e) (runs t q z ws vs m (get_or t s 0) e)
      where
        both : (x y : Bool) → cond x y false ≡ x && y
        both true y = refl
        both false y = refl

    stage-other : (i : ℕ) (e : Assignment) → i < 16 → (i ≡ s → ⊥) → stage_holds t' q z ws vs m i e ≡ stage_holds t q z ws vs m i e
    unfolding stage_holds
    stage-other i e h n = ap (λ j. runs t' q z ws vs m j e) (start-other i h n) ∙ past (get_or t i 0) e ∙ runs-kept k t t₁ q z ws vs m d.kept (get_or t i 0) e (b i h)

    whole : (e : Assignment) → s < 2 * length bs + 2 → stages_hold t' q z ws vs m (length bs) e ≡ holds_by m c (rows_by ws vs) e && stages_hold t q z ws vs m (length bs) e
    unfolding stages_hold
    whole e h =
        all-gains (λ i. stage_holds t' q z ws vs m i e) (λ i. stage_holds t q z ws vs m i e) (holds_by m c (rows_by ws vs) e) s (2 * length bs + 2) h (stage-here e) (λ i g n. stage-other i e (omega arith) n)

    steady : (bound : ℕ) → 2 * bound ≤ s → Stable c bound bs → Steady t q z ws vs m bs → Steady t' q z ws vs m bs
    steady bound h g f i n a a' e e' x = go (eqb i s) refl
      where
        go : (y : Bool) → eqb i s ≡ y → stage_holds t' q z ws vs m i e' ≡ stage_holds t' q z ws vs m i e
        go true p =
            let j = eqb-true i s p in
            subst (λ (o : ℕ). stage_holds t' q z ws vs m o e' ≡ stage_holds t' q z ws vs m o e) (sym j)
            (stage-here e' ∙ ap₂ ◌&&◌ (g m (rows_by ws vs) e e' (λ w y. x w (fewer w bs bound n (omega arith) y))) (f s n (omega arith) a' e e' x) ∙ sym (stage-here e))
        go false p = let o = eqb-false i s p in stage-other i e' (omega arith) o ∙ f i n a a' e e' x ∙ sym (stage-other i e (omega arith) o)

  pub joined : (bound : ℕ) → bound ≤ length bs → 2 * bound ≤ s → s ≤ 2 * bound + 1 → Stable c bound bs → Joined (r + 1) t t' q z m c bs
  joined bound h l u g =
      record {
        begun = begun (omega arith);
        whole = λ ws vs e. whole ws vs (omega arith) e (omega arith);
        steady = λ ws vs f. steady ws vs (omega arith) bound l g f;
      }

-- the second part of an AND, then the first
-- TRUE leaves the table as it is
pub joined-true : (k : ℕ) (t q z : List ℕ) (m : List ℤ) (c : Condition) (bs : List Binding) → Begun k t → c ≡ TRUE → Joined k t t q z m c bs
unfolding holds_with
joined-true k t q z m c bs b h =
    record {
      begun = b;
      whole = λ ws vs e. sym (ap (λ (d : Condition). holds_by m d (rows_by ws vs) e && stages_hold t q z ws vs m (length bs) e) h);
      steady = λ ws vs s. s;
    }

pub true-there : (q : List ℕ) (place l b : ℕ) → (l ≡ 0 → ⊥) → b ≡ get_or q place 0 → b ≡ 16 → (z : List ℕ) → decode l (drop place q) z ≡ TRUE
unfolding kind_of find
true-there q place l b nz eb h z = decode-step l (drop place q) z C.True nz (ap condition_of (bare (drop place q) 15 k-true (first-at place q ∙ sym eb ∙ h) refl refl))

pub joined-both : (n r : ℕ) (t t₁ t₂ q z : List ℕ) (m : List ℤ) (c d : Condition) (bs : List Binding) → Joined n t t₁ q z m d bs → Joined r t₁ t₂ q z m c bs → Joined r t t₂ q z m (AND c d) bs
unfolding holds_with
joined-both n r t t₁ t₂ q z m c d bs a b =
    record {
      begun = b.begun;
      whole = λ ws vs e. b.whole ws vs e ∙ ap (λ y. holds_by m c (rows_by ws vs) e && y) (a.whole ws vs e) ∙ sym (and-and (holds_by m c (rows_by ws vs) e) (holds_by m d (rows_by ws vs) e) (stages_hold t q z ws vs m (length bs) e));
      steady = λ ws vs f. b.steady ws vs (a.steady ws vs f);
    }

-- the parts of an AND
is-and : (k : Connective) (b : Bool) → b ≡ sameb the_type k K.And → b ≡ true → k ≡ K.And
is-and K.Not b e h = cc
is-and K.And b e h = refl
is-and K.Or b e h = cc

pub and-whole : (x : Parts) (n l place : ℕ) (q z : List ℕ) (b : Bool) → Parted x n l place q z → b ≡ sameb the_type x.kind K.And → b ≡ true
    → decode l (drop place q) (drop place z) ≡ AND (decode (l - 1) (drop x.first q) (drop x.first z)) (decode (l - 1) (drop x.second q) (drop x.second z))
and-whole x n l place q z b parts e h = parts.whole ∙ rw (is-and x.kind b e h)

-- a cleared table
module _ (t : List ℕ) (h : (s : ℕ) → get_or t s 0 ≡ 0) where
  pub cleared-begun : Begun 2 t
  cleared-begun s g = let i = h s in omega arith

  module _ (q z ws : List ℕ) (vs m : List ℤ) where
    holds : (s : ℕ) (e : Assignment) → stage_holds t q z ws vs m s e ≡ true
    unfolding stage_holds
    holds s e = ap (λ i. runs t q z ws vs m i e) (h s) ∙ runs-0 t q z ws vs m e

    pub planned : (n : ℕ) (t' : List ℕ) (c : Condition) (bs : List Binding) → Joined n t t' q z m c bs → Planned t' q z ws vs m c bs
    unfolding stages_hold
    planned n t' c bs j =
        record {
          whole = λ e. j.whole ws vs e ∙ ap (λ y. holds_by m c (rows_by ws vs) e && y) (all_true (λ s. stage_holds t q z ws vs m s e) (2 * length bs + 2) (λ s. holds s e)) ∙ and-true (holds_by m c (rows_by ws vs) e);
          steady = j.steady ws vs (λ s d a b e e' x. holds s e' ∙ sym (holds s e));
        }
