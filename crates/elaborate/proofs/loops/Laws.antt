-- The loop's first state and its last.
use Prim.Native.Nat.{ℕ, ◌+◌, ◌≤◌, ◌<◌}
use mathlib.Core.List.{List, [], ◌∷◌}
use mathlib.Core.Path.{◌≡◌, refl, sym, ap, ◌∙◌, subst}
use native.Mathlib.Omega.{arith}
use lib.ListN.{length, set, drop}
use lib.Seq.{get_or-set_same, get_or-set_other}
use Rattle.quel.specs.Results.{fail, ok, Word}
use Rattle.quel.specs.Names.{Entry}
use Rattle.quel.specs.Elaboration.{Symbol}
use Rattle.quel.specs.Ahead.{Mode, at_rest}
use Rattle.quel.specs.Writing.{Written, Reaches, loop}
use Rattle.tokens.specs.Table.{Table}
use Rattle.elaborate.specs.Places.{tokens_from}
use Rattle.elaborate.specs.Tables.{Holds}
use Rattle.elaborate.proofs.items.Turn.{turn_end}
use Rattle.elaborate.proofs.reach.Holds.{holds-open}
use Rattle.elaborate.specs.declared.turns.State.{State}
use Rattle.std.specs.Prelude.{Option, Some, None}
use Rattle.elaborate.specs.Counts.{kind_in, plain, Place, Counted}
use Rattle.elaborate.specs.Frames.{Under, Stack}
use Rattle.elaborate.specs.After.{ended, mode_of, left, Going, GoesOn, Within}

-- the RANGE list's frame
pub first-stack : (w : ℕ → Word) (ids fs known : List ℕ) (ρ : List Symbol) → 0 < length fs → Holds w ids known 0 0 ρ → Stack w ids (set fs 0 0) 1 0 known (ρ ∷ [])
unfolding Stack
first-stack w ids fs known ρ h k = (
  holds-open w ids known 0 0 ρ k,
  subst (λ (f : ℕ). Under 0 f [] known (λ c l. Stack w ids (set fs 0 0) 0 c l [])) (sym (get_or-set_same fs 0 0 0 h)) (λ _. (refl, refl), λ m. absurd (m refl)),
)

module _ (text : List ℕ) (t : Table) (es : List Entry) (i at n : ℕ) (out : List ℕ) where
  pub first : (ρ : List Symbol) (z : List ℕ) → ended out at (loop es z (tokens_from text t i) at_rest (ρ ∷ []) n) ≡ ended out at (loop es z (tokens_from text t i) (mode_of 3) (ρ ∷ []) n)
  unfolding mode_of
  first ρ z = refl

  pub last : length t.kinds ≤ i → (z : List ℕ) (m : Mode) (σ : Reaches) → ended out at (loop es z (tokens_from text t i) m σ n) ≡ ended out at (ok z n)
  last h z m σ = ap (ended out at) (turn_end text t i h es z m σ n)

module _ (text : List ℕ) (t : Table) (es : List Entry) (ids : List ℕ) (g : List ℕ → Written) (i : ℕ) (s : State) (fs known out : List ℕ) (v : Going text t es ids g i s fs known out)
    (r : Option State) (gs after to : List ℕ) (k : GoesOn text t es ids (λ z. ended out s.at (left text t es ids z i s v.reaches)) (i + 1) r gs after to) where
  pub on : (u : State) → r ≡ Some u → Going text t es ids g (i + 1) u gs after to
  on u e =
      let n = subst (λ (x : Option State). GoesOn text t es ids (λ z. ended out s.at (left text t es ids z i s v.reaches)) (i + 1) x gs after to) e k in
      record { reaches = n.reaches; stack = n.stack; ends = λ z. v.ends z ∙ n.ends z }

  pub off : r ≡ None → (z : List ℕ) → g z ≡ fail
  off e z = v.ends z ∙ subst (λ (x : Option State). GoesOn text t es ids (λ z. ended out s.at (left text t es ids z i s v.reaches)) (i + 1) x gs after to) e k z

pub within : (s u : State) (r : Option State) → Within s r → r ≡ Some u → (u.reach.depth ≤ s.reach.depth + 1) × (u.n ≤ s.n + 1) × (u.at ≤ s.at + 8197) × (u.reach.crossing < 8192)
within s u r w e = subst (Within s) e w

-- the RANGE list's frame stands in place of what was counted for the first token
pub counted-first : (ks cs : List ℕ) (n : ℕ) → 1 ≤ n → Counted ks cs 0 → Counted ks (set cs 0 0) n
counted-first ks cs n h c = record { at = λ i l m. subst (λ (x : ℕ). Place x (plain (drop i ks))) (sym (get_or-set_other cs 0 i 0 0 (λ z. omega (arith, z)))) (c.at i (omega arith) m); kind = λ i l m. ap kind_in (get_or-set_other cs 0 i 0 0 (λ z. omega (arith, z))) ∙ c.kind i (omega arith) m }

pub counted-at : (ks cs : List ℕ) (n m : ℕ) → m ≡ n → Counted ks cs n → Counted ks cs m
counted-at ks cs n m e c = subst (Counted ks cs) (sym e) c

pub going-at : (text : List ℕ) (t : Table) (es : List Entry) (ids : List ℕ) (g : List ℕ → Written) (n m : ℕ) (u : State) (fs known out : List ℕ) → m ≡ n → Going text t es ids g n u fs known out → Going text t es ids g m u fs known out
going-at text t es ids g n m u fs known out e v = subst (λ (i : ℕ). Going text t es ids g i u fs known out) (sym e) v

-- the kinds that the counts are of
abbrev pub Begun : List ℕ → List ℕ → ℕ → ℕ → Type 0
Begun ks counts first end = (length ks ≡ end) × (first < end → Counted ks counts first)
