-- Frames opened and closed.
use Prim.Native.Nat.{ℕ, zero, suc, ◌+◌, ◌-◌, ◌≤◌, ◌<◌}
use mathlib.Core.List.{List, [], ◌∷◌, map}
use mathlib.Core.Option.{some}
use mathlib.Core.Path.{◌≡◌, refl, sym, ap, ap₂, ◌∙◌, subst}
use native.Mathlib.Omega.{arith}
use native.Mathlib.Numerals.{add-one}
use lib.Dec.{eqb}
use lib.ListN.{length, get_or, set}
use lib.Seq.{get_or-set_same, get_or-set_other, set-set, set-get_or}
use mathlib.Core.Bool.{Bool, true, false, ◌||◌}
use borrow.Author.Tests.{eqb-true}
use Rattle.model.proofs.Tests.{clash}
use Rattle.quel.specs.Results.{Word}
use Rattle.quel.specs.Elaboration.{Symbol, head_only}
use Rattle.quel.specs.Writing.{Reaches, inner, around}
use Rattle.kinds.specs.declared.Record.{Record}
use Rattle.kinds.specs.declared.Record.TheVariants as R
use Rattle.elaborate.specs.Reach.{mode_in, relation_in, variable_in, place_in}
use Rattle.elaborate.specs.Tables.{Same, Holds}
use Rattle.elaborate.specs.Puts.{frame_mode, reach_after}
use Rattle.elaborate.proofs.reach.Holds.{holds-none, clear_zero, holds-open, holds-some, holds-head}
use Rattle.elaborate.specs.Frames.{id_in, cross_in, old_in, Under, Stack, framed_reach, Opened}
use Rattle.elaborate.specs.After.{Fits}

-- the innermost
pub stack_top : (w : ℕ → Word) (ids fs : List ℕ) (p crossing : ℕ) (known : List ℕ) (σ : Reaches) → Stack w ids fs p crossing known σ → Holds w ids known p crossing (inner σ)
unfolding Stack
stack_top w ids fs zero crossing known [] s = s
stack_top w ids fs zero crossing known (ρ ∷ σ) s = absurd s
stack_top w ids fs (suc p) crossing known [] s = absurd s
stack_top w ids fs (suc p) crossing known (ρ ∷ σ) s = s.0

-- a frame written past them changes nothing
stack-kept : (w : ℕ → Word) (ids fs : List ℕ) (q c p crossing : ℕ) (known : List ℕ) (σ : Reaches) → p ≤ q → Stack w ids fs p crossing known σ → Stack w ids (set fs q c) p crossing known σ
unfolding Stack
stack-kept w ids fs q c zero crossing known [] h s = s
stack-kept w ids fs q c zero crossing known (ρ ∷ σ) h s = s
stack-kept w ids fs q c (suc p) crossing known [] h s = s
stack-kept w ids fs q c (suc p) crossing known (ρ ∷ σ) h s = (
  s.0,
  subst (λ (f : ℕ). Under p f σ known (λ cr k. Stack w ids (set fs q c) p cr k σ)) (sym (get_or-set_other fs q p c 0 (λ z. omega (arith, z))))
      (s.1.0, λ m. stack-kept w ids fs q c p _ _ σ (omega arith) (s.1.1 m)),
)

-- one frame more
module _ (w : ℕ → Word) (ids fs : List ℕ) (p crossing : ℕ) (known : List ℕ) (σ : Reaches) (x e : ℕ) (gs after : List ℕ) (h : p < length fs)
    (s : Stack w ids fs p crossing known σ) (u : Opened p crossing x e fs known gs after) where
  put_back : set (set known x e) (id_in u.frame) (old_in u.frame) ≡ known
  put_back = ap₂ (λ (i v : ℕ). set (set known x e) i v) u.name u.old ∙ set-set known x e (get_or known x 0) ∙ set-get_or known x 0

  pub stack-more : (cr : ℕ) (ρ : List Symbol) → Holds w ids (set known x e) (p + 1) cr ρ → Stack w ids gs (p + 1) cr after (ρ ∷ σ)
  unfolding Stack
  stack-more cr ρ k =
      subst (λ (l : List ℕ). Stack w ids l (p + 1) cr after (ρ ∷ σ)) (sym u.there)
      (subst (λ (l : List ℕ). Stack w ids (set fs p u.frame) (p + 1) cr l (ρ ∷ σ)) (sym u.stands)
      (subst (λ (n : ℕ). Stack w ids (set fs p u.frame) n cr (set known x e) (ρ ∷ σ)) (sym (add-one p)) (
        subst (λ (n : ℕ). Holds w ids (set known x e) n cr ρ) (add-one p) k,
        subst (λ (f : ℕ). Under p f σ (set known x e) (λ cr k. Stack w ids (set fs p u.frame) p cr k σ)) (sym (get_or-set_same fs p u.frame 0 h)) (
          λ m. absurd (omega (arith, m, u.mode)),
          λ m. subst (λ (n : ℕ). Stack w ids (set fs p u.frame) p n (set (set known x e) (id_in u.frame) (old_in u.frame)) σ) (sym u.cross) (subst (λ (l : List ℕ). Stack w ids (set fs p u.frame) p crossing l σ) (sym put_back) (stack-kept w ids fs p u.frame p crossing known σ (omega arith) s)),
        ),
      )))

  abbrev top : Holds w ids known p crossing (inner σ)
  top = stack_top w ids fs p crossing known σ s

  module _ (f : Same w ids) (room : (y : ℕ) → get_or ids y 0 < length known) (i v q : ℕ) (item : Record) (em : mode_in e ≡ 1) (er : relation_in e ≡ q) (ev : variable_in e ≡ v) (ep : place_in e ≡ p + 1) where
    pub enter-some : x ≡ get_or ids (i + 1) 0 → item ≡ R.Some v q → Stack w ids gs (p + 1) crossing after (framed_reach (w (i + 1)) (w (i + 2)) item σ)
    enter-some ex ei = subst (λ (it : Record). Stack w ids gs (p + 1) crossing after (framed_reach (w (i + 1)) (w (i + 2)) it σ)) (sym ei) (stack-more crossing _
        (subst (λ (y : ℕ). Holds w ids (set known y e) (p + 1) crossing (record { word = w (i + 1); relation = q; variable = some v } ∷ inner σ)) (sym ex) (holds-some w ids known p crossing (inner σ) top f (i + 1) e q v (room (i + 1)) em er ev ep)))

    pub enter-head : (g a : ℕ) → x ≡ get_or ids (i + 2) 0 → item ≡ R.Aggregate g v q a → Stack w ids gs (p + 1) (p + 1) after (framed_reach (w (i + 1)) (w (i + 2)) item σ)
    enter-head g a ex ei = subst (λ (it : Record). Stack w ids gs (p + 1) (p + 1) after (framed_reach (w (i + 1)) (w (i + 2)) it σ)) (sym ei) (stack-more (p + 1) _
        (subst (λ (y : ℕ). Holds w ids (set known y e) (p + 1) (p + 1) (record { word = w (i + 2); relation = q; variable = some v } ∷ map head_only (inner σ))) (sym ex) (holds-head w ids known p crossing (inner σ) top f (i + 2) e q v (room (i + 2)) em er ev ep)))

  pub enter-none : (x₁ x₂ : Word) (item : Record) → x ≡ 0 → e ≡ get_or known 0 0 → frame_mode item ≡ 0 → Stack w ids gs (p + 1) crossing after (framed_reach x₁ x₂ item σ)
  enter-none x₁ x₂ item ex ee em =
      rw em (stack-more crossing (inner σ) (subst (λ (l : List ℕ). Holds w ids l (p + 1) crossing (inner σ)) (sym (ap₂ (λ (y v : ℕ). set known y v) ex ee ∙ set-get_or known 0 0)) (holds-open w ids known p crossing (inner σ) top)))

-- a record that binds no name
pub binds-none : (it : Record) → ((v q : ℕ) → it ≡ R.Some v q → ⊥) → ((g v q a : ℕ) → it ≡ R.Aggregate g v q a → ⊥) → frame_mode it ≡ 0
binds-none (R.Range _ _) s h = refl
binds-none R.True s h = refl
binds-none R.False s h = refl
binds-none R.Not s h = refl
binds-none R.And s h = refl
binds-none R.Or s h = refl
binds-none (R.Compare _) s h = refl
binds-none (R.Some v q) s h = absurd (s v q refl)
binds-none (R.Constant _ _ _ _) s h = refl
binds-none (R.Attribute _ _) s h = refl
binds-none (R.Aggregate g v q a) s h = absurd (h g v q a refl)
binds-none (R.Permit _ _ _) s h = refl
binds-none R.Unknown s h = refl
binds-none R.Short s h = refl

-- one frame less
module _ (w : ℕ → Word) (ids fs : List ℕ) where
  pub leave_none : (p crossing : ℕ) (known : List ℕ) (σ : Reaches) → p ≡ 0 → Stack w ids fs p crossing known σ → Stack w ids fs p crossing known (around σ)
  unfolding Stack
  leave_none zero crossing known [] e s = s
  leave_none zero crossing known (ρ ∷ σ) e s = absurd s
  leave_none (suc p) crossing known σ e s = absurd (omega (arith, e))

  less : (p : ℕ) → suc p - 1 ≡ p
  less p = omega arith

  pub leave-last : (p crossing : ℕ) (known : List ℕ) (σ : Reaches) (c : ℕ) → (p ≡ 0 → ⊥) → c ≡ get_or fs (p - 1) 0 → mode_in c ≡ 0 → (after : List ℕ) → ((x : ℕ) → get_or after x 0 ≡ 0)
      → Stack w ids fs p crossing known σ → Stack w ids fs (p - 1) 0 after (around σ)
  unfolding Stack
  leave-last zero crossing known σ c n ec m after z s = absurd (n refl)
  leave-last (suc p) crossing known [] c n ec m after z s = absurd s
  leave-last (suc p) crossing known (ρ ∷ σ) c n ec m after z s =
      let g = s.1.0 (ap mode_in (sym (ec ∙ ap (λ (j : ℕ). get_or fs j 0) (less p))) ∙ m) in
      subst (λ (j : ℕ). Stack w ids fs j 0 after σ) (sym (less p ∙ g.0)) (subst (λ (τ : Reaches). Stack w ids fs 0 0 after τ) (sym g.1) (holds-none w ids after 0 (clear_zero after z)))

  pub leave-frame : (p crossing : ℕ) (known : List ℕ) (σ : Reaches) (c : ℕ) → (p ≡ 0 → ⊥) → c ≡ get_or fs (p - 1) 0 → (mode_in c ≡ 0 → ⊥) → (after : List ℕ) → after ≡ set known (id_in c) (old_in c)
      → Stack w ids fs p crossing known σ → Stack w ids fs (p - 1) (cross_in c) after (around σ)
  unfolding Stack
  leave-frame zero crossing known σ c n ec m after ea s = absurd (n refl)
  leave-frame (suc p) crossing known [] c n ec m after ea s = absurd s
  leave-frame (suc p) crossing known (ρ ∷ σ) c n ec m after ea s =
      let q = ec ∙ ap (λ (j : ℕ). get_or fs j 0) (less p) in
      subst (λ (j : ℕ). Stack w ids fs j (cross_in c) after σ) (sym (less p)) (subst (λ (l : List ℕ). Stack w ids fs p (cross_in c) l σ) (sym ea)
      (subst (λ (d : ℕ). Stack w ids fs p (cross_in d) (set known (id_in d) (old_in d)) σ) (sym q) (s.1.1 (λ z. m (ap mode_in q ∙ z)))))

-- entries stay small
pub small-set : (known : List ℕ) (x e : ℕ) → ((y : ℕ) → get_or known y 0 < 68719476736) → e < 68719476736 → (y : ℕ) → get_or (set known x e) y 0 < 68719476736
small-set [] x e h l y = h y
small-set (k ∷ known) zero e h l zero = l
small-set (k ∷ known) zero e h l (suc y) = h (suc y)
small-set (k ∷ known) (suc x) e h l zero = h 0
small-set (k ∷ known) (suc x) e h l (suc y) = small-set known x e (λ j. h (suc j)) l y

-- which reach an action leaves
module _ (a : ℕ) (it : Record) (x₁ x₂ : Word) (σ : Reaches) where
  pub open-reach : Fits a it → (eqb a 4 || (eqb a 6 || eqb a 7)) ≡ true → framed_reach x₁ x₂ it σ ≡ reach_after a x₁ x₂ it σ
  open-reach f h = go (eqb a 4) (eqb a 6) (eqb a 7) refl refl refl h
    where
      go : (b c d : Bool) → eqb a 4 ≡ b → eqb a 6 ≡ c → eqb a 7 ≡ d → (b || (c || d)) ≡ true → framed_reach x₁ x₂ it σ ≡ reach_after a x₁ x₂ it σ
      go true c d e g k t = let z = eqb-true a 4 e in rw (f.head z, z)
      go false true d e g k t = let z = eqb-true a 6 g in rw (f.binder z, z)
      go false false true e g k t = let z = eqb-true a 7 k in rw (f.left z, z)
      go false false false e g k t = clash t

  module _ (h : (eqb a 4 || (eqb a 6 || eqb a 7)) ≡ false) where
    none_open : (eqb a 4 ≡ false) × (eqb a 6 ≡ false) × (eqb a 7 ≡ false)
    none_open = go (eqb a 4) (eqb a 6) (eqb a 7) h
      where
        go : (b c d : Bool) → (b || (c || d)) ≡ false → (b ≡ false) × (c ≡ false) × (d ≡ false)
        go true c d t = clash (sym t)
        go false true d t = clash (sym t)
        go false false true t = clash (sym t)
        go false false false t = (refl, refl, refl)

    pub close-reach : (eqb a 8 || eqb a 9) ≡ true → around σ ≡ reach_after a x₁ x₂ it σ
    close-reach k = rw (none_open.0, none_open.1, none_open.2, k)

    pub same-reach : (eqb a 8 || eqb a 9) ≡ false → σ ≡ reach_after a x₁ x₂ it σ
    same-reach k = rw (none_open.0, none_open.1, none_open.2, k)

pub small-after : (p crossing x e : ℕ) (fs known gs after : List ℕ) → Opened p crossing x e fs known gs after → ((y : ℕ) → get_or known y 0 < 68719476736) → e < 68719476736 → (y : ℕ) → get_or after y 0 < 68719476736
small-after p crossing x e fs known gs after u h l y = subst (λ (k : List ℕ). get_or k y 0 < 68719476736) (sym u.stands) (small-set known x e h l y)

-- frames above the one that was opened are as they were
pub above_kept : (p crossing x e : ℕ) (fs known gs after : List ℕ) → Opened p crossing x e fs known gs after → (j : ℕ) → p < j → get_or gs j 0 ≡ get_or fs j 0
above_kept p crossing x e fs known gs after o j h = ap (λ (l : List ℕ). get_or l j 0) o.there ∙ get_or-set_other fs p j o.frame 0 (λ z. omega (arith, z))
