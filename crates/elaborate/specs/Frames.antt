-- The open parentheses: what each one keeps, so that what names stood for before it comes back where it closes.
use Rattle.std.specs.Prelude.{ℕ, zero, suc, ◌<◌, ◌/◌, ◌%◌, cond, List, [], ◌∷◌, map, ◌≡◌, eqb, get_or, set}
use Rattle.quel.specs.Results.{Word}
use Rattle.quel.specs.Elaboration.{head_only}
use Rattle.quel.specs.Writing.{Reaches, inner}
use Rattle.kinds.specs.declared.Record.{Record}
use Rattle.elaborate.specs.Reach.{mode_in}
use Rattle.elaborate.specs.Tables.{Holds}
use Rattle.elaborate.specs.Puts.{frame_mode, symbol_by}

-- a frame, 0 for that of the RANGE list: a name's number, the innermost aggregate's frame round it, and the name's entry before
abbrev pub id_in : ℕ → ℕ
id_in c = c / 4 % 8192

abbrev pub cross_in : ℕ → ℕ
cross_in c = c / 32768 % 8192

abbrev pub old_in : ℕ → ℕ
old_in c = c / 268435456

-- what lies round the frame c, the p-th
abbrev pub Under : ℕ → ℕ → Reaches → List ℕ → (ℕ → List ℕ → Type 0) → Type 0
Under p c σ known S = (mode_in c ≡ 0 → (p ≡ 0) × (σ ≡ [])) × ((mode_in c ≡ 0 → ⊥) → S (cross_in c) (set known (id_in c) (old_in c)))

-- the table says what names stand for in the innermost of the reaches, and, put back, in each one round it
unfoldable pub Stack : (ℕ → Word) → List ℕ → List ℕ → ℕ → ℕ → List ℕ → Reaches → Type 0
Stack w ids fs zero crossing known [] = Holds w ids known 0 crossing []
Stack w ids fs zero crossing known (ρ ∷ σ) = ⊥
Stack w ids fs (suc p) crossing known [] = ⊥
Stack w ids fs (suc p) crossing known (ρ ∷ σ) = Holds w ids known (suc p) crossing ρ × Under p (get_or fs p 0) σ known (λ c k. Stack w ids fs p c k σ)

-- the reach of a record with the names x₁ and x₂ after it
abbrev pub framed_reach : Word → Word → Record → Reaches → Reaches
framed_reach x₁ x₂ it σ =
    cond (eqb (frame_mode it) 2) ((symbol_by x₂ it ∷ map head_only (inner σ)) ∷ σ) (cond (eqb (frame_mode it) 1) ((symbol_by x₁ it ∷ inner σ) ∷ σ) (inner σ ∷ σ))

-- one frame more at p: the name x stands for e
pub record Opened (p crossing x e : ℕ) (fs known gs after : List ℕ) : Type 0 where
  pub frame : ℕ
  pub mode : mode_in frame ≡ 1
  pub name : id_in frame ≡ x
  pub cross : cross_in frame ≡ crossing
  pub old : old_in frame ≡ get_or known x 0
  pub there : gs ≡ set fs p frame
  pub stands : after ≡ set known x e

-- the entries of a table are small enough to be kept in a frame
abbrev pub Small : List ℕ → Type 0
Small known = (y : ℕ) → get_or known y 0 < 68719476736
