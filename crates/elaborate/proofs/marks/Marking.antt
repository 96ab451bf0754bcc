-- The loop that marks what is used: the marks, and what is left of the tokens.
use Prim.Native.Nat.{ℕ, ◌+◌, ◌≤◌, ◌<◌}
use mathlib.Core.Bool.{Bool, true, false, not, cond, ◌&&◌, ◌||◌}
use mathlib.Core.List.{List}
use mathlib.Core.Path.{◌≡◌, refl, sym, ap, ◌∙◌, subst}
use lib.Dec.{eqb}
use lib.ListN.{length, get_or, set}
use lib.Seq.{get_or-set_same, get_or-set_other}
use native.Mathlib.Omega.{arith}
use borrow.Author.Tests.{ne_eqb, eqb-true, eqb-false}
use Rattle.model.proofs.Tests.{or-false}
use Rattle.quel.specs.Results.{same_word, has_word}
use Rattle.tokens.specs.Table.{Table}
use Rattle.flat.specs.Flat.{uses, outside}
use Rattle.elaborate.specs.Places.{tokens_from, point_in, use_in, depth_kind}
use Rattle.elaborate.specs.Numbers.{Numbered, marked, Noted, Used}
use Rattle.elaborate.specs.Reach.{mode_in, place_in}
use Rattle.elaborate.specs.Tables.{Clear}
use Rattle.elaborate.proofs.marks.Walks.{here, use-turn, no-use-left}
use Rattle.elaborate.proofs.marks.Numbers.{mark-use}

-- only names are used, and they leave the depth as it is
pub depth-name : (k d : ℕ) → k ≡ 0 → d ≡ depth_kind k d
unfolding depth_kind
depth-name k d e = sym (ap (λ (n : ℕ). depth_kind n d) e)

pub not_noted : (ks ids used : List ℕ) (d i : ℕ) → (get_or ks i 0 ≡ 0 → ⊥) → Noted ids used i (use_in ks d i) used
unfolding use_in
not_noted ks ids used d i h = record { is = sym (ap (λ (b : Bool). cond (b && (outside d && point_in ks (i + 1))) (set used (get_or ids i 0) 4) used) (ne_eqb (get_or ks i 0) 0 h)) }

module _ (text : List ℕ) (t : Table) (ids : List ℕ) (from : ℕ) where
  pub record Left (d i : ℕ) (used : List ℕ) : Type 0 where
    pub at : (x : ℕ) → (marked ids used x || has_word (here text t x) (uses d (tokens_from text t i))) ≡ has_word (here text t x) (uses 0 (tokens_from text t from))

  pub left-start : (used : List ℕ) → ((x : ℕ) → get_or used x 0 ≡ 0) → Left 0 from used
  left-start used z = record { at = λ x. ap (λ (v : ℕ). not (eqb v 0) || has_word (here text t x) (uses 0 (tokens_from text t from))) (z (get_or ids x 0)) }

  module _ (d i : ℕ) (used after : List ℕ) (l : i < length t.kinds) (f : Left d i used) (g : Numbered (here text t) (length t.kinds) ids) (room : get_or ids i 0 < length used) (k : Noted ids used i (use_in t.kinds d i) after) where
    shuffle : (a b c : Bool) → ((a || b) || c) ≡ (b || (a || c))
    shuffle true true c = refl
    shuffle true false c = refl
    shuffle false b c = refl

    pub left-next : (e : ℕ) → e ≡ depth_kind (get_or t.kinds i 0) d → Left e (i + 1) after
    left-next e q = record { at = λ x. ap (λ (m : List ℕ). marked ids m x || has_word (here text t x) (uses e (tokens_from text t (i + 1)))) k.is ∙ ap (λ (e : ℕ). marked ids (cond (use_in t.kinds d i) (set used (get_or ids i 0) 4) used) x || has_word (here text t x) (uses e (tokens_from text t (i + 1)))) q ∙ go x (use_in t.kinds d i) ∙ ap (λ (b : Bool). marked ids used x || b) (sym (use-turn text t i l d (here text t x))) ∙ f.at x }
      where
        go : (x : ℕ) (b : Bool) → (marked ids (cond b (set used (get_or ids i 0) 4) used) x || has_word (here text t x) (uses (depth_kind (get_or t.kinds i 0) d) (tokens_from text t (i + 1))))
            ≡ (marked ids used x || ((b && same_word (here text t x) (here text t i)) || has_word (here text t x) (uses (depth_kind (get_or t.kinds i 0) d) (tokens_from text t (i + 1)))))
        go x true = ap (λ (c : Bool). c || has_word (here text t x) (uses (depth_kind (get_or t.kinds i 0) d) (tokens_from text t (i + 1)))) (mark-use (here text t) (length t.kinds) ids g used i 4 (omega arith) room x) ∙ shuffle (same_word (here text t x) (here text t i)) (marked ids used x) (has_word (here text t x) (uses (depth_kind (get_or t.kinds i 0) d) (tokens_from text t (i + 1))))
        go x false = refl

  pub left_end : (d i : ℕ) (used : List ℕ) → length t.kinds ≤ i → Left d i used → Used text t ids from used
  left_end d i used l f = record { at = λ x. sym (or-false (marked ids used x)) ∙ ap (λ (b : Bool). marked ids used x || b) (no-use-left text t i l d (here text t x)) ∙ f.at x }

-- a mark is nothing that a name stands for
pub clear-marked : (ids used : List ℕ) (i : ℕ) (b : Bool) (after : List ℕ) → get_or ids i 0 < length used → Noted ids used i b after → Clear used → Clear after
clear-marked ids used i b after room k z = subst Clear (sym k.is) (go b)
  where
    at : (x : ℕ) (e : Bool) → eqb x (get_or ids i 0) ≡ e → (mode_in (get_or (set used (get_or ids i 0) 4) x 0) ≡ 0) × (place_in (get_or (set used (get_or ids i 0) 4) x 0) ≡ 0)
    at x true e = rw (eqb-true x (get_or ids i 0) e, get_or-set_same used (get_or ids i 0) 4 0 room) (refl, refl)
    at x false e = rw (get_or-set_other used (get_or ids i 0) x 4 0 (eqb-false x (get_or ids i 0) e)) (z x)

    go : (b : Bool) → Clear (cond b (set used (get_or ids i 0) 4) used)
    go true x = at x (eqb x (get_or ids i 0)) refl
    go false x = z x
