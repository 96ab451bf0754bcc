-- A search over the rows of a variable that passes some over.
use Prim.Native.Nat.{ℕ, ◌+◌, ◌*◌, ◌≤◌, ◌<◌}
use mathlib.Core.Bool.{Bool, true, false, cond}
use mathlib.Core.List.{List}
use mathlib.Core.Path.{◌≡◌, sym, ap, ◌∙◌, subst}
use native.Mathlib.Nat.{add-zero}
use native.Mathlib.Omega.{arith}
use lib.IntN.{ℤ}
use lib.ListN.{length, get_or, set}
use borrow.Author.Tests.{lt-ltb, le-ltb}
use Rattle.model.specs.Lists.{update}
use Rattle.model.specs.Search.{search}
use Rattle.model.proofs.Search.{none_over, search-found}
use Rattle.model.specs.Meaning.{Tuple}
use Rattle.catalogue.specs.Layout.{tuple_at}
use Rattle.walks.specs.Walks.{walk_of, walked}
use Rattle.walks.proofs.Loops.{Failed}
use Rattle.walks.specs.Assigned.{assigned}
use Rattle.walks.proofs.Assigned.{assigned-set}
use Rattle.branches.specs.Branches.{holds_in, branch_holds, next, runs}
use Rattle.decide.specs.Cursor.{stops, Ready, Prepared}
use Rattle.decide.specs.declared.seeks.Cursor.{Cursor}
use Rattle.walks.specs.declared.Walk.{Walk}

module _ (t q z ws : List ℕ) (vs m : List ℤ) (inner v : ℕ) (e : List ℕ) where
  -- what is asked of a row
  abbrev pub asks : Tuple → Bool
  asks x = runs t q z ws vs m inner (update (assigned vs e) v x)

  -- rows that a cursor passes over are no hits, one that it stops at goes on from its branch; P j is the place of row j
  module _ (c : Cursor) (chains : List ℕ) (made : Prepared c t inner v ws vs m e chains) (P : ℕ → ℕ) where
    pub over : (i s : ℕ) → ((j : ℕ) → i ≤ j → j < s → stops c (tuple_at vs (P j)) ≡ false) → Failed P vs asks i → Failed P vs asks s
    over i s h f = none_over (λ j. asks (tuple_at vs (P j))) i s f (λ j k l. made.fails q z ws (tuple_at vs (P j)) (h j k l))

    pub tried : (y : List ℕ) (row i : ℕ) (b : Bool) → stops c (tuple_at vs (P i)) ≡ true → row ≡ P i → y ≡ set e v row → v < length e → b ≡ runs t q z ws vs m c.next (assigned vs y) → asks (tuple_at vs (P i)) ≡ b
    tried y row i b h hr ey hv eb =
        made.found q z ws (tuple_at vs (P i)) h
        ∙ sym (eb ∙ ap (λ u. runs t q z ws vs m c.next u) (ap (assigned vs) ey ∙ assigned-set vs e v row hv ∙ ap (λ (p : ℕ). update (assigned vs e) v (tuple_at vs p)) hr))

    pub ready_for : (w : Walk) → w ≡ walk_of ws v → Ready c vs ws w chains
    ready_for w ew = subst (λ (x : Walk). Ready c vs ws x chains) (sym ew) made.ready

  -- a branch that asks for a row
  module _ (i : ℕ) (eo : get_or t (8 * i) 0 ≡ 256) (en : inner ≡ get_or t (8 * i + 2) 0) where
    pub some-stuck : i ≤ inner → false ≡ branch_holds t q z ws vs m i (assigned vs e)
    unfolding branch_holds holds_in
    some-stuck h = sym (rw (add-zero (8 * i), eo, sym en, le-ltb inner i h))

    pub some-high : (w : ℕ) → w ≡ get_or t (8 * i + 1) 0 → inner < i → 255 < w → false ≡ branch_holds t q z ws vs m i (assigned vs e)
    unfolding branch_holds holds_in
    some-high w ew l h = let g : 256 ≤ w = omega arith in sym (rw (add-zero (8 * i), eo, sym en, lt-ltb inner i l, sym ew, le-ltb w 256 g))

    pub some_is : (b : Bool) → v ≡ get_or t (8 * i + 1) 0 → inner < i → v < 256 → b ≡ (search asks (walked ws vs v)).found → b ≡ branch_holds t q z ws vs m i (assigned vs e)
    unfolding branch_holds holds_in
    some_is b ev l h eb = eb ∙ search-found asks (walked ws vs v) ∙ sym (rw (add-zero (8 * i), eo, sym en, lt-ltb inner i l, sym ev, lt-ltb v 256 h))

-- the branches followed, with the places as they were
module _ (t q z ws : List ℕ) (vs m : List ℤ) where
  pub moved : (e e₁ : List ℕ) (r f s : ℕ) → e₁ ≡ e → runs t q z ws vs m r (assigned vs e₁) ≡ runs t q z ws vs m f (assigned vs e₁) → runs t q z ws vs m f (assigned vs e) ≡ runs t q z ws vs m s (assigned vs e)
      → runs t q z ws vs m r (assigned vs e) ≡ runs t q z ws vs m s (assigned vs e)
  moved e e₁ r f s h a b = ap (λ (u : List ℕ). runs t q z ws vs m r (assigned vs u)) (sym h) ∙ a ∙ ap (λ (u : List ℕ). runs t q z ws vs m f (assigned vs u)) h ∙ b

  pub way_next : (e : List ℕ) (i to : ℕ) (b : Bool) → to ≡ cond b (get_or t (8 * i + 5) 0) (get_or t (8 * i + 6) 0) → b ≡ branch_holds t q z ws vs m i (assigned vs e) → to ≡ next t q z ws vs m i (assigned vs e)
  way_next e i to b et eb = et ∙ ap (λ (c : Bool). cond c (get_or t (8 * i + 5) 0) (get_or t (8 * i + 6) 0)) eb
