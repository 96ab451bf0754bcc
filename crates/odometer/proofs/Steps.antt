-- One step of each function as an equation over plain variables.
use mathlib.Core.Path.{◌≡◌, refl, sym, ap, ap₂, ◌∙◌, subst}
use mathlib.Core.Bool.{Bool, true, false, not}
use mathlib.Core.List.{List, [], ◌∷◌, ◌++◌, map, map-append, append-nil}
use mathlib.Core.Option.{Option, none, some}
use Prim.Native.Nat.{ℕ, zero, suc, ◌+◌, ◌-◌, ◌*◌, ◌≤◌, ◌<◌}
use native.Mathlib.Omega.{arith}
use native.Mathlib.Numerals.{sub-one, add-one}
use lib.IntN.{ℤ}
use lib.ListN.{length, get_or, set, drop, take}
use lib.Seq.{sets, sets-eq, take_at, length-take-le, drop-drop, get_or-drop}
use Rattle.model.specs.Lists.{update, concat_map, present}
use Rattle.model.specs.Kinds.{kind_of, find}
use Rattle.model.specs.Syntax.{Binding}
use Rattle.model.specs.Meaning.{Tuple, Assignment, Rows, Ratio, cell, with_cell, target_row_with}
use Rattle.model.proofs.Tests.{not_yes, not-no, clash}
use Rattle.model.proofs.Width.{row-wide}
use Rattle.kinds.specs.Tables.{of_kind, record_length}
use Rattle.numbers.specs.Recalled.{recall}
use Rattle.walks.specs.Walks.{walk_of, place_at, places, walked, rows_by}
use Rattle.evaluator.specs.Evaluation.{value_at}
use Rattle.walks.specs.Assigned.{assigned}
use Rattle.walks.proofs.Assigned.{assigned-set}
use Rattle.catalogue.specs.Layout.{tuple_at}
use Rattle.walks.specs.declared.Walk.{Walk}
use Rattle.walks.proofs.Loops.{concat-to}
use Rattle.rows.specs.Buffer.{Buffer, added, added_all}
use Rattle.rows.specs.Chains.{Linked}
use Rattle.rows.proofs.Laws.{added-append, full-stays}
use Rattle.sizes.specs.Parts.{ranges_at, targets_at}
use Rattle.conjuncts.specs.Stages.{stage_holds}
use Rattle.decide.proofs.seeks.Places.{passed_over}
use Rattle.decide.specs.Cursor.{stops, Prepared}
use Rattle.decide.specs.declared.seeks.Cursor.{Cursor}
use Rattle.branches.specs.Branches.{runs, leads}
use Rattle.odometer.specs.declared.Plan.{Plan}
use Rattle.odometer.specs.Staged.{staged_from, depth_holds}
use Rattle.odometer.specs.Plan.{Bounds, list_in, cells_by, cells_in, Listed, Written, Cells, added_row, row_by, rows_of, range_variable, rows_from, rows_below}

-- the cell of one target before those of the others
pub one_cell : (b : Bool) (row y w : List ℤ) (at : ℕ) (x : Ratio) (cells : Option (List ℤ)) → y ≡ set row at (cell x) → Written b y (at + 1) w cells → Written b row at w (with_cell (some x) cells)
one_cell b row y w at x none ey h = h
one_cell b row y w at x (some cells) ey h = (h.0, h.1 ∙ rw (add-one, ey))

module _ (ws : List ℕ) (vs m : List ℤ) (e q z : List ℕ) (left l at : ℕ) (row : List ℤ) where
  pub targets-none : left ≡ 0 → Written true row at row (cells_by m (targets_at left l q z) (rows_by ws vs) (assigned vs e))
  unfolding targets_at target_row_with
  targets-none h = rw h (refl, refl)

  -- one target without value
  pub targets-nothing : (w : List ℤ) → (left ≡ 0 → ⊥) → value_at l q z ws vs m e ≡ none → Written false row at w (cells_by m (targets_at left l q z) (rows_by ws vs) (assigned vs e))
  unfolding targets_at target_row_with value_at
  targets-nothing w nz h = go left nz
    where
      go : (k : ℕ) → (k ≡ 0 → ⊥) → Written false row at w (cells_by m (targets_at k l q z) (rows_by ws vs) (assigned vs e))
      go zero k = absurd (k refl)
      go (suc k) g = rw h refl

  pub targets-more : (b : Bool) (x : Ratio) (c : ℤ) (n : ℕ) (y w : List ℤ) (u v e₁ : List ℕ) → (left ≡ 0 → ⊥) → value_at l q z ws vs m e ≡ some x → c ≡ cell x → y ≡ set row at c
      → n ≡ get_or z 0 0 → u ≡ drop n q → v ≡ drop n z → e₁ ≡ e → Written b y (at + 1) w (cells_by m (targets_at (left - 1) l u v) (rows_by ws vs) (assigned vs e₁))
      → Written b row at w (cells_by m (targets_at left l q z) (rows_by ws vs) (assigned vs e))
  unfolding targets_at target_row_with value_at
  targets-more b x c n y w u v e₁ nz ex ec ey en eu ev ee ew = go left nz ew
    where
      go : (k : ℕ) → (k ≡ 0 → ⊥) → Written b y (at + 1) w (cells_by m (targets_at (k - 1) l u v) (rows_by ws vs) (assigned vs e₁)) → Written b row at w (cells_by m (targets_at k l q z) (rows_by ws vs) (assigned vs e))
      go zero h f = absurd (h refl)
      go (suc k) h f =
          let rest = cells_by m (targets_at k l (drop (get_or z 0 0) q) (drop (get_or z 0 0) z)) (rows_by ws vs) (assigned vs e) in
          let same : cells_by m (targets_at (suc k - 1) l u v) (rows_by ws vs) (assigned vs e₁) ≡ rest = rw (sub-one, ee, eu, ev, en) in
          rw ex (one_cell b row y w at x rest (ey ∙ ap (set row at) ec) (subst (Written b y (at + 1) w) same f))

length-targets : (n l : ℕ) (q z : List ℕ) → length (targets_at n l q z) ≡ n
unfolding targets_at
length-targets zero l q z = refl
length-targets (suc n) l q z = ap suc (length-targets n l _ _)

-- the first cells of a row that was written from its start
written : (n : ℕ) (row xs : List ℤ) → length xs ≡ n → n ≤ length row → take n (sets row 0 xs) ≡ xs
written n row xs e h = let k : 0 + length xs ≤ length row = omega arith in ap (take n) (sets-eq xs row 0 k) ∙ take_at xs (drop (0 + length xs) row) n e

-- the cells of an assignment's row, as its targets or the list gave them
module _ (p : Plan) (ws : List ℕ) (vs m : List ℤ) (e q z : List ℕ) where
  module _ (b : Bool) (row₀ row : List ℤ) (h : p.columns ≤ length row₀) where
    cells-written : (cells : Option (List ℤ)) → cells ≡ row_by p q z ws vs m (assigned vs e) → Written b row₀ 0 row cells → Cells b p.columns row (row_by p q z ws vs m (assigned vs e))
    cells-written cells ec eb = go (row_by p q z ws vs m (assigned vs e)) refl (subst (Written b row₀ 0 row) ec eb)
      where
        go : (cells : Option (List ℤ)) → row_by p q z ws vs m (assigned vs e) ≡ cells → Written b row₀ 0 row cells → Cells b p.columns row cells
        go none g k = k
        go (some x) g k =
            let l = row-wide (recall m) (targets_at p.columns p.level (drop p.targets q) (drop p.targets z)) (rows_by ws vs) (assigned vs e) x g ∙ length-targets p.columns p.level (drop p.targets q) (drop p.targets z) in
            (k.0, ap (take p.columns) k.1 ∙ written p.columns row₀ x l h)

    pub cells_of : (u v : List ℕ) → u ≡ drop p.targets q → v ≡ drop p.targets z
        → Written b row₀ 0 row (cells_by m (targets_at p.columns p.level u v) (rows_by ws vs) (assigned vs e)) → Cells b p.columns row (row_by p q z ws vs m (assigned vs e))
    cells_of u v eu ev = cells-written (cells_by m (targets_at p.columns p.level u v) (rows_by ws vs) (assigned vs e)) (rw (eu, ev))

    pub cells-listed : (l : List ℕ) → Listed l p q z m → p.listed ≡ true → Written b row₀ 0 row (cells_in m l p.columns 0 (assigned vs e)) → Cells b p.columns row (row_by p q z ws vs m (assigned vs e))
    cells-listed l known k = cells-written (cells_in m l p.columns 0 (assigned vs e)) (sym (known k (rows_by ws vs) (assigned vs e)))

module _ (b : Bool) (n : ℕ) (row : List ℤ) (s : Buffer) where
  pub write-none : (cells : Option (List ℤ)) → Cells b n row cells → not b ≡ true → s ≡ added_row s cells
  write-none none k h = refl
  write-none (some x) k h = clash (sym (not_yes b h) ∙ k.0)

  pub write-row : (cells : Option (List ℤ)) → Cells b n row cells → (r : Buffer) → not b ≡ false → r ≡ added s (take n row) → r ≡ added_row s cells
  write-row none k r h e = clash (sym k ∙ not-no b h)
  write-row (some x) k r h e = e ∙ ap (added s) k.1

-- the row handed on has as many cells as the plan says
module _ (n : ℕ) (row : List ℤ) (k : ℕ) (cells : List ℤ) (t : List ℕ) (h : n ≤ length row) where
  pub row-linked : Linked n k cells t → Linked (length (take n row)) k cells t
  row-linked l = subst (λ (w : ℕ). Linked w k cells t) (sym (length-take-le n row h)) l

  pub linked-row : Linked (length (take n row)) k cells t → Linked n k cells t
  linked-row l = subst (λ (w : ℕ). Linked w k cells t) (length-take-le n row h) l

-- the conjuncts of a depth, by the branches that its stages go on from
module _ (t q z ws : List ℕ) (vs m : List ℤ) where
  pub no-branch : (e : Assignment) (i : ℕ) → i ≡ 0 → true ≡ runs t q z ws vs m i e
  unfolding runs leads
  no-branch e i h = sym (rw h)

  pub stage-start : (s n i : ℕ) (e : Assignment) → i ≡ get_or t n 0 → n ≡ s → runs t q z ws vs m i e ≡ stage_holds t q z ws vs m s e
  unfolding stage_holds
  stage-start s n i e ei en = ap (λ (k : ℕ). runs t q z ws vs m k e) (ei ∙ ap (λ (k : ℕ). get_or t k 0) en)

  module _ (e : List ℕ) (d i : ℕ) (f : runs t q z ws vs m i (assigned vs e) ≡ stage_holds t q z ws vs m (2 * d) (assigned vs e)) (b : Bool) (eb : b ≡ runs t q z ws vs m i (assigned vs e)) where
    pub first-fails : not b ≡ true → depth_holds t q z ws vs m d (assigned vs e) ≡ false
    unfolding depth_holds
    first-fails h = rw (sym f ∙ sym eb ∙ not_yes b h)

    module _ (h : not b ≡ false) (k : ℕ) (g : runs t q z ws vs m k (assigned vs e) ≡ stage_holds t q z ws vs m (2 * d + 1) (assigned vs e)) (c : Bool) (e₁ : List ℕ) (ee : e₁ ≡ e) (ec : c ≡ runs t q z ws vs m k (assigned vs e₁)) where
      second : stage_holds t q z ws vs m (2 * d + 1) (assigned vs e) ≡ c
      second = sym g ∙ ap (λ (u : List ℕ). runs t q z ws vs m k (assigned vs u)) (sym ee) ∙ sym ec

      pub second-fails : not c ≡ true → depth_holds t q z ws vs m d (assigned vs e) ≡ false
      unfolding depth_holds
      second-fails l = rw (sym f ∙ sym eb ∙ not-no b h, second ∙ not_yes c l)

      pub both_hold : not c ≡ false → depth_holds t q z ws vs m d (assigned vs e) ≡ true
      unfolding depth_holds
      both_hold l = rw (sym f ∙ sym eb ∙ not-no b h, second ∙ not-no c l)

-- a cursor for the rows of variable v, by the stage of the depth at which v is bound
module _ (c : Cursor) (d : ℕ) (t q z ws : List ℕ) (vs m : List ℤ) (e chains : List ℕ) (v start n : ℕ) (ready : Prepared c t start v ws vs m e chains) (es : start ≡ get_or t n 0) (en : n ≡ 2 * d) where
  pub unmet : (row : Tuple) → stops c row ≡ false → stage_holds t q z ws vs m (2 * d) (update (assigned vs e) v row) ≡ false
  unmet row h = sym (stage-start t q z ws vs m (2 * d) n start (update (assigned vs e) v row) es en) ∙ ready.fails q z ws row h

  pub onward : (y : List ℕ) (place k : ℕ) → v < length e → y ≡ set e v place → place ≡ k → stops c (tuple_at vs k) ≡ true → runs t q z ws vs m c.next (assigned vs y) ≡ stage_holds t q z ws vs m (2 * d) (assigned vs y)
  onward y place k hv ey ek h =
      let a : assigned vs y ≡ update (assigned vs e) v (tuple_at vs k) = ap (λ (l : List ℕ). assigned vs l) ey ∙ assigned-set vs e v place hv ∙ ap (λ (j : ℕ). update (assigned vs e) v (tuple_at vs j)) ek in
      ap (runs t q z ws vs m c.next) a
      ∙ sym (ready.found q z ws (tuple_at vs k) h)
      ∙ stage-start t q z ws vs m (2 * d) n start (update (assigned vs e) v (tuple_at vs k)) es en
      ∙ ap (stage_holds t q z ws vs m (2 * d)) (sym a)

-- the row before the next one is one that it stopped at
pub stopped-before : (c : Cursor) (vs : List ℤ) (P : ℕ → ℕ) (j : ℕ) → stops c (tuple_at vs (P j)) ≡ true → 0 < j + 1 → stops c (tuple_at vs (P (j + 1 - 1))) ≡ true
stopped-before c vs P j h l = let k : j ≡ j + 1 - 1 = omega arith in subst (λ (n : ℕ). stops c (tuple_at vs (P n)) ≡ true) k h

staged-no : (T : ℕ → Assignment → Bool) (d : ℕ) (bs : List Binding) (R : Rows) (e : Assignment) → T d e ≡ false → staged_from T d bs R e ≡ []
unfolding staged_from
staged-no T d [] R e h = rw h
staged-no T d (b ∷ bs) R e h = rw h

-- the rows of several assignments, one after the other
present-append : (xs ys : List (Option (List ℤ))) → present (xs ++ ys) ≡ present xs ++ present ys
unfolding present
present-append [] ys = refl
present-append (none ∷ xs) ys = present-append xs ys
present-append (some x ∷ xs) ys = ap (◌∷◌ x) (present-append xs ys)

rows_append : (p : Plan) (q z ws : List ℕ) (vs m : List ℤ) (a b : List Assignment) → rows_of p q z ws vs m (a ++ b) ≡ rows_of p q z ws vs m a ++ rows_of p q z ws vs m b
rows_append p q z ws vs m a b = ap present (map-append (row_by p q z ws vs m) a b) ∙ present-append (map (row_by p q z ws vs m) a) (map (row_by p q z ws vs m) b)

one-row-added : (s : Buffer) (x : Option (List ℤ)) → added_row s x ≡ added_all s (present (x ∷ []))
unfolding added_all present
one-row-added s none = refl
one-row-added s (some x) = refl

next-ranges : (d : ℕ) (q : List ℕ) → drop (record_length 1) (drop (3 * d) q) ≡ drop (3 * suc d) q
unfolding record_length of_kind kind_of find
next-ranges d q = let three : 3 * d + 3 ≡ 3 * suc d = omega arith in drop-drop 3 (3 * d) q ∙ ap (λ (j : ℕ). drop j q) three

module _ (p : Plan) (t q z ws : List ℕ) (vs m : List ℤ) (e : List ℕ) (s : Buffer) where
  pub run-no : depth_holds t q z ws vs m p.depth (assigned vs e) ≡ false → s ≡ added_all s (rows_from p t q z ws vs m (assigned vs e))
  unfolding rows_from added_all present
  run-no h = sym (ap (λ (l : List Assignment). added_all s (rows_of p q z ws vs m l)) (staged-no (depth_holds t q z ws vs m) p.depth (ranges_at p.left (drop (3 * p.depth) q)) (rows_by ws vs) (assigned vs e) h))

  pub run_row : (r : Buffer) (e₁ : List ℕ) → depth_holds t q z ws vs m p.depth (assigned vs e) ≡ true → p.left ≡ 0 → e₁ ≡ e → r ≡ added_row s (row_by p q z ws vs m (assigned vs e₁)) → r ≡ added_all s (rows_from p t q z ws vs m (assigned vs e))
  unfolding rows_from staged_from ranges_at
  run_row r e₁ h hl ee er = er ∙ ap (λ (x : List ℕ). added_row s (row_by p q z ws vs m (assigned vs x))) ee ∙ one-row-added s (row_by p q z ws vs m (assigned vs e)) ∙ sym (rw (hl, h))

  pub run-rows : (r : Buffer) (e₁ : List ℕ) → depth_holds t q z ws vs m p.depth (assigned vs e) ≡ true → (p.left ≡ 0 → ⊥) → e₁ ≡ e → r ≡ added_all s (rows_below p t q z ws vs m (assigned vs e₁)) → r ≡ added_all s (rows_from p t q z ws vs m (assigned vs e))
  unfolding rows_from rows_below staged_from ranges_at
  run-rows r e₁ h hl ee er = er ∙ ap (λ (x : List ℕ). added_all s (rows_below p t q z ws vs m (assigned vs x))) ee ∙ ap (λ (l : List Assignment). added_all s (rows_of p q z ws vs m l)) (go p.left hl)
    where
      go : (k : ℕ) → (k ≡ 0 → ⊥)
          → concat_map (λ x. staged_from (depth_holds t q z ws vs m) (suc p.depth) (ranges_at (k - 1) (drop (3 * suc p.depth) q)) (rows_by ws vs) (update (assigned vs e) (range_variable q p.depth) x)) (walked ws vs (range_variable q p.depth))
          ≡ staged_from (depth_holds t q z ws vs m) p.depth (ranges_at k (drop (3 * p.depth) q)) (rows_by ws vs) (assigned vs e)
      go zero i = absurd (i refl)
      go (suc k) i =
          let v : get_or (drop (3 * p.depth) q) 1 0 ≡ range_variable q p.depth = get_or-drop (3 * p.depth) q 1 0 in
          sym (rw (h, v, next-ranges p.depth q, sub-one))

-- the rows of the first i rows of a range variable, which stand at the places P 0, P 1 and so on
abbrev pub passed : Plan → List ℕ → List ℕ → List ℕ → List ℕ → List ℤ → List ℤ → List ℕ → ℕ → (ℕ → ℕ) → ℕ → List (List ℤ)
passed p t q z ws vs m e v P i = rows_of p q z ws vs m (concat_map (λ x. staged_from (depth_holds t q z ws vs m) p.depth (ranges_at p.left (drop (3 * p.depth) q)) (rows_by ws vs) (update (assigned vs e) v x)) (map (tuple_at vs) (places P 0 i)))

module _ (p : Plan) (t q z ws : List ℕ) (vs m : List ℤ) (e : List ℕ) (v : ℕ) (P : ℕ → ℕ) (u : Buffer) where
  pub each_start : u ≡ added_all u (passed p t q z ws vs m e v P 0)
  unfolding concat_map places added_all present
  each_start = refl

  abbrev below : Tuple → List Assignment
  below x = staged_from (depth_holds t q z ws vs m) p.depth (ranges_at p.left (drop (3 * p.depth) q)) (rows_by ws vs) (update (assigned vs e) v x)

  one-row : (i : ℕ) → passed p t q z ws vs m e v P (i + 1) ≡ passed p t q z ws vs m e v P i ++ rows_of p q z ws vs m (below (tuple_at vs (P i)))
  one-row i = ap (rows_of p q z ws vs m) (concat-to P below vs i) ∙ rows_append p q z ws vs m (concat_map below (map (tuple_at vs) (places P 0 i))) (below (tuple_at vs (P i)))

  -- row i
  pub each-row : (i row : ℕ) (c r : Buffer) (y : List ℕ) → c ≡ added_all u (passed p t q z ws vs m e v P i) → row ≡ P i → v < length e → y ≡ set e v row
      → r ≡ added_all c (rows_from p t q z ws vs m (assigned vs y))
      → r ≡ added_all u (passed p t q z ws vs m e v P (i + 1))
  unfolding rows_from
  each-row i row c r y ec ei hv ey er =
      let n = ap (λ (l : List ℕ). assigned vs l) ey ∙ assigned-set vs e v row hv ∙ ap (λ (k : ℕ). update (assigned vs e) v (tuple_at vs k)) ei in
      er
      ∙ ap₂ (λ (c : Buffer) (a : Assignment). added_all c (rows_from p t q z ws vs m a)) ec n
      ∙ sym (added-append u (passed p t q z ws vs m e v P i) (rows_of p q z ws vs m (below (tuple_at vs (P i)))))
      ∙ ap (added_all u) (sym (one-row i))

  -- a row once the answer is full
  pub each-full : (i : ℕ) (c : Buffer) → c ≡ added_all u (passed p t q z ws vs m e v P i) → c.full ≡ true → c ≡ added_all u (passed p t q z ws vs m e v P (i + 1))
  each-full i c ec h =
      sym (full-stays c (rows_of p q z ws vs m (below (tuple_at vs (P i)))) h)
      ∙ ap (λ (b : Buffer). added_all b (rows_of p q z ws vs m (below (tuple_at vs (P i))))) ec
      ∙ sym (added-append u (passed p t q z ws vs m e v P i) (rows_of p q z ws vs m (below (tuple_at vs (P i)))))
      ∙ ap (added_all u) (sym (one-row i))

  -- a row that fails a conjunct gives nothing
  none_here : (i : ℕ) → stage_holds t q z ws vs m (2 * p.depth) (update (assigned vs e) v (tuple_at vs (P i))) ≡ false → passed p t q z ws vs m e v P (i + 1) ≡ passed p t q z ws vs m e v P i
  unfolding depth_holds present
  none_here i h =
      one-row i
      ∙ ap (λ (l : List Assignment). passed p t q z ws vs m e v P i ++ rows_of p q z ws vs m l) (staged-no (depth_holds t q z ws vs m) p.depth (ranges_at p.left (drop (3 * p.depth) q)) (rows_by ws vs) (update (assigned vs e) v (tuple_at vs (P i))) (rw h))
      ∙ append-nil (passed p t q z ws vs m e v P i)

  -- the rows that were passed over
  pub each-skip : (i s : ℕ) (c : Buffer) → i ≤ s → ((j : ℕ) → i ≤ j → j < s → stage_holds t q z ws vs m (2 * p.depth) (update (assigned vs e) v (tuple_at vs (P j))) ≡ false)
      → c ≡ added_all u (passed p t q z ws vs m e v P i) → c ≡ added_all u (passed p t q z ws vs m e v P s)
  each-skip i s c hs h ec = ec ∙ sym (passed_over (λ (k : ℕ). added_all u (passed p t q z ws vs m e v P k)) i s hs λ j a b. ap (added_all u) (none_here j (h j a b)))

-- the inner plan is the outer one with one range more bound
abbrev pub inner : Plan → Plan
inner p = record { targets = p.targets; columns = p.columns; level = p.level; listed = p.listed; left = p.left - 1; depth = p.depth + 1; front = p.front; rows = p.rows; full = p.full }

-- a plan with another state of the answer
abbrev pub held : Plan → ℕ → Bool → Plan
held p n b = record { targets = p.targets; columns = p.columns; level = p.level; listed = p.listed; left = p.left; depth = p.depth; front = p.front; rows = n; full = b }

pub each_all : (o p : Plan) (t q z ws : List ℕ) (vs m : List ℤ) (e : List ℕ) (v : ℕ) (x : Walk) (s : Buffer) (i : ℕ) (c : Buffer)
    → p ≡ held (inner o) p.rows p.full → v ≡ range_variable q o.depth → x ≡ walk_of ws v → i ≡ x.count → c ≡ added_all s (passed p t q z ws vs m e v (place_at ws x) i)
    → c ≡ added_all s (rows_below o t q z ws vs m (assigned vs e))
unfolding rows_below walked
each_all o p t q z ws vs m e v x s i c ep ev ex ei ec =
    ec ∙ ap (λ (u : Plan). added_all s (passed u t q z ws vs m e v (place_at ws x) i)) ep ∙ rw ei (rw (ex, ev, add-one))

-- what holds of the inner plan, whatever the state of the answer
module _ (o p : Plan) (n : ℕ) (ep : p ≡ held (inner o) p.rows p.full) where
  pub bounds-held : Bounds o n → 1 ≤ o.left → Bounds p n
  bounds-held b h = subst (λ (k : Plan). Bounds k n) (sym ep) (record { columns = b.columns; ranges = omega (arith, b.ranges); branches = b.branches; room = b.room })

  pub listed-held : (w q z : List ℕ) (m : List ℤ) → Listed (list_in o w) o q z m → Listed (list_in p w) p q z m
  listed-held w q z m l = subst (λ (k : Plan). Listed (list_in k w) k q z m) (sym ep) l
