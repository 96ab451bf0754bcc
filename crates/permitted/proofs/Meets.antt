-- A permit's condition judged by its bytes is judged as the model judges it.
use mathlib.Core.Path.{◌≡◌, sym, ap, ◌∙◌}
use mathlib.Core.Bool.{false, not}
use mathlib.Core.List.{List, [], ◌∷◌, append-nil}
use Prim.Native.Nat.{ℕ, ◌+◌, ◌*◌, ◌<◌}
use native.Mathlib.Omega.{arith}
use lib.IntN.{ℤ, pos}
use lib.ListN.{length, get_or, replicate, length-replicate}
use mathlib.Core.Option.{some}
use Rattle.model.specs.Lists.{update, contains, unique, Every}
use Rattle.model.specs.Syntax.{Condition, Binding, variables, bindings}
use Rattle.model.specs.Encoding.{encode, ok, read_condition}
use Rattle.model.specs.Meaning.{Tuple, Assignment, holds}
use Rattle.model.specs.Catalogue.{catalogue_of, shape_of, tuples_at, all_rows}
use Rattle.model.specs.Checks.{fails10}
use Rattle.model.specs.Permits.{meets}
use Rattle.model.specs.Scope.{nobody}
use Rattle.model.proofs.Tests.{and-inv}
use Rattle.model.proofs.Lists.{every_map, get_or-same}
use Rattle.model.proofs.Reading.{read-encode}
use Rattle.model.proofs.Sizes.{size-encode}
use Rattle.model.proofs.Renaming.{Sane}
use Rattle.model.proofs.Limits.{Fine}
use Rattle.model.proofs.Passed.{Below, scope-low, ranges-differ}
use Rattle.model.proofs.NonInterference.{Agree, same-holds}
use Rattle.catalogue.specs.Layout.{tuples_in}
use Rattle.catalogue.proofs.Reading.{tuples-are}
use Rattle.scans.specs.Flat.{flat_bindings}
use Rattle.scans.proofs.Whole.{bindings-condition}
use Rattle.sizes.specs.Decode.{decode}
use Rattle.sizes.specs.Measured.{condition_table}
use Rattle.sizes.proofs.Decoding.{decode_is, condition-sized}
use Rattle.walks.specs.Walks.{rows_by}
use Rattle.allrows.specs.Filled.{filled_by}
use Rattle.allrows.proofs.All.{filled-agree}
use Rattle.numbers.specs.Recalled.{holds_by}
use Rattle.evaluator.specs.Evaluation.{holds_on}
use Rattle.walks.specs.Assigned.{assigned}
use Rattle.numbers.specs.Memo.{knows}
use Rattle.aggregates.specs.Filled.{filled_c}
use Rattle.aggregates.proofs.Faithful.{Unknown, faithful-holds, filled-faithful}
use Rattle.walks.proofs.Assigned.{none-bound}
use Rattle.permitted.specs.Meets.{no_places, own_memo, meets_bytes}

-- a memo with nothing in it
empty-unknown : (m : List ℤ) → ((i : ℕ) → get_or m i (pos 0) ≡ pos 0) → (bs : List Binding) → Unknown m bs
unfolding Every knows
empty-unknown m h [] = tt
empty-unknown m h (b ∷ bs) = (rw (h (2 * b.variable), h (2 * b.variable + 1)), empty-unknown m h bs)

module _ (cb : List ℕ) (hc : fails10 cb ≡ false) (vs : List ℤ) (r : ℕ) (c : Condition) (fine : Fine c) (sane : Sane (shape_of (catalogue_of cb)) r c) where
  abbrev q : List ℕ
  q = encode c []

  abbrev z : List ℕ
  z = condition_table 16 q 0 (replicate 256 0)

  abbrev ws : List ℕ
  ws = filled_by cb (flat_bindings q) (replicate 32 0)

  decoded : decode 16 q z ≡ c
  decoded =
      let e : read_condition 16 q ≡ ok c [] = read-encode c 16 [] fine.read fine.deep in
      let n : length (replicate {A = ℕ} 256 0) ≡ 256 = length-replicate {A = ℕ} 256 0 in
      let l = size-encode c [] in
      decode_is 16 q c [] z e (condition-sized 16 q 0 (replicate 256 0) c [] e (omega (arith, l, n, fine.long)) (omega (arith, l, fine.long)))

  rows_agree : Every (Agree (rows_by ws vs) (all_rows (tuples_at (catalogue_of cb) vs))) (bindings c)
  unfolding unique
  rows_agree =
      let bs = bindings c in
      let u = (and-inv (not (contains 0 (variables bs))) (unique (variables bs)) sane.alone).1 in
      let n : length (replicate {A = ℕ} 32 0) ≡ 32 = length-replicate {A = ℕ} 32 0 in
      let low : Every (λ (b : Binding). 8 * b.variable + 4 < length (replicate {A = ℕ} 32 0)) bs = every_map (Below 4) (λ (b : Binding). 8 * b.variable + 4 < length (replicate {A = ℕ} 32 0)) (λ b h. omega (arith, h, n)) bs (scope-low (shape_of (catalogue_of cb)) 4 c (update nobody 0 (some r)) sane.scope) in
      every_map (λ (b : Binding). rows_by (filled_by cb bs (replicate 32 0)) vs b.variable b.relation ≡ tuples_in cb vs b.relation) (Agree (rows_by ws vs) (all_rows (tuples_at (catalogue_of cb) vs)))
      (λ b h. ap (λ (l : List Binding). rows_by (filled_by cb l (replicate 32 0)) vs b.variable b.relation) (bindings-condition c) ∙ h ∙ sym (tuples-are cb hc vs b.relation)) bs (filled-agree cb (replicate 32 0) vs bs u low)

  -- the memo is faithful
  memo-holds : (e : Assignment) → holds_by (own_memo cb vs q) c (rows_by ws vs) e ≡ holds c (rows_by ws vs) e
  unfolding unique
  memo-holds e =
      let R = rows_by ws vs in
      let bs = bindings c in
      let m₀ : List ℤ = replicate 8 (pos 0) in
      let u = (and-inv (not (contains 0 (variables bs))) (unique (variables bs)) sane.alone).1 in
      let d = ranges-differ bs [] (ap (λ (x : List Binding). unique (variables x)) (append-nil bs) ∙ u) in
      let m : own_memo cb vs q ≡ filled_c c R (assigned vs (no_places vs)) m₀ = ap (λ (x : Condition). filled_c x R (assigned vs (no_places vs)) m₀) decoded in
      ap (λ (x : List ℤ). holds_by x c R e) m
      ∙ faithful-holds (filled_c c R (assigned vs (no_places vs)) m₀) R c (filled-faithful (shape_of (catalogue_of cb)) 4 R (assigned vs (no_places vs)) c (update nobody 0 (some r)) m₀ sane.scope d (empty-unknown m₀ (get_or-same 8 (pos 0)) bs) (omega (arith, length-replicate 8 (pos 0)))) e

  pub meets-is : (x : Tuple) → meets_bytes cb vs q x ≡ meets (tuples_at (catalogue_of cb) vs) c x
  unfolding meets_bytes holds_on meets
  meets-is x =
      let e : Assignment = update (assigned vs (no_places vs)) 0 x in
      ap (λ (d : Condition). holds_by (own_memo cb vs q) d (rows_by ws vs) e) decoded
      ∙ memo-holds e
      ∙ same-holds (rows_by ws vs) (all_rows (tuples_at (catalogue_of cb) vs)) c e rows_agree
      ∙ ap (λ (a : Assignment). holds c (all_rows (tuples_at (catalogue_of cb) vs)) (update a 0 x)) (none-bound vs).none
