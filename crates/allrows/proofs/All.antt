-- Walks of all rows are the relations' rows, and an answer depends on the rows of the bound variables alone.
use mathlib.Core.Path.{◌≡◌, refl, sym, ap, ap₂, ◌∙◌, fun_ext}
use mathlib.Core.Bool.{Bool, true, false, cond}
use mathlib.Core.List.{List, [], ◌∷◌, ◌++◌, map}
use mathlib.Core.Option.{Option}
use Prim.Native.Nat.{ℕ, zero, suc, ◌+◌, ◌-◌, ◌*◌, ◌<◌}
use native.Mathlib.Omega.{arith}
use lib.IntN.{ℤ}
use lib.ListN.{length}
use Rattle.model.specs.Lists.{filter, unique, concat_map, backwards, Every, present}
use Rattle.model.specs.Syntax.{Binding, Query, variables, bindings, bindings_t, bindings_q}
use Rattle.model.specs.Meaning.{Assignment, Rows, holds, assignments, unbound, target_row, add_rows, qualifying, rows_met, answers}
use Rattle.model.specs.Catalogue.{walk}
use Rattle.model.proofs.Lists.{every_map, every_append, backwards-last, map-backwards}
use Rattle.model.proofs.NonInterference.{Agree, same-holds, same_row, same-assign}
use Rattle.catalogue.specs.Layout.{tuple_at, tuples_in, offsets, attributes_of, rows_of, latest_of, base_of}
use Rattle.walks.specs.declared.Walk.{Walk}
use Rattle.walks.specs.Walks.{walk_of, place_at, places, walked, rows_by}
use Rattle.allrows.specs.Filled.{whole_of, filled_by}
use Rattle.allrows.proofs.Table.{walks-of}

-- places w values apart
apart : (P : ℕ → ℕ) (b w : ℕ) → ((i : ℕ) → P i ≡ b + i * w) → (k n : ℕ) → places P k n ≡ offsets (b + k * w) w n
unfolding places offsets
apart P b w h k zero = refl
apart P b w h k (suc n) = let e : b + suc k * w ≡ b + k * w + w = omega arith in ap₂ ◌∷◌ (h k) (apart P b w h (suc k) n ∙ rw e)

offsets-last : (b w n : ℕ) → offsets b w (suc n) ≡ offsets b w n ++ ((b + n * w) ∷ [])
unfolding offsets
offsets-last b w zero = let e : b + 0 * w ≡ b = omega arith in rw e
offsets-last b w (suc n) = let e : b + w + n * w ≡ b + suc n * w = omega arith in ap (λ (l : List ℕ). b ∷ l) (offsets-last (b + w) w n ∙ rw e)

-- and the same from the last on
from_last : (P : ℕ → ℕ) (b w k n : ℕ) → ((i : ℕ) → P (k + i) ≡ b + (n - suc i) * w) → places P k n ≡ backwards (offsets b w n)
unfolding places offsets backwards
from_last P b w k zero h = refl
from_last P b w k (suc n) h =
    let z : k + 0 ≡ k = omega arith in
    let e : suc n - 1 ≡ n = omega arith in
    let p : P k ≡ b + n * w = rw (z, e) at (h 0) in
    let t : (i : ℕ) → P (suc k + i) ≡ b + (n - suc i) * w = λ i. (let s : suc k + i ≡ k + suc i = omega arith in let m : suc n - suc (suc i) ≡ n - suc i = omega arith in rw s (h (suc i) ∙ rw m)) in
    ap₂ ◌∷◌ p (from_last P b w (suc k) n t) ∙ sym (ap backwards (offsets-last b w n) ∙ backwards-last (offsets b w n) (b + n * w))

-- the rows of a variable whose walk is whole
pub walked_whole : (cb ws : List ℕ) (vs : List ℤ) (v r : ℕ) → walk_of ws v ≡ whole_of cb r → walked ws vs v ≡ tuples_in cb vs r
unfolding walked tuples_in place_at walk
walked_whole cb ws vs v r h = ap (λ (x : Walk). map (tuple_at vs) (places (place_at ws x) 0 x.count)) h ∙ go (latest_of cb r)
  where
    b : ℕ
    b = base_of cb r

    w : ℕ
    w = attributes_of cb r

    n : ℕ
    n = rows_of cb r

    go : (l : Bool) → map (tuple_at vs) (places (place_at ws (record { start = cond l 1 0; count = n; base = b; width = w })) 0 n) ≡ walk l (map (tuple_at vs) (offsets b w n))
    go true = ap (map (tuple_at vs)) (from_last _ b w 0 n (λ i. let z : 0 + i ≡ i = omega arith in rw z)) ∙ map-backwards (tuple_at vs) (offsets b w n)
    go false = let z : b + 0 * w ≡ b = omega arith in ap (map (tuple_at vs)) (apart _ b w (λ i. refl) 0 n ∙ ap (λ p. offsets p w n) z)

-- an answer depends on the rows of the bound variables alone
pub answers_agree : (R R' : Rows) (u : Query) → Every (Agree R R') (bindings_q u) → answers u R ≡ answers u R'
unfolding answers rows_met qualifying bindings_q
answers_agree R R' u h =
    let i = every_append (Agree R R') u.ranges (concat_map bindings_t u.targets ++ bindings u.condition) h in
    let j = every_append (Agree R R') (concat_map bindings_t u.targets) (bindings u.condition) i.1 in
    ap (λ (rows : List (Option (List ℤ))). add_rows [] (present rows)) (
    ap₂ (λ (f : Assignment → Option (List ℤ)) (p : Assignment → Bool). map f (filter p (assignments u.ranges R unbound))) (fun_ext λ e. same_row R R' u.targets e j.0) (fun_ext λ e. same-holds R R' u.condition e j.1)
    ∙ ap (λ (l : List Assignment). map (target_row u.targets R') (filter (holds u.condition R') l)) (same-assign R R' u.ranges unbound i.0))

-- bindings whose walks were filled
pub filled-agree : (cb ws : List ℕ) (vs : List ℤ) (bs : List Binding) → unique (variables bs) ≡ true → Every (λ (b : Binding). 8 * b.variable + 4 < length ws) bs
    → Every (λ (b : Binding). rows_by (filled_by cb bs ws) vs b.variable b.relation ≡ tuples_in cb vs b.relation) bs
filled-agree cb ws vs bs u f = every_map _ _ (λ b h. walked_whole cb (filled_by cb bs ws) vs b.variable b.relation h) bs (walks-of cb ws bs u f)
