-- The two parts of the table of applying permits: the places in front, the masks behind them.
use Prim.Native.Nat.{ℕ, zero, suc, ◌+◌, ◌*◌, ◌-◌, ◌^◌, ◌≤◌, ◌<◌}
use mathlib.Core.Path.{◌≡◌, refl, ap, ap₂, ◌∙◌}
use mathlib.Core.Bool.{Bool, true, false, cond}
use mathlib.Core.List.{List, [], ◌∷◌}
use native.Mathlib.Nat.{pow-suc}
use native.Mathlib.Omega.{arith}
use lib.Dec.{ltb}
use lib.ListN.{length, get_or, set, take, drop}
use lib.Seq.{take-set-lt, take-set-le, drop-set-lt, drop-set-add}
use Rattle.model.specs.Lists.{any}
use Rattle.model.specs.Syntax.{Binding}
use Rattle.catalogue.specs.Layout.{stored_of}
use Rattle.permits.specs.Entries.{size_of, entries}
use Rattle.permits.specs.Applying.{applies_to, bars_from, used_bytes}
use Rattle.copier.specs.Guard.{bits_of}
use Rattle.rewriter.specs.Rewritten.{places_in, masks_in}
use Rattle.guards.specs.Filled.{placed_from, verdict_of, mask_for, masked}
use Rattle.guards.proofs.Steps.{pow_pos}
use Rattle.guards.proofs.Counts.{set_below}

-- places are put in front
placed : (list : List ℕ) (n at k : ℕ) (t : List ℕ) → k + n ≤ 8 → (places_in (placed_from n list at k t) ≡ placed_from n list at k (places_in t)) × (masks_in (placed_from n list at k t) ≡ masks_in t)
unfolding placed_from
placed list zero at k t h = (refl, refl)
placed list (suc n) at k t h = go (ltb at (length list)) (placed list n (at + s) (k + 1) (next t) (omega arith))
  where
    s : ℕ
    s = size_of (drop at list)

    next : List ℕ → List ℕ
    next l = set (set l (2 * k) (at + 4)) (2 * k + 1) (s - 4)

    front : places_in (next t) ≡ next (places_in t)
    front = take-set-lt 16 (set t (2 * k) (at + 4)) (2 * k + 1) (s - 4) (omega arith) ∙ ap (λ (l : List ℕ). set l (2 * k + 1) (s - 4)) (take-set-lt 16 t (2 * k) (at + 4) (omega arith))

    behind : masks_in (next t) ≡ masks_in t
    behind = drop-set-lt 16 (set t (2 * k) (at + 4)) (2 * k + 1) (s - 4) (omega arith) ∙ drop-set-lt 16 t (2 * k) (at + 4) (omega arith)

    go : (b : Bool) → (places_in (placed_from n list (at + s) (k + 1) (next t)) ≡ placed_from n list (at + s) (k + 1) (places_in (next t))) × (masks_in (placed_from n list (at + s) (k + 1) (next t)) ≡ masks_in (next t))
        → (places_in (cond b (placed_from n list (at + s) (k + 1) (next t)) t) ≡ cond b (placed_from n list (at + s) (k + 1) (next (places_in t))) (places_in t)) × (masks_in (cond b (placed_from n list (at + s) (k + 1) (next t)) t) ≡ masks_in t)
    go true i = (i.0 ∙ ap (placed_from n list (at + s) (k + 1)) front, i.1 ∙ behind)
    go false i = (refl, refl)

pub placed-parts : (list t y : List ℕ) → y ≡ placed_from 8 list 0 0 t → (places_in y ≡ placed_from 8 list 0 0 (places_in t)) × (masks_in y ≡ masks_in t)
placed-parts list t y e = let p = placed list 8 0 0 t (omega arith) in (ap places_in e ∙ p.0, ap masks_in e ∙ p.1)

-- a mask is put behind
pub mask-put : (t y : List ℕ) (v i m x : ℕ) → i ≡ v → x ≡ m → y ≡ set t (16 + i) x → (masks_in y ≡ set (masks_in t) v m) × (places_in y ≡ places_in t)
mask-put t y v i m x ei ex e = (ap masks_in e ∙ drop-set-add 16 t i x ∙ ap₂ (set (masks_in t)) ei ex, ap places_in e ∙ take-set-le 16 t (16 + i) x (omega arith))

-- masks are bytes
bits-few : {A : Type 0} (t : A → Bool) (n : ℕ) (xs : List A) → bits_of t (take n xs) < 2 ^ n
unfolding bits_of
bits-few t zero xs = pow_pos 0
bits-few t (suc n) [] = pow_pos (suc n)
bits-few t (suc n) (x ∷ xs) = go (t x) (bits-few t n xs)
  where
    go : (b : Bool) → bits_of t (take n xs) < 2 ^ n → cond b 1 0 + 2 * bits_of t (take n xs) < 2 ^ suc n
    go true h = omega (arith, h, pow-suc 2 n)
    go false h = omega (arith, h, pow-suc 2 n)

mask-byte : (qb pb cb : List ℕ) (b : Binding) → mask_for qb pb cb b < 256
unfolding mask_for verdict_of
mask-byte qb pb cb b =
    let s = used_bytes qb b.variable in
    let es = take 8 (entries pb) in
    go (stored_of cb b.relation) (any (bars_from s b.relation) es) (bits-few (applies_to s b.relation) 8 (entries pb))
  where
    go : (d x : Bool) {m : ℕ} → m < 256 → cond d (cond x 0 m) 0 < 256
    go true true h = omega arith
    go true false h = h
    go false x h = omega arith

pub masked-bytes : (qb pb cb : List ℕ) (bs : List Binding) (masks : List ℕ) → ((v : ℕ) → get_or masks v 0 < 256) → (v : ℕ) → get_or (masked qb pb cb bs masks) v 0 < 256
unfolding masked
masked-bytes qb pb cb [] masks h = h
masked-bytes qb pb cb (b ∷ bs) masks h = masked-bytes qb pb cb bs (set masks b.variable (mask_for qb pb cb b)) (λ v. set_below 256 masks b.variable (mask_for qb pb cb b) v (h v) (mask-byte qb pb cb b))
