-- What the rewriter is lent: where each permit's condition stands, and for each variable a mask of its applying permits.
use Rattle.std.specs.Prelude.{ℕ, zero, suc, ◌+◌, ◌*◌, ◌-◌, Bool, cond, List, [], ◌∷◌, ltb, length, drop, set, take}
use Rattle.model.specs.Lists.{any}
use Rattle.model.specs.Syntax.{Binding}
use Rattle.catalogue.specs.Layout.{stored_of}
use Rattle.permits.specs.Entries.{Entry, size_of, entries}
use Rattle.permits.specs.Applying.{applies_to, bars_from, used_bytes}
use Rattle.copier.specs.Guard.{bits_of}
use Rattle.guards.specs.declared.Verdict.{Verdict}

-- the permits from `at` on, at most so many, permit k first: place and length of the condition at 2 k and 2 k + 1
unfoldable pub placed_from : ℕ → List ℕ → ℕ → ℕ → List ℕ → List ℕ
placed_from zero list at k places = places
placed_from (suc n) list at k places =
    cond (ltb at (length list))
    (placed_from n list (at + size_of (drop at list)) (k + 1) (set (set places (2 * k) (at + 4)) (2 * k + 1) (size_of (drop at list) - 4)))
    places

-- which permits apply to a variable over relation r of which s is used, and whether one bars it
unfoldable pub verdict_of : (ℕ → Bool) → ℕ → List Entry → Verdict
verdict_of s r es = record { mask = bits_of (applies_to s r) es; barred = any (bars_from s r) es }

-- no bit where the variable is barred
abbrev pub mask_unless_barred : Verdict → ℕ
mask_unless_barred x = cond x.barred 0 x.mask

-- bit k is set where permit k applies; 0 over a workspace, and where the variable is barred
unfoldable pub mask_for : List ℕ → List ℕ → List ℕ → Binding → ℕ
mask_for qb pb cb b = cond (stored_of cb b.relation) (mask_unless_barred (verdict_of (used_bytes qb b.variable) b.relation (take 8 (entries pb)))) 0

-- the masks of bound variables, one after the other
unfoldable pub masked : List ℕ → List ℕ → List ℕ → List Binding → List ℕ → List ℕ
masked qb pb cb [] masks = masks
masked qb pb cb (b ∷ bs) masks = masked qb pb cb bs (set masks b.variable (mask_for qb pb cb b))

abbrev pub bit_of : Bool → ℕ
bit_of b = cond b 1 0
