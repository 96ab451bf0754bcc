-- After check 33 no variable is barred, and a guard is never empty (document 02, change 6).
use mathlib.Core.Bool.{Bool, true, false, not, ◌&&◌, ◌||◌}
use mathlib.Core.List.{List, [], ◌∷◌, map}
use mathlib.Core.Path.{◌≡◌, refl}
use Rattle.model.specs.Lists.{filter, any, cons_if}
use Rattle.model.specs.Syntax.{Binding, Query, Permit}
use Rattle.model.specs.Catalogue.{Shape, stored_at}
use Rattle.model.specs.Permits.{used_of, applies, bars, Guard, free, only, guard_of, guards_of}
use Rattle.model.specs.Checks.{served}
use Rattle.model.proofs.Tests.{clash, and-inv}

-- no guard, or one of at least one condition
unfoldable pub Filled : Guard → Type 0
Filled free = Unit
Filled (only []) = ⊥
Filled (only (c ∷ cs)) = Unit

some_left : (t : Permit → Bool) (ps : List Permit) → any t ps ≡ true → Filled (only (map (λ (p : Permit). p.condition) (filter t ps)))
unfolding any filter Filled
some_left t [] h = clash h
some_left t (p ∷ ps) h = go (t p) h (some_left t ps)
  where
    go : (b : Bool) → (b || any t ps) ≡ true → (any t ps ≡ true → Filled (only (map (λ (p : Permit). p.condition) (filter t ps)))) → Filled (only (map (λ (p : Permit). p.condition) (cons_if b p (filter t ps))))
    go true k i = tt
    go false k i = i k

module _ (sh : Shape) (ps : List Permit) (q : Query) (b : Binding) (h : served sh ps q b ≡ true) where
  -- over a stored relation: not barred, and some permit applies
  pub served-stored : stored_at sh b.relation ≡ true → (not (any (bars (used_of q b.variable) b.relation) ps) ≡ true) × (any (applies (used_of q b.variable) b.relation) ps ≡ true)
  unfolding served
  served-stored e = and-inv _ _ (go (stored_at sh b.relation) e h)
    where
      go : (d : Bool) → d ≡ true → (not d || (not (any (bars (used_of q b.variable) b.relation) ps) && any (applies (used_of q b.variable) b.relation) ps)) ≡ true
          → (not (any (bars (used_of q b.variable) b.relation) ps) && any (applies (used_of q b.variable) b.relation) ps) ≡ true
      go true e k = k
      go false e k = clash e

  pub filled-guard : Filled (guards_of sh ps q b.variable b.relation)
  unfolding guards_of guard_of Filled
  filled-guard = go (stored_at sh b.relation) refl
    where
      go : (d : Bool) → stored_at sh b.relation ≡ d → Filled (guard_of d (map (λ (p : Permit). p.condition) (filter (applies (used_of q b.variable) b.relation) ps)))
      go true e = some_left (applies (used_of q b.variable) b.relation) ps (served-stored e).1
      go false e = tt
