-- For a catalogue, a list and a query that are well formed, what the code finds by their bytes is what the model says.
use Prim.Native.Nat.{ℕ}
use mathlib.Core.Bool.{Bool, true, false, not, ◌&&◌, ◌||◌}
use mathlib.Core.List.{List, [], ◌∷◌}
use mathlib.Core.Path.{◌≡◌, refl, sym, ap, ap₂}
use lib.Dec.{eqb}
use lib.ListN.{get_or}
use Rattle.model.specs.Lists.{any, all, below}
use Rattle.model.specs.Syntax.{Condition, TRUE, FALSE, NOT, AND, OR, COMPARE, SOME, Binding, Permit, bindings}
use Rattle.model.specs.Encoding.{encode}
use Rattle.model.specs.Catalogue.{catalogue_of, shape_of, stored_at}
use Rattle.model.specs.Permits.{bit, mask, is_false, no_access, applies, bars}
use Rattle.model.specs.Checks.{fails10, mask_known, permit_stored}
use Rattle.catalogue.specs.Layout.{attributes_of, stored_of}
use Rattle.catalogue.proofs.Reading.{attributes-is, stored_is}
use Rattle.scans.specs.Flat.{stored_in}
use Rattle.permits.specs.Applying.{all_used, no_access_at, applies_to, bars_from}
use Rattle.permits.specs.Masks.{attributes_in, mask_in}
use Rattle.permits.proofs.Reading.{entry_of}

-- a permit applies, or bars
no-access-is : (p : Permit) → no_access_at (entry_of p) ≡ no_access p
unfolding no_access_at is_false encode
no-access-is p = go p.condition
  where
    go : (c : Condition) → eqb (get_or (encode c []) 0 0) 17 ≡ is_false c
    go TRUE = refl
    go FALSE = refl
    go (NOT c) = refl
    go (AND c d) = refl
    go (OR c d) = refl
    go (COMPARE o s t) = refl
    go (SOME v r c) = refl

pub applies-is : (s : ℕ → Bool) (r : ℕ) (p : Permit) → applies_to s r (entry_of p) ≡ applies s r p
unfolding applies_to applies all_used
applies-is s r p = ap (λ (b : Bool). not b && (eqb p.relation r && all (λ a. not (s a) || bit (mask p) a) (below 16))) (no-access-is p)

shares-is : (s : ℕ → Bool) (m : ℕ) (xs : List ℕ) → not (all (λ a. not (s a) || not (bit m a)) xs) ≡ any (λ a. s a && bit m a) xs
unfolding all any
shares-is s m [] = refl
shares-is s m (a ∷ xs) = go (s a) (bit m a) (shares-is s m xs)
  where
    go : (x y : Bool) → not (all (λ a. not (s a) || not (bit m a)) xs) ≡ any (λ a. s a && bit m a) xs
        → not ((not x || not y) && all (λ a. not (s a) || not (bit m a)) xs) ≡ (x && y) || any (λ a. s a && bit m a) xs
    go true true h = refl
    go true false h = h
    go false y h = h

pub bars-is : (s : ℕ → Bool) (r : ℕ) (p : Permit) → bars_from s r (entry_of p) ≡ bars s r p
unfolding bars_from bars all_used
bars-is s r p = ap₂ (λ (b d : Bool). b && (eqb p.relation r && d)) (no-access-is p) (shares-is s (mask p) (below 16))

all_same : {A : Type 0} (f g : A → Bool) → ((x : A) → f x ≡ g x) → (xs : List A) → all f xs ≡ all g xs
unfolding all
all_same f g h [] = refl
all_same f g h (x ∷ xs) = ap₂ (λ (a b : Bool). a && b) (h x) (all_same f g h xs)

module _ (cb : List ℕ) (hc : fails10 cb ≡ false) where
  -- 22
  pub mask_is : (p : Permit) → mask_in (attributes_of cb p.relation) (mask p) ≡ mask_known (shape_of (catalogue_of cb)) p
  unfolding mask_in attributes_in mask_known
  mask_is p = ap (λ (n : ℕ). mask_in n (mask p)) (sym (attributes-is cb hc p.relation))

  -- 23
  pub stored-permit : (g : Permit) → (stored_of cb g.relation && all (stored_in cb) (bindings g.condition)) ≡ permit_stored (shape_of (catalogue_of cb)) g
  unfolding permit_stored
  stored-permit g =
      ap₂ (λ (a b : Bool). a && b)
      (sym (stored_is cb hc g.relation))
      (all_same (stored_in cb) (λ (b : Binding). stored_at (shape_of (catalogue_of cb)) b.relation) (λ (b : Binding). sym (stored_is cb hc b.relation)) (bindings g.condition))
