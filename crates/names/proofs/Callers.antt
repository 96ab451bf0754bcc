-- What callers take from the contracts.
use mathlib.Core.Path.{◌≡◌, refl, sym, ap₂, ◌∙◌}
use mathlib.Core.Bool.{true, false, not}
use mathlib.Core.List.{List, [], ◌∷◌}
use Prim.Native.Nat.{ℕ, zero, suc}
use Rattle.model.proofs.Tests.{clash}
use Rattle.quel.specs.Results.{Read, fail, ok}
use Rattle.quel.specs.Names.{Entry, entry, entries_from, listed_once, names}
use Rattle.quel.proofs.Results.{never, ok-left, then-inv, need-inv}
use Rattle.names.specs.Entries.{entries}
use Rattle.names.specs.Answers.{failed}
use Rattle.names.proofs.Reading.{passes, entries-are}

nothing_left : (n : ℕ) (x : List ℕ) (es : List Entry) (s : List ℕ) → entries_from n x ≡ ok es s → s ≡ []
unfolding entries_from
nothing_left zero x es s h = never es s h
nothing_left (suc n) [] es s h = sym (ok-left h)
nothing_left (suc n) (k ∷ r) es s h =
    then-inv es s (entry k r) _ h λ e r' i h.
    then-inv es s (entries_from n r') _ h λ es' s' l h.
    sym (ok-left h) ∙ nothing_left n r' es' s' l

-- a good list reads as its entries
pub good-list : (x : List ℕ) → true ≡ passes x → names x ≡ ok (entries x) []
unfolding names
good-list x h = go (names x) refl h
  where
    go : (g : Read (List ℕ) (List Entry)) → names x ≡ g → true ≡ not (failed g) → names x ≡ ok (entries x) []
    go fail e h = clash (sym h)
    go (ok es s) e h =
        e
        ∙ ap₂ (λ (zs : List Entry) (l : List ℕ). ok zs l) (sym (entries-are x es s e))
        (then-inv es s (entries_from _ x) _ e λ es' s' i j. need-inv es s (listed_once es') _ j λ o j. sym (ok-left j) ∙ nothing_left _ x es' s' i)

pub bad-list : (x : List ℕ) → false ≡ passes x → names x ≡ fail
bad-list x h = go (names x) h
  where
    go : (g : Read (List ℕ) (List Entry)) → false ≡ not (failed g) → g ≡ fail
    go fail h = refl
    go (ok es s) h = clash h
