-- What the table of names says, when a symbol is bound and when frames are opened.
use Prim.Native.Nat.{ℕ, ◌+◌, ◌≤◌, ◌<◌}
use mathlib.Core.Bool.{Bool, true, false, cond, ◌&&◌}
use mathlib.Core.List.{List, [], ◌∷◌, ◌++◌, map}
use mathlib.Core.Option.{Option, none, some}
use mathlib.Core.Path.{◌≡◌, refl, sym, ap, ◌∙◌}
use native.Mathlib.Omega.{arith}
use lib.Dec.{eqb, leb}
use lib.ListN.{length, get_or, set}
use lib.Seq.{get_or-set_same, get_or-set_other}
use borrow.Author.Tests.{eqb-true, eqb-false, lt-leb, le-leb}
use Rattle.model.proofs.Tests.{clash}
use Rattle.quel.specs.Results.{Word, same_word}
use Rattle.quel.specs.Elaboration.{Symbol, symbol_in, head_only}
use Rattle.elaborate.specs.declared.reach.Known.{Known}
use Rattle.std.specs.Prelude.{Some, None}
use Rattle.std.specs.Prelude as P
use Rattle.elaborate.specs.Reach.{mode_in, relation_in, variable_in, place_in, known_by, known_of, hide, standing}
use Rattle.elaborate.specs.Tables.{Same, Clear, Holds}

-- past an aggregate's head
known-hidden : (x : Word) (ρ : List Symbol) → known_of (symbol_in x (map head_only ρ)) ≡ hide true (known_of (symbol_in x ρ))
unfolding symbol_in
known-hidden x [] = refl
known-hidden x (s ∷ ρ) = go (known-hidden x ρ) (same_word s.word x)
  where
    go : known_of (symbol_in x (map head_only ρ)) ≡ hide true (known_of (symbol_in x ρ)) → (b : Bool)
        → known_of (elim b [ true ↦ some (head_only s) | false ↦ symbol_in x (map head_only ρ) ]) ≡ hide true (known_of (elim b [ true ↦ some s | false ↦ symbol_in x ρ ]))
    go e true = refl
    go e false = e

hide-standing : (a b c : ℕ) → place_in c < b → hide true (standing a c) ≡ standing b c
hide-standing a b c h = rw (lt-leb b (place_in c) h) (go (eqb (mode_in c) 0) (eqb (mode_in c) 1) (leb a (place_in c)))
  where
    go : (x y z : Bool) → hide true (cond x None (Some (record { relation = relation_in c; variable = cond (y && z) (Some (variable_in c)) None })))
        ≡ cond x None (Some (record { relation = relation_in c; variable = cond (y && false) (Some (variable_in c)) None }))
    go true y z = refl
    go false true z = refl
    go false false z = refl

symbol-first : (x : Word) (s : Symbol) (ρ : List Symbol) → symbol_in x (s ∷ ρ) ≡ cond (same_word s.word x) (some s) (symbol_in x ρ)
unfolding symbol_in
symbol-first x s ρ = go (same_word s.word x)
  where
    go : (b : Bool) → elim b as (λ _. Option Symbol) [ true ↦ some s | false ↦ symbol_in x ρ ] ≡ cond b (some s) (symbol_in x ρ)
    go true = refl
    go false = refl

-- a table of nothing
pub holds-none : (w : ℕ → Word) (ids known : List ℕ) (d : ℕ) → Clear known → Holds w ids known d 0 []
unfolding symbol_in
holds-none w ids known d z = record { says = λ x. sym (rw (z (get_or ids x 0)).0); low = λ x. omega (arith, (z x).1); crossed = omega arith }

pub clear_zero : (known : List ℕ) → ((x : ℕ) → get_or known x 0 ≡ 0) → Clear known
clear_zero known z x = (ap mode_in (z x), ap place_in (z x))

module _ (w : ℕ → Word) (ids known : List ℕ) (d crossing : ℕ) (ρ : List Symbol) (h : Holds w ids known d crossing ρ) where
  -- (
  pub holds-open : Holds w ids known (d + 1) crossing ρ
  holds-open = record { says = h.says; low = λ x. omega (arith, h.low x); crossed = omega (arith, h.crossed) }

  -- a symbol in front of the others, which are seen as by `far`
  module _ (f : Same w ids) (x e r v : ℕ) (room : get_or ids x 0 < length known) (em : mode_in e ≡ 1) (er : relation_in e ≡ r) (ev : variable_in e ≡ v) (ep : place_in e ≡ d + 1) where
    abbrev new : List ℕ
    new = set known (get_or ids x 0) e

    abbrev bound : Symbol
    bound = record { word = w x; relation = r; variable = some v }

    new-low : (y : ℕ) → place_in (get_or new y 0) ≤ d + 1
    new-low y = go (eqb y (get_or ids x 0)) refl
      where
        go : (b : Bool) → eqb y (get_or ids x 0) ≡ b → place_in (get_or new y 0) ≤ d + 1
        go true q = omega (arith, ep, ap (λ (j : ℕ). place_in (get_or new j 0)) (eqb-true y (get_or ids x 0) q), ap place_in (get_or-set_same known (get_or ids x 0) e 0 room))
        go false q = omega (arith, h.low y, ap place_in (get_or-set_other known (get_or ids x 0) y e 0 (eqb-false y (get_or ids x 0) q)))

    own : (k : ℕ) → k ≤ d + 1 → known_by r (some v) ≡ standing k e
    own k l = sym (rw (em, er, ev, le-leb k (place_in e) (omega (arith, ep, l))))

    in-front : (k : ℕ) → k ≤ d + 1 → (τ : List Symbol) → ((y : ℕ) → known_of (symbol_in (w y) τ) ≡ standing k (get_or known (get_or ids y 0) 0))
        → (y : ℕ) → known_of (symbol_in (w y) (bound ∷ τ)) ≡ standing k (get_or new (get_or ids y 0) 0)
    in-front k l τ g y = ap known_of (symbol-first (w y) bound τ ∙ ap (λ (b : Bool). cond b (some bound) (symbol_in (w y) τ)) (f x y)) ∙ go (eqb (get_or ids x 0) (get_or ids y 0)) refl
      where
        go : (b : Bool) → eqb (get_or ids x 0) (get_or ids y 0) ≡ b → known_of (cond b (some bound) (symbol_in (w y) τ)) ≡ standing k (get_or new (get_or ids y 0) 0)
        go true q = own k l ∙ ap (standing k) (sym (ap (λ (j : ℕ). get_or new j 0) (sym (eqb-true (get_or ids x 0) (get_or ids y 0) q)) ∙ get_or-set_same known (get_or ids x 0) e 0 room))
        go false q = g y ∙ ap (standing k) (sym (get_or-set_other known (get_or ids x 0) (get_or ids y 0) e 0 (λ z. eqb-false (get_or ids x 0) (get_or ids y 0) q (sym z))))

    -- SOME
    pub holds-some : Holds w ids new (d + 1) crossing (bound ∷ ρ)
    holds-some = record { says = in-front crossing (omega (arith, h.crossed)) ρ h.says; low = new-low; crossed = omega (arith, h.crossed) }

    -- an aggregate
    pub holds-head : Holds w ids new (d + 1) (d + 1) (bound ∷ map head_only ρ)
    holds-head = record {
      says = in-front (d + 1) (omega arith) (map head_only ρ) (λ y. known-hidden (w y) ρ ∙ ap (hide true) (h.says y) ∙ hide-standing crossing (d + 1) (get_or known (get_or ids y 0) 0) (omega (arith, h.low (get_or ids y 0))));
      low = new-low;
      crossed = omega arith;
    }

-- a symbol after those at hand
abbrev or_then : Option Symbol → Option Symbol → Option Symbol
or_then none o = o
or_then (some s) o = some s

symbol-more : (x : Word) (ρ : List Symbol) (s : Symbol) → symbol_in x (ρ ++ (s ∷ [])) ≡ or_then (symbol_in x ρ) (cond (same_word s.word x) (some s) none)
unfolding symbol_in
symbol-more x [] s = symbol-first x s []
symbol-more x (r ∷ ρ) s = go (same_word r.word x) (symbol-more x ρ s)
  where
    go : (b : Bool) → symbol_in x (ρ ++ (s ∷ [])) ≡ or_then (symbol_in x ρ) (cond (same_word s.word x) (some s) none)
        → elim b as (λ _. Option Symbol) [ true ↦ some r | false ↦ symbol_in x (ρ ++ (s ∷ [])) ] ≡ or_then (elim b as (λ _. Option Symbol) [ true ↦ some r | false ↦ symbol_in x ρ ]) (cond (same_word s.word x) (some s) none)
    go true h = refl
    go false h = h

abbrev is_nothing : P.Option Known → Bool
is_nothing None = true
is_nothing (Some k) = false

standing-none : (c : ℕ) → is_nothing (standing 0 c) ≡ eqb (mode_in c) 0
standing-none c = go (eqb (mode_in c) 0)
  where
    go : (a : Bool) → is_nothing (cond a None (Some (record { relation = relation_in c; variable = cond (eqb (mode_in c) 1 && leb 0 (place_in c)) (Some (variable_in c)) None }))) ≡ a
    go true = refl
    go false = refl

-- a symbol more of the RANGE list, if its name is free
module _ (w : ℕ → Word) (ids known : List ℕ) (ρ : List Symbol) (h : Holds w ids known 0 0 ρ) (f : Same w ids) (i e : ℕ) (s : Symbol) (room : get_or ids i 0 < length known)
    (es : s.word ≡ w i) (ee : known_of (some s) ≡ standing 0 e) (ep : place_in e ≡ 0) where
  abbrev after : List ℕ
  after = cond (eqb (mode_in (get_or known (get_or ids i 0) 0)) 0) (set known (get_or ids i 0) e) known

  at_own : (b : Bool) → get_or (cond b (set known (get_or ids i 0) e) known) (get_or ids i 0) 0 ≡ cond b e (get_or known (get_or ids i 0) 0)
  at_own true = get_or-set_same known (get_or ids i 0) e 0 room
  at_own false = refl

  at_other : (y : ℕ) (b : Bool) → (y ≡ get_or ids i 0 → ⊥) → get_or (cond b (set known (get_or ids i 0) e) known) y 0 ≡ get_or known y 0
  at_other y true n = get_or-set_other known (get_or ids i 0) y e 0 n
  at_other y false n = refl

  own-says : (o : Option Symbol) → known_of o ≡ standing 0 (get_or known (get_or ids i 0) 0) → (b : Bool) → eqb (mode_in (get_or known (get_or ids i 0) 0)) 0 ≡ b
      → known_of (or_then o (some s)) ≡ standing 0 (cond b e (get_or known (get_or ids i 0) 0))
  own-says none g true q = ee
  own-says none g false q = clash (sym (ap is_nothing g ∙ standing-none (get_or known (get_or ids i 0) 0) ∙ q))
  own-says (some t) g true q = clash (ap is_nothing g ∙ standing-none (get_or known (get_or ids i 0) 0) ∙ q)
  own-says (some t) g false q = g

  none_more : (o : Option Symbol) → or_then o none ≡ o
  none_more none = refl
  none_more (some t) = refl

  pub holds_more : Holds w ids after 0 0 (ρ ++ (s ∷ []))
  holds_more = record { says = λ x. more x (eqb (get_or ids i 0) (get_or ids x 0)) refl; low = λ y. lower y (eqb y (get_or ids i 0)) refl; crossed = omega arith }
    where
      more : (x : ℕ) (b : Bool) → eqb (get_or ids i 0) (get_or ids x 0) ≡ b → known_of (symbol_in (w x) (ρ ++ (s ∷ []))) ≡ standing 0 (get_or after (get_or ids x 0) 0)
      more x true q =
          let p = eqb-true (get_or ids i 0) (get_or ids x 0) q in
          ap known_of (symbol-more (w x) ρ s ∙ ap (λ (b : Bool). or_then (symbol_in (w x) ρ) (cond b (some s) none)) (ap (λ (z : Word). same_word z (w x)) es ∙ f i x ∙ q))
          ∙ own-says (symbol_in (w x) ρ) (h.says x ∙ ap (λ (j : ℕ). standing 0 (get_or known j 0)) (sym p)) (eqb (mode_in (get_or known (get_or ids i 0) 0)) 0) refl
          ∙ ap (standing 0) (sym (at_own (eqb (mode_in (get_or known (get_or ids i 0) 0)) 0))) ∙ ap (λ (j : ℕ). standing 0 (get_or after j 0)) p
      more x false q =
          ap known_of (symbol-more (w x) ρ s ∙ ap (λ (b : Bool). or_then (symbol_in (w x) ρ) (cond b (some s) none)) (ap (λ (z : Word). same_word z (w x)) es ∙ f i x ∙ q) ∙ none_more (symbol_in (w x) ρ))
          ∙ h.says x ∙ ap (standing 0) (sym (at_other (get_or ids x 0) (eqb (mode_in (get_or known (get_or ids i 0) 0)) 0) (λ z. eqb-false (get_or ids i 0) (get_or ids x 0) q (sym z))))

      low-own : (b : Bool) → place_in (cond b e (get_or known (get_or ids i 0) 0)) ≤ 0
      low-own true = omega (arith, ep)
      low-own false = h.low (get_or ids i 0)

      lower : (y : ℕ) (b : Bool) → eqb y (get_or ids i 0) ≡ b → place_in (get_or after y 0) ≤ 0
      lower y true q = omega (arith, low-own (eqb (mode_in (get_or known (get_or ids i 0) 0)) 0), ap (λ (j : ℕ). place_in (get_or after j 0)) (eqb-true y (get_or ids i 0) q), ap place_in (at_own (eqb (mode_in (get_or known (get_or ids i 0) 0)) 0)))
      lower y false q = omega (arith, h.low y, ap place_in (at_other y (eqb (mode_in (get_or known (get_or ids i 0) 0)) 0) (eqb-false y (get_or ids i 0) q)))
