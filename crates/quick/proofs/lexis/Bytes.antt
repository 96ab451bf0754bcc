-- Bytes of a given text by its copy, and blanks.
use Prim.Native.Nat.{ℕ, ◌+◌, ◌≤◌, ◌<◌}
use mathlib.Core.Bool.{Bool, true, false}
use mathlib.Core.List.{List}
use mathlib.Core.Path.{◌≡◌, refl, sym, ◌∙◌, ap}
use native.Mathlib.Omega.{arith}
use lib.Dec.{leb}
use lib.ListN.{length, get_or, drop, get_or-eq_default}
use borrow.Author.Tests.{leb-true, leb-false, le-leb}
use Rattle.model.proofs.Tests.{clash}
use Rattle.quel.specs.Tokens.{is_blank}
use Rattle.quel.specs.Lexical.{first}
use Rattle.tokens.proofs.Places.{first-at, first-end, first-lt}
use Rattle.parts.specs.Parts.{Copied}
use Rattle.parts.proofs.Cuts.{spells-none, spells_then, spells-blank}
use Rattle.quick.specs.Lexis.{Ended, Blanks}

pub copied-ended : (text given : List ℕ) → Copied text given → Ended text
copied-ended text given c = record { zeros = λ i h. c.same i ∙ get_or-eq_default given 0 (omega (arith, h, c.room)) }

-- a byte of a class that 0 is not in
module _ (p : ℕ → Bool) (z : p 0 ≡ false) where
  pub before-end : (text : List ℕ) (i : ℕ) → Ended text → p (get_or text i 0) ≡ true → i < 254
  before-end text i d h = go (leb 254 i) refl
    where
      go : (x : Bool) → leb 254 i ≡ x → i < 254
      go true e = clash (sym z ∙ ap p (sym (d.zeros i (leb-true 254 i e))) ∙ h)
      go false e = leb-false 254 i e

  module _ (text given : List ℕ) (c : Copied text given) (i : ℕ) where
    pub first-there : first p (drop i given) ≡ p (get_or text i 0)
    first-there = go (leb (length given) i) refl
      where
        go : (x : Bool) → leb (length given) i ≡ x → first p (drop i given) ≡ p (get_or text i 0)
        go true e = first-end p given i (leb-true (length given) i e) ∙ sym z ∙ ap p (sym (c.same i ∙ get_or-eq_default given 0 (leb-true (length given) i e)))
        go false e = first-at p given i (leb-false (length given) i e) ∙ ap p (sym (c.same i))

    pub there : p (get_or text i 0) ≡ true → i < length given
    there h = first-lt p given i (first-there ∙ h)

pub byte-before : (text : List ℕ) (i b : ℕ) → Ended text → get_or text i 0 ≡ b → 1 ≤ b → i < 254
byte-before text i b d e l = before-end (leb 1) refl text i d (le-leb 1 (get_or text i 0) (omega (arith, e, l)))

pub blanks-none : (text : List ℕ) (i : ℕ) → Blanks text i i
blanks-none text i = record { spells = spells-none text i; inside = λ h. h }

pub blanks-more : (text given : List ℕ) → Copied text given → (i j : ℕ) → Blanks given i j → is_blank (get_or text j 0) ≡ true → Blanks given i (j + 1)
blanks-more text given c i j b h =
    let l = there is_blank refl text given c j h in
    record { spells = spells_then given b.spells (spells-blank given j l (ap is_blank (sym (c.same j)) ∙ h)); inside = λ k. omega (arith, l) }
