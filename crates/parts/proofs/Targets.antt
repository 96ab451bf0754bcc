-- Targets one by one, and what follows them.
use Prim.Native.Nat.{ℕ, ◌+◌, ◌<◌}
use mathlib.Core.List.{List, [], ◌∷◌, ◌++◌, append-nil}
use mathlib.Core.Option.{none, some}
use mathlib.Core.Path.{◌≡◌, refl, sym, ◌∙◌, ap, subst}
use lib.ListN.{length, set}
use Rattle.model.specs.Lists.{concat_map}
use Rattle.model.proofs.Lists.{concat_map-append}
use Rattle.quel.specs.Results.{Word, each}
use Rattle.quel.specs.Tokens.{Token, key, comma, colon}
use Rattle.quel.specs.Tree.{Target}
use Rattle.quel.specs.Grammar.{IsCondition, IsTarget, unqualified, qualified}
use Rattle.quel.specs.Names.{Entry}
use Rattle.quel.specs.Elaboration.{somes_t, used_t, Symbol}
use Rattle.parts.specs.Parts.{Spells, several, Listing}
use Rattle.parts.specs.Gives.{GivesTs}
use Rattle.parts.specs.Table.{next_number, Ready, Grown}
use Rattle.parts.specs.Places.{TokenAt}
use Rattle.parts.specs.Reads.{Uses, Wrote, TargetAt, FormulaAt, TargetsAt, RestAt}
use Rattle.parts.proofs.Cuts.{spells-none, spells_then}
use Rattle.parts.proofs.Derived.{listing_none, listing-more, each-several}
use Rattle.parts.proofs.Given.{gives-no-targets, gives-target, gives-true, gives-condition}
use Rattle.parts.proofs.Held.{grown-none, grown-then, ready-grown}
use Rattle.parts.proofs.Buffer.{wrote_none, wrote_one, wrote_then}
use Rattle.parts.proofs.Terms.{uses-none, uses-then}

-- one item more at the end
concat-last : {A B : Type 0} (f : A → List B) (xs : List A) (x : A) → concat_map f (xs ++ (x ∷ [])) ≡ concat_map f xs ++ f x
unfolding concat_map
concat-last f xs x = concat_map-append f xs (x ∷ []) ∙ ap (λ l. concat_map f xs ++ l) (append-nil (f x))

module _ (es : List Entry) (ρ : List Symbol) (ws : List Word) (text : List ℕ) where
  -- targets so far, each with its comma
  pub record Targets (i at : ℕ) (S T made out : List ℕ) (start to : ℕ) : Type 0 where
    pub are : List Target
    pub tokens : List Token
    pub bytes : List ℕ
    pub spells : Spells text i at tokens
    pub listing : Listing comma IsTarget tokens are
    pub gives : GivesTs es ρ (next_number S) are (next_number T) bytes
    pub grown : Grown S T ws (concat_map somes_t are)
    pub uses : Uses S T ws (concat_map used_t are)
    pub wrote : Wrote made out start to bytes

  pub targets-none : (i : ℕ) (S made : List ℕ) (start : ℕ) → Ready S ws ρ → Targets i i S S made made start start
  unfolding concat_map
  targets-none i S made start t = record {
    are = [];
    tokens = [];
    bytes = [];
    spells = spells-none text i;
    listing = listing_none comma IsTarget;
    gives = gives-no-targets es ρ (next_number S);
    grown = grown-none t;
    uses = uses-none t.tabled.words.few (λ i l m. refl);
    wrote = wrote_none made start;
  }

  module _ (i at end : ℕ) (S T U made out last : List ℕ) (start to next : ℕ) (s : Targets i at S T made out start to) where
    pub targets-ready : Ready S ws ρ → Ready T (ws ++ concat_map somes_t s.are) ρ
    targets-ready t = ready-grown t s.grown

    module _ (p : TargetAt es ρ (ws ++ concat_map somes_t s.are) text at end T U out last to next) where
      gives_all : GivesTs es ρ (next_number S) (s.are ++ (p.is ∷ [])) (next_number U) (s.bytes ++ p.bytes)
      gives_all = gives-target es ρ s.gives p.gives

      grown-all : Grown S U ws (concat_map somes_t (s.are ++ (p.is ∷ [])))
      grown-all = subst (Grown S U ws) (sym (concat-last somes_t s.are p.is)) (grown-then s.grown p.grown)

      uses-all : Uses S U ws (concat_map used_t (s.are ++ (p.is ∷ [])))
      uses-all = subst (Uses S U ws) (sym (concat-last used_t s.are p.is)) (uses-then (concat_map somes_t s.are) s.grown.level s.uses p.uses)

      pub targets-end : TargetsAt es ρ ws text i end S U made last start next
      targets-end =
          let e = sym (each-several s.are p.is) in
          record {
            are = several s.are p.is;
            tokens = s.tokens ++ p.tokens;
            bytes = s.bytes ++ p.bytes;
            spells = spells_then text s.spells p.spells;
            derived = s.listing.derived p.tokens p.is p.derived;
            gives = subst (λ (l : List Target). GivesTs es ρ (next_number S) l (next_number U) (s.bytes ++ p.bytes)) e gives_all;
            grown = subst (λ (l : List Target). Grown S U ws (concat_map somes_t l)) e grown-all;
            uses = subst (λ (l : List Target). Uses S U ws (concat_map used_t l)) e uses-all;
            wrote = wrote_then s.wrote p.wrote;
          }

      pub targets-more : (j : ℕ) → TokenAt text end j (key comma) → Targets i j S U made last start next
      targets-more j b = record {
        are = s.are ++ (p.is ∷ []);
        tokens = s.tokens ++ (p.tokens ++ (key comma ∷ []));
        bytes = s.bytes ++ p.bytes;
        spells = spells_then text s.spells (spells_then text p.spells b.spells);
        listing = listing-more comma IsTarget s.listing p.derived;
        gives = gives_all;
        grown = grown-all;
        uses = uses-all;
        wrote = wrote_then s.wrote p.wrote;
      }

  -- no condition, or a colon and a condition
  module _ (i at : ℕ) (S T made out : List ℕ) (start to : ℕ) (t : TargetsAt es ρ ws text i at S T made out start to) where
    pub rest_plain : to < length out → RestAt es ρ ws text i at S T made (set out to 16) start (to + 1)
    rest_plain l = record {
      are = t.are;
      qualification = none;
      tokens = t.tokens;
      tail = [];
      between = next_number T;
      xs = t.bytes;
      ys = 16 ∷ [];
      spells = subst (Spells text i at) (sym (append-nil t.tokens)) t.spells;
      derived = t.derived;
      qualified = unqualified;
      gives = t.gives;
      last = gives-true es ρ (next_number T);
      grown = subst (Grown S T ws) (sym (append-nil (concat_map somes_t (each t.are)))) t.grown;
      uses = subst (Uses S T ws) (sym (append-nil (concat_map used_t (each t.are)))) t.uses;
      wrote = wrote_then t.wrote (wrote_one out to 16 l);
    }

    pub rest-ready : Ready S ws ρ → Ready T (ws ++ concat_map somes_t (each t.are)) ρ
    rest-ready r = ready-grown r t.grown

    pub rest-qualified : (j k : ℕ) (U last : List ℕ) (end : ℕ) → TokenAt text at j (key colon) → FormulaAt es ρ (ws ++ concat_map somes_t (each t.are)) text j k T U out last to end IsCondition
        → RestAt es ρ ws text i k S U made last start end
    rest-qualified j k U last end c f = record {
      are = t.are;
      qualification = some f.is;
      tokens = t.tokens;
      tail = key colon ∷ f.tokens;
      between = next_number T;
      xs = t.bytes;
      ys = f.bytes;
      spells = spells_then text t.spells (spells_then text c.spells f.spells);
      derived = t.derived;
      qualified = qualified (subst (λ (s : List Token). IsCondition s f.is []) (append-nil f.tokens) (f.derived.derived []));
      gives = t.gives;
      last = gives-condition es ρ f.gives;
      grown = grown-then t.grown f.grown;
      uses = uses-then (concat_map somes_t (each t.are)) t.grown.level t.uses f.uses;
      wrote = wrote_then t.wrote f.wrote;
    }
