-- Each way through the reader is the definition's.
use Prim.Native.Nat.{ℕ, ◌≤◌}
use mathlib.Core.Bool.{Bool, true, false, not}
use mathlib.Core.List.{List, []}
use mathlib.Core.Path.{◌≡◌, refl, sym, ap, ◌∙◌, subst}
use lib.Dec.{leb}
use lib.ListN.{length}
use borrow.Author.Tests.{leb-true}
use Rattle.model.specs.Syntax.{Query}
use Rattle.model.proofs.Tests.{clash}
use Rattle.quel.specs.Results.{Read, fail, ok}
use Rattle.quel.specs.Tokens.{Token, tokens}
use Rattle.quel.specs.Tree.{Text}
use Rattle.quel.specs.Reader.{read_tree}
use Rattle.quel.specs.Names.{Entry, names}
use Rattle.quel.specs.Elaboration.{elaborate_text}
use Rattle.quel.specs.Writing.{Written}
use Rattle.quel.specs.ReadText as Q
use Rattle.quel.specs.ReadText.{refused, parse, resolve, written, resolved, parsed, read_text}
use Rattle.quel.proofs.Results.{need-inv}
use Rattle.quel.proofs.Sound.{sound}
use Rattle.flat.specs.Flat.{flat_text, encoded}
use Rattle.flat.proofs.Whole.{flat-text}
use Rattle.names.specs.Entries.{entries}
use Rattle.names.specs.Answers.{failed}
use Rattle.names.proofs.Callers.{good-list, bad-list}
use Rattle.tokens.specs.Table.{Table, tokens_at}
use Rattle.tokens.specs.Pieces.{read_of, counted}
use Rattle.std.specs.Prelude.{Option, Some, None, Result, Err}
use Rattle.model.specs.declared.refusal.Refusal.{Refusal}
use Rattle.model.specs.declared.refusal.Refusal.TheVariants.{Grammar, Name}
use Rattle.reader.specs.Verdict.{given, is_text}
use Rattle.reader.specs.Readings.{reading_of}
use Rattle.elaborate.specs.Answers.{writing}

-- a question's bytes in the buffer
resolved-writing : (g : Read ℕ Query) (d : List ℕ) → writing (encoded g) d ≡ resolved g d
resolved-writing fail d = refl
resolved-writing (ok q n) d = refl

module _ (list text d : List ℕ) (t : Table) (c : Option ℕ) (e : read_of c text t ≡ tokens text) where
  pub no-tokens : c ≡ None → reading_of (Err Grammar) d ≡ read_text list text d
  unfolding read_text
  no-tokens h =
      ap (λ (g : Read (List ℕ) (List Token)). parsed (parse g) list d) (ap (λ (o : Option ℕ). read_of o text t) (sym h) ∙ e)

  module _ (n : ℕ) (h : c ≡ Some n) where
    cut : ok (tokens_at text t 0 n) [] ≡ tokens text
    cut = ap (λ (o : Option ℕ). read_of o text t) (sym h) ∙ e

    pub no_text : (b : Bool) → b ≡ is_text (tokens_at text t 0 n) → b ≡ false → reading_of (Err Grammar) d ≡ read_text list text d
    unfolding read_text
    no_text b i j =
        go (read_tree (tokens_at text t 0 n)) b i j
        ∙ ap (λ (g : Read (List ℕ) (List Token)). parsed (parse g) list d) cut
      where
        go : (g : Read (List Token) Text) (b : Bool) → b ≡ given g → b ≡ false → refused 50 d ≡ parsed g list d
        go fail b i j = refl
        go (ok u r) b i j = clash (sym j ∙ i)

    module _ (b : Bool) (i : b ≡ is_text (tokens_at text t 0 n)) (j : b ≡ true) where
      -- what follows a text that is derived
      abbrev Derived : (Q.Reading → Type 0) → Type 0
      Derived P = (u : Text) (r : List Token) → read_tree (tokens_at text t 0 n) ≡ ok u r → P (resolved (resolve (names list) u) d)

      derived : (P : Q.Reading → Type 0) → Derived P → P (read_text list text d)
      unfolding read_text
      derived P f = subst P (ap (λ (g : Read (List ℕ) (List Token)). parsed (parse g) list d) cut) (go (read_tree (tokens_at text t 0 n)) refl b i j)
        where
          go : (g : Read (List Token) Text) → read_tree (tokens_at text t 0 n) ≡ g → (b : Bool) → b ≡ given g → b ≡ true → P (parsed g list d)
          go fail o b i j = clash (sym i ∙ j)
          go (ok u r) o b i j = f u r o

      module _ (g : Bool) (k : g ≡ not (failed (names list))) where
        pub bad-names : g ≡ false → reading_of (Err Name) d ≡ read_text list text d
        bad-names l = derived (λ x. reading_of (Err Name) d ≡ x) λ u r o. ap (λ (y : Read (List ℕ) (List Entry)). resolved (resolve y u) d) (sym (bad-list list (sym l ∙ k)))

        pub read_names : g ≡ true → (ts : List Token) → tokens_at text t 0 n ≡ ts → (a : Result ℕ Refusal) (x : List ℕ) → reading_of a x ≡ writing (flat_text (entries list) ts) d → reading_of a x ≡ read_text list text d
        read_names l ts f a x o =
            derived (λ z. reading_of a x ≡ z) λ u r p.
            o
            ∙ ap (λ (y : List Token). writing (flat_text (entries list) y) d) (sym f)
            ∙ ap (λ (y : Written). writing y d) (flat-text (entries list) (sound (tokens_at text t 0 n) r u p))
            ∙ resolved-writing (elaborate_text (entries list) u) d
            ∙ ap (λ (y : Read (List ℕ) (List Entry)). resolved (resolve y u) d) (sym (good-list list (sym l ∙ k)))

-- no more tokens than bytes, and those are at most 2,000
pub cut_most : (c : Option ℕ) (n : ℕ) (text : List ℕ) (t : Table) → (counted c ≤ 2000) × (counted c ≤ length text) → read_of c text t ≡ tokens text → c ≡ Some n → (n ≤ 2000) × (n ≤ length text) × (length text ≤ 2000)
unfolding tokens
cut_most c n text t m e h = (
  subst (λ (o : Option ℕ). counted o ≤ 2000) h m.0,
  subst (λ (o : Option ℕ). counted o ≤ length text) h m.1,
  need-inv (tokens_at text t 0 n) [] (leb (length text) 2000) _ (sym (ap (λ (o : Option ℕ). read_of o text t) (sym h) ∙ e)) (λ l g. leb-true (length text) 2000 l),
)
