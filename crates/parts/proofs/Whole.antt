-- The head and what follows it are the whole text.
use Prim.Native.Nat.{ℕ, zero, suc, ◌+◌, ◌*◌, ◌%◌, ◌≤◌, ◌<◌}
use mathlib.Core.Bool.{Bool, true, false}
use mathlib.Core.List.{List, [], ◌∷◌, ◌++◌, append_assoc, append-nil}
use mathlib.Core.Path.{◌≡◌, refl, sym, ◌∙◌, ap, subst}
use native.Mathlib.Omega.{arith}
use lib.Dec.{eqb}
use lib.ListN.{length, get_or, take}
use Rattle.model.specs.Lists.{concat_map}
use Rattle.quel.specs.Results.{ok, Word, each, has_word, unique_words}
use Rattle.quel.specs.Tokens.{Token, name, key, RANGE, RETRIEVE, colon, tokens}
use Rattle.quel.specs.Tree.{Text}
use Rattle.quel.specs.Grammar.{IsText, text}
use Rattle.quel.specs.Names.{Entry, names}
use Rattle.quel.specs.Elaboration.{Symbol, somes, somes_t, of_qualification, used_in, symbols_of}
use Rattle.quel.specs.ReadText.{written, read_text}
use Rattle.parts.specs.Gives.{GivesTs}
use Rattle.parts.specs.Table.{relation_at, mark_at, next_number, flag, Marked, outside}
use Rattle.parts.specs.Ranges.{in_order, symbol_at, words_of}
use Rattle.parts.specs.Renumber.{bit_at, MarkedFrom, RelatedFrom, records_of}
use Rattle.parts.specs.Reads.{HeadAt, RestAt}
use Rattle.parts.proofs.Cuts.{spells_then, spells-whole}
use Rattle.parts.proofs.Held.{words-once, unmarked}
use Rattle.parts.proofs.Heads.{words-length}
use Rattle.parts.proofs.Renumber.{answered}

word_of : (ss : List Symbol) (i : ℕ) → i < length ss → get_or (words_of ss) i [] ≡ (symbol_at ss i).word
word_of [] i l = absurd (omega arith)
word_of (s ∷ ss) zero l = refl
word_of (s ∷ ss) (suc i) l = word_of ss i (omega arith)

-- one by one
related-from : (T : List ℕ) (i : ℕ) (ss : List Symbol) → ((j : ℕ) → j < length ss → relation_at T (i + j) % 256 ≡ (symbol_at ss j).relation) → RelatedFrom T i ss
unfolding RelatedFrom
related-from T i [] f = tt
related-from T i (s ∷ ss) f = (
  ap (λ (k : ℕ). relation_at T k % 256) (let z : i ≡ i + 0 = omega arith in z) ∙ f 0 (omega arith),
  related-from T (suc i) ss (λ j l. ap (λ (k : ℕ). relation_at T k % 256) (let z : suc i + j ≡ i + suc j = omega arith in z) ∙ f (suc j) (omega arith)),
)

marked_from : (T : List ℕ) (us : List Word) (i : ℕ) (ss : List Symbol) → ((j : ℕ) → j < length ss → has_word (symbol_at ss j).word us ≡ eqb (bit_at T (i + j)) 1) → MarkedFrom T us i ss
unfolding MarkedFrom
marked_from T us i [] f = tt
marked_from T us i (s ∷ ss) f = (
  f 0 (omega arith) ∙ ap (λ (k : ℕ). eqb (bit_at T k) 1) (let z : i + 0 ≡ i = omega arith in z),
  marked_from T us (suc i) ss (λ j l. f (suc j) (omega arith) ∙ ap (λ (k : ℕ). eqb (bit_at T k) 1) (let z : i + suc j ≡ suc i + j = omega arith in z)),
)

flag-back : (b : Bool) → b ≡ eqb (flag b % 2) 1
flag-back true = refl
flag-back false = refl

module _ (es : List Entry) (list bs d : List ℕ) (good : names list ≡ ok es []) (small : length bs ≤ 2000) (j k : ℕ) (S T made last : List ℕ) (to : ℕ)
    (h : HeadAt es bs j S) (r : RestAt es (in_order 0 h.symbols) (words_of h.symbols) bs j k S T made last 0 to) (end : length bs ≤ k) where
  abbrev ss : List Symbol
  ss = h.symbols

  abbrev tree : Text
  tree = record { ranges = h.are; workspace = h.workspace; targets = r.are; qualification = r.qualification }

  abbrev tail : List Token
  tail = r.tokens ++ r.tail

  derived : IsText (key RANGE ∷ (h.tokens ++ (key RETRIEVE ∷ name h.workspace ∷ key colon ∷ tail))) tree
  derived = text (h.derived.derived (key RETRIEVE ∷ name h.workspace ∷ key colon ∷ tail)) (r.derived.derived r.tail) r.qualified

  spelled : tokens bs ≡ ok (key RANGE ∷ (h.tokens ++ (key RETRIEVE ∷ name h.workspace ∷ key colon ∷ tail))) []
  spelled = spells-whole bs (spells_then bs h.spells r.spells) end small ∙ ap (λ (ts : List Token). ok (key RANGE ∷ ts) []) (append_assoc h.tokens (key RETRIEVE ∷ name h.workspace ∷ key colon ∷ []) tail)

  few : length ss ≤ 30
  few = omega (arith, words-length ss, h.heads.tabled.words.few)

  once : unique_words (symbols_of tree) ≡ true
  unfolding symbols_of
  once = ap (λ (l : List Word). unique_words (l ++ (concat_map somes_t (each r.are) ++ of_qualification somes r.qualification))) (sym h.ranged.words)
      ∙ words-once (words_of ss ++ (concat_map somes_t (each r.are) ++ of_qualification somes r.qualification)) r.grown.words.distinct

  marked : Marked T (words_of ss) (used_in tree)
  unfolding used_in
  marked = subst (λ (l : ℕ). Marked T (words_of ss) ([] ++ outside l (used_in tree))) h.heads.level
      (r.uses.marked (words_of ss) [] [] (sym (append-nil (words_of ss))) (unmarked S (words_of ss) h.heads.unmarked h.heads.tabled.words.few))

  pub whole-text : read_text list bs d ≡ written (records_of T (length ss) (take to last)) d
  whole-text =
      answered es T tree ss once h.ranged
      (marked_from T (used_in tree) 0 ss (λ i l. ap (λ (w : Word). has_word w (used_in tree)) (sym (word_of ss i l)) ∙ flag-back (has_word (get_or (words_of ss) i []) (used_in tree))
      ∙ sym (ap (λ (k : ℕ). eqb (k % 2) 1) (ap (λ (k : ℕ). mark_at T k) (let z : 0 + i ≡ i = omega arith in z) ∙ marked.marks i (omega (arith, l, words-length ss))))))
      list bs d r.xs r.ys (key RANGE ∷ (h.tokens ++ (key RETRIEVE ∷ name h.workspace ∷ key colon ∷ tail))) r.between (next_number T) spelled derived good
      (related-from T 0 ss (λ i l. related i l (h.heads.related i l)))
      (subst (λ (n : ℕ). GivesTs es (in_order 0 ss) n (each r.are) r.between r.xs) h.next r.gives)
      r.last (omega (arith, r.grown.next))
      ∙ ap (λ (x : List ℕ). written (records_of T (length ss) x) d) (sym (r.wrote.written ∙ nothing-before made))
    where
      nothing-before : (m : List ℕ) → take 0 m ++ (r.xs ++ r.ys) ≡ r.xs ++ r.ys
      nothing-before [] = refl
      nothing-before (b ∷ m) = refl

      related : (i : ℕ) → i < length ss → relation_at S i ≡ (symbol_at ss i).relation → relation_at T (0 + i) % 256 ≡ (symbol_at ss i).relation
      related i l e =
          let b = h.heads.tabled.words.bytes i (omega (arith, l, words-length ss)) in
          let g : relation_at T i ≡ relation_at S i = r.grown.kept (4 * i + 1) (omega (arith, l, words-length ss)) in
          ap (λ (k : ℕ). relation_at T k % 256) (let z : 0 + i ≡ i = omega arith in z) ∙ (let z : relation_at T i % 256 ≡ relation_at S i = omega (arith, b, g) in z) ∙ e
