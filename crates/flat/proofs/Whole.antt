-- The loops over tokens give the bytes of what elaborates, and refuse what does not.
use Prim.Native.Nat.{ℕ, suc}
use mathlib.Core.Bool.{Bool, true, false}
use mathlib.Core.List.{List, [], ◌∷◌, ◌++◌, append_assoc, append-nil}
use mathlib.Core.Option.{Option, none, some}
use mathlib.Core.Path.{◌≡◌, refl, sym, ◌∙◌, ap, fun_ext}
use Rattle.model.specs.Lists.{concat_map}
use Rattle.quel.specs.Results.{Read, fail, ok, then, need, found, Word, Several, each, has_word, unique_words}
use Rattle.quel.specs.Tokens.{RETRIEVE, comma, colon, point, Token, key}
use Rattle.quel.specs.Tree.{Formula, Target, Range, Text}
use Rattle.quel.specs.Grammar.{IsTarget, Repeated, no_item, one-item, Listed, listed, IsName, a-name, IsRange, range, IsQualification, unqualified, qualified, IsText, text}
use Rattle.quel.specs.Reader.{starts}
use Rattle.quel.specs.Elaboration.{used, used_t, used_in, Symbol, bind_symbols, bind_ranges, as_byte, ranges_of, elaborate_ts, elaborate_q, elaborate_text, somes, somes_t, symbols_of, of_qualification}
use Rattle.model.specs.Syntax.{Term, Condition}
use Rattle.model.specs.Encoding.{encode_targets, encode_ranges, encode_query}
use Rattle.quel.specs.Names.{Entry, relation_named}
use Rattle.quel.specs.Ahead.{at_rest}
use Rattle.quel.specs.Writing.{Written, before, loop, last_bytes}
use Rattle.quel.proofs.Writing.{on_c, on_ts, writes-text}
use Rattle.flat.specs.Flat.{uses, binders, colons, main_of, last_by, last_of, symbol_of, bound, flat_text, encoded}
use Rattle.flat.proofs.Walks.{walk_c, walk-listed, uses_walk, somes_walk, colons_walk}

-- words of a RANGE relation
words-repeated : {s r : List Token} {xs : List Word} → Repeated comma IsName s xs r → binders 1 s ≡ xs ++ binders 1 r
unfolding binders
words-repeated no_item = refl
words-repeated (one-item {x} a-name q) = ap (λ (l : List Word). x ∷ l) (words-repeated q)

words-listed : {s r : List Token} {xs : Several Word} → Listed comma IsName s xs r → binders 1 s ≡ each xs ++ binders 1 r
unfolding binders
words-listed (listed {x} a-name q) = ap (λ (l : List Word). x ∷ l) (words-repeated q)

symbols-range : {s r : List Token} {g : Range} → IsRange s g r → binders 0 s ≡ each g.symbols ++ binders 0 r
unfolding binders
symbols-range (range p) = words-listed p

abbrev symbols_in : List Range → List Word
symbols_in gs = concat_map (λ (g : Range). each g.symbols) gs

symbols-repeated : {s r : List Token} {gs : List Range} → Repeated colon IsRange s gs r → binders 0 s ≡ symbols_in gs ++ binders 0 r
unfolding binders concat_map
symbols-repeated no_item = refl
symbols-repeated (one-item {r} {x} {xs} p q) =
    symbols-range p ∙ ap (λ (l : List Word). each x.symbols ++ l) (symbols-repeated q) ∙ sym (append_assoc (each x.symbols) (symbols_in xs) (binders 0 r))

symbols-listed : {s r : List Token} {gs : Several Range} → Listed colon IsRange s gs r → binders 0 s ≡ symbols_in (each gs) ++ binders 0 r
unfolding concat_map
symbols-listed (listed {r} {x} {xs} p q) =
    symbols-range p ∙ ap (λ (l : List Word). each x.symbols ++ l) (symbols-repeated q) ∙ sym (append_assoc (each x.symbols) (symbols_in xs) (binders 0 r))

-- RETRIEVE comes after the RANGE list
main-names : {s r : List Token} {xs : List Word} → Repeated comma IsName s xs r → main_of s ≡ main_of r
unfolding main_of
main-names no_item = refl
main-names (one-item a-name q) = main-names q

main-range : {s r : List Token} {g : Range} → IsRange s g r → main_of s ≡ main_of r
unfolding main_of
main-range (range (listed a-name q)) = main-names q

main-repeated : {s r : List Token} {gs : List Range} → Repeated colon IsRange s gs r → main_of s ≡ main_of r
unfolding main_of
main-repeated no_item = refl
main-repeated (one-item p q) = main-range p ∙ main-repeated q

main-listed : {s r : List Token} {gs : Several Range} → Listed colon IsRange s gs r → main_of s ≡ main_of r
main-listed (listed p q) = main-range p ∙ main-repeated q

-- a list of targets ends where no point stands
qualification-free : {r : List Token} {q : Option Formula} → IsQualification r q → starts point r ≡ false
unfolding starts
qualification-free unqualified = refl
qualification-free (qualified p) = refl

abbrev nothing : List Word
nothing = []

module _ {s r : List Token} {ts : Several Target} {q : Option Formula} (p : Listed comma IsTarget s ts r) (i : IsQualification r q) where
  last-is : last_of s ≡ last_bytes q
  unfolding colons concat_map colons_walk
  last-is = ap last_by (walk-listed colons_walk p (qualification-free i) 0 ∙ none_of (each ts) (colons r)) ∙ of i
    where
      none_of : (us : List Target) (l : List Word) → concat_map (λ (t : Target). nothing) us ++ l ≡ l
      none_of [] l = refl
      none_of (u ∷ us) l = none_of us l

      of : {r : List Token} {q : Option Formula} → IsQualification r q → last_by (colons r) ≡ last_bytes q
      of unqualified = refl
      of (qualified p) = refl

  uses-are : uses 0 s ≡ concat_map used_t (each ts) ++ of_qualification used q
  unfolding uses starts uses_walk
  uses-are = walk-listed uses_walk p (qualification-free i) 0 ∙ ap (λ (l : List Word). concat_map used_t (each ts) ++ l) (of i)
    where
      of : {r : List Token} {q : Option Formula} → IsQualification r q → uses 0 r ≡ of_qualification used q
      of unqualified = refl
      of (qualified {s} {c} p) = walk_c uses_walk p refl 0 ∙ append-nil (used c)

  somes-are : binders 2 s ≡ concat_map somes_t (each ts) ++ of_qualification somes q
  unfolding binders starts somes_walk
  somes-are = walk-listed somes_walk p (qualification-free i) 0 ∙ ap (λ (l : List Word). concat_map somes_t (each ts) ++ l) (of i)
    where
      of : {r : List Token} {q : Option Formula} → IsQualification r q → binders 2 r ≡ of_qualification somes q
      of unqualified = refl
      of (qualified {s} {c} p) = walk_c somes_walk p refl 0 ∙ append-nil (somes c)

-- what one part binds, then what the rest does
abbrev joined : Read ℕ (List Symbol) → (ℕ → Read ℕ (List Symbol)) → Read ℕ (List Symbol)
joined g k = then g λ ss n. then (k n) λ zs m. ok (ss ++ zs) m

joined-none : (g : Read ℕ (List Symbol)) → then g (λ zs m. ok zs m) ≡ g
joined-none fail = refl
joined-none (ok ss n) = refl

joined_end : (g : Read ℕ (List Symbol)) → joined g (λ n. ok [] n) ≡ g
joined_end fail = refl
joined_end (ok ss n) = ap (λ (l : List Symbol). ok l n) (append-nil ss)

joined-cons : (y : Symbol) (g : Read ℕ (List Symbol)) (k : ℕ → Read ℕ (List Symbol)) → then (joined g k) (λ ss m. ok (y ∷ ss) m) ≡ joined (then g λ ss m. ok (y ∷ ss) m) k
joined-cons y fail k = refl
joined-cons y (ok ss n) k = go (k n)
  where
    go : (x : Read ℕ (List Symbol)) → then (then x λ zs m. ok (ss ++ zs) m) (λ ss m. ok (y ∷ ss) m) ≡ then x λ zs m. ok (y ∷ (ss ++ zs)) m
    go fail = refl
    go (ok zs m) = refl

joined-both : (g : Read ℕ (List Symbol)) (h k : ℕ → Read ℕ (List Symbol)) → joined g (λ n. joined (h n) k) ≡ joined (then g λ ss n. then (h n) λ zs n. ok (ss ++ zs) n) k
joined-both fail h k = refl
joined-both (ok ss n) h k = go (h n)
  where
    last : (zs : List Symbol) (x : Read ℕ (List Symbol)) → then (then x λ ys m. ok (zs ++ ys) m) (λ zs m. ok (ss ++ zs) m) ≡ then x λ ys m. ok ((ss ++ zs) ++ ys) m
    last zs fail = refl
    last zs (ok ys m) = ap (λ (l : List Symbol). ok l m) (sym (append_assoc ss zs ys))

    go : (x : Read ℕ (List Symbol)) → then (joined x k) (λ zs m. ok (ss ++ zs) m) ≡ joined (then x λ zs n. ok (ss ++ zs) n) k
    go fail = refl
    go (ok zs m) = last zs (k m)

module _ (es : List Entry) (us : List Word) where
  -- one symbol, with what follows it
  bound-name : (q : ℕ) (x : Word) (xs : List Word) (n : ℕ) (f k : ℕ → Read ℕ (List Symbol)) → ((n : ℕ) → f n ≡ joined (bind_symbols es us q xs n) k)
      → symbol_of es (has_word x us) x q n f ≡ joined (bind_symbols es us q (x ∷ xs) n) k
  unfolding bind_symbols
  bound-name q x xs n f k h = go (has_word x us)
    where
      go : (b : Bool) → symbol_of es b x q n f
          ≡ joined (elim b [
            | true ↦ then (bind_symbols es us q xs (suc n)) λ ss m. ok (record { word = x; relation = q; variable = some (as_byte n) } ∷ ss) m
            | false ↦ then (bind_symbols es us q xs n) λ ss m. ok (record { word = x; relation = q; variable = none } ∷ ss) m
          ]) k
      go true =
          let y : Symbol = record { word = x; relation = q; variable = some (as_byte n) } in
          ap (λ (g : Read ℕ (List Symbol)). then g (λ ss m. ok (y ∷ ss) m)) (h (suc n)) ∙ joined-cons y (bind_symbols es us q xs (suc n)) k
      go false =
          let y : Symbol = record { word = x; relation = q; variable = none } in
          ap (λ (g : Read ℕ (List Symbol)). then g (λ ss m. ok (y ∷ ss) m)) (h n) ∙ joined-cons y (bind_symbols es us q xs n) k

  bound-repeated : {s r : List Token} {xs : List Word} (q : ℕ) → Repeated comma IsName s xs r → (n : ℕ) → bound es us (some q) n s ≡ joined (bind_symbols es us q xs n) (λ n. bound es us (some q) n r)
  unfolding bound bind_symbols
  bound-repeated q (no_item {r}) n = sym (joined-none (bound es us (some q) n r))
  bound-repeated q (one-item {m} {r} {x} {xs} a-name p) n = bound-name q x xs n (λ n. bound es us (some q) n m) (λ n. bound es us (some q) n r) (λ n. bound-repeated q p n)

  bound-listed : {s r : List Token} {xs : Several Word} (q : ℕ) → Listed comma IsName s xs r → (n : ℕ) → bound es us (some q) n s ≡ joined (bind_symbols es us q (each xs) n) (λ n. bound es us (some q) n r)
  unfolding bound
  bound-listed q (listed {m} {r} {x} {xs} a-name p) n = bound-name q x xs n (λ n. bound es us (some q) n m) (λ n. bound es us (some q) n r) (λ n. bound-repeated q p n)

  -- one relation, with what follows it
  bound-range : {s r : List Token} {g : Range} → IsRange s g r → (gs : List Range) (k : ℕ → Read ℕ (List Symbol)) → ((n : ℕ) → bound es us none n r ≡ joined (bind_ranges es us gs n) k)
      → (n : ℕ) → bound es us none n s ≡ joined (bind_ranges es us (g ∷ gs) n) k
  unfolding bound bind_ranges
  bound-range (range {s} {r} {q} {xs} p) gs k h n = go (relation_named es q)
    where
      go : (o : Option ℕ) → found o (λ q. bound es us (some q) n s)
          ≡ joined (found o λ q. then (bind_symbols es us q (each xs) n) λ ss n. then (bind_ranges es us gs n) λ zs n. ok (ss ++ zs) n) k
      go none = refl
      go (some q) =
          bound-listed q p n ∙ ap (λ (f : ℕ → Read ℕ (List Symbol)). joined (bind_symbols es us q (each xs) n) f) (fun_ext (λ n. h n))
          ∙ joined-both (bind_symbols es us q (each xs) n) (λ n. bind_ranges es us gs n) k

  bound-ranges : {s r : List Token} {gs : List Range} → Repeated colon IsRange s gs r → (n : ℕ) → bound es us none n s ≡ joined (bind_ranges es us gs n) (λ n. bound es us none n r)
  unfolding bound bind_ranges
  bound-ranges (no_item {r}) n = sym (joined-none (bound es us none n r))
  bound-ranges (one-item {r} {xs} p q) n = bound-range p xs (λ n. bound es us none n r) (λ n. bound-ranges q n) n

  bound_all : {s r : List Token} {gs : Several Range} → Listed colon IsRange s gs (key RETRIEVE ∷ r) → (n : ℕ) → bound es us none n s ≡ bind_ranges es us (each gs) n
  unfolding bound
  bound_all (listed {x} {xs} p q) n = bound-range p xs (λ n. ok [] n) (λ n. bound-ranges q n) n ∙ joined_end (bind_ranges es us (x ∷ xs) n)

module _ (es : List Entry) where
  abbrev shape : Bool → Read ℕ (List Symbol) → (List Symbol → ℕ → Written) → Written
  shape u b k = need u (then b λ ρ n. before (λ bs. encode_ranges (ranges_of es ρ) bs) (k ρ n))

  -- the bytes of what elaborates
  close : (u : Bool) (b : Read ℕ (List Symbol)) (f : List Symbol → ℕ → Read ℕ (List Term)) (g : List Symbol → ℕ → Read ℕ Condition)
      → shape u b (λ ρ n. on_ts (f ρ n) (λ m. on_c (g ρ m) (λ m. ok [] m)))
      ≡ encoded (need u (then b λ ρ n. then (f ρ n) λ ts n. then (g ρ n) λ c n. ok (record { ranges = ranges_of es ρ; targets = ts; condition = c }) n))
  unfolding encode_query
  close false b f g = refl
  close true fail f g = refl
  close true (ok ρ n) f g = go (f ρ n)
    where
      last : (ts : List Term) (y : Read ℕ Condition)
          → before (λ bs. encode_ranges (ranges_of es ρ) bs) (before (λ bs. encode_targets ts bs) (on_c y (λ m. ok [] m)))
          ≡ encoded (then y λ c n. ok (record { ranges = ranges_of es ρ; targets = ts; condition = c }) n)
      last ts fail = refl
      last ts (ok c m) = refl

      go : (x : Read ℕ (List Term)) → before (λ bs. encode_ranges (ranges_of es ρ) bs) (on_ts x (λ m. on_c (g ρ m) (λ m. ok [] m)))
          ≡ encoded (then x λ ts n. then (g ρ n) λ c n. ok (record { ranges = ranges_of es ρ; targets = ts; condition = c }) n)
      go fail = refl
      go (ok ts m) = last ts (g ρ m)

  -- the loops of a text that is derived
  pub flat-text : {ts : List Token} {t : Text} → IsText ts t → flat_text es ts ≡ encoded (elaborate_text es t)
  unfolding flat_text elaborate_text main_of binders bound used_in symbols_of
  flat-text (text {s} {m} {r} {gs} {w} {ts} {q} g p i) =
      let e : main_of s ≡ m = main-listed g in
      let t : Text = record { ranges = gs; workspace = w; targets = ts; qualification = q } in
      ap (λ (l : List Token). shape (unique_words (binders 0 s)) (bound es (uses 0 l) none 0 s) (λ ρ n. loop es (last_of l) l at_rest (ρ ∷ []) n)) e
      ∙ ap (λ (l : List Word). shape (unique_words l) (bound es (uses 0 m) none 0 s) (λ ρ n. loop es (last_of m) m at_rest (ρ ∷ []) n)) (symbols-listed g ∙ ap (λ (l : List Word). symbols_in (each gs) ++ l) (somes-are p i))
      ∙ ap (λ (l : List Word). shape (unique_words (symbols_of t)) (bound es l none 0 s) (λ ρ n. loop es (last_of m) m at_rest (ρ ∷ []) n)) (uses-are p i)
      ∙ ap (λ (b : Read ℕ (List Symbol)). shape (unique_words (symbols_of t)) b (λ ρ n. loop es (last_of m) m at_rest (ρ ∷ []) n)) (bound_all es (used_in t) g 0)
      ∙ ap (λ (k : List Symbol → ℕ → Written). shape (unique_words (symbols_of t)) (bind_ranges es (used_in t) (each gs) 0) k) (fun_ext (λ ρ. fun_ext (λ n. ap (λ (z : List ℕ). loop es z m at_rest (ρ ∷ []) n) (last-is p i) ∙ writes-text es p i ρ n)))
      ∙ close (unique_words (symbols_of t)) (bind_ranges es (used_in t) (each gs) 0) (λ ρ n. elaborate_ts es (each ts) ρ n) (λ ρ n. elaborate_q es q ρ n)
