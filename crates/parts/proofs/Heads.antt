-- The RANGE list symbol by symbol and relation by relation, and what follows it up to the targets.
use Prim.Native.Nat.{ℕ, suc, ◌+◌, ◌*◌, ◌≤◌, ◌<◌}
use mathlib.Core.List.{List, [], ◌∷◌, ◌++◌, append_assoc, append-nil, map-append}
use mathlib.Core.Option.{none, some}
use mathlib.Core.Path.{◌≡◌, refl, sym, ◌∙◌, ap, subst}
use native.Mathlib.Omega.{arith}
use lib.ListN.{length, get_or, length-append, get_or-append}
use lib.Seq.{get_or_at}
use Rattle.model.proofs.Tests.{by-lt}
use Rattle.quel.specs.Results.{Word, each}
use Rattle.quel.specs.Tokens.{Token, name, key, RANGE, RETRIEVE, left, right, comma, colon}
use Rattle.quel.specs.Tree.{Range}
use Rattle.quel.specs.Grammar.{IsName, IsRange}
use Rattle.quel.specs.Names.{Entry, relation_named}
use Rattle.quel.specs.Elaboration.{Symbol, symbol_in}
use Rattle.parts.specs.Parts.{Spells, several, Listing}
use Rattle.parts.specs.Table.{relation_at, level_now, next_number, how_many, Finds, Tabled, Ready, Slotted}
use Rattle.parts.specs.Places.{Named, WordAt, NameAt, TokenAt}
use Rattle.parts.specs.Ranges.{with_number, in_order, over, words_of, Ranged}
use Rattle.parts.specs.Reads.{Heads, SymbolsAt, RangeAt, RangesAt, HeadAt}
use Rattle.parts.proofs.Cuts.{spells-none, spells_then}
use Rattle.parts.proofs.Derived.{part-name, part-range, listing_none, listing-more, each-several}
use Rattle.parts.proofs.Bindings.{ranged-none, ranged-last, in-order-last}
use Rattle.parts.proofs.Held.{not_found, grown-still, tabled-grown, tabled-range}
use Rattle.parts.proofs.Terms.{name-spelled}

pub words-length : (ss : List Symbol) → length (words_of ss) ≡ length ss
words-length [] = refl
words-length (s ∷ ss) = ap (λ (n : ℕ). suc n) (words-length ss)

-- an empty table
pub heads-none : (S : List ℕ) → length S ≡ 160 → ((i : ℕ) → get_or S i 0 ≡ 0) → Heads S []
unfolding symbol_in in_order
heads-none S l z = record {
  tabled = record {
    words = record {
      long = l;
      few = omega arith;
      spelt = λ i h. absurd (omega arith);
      small = λ i h. absurd (omega arith);
      named = λ i h. absurd (omega arith);
      bytes = λ i h. absurd (omega arith);
      zeros = λ i h k. z (4 * i);
      distinct = λ i j h k e. absurd (omega arith);
    };
    held = λ i h. absurd (omega arith);
    absent = λ x a. refl;
    reach = λ i h. absurd (omega arith);
    shallow = omega (arith, z 155);
  };
  level = z 155;
  unmarked = λ i h. z (124 + i);
  related = λ i h. absurd (omega arith);
}

-- one symbol more
pub heads-last : {S T : List ℕ} {ss : List Symbol} (text : List ℕ) (i j v q r : ℕ) (x : NameAt text i j v) → Heads S ss → Finds S v r → 30 ≤ r → length ss < 30 → q < 256 → Slotted S T (length ss) v q (length ss) 0 → level_now T ≡ level_now S
    → Heads T (ss ++ (record { word = x.word; relation = q; variable = none } ∷ []))
heads-last {S} {T} {ss} text i j v q r x h f m few b put now = record {
  tabled = subst (λ (ρ : List Symbol). Tabled T (words_of (ss ++ (new ∷ []))) ρ) (sym (in-order-last 0 ss new ∙ ap (λ (k : ℕ). in_order 0 ss ++ (with_number new k ∷ [])) (let z : 0 + length ss ≡ length ss = omega arith in z)))
      (subst (λ (ws : List Word). Tabled T ws (in_order 0 ss ++ (with_number new (length ss) ∷ []))) (sym (map-append (λ (s : Symbol). s.word) ss (new ∷ [])))
      (tabled-range h.tabled x.word v q (length ss) (not_found h.tabled.words x.word v r x.spelt f m) (omega (arith, few, words-length ss)) x.named x.spelt x.small (b, omega (arith, few)) place now));
  level = now ∙ h.level;
  unmarked = λ i l. put.above (124 + i) (omega (arith, few)) (omega (arith, l)) ∙ h.unmarked i l;
  related = λ i l. by-lt i (length ss)
      (λ k. put.below (4 * i + 1) (omega (arith, k)) ∙ h.related i k ∙ ap (λ (s : Symbol). s.relation) (sym (get_or-append ss (new ∷ []) (record { word = []; relation = 0; variable = none }) i k)))
      (λ k. let e : i ≡ length ss = omega (arith, k, l, length-append ss (new ∷ [])) in ap (relation_at T) e ∙ put.relation ∙ ap (λ (s : Symbol). s.relation) (sym (get_or_at ss new [] (record { word = []; relation = 0; variable = none }) i (sym e))));
}
  where
    new : Symbol
    new = record { word = x.word; relation = q; variable = none }

    place : Slotted S T (length (words_of ss)) v q (length ss) (level_now S)
    place = subst (λ (k : ℕ). Slotted S T k v q (length ss) (level_now S)) (sym (words-length ss)) (subst (Slotted S T (length ss) v q (length ss)) (sym h.level) put)

-- the symbols so far, each with its comma
module _ (es : List Entry) (text : List ℕ) (q : ℕ) (ss : List Symbol) where
  pub record Bound (i at : ℕ) (T : List ℕ) (n : ℕ) : Type 0 where
    pub are : List Word
    pub tokens : List Token
    pub spells : Spells text i at tokens
    pub listing : Listing comma IsName tokens are
    pub heads : Heads T (ss ++ over q are)
    pub size : n ≡ length (ss ++ over q are)

  pub bound-none : (i : ℕ) (S : List ℕ) (n : ℕ) → Heads S ss → n ≡ length ss → Bound i i S n
  bound-none i S n h e = record {
    are = [];
    tokens = [];
    spells = spells-none text i;
    listing = listing_none comma IsName;
    heads = subst (Heads S) (sym (append-nil ss)) h;
    size = e ∙ sym (ap length (append-nil ss));
  }

  module _ (i at end v r : ℕ) (T U : List ℕ) (n : ℕ) (s : Bound i at T n) (x : NameAt text at end v) (f : Finds T v r) (m : 30 ≤ r) (few : n < 30) (b : q < 256) (put : Slotted T U n v q n 0) (now : level_now U ≡ level_now T) where
    all : ss ++ over q (s.are ++ (x.word ∷ [])) ≡ (ss ++ over q s.are) ++ (record { word = x.word; relation = q; variable = none } ∷ [])
    all = ap (λ (l : List Symbol). ss ++ l) (map-append (λ (x : Word). record { word = x; relation = q; variable = none }) s.are (x.word ∷ [])) ∙ sym (append_assoc ss (over q s.are) (record { word = x.word; relation = q; variable = none } ∷ []))

    heads-all : Heads U (ss ++ over q (s.are ++ (x.word ∷ [])))
    heads-all = subst (Heads U) (sym all) (heads-last text at end v q r x s.heads f m (omega (arith, few, s.size)) b (subst (λ (k : ℕ). Slotted T U k v q k 0) s.size put) now)

    size-all : n + 1 ≡ length (ss ++ over q (s.are ++ (x.word ∷ [])))
    size-all = sym (ap length all ∙ length-append (ss ++ over q s.are) (record { word = x.word; relation = q; variable = none } ∷ []) ∙ ap (λ (k : ℕ). k + 1) (sym s.size))

    pub bound-more : (j : ℕ) → TokenAt text end j (key comma) → Bound i j U (n + 1)
    bound-more j t = record {
      are = s.are ++ (x.word ∷ []);
      tokens = s.tokens ++ ((name x.word ∷ []) ++ (key comma ∷ []));
      spells = spells_then text s.spells (spells_then text x.spells t.spells);
      listing = listing-more comma IsName s.listing (part-name x.word);
      heads = heads-all;
      size = size-all;
    }

    pub bound-end : (j : ℕ) → TokenAt text end j (key right) → SymbolsAt es text i j U (n + 1) q ss
    bound-end j t = record {
      are = several s.are x.word;
      tokens = s.tokens ++ (name x.word ∷ []);
      spells = spells_then text (spells_then text s.spells x.spells) t.spells;
      derived = s.listing.derived (name x.word ∷ []) x.word (part-name x.word);
      heads = subst (λ (l : List Word). Heads U (ss ++ over q l)) (sym (each-several s.are x.word)) heads-all;
      size = subst (λ (l : List Word). n + 1 ≡ length (ss ++ over q l)) (sym (each-several s.are x.word)) size-all;
    }

module _ (es : List Entry) (text : List ℕ) where
  pub range-read : (ss : List Symbol) (i j k m v q : ℕ) (T : List ℕ) (n : ℕ) (w : WordAt text i j v) → Named w.word → relation_named es w.word ≡ some q → TokenAt text j k (key left) → SymbolsAt es text k m T n q ss → RangeAt es text i m T n ss
  range-read ss i j k m v q T n w d e t s = record {
    is = record { relation = w.word; symbols = s.are };
    tokens = name w.word ∷ key left ∷ (s.tokens ++ (key right ∷ []));
    more = over q (each s.are);
    spells = spells_then text (name-spelled text i j v w d) (spells_then text t.spells s.spells);
    derived = part-range w.word s.derived;
    ranged = λ gs g. ranged-last es w.word s.are g e;
    heads = s.heads;
    size = s.size;
  }

  -- relations so far, each with its colon
  pub record Ranges (i at : ℕ) (T : List ℕ) (n : ℕ) : Type 0 where
    pub are : List Range
    pub tokens : List Token
    pub symbols : List Symbol
    pub spells : Spells text i at tokens
    pub listing : Listing colon IsRange tokens are
    pub ranged : Ranged es are symbols
    pub heads : Heads T symbols
    pub size : n ≡ length symbols

  pub ranges-none : (i : ℕ) (S : List ℕ) → Heads S [] → Ranges i i S 0
  ranges-none i S h = record {
    are = [];
    tokens = [];
    symbols = [];
    spells = spells-none text i;
    listing = listing_none colon IsRange;
    ranged = ranged-none es;
    heads = h;
    size = refl;
  }

  module _ (i at : ℕ) (S : List ℕ) (n : ℕ) (s : Ranges i at S n) (end : ℕ) (T : List ℕ) (m : ℕ) (r : RangeAt es text at end T m s.symbols) where
    pub ranges-end : RangesAt es text i end T m
    ranges-end = record {
      are = several s.are r.is;
      tokens = s.tokens ++ r.tokens;
      symbols = s.symbols ++ r.more;
      spells = spells_then text s.spells r.spells;
      derived = s.listing.derived r.tokens r.is r.derived;
      ranged = subst (λ (g : List Range). Ranged es g (s.symbols ++ r.more)) (sym (each-several s.are r.is)) (r.ranged s.are s.ranged);
      heads = r.heads;
      size = r.size;
    }

    pub ranges_more : (j : ℕ) → TokenAt text end j (key colon) → Ranges i j T m
    ranges_more j b = record {
      are = s.are ++ (r.is ∷ []);
      tokens = s.tokens ++ (r.tokens ++ (key colon ∷ []));
      symbols = s.symbols ++ r.more;
      spells = spells_then text s.spells (spells_then text r.spells b.spells);
      listing = listing-more colon IsRange s.listing r.derived;
      ranged = r.ranged s.are s.ranged;
      heads = r.heads;
      size = r.size;
    }

  -- how many there are, and the next number, written behind them
  pub head_read : (a₀ a b c d e v n : ℕ) (S T : List ℕ) → Spells text 0 a₀ [] → TokenAt text a₀ a (key RANGE) → RangesAt es text a b S n → TokenAt text b c (key RETRIEVE) → NameAt text c d v → TokenAt text d e (key colon)
      → length T ≡ length S → ((i : ℕ) → i < 156 → get_or T i 0 ≡ get_or S i 0) → next_number T ≡ n → how_many T ≡ n → HeadAt es text e T
  head_read a₀ a b c d e v n S T z k r l w p long same next many = record {
    are = r.are;
    workspace = w.word;
    tokens = r.tokens;
    symbols = r.symbols;
    spells = spells_then text z (spells_then text k.spells (spells_then text r.spells (spells_then text l.spells (spells_then text w.spells p.spells))));
    derived = r.derived;
    ranged = r.ranged;
    heads = record {
      tabled = subst (λ (ws : List Word). Tabled T ws (in_order 0 r.symbols)) (append-nil (words_of r.symbols))
          (tabled-grown r.heads.tabled (grown-still r.heads.tabled.words long (λ i h. same i (omega arith)) (same 155 (omega arith)) (many ∙ r.size ∙ sym (words-length r.symbols)) (omega (arith, next, r.size, words-length r.symbols, r.heads.tabled.words.few))));
      level = same 155 (omega arith) ∙ r.heads.level;
      unmarked = λ i h. same (124 + i) (omega arith) ∙ r.heads.unmarked i h;
      related = λ i h. same (4 * i + 1) (omega (arith, h, words-length r.symbols, r.heads.tabled.words.few)) ∙ r.heads.related i h;
    };
    next = next ∙ r.size;
    size = many ∙ r.size;
  }

-- the table that targets and conditions are read with
pub head-ready : {es : List Entry} {text : List ℕ} {j : ℕ} {T : List ℕ} (h : HeadAt es text j T) → Ready T (words_of h.symbols) (in_order 0 h.symbols)
head-ready h = record { tabled = h.heads.tabled; size = h.size ∙ sym (words-length h.symbols); next = omega (arith, h.next, words-length h.symbols, h.heads.tabled.words.few) }
