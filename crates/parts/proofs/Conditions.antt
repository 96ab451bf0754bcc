-- Conditions: one law for each way to read a factor, and a condition factor by factor.
use Prim.Native.Nat.{ℕ, suc, ◌+◌, ◌*◌, ◌≤◌, ◌<◌}
use mathlib.Core.List.{List, [], ◌∷◌, ◌++◌, append_assoc, append-nil}
use mathlib.Core.Option.{Option, none, some}
use mathlib.Core.Path.{◌≡◌, refl, sym, ◌∙◌, ap, ap₂, subst}
use native.Mathlib.Omega.{arith}
use lib.ListN.{length, get_or, set, take, drop, length-append}
use lib.Seq.{get_or-set_other, length-take-le, take_at, take-take, drop_at}
use Rattle.quel.specs.Results.{Word}
use Rattle.quel.specs.Tokens.{Token, name, sign, key, NOT, SOME, IN, and, or, left, right}
use Rattle.quel.specs.Tree.{Formula, And, Not, Compare, Some}
use Rattle.quel.specs.Grammar.{IsCondition, IsConjunct, IsFactor}
use Rattle.quel.specs.Names.{Entry, relation_named}
use Rattle.quel.specs.Elaboration.{somes, somes_o, used, Symbol}
use Rattle.parts.specs.Parts.{Spells, Part, IsBracket, joined, Opened}
use Rattle.parts.specs.Gives.{GivesC, Counted}
use Rattle.parts.specs.Table.{level_now, next_number, how_many, Absent, Ready, Grown, Slotted, Marked, outside}
use Rattle.parts.specs.Places.{Named, WordAt, NameAt, TokenAt, SignAt}
use Rattle.parts.specs.Reads.{Uses, Wrote, OperandAt, FormulaAt}
use Rattle.parts.proofs.Cuts.{spells_then}
use Rattle.parts.proofs.Derived.{part-compare, part-not, part-bracket, part-within, part-some, part-factor, part-and, opened-none, opened-or, part-condition}
use Rattle.parts.proofs.Given.{gives-compare, gives-not, gives-some, gives-and, counted_none, counted-or}
use Rattle.parts.proofs.Held.{fewer, grown-then, ready-grown, marked-same, tabled-some, some-closed}
use Rattle.parts.proofs.Buffer.{wrote_one, wrote-three, wrote-front, wrote_then}
use Rattle.parts.proofs.Terms.{uses-then, name-spelled}

module _ (es : List Entry) (ρ : List Symbol) (ws : List Word) (text : List ℕ) where
  -- two terms and a sign; the record's head is written between them
  pub compared-read : (i j k m o : ℕ) (S S₁ T made out last : List ℕ) (to x y : ℕ) (p : OperandAt es ρ ws text i j S S₁ made out (to + 2) x) → SignAt text j k o
      → OperandAt es ρ (ws ++ somes_o p.is) text k m S₁ T (set (set out to 21) (to + 1) o) last x y → to + 2 ≤ length made → FormulaAt es ρ ws text i m S T made last to y IsFactor
  unfolding somes used
  compared-read i j k m o S S₁ T made out last to x y p s q room = record {
    is = Compare s.is p.is q.is;
    tokens = p.tokens ++ (sign s.is ∷ q.tokens);
    bytes = 21 ∷ o ∷ (p.bytes ++ q.bytes);
    spells = spells_then text p.spells (spells_then text s.spells q.spells);
    derived = part-compare s.is p.derived q.derived;
    gives = subst (λ (z : ℕ). GivesC es ρ (next_number S) (Compare s.is p.is q.is) (next_number T) (21 ∷ z ∷ (p.bytes ++ q.bytes))) s.number (gives-compare es ρ s.is p.gives q.gives);
    grown = grown-then p.grown q.grown;
    uses = uses-then (somes_o p.is) p.grown.level p.uses q.uses;
    wrote = wrote_then (wrote-front made to 21 o room p.wrote) q.wrote;
  }

  pub not-read : (i j k : ℕ) (S T made out : List ℕ) (to end : ℕ) → TokenAt text i j (key NOT) → to < length made → FormulaAt es ρ ws text j k S T (set made to 18) out (to + 1) end IsFactor → FormulaAt es ρ ws text i k S T made out to end IsFactor
  unfolding somes used
  not-read i j k S T made out to end t l f = record {
    is = Not f.is;
    tokens = key NOT ∷ f.tokens;
    bytes = 18 ∷ f.bytes;
    spells = spells_then text t.spells f.spells;
    derived = part-not f.derived;
    gives = gives-not es ρ f.gives;
    grown = f.grown;
    uses = f.uses;
    wrote = wrote_then (wrote_one made to 18 l) f.wrote;
  }

  -- a condition, its parenthesis, and the one before it
  pub bracket-read : (i j k : ℕ) (S T made out : List ℕ) (to end : ℕ) → FormulaAt es ρ ws text i j S T made out to end IsCondition → TokenAt text j k (key right) → FormulaAt es ρ ws text i k S T made out to end IsBracket
  bracket-read i j k S T made out to end f t = record {
    is = f.is;
    tokens = f.tokens ++ (key right ∷ []);
    bytes = f.bytes;
    spells = spells_then text f.spells t.spells;
    derived = part-bracket f.derived;
    gives = f.gives;
    grown = f.grown;
    uses = f.uses;
    wrote = f.wrote;
  }

  pub within-read : (i j k : ℕ) (S T made out : List ℕ) (to end : ℕ) → TokenAt text i j (key left) → FormulaAt es ρ ws text j k S T made out to end IsBracket → FormulaAt es ρ ws text i k S T made out to end IsFactor
  within-read i j k S T made out to end t f = record {
    is = f.is;
    tokens = key left ∷ f.tokens;
    bytes = f.bytes;
    spells = spells_then text t.spells f.spells;
    derived = part-within f.derived;
    gives = f.gives;
    grown = f.grown;
    uses = f.uses;
    wrote = f.wrote;
  }

  -- SOME X IN R ( .. ): X is in the last slot, and closed afterwards
  module _ (S T made : List ℕ) (to : ℕ) (t : Ready S ws ρ) (v q n : ℕ) (p₁ p₂ : ℕ) (x : NameAt text p₁ p₂ v) (a : Absent x.word ws) (few : length ws < 30) (next : next_number S ≡ n) (small : (q < 256) × (n < 200))
      (put : Slotted S T (length ws) v q n (level_now S)) (now : level_now T ≡ level_now S) (then : next_number T ≡ suc n) (many : how_many T ≡ length ws + 1) where
    abbrev bound : List Symbol
    bound = record { word = x.word; relation = q; variable = some n } ∷ ρ

    pub ready-some : Ready T (ws ++ (x.word ∷ [])) bound
    ready-some = record { tabled = tabled-some t.tabled x.word v q n a few x.named x.spelt x.small (small.0, omega (arith, small)) put now; size = many ∙ sym (length-append ws (x.word ∷ [])); next = omega (arith, then, small) }

    pub some_read : (p₀ p₃ p₄ p₅ p₆ u : ℕ) (U out : List ℕ) (end : ℕ) (r : WordAt text p₃ p₄ u) → TokenAt text p₀ p₁ (key SOME) → TokenAt text p₂ p₃ (key IN) → TokenAt text p₄ p₅ (key left) → Named r.word → relation_named es r.word ≡ some q
        → to + 3 ≤ length made → FormulaAt es bound (ws ++ (x.word ∷ [])) text p₅ p₆ T U (set (set (set made to 22) (to + 1) n) (to + 2) q) out (to + 3) end IsBracket
        → FormulaAt es ρ ws text p₀ p₆ S (set U (4 * length ws + 3) 255) made out to end IsFactor
    unfolding somes used
    some_read p₀ p₃ p₄ p₅ p₆ u U out end r e₀ e₁ e₂ d e l f = record {
      is = Some x.word r.word f.is;
      tokens = key SOME ∷ name x.word ∷ key IN ∷ name r.word ∷ key left ∷ f.tokens;
      bytes = 22 ∷ n ∷ q ∷ f.bytes;
      spells = spells_then text e₀.spells (spells_then text x.spells (spells_then text e₁.spells (spells_then text (name-spelled text p₃ p₄ u r d) (spells_then text e₂.spells f.spells))));
      derived = part-some x.word r.word f.derived;
      gives = subst (λ (m : ℕ). GivesC es ρ (next_number S) (Some x.word r.word f.is) m (22 ∷ n ∷ q ∷ f.bytes)) (sym (other 156 (λ z. omega (arith, z, few))))
          (subst (λ (m : ℕ). GivesC es ρ m (Some x.word r.word f.is) (next_number U) (22 ∷ n ∷ q ∷ f.bytes)) (sym next)
          (gives-some es ρ x.word r.word q e (omega (arith, small)) (subst (λ (m : ℕ). GivesC es bound m f.is (next_number U) f.bytes) then f.gives)));
      grown = some-closed t.tabled x.word v q n a few x.named x.spelt x.small (small.0, omega (arith, small)) put now f.grown refl;
      uses = record {
        marked = λ gs os vs z m. marked-same
            (subst (λ (k : ℕ). Marked U gs (vs ++ outside k (used f.is))) now
            (f.uses.marked gs (os ++ (x.word ∷ [])) vs (ap (λ (l : List Word). l ++ (x.word ∷ [])) z ∙ append_assoc gs os (x.word ∷ [])) (marked-same m (less gs os z) (λ i h k. put.above i (omega (arith, h, few)) k))))
            (less gs os z) (λ i h k. other i (λ y. omega (arith, y, h, few)));
      };
      wrote = wrote_then (wrote-three made to 22 n q l) f.wrote;
    }
      where
        other : (i : ℕ) → (i ≡ 4 * length ws + 3 → ⊥) → get_or (set U (4 * length ws + 3) 255) i 0 ≡ get_or U i 0
        other i h = get_or-set_other U (4 * length ws + 3) i 255 0 h

        less : (gs os : List Word) → ws ≡ gs ++ os → length gs ≤ 30
        less gs os z = omega (arith, few, ap length z, fewer gs os)

  -- what is read and written so far, from where the condition began: what stands before the last V, and the conjunct after it
  pub record Sofar (i at : ℕ) (S T made out : List ℕ) (start from to : ℕ) : Type 0 where
    pub before : Option Formula
    pub last : Formula
    pub ts : List Token
    pub us : List Token
    pub xs : List ℕ
    pub ys : List ℕ
    pub between : ℕ
    pub spells : Spells text i at (ts ++ us)
    pub open-part : Opened ts before
    pub last-part : Part IsConjunct us last
    pub counted : Counted es ρ (next_number S) before between xs
    pub gives : GivesC es ρ between last (next_number T) ys
    pub grown : Grown S T ws (somes (joined before last))
    pub uses : Uses S T ws (used (joined before last))
    pub wrote : Wrote made out start to (xs ++ ys)
    pub begins : from ≡ start + length xs

  module _ (i : ℕ) (S made : List ℕ) (start : ℕ) where
    pub sofar-first : (at : ℕ) (T out : List ℕ) (to : ℕ) → FormulaAt es ρ ws text i at S T made out start to IsFactor → Sofar i at S T made out start start to
    sofar-first at T out to f = record {
      before = none;
      last = f.is;
      ts = [];
      us = f.tokens;
      xs = [];
      ys = f.bytes;
      between = next_number S;
      spells = f.spells;
      open-part = opened-none;
      last-part = part-factor f.derived;
      counted = counted_none es ρ (next_number S);
      gives = f.gives;
      grown = f.grown;
      uses = f.uses;
      wrote = f.wrote;
      begins = omega arith;
    }

    module _ (at : ℕ) (T out : List ℕ) (from to : ℕ) (s : Sofar i at S T made out start from to) where
      abbrev whole : Formula
      whole = joined s.before s.last

      pub sofar-end : FormulaAt es ρ ws text i at S T made out start to IsCondition
      sofar-end = record {
        is = whole;
        tokens = s.ts ++ s.us;
        bytes = s.xs ++ s.ys;
        spells = s.spells;
        derived = part-condition s.open-part s.last-part;
        gives = s.counted.gives s.last (next_number T) s.ys s.gives;
        grown = s.grown;
        uses = s.uses;
        wrote = s.wrote;
      }

      pub sofar-places : (start ≤ from) × (from ≤ to)
      sofar-places = (omega (arith, s.begins), omega (arith, s.begins, s.wrote.ends, length-append s.xs s.ys))

      -- the symbols of what comes next are those of what is read, with further ones
      pub sofar-ready : Ready S ws ρ → Ready T (ws ++ somes whole) ρ
      sofar-ready t = ready-grown t s.grown

      module _ (room : start ≤ length made) (next : ℕ) (U out₁ out₂ : List ℕ) (to₂ : ℕ) where
        front : List ℕ
        front = take start made

        front_length : length front ≡ start
        unfolding front
        front_length = length-take-le start made room

        -- what was written, cut at the conjunct and at the condition
        cut-take : (k : ℕ) (p q : List ℕ) → take to out ≡ p ++ q → length p ≡ k → k ≤ to → (take k out ≡ p) × (drop k (take to out) ≡ q)
        cut-take k p q e l m = (sym (take-take k to out m) ∙ ap (take k) e ∙ take_at p q k l, ap (drop k) e ∙ drop_at p q k l)

        -- one factor more after a ^
        pub sofar-and : (j : ℕ) → TokenAt text at j (key and) → take (to + 1) out₁ ≡ take from out ++ (19 ∷ drop from (take to out)) → FormulaAt es ρ (ws ++ somes whole) text j next T U out₁ out₂ (to + 1) to₂ IsFactor
            → Sofar i next S U made out₂ start from to₂
        unfolding somes used front
        sofar-and j t w f =
            let c = cut-take from (front ++ s.xs) s.ys (s.wrote.written ∙ sym (append_assoc front s.xs s.ys)) (length-append front s.xs ∙ omega (arith, front_length, s.begins)) sofar-places.1 in
            record {
              before = s.before;
              last = And s.last f.is;
              ts = s.ts;
              us = s.us ++ (key and ∷ f.tokens);
              xs = s.xs;
              ys = 19 ∷ (s.ys ++ f.bytes);
              between = s.between;
              spells = subst (Spells text i next) (append_assoc s.ts s.us (key and ∷ f.tokens)) (spells_then text s.spells (spells_then text t.spells f.spells));
              open-part = s.open-part;
              last-part = part-and s.last-part f.derived;
              counted = s.counted;
              gives = gives-and es ρ s.gives f.gives;
              grown = subst (Grown S U ws) (somes-and s.before s.last f.is) (grown-then s.grown f.grown);
              uses = subst (Uses S U ws) (used-and s.before s.last f.is) (uses-then (somes whole) s.grown.level s.uses f.uses);
              wrote = record {
                written = f.wrote.written ∙ ap (λ (v : List ℕ). v ++ f.bytes) (w ∙ ap₂ (λ (p q : List ℕ). p ++ (19 ∷ q)) c.0 c.1) ∙ append_assoc (front ++ s.xs) (19 ∷ s.ys) f.bytes ∙ append_assoc front s.xs (19 ∷ (s.ys ++ f.bytes));
                ends = omega (arith, f.wrote.ends, s.wrote.ends, length-append s.xs s.ys, length-append s.ys f.bytes, length-append s.xs (19 ∷ (s.ys ++ f.bytes)));
              };
              begins = s.begins;
            }
          where
            somes-and : (o : Option Formula) (a b : Formula) → somes (joined o a) ++ somes b ≡ somes (joined o (And a b))
            somes-and none a b = refl
            somes-and (some c) a b = append_assoc (somes c) (somes a) (somes b)

            used-and : (o : Option Formula) (a b : Formula) → used (joined o a) ++ used b ≡ used (joined o (And a b))
            used-and none a b = refl
            used-and (some c) a b = append_assoc (used c) (used a) (used b)

        -- one conjunct more after a V
        pub sofar-or : (j : ℕ) → TokenAt text at j (key or) → take (to + 1) out₁ ≡ take start out ++ (20 ∷ drop start (take to out)) → FormulaAt es ρ (ws ++ somes whole) text j next T U out₁ out₂ (to + 1) to₂ IsFactor
            → Sofar i next S U made out₂ start (to + 1) to₂
        unfolding somes used front
        sofar-or j t w f =
            let c = cut-take start front (s.xs ++ s.ys) s.wrote.written front_length (omega (arith, sofar-places)) in
            record {
              before = some whole;
              last = f.is;
              ts = s.ts ++ (s.us ++ (key or ∷ []));
              us = f.tokens;
              xs = 20 ∷ (s.xs ++ s.ys);
              ys = f.bytes;
              between = next_number T;
              spells = subst (Spells text i next) tokens-of (spells_then text s.spells (spells_then text t.spells f.spells));
              open-part = opened-or s.open-part s.last-part;
              last-part = part-factor f.derived;
              counted = counted-or es ρ s.counted s.gives;
              gives = f.gives;
              grown = grown-then s.grown f.grown;
              uses = uses-then (somes whole) s.grown.level s.uses f.uses;
              wrote = record {
                written = f.wrote.written ∙ ap (λ (v : List ℕ). v ++ f.bytes) (w ∙ ap₂ (λ (p q : List ℕ). p ++ (20 ∷ q)) c.0 c.1) ∙ append_assoc front (20 ∷ (s.xs ++ s.ys)) f.bytes;
                ends = omega (arith, f.wrote.ends, s.wrote.ends, length-append (20 ∷ (s.xs ++ s.ys)) f.bytes);
              };
              begins = omega (arith, s.wrote.ends);
            }
          where
            tokens-of : (s.ts ++ s.us) ++ (key or ∷ f.tokens) ≡ (s.ts ++ (s.us ++ (key or ∷ []))) ++ f.tokens
            tokens-of = append_assoc s.ts s.us (key or ∷ f.tokens) ∙ ap (λ (l : List Token). s.ts ++ l) (sym (append_assoc s.us (key or ∷ []) f.tokens)) ∙ sym (append_assoc s.ts (s.us ++ (key or ∷ [])) f.tokens)

  -- where a factor is to come: whatever factor is read there is part of the condition
  pub record Pending (i at : ℕ) (S T made out : List ℕ) (start from to : ℕ) : Type 0 where
    pub more : List Word
    pub ready : Ready T (ws ++ more) ρ
    pub then : (j : ℕ) (U last : List ℕ) (end : ℕ) → FormulaAt es ρ (ws ++ more) text at j T U out last to end IsFactor → Sofar i j S U made last start from end

  pub pending-first : (i : ℕ) (S made : List ℕ) (start : ℕ) → Ready S ws ρ → Pending i i S S made made start start start
  pending-first i S made start t = record {
    more = [];
    ready = subst (λ (vs : List Word). Ready S vs ρ) (sym (append-nil ws)) t;
    then = λ j U last end f. sofar-first i S made start j U last end (subst (λ (vs : List Word). FormulaAt es ρ vs text i j S U made last start end IsFactor) (append-nil ws) f);
  }

  module _ (i : ℕ) (S made : List ℕ) (start : ℕ) (t : Ready S ws ρ) (room : start ≤ length made) (at : ℕ) (T out : List ℕ) (from to : ℕ) (s : Sofar i at S T made out start from to) (j : ℕ) (out₁ : List ℕ) where
    pub pending-and : TokenAt text at j (key and) → take (to + 1) out₁ ≡ take from out ++ (19 ∷ drop from (take to out)) → Pending i j S T made out₁ start from (to + 1)
    pending-and k w = record {
      more = somes (joined s.before s.last);
      ready = sofar-ready i S made start at T out from to s t;
      then = λ next U last end f. sofar-and i S made start at T out from to s room next U out₁ last end j k w f;
    }

    pub pending-or : TokenAt text at j (key or) → take (to + 1) out₁ ≡ take start out ++ (20 ∷ drop start (take to out)) → Pending i j S T made out₁ start (to + 1) (to + 1)
    pending-or k w = record {
      more = somes (joined s.before s.last);
      ready = sofar-ready i S made start at T out from to s t;
      then = λ next U last end f. sofar-or i S made start at T out from to s room next U out₁ last end j k w f;
    }

  -- where a factor is to come after NOTs
  pub record Negated (i at : ℕ) (S made out : List ℕ) (start to : ℕ) : Type 0 where
    pub then : (j : ℕ) (T last : List ℕ) (end : ℕ) → FormulaAt es ρ ws text at j S T out last to end IsFactor → FormulaAt es ρ ws text i j S T made last start end IsFactor

  pub negated-none : (i : ℕ) (S made : List ℕ) (to : ℕ) → Negated i i S made made to to
  negated-none i S made to = record { then = λ j T last end f. f }

  pub negated-more : (i at j : ℕ) (S made out : List ℕ) (start to : ℕ) → Negated i at S made out start to → TokenAt text at j (key NOT) → to < length out → Negated i j S made (set out to 18) start (to + 1)
  negated-more i at j S made out start to n t l = record { then = λ k T last end f. n.then k T last end (not-read at j k S T out last to end t l f) }
