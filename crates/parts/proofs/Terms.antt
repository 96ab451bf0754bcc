-- Terms: one law for each way to read one.
use Prim.Native.Nat.{ℕ, zero, suc, ◌+◌, ◌/◌, ◌%◌, ◌≤◌, ◌<◌}
use mathlib.Core.List.{List, [], ◌∷◌, ◌++◌, append_assoc, append-nil}
use mathlib.Core.Option.{some}
use mathlib.Core.Path.{◌≡◌, refl, sym, ◌∙◌, ap, subst}
use native.Mathlib.Omega.{arith}
use native.Mathlib.Numerals.{add-one}
use lib.ListN.{length, get_or, set, take, length-set}
use lib.Seq.{get_or-set_other, get_or-take, get_or_at, length-take-le}
use borrow.Author.Tests.{eq-eqb}
use Rattle.model.specs.Syntax.{Term}
use Rattle.model.specs.Encoding.{encode_t}
use Rattle.quel.specs.Results.{Word}
use Rattle.quel.specs.Tokens.{Token, name, number, function, key, left, right, semicolon, point}
use Rattle.quel.specs.Tree.{Operand, Target, Of, Number, Value, Attribute, Aggregate, AggregateIf}
use Rattle.quel.specs.Grammar.{IsOperand, IsTarget, a-target}
use Rattle.quel.specs.Names.{Entry, attribute_named, value_named}
use Rattle.quel.specs.Elaboration.{function_of, somes, somes_o, somes_t, used, used_o, used_t, Symbol, symbol_in, inside, elaborate_o}
use Rattle.quel.proofs.Results.{ok-value, found-inv}
use Rattle.parts.specs.Parts.{Spells, Part, IsBracket}
use Rattle.parts.specs.Gives.{GivesO, GivesC}
use Rattle.parts.specs.Table.{code_at, relation_at, number_at, level_at, level_now, next_number, how_many, word_at, seen, Ready, Grown, Slotted, Marked, outside}
use Rattle.parts.specs.Places.{Named, WordAt, TokenAt, FunctionAt}
use Rattle.parts.specs.Reads.{Uses, OperandAt, TargetAt, FormulaAt, ClosedAt}
use Rattle.parts.proofs.Cuts.{spells_then}
use Rattle.parts.proofs.Derived.{part-number, part-value, part-use, part-target, part-aggregate, part-aggregate_if}
use Rattle.parts.proofs.Given.{gives-number, gives-value, gives-use, gives-aggregate, gives-aggregate_if}
use Rattle.parts.proofs.Held.{fewer, word-here, look-open, grown-none, grown-still, grown-then, marked-same, marked-use, outside-none, outside-append, ready-grown, tabled-inside, aggregate-left}
use Rattle.parts.proofs.Buffer.{wrote_one, wrote-three, wrote-five, wrote_then}

-- nothing used
pub uses-none : {S T : List ℕ} {ws : List Word} → length ws ≤ 30 → ((i : ℕ) → 124 ≤ i → i < 155 → get_or T i 0 ≡ get_or S i 0) → Uses S T ws []
uses-none {S} {T} {ws} few k = record {
  marked = λ gs os vs e m. subst (Marked T gs) (sym (ap (λ (l : List Word). vs ++ l) (outside-none (level_now S)) ∙ append-nil vs)) (marked-same m (omega (arith, few, ap length e, fewer gs os)) k);
}

-- one part after another
pub uses-then : {S T U : List ℕ} {ws us vs : List Word} (zs : List Word) → level_now T ≡ level_now S → Uses S T ws us → Uses T U (ws ++ zs) vs → Uses S U ws (us ++ vs)
uses-then {S} {T} {U} {ws} {us} {vs} zs l p q = record {
  marked = λ gs os xs e m. subst (Marked U gs)
      (append_assoc xs (outside (level_now S) us) (outside (level_now T) vs) ∙ ap (λ (y : List Word). xs ++ y) (ap (λ (k : ℕ). outside (level_now S) us ++ outside k vs) l ∙ sym (outside-append (level_now S) us vs)))
      (q.marked gs (os ++ zs) (xs ++ outside (level_now S) us) (ap (λ (y : List Word). y ++ zs) e ∙ append_assoc gs os zs) (p.marked gs os xs e m));
}

-- a word that is a name
pub name-spelled : (text : List ℕ) (i j v : ℕ) (w : WordAt text i j v) → Named w.word → Spells text i j (name w.word ∷ [])
name-spelled text i j v w n = subst (λ (t : Token). Spells text i j (t ∷ [])) n w.spells

module _ (es : List Entry) (ρ : List Symbol) (ws : List Word) (text : List ℕ) (i j : ℕ) (S made : List ℕ) (to : ℕ) (t : Ready S ws ρ) where
  abbrev none-used : Uses S S ws []
  none-used = uses-none t.tabled.words.few (λ i l m. refl)

  -- a number
  pub number_read : (k : ℕ) → TokenAt text i j (number k) → to + 5 ≤ length made
      → OperandAt es ρ ws text i j S S made (set (set (set (set (set made to 32) (to + 1) (k % 256)) (to + 2) (k / 256 % 256)) (to + 3) (k / 65536 % 256)) (to + 4) (k / 16777216 % 256)) to (to + 5)
  unfolding somes_o used_o
  number_read k m l = record {
    is = Number k;
    tokens = number k ∷ [];
    bytes = 32 ∷ k % 256 ∷ k / 256 % 256 ∷ k / 65536 % 256 ∷ k / 16777216 % 256 ∷ [];
    spells = m.spells;
    derived = part-number k;
    gives = gives-number es ρ (next_number S) k;
    grown = grown-none t;
    uses = none-used;
    wrote = wrote-five made to 32 (k % 256) (k / 256 % 256) (k / 65536 % 256) (k / 16777216 % 256) l;
  }

  -- a value's name
  pub value_read : (v a b c d : ℕ) (w : WordAt text i j v) → Named w.word → value_named es w.word ≡ some (record { b0 = a; b1 = b; b2 = c; b3 = d }) → to + 5 ≤ length made
      → OperandAt es ρ ws text i j S S made (set (set (set (set (set made to 32) (to + 1) a) (to + 2) b) (to + 3) c) (to + 4) d) to (to + 5)
  unfolding somes_o used_o
  value_read v a b c d w n e l = record {
    is = Value w.word;
    tokens = name w.word ∷ [];
    bytes = 32 ∷ a ∷ b ∷ c ∷ d ∷ [];
    spells = name-spelled text i j v w n;
    derived = part-value w.word;
    gives = gives-value es ρ (next_number S) w.word (record { b0 = a; b1 = b; b2 = c; b3 = d }) e;
    grown = grown-none t;
    uses = none-used;
    wrote = wrote-five made to 32 a b c d l;
  }

  -- X.A: a symbol in the slot k
  module _ (p q v y k : ℕ) (w : WordAt text i p v) (d : TokenAt text p q (key point)) (a : WordAt text q j y) (l : k < length ws) (e : code_at S k ≡ v) (o : level_at S k ≡ level_now S)
      (b : ℕ) (n : Named a.word) (f : attribute_named es (relation_at S k) a.word ≡ some b) (room : to + 3 ≤ length made) where
    here : word_at ws k ≡ w.word
    here = word-here t.tabled w.word v w.spelt k l e

    symbol : symbol_in w.word ρ ≡ some (seen S k w.word)
    symbol = look-open t.tabled w.word v w.spelt k l e (λ z. omega (arith, z, o, t.tabled.shallow))

    own : (seen S k w.word).variable ≡ some (number_at S k)
    own = rw (eq-eqb (level_at S k) (level_now S) o)

    pub use-read : (T : List ℕ) → (level_now S ≡ 0 → T ≡ set S (124 + k) 1) → ((level_now S ≡ 0 → ⊥) → T ≡ S) → OperandAt es ρ ws text i j S T made (set (set (set made to 33) (to + 1) (number_at S k)) (to + 2) b) to (to + 3)
    unfolding somes_o used_o somes_t used_t
    use-read T f₀ f₁ = record {
      is = Of (Attribute w.word a.word);
      tokens = name w.word ∷ key point ∷ name a.word ∷ [];
      bytes = 33 ∷ number_at S k ∷ b ∷ [];
      spells = spells_then text (name-spelled text i p v w (subst Named here (t.tabled.words.named k l))) (spells_then text d.spells (name-spelled text q j y a n));
      derived = part-target (part-use w.word a.word);
      gives = subst (λ (m : ℕ). GivesO es ρ (next_number S) (Of (Attribute w.word a.word)) m (33 ∷ number_at S k ∷ b ∷ [])) (sym (same 156 (λ h. omega (arith, h, l, few))))
          (gives-use es ρ (next_number S) w.word a.word (seen S k w.word) b symbol f (number_at S k) own);
      grown = grown-still t.tabled.words long (λ i h. same i (λ z. omega (arith, z, h))) (same 155 (λ h. omega (arith, h, l, few))) (same 157 (λ h. omega (arith, h, l, few)) ∙ t.size) (omega (arith, same 156 (λ h. omega (arith, h, l, few)), t.next));
      uses = record { marked = λ gs os vs z m. uses gs os vs z m (level_now S) refl };
      wrote = wrote-three made to 33 (number_at S k) b room;
    }
      where
        few : length ws ≤ 30
        few = t.tabled.words.few

        by_level : {P : Type 0} → (T ≡ set S (124 + k) 1 → P) → (T ≡ S → P) → P
        by_level {P} g h = go (level_now S) refl
          where
            go : (z : ℕ) → level_now S ≡ z → P
            go zero z = g (f₀ z)
            go (suc m) z = h (f₁ (λ u. omega (arith, u, z)))

        same : (i : ℕ) → (i ≡ 124 + k → ⊥) → get_or T i 0 ≡ get_or S i 0
        same i h = by_level (λ z. ap (λ (u : List ℕ). get_or u i 0) z ∙ get_or-set_other S (124 + k) i 1 0 h) (λ z. ap (λ (u : List ℕ). get_or u i 0) z)

        long : length T ≡ length S
        long = by_level (λ z. ap length z ∙ length-set S (124 + k) 1) (λ z. ap length z)

        uses : (gs os vs : List Word) → ws ≡ gs ++ os → Marked S gs vs → (m : ℕ) → level_now S ≡ m → Marked T gs (vs ++ outside (level_now S) (w.word ∷ []))
        uses gs os vs z m zero h = subst (λ (u : ℕ). Marked T gs (vs ++ outside u (w.word ∷ []))) (sym h) (subst (λ (u : Word). Marked T gs (vs ++ (u ∷ []))) here (marked-use os k m t.tabled.words z l (f₀ h)))
        uses gs os vs z m (suc u) h = subst (λ (u : ℕ). Marked T gs (vs ++ outside u (w.word ∷ []))) (sym h) (subst (Marked T gs) (sym (append-nil vs)) (subst (λ (c : List ℕ). Marked c gs vs) (sym (f₁ (λ c. omega (arith, c, h)))) m))

-- the next number, and nothing else
pub ready-next : {S T : List ℕ} {ws : List Word} {ρ : List Symbol} → Ready S ws ρ → length T ≡ length S → ((i : ℕ) → (i ≡ 156 → ⊥) → get_or T i 0 ≡ get_or S i 0) → next_number T ≤ 200 → Ready T ws ρ
ready-next {S} {T} {ws} {ρ} t l k y =
    subst (λ (vs : List Word). Ready T vs ρ) (append-nil ws)
    (ready-grown t (grown-still t.tabled.words l (λ i h. k i (λ z. omega (arith, z, h))) (k 155 (λ z. omega (arith, z))) (k 157 (λ z. omega (arith, z)) ∙ t.size) y))

-- what follows X.A in an aggregate that takes the number n
module _ (es : List Entry) (ρ : List Symbol) (ws : List Word) (text : List ℕ) (i p j : ℕ) (S made : List ℕ) (to : ℕ) (t : Ready S ws ρ) (n : ℕ) (next : next_number S ≡ suc n) (small : n < 256) where
  pub closed-plain : (s : Symbol) → TokenAt text i j (key right) → to < length made → ClosedAt es ρ ws text i j S S made (set made to 16) to (to + 1) s n
  unfolding somes_t used_t
  closed-plain s r l = record {
    is = Aggregate;
    tokens = key right ∷ [];
    bytes = 16 ∷ [];
    somes-of = [];
    spells = r.spells;
    derived = part-aggregate;
    gives = λ f x a b e g. subst (λ (m : ℕ). GivesO es ρ n (Of (Aggregate f x a)) m (34 ∷ function_of f ∷ n ∷ s.relation ∷ b ∷ 16 ∷ [])) (sym next) (gives-aggregate es ρ n x a s b e g f small);
    binds = λ f x a. refl;
    no-use = λ f x a. refl;
    grown = grown-none t;
    uses = uses-none t.tabled.words.few (λ i l m. refl);
    wrote = wrote_one made to 16 l;
  }

  -- the symbol in the slot k has the number n and is one level deeper, up to the parenthesis
  module _ (k : ℕ) (S₁ : List ℕ) (l : k < length ws) (o : level_at S k ≡ 255 → ⊥) (deep : level_now S < 100)
      (put : Slotted S S₁ k (code_at S k) (relation_at S k) n (level_now S + 1)) (now : level_now S₁ ≡ level_now S + 1) (still : next_number S₁ ≡ next_number S) (many : how_many S₁ ≡ how_many S) where
    pub ready-inside : Ready S₁ ws (inside (seen S k (word_at ws k)) n ρ)
    ready-inside = record { tabled = tabled-inside t.tabled k n l o put now deep small; size = many ∙ t.size; next = omega (arith, still, t.next) }

    module _ (S₂ T out : List ℕ) (end : ℕ) (back : Slotted S₂ T k (code_at S k) (relation_at S k) (number_at S k) (level_at S k)) (then : level_now T ≡ level_now S) (next₂ : next_number T ≡ next_number S₂) (many₂ : how_many T ≡ how_many S₂) where
      pub closed-if : TokenAt text i p (key semicolon) → FormulaAt es (inside (seen S k (word_at ws k)) n ρ) ws text p j S₁ S₂ made out to end IsBracket → ClosedAt es ρ ws text i j S T made out to end (seen S k (word_at ws k)) n
      unfolding somes_t used_t
      closed-if r c = record {
        is = λ f x a. AggregateIf f x a c.is;
        tokens = key semicolon ∷ c.tokens;
        bytes = c.bytes;
        somes-of = somes c.is;
        spells = spells_then text r.spells c.spells;
        derived = λ f x a. part-aggregate_if f x a c.derived;
        gives = λ f x a b e g. subst (λ (m : ℕ). GivesO es ρ n (Of (AggregateIf f x a c.is)) m (34 ∷ function_of f ∷ n ∷ relation_at S k ∷ b ∷ c.bytes)) (sym next₂)
            (gives-aggregate_if es ρ n x a (seen S k (word_at ws k)) b e g f small (subst (λ (m : ℕ). GivesC es (inside (seen S k (word_at ws k)) n ρ) m c.is (next_number S₂) c.bytes) (still ∙ next) c.gives));
        binds = λ f x a. refl;
        no-use = λ f x a. refl;
        grown = aggregate-left t.tabled k n l o put now deep small c.grown back then many₂ next₂;
        uses = record {
          marked = λ gs os vs e m. subst (λ (u : List Word). Marked T gs (vs ++ u)) (sym (outside-none (level_now S)))
              (marked-same (subst (λ (u : List Word). Marked S₂ gs (vs ++ u)) (ap (λ (u : ℕ). outside u (used c.is)) (now ∙ add-one (level_now S)))
              (c.uses.marked gs os vs e (marked-same m (few gs os e) (λ i a b. put.above i (omega (arith, a, l, t.tabled.words.few)) b))))
              (few gs os e) (λ i a b. back.above i (omega (arith, a, l, t.tabled.words.few)) b));
        };
        wrote = c.wrote;
      }
        where
          few : (gs os : List Word) → ws ≡ gs ++ os → length gs ≤ 30
          few gs os e = omega (arith, t.tabled.words.few, ap length e, fewer gs os)

-- an aggregate: its function, X.A and what follows; S' has the next number
pub aggregate-read : (es : List Entry) (ρ : List Symbol) (ws : List Word) (text : List ℕ) (i p₀ p₁ p₂ p₃ p₄ j : ℕ) (S S' T made out : List ℕ) (to end k v y b o n : ℕ) (t : Ready S' ws ρ)
    (f : FunctionAt text i p₀ o) (x : WordAt text p₁ p₂ v) (a : WordAt text p₃ p₄ y) → TokenAt text p₀ p₁ (key left) → TokenAt text p₂ p₃ (key point) → k < length ws → code_at S' k ≡ v → (level_at S' k ≡ 255 → ⊥)
    → Named a.word → attribute_named es (relation_at S' k) a.word ≡ some b → next_number S ≡ n → Grown S S' ws [] → Uses S S' ws [] → to + 5 ≤ length made
    → ClosedAt es ρ ws text p₄ j S' T (set (set (set (set (set made to 34) (to + 1) o) (to + 2) n) (to + 3) (relation_at S' k)) (to + 4) b) out (to + 5) end (seen S' k (word_at ws k)) n
    → OperandAt es ρ ws text i j S T made out to end
unfolding somes_o used_o
aggregate-read es ρ ws text i p₀ p₁ p₂ p₃ p₄ j S S' T made out to end k v y b o n t f x a e₀ e₁ l e h named g next grow still room c =
    let word : word_at ws k ≡ x.word = word-here t.tabled x.word v x.spelt k l e in
    let symbol : symbol_in x.word ρ ≡ some (seen S' k x.word) = look-open t.tabled x.word v x.spelt k l e h in
    record {
      is = Of (c.is f.is x.word a.word);
      tokens = function f.is ∷ key left ∷ name x.word ∷ key point ∷ name a.word ∷ c.tokens;
      bytes = 34 ∷ o ∷ n ∷ relation_at S' k ∷ b ∷ c.bytes;
      spells = spells_then text f.spells (spells_then text e₀.spells (spells_then text (name-spelled text p₁ p₂ v x (subst Named word (t.tabled.words.named k l)))
          (spells_then text e₁.spells (spells_then text (name-spelled text p₃ p₄ y a named) c.spells))));
      derived = part-target (c.derived f.is x.word a.word);
      gives = subst (λ (m : ℕ). GivesO es ρ m (Of (c.is f.is x.word a.word)) (next_number T) (34 ∷ o ∷ n ∷ relation_at S' k ∷ b ∷ c.bytes)) (sym next)
          (subst (λ (z : ℕ). GivesO es ρ n (Of (c.is f.is x.word a.word)) (next_number T) (34 ∷ z ∷ n ∷ relation_at S' k ∷ b ∷ c.bytes)) f.number
          (c.gives f.is x.word a.word b (symbol ∙ ap (λ (w : Word). some (seen S' k w)) (sym word)) g));
      grown = subst (Grown S T ws) (sym (c.binds f.is x.word a.word)) (grown-then grow (subst (λ (vs : List Word). Grown S' T vs c.somes-of) (sym (append-nil ws)) c.grown));
      uses = subst (Uses S T ws) (sym (c.no-use f.is x.word a.word)) (uses-then [] grow.level still (subst (λ (vs : List Word). Uses S' T vs []) (sym (append-nil ws)) c.uses));
      wrote = wrote_then (wrote-five made to 34 o n (relation_at S' k) b room) c.wrote;
    }

-- a term whose record is no constant's is a target
module _ (es : List Entry) (ρ : List Symbol) (ws : List Word) (text : List ℕ) (i j : ℕ) (S T made out : List ℕ) (to end : ℕ) (room : to ≤ length made) (p : OperandAt es ρ ws text i j S T made out to end) where
  pub as-target : (get_or out to 0 ≡ 32 → ⊥) → TargetAt es ρ ws text i j S T made out to end
  unfolding somes_o used_o elaborate_o encode_t
  as-target h = go p.is p.derived p.gives p.grown p.uses
    where
      -- the record's first byte
      first : (r : List ℕ) → p.bytes ++ [] ≡ 32 ∷ r → get_or out to 0 ≡ 32
      first r e =
          sym (get_or-take end out to 0 (omega (arith, p.wrote.ends, ap length (sym (append-nil p.bytes) ∙ e))))
          ∙ ap (λ (x : List ℕ). get_or x to 0) (p.wrote.written ∙ ap (λ (x : List ℕ). take to made ++ x) (sym (append-nil p.bytes) ∙ e))
          ∙ get_or_at (take to made) 32 r 0 to (length-take-le to made room)

      inner : {ts : List Token} {t : Target} → Part IsOperand ts (Of t) → Part IsTarget ts t
      inner q = record { derived = λ r. back (q.derived r) }
        where
          back : {s r : List Token} {t : Target} → IsOperand s (Of t) r → IsTarget s t r
          back (a-target q) = q

      go : (a : Operand) → Part IsOperand p.tokens a → GivesO es ρ (next_number S) a (next_number T) p.bytes → Grown S T ws (somes_o a) → Uses S T ws (used_o a) → TargetAt es ρ ws text i j S T made out to end
      go (Number k) d g w u = absurd (h (first _ (sym (g.bytes []) ∙ ap (λ (x : Term). encode_t x []) (sym (ok-value g.says)))))
      go (Value w) d g z u = found-inv g.value (next_number T) (value_named es w) _ g.says λ b e f. absurd (h (first _ (sym (g.bytes []) ∙ ap (λ (x : Term). encode_t x []) (sym (ok-value f)))))
      go (Of t) d g w u = record { is = t; tokens = p.tokens; bytes = p.bytes; spells = p.spells; derived = inner d; gives = g; grown = w; uses = u; wrote = p.wrote }
