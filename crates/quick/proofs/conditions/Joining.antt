-- What the steps that read conditions promise, way by way.
use Prim.Native.Nat.{ℕ, zero, suc, ◌+◌, ◌*◌, ◌%◌, ◌≤◌, ◌<◌}
use mathlib.Core.List.{List, [], ◌∷◌, ◌++◌}
use mathlib.Core.Option.{some}
use mathlib.Core.Path.{◌≡◌, refl, sym, ◌∙◌, ap, subst}
use native.Mathlib.Omega.{arith}
use native.Mathlib.Numerals.{add-one}
use lib.ListN.{length, get_or, set, take, drop, length-set}
use lib.Seq.{get_or-set_same, get_or-set_other}
use Rattle.quel.specs.Results.{ok, Word}
use Rattle.quel.specs.Tokens.{Token, key, NOT, SOME, and, or, left, right, reserved, token, sign_in}
use Rattle.quel.specs.Grammar.{IsFactor, IsCondition}
use Rattle.quel.specs.Elaboration.{Symbol, somes_o}
use Rattle.tokens.specs.Spans.{positional}
use Rattle.tokens.specs.Kinds.{kind_spelled}
use Rattle.tokens.specs.Table.{token_of}
use Rattle.names.specs.Entries.{entries}
use Rattle.parts.specs.Parts.{Copied, IsBracket}
use Rattle.parts.specs.Places.{WordAt, NameAt, TokenAt, SignAt}
use Rattle.parts.specs.Table.{level_now, next_number, how_many, Ready, Slotted}
use Rattle.parts.specs.Reads.{FormulaAt}
use Rattle.parts.proofs.Held.{not_found, ready-grown}
use Rattle.parts.proofs.Conditions.{compared-read, bracket-read, within-read, ready-some, some_read, Sofar, sofar-end, Pending, pending-first, pending-and, pending-or, Negated, negated-none, negated-more}
use Rattle.quick.specs.Lexis.{RelationAt}
use Rattle.quick.proofs.lexis.Standing.{key_here}
use Rattle.quick.specs.Steps.{Formed, FormedFrom, TermedFrom, SomeAfter, Entered, SomePut, three_at}
use Rattle.quick.proofs.terms.Reading.{three-long}

-- two words behind the symbols, after the slot
later : (S T : List ℕ) (k v q n l a b : ℕ) → length S ≡ 160 → k < 30 → Slotted S T k v q n l → Slotted S (set (set T 157 a) 156 b) k v q n l
later S T k v q n l a b long few s = record {
  long = length-set (set T 157 a) 156 b ∙ length-set T 157 a ∙ s.long;
  code = other (4 * k) (omega arith) ∙ s.code;
  relation = other (4 * k + 1) (omega arith) ∙ s.relation;
  number = other (4 * k + 2) (omega arith) ∙ s.number;
  level = other (4 * k + 3) (omega arith) ∙ s.level;
  below = λ i h. other i (omega arith) ∙ s.below i h;
  above = λ i h m. other i m ∙ s.above i h m;
}
  where
    other : (i : ℕ) → i < 155 → get_or (set (set T 157 a) 156 b) i 0 ≡ get_or T i 0
    other i h = get_or-set_other (set T 157 a) 156 i b 0 (λ e. omega (arith, e, h)) ∙ get_or-set_other T 157 i a 0 (λ e. omega (arith, e, h))

pub entered : (S T made : List ℕ) (to x n q r : ℕ) → length S ≡ 160 → how_many S < 30 → next_number S ≤ 199 → length made ≡ 1024 → n ≡ next_number S % 256 → r ≡ q → q < 256
    → Slotted S T (how_many S) x r (next_number S) (level_now S) → ((j : ℕ) → 155 ≤ j → get_or T j 0 ≡ get_or S j 0)
    → Entered S (set (set T 157 (how_many S + 1)) 156 (next_number S + 1)) made (three_at made to 22 n q) to x q
entered S T made to x n q r long few small wide en er byte slot rest = record {
  long = length-set (set T 157 (how_many S + 1)) 156 (next_number S + 1) ∙ length-set T 157 (how_many S + 1) ∙ slot.long ∙ long;
  wide = three-long made to 22 n q ∙ wide;
  byte = byte;
  bound = later S T (how_many S) x q (next_number S) (level_now S) (how_many S + 1) (next_number S + 1) long few (subst (λ (z : ℕ). Slotted S T (how_many S) x z (next_number S) (level_now S)) er slot);
  now = get_or-set_other (set T 157 (how_many S + 1)) 156 155 (next_number S + 1) 0 (λ e. omega (arith, e)) ∙ get_or-set_other T 157 155 (how_many S + 1) 0 (λ e. omega (arith, e)) ∙ rest 155 (omega arith);
  next = get_or-set_same (set T 157 (how_many S + 1)) 156 (next_number S + 1) 0 (omega (arith, length-set T 157 (how_many S + 1), slot.long, long)) ∙ add-one (next_number S);
  many = get_or-set_other (set T 157 (how_many S + 1)) 156 157 (next_number S + 1) 0 (λ e. omega (arith, e)) ∙ get_or-set_same T 157 (how_many S + 1) 0 (omega (arith, slot.long, long));
  wrote = ap (λ (z : ℕ). three_at made to 22 z q) (en ∙ (let z : next_number S % 256 ≡ next_number S = omega (arith, small) in z));
}

-- a condition and its parenthesis
pub bracket-reads : (text list S T made out : List ℕ) (i to m j end : ℕ) → Formed text list S T made out i to m end IsCondition → 1 ≤ m
    → ((given : List ℕ) (t : Token) → Copied text given → ((x : List ℕ) → token 41 x ≡ ok t x) → TokenAt given m j t) → Formed text list S T made out i to j end IsBracket
unfolding token sign_in
bracket-reads text list S T made out i to m j end f l p = record {
  reads = λ given ρ ws c t h. bracket-read (entries list) ρ ws given i m j S T made out to end (f.reads given ρ ws c t l) (p given (key right) c (λ x. refl));
}

-- a comparison
pub compared-reads : (text list S S₁ T made out last : List ℕ) (i to a x o j y e v e₂ v₂ k : ℕ) → TermedFrom text list S S₁ made out i (to + 2) a x e v → 1 ≤ a
    → ((given : List ℕ) → Copied text given → SignAt given a o k) → TermedFrom text list S₁ T (set (set out to 21) (to + 1) k) last o x j y e₂ v₂
    → ((given : List ℕ) → Copied text given → 1 ≤ e₂ → WordAt given o e₂ v₂) → length made ≡ 1024 → to ≤ 980 → FormedFrom text list S T made last i to j y e v
compared-reads text list S S₁ T made out last i to a x o j y e v e₂ v₂ k first one sign second word wide room = record {
  reads = λ given ρ ws c t w h.
      let p = first.reads given ρ ws c t w one in
      compared-read (entries list) ρ ws given i a o j k S S₁ T made out last to x y p (sign given c) (second.reads given ρ (ws ++ somes_o p.is) c (ready-grown t p.grown) (word given c) h) (omega (arith, wide, room));
}

-- SOME X IN R ( .. ), after SOME
pub some-reads : (text list S T U made out₁ out : List ℕ) (i to n m j end v u : ℕ) → length made ≡ 1024 → to ≤ 980 → ((given : List ℕ) → Copied text given → NameAt given i n v)
    → ((given : List ℕ) → Copied text given → RelationAt given n m u) → SomePut list S T made out₁ to v u → Formed text list T U out₁ out m (to + 3) j end IsBracket
    → SomeAfter text list S (set U (4 * how_many S + 3) 255) made out i to j end
some-reads text list S T U made out₁ out i to n m j end v u wide room name relation p f = record { reads = go }
  where
    go : (given : List ℕ) (ρ : List Symbol) (ws : List Word) (h : ℕ) → Copied text given → Ready S ws ρ → TokenAt given h i (key SOME) → 1 ≤ j → FormulaAt (entries list) ρ ws given h j S (set U (4 * how_many S + 3) 255) made out to end IsFactor
    go given ρ ws h c t s z =
        let x = name given c in
        let r = relation given c in
        let e = p.entered in
        let absent = not_found t.tabled.words x.word v p.slot x.spelt p.free p.none-there in
        let few : length ws < 30 = omega (arith, p.few, t.size) in
        let put = subst (λ (k : ℕ). Slotted S T k v p.relation (next_number S) (level_now S)) t.size e.bound in
        let many : how_many T ≡ length ws + 1 = e.many ∙ ap (λ (k : ℕ). k + 1) t.size in
        let b = f.reads given (record { word = x.word; relation = p.relation; variable = some (next_number S) } ∷ ρ) (ws ++ (x.word ∷ [])) c
        (ready-some (entries list) ρ ws given S T made to t v p.relation (next_number S) i n x absent few refl (e.byte, p.less) put e.now e.next many) z in
        let said = p.named r.relation.word r.relation.spelt in
        subst (λ (k : ℕ). FormulaAt (entries list) ρ ws given h j S (set U (4 * k + 3) 255) made out to end IsFactor) (sym t.size)
        (some_read (entries list) ρ ws given S T made to t v p.relation (next_number S) i n x absent few refl (e.byte, p.less) put e.now e.next many h r.p r.q m j u U out end r.relation s r.in-word r.opens said.0 said.1
        (omega (arith, wide, room))
        (subst (λ (o : List ℕ). FormulaAt (entries list) (record { word = x.word; relation = p.relation; variable = some (next_number S) } ∷ ρ) (ws ++ (x.word ∷ [])) given m j T U o out (to + 3) end IsBracket) e.wrote b))

-- where a factor is to come, in a factor
pub record Negs (text list S made out : List ℕ) (i at start to : ℕ) : Type 0 where
  pub reads : (given : List ℕ) (ρ : List Symbol) (ws : List Word) → Copied text given → Negated (entries list) ρ ws given i at S made out start to

pub negs-none : (text list S made : List ℕ) (i to : ℕ) → Negs text list S made made i i to to
negs-none text list S made i to = record { reads = λ given ρ ws c. negated-none (entries list) ρ ws given i S made to }

only_code : (n v k : ℕ) → (n ≡ 0 → v ≡ 0) → v ≡ suc k → 1 ≤ n
only_code zero v k h e = absurd (omega (arith, h refl, e))
only_code (suc n) v k h e = omega arith

module _ (text list S made out : List ℕ) (i at start to : ℕ) (n : Negs text list S made out i at start to) where
  module _ (w v : ℕ) (word : (given : List ℕ) → Copied text given → 1 ≤ w → WordAt given at w v) (some-there : w ≡ 0 → v ≡ 0) where
    pub not_there : v ≡ 26747 → 1 ≤ w
    not_there e = only_code w v 26746 some-there e

    pub some_word : v ≡ 783124 → 1 ≤ w
    some_word e = only_code w v 783123 some-there e

    pub negs-more : v ≡ 26747 → to < length out → Negs text list S made (set out to 18) i w start (to + 1)
    unfolding token_of kind_spelled positional
    negs-more e l = record { reads = λ given ρ ws c. negated-more (entries list) ρ ws given i at w S made out start to (n.reads given ρ ws c) (key_here given at w v (word given c (not_there e)) 15 (key NOT) (ap (kind_spelled reserved) e) (λ w. refl)) l }

    pub negs-some : (S' T last : List ℕ) (j end : ℕ) → S' ≡ S → v ≡ 783124 → SomeAfter text list S' T out last w to j end → Formed text list S T made last i start j end IsFactor
    unfolding token_of kind_spelled positional
    negs-some S' T last j end q e f' =
        let f = subst (λ (z : List ℕ). SomeAfter text list z T out last w to j end) q f' in record {
          reads = λ given ρ ws c t h. (n.reads given ρ ws c).then j T last end
              (f.reads given ρ ws at c t (key_here given at w v (word given c (some_word e)) 16 (key SOME) (ap (kind_spelled reserved) e) (λ w. refl)) h);
        }

    pub negs-compared : (S' T last : List ℕ) (j end : ℕ) → S' ≡ S → FormedFrom text list S' T out last at to j end w v → Formed text list S T made last i start j end IsFactor
    negs-compared S' T last j end q f' =
        let f = subst (λ (z : List ℕ). FormedFrom text list z T out last at to j end w v) q f' in record { reads = λ given ρ ws c t h. (n.reads given ρ ws c).then j T last end (f.reads given ρ ws c t (word given c) h) }

  pub negs-within : (S' T last : List ℕ) (p j end : ℕ) → S' ≡ S → ((given : List ℕ) (t : Token) → Copied text given → ((x : List ℕ) → token 40 x ≡ ok t x) → TokenAt given at p t)
      → Formed text list S' T out last p to j end IsBracket → Formed text list S T made last i start j end IsFactor
  unfolding token sign_in
  negs-within S' T last p j end z q f' =
      let f = subst (λ (y : List ℕ). Formed text list y T out last p to j end IsBracket) z f' in record {
        reads = λ given ρ ws c t h. (n.reads given ρ ws c).then j T last end (within-read (entries list) ρ ws given at p j S T out last to end (q given (key left) c (λ x. refl)) (f.reads given ρ ws c t h));
      }

-- where a factor is to come, in a condition
pub record Pended (text list S T made out : List ℕ) (i at start from to : ℕ) : Type 0 where
  pub reads : (given : List ℕ) (ρ : List Symbol) (ws : List Word) → Copied text given → Ready S ws ρ → Pending (entries list) ρ ws given i at S T made out start from to

pub pended-first : (text list S made : List ℕ) (i start : ℕ) → Pended text list S S made made i i start start start
pended-first text list S made i start = record { reads = λ given ρ ws c t. pending-first (entries list) ρ ws given i S made start t }

module _ (text list S T U made out last : List ℕ) (i at start from to j end : ℕ) (p : Pended text list S T made out i at start from to) (f : Formed text list T U out last at to j end IsFactor) (one : 1 ≤ j) where
  sofar : (given : List ℕ) (ρ : List Symbol) (ws : List Word) → Copied text given → Ready S ws ρ → Sofar (entries list) ρ ws given i j S U made last start from end
  sofar given ρ ws c t = let d = p.reads given ρ ws c t in d.then j U last end (f.reads given ρ (ws ++ d.more) c d.ready one)

  pub pended-end : Formed text list S U made last i start j end IsCondition
  pended-end = record { reads = λ given ρ ws c t h. sofar-end (entries list) ρ ws given i S made start j U last from end (sofar given ρ ws c t) }

  module _ (room : start ≤ length made) (m : ℕ) (put : List ℕ) where
    pub pended-and : ((given : List ℕ) (t : Token) → Copied text given → ((x : List ℕ) → token 94 x ≡ ok t x) → TokenAt given j m t) → take (end + 1) put ≡ take from last ++ (19 ∷ drop from (take end last))
        → Pended text list S U made put i m start from (end + 1)
    unfolding token sign_in
    pended-and q w = record { reads = λ given ρ ws c t. pending-and (entries list) ρ ws given i S made start t room j U last from end (sofar given ρ ws c t) m put (q given (key and) c (λ x. refl)) w }

    pub pended-or : ((given : List ℕ) → Copied text given → TokenAt given j m (key or)) → take (end + 1) put ≡ take start last ++ (20 ∷ drop start (take end last)) → Pended text list S U made put i m start (end + 1) (end + 1)
    pended-or q w = record { reads = λ given ρ ws c t. pending-or (entries list) ρ ws given i S made start t room j U last from end (sofar given ρ ws c t) m put (q given c) w }

pub two-long : (m : List ℕ) (i a j b : ℕ) → length m ≡ 1024 → length (set (set m i a) j b) ≡ 1024
two-long m i a j b l = length-set (set m i a) j b ∙ length-set m i a ∙ l
