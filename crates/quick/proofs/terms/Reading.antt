-- What the steps that read terms promise, way by way.
use Prim.Native.Nat.{ℕ, zero, suc, ◌+◌, ◌*◌, ◌-◌, ◌%◌, ◌/◌, ◌≤◌, ◌<◌}
use mathlib.Core.List.{List}
use mathlib.Core.Path.{◌≡◌, refl, sym, ◌∙◌, ap, ap₂, subst}
use native.Mathlib.Omega.{arith}
use native.Mathlib.Numerals.{add-one}
use lib.ListN.{length, get_or, set, length-set}
use lib.Seq.{get_or-set_same, get_or-set_other}
use Rattle.quel.specs.Results.{ok, Word}
use Rattle.quel.specs.Tokens.{Token, number, key, left, right, semicolon, point, token, sign_in}
use Rattle.quel.specs.Names.{attribute_named, value_named}
use Rattle.quel.specs.Elaboration.{Symbol, inside}
use Rattle.tokens.specs.Codes.{Spelt}
use Rattle.names.specs.Entries.{entries}
use Rattle.parts.specs.Parts.{Copied, IsBracket}
use Rattle.parts.specs.Places.{WordAt, TokenAt, FunctionAt}
use Rattle.parts.specs.Table.{code_at, relation_at, number_at, level_at, level_now, next_number, how_many, word_at, seen, Ready, Slotted, Finds}
use Rattle.parts.specs.Reads.{OperandAt, ClosedAt}
use Rattle.parts.proofs.Held.{found-slot, grown-still}
use Rattle.parts.proofs.Terms.{number_read, value_read, use-read, ready-next, closed-plain, closed-if, ready-inside, aggregate-read, uses-none}
use Rattle.quick.specs.Index.{Told, bytes_at}
use Rattle.quick.specs.Lexis.{AttributeAt}
use Rattle.quick.specs.Steps.{Went, Formed, TermedFrom, UseAfter, AggregateAfter, Closed, ClosedAfter, Constant, ValueAt, five_at, three_at}

-- giving up
pub lost : (i to : ℕ) (T out : List ℕ) → length T ≡ 160 → length out ≡ 1024 → Went i to 0 0 T out
lost i to T out l w = record { inside = omega arith; on = λ h. absurd (omega (arith, h)); more = λ h. absurd (omega (arith, h)); long = l; wide = w }

five-long : (m : List ℕ) (to k a b c d : ℕ) → length (five_at m to k a b c d) ≡ length m
five-long m to k a b c d =
    length-set (set (set (set (set m to k) (to + 1) a) (to + 2) b) (to + 3) c) (to + 4) d ∙ length-set (set (set (set m to k) (to + 1) a) (to + 2) b) (to + 3) c
    ∙ length-set (set (set m to k) (to + 1) a) (to + 2) b ∙ length-set (set m to k) (to + 1) a ∙ length-set m to k

pub five-wide : (m out : List ℕ) (to k a b c d : ℕ) → out ≡ five_at m to k a b c d → length m ≡ 1024 → length out ≡ 1024
five-wide m out to k a b c d e l = ap length e ∙ five-long m to k a b c d ∙ l

pub three-long : (m : List ℕ) (to k a b : ℕ) → length (three_at m to k a b) ≡ length m
three-long m to k a b = length-set (set (set m to k) (to + 1) a) (to + 2) b ∙ length-set (set m to k) (to + 1) a ∙ length-set m to k

-- a constant
pub constant-read : (text list made out : List ℕ) (i to j k a b c d : ℕ) → a ≡ k % 256 → b ≡ k / 256 % 256 → c ≡ k / 65536 % 256 → d ≡ k / 16777216 % 256 → length made ≡ 1024 → to ≤ 1000 → ((given : List ℕ) → Copied text given → TokenAt given i j (number k))
    → out ≡ five_at made to 32 a b c d → Constant text list made out i to j (to + 5)
constant-read text list made out i to j k a b c d ea eb ec ed l m f e = record {
  reads = λ given S ρ ws c t h. subst (λ (o : List ℕ). OperandAt (entries list) ρ ws given i j S S made o to (to + 5)) (sym (e ∙ rw (ea, eb, ec, ed))) (number_read (entries list) ρ ws given i j S made to t k (f given c) (omega (arith, l, m)));
}

pub value-reads : (list made out : List ℕ) (to j v p : ℕ) → length made ≡ 1024 → to ≤ 1000 → p < length list → ((w : Word) → Spelt w v → Told list w p (value_named (entries list) w) (bytes_at list p))
    → out ≡ five_at made to 32 (get_or list (p + 1) 0) (get_or list (p + 2) 0) (get_or list (p + 3) 0) (get_or list (p + 4) 0) → ValueAt list made out to j (to + 5) v
value-reads list made out to j v p l m q f e = record {
  reads = λ given i S ρ ws t w. subst (λ (o : List ℕ). OperandAt (entries list) ρ ws given i j S S made o to (to + 5)) (sym e)
      (value_read (entries list) ρ ws given i j S made to t v (get_or list (p + 1) 0) (get_or list (p + 2) 0) (get_or list (p + 3) 0) (get_or list (p + 4) 0) w ((f w.word w.spelt).named q) ((f w.word w.spelt).found q) (omega (arith, l, m)));
}

-- a symbol marked
by_level : {P : Type 0} (n : ℕ) → (n ≡ 0 → P) → ((n ≡ 0 → ⊥) → P) → P
by_level zero f g = f refl
by_level (suc n) f g = g (λ e. omega (arith, e))

module _ (S T : List ℕ) (k : ℕ) (few : k < 30) (t₀ : level_now S ≡ 0 → T ≡ set S (124 + k) 1) (t₁ : (level_now S ≡ 0 → ⊥) → T ≡ S) where
  marked-number : number_at T k ≡ number_at S k
  marked-number = by_level (level_now S) (λ z. ap (λ (u : List ℕ). number_at u k) (t₀ z) ∙ get_or-set_other S (124 + k) (4 * k + 2) 1 0 (λ y. omega (arith, y, few))) (λ z. ap (λ (u : List ℕ). number_at u k) (t₁ z))

  pub marked-long : length T ≡ length S
  marked-long = by_level (level_now S) (λ z. ap length (t₀ z) ∙ length-set S (124 + k) 1) (λ z. ap length (t₁ z))

-- X.A in the slot k
pub use-reads : (text list S T made out : List ℕ) (i to j v y k p r n : ℕ) → length made ≡ 1024 → to ≤ 1000 → k < 30 → Finds S v k → level_at S k ≡ level_now S → p < length list
    → ((given : List ℕ) → Copied text given → 1 ≤ j → WordAt given i j y) → r ≡ relation_at S k % 256 → n ≡ number_at T k % 256
    → ((w : Word) → Spelt w y → Told list w p (attribute_named (entries list) r w) (get_or list (p + 2) 0))
    → (level_now S ≡ 0 → T ≡ set S (124 + k) 1) → ((level_now S ≡ 0 → ⊥) → T ≡ S) → out ≡ three_at made to 33 n (get_or list (p + 2) 0) → UseAfter text list S T made out i to j (to + 3) v
use-reads text list S T made out i to j v y k p r n l m few f o q word er en told t₀ t₁ e = record {
  reads = λ given ρ ws h x c t w d z.
      let a = word given c z in
      let slot : k < length ws = found-slot t.tabled.words w.word v k w.spelt (f.hit few) few in
      let b = t.tabled.words.bytes k slot in
      let said = told a.word a.spelt in
      let r-is : r ≡ relation_at S k = omega (arith, er, b) in
      let n-is : n ≡ number_at S k = en ∙ ap (λ (u : ℕ). u % 256) (marked-number S T k few t₀ t₁) ∙ omega (arith, b) in
      subst (λ (u : List ℕ). OperandAt (entries list) ρ ws given h j S T made u to (to + 3)) (sym (e ∙ ap (λ (u : ℕ). three_at made to 33 u (get_or list (p + 2) 0)) n-is))
      (use-read (entries list) ρ ws given h j S made to t x i v y k w d a slot (f.hit few) o (get_or list (p + 2) 0) (said.named q) (ap (λ (u : ℕ). attribute_named (entries list) u a.word) (sym r-is) ∙ said.found q) (omega (arith, l, m)) T t₀ t₁);
}

-- what follows X.A in an aggregate: the end
pub closed-reads : (text list S made : List ℕ) (i to j k : ℕ) → length made ≡ 1024 → to ≤ 1005 → ((given : List ℕ) (t : Token) → Copied text given → ((x : List ℕ) → token 41 x ≡ ok t x) → TokenAt given i j t)
    → Closed text list S S made (set made to 16) i to j (to + 1) k
unfolding token sign_in
closed-reads text list S made i to j k l m p = record {
  reads = λ given ρ ws n c t h o next z. closed-plain (entries list) ρ ws given i i j S made to t n next (omega (arith, next, t.next)) (seen S k (word_at ws k)) (p given (key right) c (λ x. refl)) (omega (arith, l, m));
}

-- or a semicolon, a condition and the end
pub after-reads : (text list S T made out : List ℕ) (i to b j end k : ℕ) → ((given : List ℕ) (t : Token) → Copied text given → ((x : List ℕ) → token 59 x ≡ ok t x) → TokenAt given i b t)
    → ClosedAfter text list S T made out b to j end k → Closed text list S T made out i to j end k
unfolding token sign_in
after-reads text list S T made out i to b j end k p a = record {
  reads = λ given ρ ws n c t h o next z. a.reads given ρ ws n i c t h o next (p given (key semicolon) c (λ x. refl)) z;
}

-- the symbol k, its number and level put in and put back, and the level now
abbrev pub placed : List ℕ → ℕ → ℕ → ℕ → ℕ → List ℕ
placed S k n l w = set (set (set S (4 * k + 2) n) (4 * k + 3) l) 155 w

module _ (S : List ℕ) (k n l w : ℕ) (long : length S ≡ 160) (few : k < 30) where
  abbrev put_in : List ℕ
  put_in = placed S k n l w

  other : (i : ℕ) → (i ≡ 4 * k + 2 → ⊥) → (i ≡ 4 * k + 3 → ⊥) → (i ≡ 155 → ⊥) → get_or put_in i 0 ≡ get_or S i 0
  other i a b c = get_or-set_other (set (set S (4 * k + 2) n) (4 * k + 3) l) 155 i w 0 c ∙ get_or-set_other (set S (4 * k + 2) n) (4 * k + 3) i l 0 b ∙ get_or-set_other S (4 * k + 2) i n 0 a

  pub placed-long : length put_in ≡ 160
  placed-long = length-set (set (set S (4 * k + 2) n) (4 * k + 3) l) 155 w ∙ length-set (set S (4 * k + 2) n) (4 * k + 3) l ∙ length-set S (4 * k + 2) n ∙ long

  placed-slot : Slotted S put_in k (code_at S k) (relation_at S k) n l
  placed-slot = record {
    long = placed-long ∙ sym long;
    code = other (4 * k) (λ e. omega (arith, e)) (λ e. omega (arith, e)) (λ e. omega (arith, e, few));
    relation = other (4 * k + 1) (λ e. omega (arith, e)) (λ e. omega (arith, e)) (λ e. omega (arith, e, few));
    number = get_or-set_other (set (set S (4 * k + 2) n) (4 * k + 3) l) 155 (4 * k + 2) w 0 (λ e. omega (arith, e, few)) ∙ get_or-set_other (set S (4 * k + 2) n) (4 * k + 3) (4 * k + 2) l 0 (λ e. omega (arith, e))
        ∙ get_or-set_same S (4 * k + 2) n 0 (omega (arith, long, few));
    level = get_or-set_other (set (set S (4 * k + 2) n) (4 * k + 3) l) 155 (4 * k + 3) w 0 (λ e. omega (arith, e, few)) ∙ get_or-set_same (set S (4 * k + 2) n) (4 * k + 3) l 0 (omega (arith, length-set S (4 * k + 2) n, long, few));
    below = λ i h. other i (λ e. omega (arith, e, h)) (λ e. omega (arith, e, h)) (λ e. omega (arith, e, h, few));
    above = λ i h m. other i (λ e. omega (arith, e, h)) (λ e. omega (arith, e, h)) (λ e. omega (arith, e, m));
  }

  placed-now : level_now put_in ≡ w
  placed-now = get_or-set_same (set (set S (4 * k + 2) n) (4 * k + 3) l) 155 w 0 (omega (arith, length-set (set S (4 * k + 2) n) (4 * k + 3) l, length-set S (4 * k + 2) n, long))

  placed-next : next_number put_in ≡ next_number S
  placed-next = other 156 (λ e. omega (arith, e, few)) (λ e. omega (arith, e, few)) (λ e. omega (arith, e))

  placed-many : how_many put_in ≡ how_many S
  placed-many = other 157 (λ e. omega (arith, e, few)) (λ e. omega (arith, e, few)) (λ e. omega (arith, e))

pub qualified-reads : (text list S U made out : List ℕ) (i to j end k : ℕ) → length S ≡ 160 → length U ≡ 160 → k < 30 → level_now S ≤ 99
    → Formed text list (placed S k (next_number S - 1) (level_now S + 1) (level_now S + 1)) U made out i to j end IsBracket
    → ClosedAfter text list S (placed U k (number_at S k) (level_at S k) (level_now S)) made out i to j end k
qualified-reads text list S U made out i to j end k long long_u few deep f = record { reads = go }
  where
    l : ℕ
    l = level_now S + 1

    go : (given : List ℕ) (ρ : List Symbol) (ws : List Word) (n h : ℕ) → Copied text given → Ready S ws ρ → k < length ws → (level_at S k ≡ 255 → ⊥) → next_number S ≡ suc n → TokenAt given h i (key semicolon) → 1 ≤ j
        → ClosedAt (entries list) ρ ws given h j S (placed U k (number_at S k) (level_at S k) (level_now S)) made out to end (seen S k (word_at ws k)) n
    go given ρ ws n h c t m o next s z =
        let small : n < 256 = omega (arith, next, t.next) in
        let put = placed-slot S k n l l long few in
        let now = placed-now S k n l l long few in
        let still = placed-next S k n l l long few in
        let many = placed-many S k n l l long few in
        let back = placed-slot U k (number_at S k) (level_at S k) (level_now S) long_u few in
        let g = (subst (λ (v : ℕ). Formed text list (placed S k v l l) U made out i to j end IsBracket) (let e : next_number S - 1 ≡ n = omega (arith, next) in e) f
        ).reads given (inside (seen S k (word_at ws k)) n ρ) ws c (ready-inside (entries list) ρ ws given h i j S made to t n next small k (placed S k n l l) m o (omega (arith, deep)) put now still many) z in
        closed-if (entries list) ρ ws given h i j S made to t n next small k (placed S k n l l) m o (omega (arith, deep)) put now still many U (placed U k (number_at S k) (level_at S k) (level_now S)) out end
        (subst (λ (v : ℕ). Slotted U (placed U k (number_at S k) (level_at S k) (level_now S)) k v (relation_at S k) (number_at S k) (level_at S k)) (g.grown.kept (4 * k) (omega (arith, m)) ∙ put.code)
        (subst (λ (q : ℕ). Slotted U (placed U k (number_at S k) (level_at S k) (level_now S)) k (code_at U k) q (number_at S k) (level_at S k)) (g.grown.kept (4 * k + 1) (omega (arith, m)) ∙ put.relation) back))
        (placed-now U k (number_at S k) (level_at S k) (level_now S) long_u few) (placed-next U k (number_at S k) (level_at S k) (level_now S) long_u few) (placed-many U k (number_at S k) (level_at S k) (level_now S) long_u few) s g

-- an aggregate after its parenthesis: S' has the next number
pub aggregate-reads : (text list S T made out₁ out : List ℕ) (i to p j end f v u k q r n : ℕ) → length S ≡ 160 → length made ≡ 1024 → to ≤ 1000 → k < 30 → code_at S k ≡ v → (level_at S k ≡ 255 → ⊥) → q < length list
    → ((given : List ℕ) → Copied text given → AttributeAt given i p v u) → r ≡ relation_at S k % 256
    → ((w : Word) → Spelt w u → Told list w q (attribute_named (entries list) r w) (get_or list (q + 2) 0)) → next_number S ≤ 199 → n ≡ next_number S % 256
    → out₁ ≡ five_at made to 34 f n r (get_or list (q + 2) 0) → Closed text list (set S 156 (next_number S + 1)) T out₁ out p (to + 5) j end k → AggregateAfter text list S T made out i to j end f
aggregate-reads text list S T made out₁ out i to p j end f v u k q r n long wide room few code open-slot there at er told small en eo c = record { reads = go }
  where
    S' : List ℕ
    S' = set S 156 (next_number S + 1)

    other : (i : ℕ) → (i ≡ 156 → ⊥) → get_or S' i 0 ≡ get_or S i 0
    other i h = get_or-set_other S 156 i (next_number S + 1) 0 h

    same : length S' ≡ length S
    same = length-set S 156 (next_number S + 1)

    next : next_number S' ≡ suc (next_number S)
    next = get_or-set_same S 156 (next_number S + 1) 0 (omega (arith, long)) ∙ add-one (next_number S)

    go : (given : List ℕ) (ρ : List Symbol) (ws : List Word) (h x : ℕ) → Copied text given → Ready S ws ρ → FunctionAt given h x f → TokenAt given x i (key left) → 1 ≤ j → OperandAt (entries list) ρ ws given h j S T made out to end
    go given ρ ws h x cp t fn l z =
        let a = at given cp in
        let t' : Ready S' ws ρ = ready-next t same other (omega (arith, next, small)) in
        let slot : k < length ws = found-slot t.tabled.words a.owner.word v k a.owner.spelt code few in
        let b = t.tabled.words.bytes k slot in
        let rel : relation_at S' k ≡ relation_at S k = other (4 * k + 1) (λ e. omega (arith, e, few)) in
        let r-is : r ≡ relation_at S' k = omega (arith, er, b, rel) in
        let n-is : n ≡ next_number S = omega (arith, en, small) in
        let lev : level_at S' k ≡ level_at S k = other (4 * k + 3) (λ e. omega (arith, e, few)) in
        let said = told a.attribute.word a.attribute.spelt in
        aggregate-read (entries list) ρ ws given h x i a.p a.q p j S S' T made out to end k v u (get_or list (q + 2) 0) f (next_number S) t' fn a.owner a.attribute l a.dot slot
        (other (4 * k) (λ e. omega (arith, e, few)) ∙ code) (λ e. open-slot (sym lev ∙ e)) (said.named there) (ap (λ (z : ℕ). attribute_named (entries list) z a.attribute.word) (sym r-is) ∙ said.found there) refl
        (grown-still t.tabled.words same (λ i m. other i (λ e. omega (arith, e, m))) (other 155 (λ e. omega (arith, e))) (other 157 (λ e. omega (arith, e)) ∙ t.size) (omega (arith, next, small)))
        (uses-none t.tabled.words.few (λ i m o. other i (λ e. omega (arith, e, o)))) (omega (arith, wide, room))
        (subst (λ (o : List ℕ). ClosedAt (entries list) ρ ws given p j S' T o out (to + 5) end (seen S' k (word_at ws k)) (next_number S)) (eo ∙ ap₂ (λ (m s : ℕ). five_at made to 34 f m s (get_or list (q + 2) 0)) n-is r-is)
        (c.reads given ρ ws (next_number S) cp t' slot (λ e. open-slot (sym lev ∙ e)) next z))

-- a term by its first word
module _ (text list S T made out : List ℕ) (i to j end e v : ℕ) where
  pub term-number : e ≡ 0 → Constant text list made out i to j end → TermedFrom text list S S made out i to j end e v
  term-number z c = record { reads = λ given ρ ws k t w h. c.reads given S ρ ws k t h }

  pub term-use : (p : ℕ) → 1 ≤ e → ((given : List ℕ) (t : Token) → Copied text given → ((x : List ℕ) → token 46 x ≡ ok t x) → TokenAt given e p t) → UseAfter text list S T made out p to j end v
      → TermedFrom text list S T made out i to j end e v
  unfolding token sign_in
  term-use p l q u = record { reads = λ given ρ ws k t w h. u.reads given ρ ws i e k t (w l) (q given (key point) k (λ x. refl)) h }

  pub term-aggregate : (p f : ℕ) → 1 ≤ e → ((given : List ℕ) (t : Token) → Copied text given → ((x : List ℕ) → token 40 x ≡ ok t x) → TokenAt given e p t)
      → ((text : List ℕ) (i j : ℕ) → WordAt text i j v → FunctionAt text i j f) → AggregateAfter text list S T made out p to j end f → TermedFrom text list S T made out i to j end e v
  unfolding token sign_in
  term-aggregate p f l q g u = record { reads = λ given ρ ws k t w h. u.reads given ρ ws i e k t (g given i e (w l)) (q given (key left) k (λ x. refl)) h }

  pub term-value : 1 ≤ e → (1 ≤ j → j ≡ e) → (1 ≤ j → ValueAt list made out to e end v) → TermedFrom text list S S made out i to j end e v
  term-value l z u = record { reads = λ given ρ ws k t w h. subst (λ (x : ℕ). OperandAt (entries list) ρ ws given i x S S made out to end) (sym (z h)) ((u h).reads given i S ρ ws t (w l)) }
