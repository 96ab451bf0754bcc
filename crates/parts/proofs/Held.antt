-- The table of symbols: looked up, SOME's symbol added and closed, an aggregate's entered and left, and which are used.
use Prim.Native.Nat.{ℕ, zero, suc, ◌+◌, ◌-◌, ◌*◌, ◌≤◌, ◌<◌}
use mathlib.Core.Bool.{Bool, true, false, ◌||◌}
use mathlib.Core.List.{List, [], ◌∷◌, ◌++◌, append_assoc, append-nil, map}
use mathlib.Core.Option.{Option, none, some}
use mathlib.Core.Path.{◌≡◌, refl, sym, ◌∙◌, ap, subst}
use native.Mathlib.Omega.{arith}
use lib.Dec.{eqb, leb}
use lib.ListN.{length, get_or, set, length-append, length-set, get_or-append}
use lib.Seq.{get_or_at, get_or-set_same, get_or-set_other}
use borrow.Author.Tests.{eqb-true, eqb-false, eq-eqb, ne_eqb}
use Rattle.model.specs.Lists.{any}
use Rattle.model.proofs.Tests.{by-lt, any_append, or-false}
use Rattle.quel.specs.Results.{Word, same_word, has_word, unique_words}
use Rattle.quel.specs.Elaboration.{Symbol, symbol_in, head_only, inside}
use Rattle.tokens.specs.Kinds.{code_of}
use Rattle.tokens.specs.Spans.{positional, capped}
use Rattle.tokens.specs.Codes.{Spelt}
use Rattle.tokens.proofs.Values.{capped-exact}
use Rattle.tokens.proofs.Words.{same_number}
use Rattle.buckets.proofs.Laws.{same_word_lem}
use Rattle.parts.specs.Places.{Named}
use Rattle.parts.specs.Table.{code_at, relation_at, number_at, level_at, mark_at, level_now, next_number, how_many, word_at, Words, Finds, seen, held_at, Absent, Tabled, Ready, Grown, Slotted, flag, Marked, outside}

-- words
pub own-word : (w : Word) → same_word w w ≡ true
unfolding same_word
own-word [] = refl
own-word (x ∷ w) = rw (eq-eqb x x refl, own-word w)

pub other_word : (v w : Word) → (v ≡ w → ⊥) → same_word v w ≡ false
other_word v w h = go (same_word v w) refl
  where
    go : (b : Bool) → same_word v w ≡ b → b ≡ false
    go true e = absurd (h (same_word_lem v w e))
    go false e = refl

same_code : (x : Word) (v u : ℕ) → Spelt x v → Spelt x u → v ≡ u
same_code x v u p q = p.code ∙ sym q.code

same-spelt : (w x : Word) (v : ℕ) → Spelt w v → v < 288230376151711744 → Spelt x v → w ≡ x
same-spelt w x v p l q =
    let e = capped-exact (code_of w) v (sym p.code) l in
    same_word_lem w x (sym (same_number w x p.letters (omega (arith, e, l)) q.letters) ∙ eq-eqb (code_of w) (capped (code_of x)) (e ∙ q.code))

-- no word's code is 0
code-some : (n : ℕ) (w : Word) → 1 ≤ n → 1 ≤ positional 26 65 n w
unfolding positional
code-some n [] l = l
code-some n (b ∷ w) l = code-some (26 * n + (b - 65)) w (omega (arith, l))

pub spelt-some : (x : Word) (v : ℕ) → Spelt x v → 1 ≤ v
spelt-some x v s = subst (λ (k : ℕ). 1 ≤ k) (sym s.code) (go (code_of x) (leb (code_of x) 288230376151711744) refl (code-some 1 x (omega arith)))
  where
    go : (c : ℕ) (b : Bool) → leb c 288230376151711744 ≡ b → 1 ≤ c → 1 ≤ capped c
    go c true e l = rw e (l)
    go c false e l = rw e (omega arith)

-- found by the code, or not there
module _ {S : List ℕ} {ws : List Word} (p : Words S ws) (x : Word) (v r : ℕ) (s : Spelt x v) where
  pub found-slot : code_at S r ≡ v → r < 30 → r < length ws
  found-slot e l = by-lt r (length ws) (λ h. h) (λ h. let z = spelt-some x v s in absurd (omega (arith, z, e, p.zeros r h l)))

  pub not_found : Finds S v r → 30 ≤ r → Absent x ws
  not_found f l i h e = f.miss l i (omega (arith, h, p.few)) (λ j k z. let y = spelt-some (word_at ws j) (code_at S j) (p.spelt j (omega arith)) in omega (arith, y, z))
      (same_code x (code_at S i) v (subst (λ (w : Word). Spelt w (code_at S i)) e (p.spelt i h)) s)

-- symbols by their words
pub symbol-first : (s : Symbol) (ρ : List Symbol) → symbol_in s.word (s ∷ ρ) ≡ some s
unfolding symbol_in
symbol-first s ρ = rw (symbol_in, own-word s.word)

pub symbol-later : (s : Symbol) (ρ : List Symbol) (x : Word) → (s.word ≡ x → ⊥) → symbol_in x (s ∷ ρ) ≡ symbol_in x ρ
unfolding symbol_in
symbol-later s ρ x h = rw (symbol_in, other_word s.word x h)

abbrev or_else : Option Symbol → Option Symbol → Option Symbol
or_else o none = o
or_else o (some s) = some s

or-none : (x : Word) (o : Option Symbol) → or_else (symbol_in x []) o ≡ o
unfolding symbol_in
or-none x none = refl
or-none x (some s) = refl

symbol-append : (x : Word) (ρ : List Symbol) (s : Symbol) → symbol_in x (ρ ++ (s ∷ [])) ≡ or_else (symbol_in x (s ∷ [])) (symbol_in x ρ)
unfolding symbol_in
symbol-append x [] s = refl
symbol-append x (z ∷ ρ) s = go (same_word z.word x) refl (symbol-append x ρ s)
  where
    go : (b : Bool) → same_word z.word x ≡ b → symbol_in x (ρ ++ (s ∷ [])) ≡ or_else (symbol_in x (s ∷ [])) (symbol_in x ρ) → symbol_in x ((z ∷ ρ) ++ (s ∷ [])) ≡ or_else (symbol_in x (s ∷ [])) (symbol_in x (z ∷ ρ))
    go true e ih = rw (symbol_in, e)
    go false e ih = rw (symbol_in, e, ih)

abbrev on_head : Option Symbol → Option Symbol
on_head none = none
on_head (some s) = some (head_only s)

symbol-heads : (x : Word) (ρ : List Symbol) → symbol_in x (map head_only ρ) ≡ on_head (symbol_in x ρ)
unfolding symbol_in
symbol-heads x [] = refl
symbol-heads x (s ∷ ρ) = go (same_word s.word x) refl (symbol-heads x ρ)
  where
    go : (b : Bool) → same_word s.word x ≡ b → symbol_in x (map head_only ρ) ≡ on_head (symbol_in x ρ) → symbol_in x (map head_only (s ∷ ρ)) ≡ on_head (symbol_in x (s ∷ ρ))
    go true e ih = rw (symbol_in, e)
    go false e ih = rw (symbol_in, e, ih)

-- a slot that is closed, and one that is not
pub held-closed : (S : List ℕ) (i : ℕ) (w : Word) → level_at S i ≡ 255 → held_at S i w ≡ none
held-closed S i w e = rw (eq-eqb (level_at S i) 255 e)

pub held-open : (S : List ℕ) (i : ℕ) (w : Word) → (level_at S i ≡ 255 → ⊥) → held_at S i w ≡ some (seen S i w)
held-open S i w h = rw (ne_eqb (level_at S i) 255 h)

held_same : (S T : List ℕ) (i : ℕ) (w : Word) → relation_at T i ≡ relation_at S i → number_at T i ≡ number_at S i → level_at T i ≡ level_at S i → level_now T ≡ level_now S → held_at T i w ≡ held_at S i w
held_same S T i w a b c d = rw (a, b, c, d)

-- looked up by a code
module _ {S : List ℕ} {ws : List Word} {ρ : List Symbol} (t : Tabled S ws ρ) (x : Word) (v : ℕ) (s : Spelt x v) where
  pub word-here : (i : ℕ) → i < length ws → code_at S i ≡ v → word_at ws i ≡ x
  word-here i l e = same-spelt (word_at ws i) x v (subst (Spelt (word_at ws i)) e (t.words.spelt i l)) (omega (arith, e, t.words.small i l)) s

  pub look-open : (i : ℕ) → i < length ws → code_at S i ≡ v → (level_at S i ≡ 255 → ⊥) → symbol_in x ρ ≡ some (seen S i x)
  look-open i l e h = subst (λ (w : Word). symbol_in w ρ ≡ some (seen S i w)) (word-here i l e) (t.held i l ∙ held-open S i (word_at ws i) h)

pub fewer : (ws zs : List Word) → length ws ≤ length (ws ++ zs)
fewer ws zs = omega (arith, length-append ws zs)

-- the words of a list that has grown
word-before : (ws zs : List Word) (i : ℕ) → i < length ws → word_at (ws ++ zs) i ≡ word_at ws i
word-before ws zs i l = get_or-append ws zs [] i l

by_last : {P : Type 0} (ws : List Word) (x : Word) (i : ℕ) → i < length (ws ++ (x ∷ [])) → (i < length ws → P) → (i ≡ length ws → P) → P
by_last ws x i l f g = by-lt i (length ws) f (λ h. g (omega (arith, h, l, length-append ws (x ∷ []))))

word-last : (ws : List Word) (x : Word) (i : ℕ) → i ≡ length ws → word_at (ws ++ (x ∷ [])) i ≡ x
word-last ws x i e = get_or_at ws x [] [] i (sym e)

pub words_last : {S T : List ℕ} {ws : List Word} (x : Word) (v q n l : ℕ) → Words S ws → Absent x ws → length ws < 30 → Named x → Spelt x v → v < 288230376151711744 → (q < 256) × (n < 256) → Slotted S T (length ws) v q n l → Words T (ws ++ (x ∷ []))
words_last {S} {T} {ws} x v q n l p a few o s b c t = record {
  long = t.long ∙ p.long;
  few = omega (arith, few, length-append ws (x ∷ []));
  spelt = λ i h. by_last ws x i h
      (λ m. subst (λ (w : Word). Spelt w (code_at T i)) (sym (word-before ws (x ∷ []) i m)) (subst (Spelt (word_at ws i)) (sym (t.below (4 * i) (omega arith))) (p.spelt i m)))
      (λ e. subst (λ (w : Word). Spelt w (code_at T i)) (sym (word-last ws x i e)) (subst (Spelt x) (sym (ap (code_at T) e ∙ t.code)) s));
  small = λ i h. by_last ws x i h
      (λ m. omega (arith, p.small i m, t.below (4 * i) (omega arith)))
      (λ e. omega (arith, b, ap (code_at T) e, t.code));
  named = λ i h. by_last ws x i h
      (λ m. subst Named (sym (word-before ws (x ∷ []) i m)) (p.named i m))
      (λ e. subst Named (sym (word-last ws x i e)) o);
  bytes = λ i h. by_last ws x i h
      (λ m. let y = p.bytes i m in (omega (arith, y, t.below (4 * i + 1) (omega arith)), omega (arith, y, t.below (4 * i + 2) (omega arith))))
      (λ e. (omega (arith, c, ap (relation_at T) e, t.relation), omega (arith, c, ap (number_at T) e, t.number)));
  zeros = λ i h k. t.above (4 * i) (omega (arith, h, length-append ws (x ∷ []))) (omega arith) ∙ p.zeros i (omega (arith, h, length-append ws (x ∷ []))) k;
  distinct = λ i j h k e. by_last ws x i h
      (λ m. by_last ws x j k
      (λ m₂. p.distinct i j m m₂ (sym (word-before ws (x ∷ []) i m) ∙ e ∙ word-before ws (x ∷ []) j m₂))
      (λ e₂. absurd (a i m (sym (word-before ws (x ∷ []) i m) ∙ e ∙ word-last ws x j e₂))))
      (λ e₁. by_last ws x j k
      (λ m₂. absurd (a j m₂ (sym (word-before ws (x ∷ []) j m₂) ∙ sym e ∙ word-last ws x i e₁)))
      (λ e₂. e₁ ∙ sym e₂));
}

-- growing: not at all, and one after another
pub grown-still : {S T : List ℕ} {ws : List Word} → Words S ws → length T ≡ length S → ((i : ℕ) → i < 120 → get_or T i 0 ≡ get_or S i 0) → level_now T ≡ level_now S → how_many T ≡ length ws → next_number T ≤ 200 → Grown S T ws []
grown-still {S} {T} {ws} p l k e z y = record {
  words = subst (Words T) (sym (append-nil ws)) (record {
    long = l ∙ p.long;
    few = p.few;
    spelt = λ i h. subst (Spelt (word_at ws i)) (sym (k (4 * i) (omega (arith, h, p.few)))) (p.spelt i h);
    small = λ i h. omega (arith, k (4 * i) (omega (arith, h, p.few)), p.small i h);
    named = p.named;
    bytes = λ i h. let y = p.bytes i h in (omega (arith, y, k (4 * i + 1) (omega (arith, h, p.few))), omega (arith, y, k (4 * i + 2) (omega (arith, h, p.few))));
    zeros = λ i h m. k (4 * i) (omega (arith, m)) ∙ p.zeros i h m;
    distinct = p.distinct;
  });
  size = z ∙ sym (ap length (append-nil ws));
  next = y;
  kept = λ i h. k i (omega (arith, h, p.few));
  level = e;
  closed = λ i h m. absurd (omega (arith, h, m, ap length (append-nil ws)));
}

pub grown-none : {S : List ℕ} {ws : List Word} {ρ : List Symbol} → Ready S ws ρ → Grown S S ws []
grown-none p = grown-still p.tabled.words refl (λ i l. refl) refl p.size p.next

pub grown-then : {S T U : List ℕ} {ws zs ys : List Word} → Grown S T ws zs → Grown T U (ws ++ zs) ys → Grown S U ws (zs ++ ys)
grown-then {S} {T} {U} {ws} {zs} {ys} g h = record {
  words = subst (Words U) (append_assoc ws zs ys) h.words;
  size = h.size ∙ ap length (append_assoc ws zs ys);
  next = h.next;
  kept = λ i l. h.kept i (omega (arith, l, length-append ws zs)) ∙ g.kept i l;
  level = h.level ∙ g.level;
  closed = λ i l m. by-lt i (length (ws ++ zs))
      (λ k. h.kept (4 * i + 3) (omega (arith, k)) ∙ g.closed i l k)
      (λ k. h.closed i k (subst (λ (vs : List Word). i < length vs) (sym (append_assoc ws zs ys)) m));
}

-- what has grown holds the same symbols
pub tabled-grown : {S T : List ℕ} {ws zs : List Word} {ρ : List Symbol} → Tabled S ws ρ → Grown S T ws zs → Tabled T (ws ++ zs) ρ
tabled-grown {S} {T} {ws} {zs} {ρ} t g = record {
  words = g.words;
  held = λ i l. by-lt i (length ws)
      (λ h. ap (λ (w : Word). symbol_in w ρ) (word-before ws zs i h) ∙ t.held i h
      ∙ sym (held_same S T i (word_at ws i) (g.kept (4 * i + 1) (omega arith)) (g.kept (4 * i + 2) (omega arith)) (g.kept (4 * i + 3) (omega arith)) g.level)
      ∙ ap (held_at T i) (sym (word-before ws zs i h)))
      (λ h. t.absent (word_at (ws ++ zs) i) (λ j k e. let z = g.words.distinct j i (omega (arith, k, length-append ws zs)) l (word-before ws zs j k ∙ e) in omega (arith, z, k, h))
      ∙ sym (held-closed T i (word_at (ws ++ zs) i) (g.closed i h l)));
  absent = λ x a. t.absent x (λ i l e. a i (omega (arith, l, length-append ws zs)) (word-before ws zs i l ∙ e));
  reach = λ i l h. by-lt i (length ws)
      (λ k. omega (arith, g.level, g.kept (4 * i + 3) (omega arith), t.reach i k (λ e. h (g.kept (4 * i + 3) (omega arith) ∙ e))))
      (λ k. absurd (h (g.closed i k l)));
  shallow = omega (arith, g.level, t.shallow);
}

pub ready-grown : {S T : List ℕ} {ws zs : List Word} {ρ : List Symbol} → Ready S ws ρ → Grown S T ws zs → Ready T (ws ++ zs) ρ
ready-grown t g = record { tabled = tabled-grown t.tabled g; size = g.size; next = g.next }

-- one symbol more: SOME's in front, RANGE's at the end
module _ {S T : List ℕ} {ws : List Word} {ρ : List Symbol} (t : Tabled S ws ρ) (x : Word) (v q n : ℕ) (a : Absent x ws) (few : length ws < 30) (d : Named x) (s : Spelt x v) (b : v < 288230376151711744) (c : (q < 256) × (n < 256))
    (put : Slotted S T (length ws) v q n (level_now S)) (now : level_now T ≡ level_now S) where
  abbrev new : Symbol
  new = record { word = x; relation = q; variable = some n }

  tabled-more : (σ : List Symbol) → symbol_in x σ ≡ some new → ((y : Word) → (x ≡ y → ⊥) → symbol_in y σ ≡ symbol_in y ρ) → Tabled T (ws ++ (x ∷ [])) σ
  tabled-more σ hit miss = record {
    words = words_last x v q n (level_now S) t.words a few d s b c put;
    held = λ i l. by_last ws x i l
        (λ h. ap (λ (w : Word). symbol_in w σ) (word-before ws (x ∷ []) i h) ∙ miss (word_at ws i) (λ e. a i h (sym e)) ∙ t.held i h
        ∙ sym (held_same S T i (word_at ws i) (put.below (4 * i + 1) (omega arith)) (put.below (4 * i + 2) (omega arith)) (put.below (4 * i + 3) (omega arith)) now)
        ∙ ap (held_at T i) (sym (word-before ws (x ∷ []) i h)))
        (λ e. ap (λ (w : Word). symbol_in w σ) (word-last ws x i e) ∙ hit ∙ sym (ap (held_at T i) (word-last ws x i e) ∙ ap (λ (j : ℕ). held_at T j x) e ∙ here));
    absent = λ y h. miss y (λ e. h (length ws) (omega (arith, length-append ws (x ∷ []))) (word-last ws x (length ws) refl ∙ e))
        ∙ t.absent y (λ i l e. h i (omega (arith, l, length-append ws (x ∷ []))) (word-before ws (x ∷ []) i l ∙ e));
    reach = λ i l h. by_last ws x i l
        (λ k. omega (arith, now, put.below (4 * i + 3) (omega arith), t.reach i k (λ e. h (put.below (4 * i + 3) (omega arith) ∙ e))))
        (λ e. omega (arith, now, ap (level_at T) e, put.level));
    shallow = omega (arith, now, t.shallow);
  }
    where
      here : held_at T (length ws) x ≡ some new
      here = held-open T (length ws) x (λ e. omega (arith, e, put.level, t.shallow))
          ∙ rw (put.relation, put.number, put.level, now, eq-eqb (level_now S) (level_now S) refl)

  pub tabled-range : Tabled T (ws ++ (x ∷ [])) (ρ ++ (new ∷ []))
  tabled-range = tabled-more (ρ ++ (new ∷ [])) (symbol-append x ρ new ∙ ap (or_else (symbol_in x (new ∷ []))) (t.absent x a) ∙ symbol-first new [])
      (λ y h. symbol-append y ρ new ∙ ap (λ (o : Option Symbol). or_else o (symbol_in y ρ)) (symbol-later new [] y h) ∙ or-none y (symbol_in y ρ))

  pub tabled-some : Tabled T (ws ++ (x ∷ [])) (new ∷ ρ)
  tabled-some = tabled-more (new ∷ ρ) (symbol-first new ρ) (symbol-later new ρ)

  pub some-closed : {U W : List ℕ} {zs : List Word} → Grown T U (ws ++ (x ∷ [])) zs → W ≡ set U (4 * length ws + 3) 255 → Grown S W ws (x ∷ zs)
  some-closed {U} {W} {zs} g e =
      let many : length ws < length (ws ++ (x ∷ [])) = omega (arith, length-append ws (x ∷ [])) in
      let long : 4 * length ws + 3 < length U = omega (arith, g.words.long, few) in
      let other : (i : ℕ) → (i ≡ 4 * length ws + 3 → ⊥) → get_or W i 0 ≡ get_or U i 0 = λ i h. ap (λ (z : List ℕ). get_or z i 0) e ∙ get_or-set_other U (4 * length ws + 3) i 255 0 h in
      record {
        words = subst (Words W) (append_assoc ws (x ∷ []) zs) (record {
          long = ap length e ∙ length-set U (4 * length ws + 3) 255 ∙ g.words.long;
          few = g.words.few;
          spelt = λ i h. subst (Spelt (word_at ((ws ++ (x ∷ [])) ++ zs) i)) (sym (other (4 * i) (λ h. omega (arith, h)))) (g.words.spelt i h);
          small = λ i h. omega (arith, other (4 * i) (λ h. omega (arith, h)), g.words.small i h);
          named = g.words.named;
          bytes = λ i h. let y = g.words.bytes i h in (omega (arith, y, other (4 * i + 1) (λ h. omega (arith, h))), omega (arith, y, other (4 * i + 2) (λ h. omega (arith, h))));
          zeros = λ i h k. other (4 * i) (λ z. omega (arith, z)) ∙ g.words.zeros i h k;
          distinct = g.words.distinct;
        });
        size = other 157 (λ h. omega (arith, h, few)) ∙ g.size ∙ ap length (append_assoc ws (x ∷ []) zs);
        next = omega (arith, other 156 (λ h. omega (arith, h, few)), g.next);
        kept = λ i l. other i (λ h. omega (arith, h, l)) ∙ g.kept i (omega (arith, l, length-append ws (x ∷ []))) ∙ put.below i l;
        level = other 155 (λ h. omega (arith, h, few)) ∙ g.level ∙ now;
        closed = λ i l m. by-lt (length ws) i
            (λ h. other (4 * i + 3) (λ z. omega (arith, z, h)) ∙ g.closed i (omega (arith, h, length-append ws (x ∷ []))) (subst (λ (vs : List Word). i < length vs) (sym (append_assoc ws (x ∷ []) zs)) m))
            (λ h. ap (λ (z : List ℕ). level_at z i) e ∙ ap (λ (j : ℕ). get_or (set U (4 * length ws + 3) 255) (4 * j + 3) 0) {x = i} {y = length ws} (omega (arith, h, l)) ∙ get_or-set_same U (4 * length ws + 3) 255 0 long);
      }

-- another slot stays as it was
beside : {S T : List ℕ} {k v q n l : ℕ} → Slotted S T k v q n l → (i p : ℕ) → (i ≡ k → ⊥) → i < 30 → 4 * i ≤ p → p < 4 * i + 4 → get_or T p 0 ≡ get_or S p 0
beside {k} put i p z h a b = by-lt i k
    (λ c. put.below p (omega arith))
    (λ c. put.above p (by-lt k i (λ d. omega arith) (λ d. absurd (z (omega (arith, c, d))))) (omega arith))

by-slot : {P : Type 0} (i k : ℕ) → (i ≡ k → P) → ((i ≡ k → ⊥) → P) → P
by-slot {P} i k f g = go (eqb i k) refl
  where
    go : (b : Bool) → eqb i k ≡ b → P
    go true e = f (eqb-true i k e)
    go false e = g (eqb-false i k e)

-- an aggregate over the symbol k, from where its condition begins to where its parenthesis closes
module _ {S T : List ℕ} {ws : List Word} {ρ : List Symbol} (t : Tabled S ws ρ) (k n : ℕ) (l : k < length ws) (o : level_at S k ≡ 255 → ⊥)
    (put : Slotted S T k (code_at S k) (relation_at S k) n (level_now S + 1)) (now : level_now T ≡ level_now S + 1) (deep : level_now S < 100) (byte : n < 256) where
  abbrev word : Word
  word = word_at ws k

  few : (i : ℕ) → i < length ws → i < 30
  few i h = omega (arith, h, t.words.few)

  codes : (i : ℕ) → i < length ws → code_at T i ≡ code_at S i
  codes i h = by-slot i k (λ e. ap (code_at T) e ∙ put.code ∙ ap (code_at S) (sym e)) (λ z. beside put i (4 * i) z (few i h) (omega arith) (omega arith))

  entered : Symbol
  entered = record { word = word; relation = relation_at S k; variable = some n }

  others : (i : ℕ) → i < length ws → (i ≡ k → ⊥) → on_head (held_at S i (word_at ws i)) ≡ held_at T i (word_at ws i)
  others i h z = by_level (eqb (level_at S i) 255) refl
    where
      same : level_at T i ≡ level_at S i
      same = beside put i (4 * i + 3) z (few i h) (omega arith) (omega arith)

      by_level : (b : Bool) → eqb (level_at S i) 255 ≡ b → on_head (held_at S i (word_at ws i)) ≡ held_at T i (word_at ws i)
      by_level true e = ap on_head (held-closed S i (word_at ws i) (eqb-true (level_at S i) 255 e)) ∙ sym (held-closed T i (word_at ws i) (same ∙ eqb-true (level_at S i) 255 e))
      by_level false e =
          let f = eqb-false (level_at S i) 255 e in
          ap on_head (held-open S i (word_at ws i) f)
          ∙ sym (held-open T i (word_at ws i) (λ g. f (sym same ∙ g))
          ∙ rw (beside put i (4 * i + 1) z (few i h) (omega arith) (omega arith), ne_eqb (level_at T i) (level_now T) (λ g. omega (arith, g, same, now, t.reach i h f))))

  pub tabled-inside : Tabled T ws (inside (seen S k word) n ρ)
  unfolding entered
  tabled-inside = record {
    words = record {
      long = put.long ∙ t.words.long;
      few = t.words.few;
      spelt = λ i h. subst (Spelt (word_at ws i)) (sym (codes i h)) (t.words.spelt i h);
      small = λ i h. omega (arith, codes i h, t.words.small i h);
      named = t.words.named;
      bytes = λ i h. let y = t.words.bytes i h in by-slot i k
          (λ e. let z = t.words.bytes k l in (omega (arith, z, ap (relation_at T) e, put.relation), omega (arith, byte, ap (number_at T) e, put.number)))
          (λ d. (omega (arith, y, beside put i (4 * i + 1) d (few i h) (omega arith) (omega arith)), omega (arith, y, beside put i (4 * i + 2) d (few i h) (omega arith) (omega arith))));
      zeros = λ i h m. beside put i (4 * i) (λ e. omega (arith, e, h, l)) m (omega arith) (omega arith) ∙ t.words.zeros i h m;
      distinct = t.words.distinct;
    };
    held = λ i h. by-slot i k
        (λ e. ap (λ (j : ℕ). symbol_in (word_at ws j) (entered ∷ map head_only ρ)) e ∙ symbol-first entered (map head_only ρ)
        ∙ sym (ap (λ (j : ℕ). held_at T j (word_at ws j)) e ∙ held-open T k word (λ z. omega (arith, z, put.level, deep)) ∙ rw (put.relation, put.number, put.level, now, eq-eqb (level_now S + 1) (level_now S + 1) refl)))
        (λ z. symbol-later entered (map head_only ρ) (word_at ws i) (λ e. z (t.words.distinct i k h l (sym e))) ∙ symbol-heads (word_at ws i) ρ ∙ ap on_head (t.held i h) ∙ others i h z);
    absent = λ x a. symbol-later entered (map head_only ρ) x (λ e. a k l e) ∙ symbol-heads x ρ ∙ ap on_head (t.absent x a);
    reach = λ i h z. by-slot i k
        (λ e. omega (arith, now, ap (level_at T) e, put.level))
        (λ d. omega (arith, now, beside put i (4 * i + 3) d (few i h) (omega arith) (omega arith), t.reach i h (λ e. z (beside put i (4 * i + 3) d (few i h) (omega arith) (omega arith) ∙ e))));
    shallow = omega (arith, now, deep);
  }

  pub aggregate-left : {U W : List ℕ} {zs : List Word} → Grown T U ws zs → Slotted U W k (code_at S k) (relation_at S k) (number_at S k) (level_at S k) → level_now W ≡ level_now S → how_many W ≡ how_many U → next_number W ≡ next_number U
      → Grown S W ws zs
  aggregate-left {U} {W} {zs} g back e z y =
      let few₂ : (i : ℕ) → i < length (ws ++ zs) → i < 30 = λ i h. omega (arith, h, g.words.few) in
      let code : (i : ℕ) → i < length (ws ++ zs) → code_at W i ≡ code_at U i =
      λ i h. by-slot i k (λ d. ap (code_at W) d ∙ back.code ∙ sym (ap (code_at U) d ∙ g.kept (4 * k) (omega (arith, l)) ∙ put.code)) (λ d. beside back i (4 * i) d (few₂ i h) (omega arith) (omega arith)) in
      record {
        words = record {
          long = back.long ∙ g.words.long;
          few = g.words.few;
          spelt = λ i h. subst (Spelt (word_at (ws ++ zs) i)) (sym (code i h)) (g.words.spelt i h);
          small = λ i h. omega (arith, code i h, g.words.small i h);
          named = g.words.named;
          bytes = λ i h. let y = g.words.bytes i h in by-slot i k
              (λ d. let z = t.words.bytes k l in (omega (arith, z, ap (relation_at W) d, back.relation), omega (arith, z, ap (number_at W) d, back.number)))
              (λ d. (omega (arith, y, beside back i (4 * i + 1) d (few₂ i h) (omega arith) (omega arith)), omega (arith, y, beside back i (4 * i + 2) d (few₂ i h) (omega arith) (omega arith))));
          zeros = λ i h m. beside back i (4 * i) (λ d. omega (arith, d, h, l, fewer ws zs)) m (omega arith) (omega arith) ∙ g.words.zeros i h m;
          distinct = g.words.distinct;
        };
        size = z ∙ g.size;
        next = omega (arith, y, g.next);
        kept = λ i h. by-lt i (4 * k)
            (λ b. back.below i b ∙ g.kept i h ∙ put.below i b)
            (λ b. by-lt i (4 * k + 4)
            (λ c. inner i b c)
            (λ c. back.above i c (omega (arith, h, t.words.few)) ∙ g.kept i h ∙ put.above i c (omega (arith, h, t.words.few))));
        level = e;
        closed = λ i a h. beside back i (4 * i + 3) (λ d. omega (arith, d, a, l)) (few₂ i h) (omega arith) (omega arith) ∙ g.closed i a h;
      }
    where
      inner : (i : ℕ) → 4 * k ≤ i → i < 4 * k + 4 → get_or W i 0 ≡ get_or S i 0
      inner i b c = by-lt i (4 * k + 1)
          (λ d. at (4 * k) (omega (arith, b, d)) back.code)
          (λ d. by-lt i (4 * k + 2)
          (λ f. at (4 * k + 1) (omega (arith, f, d)) back.relation)
          (λ f. by-lt i (4 * k + 3)
          (λ h. at (4 * k + 2) (omega (arith, f, h)) back.number)
          (λ h. at (4 * k + 3) (omega (arith, c, h)) back.level)))
        where
          at : (j : ℕ) → i ≡ j → get_or W j 0 ≡ get_or S j 0 → get_or W i 0 ≡ get_or S i 0
          at j e f = subst (λ (j : ℕ). get_or W j 0 ≡ get_or S j 0) (sym e) f

-- which are used
pub unmarked : (S : List ℕ) (gs : List Word) → ((i : ℕ) → i < 30 → mark_at S i ≡ 0) → length gs ≤ 30 → Marked S gs []
unfolding has_word any
unmarked S gs z l = record { marks = λ i h. z i (omega (arith, h, l)) }

pub marked-same : {S T : List ℕ} {gs us : List Word} → Marked S gs us → length gs ≤ 30 → ((i : ℕ) → 124 ≤ i → i < 155 → get_or T i 0 ≡ get_or S i 0) → Marked T gs us
marked-same m l k = record { marks = λ i h. k (124 + i) (omega arith) (omega (arith, h, l)) ∙ m.marks i h }

-- X.A outside all aggregates: the symbol k
pub marked-use : {S T : List ℕ} {gs us : List Word} {ws : List Word} (os : List Word) (k : ℕ) → Marked S gs us → Words S ws → ws ≡ gs ++ os → k < length ws → T ≡ set S (124 + k) 1 → Marked T gs (us ++ (word_at ws k ∷ []))
unfolding has_word any
marked-use {S} {T} {gs} {us} {ws} os k m p e l f = record { marks = λ i h. by-slot i k (hit i h) (miss i h) }
  where
    same : (i : ℕ) → i < length gs → word_at gs i ≡ word_at ws i
    same i h = sym (ap (λ (z : List Word). word_at z i) e ∙ word-before gs os i h)

    has : (i : ℕ) → has_word (word_at gs i) (us ++ (word_at ws k ∷ [])) ≡ has_word (word_at gs i) us || (same_word (word_at gs i) (word_at ws k) || false)
    has i = any_append (same_word (word_at gs i)) us (word_at ws k ∷ [])

    either : (b : Bool) → b || true ≡ true
    either true = refl
    either false = refl

    hit : (i : ℕ) → i < length gs → i ≡ k → mark_at T i ≡ flag (has_word (word_at gs i) (us ++ (word_at ws k ∷ [])))
    hit i h d =
        ap (λ (z : List ℕ). mark_at z i) f ∙ ap (λ (j : ℕ). get_or (set S (124 + k) 1) (124 + j) 0) d ∙ get_or-set_same S (124 + k) 1 0 (omega (arith, l, p.few, p.long))
        ∙ sym (ap flag (has i ∙ ap (λ (b : Bool). has_word (word_at gs i) us || (b || false)) (ap (λ (w : Word). same_word w (word_at ws k)) (same i h ∙ ap (word_at ws) d) ∙ own-word (word_at ws k)) ∙ either (has_word (word_at gs i) us)))

    miss : (i : ℕ) → i < length gs → (i ≡ k → ⊥) → mark_at T i ≡ flag (has_word (word_at gs i) (us ++ (word_at ws k ∷ [])))
    miss i h d =
        let z = other_word (word_at gs i) (word_at ws k) (λ c. d (p.distinct i k (omega (arith, h, ap length e, length-append gs os)) l (sym (same i h) ∙ c))) in
        ap (λ (z : List ℕ). mark_at z i) f ∙ get_or-set_other S (124 + k) (124 + i) 1 0 (λ c. d (omega (arith, c))) ∙ m.marks i h
        ∙ ap flag (sym (has i ∙ ap (λ (b : Bool). has_word (word_at gs i) us || (b || false)) z ∙ or-false (has_word (word_at gs i) us)))

pub outside-none : (l : ℕ) → outside l [] ≡ []
outside-none zero = refl
outside-none (suc l) = refl

pub outside-append : (l : ℕ) (us vs : List Word) → outside l (us ++ vs) ≡ outside l us ++ outside l vs
outside-append zero us vs = refl
outside-append (suc l) us vs = refl

-- words that are told apart stand once
absent-has : (x : Word) (ws : List Word) → ((i : ℕ) → i < length ws → x ≡ word_at ws i → ⊥) → has_word x ws ≡ false
unfolding has_word any
absent-has x [] a = refl
absent-has x (w ∷ ws) a = rw (other_word x w (λ e. a 0 (omega arith) e), absent-has x ws (λ i l e. a (suc i) (omega arith) e))

pub words-once : (ws : List Word) → ((i j : ℕ) → i < length ws → j < length ws → word_at ws i ≡ word_at ws j → i ≡ j) → unique_words ws ≡ true
unfolding unique_words
words-once [] d = refl
words-once (w ∷ ws) d = rw (absent-has w ws (λ i l e. let z = d 0 (suc i) (omega arith) (omega arith) e in omega (arith, z)), words-once ws (λ i j l m e. let z = d (suc i) (suc j) (omega arith) (omega arith) e in omega (arith, z)))
