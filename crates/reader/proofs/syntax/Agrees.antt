-- The machine accepts exactly what the grammar's reader reads.
use Prim.Native.Nat.{ℕ, zero, suc, ◌+◌, ◌*◌, ◌≤◌, ◌<◌}
use mathlib.Core.Bool.{Bool, true, false, cond}
use mathlib.Core.List.{List, [], ◌∷◌}
use mathlib.Core.Option.{none, some}
use mathlib.Core.Path.{◌≡◌, refl, sym, ◌∙◌, ap, subst}
use native.Mathlib.Omega.{arith}
use lib.Dec.{eqb}
use lib.ListN.{length}
use Rattle.model.proofs.Tests.{clash}
use Rattle.quel.specs.Results.{fail, ok, Word}
use Rattle.quel.specs.Tokens.{Key, RANGE, RETRIEVE, NOT, SOME, IN, or, and, left, right, comma, colon, semicolon, point, Function, Sign, Token, name, number, function, sign, key, key_code}
use Rattle.quel.specs.Tree.{Formula, And, Or, Attribute}
use Rattle.quel.specs.Reader.{Reads, starts, if_key, a_name, a_sign, read_attribute, operand_body, aggregate_body, target_body, comparison, factor_body, read_condition, read_ors, read_conjunct, read_ands, read_factor, read_operand, read_target, enough, read_name, read_range, at_end, read_qualification, read_tree}
use Rattle.quel.proofs.Results.{never, ok-left, then-inv, key-inv}
use Rattle.reader.specs.Machine.{sort_of, move, mode_after, stack_after, accepts}
use Rattle.reader.specs.Verdict.{is_text}
use Rattle.reader.proofs.syntax.Steps.{Agree, verdict, refused, reads, agree_at, agree-more, bind, is_key, is_name, by_key, Only, wants, wants-name, only-key, only-name, no_key, no_join, low-sort, stops, dead, listed-stops, listed-agree}

-- a condition ends before neither V nor ^
ands-stop : (n : ℕ) (c d : Formula) (s r : List Token) → read_ands n c s ≡ ok d r → starts and r ≡ false
unfolding read_condition
ands-stop zero c d s r h = never d r h
ands-stop (suc n) c d s r h =
    key-inv d r and s _ _ h (λ s₁ e h. then-inv d r (read_factor n s₁) _ h λ f m e₁ h. ands-stop n (And c f) d m r h) (λ f h. rw (← ok-left h) f)

conjunct-stops : (n : ℕ) (c : Formula) (s r : List Token) → read_conjunct n s ≡ ok c r → starts and r ≡ false
unfolding read_condition
conjunct-stops zero c s r h = never c r h
conjunct-stops (suc n) c s r h = then-inv c r (read_factor n s) _ h λ f m e h. ands-stop n f c m r h

ors-stop : (n : ℕ) (c d : Formula) (s r : List Token) → starts and s ≡ false → read_ors n c s ≡ ok d r → (starts or r ≡ false) × (starts and r ≡ false)
unfolding read_condition
ors-stop zero c d s r a h = never d r h
ors-stop (suc n) c d s r a h =
    key-inv d r or s _ _ h
    (λ s₁ e h. then-inv d r (read_conjunct n s₁) _ h λ f m e₁ h. ors-stop n (Or c f) d m r (conjunct-stops n f s₁ m e₁) h)
    (λ f h. (rw (← ok-left h) f, rw (← ok-left h) a))

condition-stops : (n : ℕ) (c : Formula) (s r : List Token) → read_condition n s ≡ ok c r → (starts or r ≡ false) × (starts and r ≡ false)
unfolding read_condition
condition-stops zero c s r h = never c r h
condition-stops (suc n) c s r h = then-inv c r (read_conjunct n s) _ h λ d m e h. ors-stop n d c m r (conjunct-stops n d s m e) h

-- modes of one thing
o1 : Only 1 2 (is_key RANGE)
unfolding move
o1 = only-key RANGE 1 2 (λ e. omega arith) (λ e. omega arith) (λ s. refl) refl refl

o2 : Only 2 3 is_name
unfolding move
o2 = only-name 2 3 (λ s. refl) refl refl

o3 : Only 3 4 (is_key left)
unfolding move
o3 = only-key left 3 4 (λ e. omega arith) (λ e. omega arith) (λ s. refl) refl refl

o4 : Only 4 5 is_name
unfolding move
o4 = only-name 4 5 (λ s. refl) refl refl

o7 : Only 7 8 is_name
unfolding move
o7 = only-name 7 8 (λ s. refl) refl refl

o8 : Only 8 9 (is_key colon)
unfolding move
o8 = only-key colon 8 9 (λ e. omega arith) (λ e. omega arith) (λ s. refl) refl refl

o10 : Only 10 11 (is_key point)
unfolding move
o10 = only-key point 10 11 (λ e. omega arith) (λ e. omega arith) (λ s. refl) refl refl

o11 : Only 11 12 is_name
unfolding move
o11 = only-name 11 12 (λ s. refl) refl refl

o14 : Only 14 15 is_name
unfolding move
o14 = only-name 14 15 (λ s. refl) refl refl

o15 : Only 15 16 (is_key IN)
unfolding move
o15 = only-key IN 15 16 (λ e. omega arith) (λ e. omega arith) (λ s. refl) refl refl

o16 : Only 16 17 is_name
unfolding move
o16 = only-name 16 17 (λ s. refl) refl refl

o19 : Only 19 20 is_name
unfolding move
o19 = only-name 19 20 (λ s. refl) refl refl

o23 : Only 23 24 is_name
unfolding move
o23 = only-name 23 24 (λ s. refl) refl refl

o25 : Only 25 26 (is_key left)
unfolding move
o25 = only-key left 25 26 (λ e. omega arith) (λ e. omega arith) (λ s. refl) refl refl

o26 : Only 26 27 is_name
unfolding move
o26 = only-name 26 27 (λ s. refl) refl refl

o27 : Only 27 28 (is_key point)
unfolding move
o27 = only-key point 27 28 (λ e. omega arith) (λ e. omega arith) (λ s. refl) refl refl

o28 : Only 28 29 is_name
unfolding move
o28 = only-name 28 29 (λ s. refl) refl refl

-- where nothing fits
shut-17 : (σ : List ℕ) (s : List Token) → starts left s ≡ false → accepts σ 17 s ≡ false
unfolding accepts move
shut-17 σ [] h = refl
shut-17 σ (t ∷ r) h = stops σ 17 t r (rw (no_key left (λ e. omega arith) (λ e. omega arith) t r h))

shut-29 : (σ : List ℕ) (s : List Token) → starts right s ≡ false → starts semicolon s ≡ false → accepts σ 29 s ≡ false
unfolding accepts move
shut-29 σ [] h i = refl
shut-29 σ (t ∷ r) h i = stops σ 29 t r (rw (no_key right (λ e. omega arith) (λ e. omega arith) t r h, no_key semicolon (λ e. omega arith) (λ e. omega arith) t r i))

shut-5 : (σ : List ℕ) (s : List Token) → starts comma s ≡ false → starts right s ≡ false → accepts σ 5 s ≡ false
unfolding accepts move
shut-5 σ [] h i = refl
shut-5 σ (t ∷ r) h i = stops σ 5 t r (rw (no_key comma (λ e. omega arith) (λ e. omega arith) t r h, no_key right (λ e. omega arith) (λ e. omega arith) t r i))

shut-6 : (σ : List ℕ) (s : List Token) → starts colon s ≡ false → starts RETRIEVE s ≡ false → accepts σ 6 s ≡ false
unfolding accepts move
shut-6 σ [] h i = refl
shut-6 σ (t ∷ r) h i = stops σ 6 t r (rw (no_key colon (λ e. omega arith) (λ e. omega arith) t r h, no_key RETRIEVE (λ e. omega arith) (λ e. omega arith) t r i))

-- after a factor, within a parenthesis and at the outside
shut-24 : (m : ℕ) (σ : List ℕ) (s : List Token) → starts right s ≡ false → starts or s ≡ false → starts and s ≡ false → accepts (m ∷ σ) 24 s ≡ false
unfolding accepts move
shut-24 m σ [] h i j = refl
shut-24 m σ (t ∷ r) h i j = stops (m ∷ σ) 24 t r (rw (no_join t r i j, no_key right (λ e. omega arith) (λ e. omega arith) t r h))

end-24 : {A : Type 0} (a : A) (s : List Token) → starts or s ≡ false → starts and s ≡ false → Agree (suc (length s)) (at_end a s) (accepts [] 24 s) (λ _. true)
unfolding accepts move
end-24 a [] i j = reads (omega arith)
end-24 a (t ∷ r) i j = refused (rw (no_join t r i j) (go (eqb 21 (sort_of t))))
  where
    go : (b : Bool) → accepts (stack_after (cond b 96 0) []) (mode_after (cond b 96 0) 0) r ≡ false
    go true = dead [] r
    go false = dead [] r

end-12 : {A : Type 0} (a : A) (s : List Token) → starts comma s ≡ false → starts colon s ≡ false → Agree (suc (length s)) (at_end a s) (accepts [] 12 s) (λ _. true)
unfolding accepts move
end-12 a [] i j = reads (omega arith)
end-12 a (t ∷ r) i j = refused (stops [] 12 t r (rw (no_key comma (λ e. omega arith) (λ e. omega arith) t r i, no_key colon (λ e. omega arith) (λ e. omega arith) t r j)))

-- a factor begins with no other key
shut-13 : (σ : List ℕ) (k : Key) (r : List Token) → starts NOT (key k ∷ r) ≡ false → starts SOME (key k ∷ r) ≡ false → starts left (key k ∷ r) ≡ false → accepts σ 13 (key k ∷ r) ≡ false
unfolding move
shut-13 σ k r h i j =
    stops σ 13 (key k) r
    (rw (
      no_key NOT (λ e. omega arith) (λ e. omega arith) (key k) r h,
      no_key SOME (λ e. omega arith) (λ e. omega arith) (key k) r i,
      no_key left (λ e. omega arith) (λ e. omega arith) (key k) r j,
      low-sort 0 (key_code k) (omega arith),
      low-sort 1 (key_code k) (omega arith),
      low-sort 2 (key_code k) (omega arith),
    ))

shut-21 : (σ : List ℕ) (k : Key) (r : List Token) → accepts σ 21 (key k ∷ r) ≡ false
unfolding move
shut-21 σ k r = stops σ 21 (key k) r (rw (low-sort 0 (key_code k) (omega arith), low-sort 1 (key_code k) (omega arith), low-sort 2 (key_code k) (omega arith)))

-- a term from m to e: by d after a name, by d' after its point
record Term (m d d' e : ℕ) : Type 0 where
  on-name : (σ : List ℕ) (w : Word) (r : List Token) → accepts σ m (name w ∷ r) ≡ accepts σ d r
  on-number : (σ : List ℕ) (n : ℕ) (r : List Token) → accepts σ m (number n ∷ r) ≡ accepts σ e r
  on-function : (σ : List ℕ) (f : Function) (r : List Token) → accepts σ m (function f ∷ r) ≡ accepts (e ∷ σ) 25 r
  on-sign : (σ : List ℕ) (o : Sign) (r : List Token) → accepts σ m (sign o ∷ r) ≡ false
  at-end : (σ : List ℕ) → accepts σ m [] ≡ false
  on-point : (σ : List ℕ) (r : List Token) → accepts σ d (key point ∷ r) ≡ accepts σ d' r
  other : (σ : List ℕ) (s : List Token) → starts point s ≡ false → accepts σ d s ≡ accepts σ e s
  last : Only d' e is_name

left_other : (σ : List ℕ) (s : List Token) → starts point s ≡ false → accepts σ 18 s ≡ accepts σ 20 s
unfolding accepts move
left_other σ [] h = refl
left_other σ (t ∷ r) h = rw (no_key point (λ e. omega arith) (λ e. omega arith) t r h)

right-other : (σ : List ℕ) (s : List Token) → starts point s ≡ false → accepts σ 22 s ≡ accepts σ 24 s
unfolding accepts move
right-other σ [] h = refl
right-other σ (t ∷ r) h = rw (no_key point (λ e. omega arith) (λ e. omega arith) t r h)

left-term : Term 13 18 19 20
unfolding accepts move
left-term = record {
  on-name = λ σ w r. refl;
  on-number = λ σ n r. refl;
  on-function = λ σ f r. refl;
  on-sign = λ σ o r. dead σ r;
  at-end = λ σ. refl;
  on-point = λ σ r. refl;
  other = left_other;
  last = o19;
}

right-term : Term 21 22 23 24
unfolding accepts move
right-term = record {
  on-name = λ σ w r. refl;
  on-number = λ σ n r. refl;
  on-function = λ σ f r. refl;
  on-sign = λ σ o r. dead σ r;
  at-end = λ σ. refl;
  on-point = λ σ r. refl;
  other = right-other;
  last = o23;
}

-- after a condition in parentheses
closes : {B : Type 0} {l : ℕ} {K : List Token → Bool} (m : ℕ) (σ : List ℕ) (s : List Token) {g : List Token → Reads B} → (starts or s ≡ false) × (starts and s ≡ false)
    → ((r : List Token) → length r < length s → Agree l (g r) (accepts σ m r) K) → Agree l (if_key right s g fail) (accepts (m ∷ σ) 24 s) K
unfolding accepts move
closes m σ s f y =
    by_key right s (λ r e. let d = ap length e in agree_at (ap (accepts (m ∷ σ) 24) e) (y r (omega arith))) (λ h. refused (shut-24 m σ s h f.0 f.1))

-- a name's attribute, as a target
name-target : (n : ℕ) (w : Word) (r : List Token) → 1 ≤ n → read_target n (name w ∷ r) ≡ if_key point r (λ r. a_name r λ a r. ok (Attribute w a) r) fail
unfolding read_condition target_body read_attribute a_name
name-target zero w r h = absurd (omega arith)
name-target (suc n) w r h = refl

wants-sign : {B : Type 0} {l : ℕ} {K : List Token → Bool} (σ : List ℕ) (s : List Token) {g : Sign → List Token → Reads B}
    → ((o : Sign) (r : List Token) → length r < length s → Agree l (g o r) (accepts σ 21 r) K) → Agree l (a_sign s g) (accepts σ 20 s) K
unfolding a_sign accepts move
wants-sign σ [] y = refused refl
wants-sign σ (name w ∷ r) y = refused (dead σ r)
wants-sign σ (number v ∷ r) y = refused (dead σ r)
wants-sign σ (function f ∷ r) y = refused (dead σ r)
wants-sign σ (sign o ∷ r) y = y o r (omega arith)
wants-sign σ (key j ∷ r) y = refused (stops σ 20 (key j) r (rw (low-sort 7 (key_code j) (omega arith))))

mutual
  unfolding read_condition factor_body comparison operand_body target_body aggregate_body read_attribute accepts move starts

  agree_c : (n : ℕ) (s : List Token) (σ : List ℕ) → 3 * length s + 4 ≤ n → Agree (length s) (read_condition n s) (accepts σ 13 s) (accepts σ 24)
  agree_c zero s σ h = absurd (omega arith)
  agree_c (suc n) s σ h = bind (agree_j n s σ (omega arith)) λ c r _ l. agree-more (omega arith) (agree_ors n c r σ (omega arith))

  agree_ors : (n : ℕ) (c : Formula) (s : List Token) (σ : List ℕ) → 3 * length s + 2 ≤ n → Agree (suc (length s)) (read_ors n c s) (accepts σ 24 s) (accepts σ 24)
  agree_ors zero c s σ h = absurd (omega arith)
  agree_ors (suc n) c s σ h =
      by_key or s
      (λ r e. let d = ap length e in
      agree_at (ap (accepts σ 24) e) (bind (agree_j n r σ (omega arith)) λ f m _ l. agree-more (omega arith) (agree_ors n (Or c f) m σ (omega arith))))
      (λ _. reads (omega arith))

  agree_j : (n : ℕ) (s : List Token) (σ : List ℕ) → 3 * length s + 3 ≤ n → Agree (length s) (read_conjunct n s) (accepts σ 13 s) (accepts σ 24)
  agree_j zero s σ h = absurd (omega arith)
  agree_j (suc n) s σ h = bind (agree_f n s σ (omega arith)) λ c r _ l. agree-more (omega arith) (agree_ands n c r σ (omega arith))

  agree_ands : (n : ℕ) (c : Formula) (s : List Token) (σ : List ℕ) → 3 * length s + 2 ≤ n → Agree (suc (length s)) (read_ands n c s) (accepts σ 24 s) (accepts σ 24)
  agree_ands zero c s σ h = absurd (omega arith)
  agree_ands (suc n) c s σ h =
      by_key and s
      (λ r e. let d = ap length e in
      agree_at (ap (accepts σ 24) e) (bind (agree_f n r σ (omega arith)) λ f m _ l. agree-more (omega arith) (agree_ands n (And c f) m σ (omega arith))))
      (λ _. reads (omega arith))

  agree_f : (n : ℕ) (s : List Token) (σ : List ℕ) → 3 * length s + 2 ≤ n → Agree (length s) (read_factor n s) (accepts σ 13 s) (accepts σ 24)
  agree_f zero s σ h = absurd (omega arith)
  agree_f (suc n) s σ h =
      by_key NOT s
      (λ r e. let d = ap length e in agree_at (ap (accepts σ 13) e) (bind (agree_f n r σ (omega arith)) λ c m _ l. reads (omega arith)))
      (λ no-not. by_key SOME s
      (λ r e. let d = ap length e in
      agree_at (ap (accepts σ 13) e)
      (wants-name σ o14 r λ x r₁ l₁. wants σ IN o15 r₁ λ r₂ l₂. wants-name σ o16 r₂ λ q r₃ l₃.
      by_key left r₃
      (λ r₄ e₄. let d₄ = ap length e₄ in
      agree_at (ap (accepts σ 17) e₄)
      (bind (agree_c n r₄ (24 ∷ σ) (omega arith)) λ c m e₅ l₅. closes 24 σ m (condition-stops n c r₄ m e₅) λ m₁ l₆. reads (omega arith)))
      (λ no-left. refused (shut-17 σ r₃ no-left))))
      (λ no-some. by_key left s
      (λ r e. let d = ap length e in
      agree_at (ap (accepts σ 13) e) (bind (agree_c n r (24 ∷ σ) (omega arith)) λ c m e₅ l₅. closes 24 σ m (condition-stops n c r m e₅) λ m₁ l₆. reads (omega arith)))
      (λ no-left. bind
      (agree_o n s σ left-term (λ k r e. shut-13 σ k r (rw e at no-not) (rw e at no-some) (rw e at no-left)) (omega arith))
      λ a r _ l. wants-sign σ r λ o r₁ l₁. bind (agree_o n r₁ σ right-term (λ k r e. shut-21 σ k r) (omega arith)) λ b r₂ _ l₂. reads (omega arith))))

  agree_o : (n : ℕ) (s : List Token) (σ : List ℕ) {m d d' e : ℕ} → Term m d d' e → ((k : Key) (r : List Token) → s ≡ key k ∷ r → accepts σ m (key k ∷ r) ≡ false) → 3 * length s + 1 ≤ n
      → Agree (length s) (read_operand n s) (accepts σ m s) (accepts σ e)
  agree_o zero s σ t keys h = absurd (omega arith)
  agree_o (suc n) [] σ t keys h = refused (t.at-end σ)
  agree_o (suc n) (name w ∷ r) σ {m} {d} {d'} {e} t keys h =
      agree_at (t.on-name σ w r)
      (by_key point r
      (λ r₁ e₁. let d₁ = ap length e₁ in
      bind
      (subst (λ p. Agree (length (name w ∷ r)) p (accepts σ d r) (accepts σ e)) (sym (name-target n w r (omega arith)))
      (by_key point r
      (λ r₂ e₂. let d₂ = ap length e₂ in agree_at (ap (accepts σ d) e₂ ∙ t.on-point σ r₂) (wants-name σ t.last r₂ λ a r₃ l₃. reads (omega arith)))
      (λ f. clash (sym f ∙ rw e₁))))
      λ u m₁ _ l. reads l)
      (λ f. agree_at (t.other σ r f) (reads (omega arith))))
  agree_o (suc n) (number v ∷ r) σ t keys h = agree_at (t.on-number σ v r) (reads (omega arith))
  agree_o (suc n) (function f ∷ r) σ t keys h = agree_at (t.on-function σ f r) (bind (agree_a n f r σ _ (omega arith)) λ u m _ l. reads l)
  agree_o (suc n) (sign o ∷ r) σ t keys h = refused (t.on-sign σ o r)
  agree_o (suc n) (key k ∷ r) σ t keys h = refused (keys k r refl)

  -- an aggregate, after which the mode e is taken back
  agree_a : (n : ℕ) (f : Function) (r : List Token) (σ : List ℕ) (e : ℕ) → 3 * suc (length r) ≤ n → Agree (suc (length r)) (read_target n (function f ∷ r)) (accepts (e ∷ σ) 25 r) (accepts σ e)
  agree_a zero f r σ e h = absurd (omega arith)
  agree_a (suc n) f r σ e h =
      wants (e ∷ σ) left o25 r λ r₁ l₁. wants-name (e ∷ σ) o26 r₁ λ x r₂ l₂. wants (e ∷ σ) point o27 r₂ λ r₃ l₃. wants-name (e ∷ σ) o28 r₃ λ a r₄ l₄.
      by_key right r₄
      (λ r₅ e₅. let d₅ = ap length e₅ in agree_at (ap (accepts (e ∷ σ) 29) e₅) (reads (omega arith)))
      (λ no-right. by_key semicolon r₄
      (λ r₅ e₅. let d₅ = ap length e₅ in
      agree_at (ap (accepts (e ∷ σ) 29) e₅) (bind (agree_c n r₅ (e ∷ σ) (omega arith)) λ c m e₆ l₆. closes e σ m (condition-stops n c r₅ m e₆) λ m₁ l₇. reads (omega arith)))
      (λ no-mark. refused (shut-29 (e ∷ σ) r₄ no-right no-mark)))

-- a target of RETRIEVE
agree_t : (n : ℕ) (s : List Token) → 3 * length s ≤ n → Agree (length s) (read_target n s) (accepts [] 9 s) (accepts [] 12)
unfolding read_condition target_body accepts move
agree_t zero [] h = refused refl
agree_t zero (t ∷ s) h = absurd (omega arith)
agree_t (suc n) [] h = refused refl
agree_t (suc n) (name w ∷ r) h =
    subst (λ p. Agree (length (name w ∷ r)) p (accepts [] 10 r) (accepts [] 12)) (sym (name-target (suc n) w r (omega arith)))
    (wants [] point o10 r λ r₁ l₁. wants-name [] o11 r₁ λ a r₂ l₂. reads (omega arith))
agree_t (suc n) (number v ∷ r) h = refused (dead [] r)
agree_t (suc n) (function f ∷ r) h = agree_a (suc n) f r [] 12 h
agree_t (suc n) (sign o ∷ r) h = refused (dead [] r)
agree_t (suc n) (key k ∷ r) h = refused (stops [] 9 (key k) r (rw (low-sort 0 (key_code k) (omega arith), low-sort 2 (key_code k) (omega arith))))

agree_n : (s : List Token) → Agree (length s) (read_name s) (accepts [] 4 s) (accepts [] 5)
unfolding read_name
agree_n s = wants-name [] o4 s λ w r l. reads l

agree_r : (s : List Token) → Agree (length s) (read_range s) (accepts [] 2 s) (accepts [] 6)
unfolding read_range accepts move
agree_r s =
    wants-name [] o2 s λ q r₁ l₁. wants [] left o3 r₁ λ r₂ l₂.
    bind (listed-agree comma read_name [] 4 5 (length r₂) (λ s _. agree_n s) (λ r. refl) r₂ (omega arith)) λ xs r₃ e₃ l₃.
    by_key right r₃ (λ r₄ e₄. let d₄ = ap length e₄ in agree_at (ap (accepts [] 5) e₄) (reads (omega arith))) (λ f. refused (shut-5 [] r₃ (listed-stops comma read_name r₂ r₃ xs e₃) f))

agree_q : (n : ℕ) (s : List Token) → starts comma s ≡ false → 3 * length s + 4 ≤ n → Agree (suc (length s)) (read_qualification n s) (accepts [] 12 s) (λ _. true)
unfolding read_qualification accepts move
agree_q n s f h =
    by_key colon s
    (λ r e. let d = ap length e in
    agree_at (ap (accepts [] 12) e)
    (bind (agree_c n r [] (omega arith)) λ c m e₁ l₁. let g = condition-stops n c r m e₁ in agree-more (omega arith) (end-24 (some c) m g.0 g.1)))
    (λ no-colon. end-12 none s f no-colon)

agree_all : (s : List Token) → Agree (suc (length s)) (read_tree s) (accepts [] 1 s) (λ _. true)
unfolding read_tree accepts move
agree_all s =
    let n = enough s in
    wants [] RANGE o1 s λ r₁ l₁.
    bind (listed-agree colon read_range [] 2 6 (length r₁) (λ s _. agree_r s) (λ r. refl) r₁ (omega arith)) λ gs r₂ e₂ l₂.
    by_key RETRIEVE r₂
    (λ r₃ e₃. let d₃ = ap length e₃ in
    agree_at (ap (accepts [] 6) e₃)
    (wants-name [] o7 r₃ λ w r₄ l₄. wants [] colon o8 r₄ λ r₅ l₅.
    bind (listed-agree comma (λ r. read_target n r) [] 9 12 (length r₅) (λ s b. agree_t n s (omega arith)) (λ r. refl) r₅ (omega arith)) λ us r₆ e₆ l₆.
    bind (agree_q n r₆ (listed-stops comma (λ r. read_target n r) r₅ r₆ us e₆) (omega arith)) λ q r₇ _ l₇. reads (omega arith)))
    (λ f. refused (shut-6 [] r₂ (listed-stops colon read_range r₁ r₂ gs e₂) f))

pub agrees : (s : List Token) → accepts [] 1 s ≡ is_text s
agrees s = verdict (read_tree s) (agree_all s)
