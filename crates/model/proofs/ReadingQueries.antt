-- The reader undoes the bytes of whole queries and permit lists, and reads nothing else.
use Prim.Native.Nat.{ℕ, zero, suc, ◌+◌, ◌<◌, ◌≤◌}
use mathlib.Core.Bool.{Bool, true, false}
use mathlib.Core.List.{List, [], ◌∷◌}
use mathlib.Core.Path.{◌≡◌, refl, ◌∙◌, ap, ap₂, subst₂, subst}
use native.Mathlib.Omega.{arith}
use lib.Dec.{eqb, leb}
use lib.ListN.{length}
use borrow.Author.Tests.{eqb-true, leb-true, le-leb}
use Rattle.model.specs.Syntax.{Condition, Term, TRUE, FALSE, NOT, AND, OR, COMPARE, SOME, CONSTANT, ATTRIBUTE, AGGREGATE, Binding, Query, Permit, WellFormed, WellFormedT, Targets, WellFormedQ, WellFormedPs, levels}
use Rattle.model.specs.Encoding.{encode, encode_t, encode_targets, encode_ranges, encode_query, encode_permit, encode_permits, Read, ok, then, byte, read_condition, read_term, starts_range, starts_target, read_ranges, read_targets, at_end, read_query, read_permit, read_permits}
use Rattle.model.proofs.Tests.{clash}
use Rattle.model.proofs.Reading.{IsC, never, then-inv, byte-inv, need-inv, read-encode, read-encode_t, read-inverse, read-inverse_t}
use Rattle.model.proofs.Sizes.{size, size_ts, size_q, size-encode, levels-size, levels-size_t, size-query}

pub no_target : (c : Condition) (r : List ℕ) → starts_target (encode c r) ≡ false
unfolding encode starts_target
no_target TRUE r = refl
no_target FALSE r = refl
no_target (NOT c) r = refl
no_target (AND c d) r = refl
no_target (OR c d) r = refl
no_target (COMPARE o s t) r = refl
no_target (SOME v q c) r = refl

pub no-range : (ts : List Term) (c : Condition) (r : List ℕ) → starts_range (encode_targets ts (encode c r)) ≡ false
unfolding encode encode_targets starts_range
no-range [] TRUE r = refl
no-range [] FALSE r = refl
no-range [] (NOT c) r = refl
no-range [] (AND c d) r = refl
no-range [] (OR c d) r = refl
no-range [] (COMPARE o s t) r = refl
no-range [] (SOME v q c) r = refl
no-range (CONSTANT a b x d ∷ ts) c r = refl
no-range (ATTRIBUTE v a ∷ ts) c r = refl
no-range (AGGREGATE f v q a x ∷ ts) c r = refl

pub read-ranges : (qs : List Binding) (f : ℕ) (r : List ℕ) → length qs < f → starts_range r ≡ false → read_ranges f (encode_ranges qs r) ≡ ok qs r
unfolding read_ranges encode_ranges starts_range
read-ranges [] zero r h e = absurd (omega arith)
read-ranges [] (suc f) r h e = rw (e, read_ranges)
read-ranges (q ∷ qs) zero r h e = absurd (omega arith)
read-ranges (q ∷ qs) (suc f) r h e = rw (read-ranges qs f r (omega arith) e)

pub read-targets : (ts : List Term) (f : ℕ) (r : List ℕ) → Targets ts → size_ts ts < f → starts_target r ≡ false → read_targets f (encode_targets ts r) ≡ ok ts r
unfolding read_targets encode_targets starts_target Targets size_ts encode WellFormed size
read-targets [] zero r w h e = absurd (omega arith)
read-targets [] (suc f) r w h e = rw (e, read_targets)
read-targets (CONSTANT a b c d ∷ ts) f r w h e = absurd w
read-targets (ATTRIBUTE v a ∷ ts) zero r w h e = absurd (omega arith)
read-targets (ATTRIBUTE v a ∷ ts) (suc f) r w h e = rw (read-encode_t (ATTRIBUTE v a) f (encode_targets ts r) tt (omega (arith, levels-size_t (ATTRIBUTE v a))), read-targets ts f r w (omega arith) e)
read-targets (AGGREGATE g v q a c ∷ ts) zero r w h e = absurd (omega arith)
read-targets (AGGREGATE g v q a c ∷ ts) (suc f) r w h e = rw (read-encode_t (AGGREGATE g v q a c) f (encode_targets ts r) w.0 (omega (arith, levels-size_t (AGGREGATE g v q a c))), read-targets ts f r w.1 (omega arith) e)

pub read-query : (q : Query) → WellFormedQ q → read_query (encode_query q) ≡ ok q []
unfolding read_query encode_query size_q
read-query q w =
    let e = size-query q in
    let d = levels-size q.condition in
    rw (
      read-ranges q.ranges (suc (length (encode_query q))) (encode_targets q.targets (encode q.condition [])) (omega arith) (no-range q.targets q.condition []),
      read-targets q.targets (suc (length (encode_query q))) (encode q.condition []) w.targets (omega arith) (no_target q.condition []),
      le-leb 1 (length q.targets) w.some-target,
      read-encode q.condition (suc (length (encode_query q))) [] w.condition (omega arith),
    )

read-permit : (p : Permit) (n : ℕ) (r : List ℕ) → WellFormed p.condition → levels p.condition ≤ n → read_permit n (encode_permit p r) ≡ ok p r
unfolding read_permit encode_permit
read-permit p n r w h = rw (read-encode p.condition n r w h)

pub read-permits : (ps : List Permit) (n : ℕ) → WellFormedPs ps → length (encode_permits ps) < n → read_permits n (encode_permits ps) ≡ ok ps []
unfolding read_permits encode_permits encode_permit WellFormedPs
read-permits ps zero w h = absurd (omega arith)
read-permits [] (suc n) w h = refl
read-permits (p ∷ ps) (suc n) w h =
    let l = long p (encode_permits ps) in
    more p ps n (read-permit p n (encode_permits ps) w.0 (omega (arith, l, levels-size p.condition))) (read-permits ps n w.1 (omega (arith, l)))
  where
    long : (p : Permit) (r : List ℕ) → length (encode_permit p r) ≡ 4 + size p.condition + length r
    long p r = omega (arith, size-encode p.condition r)

    more : (p : Permit) (ps : List Permit) (n : ℕ) → read_permit n (encode_permit p (encode_permits ps)) ≡ ok p (encode_permits ps) → read_permits n (encode_permits ps) ≡ ok ps [] → read_permits (suc n) (encode_permit p (encode_permits ps)) ≡ ok (p ∷ ps) []
    more p ps n e f = rw (e, f)

ok-inj : {A : Type 0} {a b : A} {r s : List ℕ} → ok a r ≡ ok b s → a ≡ b
ok-inj h = cc

-- what was read of a permit's bytes
record IsP (bs : List ℕ) (p : Permit) (r : List ℕ) : Type 0 where
  well : WellFormed p.condition
  bytes : bs ≡ encode_permit p r

permit-inv : (n : ℕ) (bs : List ℕ) (p : Permit) (r : List ℕ) → read_permit n bs ≡ ok p r → IsP bs p r
unfolding read_permit encode_permit
permit-inv n bs p r h =
    byte-inv p r bs _ h λ k s e h₁.
    need-inv p r (eqb k 64) _ h₁ λ w h₂.
    byte-inv p r s _ h₂ λ x s₁ e₁ h₃.
    byte-inv p r s₁ _ h₃ λ a s₂ e₂ h₄.
    byte-inv p r s₂ _ h₄ λ b s₃ e₃ h₅.
    then-inv p r (read_condition n s₃) _ h₅ λ c s₄ e₄ h₆.
    let i = read-inverse n s₃ c s₄ e₄ in
    let i-bytes = i.bytes in
    let k64 = eqb-true k 64 w in
    let q : s₄ ≡ r = cc in
    subst₂ (λ (z : Permit) (r : List ℕ). IsP bs z r) (ok-inj h₆) q (record { well = i.well; bytes = cc })

pub permits-inverse : (n : ℕ) (bs : List ℕ) (ps : List Permit) (r : List ℕ) → read_permits n bs ≡ ok ps r → WellFormedPs ps × (bs ≡ encode_permits ps)
unfolding read_permits WellFormedPs encode_permits
permits-inverse zero bs ps r h = never ps r h
permits-inverse (suc n) [] ps r h = subst (λ (ps : List Permit). WellFormedPs ps × ([] ≡ encode_permits ps)) (ok-inj h) (tt, refl)
permits-inverse (suc n) (x ∷ xs) ps r h =
    then-inv ps r (read_permit n (x ∷ xs)) _ h λ p s e h₁.
    then-inv ps r (read_permits n s) _ h₁ λ qs s₁ e₁ h₂.
    let i = permit-inv n (x ∷ xs) p s e in
    let j = permits-inverse n s qs s₁ e₁ in
    subst (λ (ps : List Permit). WellFormedPs ps × (x ∷ xs ≡ encode_permits ps)) (ok-inj h₂) ((i.well, j.0), i.bytes ∙ ap (encode_permit p) j.1)

targets-cons : (t : Term) (ts : List Term) (r : List ℕ) → starts_target (encode_t t r) ≡ true → WellFormedT t → Targets ts → Targets (t ∷ ts)
unfolding starts_target encode Targets
targets-cons (CONSTANT a b c d) ts r h w k = clash h
targets-cons (ATTRIBUTE v a) ts r h w k = k
targets-cons (AGGREGATE f v q a c) ts r h w k = (w, k)

pub targets-inv : (f : ℕ) (bs : List ℕ) (ts : List Term) (r : List ℕ) → read_targets f bs ≡ ok ts r → Targets ts × (bs ≡ encode_targets ts r)
unfolding read_targets Targets encode_targets
targets-inv zero bs ts r h = never ts r h
targets-inv (suc f) bs ts r h = go (starts_target bs) refl h (λ bs ts r h. targets-inv f bs ts r h)
  where
    go : (b : Bool) → starts_target bs ≡ b
        → elim b as (λ _. Read (List Term)) [ false ↦ ok [] bs | true ↦ then (read_term f bs) λ t r. then (read_targets f r) λ ts r. ok (t ∷ ts) r ] ≡ ok ts r
        → ((bs : List ℕ) (ts : List Term) (r : List ℕ) → read_targets f bs ≡ ok ts r → Targets ts × (bs ≡ encode_targets ts r)) → Targets ts × (bs ≡ encode_targets ts r)
    go false e h k = let p : [] ≡ ts = cc in let q : bs ≡ r = cc in subst₂ (λ (ts : List Term) (r : List ℕ). Targets ts × (bs ≡ encode_targets ts r)) p q (tt, refl)
    go true e h k =
        then-inv ts r (read_term f bs) _ h λ t s e₁ h₁.
        then-inv ts r (read_targets f s) _ h₁ λ us s₁ e₂ h₂.
        let i = read-inverse_t f bs t s e₁ in
        let j = k s us s₁ e₂ in
        let p : t ∷ us ≡ ts = ok-inj h₂ in
        let q : s₁ ≡ r = cc in
        subst₂ (λ (ts : List Term) (r : List ℕ). Targets ts × (bs ≡ encode_targets ts r)) p q
        (targets-cons t us s (rw i.bytes at e) i.well j.0, i.bytes ∙ ap (encode_t t) j.1)

first_one : (bs s : List ℕ) (k : ℕ) → starts_range bs ≡ true → bs ≡ k ∷ s → k ≡ 1
unfolding starts_range
first_one bs s k e p = eqb-true k 1 (rw p at e)

pub ranges-inv : (f : ℕ) (bs : List ℕ) (qs : List Binding) (r : List ℕ) → read_ranges f bs ≡ ok qs r → bs ≡ encode_ranges qs r
unfolding read_ranges encode_ranges
ranges-inv zero bs qs r h = never qs r h
ranges-inv (suc f) bs qs r h = go (starts_range bs) refl h (λ bs qs r h. ranges-inv f bs qs r h)
  where
    go : (b : Bool) → starts_range bs ≡ b
        → elim b as (λ _. Read (List Binding)) [ false ↦ ok [] bs | true ↦ byte bs λ k r. byte r λ v r. byte r λ x r. then (read_ranges f r) λ qs r. ok (record { variable = v; relation = x } ∷ qs) r ] ≡ ok qs r
        → ((bs : List ℕ) (qs : List Binding) (r : List ℕ) → read_ranges f bs ≡ ok qs r → bs ≡ encode_ranges qs r) → bs ≡ encode_ranges qs r
    go false e h k = let p : [] ≡ qs = cc in let q : bs ≡ r = cc in subst₂ (λ (qs : List Binding) (r : List ℕ). bs ≡ encode_ranges qs r) p q refl
    go true e h k =
        byte-inv qs r bs _ h λ z s e₁ h₁.
        byte-inv qs r s _ h₁ λ v s₁ e₂ h₂.
        byte-inv qs r s₁ _ h₂ λ x s₂ e₃ h₃.
        then-inv qs r (read_ranges f s₂) _ h₃ λ us s₃ e₄ h₄.
        let j = k s₂ us s₃ e₄ in
        let o = first_one bs s z e e₁ in
        let p : record { variable = v; relation = x } ∷ us ≡ qs = ok-inj h₄ in
        let q : s₃ ≡ r = cc in
        subst₂ (λ (qs : List Binding) (r : List ℕ). bs ≡ encode_ranges qs r) p q
        (e₁ ∙ ap₂ (λ (a : ℕ) (b : List ℕ). a ∷ b) o (e₂ ∙ ap (λ l. v ∷ l) (e₃ ∙ ap (λ l. x ∷ l) j)))

-- what was read of a query's bytes
pub record IsQ (bs : List ℕ) (q : Query) (r : List ℕ) : Type 0 where
  pub well : WellFormedQ q
  pub bytes : bs ≡ encode_query q
  pub whole : r ≡ []

pub query-inverse : (bs : List ℕ) (q : Query) (r : List ℕ) → read_query bs ≡ ok q r → IsQ bs q r
unfolding read_query encode_query
query-inverse bs q r h =
    let n = suc (length bs) in
    then-inv q r (read_ranges n bs) _ h λ rs s e h₁.
    then-inv q r (read_targets n s) _ h₁ λ ts s₁ e₁ h₂.
    need-inv q r (leb 1 (length ts)) _ h₂ λ w h₃.
    then-inv q r (read_condition n s₁) _ h₃ λ c s₂ e₂ h₄.
    last rs s ts s₁ c s₂ (leb-true 1 (length ts) w) (ranges-inv n bs rs s e) (targets-inv n s ts s₁ e₁) (read-inverse n s₁ c s₂ e₂) h₄
  where
    last : (rs : List Binding) (s : List ℕ) (ts : List Term) (s₁ : List ℕ) (c : Condition) (s₂ : List ℕ) → 1 ≤ length ts → bs ≡ encode_ranges rs s → Targets ts × (s ≡ encode_targets ts s₁) → IsC s₁ c s₂ (suc (length bs))
        → at_end (record { ranges = rs; targets = ts; condition = c }) s₂ ≡ ok q r → IsQ bs q r
    last rs s ts s₁ c [] w a b i h =
        let p : record { ranges = rs; targets = ts; condition = c } ≡ q = ok-inj h in
        let e : [] ≡ r = cc in
        subst₂ (λ (q : Query) (r : List ℕ). IsQ bs q r) p e
        (record { well = record { some-target = w; targets = b.0; condition = i.well }; bytes = a ∙ ap (encode_ranges rs) (b.1 ∙ ap (encode_targets ts) i.bytes); whole = refl })
    last rs s ts s₁ c (x ∷ xs) w a b i h = never q r h
