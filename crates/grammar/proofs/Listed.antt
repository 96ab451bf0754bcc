-- A list of permits, one after the other.
use Prim.Native.Nat.{ℕ, zero, suc, ◌+◌, ◌*◌, ◌<◌, ◌≤◌}
use mathlib.Core.Bool.{Bool, true, false, not}
use mathlib.Core.List.{List, [], ◌∷◌}
use mathlib.Core.Path.{◌≡◌, refl, sym, ◌∙◌, ap, subst₂}
use native.Mathlib.Omega.{arith}
use borrow.Author.Tests.{eqb-true}
use lib.Dec.{eqb}
use lib.ListN.{length, get_or, drop, length-drop}
use lib.Seq.{drop-drop}
use Rattle.model.specs.Kinds.{kind_of, find}
use Rattle.model.specs.Syntax.{Condition, Permit, WellFormed}
use Rattle.model.specs.Encoding.{encode, encode_permit, Read, fail, ok, then, need, read_condition, read_permit, read_permits, permits_read, failed}
use Rattle.model.proofs.Reading.{never, then-inv, need-inv}
use Rattle.model.proofs.Sizes.{size}
use Rattle.kinds.specs.Tables.{record_length, of_kind}
use Rattle.kinds.specs.Places.{permit_at}
use Rattle.kinds.specs.declared.PermitRecord.{PermitRecord}
use Rattle.kinds.specs.declared.PermitRecord.TheVariants as P
use Rattle.kinds.proofs.Heads.{permit-at, permit-bytes}
use Rattle.grammar.specs.Sizes.{condition_size, permit_size, after}
use Rattle.grammar.proofs.Reader.{cut_short, Took, took-condition, sized, condition-sized, same, sized-is, encoded-condition}
use Rattle.grammar.proofs.Bounds.{Takes}
use Rattle.std.specs.Prelude.{Option, Some, None}

-- a permit that is cut short, or none
pub permit-cut : (q : List ℕ) → permit_at q ≡ P.Other → (f : ℕ) → read_permit f q ≡ fail
unfolding read_permit
permit-cut [] n f = refl
permit-cut (k ∷ []) n f = cut_short (eqb k 64)
permit-cut (k ∷ x ∷ []) n f = cut_short (eqb k 64)
permit-cut (k ∷ x ∷ l ∷ []) n f = cut_short (eqb k 64)
permit-cut (k ∷ x ∷ l ∷ h ∷ r) n f = go (eqb k 64) refl
  where
    go : (b : Bool) → eqb k 64 ≡ b → need {B = Permit} b (then (read_condition f r) λ c r. ok (record { relation = x; low = l; high = h; condition = c }) r) ≡ fail
    go true e =
        let i : P.Permit x (l + 256 * h) ≡ P.Other = sym (ap (λ i. permit_at (i ∷ x ∷ l ∷ h ∷ r)) (eqb-true k 64 e) ∙ permit-at x l h r) ∙ n in
        absurd (let z : ◌≡◌ {A = ℕ} 0 1 = cc in omega arith)
    go false e = refl

-- what was read of a permit
abbrev bytes_of : Permit → ℕ
bytes_of p = 4 + size p.condition

took-permit : (f : ℕ) (q : List ℕ) (p : Permit) (r : List ℕ) → read_permit f q ≡ ok p r → Took (λ g x. read_permit g x) q p (bytes_of p) r
unfolding read_permit
took-permit f [] p r e = never p r e
took-permit f (k ∷ []) p r e = need-inv p r (eqb k 64) fail e λ t i. never p r i
took-permit f (k ∷ x ∷ []) p r e = need-inv p r (eqb k 64) fail e λ t i. never p r i
took-permit f (k ∷ x ∷ l ∷ []) p r e = need-inv p r (eqb k 64) fail e λ t i. never p r i
took-permit f (k ∷ x ∷ l ∷ h ∷ s) p r e =
    need-inv p r (eqb k 64) _ e λ t i.
    then-inv p r (read_condition f s) _ i λ c u j m.
    let w = took-condition f s c u j in
    let g : record { relation = x; low = l; high = h; condition = c } ≡ p = cc in
    let v : u ≡ r = cc in
    let b = w.bytes in
    let four : 4 + size c ≡ suc (suc (suc (suc (size c)))) = omega arith in
    subst₂ (λ (p : Permit) (r : List ℕ). Took (λ g x. read_permit g x) (k ∷ x ∷ l ∷ h ∷ s) p (bytes_of p) r) g v
    (record {
      bytes = omega arith;
      rest = w.rest ∙ ap (λ n. drop n (k ∷ x ∷ l ∷ h ∷ s)) (sym four);
      again = λ g z. rw (t, w.again g (omega arith));
    })

permit-sized : (f : ℕ) (q : List ℕ) → length q ≤ f → permit_size q ≡ sized bytes_of (read_permit f q)
unfolding permit_size
permit-sized f q h = sized-is (λ g x. read_permit g x) bytes_of took-permit f q h

pub permit-takes : Takes permit_size
permit-takes q n h = go (read_permit (length q) q) refl (sym (permit-sized (length q) q (omega arith)) ∙ h)
  where
    go : (x : Read Permit) → read_permit (length q) q ≡ x → sized bytes_of x ≡ Some n → (1 ≤ n) × (n ≤ length q)
    go fail e i = absurd (let z : ◌≡◌ {A = ℕ} 0 1 = cc in omega arith)
    go (ok p r) e i = let b = (took-permit (length q) q p r e).bytes in let m : bytes_of p ≡ n = cc in (omega arith, omega arith)

pub no-permit : (q : List ℕ) → permit_at q ≡ P.Other → None ≡ permit_size q
no-permit q n = sym (permit-sized (length q) q (omega arith) ∙ ap (sized bytes_of) (permit-cut q n (length q)))

pub permit-is : (q : List ℕ) (x m : ℕ) → permit_at q ≡ P.Permit x m → after 4 (condition_size (drop 4 q)) ≡ permit_size q
unfolding read_permit
permit-is q x m e = let b = (permit-bytes q x m e).bytes in go q (ap (λ (l : List ℕ). get_or l 0 0) b) (omega (arith, ap length b))
  where
    go : (q : List ℕ) → get_or q 0 0 ≡ 64 → 4 ≤ length q → after 4 (condition_size (drop 4 q)) ≡ permit_size q
    go [] i j = absurd (omega arith)
    go (k ∷ []) i j = absurd (omega arith)
    go (k ∷ x ∷ []) i j = absurd (omega arith)
    go (k ∷ x ∷ l ∷ []) i j = absurd (omega arith)
    go (k ∷ x ∷ l ∷ h ∷ r) i j = rw (permit-sized (suc (suc (suc (suc (length r))))) (k ∷ x ∷ l ∷ h ∷ r) (omega arith), i, condition-sized (suc (suc (suc (suc (length r))))) r (omega arith)) (last (read_condition (suc (suc (suc (suc (length r))))) r))
      where
        last : (y : Read Condition) → after 4 (sized size y) ≡ sized bytes_of (then y λ c r. ok (record { relation = x; low = l; high = h; condition = c }) r)
        last fail = refl
        last (ok c u) = refl

-- fuel for the list
permits-same : (f g : ℕ) (q : List ℕ) → length q < f → length q < g → read_permits f q ≡ read_permits g q
unfolding read_permits
permits-same zero g q h k = absurd (omega arith)
permits-same (suc f) zero q h k = absurd (omega arith)
permits-same (suc f) (suc g) [] h k = refl
permits-same (suc f) (suc g) (x ∷ xs) h k =
    onward (read_permit f (x ∷ xs)) refl (λ r l. permits-same f g r (omega arith) (omega arith))
    ∙ ap (λ y. then y (λ p r. then (read_permits g r) λ ps r. ok (p ∷ ps) r)) (same (λ g x. read_permit g x) bytes_of took-permit f g (x ∷ xs) (omega arith) (omega arith))
  where
    onward : (y : Read Permit) → read_permit f (x ∷ xs) ≡ y → ((r : List ℕ) → length r < suc (length xs) → read_permits f r ≡ read_permits g r)
        → then y (λ p r. then (read_permits f r) λ ps r. ok (p ∷ ps) r) ≡ then y (λ p r. then (read_permits g r) λ ps r. ok (p ∷ ps) r)
    onward fail e i = refl
    onward (ok p r) e i =
        let l = (took-permit f (x ∷ xs) p r e).bytes in
        ap (λ y. then y λ ps r. ok (p ∷ ps) r) (i r (omega arith))

pub permits-none : (q : List ℕ) → length q ≡ 0 → failed (permits_read q) ≡ false
unfolding permits_read read_permits
permits-none [] h = refl
permits-none (x ∷ xs) h = absurd (omega arith)

-- the first permit refused, or read
pub permits-refused : (q : List ℕ) → 0 < length q → permit_size q ≡ None → failed (permits_read q) ≡ true
unfolding permits_read read_permits
permits-refused [] h e = absurd (omega arith)
permits-refused (x ∷ xs) h e = go (read_permit (suc (length xs)) (x ∷ xs)) (sym (permit-sized (suc (length xs)) (x ∷ xs) (omega arith)) ∙ e)
  where
    go : (y : Read Permit) → sized bytes_of y ≡ None → failed (then y λ p r. then (read_permits (suc (length xs)) r) λ ps r. ok (p ∷ ps) r) ≡ true
    go fail i = refl
    go (ok p r) i = absurd (let z : ◌≡◌ {A = ℕ} 0 1 = cc in omega arith)

pub permits-turn : (q : List ℕ) (n : ℕ) → 0 < length q → permit_size q ≡ Some n → failed (permits_read (drop n q)) ≡ failed (permits_read q)
unfolding permits_read read_permits
permits-turn [] n h e = absurd (omega arith)
permits-turn (x ∷ xs) n h e = go (read_permit (suc (length xs)) (x ∷ xs)) refl (sym (permit-sized (suc (length xs)) (x ∷ xs) (omega arith)) ∙ e)
  where
    rest : (p : Permit) (y : Read (List Permit)) → failed y ≡ failed (then y λ ps r. ok (p ∷ ps) r)
    rest p fail = refl
    rest p (ok ps r) = refl

    go : (y : Read Permit) → read_permit (suc (length xs)) (x ∷ xs) ≡ y → sized bytes_of y ≡ Some n
        → failed (permits_read (drop n (x ∷ xs))) ≡ failed (then y λ p r. then (read_permits (suc (length xs)) r) λ ps r. ok (p ∷ ps) r)
    go fail p i = absurd (let z : ◌≡◌ {A = ℕ} 0 1 = cc in omega arith)
    go (ok p r) e i =
        let t = took-permit (suc (length xs)) (x ∷ xs) p r e in
        let b = t.bytes in
        let m : bytes_of p ≡ n = cc in
        let d : drop n (x ∷ xs) ≡ r = ap (λ k. drop k (x ∷ xs)) (sym m) ∙ sym t.rest in
        rw d (ap failed (permits-same (suc (length r)) (suc (length xs)) r (omega arith) (omega arith)) ∙ rest p (read_permits (suc (length xs)) r))

-- of what the code finds: a permit's record and its condition
pub permit-found : (q : List ℕ) (r : PermitRecord) → r ≡ permit_at q → (x m : ℕ) → r ≡ P.Permit x m → (k a : ℕ) → k ≡ get_or q 0 0 → a ≡ record_length k
    → (y : List ℕ) (s : Option ℕ) → y ≡ drop a q → s ≡ condition_size y → after a s ≡ permit_size q
unfolding record_length of_kind kind_of find
permit-found q r er x m e k a ek ea y s ey es =
    let i : permit_at q ≡ P.Permit x m = sym er ∙ e in
    let k64 : k ≡ 64 = ek ∙ ap (λ (l : List ℕ). get_or l 0 0) (permit-bytes q x m i).bytes in
    let a4 : a ≡ 4 = ea ∙ ap record_length k64 in
    ap (after a) (es ∙ ap condition_size ey) ∙ ap (λ n. after n (condition_size (drop n q))) a4 ∙ permit-is q x m i

-- the loop over the list
module _ (q : List ℕ) (x : List ℕ) (at : ℕ) (s : Option ℕ) (ex : x ≡ drop at q) (es : s ≡ permit_size x) (h : at < length q)
    (inv : failed (permits_read (drop at q)) ≡ failed (permits_read q)) where
  left : 0 < length (drop at q)
  left = omega (arith, length-drop at q)

  pub refused-at : s ≡ None → false ≡ not (failed (permits_read q))
  refused-at e = ap not (sym (permits-refused (drop at q) left (ap permit_size (sym ex) ∙ sym es ∙ e)) ∙ inv)

  pub turned-at : (n : ℕ) → s ≡ Some n → failed (permits_read (drop (at + n) q)) ≡ failed (permits_read q)
  turned-at n e =
      ap (λ l. failed (permits_read l)) (sym (drop-drop n at q)) ∙ permits-turn (drop at q) n left (ap permit_size (sym ex) ∙ sym es ∙ e) ∙ inv

pub passed-at : (q : List ℕ) (at : ℕ) → length q ≤ at → failed (permits_read (drop at q)) ≡ failed (permits_read q) → true ≡ not (failed (permits_read q))
passed-at q at h inv = ap not (sym (permits-none (drop at q) (omega (arith, length-drop at q))) ∙ inv)

-- the size of a written permit, and what follows it
pub encoded-permit : (p : Permit) (r : List ℕ) → WellFormed p.condition → (permit_size (encode_permit p r) ≡ Some (4 + size p.condition)) × (drop (4 + size p.condition) (encode_permit p r) ≡ r)
unfolding encode_permit kind_of find
encoded-permit p r w =
    let i = encoded-condition p.condition r w in
    let four : 4 + size p.condition ≡ suc (suc (suc (suc (size p.condition)))) = omega arith in
    let q : List ℕ = 64 ∷ p.relation ∷ p.low ∷ p.high ∷ encode p.condition r in (
      sym (permit-is q p.relation (p.low + 256 * p.high) (permit-at p.relation p.low p.high (encode p.condition r))) ∙ ap (after 4) i.0,
      ap (λ n. drop n q) four ∙ i.1,
    )
