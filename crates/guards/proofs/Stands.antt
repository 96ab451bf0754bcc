-- The masks and the places that were filled stand for the guards of the model.
use mathlib.Core.Path.{◌≡◌, refl, sym, ap, ap₂, subst, ◌∙◌}
use mathlib.Core.Bool.{Bool, true, false, not, cond, ◌&&◌, ◌||◌}
use mathlib.Core.List.{List, [], ◌∷◌, map, map-map}
use Prim.Native.Nat.{ℕ, zero, suc, ◌+◌, ◌*◌, ◌-◌, ◌≤◌, ◌<◌}
use native.Mathlib.Omega.{arith}
use lib.Dec.{eqb, ltb}
use lib.ListN.{length, get_or, set, take, drop, length-drop, length-set, length-map}
use lib.Seq.{lt-length-set, take_all, take-append_seam, drop-drop, get_or-set_same, get_or-set_other}
use borrow.Author.Tests.{eqb-false, lt-ltb, ltb-false}
use Rattle.model.specs.Lists.{any, all, filter, contains, unique, Every}
use Rattle.model.specs.Syntax.{Condition, Binding, Use, Query, Permit, variables, bindings_q}
use Rattle.model.specs.Encoding.{encode, encode_permit, encode_permits, encode_query, permits_of}
use Rattle.model.specs.Catalogue.{catalogue_of, shape_of, stored_at}
use Rattle.model.specs.Permits.{used_of, applies, bars, only, guard_of, guards_of}
use Rattle.model.specs.Scope.{bound_once}
use Rattle.model.specs.Checks.{fails10, fails20, permit_fits, fails21, served, fails33}
use Rattle.model.proofs.Tests.{and-inv, or_no, not-no, not_yes}
use Rattle.model.proofs.Lists.{every_map, every-both}
use Rattle.model.proofs.Sizes.{size-encode}
use Rattle.model.proofs.Passed.{all-every}
use Rattle.catalogue.proofs.Reading.{stored_is}
use Rattle.scans.specs.Flat.{flat_bindings, used_in}
use Rattle.scans.proofs.Whole.{bindings-query, uses-query}
use Rattle.permits.specs.Entries.{span_of, Entry, size_of, entries}
use Rattle.permits.specs.Applying.{applies_to, bars_from, used_bytes}
use Rattle.permits.proofs.Reading.{entry_of, encode-join, first-size, first_rest, permits-span, some_bytes, listed}
use Rattle.permits.proofs.Model.{applies-is, bars-is}
use Rattle.copier.specs.Guard.{part, bits_of, PartsOf}
use Rattle.copier.proofs.Encoded.{bits-some, picked-filter}
use Rattle.rewriter.specs.Rewritten.{StandsFor, Stands}
use Rattle.guards.specs.Filled.{placed_from, verdict_of, mask_unless_barred, mask_for, masked}
use Rattle.guards.specs.declared.Verdict.{Verdict}

-- a variable that is not bound again keeps its mask
kept-mask : (qb pb cb masks : List ℕ) (v : ℕ) (bs : List Binding) → contains v (variables bs) ≡ false → get_or (masked qb pb cb bs masks) v 0 ≡ get_or masks v 0
unfolding masked contains any
kept-mask qb pb cb masks v [] h = refl
kept-mask qb pb cb masks v (b ∷ bs) h =
    let i = or_no (eqb v b.variable) (contains v (variables bs)) h in
    kept-mask qb pb cb (set masks b.variable (mask_for qb pb cb b)) v bs i.1
    ∙ get_or-set_other masks b.variable v (mask_for qb pb cb b) 0 (eqb-false v b.variable i.0)

-- each bound variable has its mask
pub masks-of : (qb pb cb masks : List ℕ) (bs : List Binding) → unique (variables bs) ≡ true → Every (λ (b : Binding). b.variable < length masks) bs → Every (λ (b : Binding). get_or (masked qb pb cb bs masks) b.variable 0 ≡ mask_for qb pb cb b) bs
unfolding masked unique Every
masks-of qb pb cb masks [] u f = tt
masks-of qb pb cb masks (b ∷ bs) u f =
    let v = b.variable in
    let m = mask_for qb pb cb b in
    let i = and-inv (not (contains v (variables bs))) (unique (variables bs)) u in
    let g : Every (λ (b : Binding). b.variable < length (set masks v m)) bs = every_map (λ (b : Binding). b.variable < length masks) (λ (b : Binding). b.variable < length (set masks v m)) (λ x h. lt-length-set masks v m h) bs f.1 in
    (kept-mask qb pb cb (set masks v m) v bs (not_yes (contains v (variables bs)) i.0) ∙ get_or-set_same masks v m 0 f.0, masks-of qb pb cb (set masks v m) bs i.1 g)

-- the places of the permits before k stay
kept-place : (n : ℕ) (list : List ℕ) (at k : ℕ) (places : List ℕ) (i : ℕ) → i < 2 * k → get_or (placed_from n list at k places) i 0 ≡ get_or places i 0
unfolding placed_from
kept-place zero list at k places i h = refl
kept-place (suc n) list at k places i h =
    let y = set (set places (2 * k) (at + 4)) (2 * k + 1) (size_of (drop at list) - 4) in
    go (ltb at (length list))
    (placed_from n list (at + size_of (drop at list)) (k + 1) y)
    (kept-place n list (at + size_of (drop at list)) (k + 1) y i (omega arith)
    ∙ get_or-set_other (set places (2 * k) (at + 4)) (2 * k + 1) i (size_of (drop at list) - 4) 0 (λ e. omega arith)
    ∙ get_or-set_other places (2 * k) i (at + 4) 0 (λ e. omega arith))
  where
    go : (b : Bool) (x : List ℕ) → get_or x i 0 ≡ get_or places i 0 → get_or (cond b x places) i 0 ≡ get_or places i 0
    go true x e = e
    go false x e = refl

-- a permit's condition from its place on
condition-there : (p : Permit) (r : List ℕ) → take (length (encode p.condition [])) (drop 4 (encode_permit p r)) ≡ encode p.condition []
unfolding encode_permit
condition-there p r =
    ap (take (length (encode p.condition []))) (encode-join p.condition [] r) ∙ take-append_seam (encode p.condition []) r

-- what is left is not empty
some_left : (list x : List ℕ) (at : ℕ) → drop at list ≡ x → 0 < length x → at < length list
some_left list x at e h = omega (arith, ap length e, length-drop at list)

-- the bytes of its condition
abbrev pub written : Permit → List ℕ
written p = encode p.condition []

-- the first permit that is left, and where it was put
module _ (list : List ℕ) (p : Permit) (r : List ℕ) (hr : span_of r ≡ 0) (n at k : ℕ) (places : List ℕ) (e : drop at list ≡ encode_permit p r) (room : 2 * k + 2 ≤ length places) where
  abbrev put : List ℕ
  put = set (set places (2 * k) (at + 4)) (2 * k + 1) (size_of (drop at list) - 4)

  abbrev after : List ℕ
  after = placed_from n list (at + size_of (drop at list)) (k + 1) put

  one_placed : placed_from (suc n) list at k places ≡ after
  unfolding placed_from
  one_placed = ap (λ (b : Bool). cond b after places) (lt-ltb at (length list) (some_left list (encode_permit p r) at e (some_bytes p r)))

  its-place : get_or after (2 * k) 0 ≡ at + 4
  its-place =
      kept-place n list (at + size_of (drop at list)) (k + 1) put (2 * k) (omega arith)
      ∙ get_or-set_other (set places (2 * k) (at + 4)) (2 * k + 1) (2 * k) (size_of (drop at list) - 4) 0 (λ x. omega arith)
      ∙ get_or-set_same places (2 * k) (at + 4) 0 (omega (arith, room))

  its-length : get_or after (2 * k + 1) 0 ≡ length (written p)
  its-length =
      kept-place n list (at + size_of (drop at list)) (k + 1) put (2 * k + 1) (omega arith)
      ∙ get_or-set_same (set places (2 * k) (at + 4)) (2 * k + 1) (size_of (drop at list) - 4) 0 (omega (arith, room, length-set places (2 * k) (at + 4)))
      ∙ omega (arith, ap size_of e, first-size p r hr, size-encode p.condition [])

  its-part : part list after k ≡ written p
  unfolding part
  its-part =
      ap₂ (λ (m i : ℕ). take m (drop i list)) its-length its-place
      ∙ ap (take (length (written p))) (sym (drop-drop 4 at list) ∙ ap (drop 4) e)
      ∙ condition-there p r

  its-rest : drop (at + size_of (drop at list)) list ≡ r
  its-rest = sym (drop-drop (size_of (drop at list)) at list) ∙ ap (λ (x : List ℕ). drop (size_of x) x) e ∙ first_rest p r hr

-- the permits from `at` on, permit k first
parts_from : (list : List ℕ) (ps : List Permit) (n at k : ℕ) (places : List ℕ) → drop at list ≡ encode_permits ps → length ps ≤ n → 2 * (k + n) ≤ length places → PartsOf written (part list (placed_from n list at k places)) k ps
unfolding PartsOf encode_permits
parts_from list [] n at k places e l h = tt
parts_from list (p ∷ ps) zero at k places e l h = absurd (omega arith)
parts_from list (p ∷ ps) (suc n) at k places e l h =
    let r = encode_permits ps in
    let hr = permits-span ps in
    let room : 2 * k + 2 ≤ length places = omega arith in
    let next : k + 1 ≡ suc k = omega arith in
    let y = put list p r hr n at k places e room in
    let z = after list p r hr n at k places e room in
    let more : 2 * ((k + 1) + n) ≤ length y = omega (arith, h, length-set places (2 * k) (at + 4), length-set (set places (2 * k) (at + 4)) (2 * k + 1) (size_of (drop at list) - 4)) in
    let i : PartsOf written (part list z) (k + 1) ps = parts_from list ps n (at + size_of (drop at list)) (k + 1) y (its-rest list p r hr n at k places e room) (omega arith) more in
    subst (λ (x : List ℕ). PartsOf written (part list x) k (p ∷ ps)) (sym (one_placed list p r hr n at k places e room))
    (its-part list p r hr n at k places e room, subst (λ (j : ℕ). PartsOf written (part list z) j ps) next i)

-- from k on, the lengths beside the places are those of the permits' conditions
unfoldable pub LengthsOf : List ℕ → ℕ → List Permit → Type 0
LengthsOf places k [] = Unit
LengthsOf places k (p ∷ ps) = (get_or places (2 * k + 1) 0 ≡ length (written p)) × LengthsOf places (suc k) ps

lengths-from : (list : List ℕ) (ps : List Permit) (n at k : ℕ) (places : List ℕ) → drop at list ≡ encode_permits ps → length ps ≤ n → 2 * (k + n) ≤ length places → LengthsOf (placed_from n list at k places) k ps
unfolding LengthsOf encode_permits
lengths-from list [] n at k places e l h = tt
lengths-from list (p ∷ ps) zero at k places e l h = absurd (omega arith)
lengths-from list (p ∷ ps) (suc n) at k places e l h =
    let r = encode_permits ps in
    let hr = permits-span ps in
    let room : 2 * k + 2 ≤ length places = omega arith in
    let next : k + 1 ≡ suc k = omega arith in
    let y = put list p r hr n at k places e room in
    let z = after list p r hr n at k places e room in
    let more : 2 * ((k + 1) + n) ≤ length y = omega (arith, h, length-set places (2 * k) (at + 4), length-set (set places (2 * k) (at + 4)) (2 * k + 1) (size_of (drop at list) - 4)) in
    let i : LengthsOf z (k + 1) ps = lengths-from list ps n (at + size_of (drop at list)) (k + 1) y (its-rest list p r hr n at k places e room) (omega arith) more in
    subst (λ (x : List ℕ). LengthsOf x k (p ∷ ps)) (sym (one_placed list p r hr n at k places e room))
    (its-length list p r hr n at k places e room, subst (λ (j : ℕ). LengthsOf z j ps) next i)

-- 21: at most 8 permits
pub few-permits : (ps : List Permit) → fails21 ps ≡ false → length ps ≤ 8
unfolding fails21
few-permits ps h = omega (arith, ltb-false 8 (length ps) (or_no (ltb 8 (length ps)) (not (all permit_fits ps)) h).0)

-- the parts are the permits' conditions, written out
pub parts-of : (pb places : List ℕ) → fails20 pb ≡ false → fails21 (permits_of pb) ≡ false → 16 ≤ length places → PartsOf (λ (p : Permit). encode p.condition []) (part pb (placed_from 8 pb 0 0 places)) 0 (permits_of pb)
parts-of pb places hp h21 h = parts_from pb (permits_of pb) 8 0 0 places (listed pb hp).bytes (few-permits (permits_of pb) h21) (omega arith)

pub lengths-of : (pb places : List ℕ) → fails20 pb ≡ false → fails21 (permits_of pb) ≡ false → 16 ≤ length places → LengthsOf (placed_from 8 pb 0 0 places) 0 (permits_of pb)
lengths-of pb places hp h21 h = lengths-from pb (permits_of pb) 8 0 0 places (listed pb hp).bytes (few-permits (permits_of pb) h21) (omega arith)

-- the mask of the entries is that of the permits
bits_are : (t : Entry → Bool) (u : Permit → Bool) → ((p : Permit) → t (entry_of p) ≡ u p) → (ps : List Permit) → bits_of t (map entry_of ps) ≡ bits_of u ps
unfolding bits_of
bits_are t u h [] = refl
bits_are t u h (p ∷ ps) = ap₂ (λ (b : Bool) (n : ℕ). cond b 1 0 + 2 * n) (h p) (bits_are t u h ps)

any-are : (t : Entry → Bool) (u : Permit → Bool) → ((p : Permit) → t (entry_of p) ≡ u p) → (ps : List Permit) → any t (map entry_of ps) ≡ any u ps
unfolding any
any-are t u h [] = refl
any-are t u h (p ∷ ps) = ap₂ (λ (a b : Bool). a || b) (h p) (any-are t u h ps)

-- S by the bytes is S
used-is : (q : Query) (v : ℕ) → used_bytes (encode_query q) v ≡ used_of q v
unfolding used_in used_of
used-is q v = ap {B = ℕ → Bool} (λ (us : List Use) (a : ℕ). used_in us v a) (uses-query q)

module _ (cb pb : List ℕ) (hc : fails10 cb ≡ false) (hp : fails20 pb ≡ false) (h21 : fails21 (permits_of pb) ≡ false) (q : Query) where
  -- the verdict on a variable is by the permits
  verdict-is : (v r : ℕ) → verdict_of (used_bytes (encode_query q) v) r (take 8 (entries pb)) ≡ record { mask = bits_of (applies (used_of q v) r) (permits_of pb); barred = any (bars (used_of q v) r) (permits_of pb) }
  unfolding verdict_of
  verdict-is v r =
      let ps = permits_of pb in
      ap₂ (λ (s : ℕ → Bool) (es : List Entry). verdict_of s r (take 8 es)) (used-is q v) (listed pb hp).found
      ∙ ap (verdict_of (used_of q v) r) (take_all 8 (map entry_of ps) (omega (arith, length-map ps entry_of, few-permits ps h21)))
      ∙ ap₂ (λ (m : ℕ) (y : Bool). record { mask = m; barred = y }) (bits_are (applies_to (used_of q v) r) (applies (used_of q v) r) (applies-is (used_of q v) r) ps) (any-are (bars_from (used_of q v) r) (bars (used_of q v) r) (bars-is (used_of q v) r) ps)

  -- the mask of a binding by the model
  pub mask_is : (b : Binding) → mask_for (encode_query q) pb cb b
      ≡ cond (stored_at (shape_of (catalogue_of cb)) b.relation) (cond (any (bars (used_of q b.variable) b.relation) (permits_of pb)) 0 (bits_of (applies (used_of q b.variable) b.relation) (permits_of pb))) 0
  unfolding mask_for
  mask_is b = ap₂ (λ (d : Bool) (x : Verdict). cond d (mask_unless_barred x) 0) (sym (stored_is cb hc b.relation)) (verdict-is b.variable b.relation)

  -- the mask of one binding, over parts that are those of the permits
  stands-for : (f : ℕ → List ℕ) → PartsOf written f 0 (permits_of pb) → (b : Binding) (m : ℕ) → m ≡ mask_for (encode_query q) pb cb b → served (shape_of (catalogue_of cb)) (permits_of pb) q b ≡ true
      → StandsFor (guards_of (shape_of (catalogue_of cb)) (permits_of pb) q b.variable b.relation) m f
  unfolding guards_of guard_of served StandsFor
  stands-for f hf b m e h =
      subst (λ (x : ℕ). StandsFor (guards_of (shape_of (catalogue_of cb)) (permits_of pb) q b.variable b.relation) x f) (sym (e ∙ mask_is b)) (go (stored_at (shape_of (catalogue_of cb)) b.relation) h)
    where
      u : Permit → Bool
      u = applies (used_of q b.variable) b.relation

      x : Bool
      x = any (bars (used_of q b.variable) b.relation) (permits_of pb)

      go : (d : Bool) → (not d || (not x && any u (permits_of pb))) ≡ true → StandsFor (guard_of d (map (λ (p : Permit). p.condition) (filter u (permits_of pb)))) (cond d (cond x 0 (bits_of u (permits_of pb))) 0) f
      go true h =
          let i = and-inv (not x) (any u (permits_of pb)) h in
          subst (λ (y : Bool). StandsFor (only (map (λ (p : Permit). p.condition) (filter u (permits_of pb)))) (cond y 0 (bits_of u (permits_of pb))) f) (sym (not_yes x i.0)) (
            bits-some u (permits_of pb) i.1,
            picked-filter u written f (permits_of pb) (bits_of u (permits_of pb)) 0 (omega arith) hf
                ∙ sym (map-map (λ (c : Condition). encode c []) (λ (p : Permit). p.condition) (filter u (permits_of pb))),
          )
      go false h = refl

module _ (cb pb : List ℕ) (hc : fails10 cb ≡ false) (hp : fails20 pb ≡ false) (h21 : fails21 (permits_of pb) ≡ false) (q : Query) (h33 : fails33 (shape_of (catalogue_of cb)) (permits_of pb) q ≡ false) (once : bound_once q ≡ true) (masks places : List ℕ) (few : Every (λ (b : Binding). b.variable < length masks) (bindings_q q)) (room : 16 ≤ length places) where
  -- 33, for each binding
  all-served : Every (λ (b : Binding). served (shape_of (catalogue_of cb)) (permits_of pb) q b ≡ true) (bindings_q q)
  unfolding fails33
  all-served = all-every (served (shape_of (catalogue_of cb)) (permits_of pb) q) (bindings_q q) (not-no (all (served (shape_of (catalogue_of cb)) (permits_of pb) q) (bindings_q q)) h33)

  -- the mask of each binding
  all-masked : Every (λ (b : Binding). get_or (masked (encode_query q) pb cb (bindings_q q) masks) b.variable 0 ≡ mask_for (encode_query q) pb cb b) (bindings_q q)
  unfolding bound_once
  all-masked = masks-of (encode_query q) pb cb masks (bindings_q q) once few

  -- for each bound variable
  pub stands : Stands (guards_of (shape_of (catalogue_of cb)) (permits_of pb) q) (masked (encode_query q) pb cb (flat_bindings (encode_query q)) masks) (part pb (placed_from 8 pb 0 0 places)) (bindings_q q)
  unfolding Stands
  stands =
      let sh = shape_of (catalogue_of cb) in
      let ps = permits_of pb in
      let f = part pb (placed_from 8 pb 0 0 places) in
      let w = masked (encode_query q) pb cb (bindings_q q) masks in
      subst (λ (bs : List Binding). Stands (guards_of sh ps q) (masked (encode_query q) pb cb bs masks) f (bindings_q q)) (sym (bindings-query q))
      (every_map (λ (b : Binding). (get_or w b.variable 0 ≡ mask_for (encode_query q) pb cb b) × (served sh ps q b ≡ true)) (λ (b : Binding). StandsFor (guards_of sh ps q b.variable b.relation) (get_or w b.variable 0) f)
      (λ b h. stands-for cb pb hc hp h21 q f (parts-of pb places hp h21 room) b (get_or w b.variable 0) h.0 h.1)
      (bindings_q q)
      (every-both (λ (b : Binding). get_or w b.variable 0 ≡ mask_for (encode_query q) pb cb b) (λ (b : Binding). served sh ps q b ≡ true) (bindings_q q) all-masked all-served))
