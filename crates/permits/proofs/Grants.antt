-- From what the code finds of a permit's bytes to the model's checks of it, and of the whole list.
use mathlib.Core.Path.{◌≡◌, refl, sym, ap, ap₂, ◌∙◌, subst}
use mathlib.Core.Bool.{Bool, true, false, not, cond, ◌&&◌, ◌||◌}
use mathlib.Core.List.{List, [], ◌∷◌}
use Prim.Native.Nat.{ℕ, suc, ◌+◌, ◌-◌, ◌≤◌, ◌<◌}
use native.Mathlib.Nat.{zero-add}
use native.Mathlib.Omega.{arith}
use lib.Dec.{ltb}
use lib.ListN.{length, drop, take, set, replicate, length-drop}
use lib.Seq.{drop-drop}
use borrow.Author.Tests.{le-leb, leb-true, lt-ltb, le-ltb, ltb-false}
use Rattle.model.specs.Lists.{all, unique}
use Rattle.model.proofs.Lists.{nothing_left}
use Rattle.model.specs.Syntax.{Condition, Binding, Permit, WellFormed, WellFormedPs, bindings, variables, levels}
use Rattle.model.specs.Encoding.{encode, encode_permit, encode_permits, ok, read_condition, permits_read, permits_of}
use Rattle.model.specs.Catalogue.{Shape, shape_of, catalogue_of}
use Rattle.model.specs.Scope.{Scope, in_scope}
use Rattle.model.specs.Permits.{mask}
use Rattle.model.specs.Checks.{fails10, fails20, fails21, fails22, fails23, permit_fits, permit_known, permit_checks, refusal}
use Rattle.model.proofs.Tests.{and-inv, or_no, not-no, not_yes, all_cons}
use Rattle.model.proofs.Reading.{read-encode}
use Rattle.model.proofs.ReadingQueries.{read-permits}
use Rattle.model.proofs.Sizes.{size, size-encode}
use Rattle.kinds.specs.Tables.{record_length, of_kind}
use Rattle.kinds.specs.Places.{permit_at}
use Rattle.kinds.specs.declared.PermitRecord.{PermitRecord}
use Rattle.kinds.specs.declared.PermitRecord.TheVariants as P
use Rattle.kinds.proofs.Heads.{Opened, permit-bytes, permit-at}
use Rattle.model.specs.Kinds.{kind_of, find}
use Rattle.catalogue.specs.Layout.{count_of, stored_of, attributes_of}
use Rattle.catalogue.proofs.Reading.{shape-count}
use Rattle.scans.specs.Flat.{flat_bindings, stored_in}
use Rattle.scans.proofs.Whole.{bindings-condition}
use Rattle.conditions.specs.Reach.{scope_of, shape_in, permit_scope}
use Rattle.conditions.proofs.scope.Shapes.{shape_is}
use Rattle.conditions.proofs.scope.Tables.{scope-one}
use Rattle.conditions.specs.declared.Reading.{Reading}
use Rattle.std.specs.Prelude.{Option, None}
use Rattle.conditions.specs.Answers.{reading, condition_reading}
use Rattle.conditions.proofs.Found.{Found, found, unread, the-condition, same_read}
use Rattle.permits.specs.Masks.{mask_in}
use Rattle.permits.specs.declared.Grant.{Grant}
use Rattle.permits.specs.declared.Listing.{Listing}
use Rattle.permits.specs.Granted.{grant, listing, PermitRead, Granted, ListRead, Listed}
use Rattle.permits.proofs.Reading.{take-encode, listed}
use Rattle.permits.proofs.Model.{mask_is, stored-permit}

-- the relation and the mask
module _ (cb : List ℕ) (r m : ℕ) (l : Bool) (el : l ≡ ltb r (count_of cb)) where
  pub named_past : not l ≡ true → false ≡ (ltb r (count_of cb) && mask_in (attributes_of cb r) m)
  named_past h = sym (ap (λ (b : Bool). b && mask_in (attributes_of cb r) m) (sym el ∙ not_yes l h))

  pub named-is : not l ≡ false → (a : ℕ) → a ≡ attributes_of cb r → (x : Bool) → x ≡ mask_in a m → x ≡ (ltb r (count_of cb) && mask_in (attributes_of cb r) m)
  named-is h a ea x ex = ex ∙ ap (λ i. mask_in i m) ea ∙ sym (ap (λ (b : Bool). b && mask_in (attributes_of cb r) m) (sym el ∙ not-no l h))

-- a list of length 0
-- what a condition binds
module _ (c : List ℕ) (n : ℕ) (en : n ≡ length (flat_bindings c)) where
  module _ (cb : List ℕ) (r : ℕ) (s : Bool) (es : s ≡ stored_of cb r) where
    pub stored-not : not s ≡ true → false ≡ (stored_of cb r && all (stored_in cb) (flat_bindings c))
    stored-not h = sym (ap (λ (b : Bool). b && all (stored_in cb) (flat_bindings c)) (sym es ∙ not_yes s h))

    pub stored-all : not s ≡ false → (b : Bool) → b ≡ all (stored_in cb) (flat_bindings c) → b ≡ (stored_of cb r && all (stored_in cb) (flat_bindings c))
    stored-all h b eb = eb ∙ sym (ap (λ (d : Bool). d && all (stored_in cb) (flat_bindings c)) (sym es ∙ not-no s h))

    pub stored-none : not s ≡ false → n ≡ 0 → true ≡ (stored_of cb r && all (stored_in cb) (flat_bindings c))
    unfolding all
    stored-none h e = stored-all h true (sym (ap (all (stored_in cb)) (nothing_left (flat_bindings c) (omega (arith, en, e)))))

-- the condition's scope: variable 0 alone
pub in-permit : (sh : Shape) (r : ℕ) (t q : List ℕ) (x : Option Reading) → t ≡ set (replicate 256 0) 0 (r + 1) → x ≡ condition_reading sh 4 16 (scope_of t) (drop 0 q) → x ≡ condition_reading sh 4 16 (permit_scope r) q
in-permit sh r t q x et ex = ex ∙ ap (λ (σ : Scope). condition_reading sh 4 16 σ q) (ap scope_of et ∙ scope-one 0 r (omega arith))

four : record_length 64 ≡ 4
unfolding record_length of_kind kind_of find
four = refl

-- no permit starts at p, or one does
pub no-permit : (sh : Shape) (list x : List ℕ) (p : ℕ) (k : PermitRecord) → x ≡ drop p list → k ≡ permit_at x → k ≡ P.Other → Granted None sh list p
unfolding encode_permit
no-permit sh list x p k ex ek h g r e w f =
    let i : P.Permit g.relation (mask g) ≡ P.Other = sym (ap permit_at (ex ∙ e) ∙ permit-at g.relation g.low g.high (encode g.condition r)) ∙ sym ek ∙ h in
    absurd (let z : ◌≡◌ {A = ℕ} 0 1 = cc in omega arith)

pub begins : (list x : List ℕ) (p : ℕ) → x ≡ drop p list → (k : PermitRecord) → k ≡ permit_at x → (r m : ℕ) → k ≡ P.Permit r m → Opened (drop p list) r m
begins list x p ex k ek r m e = permit-bytes (drop p list) r m (sym (ap permit_at ex) ∙ sym ek ∙ e)

assoc : (a b c : Bool) → ((a && b) && c) ≡ (a && (b && c))
assoc true b c = refl
assoc false b c = refl

-- a permit's head at p, and what was read after it
module _ (cb list : List ℕ) (h10 : fails10 cb ≡ false) (p : ℕ) (inside : p ≤ length list) (r m : ℕ) (head : Opened (drop p list) r m) (k : ℕ) (ek : k ≡ record_length 64)
    (x y : List ℕ) (ex : x ≡ drop p list) (ey : y ≡ drop k x) (t : Option Reading) (et : t ≡ condition_reading (shape_in cb) 4 16 (permit_scope r) y) where
  abbrev sh : Shape
  sh = shape_of (catalogue_of cb)

  y-is : y ≡ drop 4 (drop p list)
  y-is = ey ∙ ap₂ drop (ek ∙ four) ex

  head-same : {A : Type 0} (a b : A) (s u : List A) → a ∷ s ≡ b ∷ u → (a ≡ b) × (s ≡ u)
  head-same a b s u h = (cc, cc)

  -- a permit there has this head, and its condition is here
  body : (g : Permit) (s : List ℕ) → drop p list ≡ encode_permit g s → drop 0 y ≡ encode g.condition s
  unfolding encode_permit
  body g s e = y-is ∙ ap (drop 4) e

  fitting : (g : Permit) → permit_fits g ≡ true → (size g.condition ≤ 252) × (levels g.condition ≤ 16) × (length (bindings g.condition) ≤ 3)
  unfolding permit_fits encode_permit
  fitting g h =
      let a = and-inv _ _ h in let b = and-inv _ _ a.1 in
      (omega (arith, leb-true (length (encode_permit g [])) 256 a.0, size-encode g.condition []), leb-true _ 16 b.0, leb-true _ 3 b.1)

  pub permit-unread : t ≡ None → Granted None sh list p
  permit-unread h g s e w f = unread (shape_in cb) 4 16 (permit_scope r) y 0 t et h g.condition s (body g s e) w (fitting g f).1

  module _ (n : ℕ) (b : Bool) (en : t ≡ reading n b) where
    abbrev a : Found (shape_in cb) 4 16 (permit_scope r) y 0 n b
    a = found (shape_in cb) 4 16 (permit_scope r) y 0 t et n b en

    abbrev c : Condition
    c = a.condition

    the : (g : Permit) (s : List ℕ) → drop p list ≡ encode_permit g s → WellFormed g.condition → permit_fits g ≡ true → c ≡ g.condition
    the g s e w f = (the-condition a g.condition s (body g s e) w (fitting g f).1).0

    pub permit-long : 256 - k < n → Granted None sh list p
    permit-long h g s e w f = absurd (omega (arith, h, ek ∙ four, a.sized, ap size (the g s e w f), (fitting g f).0))

    module _ (u : List ℕ) (eu : u ≡ take n y) (d : ℕ) (ed : d ≡ length (flat_bindings u)) where
      bound : flat_bindings u ≡ bindings c
      bound = ap flat_bindings (eu ∙ ap₂ take a.sized a.bytes ∙ take-encode c a.rest) ∙ bindings-condition c

      pub permit-binds : 3 < d → Granted None sh list p
      permit-binds h g s e w f = absurd (omega (arith, h, ed, ap length bound, ap (λ x. length (bindings x)) (the g s e w f), (fitting g f).2))

      follows : drop (p + (k + n)) list ≡ a.rest
      follows =
          let i : p + (k + n) ≡ p + 4 + n = omega (arith, ek ∙ four) in
          ap (λ j. drop j list) i ∙ sym (drop-drop n (p + 4) list) ∙ ap (drop n) (sym (drop-drop 4 p list) ∙ sym y-is) ∙ ap (λ j. drop j y) (sym (zero-add n)) ∙ a.after

      pub permit-room : p + (k + n) ≤ length list
      permit-room = omega (arith, ek ∙ four, a.sized, ap length a.bytes, size-encode c a.rest, ap length y-is, length-drop 4 (drop p list), length-drop p list, ap length head.bytes)

      abbrev g : Permit
      g = record { relation = r; low = head.low; high = head.high; condition = c }

      module _ (few : d ≤ 3) (short : n ≤ 256 - k) (o : Bool) (eo : o ≡ (stored_of cb r && all (stored_in cb) (flat_bindings u))) (v : Bool) (ev : v ≡ (ltb r (count_of cb) && mask_in (attributes_of cb r) m)) where
        reads : (i : Bool) → i ≡ (v && (b && unique (0 ∷ variables (flat_bindings u)))) → PermitRead sh list p (k + n) i o
        unfolding encode_permit permit_fits permit_known
        reads i ei =
            let me : mask_in (attributes_of cb r) m ≡ mask_in (attributes_of cb r) (mask g) = ap (mask_in (attributes_of cb r)) head.mask in
            let long = le-leb (length (encode_permit g [])) 256 (omega (arith, size-encode c [], a.sized, short, ek ∙ four)) in
            let deep = le-leb (levels c) 16 a.deep in
            let binds = le-leb (length (bindings c)) 3 (omega (arith, few, ed, ap length bound)) in
            let sc : in_scope sh 4 c (permit_scope r) ≡ b = ap (λ (v : Shape). in_scope v 4 c (permit_scope r)) (sym (shape_is cb h10)) ∙ a.scope in
            record {
              permit = g;
              bytes = head.bytes ∙ ap (λ v. 64 ∷ r ∷ head.low ∷ head.high ∷ v) (sym y-is ∙ a.bytes ∙ ap (encode c) (sym follows));
              inside = permit-room;
              well = a.well;
              fits = rw (long, deep, binds);
              known = sym (ei ∙ ap₂ ◌&&◌ (ev ∙ ap₂ ◌&&◌ (ap (ltb r) (sym (shape-count cb h10))) (me ∙ mask_is cb h10 g)) (ap₂ ◌&&◌ (sym sc) (ap (λ (bs : List Binding). unique (0 ∷ variables bs)) bound)));
              stored = sym (eo ∙ ap (λ (bs : List Binding). stored_of cb r && all (stored_in cb) bs) bound ∙ stored-permit cb h10 g);
            }

        pub permit-all : (i : Bool) → i ≡ unique (0 ∷ variables (flat_bindings u)) → PermitRead sh list p (k + n) ((v && b) && i) o
        permit-all i ei = reads ((v && b) && i) (assoc v b i ∙ ap (λ w. v && (b && w)) ei)

-- bytes are one permit and what follows it
permit-rest : (g h : Permit) (s u : List ℕ) → WellFormed g.condition → WellFormed h.condition → encode_permit g s ≡ encode_permit h u → s ≡ u
unfolding encode_permit
permit-rest g h s u w v e =
    let c = g.condition in let d = h.condition in let m = levels c + levels d in
    (same_read c d s u (sym (read-encode c m s w (omega arith)) ∙ ap (λ x. read_condition m (drop 4 x)) e ∙ read-encode d m u v (omega arith))).1

-- the list
module _ (sh : Shape) (list : List ℕ) (p k : ℕ) where
  pub list-end : length list ≤ p → ListRead sh list p k true true
  unfolding encode_permits WellFormedPs all
  list-end h = record { permits = []; bytes = nothing_left (drop p list) (omega (arith, length-drop p list)); well = tt; count = omega arith; fits = refl; known = refl; stored = refl }

  module _ (some : p < length list) where
    first : {X : Type 0} (ps : List Permit) → drop p list ≡ encode_permits ps → WellFormedPs ps → all permit_fits ps ≡ true → length ps ≤ k
        → ((g : Permit) (qs : List Permit) → drop p list ≡ encode_permit g (encode_permits qs) → WellFormed g.condition → permit_fits g ≡ true → WellFormedPs qs → all permit_fits qs ≡ true → suc (length qs) ≤ k → X) → X
    unfolding encode_permits WellFormedPs
    first [] e w f l h = absurd (omega (arith, ap length e, length-drop p list))
    first (g ∷ qs) e w f l h = let i = all_cons permit_fits g qs f in h g qs e w.0 i.0 w.1 i.1 l

    pub list_full : k ≡ 0 → Listed None sh list p k
    list_full h ps e w l f = first ps e w f l λ g qs e w f u v l. absurd (omega arith)

    module _ (m : Option Grant) (gm : Granted m sh list p) where
      pub list-unread : m ≡ None → Listed None sh list p k
      list-unread h ps e w l f = first ps e w f l λ g qs e w f u v l. subst (λ x. Granted x sh list p) h gm g (encode_permits qs) e w f

      module _ (n : ℕ) (b d : Bool) (em : m ≡ grant n b d) where
        abbrev one : PermitRead sh list p n b d
        one = subst (λ x. Granted x sh list p) em gm

        pub one-room : p + n ≤ length list
        one-room = one.inside

        -- the permit that stands there is the one that was read
        same : (g : Permit) (s : List ℕ) → drop p list ≡ encode_permit g s → WellFormed g.condition → drop (p + n) list ≡ s
        same g s e w = permit-rest one.permit g (drop (p + n) list) s one.well w (sym one.bytes ∙ e)

        module _ (q : Option Listing) (hq : Listed q sh list (p + n) (k - 1)) where
          pub list-refused : q ≡ None → Listed None sh list p k
          list-refused h ps e w l f = first ps e w f l λ g qs e w f u v l.
              subst (λ x. Listed x sh list (p + n) (k - 1)) h hq qs (same g (encode_permits qs) e w) u (omega (arith, l)) v

          pub list-more : (k ≡ 0 → ⊥) → (c i : Bool) → q ≡ listing c i → (x y : Bool) → x ≡ (b && c) → y ≡ (d && i) → ListRead sh list p k x y
          unfolding encode_permits WellFormedPs all
          list-more nz c i eq x y ex ey =
              let o : ListRead sh list (p + n) (k - 1) c i = subst (λ x. Listed x sh list (p + n) (k - 1)) eq hq in
              record {
                permits = one.permit ∷ o.permits;
                bytes = one.bytes ∙ ap (encode_permit one.permit) o.bytes;
                well = (one.well, o.well);
                count = omega (arith, o.count, nz);
                fits = rw (one.fits, o.fits);
                known = ap₂ ◌&&◌ one.known o.known ∙ sym ex;
                stored = ap₂ ◌&&◌ one.stored o.stored ∙ sym ey;
              }

-- the number
module _ (sh : Shape) (list : List ℕ) where
  pub number-long : 2048 < length list → ◌≡◌ {A = ℕ} 20 (refusal (permit_checks sh list))
  unfolding permit_checks refusal fails20
  number-long h = sym (rw (lt-ltb 2048 (length list) h))

  pub number-unread : (q : Option Listing) → q ≡ None → Listed q sh list 0 8 → (n : ℕ) → n ≡ cond (fails20 list) 20 21 → n ≡ refusal (permit_checks sh list)
  unfolding permit_checks refusal fails21
  number-unread q eq h n en = en ∙ go (fails20 list) refl
    where
      over : fails20 list ≡ false → (b : Bool) → (ltb 8 (length (permits_of list)) || not (all permit_fits (permits_of list))) ≡ b → b ≡ true
      over e true f = refl
      over e false f =
          let i = listed list e in let j = or_no _ _ f in
          absurd (subst (λ x. Listed x sh list 0 8) eq h (permits_of list) i.bytes i.well (ltb-false 8 (length (permits_of list)) j.0) (not-no (all permit_fits (permits_of list)) j.1))

      go : (x : Bool) → fails20 list ≡ x → ◌≡◌ {A = ℕ} (cond x 20 21) (cond x 20 (cond (fails21 (permits_of list)) 21 (cond (fails22 sh (permits_of list)) 22 (cond (fails23 sh (permits_of list)) 23 0))))
      go true e = refl
      go false e = let f : fails21 (permits_of list) ≡ true = over e (fails21 (permits_of list)) refl in sym (ap (λ b. cond {A = ℕ} b 21 (cond (fails22 sh (permits_of list)) 22 (cond (fails23 sh (permits_of list)) 23 0))) f)

  module _ (short : length list ≤ 2048) (q : Option Listing) (b d : Bool) (eq : q ≡ listing b d) (h : Listed q sh list 0 8) where
    abbrev l : ListRead sh list 0 8 b d
    l = subst (λ x. Listed x sh list 0 8) eq h

    read : permits_read list ≡ ok l.permits []
    unfolding permits_read
    read = ap permits_read l.bytes ∙ read-permits l.permits (suc (length (encode_permits l.permits))) l.well (omega arith)

    by_flags : refusal (permit_checks sh list) ≡ cond (not b) 22 (cond (not d) 23 0)
    unfolding permit_checks refusal fails20 fails21 fails22 fails23 permits_of
    by_flags = rw (le-ltb 2048 (length list) short, read, le-ltb 8 (length l.permits) l.count, l.fits, l.known, l.stored)

    pub number-22 : not b ≡ true → ◌≡◌ {A = ℕ} 22 (refusal (permit_checks sh list))
    number-22 e = sym (by_flags ∙ ap (λ x. cond {A = ℕ} x 22 (cond (not d) 23 0)) e)

    pub number-23 : not b ≡ false → not d ≡ true → ◌≡◌ {A = ℕ} 23 (refusal (permit_checks sh list))
    number-23 e f = sym (by_flags ∙ ap₂ (λ x y. cond {A = ℕ} x 22 (cond y 23 0)) e f)

    pub number-none : not b ≡ false → not d ≡ false → ◌≡◌ {A = ℕ} 0 (refusal (permit_checks sh list))
    number-none e f = sym (by_flags ∙ ap₂ (λ x y. cond {A = ℕ} x 22 (cond y 23 0)) e f)

pub told-20 : (list : List ℕ) (b : Bool) → b ≡ fails20 list → b ≡ true → ◌≡◌ {A = ℕ} 20 (cond (fails20 list) 20 21)
told-20 list b e h = ap (λ x. cond {A = ℕ} x 20 21) (sym h ∙ e)

pub told-21 : (list : List ℕ) (b : Bool) → b ≡ fails20 list → b ≡ false → ◌≡◌ {A = ℕ} 21 (cond (fails20 list) 20 21)
told-21 list b e h = ap (λ x. cond {A = ℕ} x 20 21) (sym h ∙ e)
