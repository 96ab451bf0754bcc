-- A turn of the loop, by the numbers that the code holds.
use Prim.Native.Nat.{ℕ, zero, suc, ◌+◌, ◌-◌, ◌≤◌, ◌<◌}
use mathlib.Core.Bool.{Bool, true, false, cond, ◌&&◌}
use mathlib.Core.List.{List, [], ◌∷◌, ◌++◌, append_assoc}
use mathlib.Core.Option.{Option, none, some}
use mathlib.Core.Path.{◌≡◌, refl, sym, ap, ap₂, ◌∙◌, subst}
use native.Mathlib.Omega.{arith}
use lib.Dec.{eqb, leb, ltb}
use lib.ListN.{length, drop, get_or, get_or-eq_default, length-append}
use lib.Seq.{sets}
use borrow.Author.Tests.{eqb-true, ne_eqb, leb-true, lt-leb, ltb-false}
use native.Mathlib.Nat.{add-zero}
use Rattle.model.proofs.Tests.{and-inv}
use Rattle.quel.specs.Results.{fail, ok, Word}
use Rattle.quel.specs.Names.{Entry, relation_named, attribute_named}
use Rattle.quel.specs.Elaboration.{Symbol, operator_of, symbol_in, as_byte}
use Rattle.quel.specs.Ahead.{Mode, at-condition, at-conjunct, at-factor, at_rest, in_some, in-attribute, in-aggregate, Count, ahead, top, next, ors_at, ands_at, operator_at}
use Rattle.quel.specs.Writing.{Written, before, often, Reaches, inner, loop}
use Rattle.kinds.specs.declared.Record.{Record}
use Rattle.kinds.specs.declared.Record.TheVariants as R
use Rattle.tokens.specs.Table.{Table, token_at}
use Rattle.elaborate.specs.Counts.{ors_in, ands_in, sign_in, kind_in, plain, Place, Counted}
use Rattle.elaborate.proofs.ahead.Laws.{counted, tokens-ahead}
use Rattle.elaborate.specs.Places.{tokens_from, point_in}
use Rattle.elaborate.proofs.marks.Walks.{from_cons, here, point-from}
use Rattle.elaborate.specs.declared.reach.Known.{Known}
use Rattle.elaborate.specs.Reach.{known_of}
use Rattle.copier.specs.Copied.{record_bytes}
use Rattle.copier.proofs.Sets.{sets-append, wrote_then}
use Rattle.std.specs.Prelude.{Some, None}
use Rattle.std.specs.Prelude as P
use Rattle.elaborate.specs.Actions.{mode_number, action_of, next_of, item_of, head_by, some_by, head_item}
use Rattle.elaborate.specs.declared.modes.Mode as C
use Rattle.elaborate.specs.declared.modes.Mode.TheVariants as M
use Rattle.elaborate.specs.Modes.{mode_no}
use Rattle.elaborate.specs.Puts.{frame_mode, putting, reach_after, number_after, written}
use Rattle.elaborate.proofs.items.Turns.{opening, next-number}
use Rattle.elaborate.proofs.items.Turn as T
use Rattle.elaborate.specs.Opens.{open_bytes}
use Rattle.elaborate.proofs.opens.Often.{often-length}
use Rattle.elaborate.specs.After.{ended, mode_of, Fits}

-- bytes before bytes
pub ended-before : (d : List ℕ) (at : ℕ) (xs : List ℕ) (g : Written) → ended d at (before (λ bs. xs ++ bs) g) ≡ ended (sets d at xs) (at + length xs) g
ended-before d at xs fail = refl
ended-before d at xs (ok bs n) = ap₂ (λ (l : List ℕ) (m : ℕ). ok l m) (sym (sets-append xs d at bs)) (omega (arith, length-append xs bs))

before-before : (xs ys : List ℕ) (g : Written) → before (λ bs. xs ++ bs) (before (λ bs. ys ++ bs) g) ≡ before (λ bs. (xs ++ ys) ++ bs) g
before-before xs ys fail = refl
before-before xs ys (ok bs n) = ap (λ (l : List ℕ). ok l n) (sym (append_assoc xs ys bs))

often-before : (n b : ℕ) (bs : List ℕ) → often n b bs ≡ often n b [] ++ bs
unfolding often
often-before zero b bs = refl
often-before (suc n) b bs = ap (λ (l : List ℕ). b ∷ l) (often-before n b bs)

often-as : (n b : ℕ) (g : Written) → before (often n b) g ≡ before (λ bs. often n b [] ++ bs) g
often-as n b fail = refl
often-as n b (ok bs m) = ap (λ (l : List ℕ). ok l m) (often-before n b bs)

sign-as : (b : Bool) (s : ℕ) (g : Written) → cond b (before (λ bs. 21 ∷ s ∷ bs) g) g ≡ before (λ bs. cond b (21 ∷ s ∷ []) [] ++ bs) g
sign-as true s fail = refl
sign-as true s (ok bs m) = refl
sign-as false s fail = refl
sign-as false s (ok bs m) = refl

open-as : (m k o a s : ℕ) (g : Written)
    → before (often (cond (eqb m 0) o 0) 20) (before (often (cond (leb m 1) a 0) 19) (cond (leb m 2 && leb k 6) (before (λ bs. 21 ∷ s ∷ bs) g) g)) ≡ before (λ bs. open_bytes m k o a s ++ bs) g
open-as m k o a s g =
    often-as (cond (eqb m 0) o 0) 20 (before (often (cond (leb m 1) a 0) 19) (cond (leb m 2 && leb k 6) (before (λ bs. 21 ∷ s ∷ bs) g) g))
    ∙ ap (λ (f : Written). before (λ bs. often (cond (eqb m 0) o 0) 20 [] ++ bs) f)
    (often-as (cond (leb m 1) a 0) 19 (cond (leb m 2 && leb k 6) (before (λ bs. 21 ∷ s ∷ bs) g) g) ∙ ap (λ (f : Written). before (λ bs. often (cond (leb m 1) a 0) 19 [] ++ bs) f) (sign-as (leb m 2 && leb k 6) s g)
    ∙ before-before (often (cond (leb m 1) a 0) 19 []) (cond (leb m 2 && leb k 6) (21 ∷ s ∷ []) []) g)
    ∙ before-before (often (cond (eqb m 0) o 0) 20 []) (often (cond (leb m 1) a 0) 19 [] ++ cond (leb m 2 && leb k 6) (21 ∷ s ∷ []) []) g

-- the modes by their numbers
mode-of : (m : Mode) → mode_of (mode_number m) ≡ m
unfolding mode_of
mode-of at-condition = refl
mode-of at-conjunct = refl
mode-of at-factor = refl
mode-of at_rest = refl
mode-of in_some = refl
mode-of in-attribute = refl
mode-of in-aggregate = refl

number_of : (n : ℕ) → n ≤ 6 → mode_number (mode_of n) ≡ n
unfolding mode_of
number_of zero h = refl
number_of (suc zero) h = refl
number_of (suc (suc zero)) h = refl
number_of (suc (suc (suc zero))) h = refl
number_of (suc (suc (suc (suc zero)))) h = refl
number_of (suc (suc (suc (suc (suc zero))))) h = refl
number_of (suc (suc (suc (suc (suc (suc zero)))))) h = refl
number_of (suc (suc (suc (suc (suc (suc (suc n))))))) h = absurd (omega arith)

pub mode-low : (m : C.Mode) → mode_no m ≤ 6
mode-low M.Condition = omega arith
mode-low M.Conjunct = omega arith
mode-low M.Factor = omega arith
mode-low M.Rest = omega arith
mode-low M.InSome = omega arith
mode-low M.InAttribute = omega arith
mode-low M.InAggregate = omega arith

-- the lengths
pub open-most : (m k o a s : ℕ) → length (open_bytes m k o a s) ≤ o + a + 2
open-most m k o a s =
    omega (
      arith,
      length-append (often (cond (eqb m 0) o 0) 20 []) (often (cond (leb m 1) a 0) 19 [] ++ cond (leb m 2 && leb k 6) (21 ∷ s ∷ []) []),
      length-append (often (cond (leb m 1) a 0) 19 []) (cond (leb m 2 && leb k 6) (21 ∷ s ∷ []) []),
      often-length (cond (eqb m 0) o 0) 20,
      often-length (cond (leb m 1) a 0) 19,
      when-most (eqb m 0) o,
      when-most (leb m 1) a,
      sign-most (leb m 2 && leb k 6),
    )
  where
    when-most : (b : Bool) (n : ℕ) → cond b n 0 ≤ n
    when-most true n = omega arith
    when-most false n = omega arith

    sign-most : (b : Bool) → length (cond b (21 ∷ s ∷ []) []) ≤ 2
    sign-most true = omega arith
    sign-most false = omega arith

pub record-most : (it : Record) → length (record_bytes it) ≤ 5
record-most (R.Range _ _) = omega arith
record-most R.True = omega arith
record-most R.False = omega arith
record-most R.Not = omega arith
record-most R.And = omega arith
record-most R.Or = omega arith
record-most (R.Compare _) = omega arith
record-most (R.Some _ _) = omega arith
record-most (R.Constant _ _ _ _) = omega arith
record-most (R.Attribute _ _) = omega arith
record-most (R.Aggregate _ _ _ _) = omega arith
record-most (R.Permit _ _ _) = omega arith
record-most R.Unknown = omega arith
record-most R.Short = omega arith

-- what stands before a token's record
module _ (text : List ℕ) (t : Table) (cs : List ℕ) (i : ℕ) (cd : Counted t.kinds cs i) (h : i < length t.kinds) where
  from-ahead : (j : ℕ) → j ≤ length t.kinds → ahead (tokens_from text t j) ≡ ahead (plain (drop j t.kinds))
  unfolding tokens_from
  from-ahead j k = tokens-ahead text t (length t.kinds - j) j (omega arith)

  here-ahead : ahead (T.token_here text t i h ∷ T.rest text t i h) ≡ ahead (plain (drop i t.kinds))
  unfolding ahead token_at
  here-ahead =
      counted (T.kind_here text t i h) (here text t i) (T.number_here text t i h) (ahead (tokens_from text t (i + 1)))
      ∙ sym (counted (T.kind_here text t i h) _ _ (ahead (tokens_from text t (i + 1))))
      ∙ sym (ap ahead (from_cons text t i h)) ∙ from-ahead i (omega arith)

  ors-here : ors_at (T.token_here text t i h ∷ T.rest text t i h) ≡ ors_in (get_or cs i 0)
  unfolding ors_at
  ors-here = ap (λ (l : List Count). (top l).ors) here-ahead ∙ sym (cd.at i (omega arith) (omega arith)).ors

  ands-here : ands_at (T.token_here text t i h ∷ T.rest text t i h) ≡ ands_in (get_or cs i 0)
  unfolding ands_at
  ands-here = ap (λ (l : List Count). (top l).ands) here-ahead ∙ sym (cd.at i (omega arith) (omega arith)).ands

  sign-here : operator_of (operator_at (T.rest text t i h)) ≡ 1 + sign_in (get_or cs (i + 1) 0)
  unfolding operator_at
  sign-here = ap (λ (l : List Count). operator_of (top l).operator) (from-ahead (i + 1) (omega arith)) ∙ sym (cd.at (i + 1) (omega arith) (omega arith)).operator ∙ omega arith

  abbrev pub bytes_here : ℕ → List ℕ
  bytes_here m = open_bytes m (T.kind_here text t i h) (ors_in (get_or cs i 0)) (ands_in (get_or cs i 0)) (1 + sign_in (get_or cs (i + 1) 0))

  pub opening-bytes : (m : ℕ) (g : Written) → opening m (T.kind_here text t i h) (T.token_here text t i h) (T.rest text t i h) g ≡ before (λ bs. bytes_here m ++ bs) g
  opening-bytes m g = rw (ors-here, ands-here, sign-here) (open-as m (T.kind_here text t i h) (ors_in (get_or cs i 0)) (ands_in (get_or cs i 0)) (1 + sign_in (get_or cs (i + 1) 0)) g)

  -- the turn: a record, and the rest of the loop
  module _ (es : List Entry) (z : List ℕ) (m : ℕ) (mm : m ≤ 6) (σ : Reaches) (n : ℕ) where
    abbrev kind : ℕ
    kind = T.kind_here text t i h

    abbrev act : ℕ → ℕ
    act x = action_of x kind (point_in t.kinds (i + 1))

    abbrev item_here : ℕ → P.Option Record
    item_here x = item_of es (act x) (kind - 1) (T.number_here text t i h) (here text t i) (here text t (i + 2)) (here text t (i + 3)) (here text t (i + 4)) (inner σ) n

    abbrev shape : ℕ → Mode → P.Option Record → Written
    shape x g it =
        opening x kind (T.token_here text t i h) (T.rest text t i h)
        (putting it (λ it. written it (loop es z (T.rest text t i h) g (reach_after (act x) (here text t (i + 1)) (here text t (i + 2)) it σ) (number_after (act x) n))))

    mode-next : next (mode_of m) (T.token_here text t i h) (T.rest text t i h) ≡ mode_of (next_of m kind (point_in t.kinds (i + 1)))
    mode-next =
        sym (mode-of (next (mode_of m) (T.token_here text t i h) (T.rest text t i h)))
        ∙ ap mode_of (next-number (mode_of m) kind (here text t i) (T.number_here text t i h) (T.rest text t i h) ∙ ap₂ (λ (x : ℕ) (y : Bool). next_of x kind y) (number_of m mm) (point-from text t (i + 1)))

    turn-shape : loop es z (tokens_from text t i) (mode_of m) σ n ≡ shape m (mode_of (next_of m kind (point_in t.kinds (i + 1)))) (item_here m)
    turn-shape =
        T.turn text t i h es z (mode_of m) σ n
        ∙ ap (λ (x : ℕ). shape x (next (mode_of m) (T.token_here text t i h) (T.rest text t i h)) (item_here x)) (number_of m mm)
        ∙ ap (λ (g : Mode). shape m g (item_here m)) mode-next

    abbrev onward : Record → Written
    onward it = loop es z (T.rest text t i h) (mode_of (next_of m kind (point_in t.kinds (i + 1)))) (reach_after (act m) (here text t (i + 1)) (here text t (i + 2)) it σ) (number_after (act m) n)

    turn-put : (it : Record) → item_here m ≡ Some it
        → loop es z (tokens_from text t i) (mode_of m) σ n
        ≡ before (λ bs. (bytes_here m ++ record_bytes it) ++ bs) (onward it)
    turn-put it e =
        turn-shape ∙ ap (λ (x : P.Option Record). shape m (mode_of (next_of m kind (point_in t.kinds (i + 1)))) x) e
        ∙ opening-bytes m (written it (onward it)) ∙ before-before (bytes_here m) (record_bytes it) (onward it)

    -- the state after it
    module _ (d to : List ℕ) (at p : ℕ) (it : Record) (x : P.Option Record) (a k : ℕ) (b : Bool) (ek : k ≡ kind) (eb : b ≡ point_in t.kinds (i + 1)) (ea : a ≡ action_of m k b)
        (ex : x ≡ item_of es a (k - 1) (T.number_here text t i h) (here text t i) (here text t (i + 2)) (here text t (i + 3)) (here text t (i + 4)) (inner σ) n) where
      act-is : a ≡ act m
      act-is = ea ∙ ap₂ (λ (y : ℕ) (c : Bool). action_of m y c) ek eb

      item-is : x ≡ item_here m
      item-is = ex ∙ ap₂ (λ (y g : ℕ). item_of es y (g - 1) (T.number_here text t i h) (here text t i) (here text t (i + 2)) (here text t (i + 3)) (here text t (i + 4)) (inner σ) n) act-is ek

      pub ends-refused : x ≡ None → ended d at (loop es z (tokens_from text t i) (mode_of m) σ n) ≡ fail
      ends-refused e =
          ap (ended d at) (turn-shape ∙ ap (λ (y : P.Option Record). shape m (mode_of (next_of m kind (point_in t.kinds (i + 1)))) y) (sym item-is ∙ e) ∙ opening-bytes m fail)

      pub ends-put : x ≡ Some it → (l : ℕ) → l ≡ next_of m k b → (τ : Reaches) → τ ≡ reach_after a (here text t (i + 1)) (here text t (i + 2)) it σ → (o : ℕ) → o ≡ number_after a n
          → p ≡ at + length (open_bytes m k (ors_in (get_or cs i 0)) (ands_in (get_or cs i 0)) (1 + sign_in (get_or cs (i + 1) 0)) ++ record_bytes it) → to ≡ sets d at (open_bytes m k (ors_in (get_or cs i 0)) (ands_in (get_or cs i 0)) (1 + sign_in (get_or cs (i + 1) 0)) ++ record_bytes it)
          → ended d at (loop es z (tokens_from text t i) (mode_of m) σ n) ≡ ended to p (loop es z (tokens_from text t (i + 1)) (mode_of l) τ o)
      ends-put e l el τ eτ o eo ep et =
          ap (ended d at) (turn-put it (sym item-is ∙ e))
          ∙ ended-before d at (bytes_here m ++ record_bytes it) (onward it)
          ∙ rw (ep, et, el, eτ, eo, act-is, ek, eb)

-- frames up to the pth in place of what was counted for tokens behind
pub counted-on : (ks cs gs : List ℕ) (i p : ℕ) → Counted ks cs i → p ≤ i → ((j : ℕ) → p < j → get_or gs j 0 ≡ get_or cs j 0) → Counted ks gs (i + 1)
counted-on ks cs gs i p cd h same = record { at = λ j l m. subst (λ (c : ℕ). Place c (plain (drop j ks))) (sym (same j (omega arith))) (cd.at j (omega arith) m); kind = λ j l m. ap kind_in (same j (omega arith)) ∙ cd.kind j (omega arith) m }

-- the kind of the token at i, and whether a point follows it
module _ (ks cs : List ℕ) (i : ℕ) (cd : Counted ks cs i) (l : i < length ks) where
  pub kind-counted : kind_in (get_or cs i 0) ≡ get_or ks i 0
  kind-counted = cd.kind i (omega arith) (omega arith)

  pub point-counted : leb 25 (kind_in (get_or cs (i + 1) 0)) ≡ point_in ks (i + 1)
  unfolding point_in
  point-counted = ap (leb 25) (cd.kind (i + 1) (omega arith) (omega arith)) ∙ go (ltb (i + 1) (length ks)) refl
    where
      go : (b : Bool) → ltb (i + 1) (length ks) ≡ b → leb 25 (get_or ks (i + 1) 0) ≡ (b && leb 25 (get_or ks (i + 1) 0))
      go true e = refl
      go false e = ap (leb 25) (get_or-eq_default ks 0 (ltb-false (i + 1) (length ks) e))

-- a token that writes nothing
pub quiet-parts : (m a : ℕ) → (leb 3 m && eqb a 0) ≡ true → (3 ≤ m) × (a ≡ 0)
quiet-parts m a e = let i = and-inv (leb 3 m) (eqb a 0) e in (leb-true 3 m i.0, eqb-true a 0 i.1)

pub quiet-open : (m k o a s : ℕ) → 3 ≤ m → open_bytes m k o a s ≡ []
unfolding often
quiet-open m k o a s h = rw (ne_eqb m 0 (λ e. omega arith), lt-leb m 1 (omega arith), lt-leb m 2 (omega arith))

pub quiet_write : (d : List ℕ) (at m k o a s : ℕ) → 3 ≤ m → (at ≡ at + length (open_bytes m k o a s ++ record_bytes R.Short)) × (d ≡ sets d at (open_bytes m k o a s ++ record_bytes R.Short))
quiet_write d at m k o a s h =
    let e = quiet-open m k o a s h in
    (sym (ap (λ (l : List ℕ). at + length (l ++ [])) e ∙ add-zero at), sym (ap (λ (l : List ℕ). sets d at (l ++ [])) e))

-- records that open frames
abbrev item_by : (Record → ℕ) → ℕ → P.Option Record → ℕ
item_by f d None = d
item_by f d (Some it) = f it

module _ (es : List Entry) (f : Record → ℕ) (d g n : ℕ) (x : Word) where
  head-over : ((g v r a : ℕ) → f (R.Aggregate g v r a) ≡ d) → (v r : ℕ) (o : Option ℕ) → item_by f d (head_by g v r o) ≡ d
  head-over e v r none = refl
  head-over e v r (some a) = e g v r a

  head-by : ((g v r a : ℕ) → f (R.Aggregate g v r a) ≡ d) → (k : P.Option Known) → item_by f d (head_item es g n x k) ≡ d
  head-by e None = refl
  head-by e (Some k) = head-over e (as_byte n) k.relation (attribute_named es k.relation x)

  some-by : ((v r : ℕ) → f (R.Some v r) ≡ d) → (o : Option ℕ) → item_by f d (some_by (as_byte n) o) ≡ d
  some-by e none = refl
  some-by e (some r) = e (as_byte n) r

pub fits : (es : List Entry) (a g v : ℕ) (x₀ x₂ x₃ x₄ : Word) (ρ : List Symbol) (n : ℕ) (it : Record) (x : P.Option Record) → x ≡ item_of es a g v x₀ x₂ x₃ x₄ ρ n → x ≡ Some it → Fits a it
fits es a g v x₀ x₂ x₃ x₄ ρ n it x ex ei = record {
  head = λ z. sym (ap (item_by frame_mode 2) (at 4 z)) ∙ head-by es frame_mode 2 g n x₄ (λ g v r a. refl) (known_of (symbol_in x₂ ρ));
  binder = λ z. sym (ap (item_by frame_mode 1) (at 6 z)) ∙ some-by es frame_mode 1 g n x₄ (λ v r. refl) (relation_named es x₃);
  left = λ z. sym (ap (item_by frame_mode 0) (at 7 z));
}
  where
    at : (b : ℕ) → a ≡ b → item_of es b g v x₀ x₂ x₃ x₄ ρ n ≡ Some it
    at b z = ap (λ (y : ℕ). item_of es y g v x₀ x₂ x₃ x₄ ρ n) (sym z) ∙ sym ex ∙ ei

-- what is written
pub write-all : (d x y : List ℕ) (at p r m k o a s o' a' s' : ℕ) (it : Record) → o ≡ o' → a ≡ a' → s ≡ s' → o' < 4096 → a' < 4096
    → p ≡ at + length (open_bytes m k o a s) → x ≡ sets d at (open_bytes m k o a s) → r ≡ p + length (record_bytes it) → y ≡ sets x p (record_bytes it)
    → (r ≡ at + length (open_bytes m k o' a' s' ++ record_bytes it)) × (y ≡ sets d at (open_bytes m k o' a' s' ++ record_bytes it)) × (r ≤ at + 8197)
write-all d x y at p r m k o a s o' a' s' it eo ea es ho ha ep ex er ey =
    let w = wrote_then d at (open_bytes m k o' a' s') (record_bytes it) x y p r (ep ∙ ap (λ (l : List ℕ). at + length l) same, ex ∙ ap (sets d at) same) (er, ey) in
    (w.0, w.1, omega (arith, er, ep, eo, ea, open-most m k o a s, record-most it))
  where
    same : open_bytes m k o a s ≡ open_bytes m k o' a' s'
    same = rw (eo, ea, es)
