-- Steps of the RANGE list.
use Prim.Native.Nat.{ℕ, suc, ◌+◌, ◌≤◌, ◌<◌}
use mathlib.Core.Bool.{Bool, true, false, not, cond, ◌&&◌}
use mathlib.Core.List.{List, [], ◌∷◌, ◌++◌, map, map-append, append_assoc, append-nil}
use mathlib.Core.Option.{Option, none, some}
use mathlib.Core.Path.{◌≡◌, refl, sym, ap, ap₂, ◌∙◌, subst}
use native.Mathlib.Numerals.{add-one}
use lib.Dec.{eqb, leb}
use lib.ListN.{length, get_or, set}
use lib.Seq.{sets, get_or-set_same, get_or-set_other}
use borrow.Author.Tests.{ne_eqb, eqb-true, eqb-false}
use Rattle.model.specs.Lists.{concat_map}
use Rattle.model.specs.Encoding.{encode_ranges}
use Rattle.quel.specs.Results.{Read, fail, ok, then, found, Word, has_word}
use Rattle.quel.specs.Names.{Entry, relation_named}
use Rattle.quel.specs.Elaboration.{Symbol, as_byte, ranges_of}
use Rattle.quel.specs.Writing.{Written, before}
use Rattle.tokens.specs.Table.{Table, token_at, word_in}
use Rattle.flat.specs.Flat.{uses, bound, range_name, symbol_of}
use Rattle.elaborate.specs.Places.{table, tokens_from, name_in}
use Rattle.elaborate.specs.Numbers.{Used}
use Rattle.elaborate.proofs.marks.Walks.{from_cons, from_end, here, here-is}
use Rattle.std.specs.Prelude.{Some, None}
use Rattle.std.specs.Prelude as P
use Rattle.elaborate.specs.Reach.{mode_in, relation_in, variable_in, place_in, used_in, Bound, range_symbol, known_by, known_of, standing}
use Rattle.elaborate.specs.Tables.{Same, Named, Clear, Holds}
use Rattle.elaborate.proofs.reach.Holds.{holds-none, holds_more}
use Rattle.elaborate.proofs.items.Ranges.{bound-kind}
use Rattle.elaborate.specs.After.{ended}
use Rattle.elaborate.proofs.turns.Laws.{ended-before}
use Rattle.elaborate.specs.declared.binds.Tally.{Tally}
use Rattle.elaborate.specs.Tallies.{listing, stated, open_relation, symbols_in, bound_from, to_do, after_token, Binds, Counts, Stands, Tells, Adds, Fills}

-- one symbol more
module _ (es : List Entry) (d : List ℕ) (at : ℕ) (done : List Symbol) (F : List Symbol → ℕ → Written) (x : Word) (q : ℕ) where
  pub put-used : (v : ℕ) (g : Read ℕ (List Symbol))
      → ended d at (listing es done F (then g λ ss m. ok (record { word = x; relation = q; variable = some v } ∷ ss) m))
      ≡ ended (sets d at (1 ∷ v ∷ q ∷ [])) (at + 3) (listing es (done ++ (record { word = x; relation = q; variable = some v } ∷ [])) F g)
  unfolding ranges_of concat_map encode_ranges
  put-used v fail = refl
  put-used v (ok ss m) =
      two (F (done ++ (record { word = x; relation = q; variable = some v } ∷ ss)) m) ∙ ended-before d at (1 ∷ v ∷ q ∷ []) (before (λ bs. encode_ranges (ranges_of es ss) bs) (F (done ++ (record { word = x; relation = q; variable = some v } ∷ ss)) m))
      ∙ ap (λ (l : List Symbol). ended (sets d at (1 ∷ v ∷ q ∷ [])) (at + 3) (before (λ bs. encode_ranges (ranges_of es ss) bs) (F l m))) (sym (append_assoc done (record { word = x; relation = q; variable = some v } ∷ []) ss))
    where
      two : (a : Written) → ended d at (before (λ bs. 1 ∷ v ∷ q ∷ encode_ranges (ranges_of es ss) bs) a) ≡ ended d at (before (λ bs. (1 ∷ v ∷ q ∷ []) ++ bs) (before (λ bs. encode_ranges (ranges_of es ss) bs) a))
      two fail = refl
      two (ok bs n) = refl

  pub put-unused : (g : Read ℕ (List Symbol))
      → listing es done F (then g λ ss m. ok (record { word = x; relation = q; variable = none } ∷ ss) m)
      ≡ listing es (done ++ (record { word = x; relation = q; variable = none } ∷ [])) F g
  unfolding ranges_of concat_map encode_ranges
  put-unused fail = refl
  put-unused (ok ss m) = ap (λ (l : List Symbol). before (λ bs. encode_ranges (ranges_of es ss) bs) (F l m)) (sym (append_assoc done (record { word = x; relation = q; variable = none } ∷ []) ss))

module _ (text : List ℕ) (t : Table) (es : List Entry) (main : ℕ) where
  abbrev used : List Word
  used = uses 0 (tokens_from text t main)

  pub symbols-more : (cs : List Bound) (c : Bound) (y : Symbol) → range_symbol (here text t) c ≡ y → symbols_in text t es main (cs ++ (c ∷ [])) ≡ symbols_in text t es main cs ++ (y ∷ [])
  symbols-more cs c y e = map-append (range_symbol (here text t)) cs (c ∷ []) ∙ ap (λ (z : Symbol). symbols_in text t es main cs ++ (z ∷ [])) e

  pub past_end : (i : ℕ) → length t.kinds ≤ i → (o : Option ℕ) (n : ℕ) → bound_from text t es main o n i ≡ ok [] n
  unfolding bound
  past_end i h o n = ap (bound es used o n) (from_end text t i h)

  module _ (i : ℕ) (h : i < length t.kinds) where
    abbrev kind : ℕ
    kind = get_or t.kinds i 0

    from-kind : (o : Option ℕ) (n : ℕ) → bound_from text t es main o n i
        ≡ cond (eqb kind 0) (range_name es o used (word_in text t i) n (λ o n. bound_from text t es main o n (i + 1))) (cond (eqb kind 14) (ok [] n) (bound_from text t es main (cond (eqb kind 21) none o) n (i + 1)))
    unfolding token_at
    from-kind o n = ap (bound es used o n) (from_cons text t i h) ∙ bound-kind es used kind (word_in text t i) (get_or t.numbers i 0) o n (tokens_from text t (i + 1))

    name-step : kind ≡ 0 → (o : Option ℕ) (n : ℕ) → bound_from text t es main o n i ≡ range_name es o used (here text t i) n (λ o n. bound_from text t es main o n (i + 1))
    name-step e o n =
        from-kind o n ∙ ap (λ (k : ℕ). cond (eqb k 0) (range_name es o used (word_in text t i) n (λ o n. bound_from text t es main o n (i + 1))) (cond (eqb k 14) (ok [] n) (bound_from text t es main (cond (eqb k 21) none o) n (i + 1)))) e
        ∙ ap (λ (x : Word). range_name es o used x n (λ o n. bound_from text t es main o n (i + 1))) (sym (here-is text t i h e))

    pub end_step : kind ≡ 14 → (o : Option ℕ) (n : ℕ) → bound_from text t es main o n i ≡ ok [] n
    end_step e o n = from-kind o n ∙ ap (λ (k : ℕ). cond (eqb k 0) (range_name es o used (word_in text t i) n (λ o n. bound_from text t es main o n (i + 1))) (cond (eqb k 14) (ok [] n) (bound_from text t es main (cond (eqb k 21) none o) n (i + 1)))) e

    right-step : kind ≡ 21 → (o : Option ℕ) (n : ℕ) → bound_from text t es main o n i ≡ bound_from text t es main none n (i + 1)
    right-step e o n = from-kind o n ∙ ap (λ (k : ℕ). cond (eqb k 0) (range_name es o used (word_in text t i) n (λ o n. bound_from text t es main o n (i + 1))) (cond (eqb k 14) (ok [] n) (bound_from text t es main (cond (eqb k 21) none o) n (i + 1)))) e

    other_step : (kind ≡ 0 → ⊥) → (kind ≡ 14 → ⊥) → (kind ≡ 21 → ⊥) → (o : Option ℕ) (n : ℕ) → bound_from text t es main o n i ≡ bound_from text t es main o n (i + 1)
    other_step a b c o n = from-kind o n ∙ rw (ne_eqb kind 0 a, ne_eqb kind 14 b, ne_eqb kind 21 c)

    module _ (s : Tally) (cs : List Bound) (out : List ℕ) where
      pub close : kind ≡ 21 → Binds text t es main i s cs out (Some (record { relation = None; n = s.n; at = s.at })) cs out
      close e = record { ends = λ F. ap (λ (g : Read ℕ (List Symbol)). ended out s.at (listing es (symbols_in text t es main cs) F g)) (right-step e (open_relation s) s.n) }

      pub pass : (kind ≡ 0 → ⊥) → (kind ≡ 14 → ⊥) → (kind ≡ 21 → ⊥) → Binds text t es main i s cs out (Some s) cs out
      pass a b c = record { ends = λ F. ap (λ (g : Read ℕ (List Symbol)). ended out s.at (listing es (symbols_in text t es main cs) F g)) (other_step a b c (open_relation s) s.n) }

      pub next : (kind ≡ 0 → ⊥) → (kind ≡ 14 → ⊥) → (u : Tally) → u ≡ cond (eqb kind 21) (record { relation = None; n = s.n; at = s.at }) s → Binds text t es main i s cs out (Some u) cs out
      next a b u eu = go (eqb kind 21) refl
        where
          go : (d : Bool) → eqb kind 21 ≡ d → Binds text t es main i s cs out (Some u) cs out
          go true f = subst (λ (x : Tally). Binds text t es main i s cs out (Some x) cs out) (sym (eu ∙ ap (λ (d : Bool). cond d (record { relation = None; n = s.n; at = s.at }) s) f)) (close (eqb-true kind 21 f))
          go false f = subst (λ (x : Tally). Binds text t es main i s cs out (Some x) cs out) (sym (eu ∙ ap (λ (d : Bool). cond d (record { relation = None; n = s.n; at = s.at }) s) f)) (pass a b (eqb-false kind 21 f))

      -- a relation
      module _ (e : kind ≡ 0) (f : s.relation ≡ None) where
        outside : bound_from text t es main (open_relation s) s.n i ≡ found (relation_named es (here text t i)) (λ q. bound_from text t es main (some q) s.n (i + 1))
        outside = ap (λ (o : P.Option ℕ). bound_from text t es main (stated o) s.n i) f ∙ name-step e none s.n

        pub known : (q : ℕ) → relation_named es (here text t i) ≡ some q → Binds text t es main i s cs out (Some (record { relation = Some q; n = s.n; at = s.at })) cs out
        known q r = record {
          ends = λ F. ap (λ (g : Read ℕ (List Symbol)). ended out s.at (listing es (symbols_in text t es main cs) F g))
              (outside ∙ ap (λ (o : Option ℕ). found o (λ q. bound_from text t es main (some q) s.n (i + 1))) r);
        }

        pub unknown : relation_named es (here text t i) ≡ none → Binds text t es main i s cs out None cs out
        unknown r = record {
          ends = λ F. ap (λ (g : Read ℕ (List Symbol)). ended out s.at (listing es (symbols_in text t es main cs) F g))
              (outside ∙ ap (λ (o : Option ℕ). found o (λ q. bound_from text t es main (some q) s.n (i + 1))) r);
        }

      -- a symbol
      module _ (e : kind ≡ 0) (q : ℕ) (f : s.relation ≡ Some q) (b : Bool) (eb : b ≡ has_word (here text t i) used) where
        abbrev one : Bound
        one = record { place = i; relation = q; variable = cond b (some (as_byte s.n)) none }

        inside : bound_from text t es main (open_relation s) s.n i ≡ symbol_of es b (here text t i) q s.n (λ n. bound_from text t es main (some q) n (i + 1))
        inside =
            ap (λ (o : P.Option ℕ). bound_from text t es main (stated o) s.n i) f ∙ name-step e (some q) s.n
            ∙ ap (λ (u : Bool). symbol_of es u (here text t i) q s.n (λ n. bound_from text t es main (some q) n (i + 1))) (sym eb)

        symbol-is : (d : Bool) → b ≡ d → range_symbol (here text t) one ≡ record { word = here text t i; relation = q; variable = cond d (some (as_byte s.n)) none }
        unfolding range_symbol
        symbol-is d u = ap (λ (y : Bool). record { word = here text t i; relation = q; variable = cond y (some (as_byte s.n)) none }) u

        still : some q ≡ open_relation s
        still = sym (ap stated f)

        pub unused : b ≡ false → Binds text t es main i s cs out (Some s) (cs ++ (one ∷ [])) out
        unused u = record {
          ends = λ F.
              ap (λ (g : Read ℕ (List Symbol)). ended out s.at (listing es (symbols_in text t es main cs) F g)) (inside ∙ ap (λ (y : Bool). symbol_of es y (here text t i) q s.n (λ n. bound_from text t es main (some q) n (i + 1))) u)
              ∙ ap (ended out s.at) (put-unused es out s.at (symbols_in text t es main cs) F (here text t i) q (bound_from text t es main (some q) s.n (i + 1)))
              ∙ ap₂ (λ (l : List Symbol) (o : Option ℕ). ended out s.at (listing es l F (bound_from text t es main o s.n (i + 1)))) (sym (symbols-more cs one (record { word = here text t i; relation = q; variable = none }) (symbol-is false u))) still;
        }

        pub used-one : b ≡ true → (to : List ℕ) (p : ℕ) → p ≡ s.at + 3 → to ≡ sets out s.at (1 ∷ as_byte s.n ∷ q ∷ [])
            → Binds text t es main i s cs out (Some (record { relation = Some q; n = s.n + 1; at = p })) (cs ++ (one ∷ [])) to
        used-one u to p ep et = record {
          ends = λ F.
              ap (λ (g : Read ℕ (List Symbol)). ended out s.at (listing es (symbols_in text t es main cs) F g)) (inside ∙ ap (λ (y : Bool). symbol_of es y (here text t i) q s.n (λ n. bound_from text t es main (some q) n (i + 1))) u)
              ∙ put-used es out s.at (symbols_in text t es main cs) F (here text t i) q (as_byte s.n) (bound_from text t es main (some q) (suc s.n) (i + 1))
              ∙ ap (λ (l : List Symbol). ended (sets out s.at (1 ∷ as_byte s.n ∷ q ∷ [])) (s.at + 3) (listing es l F (bound_from text t es main (some q) (suc s.n) (i + 1))))
              (sym (symbols-more cs one (record { word = here text t i; relation = q; variable = some (as_byte s.n) }) (symbol-is true u)))
              ∙ rw (ep, et, add-one s.n);
        }

pub not-true : (b : Bool) → not b ≡ true → b ≡ false
not-true true h = sym h
not-true false h = refl

pub not-false : (b : Bool) → not b ≡ false → b ≡ true
not-false true h = refl
not-false false h = sym h

-- no symbol more
ended-ranges : (es : List Entry) (out : List ℕ) (at : ℕ) (a : Written) → ended out at (before (λ bs. encode_ranges (ranges_of es []) bs) a) ≡ ended out at a
unfolding ranges_of concat_map encode_ranges
ended-ranges es out at fail = refl
ended-ranges es out at (ok bs n) = refl

pub finish : (es : List Entry) (out : List ℕ) (at : ℕ) (done : List Symbol) (F : List Symbol → ℕ → Written) (n : ℕ) (g : Read ℕ (List Symbol)) → g ≡ ok [] n → ended out at (listing es done F g) ≡ ended out at (F done n)
finish es out at done F n g e =
    ap (λ (g : Read ℕ (List Symbol)). ended out at (listing es done F g)) e
    ∙ ap (λ (l : List Symbol). ended out at (before (λ bs. encode_ranges (ranges_of es []) bs) (F l n))) (append-nil done) ∙ ended-ranges es out at (F done n)

module _ (text : List ℕ) (t : Table) (es : List Entry) (main i : ℕ) (s : Tally) (cs : List Bound) (out : List ℕ) (ds : List Bound) (to : List ℕ) (r : P.Option Tally) (g : Binds text t es main i s cs out r ds to) where
  pub on : (u : Tally) → r ≡ Some u → (F : List Symbol → ℕ → Written) (a : Written) → a ≡ ended out s.at (to_do text t es main F i s cs) → a ≡ ended to u.at (to_do text t es main F (i + 1) u ds)
  on u e F a h = h ∙ g.ends F ∙ ap (λ (x : P.Option Tally). after_token text t es main F (i + 1) x ds to) e

  pub off : r ≡ None → (F : List Symbol → ℕ → Written) (a : Written) → a ≡ ended out s.at (to_do text t es main F i s cs) → a ≡ fail
  off e F a h = h ∙ g.ends F ∙ ap (λ (x : P.Option Tally). after_token text t es main F (i + 1) x ds to) e

pub within : (s u : Tally) (r : P.Option Tally) → Counts s r → r ≡ Some u → (u.n ≤ s.n + 1) × (u.at ≤ s.at + 3)
within s u r w e = subst (Counts s) e w

-- a symbol more
module _ (w : ℕ → Word) (ids known : List ℕ) (cs : List Bound) (f : Same w ids) (g : Holds w ids known 0 0 (map (range_symbol w) cs)) (e i q v : ℕ) (b : Bool)
    (me : mode_in e ≡ cond b 1 2) (re : relation_in e ≡ q) (ve : variable_in e ≡ v) (pe : place_in e ≡ 0) (room : get_or ids i 0 < length known) where
  abbrev entered : Bound
  entered = record { place = i; relation = q; variable = cond b (some v) none }

  says : known_of (some (range_symbol w entered)) ≡ standing 0 e
  unfolding range_symbol
  says = rw (me, re, ve, pe) (by b)
    where
      by : (b : Bool) → known_by q (cond b (some v) none) ≡ cond (eqb (cond b 1 2) 0) None (Some (record { relation = q; variable = cond (eqb (cond b 1 2) 1 && leb 0 0) (Some v) None }))
      by true = refl
      by false = refl

  pub stands-more : (after : List ℕ) → after ≡ cond (eqb (mode_in (get_or known (get_or ids i 0) 0)) 0) (set known (get_or ids i 0) e) known → Holds w ids after 0 0 (map (range_symbol w) (cs ++ (entered ∷ [])))
  unfolding range_symbol
  stands-more after ea =
      rw (ea, map-append (range_symbol w) cs (entered ∷ []))
      (holds_more w ids known (map (range_symbol w) cs) g f i e (range_symbol w entered) room refl says pe)

-- what is marked, before the first symbol and after one more
pub tells_first : (known : List ℕ) → Clear known → Tells known known
tells_first known z x = ap (λ (m : ℕ). cond (eqb m 0) (not (eqb (get_or known x 0) 0)) (eqb m 1)) (z x).0

pub tells_more : (marks known : List ℕ) (x e : ℕ) (b : Bool) → b ≡ used_in (get_or known x 0) → mode_in e ≡ cond b 1 2 → x < length known
    → (after : List ℕ) → after ≡ cond (eqb (mode_in (get_or known x 0)) 0) (set known x e) known → Tells marks known → Tells marks after
tells_more marks known x e b eb me room after ea t = subst (Tells marks) (sym ea) (go (eqb (mode_in (get_or known x 0)) 0))
  where
    entry : (b : Bool) → mode_in e ≡ cond b 1 2 → used_in e ≡ b
    entry true m = ap (λ (m : ℕ). cond (eqb m 0) (not (eqb e 0)) (eqb m 1)) m
    entry false m = ap (λ (m : ℕ). cond (eqb m 0) (not (eqb e 0)) (eqb m 1)) m

    at : (y : ℕ) (f : Bool) → eqb y x ≡ f → used_in (get_or (set known x e) y 0) ≡ not (eqb (get_or marks y 0) 0)
    at y true f = subst (λ (z : ℕ). used_in (get_or (set known x e) z 0) ≡ not (eqb (get_or marks z 0) 0)) (sym (eqb-true y x f)) (ap used_in (get_or-set_same known x e 0 room) ∙ entry b me ∙ eb ∙ t x)
    at y false f = ap used_in (get_or-set_other known x y e 0 (eqb-false y x f)) ∙ t y

    go : (f : Bool) → Tells marks (cond f (set known x e) known)
    go true y = at y (eqb y x) refl
    go false y = t y

-- the RANGE list so far
pub record Filling (ks ids marks codes : List ℕ) (es : List Entry) (from known out : List ℕ) (s : Tally) (i : ℕ) : Type 0 where
  pub symbols : List Bound
  pub ends : (text ss ns : List ℕ) (main : ℕ) → Named (name_in text ks ss) ids codes → Used text (table ks ss ns) ids main marks → (F : List Symbol → ℕ → Written)
      → ended from 0 (listing es [] F (bound_from text (table ks ss ns) es main none 0 0)) ≡ ended out s.at (to_do text (table ks ss ns) es main F i s symbols)
  pub stands : (w : ℕ → Word) → Same w ids → Holds w ids known 0 0 (map (range_symbol w) symbols)
  pub tells : Tells marks known

module _ (ks ids marks codes : List ℕ) (es : List Entry) (start : List ℕ) where
  -- no name stands for anything yet
  pub filling-none : (known : List ℕ) → Clear known → Tells marks known → Filling ks ids marks codes es start known start (record { relation = None; n = 0; at = 0 }) 0
  filling-none known z t = record { symbols = []; ends = λ text ss ns main nm u F. refl; stands = λ w f. holds-none w ids known 0 z; tells = t }

  module _ (known out : List ℕ) (s : Tally) (i : ℕ) (h : i < length ks) (g : Filling ks ids marks codes es start known out s i) where
    -- a name
    module _ (r : P.Option Tally) (after to : List ℕ) (a : Adds ids marks codes es i s g.symbols known out r after to) (e : get_or ks i 0 ≡ 0) where
      pub filling-on : (u : Tally) → r ≡ Some u → Filling ks ids marks codes es start after to u (i + 1)
      filling-on u eu = record {
        symbols = a.symbols;
        ends = λ text ss ns main nm us F. on text (table ks ss ns) es main i s g.symbols out a.symbols to r (a.binds text ks ss ns main h e nm us g.tells) u eu F _ (g.ends text ss ns main nm us F);
        stands = λ w f. subst (λ (x : P.Option Tally). Stands w ids x a.symbols after) eu (a.stands w f (g.stands w f));
        tells = a.tells g.tells;
      }

      pub fills-off : r ≡ None → (known' : List ℕ) → Fills ks ids marks codes es start None known' to
      fills-off eu known' = record {
        symbols = [];
        whole = λ text ss ns main nm us. record { ends = λ F. off text (table ks ss ns) es main i s g.symbols out a.symbols to r (a.binds text ks ss ns main h e nm us g.tells) eu F _ (g.ends text ss ns main nm us F) };
        stands = λ w f. tt;
      }

    -- another token
    pub filling-next : (get_or ks i 0 ≡ 0 → ⊥) → (get_or ks i 0 ≡ 14 → ⊥) → (u : Tally) → u ≡ cond (eqb (get_or ks i 0) 21) (record { relation = None; n = s.n; at = s.at }) s → Filling ks ids marks codes es start known out u (i + 1)
    filling-next a b u eu = record {
      symbols = g.symbols;
      ends = λ text ss ns main nm us F. on text (table ks ss ns) es main i s g.symbols out g.symbols out (Some u) (next text (table ks ss ns) es main i h s g.symbols out a b u eu) u refl F _ (g.ends text ss ns main nm us F);
      stands = g.stands;
      tells = g.tells;
    }

  -- at RETRIEVE, or after the last token
  pub fills : (known out : List ℕ) (s : Tally) (i : ℕ) → Filling ks ids marks codes es start known out s i
      → ((text ss ns : List ℕ) (main : ℕ) → bound_from text (table ks ss ns) es main (open_relation s) s.n i ≡ ok [] s.n) → Fills ks ids marks codes es start (Some s) known out
  fills known out s i g l = record {
    symbols = g.symbols;
    whole = λ text ss ns main nm us. record { ends = λ F. g.ends text ss ns main nm us F ∙ finish es out s.at (symbols_in text (table ks ss ns) es main g.symbols) F s.n (bound_from text (table ks ss ns) es main (open_relation s) s.n i) (l text ss ns main) };
    stands = g.stands;
  }

pub within-next : (k : ℕ) (s u : Tally) → u ≡ cond (eqb k 21) (record { relation = None; n = s.n; at = s.at }) s → (u.n ≡ s.n) × (u.at ≡ s.at)
within-next k s u e = go (eqb k 21) e
  where
    go : (d : Bool) → u ≡ cond d (record { relation = None; n = s.n; at = s.at }) s → (u.n ≡ s.n) × (u.at ≡ s.at)
    go true f = (ap (λ (x : Tally). x.n) f, ap (λ (x : Tally). x.at) f)
    go false f = (ap (λ (x : Tally). x.n) f, ap (λ (x : Tally). x.at) f)
