-- For a list that passes `names` the records found by their bytes are its entries.
use mathlib.Core.Path.{◌≡◌, refl, sym, ap, ap₂, subst, ◌∙◌}
use mathlib.Core.Bool.{Bool, true, false, not, ◌&&◌, ◌||◌}
use mathlib.Core.List.{List, [], ◌∷◌, ◌++◌}
use mathlib.Core.Option.{Option, some}
use Prim.Native.Nat.{ℕ, zero, suc, ◌<◌, ◌≤◌}
use native.Mathlib.Omega.{arith}
use lib.Dec.{eqb, leb, ltb}
use lib.ListN.{length, get_or, take, drop, length-drop}
use borrow.Author.Tests.{le-leb, lt-leb, ltb-true, ltb-false}
use mathlib.Core.Logic.{◌⊎◌, inl, inr}
use Rattle.model.specs.Lists.{any, concat_map}
use Rattle.quel.specs.Results.{Read, fail, ok, then, need, Word, same_word, has_word, unique_words}
use Rattle.quel.specs.Tokens.{is_letter, run}
use Rattle.quel.specs.Names.{Entry, relation, attribute, value, Bytes, is_padded, padded_name, entry, entries_from, relation_key, attribute_key, value_key, listed_once, names, relation_named, attribute_named, value_named}
use Rattle.quel.proofs.Results.{never, ok-value, ok-left, then-inv, need-inv}
use Rattle.names.specs.Entries.{place_of, width_of, name_at, entry_at, entries}
use Rattle.names.specs.Search.{is_named, seek, again, good_at}
use Rattle.names.specs.Answers.{failed}
use Rattle.names.proofs.Same.{eqb-turned, same-turned}
use Rattle.names.proofs.Walk.{place-small, entries-cons, entries_none}
use Rattle.names.proofs.Finds.{is_some, by_kind, bytes_at, looked-some, relation-one, attribute-one, value-one}

-- the list has a name twice where a lookup finds it again
or_some : {A : Type 0} (t u : Bool) (a : A) (o : Option A) → t ≡ u → is_some {A = A} (elim u as (λ _. Option A) [ true ↦ some a | false ↦ o ]) ≡ (t || is_some o)
or_some t true a o e = sym (ap (λ (b : Bool). b || is_some o) e)
or_some t false a o e = sym (ap (λ (b : Bool). b || is_some o) e)

relation-has : (w : Word) (es : List Entry) → is_some (relation_named es w) ≡ has_word w (concat_map relation_key es)
unfolding relation_named has_word concat_map any
relation-has w [] = refl
relation-has w (relation q v ∷ es) = or_some (same_word w v) (same_word v w) q (relation_named es w) (same-turned w v) ∙ ap (λ (b : Bool). same_word w v || b) (relation-has w es)
relation-has w (attribute q a v ∷ es) = relation-has w es
relation-has w (value b v ∷ es) = relation-has w es

attribute-has : (r : ℕ) (w : Word) (es : List Entry) → is_some (attribute_named es r w) ≡ has_word (r ∷ w) (concat_map attribute_key es)
unfolding attribute_named has_word concat_map any same_word
attribute-has r w [] = refl
attribute-has r w (relation q v ∷ es) = attribute-has r w es
attribute-has r w (attribute q a v ∷ es) =
    or_some (eqb r q && same_word w v) (eqb q r && same_word v w) a (attribute_named es r w) (ap₂ ◌&&◌ (eqb-turned r q) (same-turned w v))
    ∙ ap (λ (b : Bool). (eqb r q && same_word w v) || b) (attribute-has r w es)
attribute-has r w (value b v ∷ es) = attribute-has r w es

value-has : (w : Word) (es : List Entry) → is_some (value_named es w) ≡ has_word w (concat_map value_key es)
unfolding value_named has_word concat_map any
value-has w [] = refl
value-has w (relation q v ∷ es) = value-has w es
value-has w (attribute q a v ∷ es) = value-has w es
value-has w (value b v ∷ es) = or_some (same_word w v) (same_word v w) b (value_named es w) (same-turned w v) ∙ ap (λ (b : Bool). same_word w v || b) (value-has w es)

once-first : (h r a v : Bool) → (not h && r) && (a && v) ≡ not h && (r && (a && v))
once-first true r a v = refl
once-first false r a v = refl

once-second : (h r a v : Bool) → r && ((not h && a) && v) ≡ not h && (r && (a && v))
once-second true true a v = refl
once-second true false a v = refl
once-second false r a v = refl

once-third : (h r a v : Bool) → r && (a && (not h && v)) ≡ not h && (r && (a && v))
once-third true true true v = refl
once-third true true false v = refl
once-third true false a v = refl
once-third false r a v = refl

-- the first record, of one of the three kinds: what `names` reads, and what it asks of those after it
pub record First (k : ℕ) (r : List ℕ) (e : Entry) : Type 0 where
  pub at : entry_at (k ∷ r) ≡ e ∷ []
  pub reads : entry k r ≡ need (is_padded (name_at (k ∷ r) (place_of k)) (drop (place_of k) (k ∷ r))) (ok e (drop (width_of k) (k ∷ r)))
  pub once : (y : List ℕ) → listed_once (e ∷ entries y) ≡ (not (ltb 0 (length (seek (is_named k (get_or (k ∷ r) 1 0) (name_at (k ∷ r) (place_of k))) y))) && listed_once (entries y))

-- a name read and then made an entry
then-need : {S A B : Type 0} (t : Bool) (a : A) (s : S) (k : A → S → Read S B) → then (need t (ok a s)) k ≡ need t (k a s)
then-need true a s k = refl
then-need false a s k = refl

name-read : (x : List ℕ) (f : Word → Entry) → then (padded_name x) (λ w r. ok (f w) r) ≡ need (is_padded (run is_letter (take 12 x)) x) (ok (f (run is_letter (take 12 x))) (drop 12 x))
unfolding padded_name
name-read x f = then-need (is_padded (run is_letter (take 12 x)) x) (run is_letter (take 12 x)) (drop 12 x) (λ w r. ok (f w) r)

relation-reads : (r : List ℕ) → entry 80 r ≡ need (is_padded (name_at (80 ∷ r) 2) (drop 2 (80 ∷ r))) (ok (relation (get_or r 0 0) (name_at (80 ∷ r) 2)) (drop 14 (80 ∷ r)))
unfolding entry name_at is_padded
relation-reads [] = refl
relation-reads (a ∷ r) = name-read r (relation a)

attribute-reads : (r : List ℕ) → entry 81 r ≡ need (is_padded (name_at (81 ∷ r) 3) (drop 3 (81 ∷ r))) (ok (attribute (get_or r 0 0) (get_or r 1 0) (name_at (81 ∷ r) 3)) (drop 15 (81 ∷ r)))
unfolding entry name_at is_padded
attribute-reads [] = refl
attribute-reads (a ∷ []) = refl
attribute-reads (a ∷ (b ∷ r)) = name-read r (attribute a b)

value-reads : (r : List ℕ) → entry 82 r ≡ need (is_padded (name_at (82 ∷ r) 5) (drop 5 (82 ∷ r))) (ok (value (bytes_at (82 ∷ r)) (name_at (82 ∷ r) 5)) (drop 17 (82 ∷ r)))
unfolding entry name_at is_padded
value-reads [] = refl
value-reads (a ∷ []) = refl
value-reads (a ∷ (b ∷ [])) = refl
value-reads (a ∷ (b ∷ (c ∷ []))) = refl
value-reads (a ∷ (b ∷ (c ∷ (d ∷ r)))) = name-read r (value (record { b0 = a; b1 = b; b2 = c; b3 = d }))

-- of each kind
module _ (r : List ℕ) where
  abbrev relation_here : Entry
  relation_here = relation (get_or r 0 0) (name_at (80 ∷ r) 2)

  relation-once : (w : Word) (q : ℕ) (y : List ℕ) → listed_once (relation q w ∷ entries y) ≡ (not (ltb 0 (length (seek (is_named 80 q w) y))) && listed_once (entries y))
  unfolding listed_once concat_map unique_words relation_named
  relation-once w q y =
      once-first (has_word w (concat_map relation_key (entries y))) (unique_words (concat_map relation_key (entries y))) (unique_words (concat_map attribute_key (entries y))) (unique_words (concat_map value_key (entries y)))
      ∙ ap (λ (h : Bool). not h && listed_once (entries y)) (sym (looked-some (λ es. relation_named es w) (is_named 80 q w) (λ x. get_or x 1 0) refl (λ x es. relation-one w q x es) y ∙ relation-has w (entries y)))

  first-relation : First 80 r relation_here
  unfolding entry_at place_of
  first-relation = record { at = refl; reads = relation-reads r; once = relation-once (name_at (80 ∷ r) 2) (get_or r 0 0) }

  abbrev attribute_here : Entry
  attribute_here = attribute (get_or r 0 0) (get_or r 1 0) (name_at (81 ∷ r) 3)

  attribute-once : (w : Word) (q a : ℕ) (y : List ℕ) → listed_once (attribute q a w ∷ entries y) ≡ (not (ltb 0 (length (seek (is_named 81 q w) y))) && listed_once (entries y))
  unfolding listed_once concat_map unique_words attribute_named
  attribute-once w q a y =
      once-second (has_word (q ∷ w) (concat_map attribute_key (entries y))) (unique_words (concat_map relation_key (entries y))) (unique_words (concat_map attribute_key (entries y))) (unique_words (concat_map value_key (entries y)))
      ∙ ap (λ (h : Bool). not h && listed_once (entries y)) (sym (looked-some (λ es. attribute_named es q w) (is_named 81 q w) (λ x. get_or x 2 0) refl (λ x es. attribute-one w q x es) y ∙ attribute-has q w (entries y)))

  first-attribute : First 81 r attribute_here
  unfolding entry_at place_of
  first-attribute = record { at = refl; reads = attribute-reads r; once = attribute-once (name_at (81 ∷ r) 3) (get_or r 0 0) (get_or r 1 0) }

  abbrev value_here : Entry
  value_here = value (bytes_at (82 ∷ r)) (name_at (82 ∷ r) 5)

  value-once : (w : Word) (q : ℕ) (b : Bytes) (y : List ℕ) → listed_once (value b w ∷ entries y) ≡ (not (ltb 0 (length (seek (is_named 82 q w) y))) && listed_once (entries y))
  unfolding listed_once concat_map unique_words value_named
  value-once w q b y =
      once-third (has_word w (concat_map value_key (entries y))) (unique_words (concat_map relation_key (entries y))) (unique_words (concat_map attribute_key (entries y))) (unique_words (concat_map value_key (entries y)))
      ∙ ap (λ (h : Bool). not h && listed_once (entries y)) (sym (looked-some (λ es. value_named es w) (is_named 82 q w) bytes_at refl (λ x es. value-one w q x es) y ∙ value-has w (entries y)))

  first-value : First 82 r value_here
  unfolding entry_at place_of
  first-value = record { at = refl; reads = value-reads r; once = value-once (name_at (82 ∷ r) 5) (get_or r 0 0) (bytes_at (82 ∷ r)) }

-- of the first record: one of the three, or none, and then all is refused
pub by_first : {X : Type 0} (k : ℕ) (r : List ℕ) → ((e : Entry) → (80 ≤ k) × (k ≤ 82) → First k r e → X) → ((k < 80) ⊎ (82 < k) → entry k r ≡ fail → X) → X
unfolding entry
by_first {X} k r f o =
    by_kind k
    (λ e a b c. f (relation_here r) (omega arith, omega arith) (subst (λ (n : ℕ). First n r (relation_here r)) (sym e) (first-relation r)))
    (λ e a b c. f (attribute_here r) (omega arith, omega arith) (subst (λ (n : ℕ). First n r (attribute_here r)) (sym e) (first-attribute r)))
    (λ e a b c. f (value_here r) (omega arith, omega arith) (subst (λ (n : ℕ). First n r (value_here r)) (sym e) (first-value r)))
    (λ u v w a b c. o (outside u v w) (rw (entry, a, b, c)))
  where
    outside : (k ≡ 80 → ⊥) → (k ≡ 81 → ⊥) → (k ≡ 82 → ⊥) → (k < 80) ⊎ (82 < k)
    outside u v w = go (ltb k 80) refl
      where
        go : (t : Bool) → ltb k 80 ≡ t → (k < 80) ⊎ (82 < k)
        go true h = inl (ltb-true k 80 h)
        go false h = inr (omega (arith, ltb-false k 80 h, u, v, w))

rest-short : (k : ℕ) (r : List ℕ) → length (drop (width_of k) (k ∷ r)) ≤ length r
rest-short k r = omega (arith, length-drop (width_of k) (k ∷ r), place-small k)

-- any bound on the number of steps that is large enough serves
same_then : (n m : ℕ) (t : Bool) (e : Entry) (y : List ℕ) → entries_from n y ≡ entries_from m y
    → then (need t (ok e y)) (λ e r. then (entries_from n r) λ es r. ok (e ∷ es) r) ≡ then (need t (ok e y)) (λ e r. then (entries_from m r) λ es r. ok (e ∷ es) r)
same_then n m true e y h = ap (λ (g : Read (List ℕ) (List Entry)). then g λ es r. ok (e ∷ es) r) h
same_then n m false e y h = refl

fuel : (n m : ℕ) (x : List ℕ) → length x < n → length x < m → entries_from n x ≡ entries_from m x
unfolding entries_from
fuel zero m x h i = absurd (omega arith)
fuel (suc n) zero x h i = absurd (omega arith)
fuel (suc n) (suc m) [] h i = refl
fuel (suc n) (suc m) (k ∷ r) h i =
    let l = rest-short k r in
    let ih = fuel n m (drop (width_of k) (k ∷ r)) (omega arith) (omega arith) in
    by_first k r
    (λ e b f. rw f.reads (same_then n m (is_padded (name_at (k ∷ r) (place_of k)) (drop (place_of k) (k ∷ r))) e (drop (width_of k) (k ∷ r)) ih))
    (λ o e. rw e)

-- what is read is what the bytes say
pub entries-read : (n : ℕ) (x : List ℕ) (es : List Entry) (s : List ℕ) → entries_from n x ≡ ok es s → entries x ≡ es
unfolding entries_from
entries-read zero x es s h = never es s h
entries-read (suc n) [] es s h = entries_none ∙ ok-value h
entries-read (suc n) (k ∷ r) es s h =
    by_first k r
    (λ e b f.
    then-inv es s (entry k r) _ h λ e' r' i h.
    need-inv e' r' (is_padded (name_at (k ∷ r) (place_of k)) (drop (place_of k) (k ∷ r))) _ (sym f.reads ∙ i) λ p j.
    then-inv es s (entries_from n r') _ h λ es' s' l h.
    entries-cons k r
    ∙ ap₂ (λ (a : List Entry) (y : List ℕ). a ++ entries y) (f.at ∙ ap (λ (a : Entry). a ∷ []) (ok-value j)) (ok-left j)
    ∙ ap (λ (zs : List Entry). e' ∷ zs) (entries-read n r' es' s' l)
    ∙ ok-value h)
    (λ o e. never es s (sym (ap (λ (g : Read (List ℕ) Entry). then g λ e r. then (entries_from n r) λ es r. ok (e ∷ es) r) e) ∙ h))

-- the entries of a list that passes
pub entries-are : (x : List ℕ) (es : List Entry) (s : List ℕ) → names x ≡ ok es s → entries x ≡ es
unfolding names
entries-are x es s h =
    then-inv es s (entries_from (suc (length x)) x) _ h λ es' s' e h.
    need-inv es s (listed_once es') _ h λ o h.
    entries-read (suc (length x)) x es' s' e ∙ ok-value h

-- the list passes where its first record is good and the list after it passes
abbrev pub passes : List ℕ → Bool
passes x = not (failed (names x))

pub passes_none : true ≡ passes []
unfolding names entries_from listed_once concat_map unique_words
passes_none = refl

and_no : (b : Bool) → (b && false) ≡ false
and_no true = refl
and_no false = refl

abbrev whole : Read (List ℕ) (List Entry) → Bool
whole g = not (failed (then g λ es r. need (listed_once es) (ok es r)))

needed : (t : Bool) (es : List Entry) (s : List ℕ) → not (failed (need t (ok es s))) ≡ t
needed true es s = refl
needed false es s = refl

module _ (k : ℕ) (r : List ℕ) where
  abbrev tail : List ℕ
  tail = drop (width_of k) (k ∷ r)

  no_kind : (k < 80) ⊎ (82 < k) → (leb 80 k && leb k 82) ≡ false
  no_kind (inl h) = rw (lt-leb 80 k h)
  no_kind (inr h) = ap (λ (t : Bool). leb 80 k && t) (lt-leb k 82 h) ∙ and_no (leb 80 k)

  module _ (e : Entry) (f : First k r e) where
    by-rest : (n : ℕ) (g : Read (List ℕ) (List Entry)) → entries_from n tail ≡ g → whole (then g λ es s. ok (e ∷ es) s) ≡ (not (again (k ∷ r)) && whole g)
    unfolding again
    by-rest n fail i = sym (and_no (not (again (k ∷ r))))
    by-rest n (ok es s) i =
        needed (listed_once (e ∷ es)) (e ∷ es) s
        ∙ ap (λ (zs : List Entry). listed_once (e ∷ zs)) (sym (entries-read n tail es s i))
        ∙ f.once tail
        ∙ ap (λ (zs : List Entry). not (again (k ∷ r)) && listed_once zs) (entries-read n tail es s i)
        ∙ ap (λ (t : Bool). not (again (k ∷ r)) && t) (sym (needed (listed_once es) es s))

    by_name : (n : ℕ) → length tail < n → (t : Bool) → whole (then (need t (ok e tail)) λ e r. then (entries_from n r) λ es r. ok (e ∷ es) r) ≡ ((t && not (again (k ∷ r))) && passes tail)
    unfolding names
    by_name n l false = refl
    by_name n l true =
        by-rest n (entries_from n tail) refl
        ∙ ap (λ (g : Read (List ℕ) (List Entry)). not (again (k ∷ r)) && whole g) (fuel n (suc (length tail)) tail l (omega arith))

  pub passes-cons : passes (k ∷ r) ≡ (good_at (k ∷ r) && passes tail)
  unfolding names entries_from good_at
  passes-cons =
      by_first k r
      (λ e b f.
      rw (f.reads, le-leb 80 k b.0, le-leb k 82 b.1)
      (by_name e f (suc (length r)) (omega (arith, rest-short k r)) (is_padded (name_at (k ∷ r) (place_of k)) (drop (place_of k) (k ∷ r)))))
      (λ o e. rw (e, no_kind o))
