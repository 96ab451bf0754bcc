-- Change 12, proved: more permits, no fewer rows. The statement is in specs/Demands.antt.
use Prim.Native.Nat.{ℕ, zero, suc, ◌*◌, ◌/◌, ◌≤◌, min}
use mathlib.Core.Bool.{Bool, true, false, not, cond, ◌&&◌}
use mathlib.Core.List.{List, [], ◌∷◌, ◌++◌, map, append_assoc}
use mathlib.Core.Path.{◌≡◌, refl, sym, ◌∙◌, ap, ap₂, subst}
use native.Mathlib.Omega.{arith}
use lib.Dec.{leb}
use lib.IntN.{ℤ}
use lib.ListN.{length, take, drop}
use lib.Seq.{take_at, drop_at, take-length}
use borrow.Author.Tests.{leb-true, le-leb, le-ltb}
use Rattle.model.specs.Lists.{filter, any, concat_map, Every}
use Rattle.model.specs.Syntax.{Binding, Query, Permit, bindings_q}
use Rattle.model.specs.Encoding.{encode_query, query_of, permits_of}
use Rattle.model.specs.Meaning.{Tuple, answers}
use Rattle.model.specs.Catalogue.{catalogue_of, Shape, shape_of, stored_at, tuples_at}
use Rattle.model.specs.Permits.{used_of, no_access, applies, bars, guard_of, guards_of, meets, allowed, permitted}
use Rattle.model.specs.Checks.{served, fails33, rewritten_bytes, fails40, permit_checks, query_checks, guard_checks, shape_checks, ask_checks, refusal}
use Rattle.model.specs.Calls.{Outcome, give, ask}
use Rattle.model.specs.Demands.{guards_in, rewritten_of, rows_of, columns_of, Passes, positive_q, rows_from, rows_given, included, MorePermits}
use Rattle.model.proofs.Tests.{and-inv, and_intro, or-inv, or_left, or_right, not-no}
use Rattle.model.proofs.Lists.{any-filter, any-map, any-weaken, all-weaken, any-skip, Within, within-insert}
use Rattle.model.proofs.Passed.{Passed, passed}
use Rattle.model.proofs.Grounds.{refusal-skip, passes-refusal}
use Rattle.model.proofs.Width.{Wide, answers-wide}
use Rattle.model.proofs.Monotone.{more-answers, within-included}
use Rattle.model.proofs.Demands.{given, refused, kept-refusal, passes_kept, shape-passes, over-permitted}

-- a permit p more
module _ (sh : Shape) (q : Query) (xs : List Permit) (p : Permit) (ys : List Permit) where
  -- what a permit allowed stays allowed
  more-allowed : (D : ℕ → List Tuple) (v r : ℕ) (x : Tuple) → allowed D (guards_of sh (xs ++ ys) q v r) x ≡ true → allowed D (guards_of sh (xs ++ (p ∷ ys)) q v r) x ≡ true
  unfolding guards_of guard_of allowed
  more-allowed D v r x = go (stored_at sh r)
    where
      t : Permit → Bool
      t = applies (used_of q v) r

      some-allows : (ps : List Permit) → any (λ c. meets D c x) (map (λ (p : Permit). p.condition) (filter t ps)) ≡ any (λ (p : Permit). meets D p.condition x && t p) ps
      some-allows ps = any-map (λ (p : Permit). p.condition) (λ c. meets D c x) (filter t ps) ∙ sym (any-filter (λ (p : Permit). meets D p.condition x) t ps)

      go : (d : Bool) → allowed D (guard_of d (map (λ (p : Permit). p.condition) (filter t (xs ++ ys)))) x ≡ true → allowed D (guard_of d (map (λ (p : Permit). p.condition) (filter t (xs ++ (p ∷ ys))))) x ≡ true
      go true h = some-allows (xs ++ (p ∷ ys)) ∙ within-insert xs p ys (λ (p : Permit). meets D p.condition x && t p) (sym (some-allows (xs ++ ys)) ∙ h)
      go false h = refl

  more-permitted : (D : ℕ → List Tuple) (v r : ℕ) → Within (permitted D (guards_of sh (xs ++ ys) q) v r) (permitted D (guards_of sh (xs ++ (p ∷ ys)) q) v r)
  unfolding permitted
  more-permitted D v r f h =
      let a = allowed D (guards_of sh (xs ++ ys) q v r) in
      let a' = allowed D (guards_of sh (xs ++ (p ∷ ys)) q v r) in
      sym (any-filter f a' (D r))
      ∙ any-weaken (λ x. f x && a x) (λ x. f x && a' x) (λ x k. let i = and-inv (f x) (a x) k in and_intro (f x) (a' x) i.0 (more-allowed D v r x i.1)) (D r) (any-filter f a (D r) ∙ h)

  -- 33: p bars nothing, and what applied goes on applying
  module _ (opens : no_access p ≡ false) where
    bars-nothing : (s : ℕ → Bool) (r : ℕ) → bars s r p ≡ false
    unfolding bars
    bars-nothing s r = rw opens

    still-served : (b : Binding) → served sh (xs ++ ys) q b ≡ true → served sh (xs ++ (p ∷ ys)) q b ≡ true
    unfolding served
    still-served b h =
        let s = used_of q b.variable in
        let r = b.relation in
        or-inv (not (stored_at sh r)) _ h (λ k. or_left (not (stored_at sh r)) _ k)
        (λ k.
        let i = and-inv (not (any (bars s r) (xs ++ ys))) (any (applies s r) (xs ++ ys)) k in
        or_right (not (stored_at sh r)) _ (and_intro (not (any (bars s r) (xs ++ (p ∷ ys)))) (any (applies s r) (xs ++ (p ∷ ys))) (ap not (any-skip (bars s r) xs p ys (bars-nothing s r)) ∙ i.0) (within-insert xs p ys (applies s r) i.1)))

    still-33 : fails33 sh (xs ++ ys) q ≡ false → fails33 sh (xs ++ (p ∷ ys)) q ≡ false
    unfolding fails33
    still-33 h = ap not (all-weaken (served sh (xs ++ ys) q) (served sh (xs ++ (p ∷ ys)) q) still-served (bindings_q q) (not-no _ h))

-- the rows of an answer stand in its buffer
read_back : (k : ℕ) (rows : List (List ℤ)) (rest : List ℤ) → Every (Wide k) rows → rows_from (length rows) k (concat_map (λ r. r) rows ++ rest) ≡ rows
unfolding rows_from concat_map Every
read_back k [] rest w = refl
read_back k (x ∷ rows) rest w =
    let cells = concat_map (λ r. r) rows ++ rest in
    ap (λ (l : List ℤ). take k l ∷ rows_from (length rows) k (drop k l)) (append_assoc x (concat_map (λ r. r) rows) rest)
    ∙ ap₂ (λ (y : List ℤ) (l : List ℤ). y ∷ rows_from (length rows) k l) (take_at x cells k w.0) (drop_at x cells k w.0)
    ∙ ap (λ (l : List (List ℤ)). x ∷ l) (read_back k rows rest w.1)

module _ (k : ℕ) (rows : List (List ℤ)) (cells : List ℤ) where
  give-fits : (give k rows cells).number ≡ 0 → length rows ≤ length cells / k
  unfolding give
  give-fits e = leb-true (length rows) (length cells / k) (go (leb (length rows) (length cells / k)) e)
    where
      go : (t : Bool) → ◌≡◌ {A = ℕ} (cond t 0 41) 0 → t ≡ true
      go true e = refl
      go false e = absurd (omega arith)

  fits-give : length rows ≤ length cells / k → (give k rows cells).number ≡ 0
  unfolding give
  fits-give h = rw (le-leb (length rows) (length cells / k) h)

  give-rows : length rows ≤ length cells / k → Every (Wide k) rows → rows_from (give k rows cells).rows (give k rows cells).columns (give k rows cells).cells ≡ rows
  unfolding give
  give-rows h w =
      let e : min (length rows) (length cells / k) ≡ length rows = omega arith in
      rw (e, take-length rows) (read_back k rows (drop (length rows * k) cells) w)

-- an accepted call: its checks passed, its rows fit and stand in the buffer
module _ (cb : List ℕ) (vs : List ℤ) (pb qb rewritten : List ℕ) (cells : List ℤ) where
  accepted-passes : (ask cb vs pb qb rewritten cells).answer.number ≡ 0 → refusal (ask_checks cb vs pb qb (length rewritten)) ≡ 0
  accepted-passes e = go (refusal (ask_checks cb vs pb qb (length rewritten))) refl
    where
      go : (n : ℕ) → refusal (ask_checks cb vs pb qb (length rewritten)) ≡ n → n ≡ 0
      go zero f = refl
      go (suc n) f = ap (λ (o : Outcome). o.answer.number) (sym (refused cb vs pb qb rewritten cells n f)) ∙ e

  abbrev the-rows : List (List ℤ)
  the-rows = rows_of cb vs (rewritten_of cb pb qb)

  same_number : refusal (ask_checks cb vs pb qb (length rewritten)) ≡ 0 → (ask cb vs pb qb rewritten cells).answer.number ≡ (give (columns_of qb) the-rows cells).number
  same_number h = ap (λ (o : Outcome). o.answer.number) (given cb vs pb qb rewritten cells h)

  accepted-rows : (ask cb vs pb qb rewritten cells).answer.number ≡ 0 → rows_given (ask cb vs pb qb rewritten cells) ≡ answers (query_of qb) (permitted (tuples_at (catalogue_of cb) vs) (guards_in cb pb (query_of qb)))
  accepted-rows a =
      let h = accepted-passes a in
      let e = over-permitted cb vs pb qb rewritten h in
      ap rows_given (given cb vs pb qb rewritten cells h)
      ∙ give-rows (columns_of qb) the-rows cells (give-fits (columns_of qb) the-rows cells (sym (same_number h) ∙ a)) (subst (Every (Wide (columns_of qb))) (sym e) (answers-wide (query_of qb) _))
      ∙ e

permit-numbers : (sh : Shape) (pb : List ℕ) → Every (λ c. 1 ≤ c.1) (permit_checks sh pb)
unfolding Every permit_checks
permit-numbers sh pb = (omega arith, (omega arith, (omega arith, (omega arith, tt))))

-- a list that passes 20 to 23 and 33, with a buffer that 40 lets pass, passes with any query that was accepted
other-passes : (sh : Shape) (pb pb' qb : List ℕ) (room room' : ℕ) → Passed sh pb qb room → Passes (permit_checks sh pb')
    → fails33 sh (permits_of pb') (query_of qb) ≡ false → length (rewritten_bytes sh (permits_of pb') (query_of qb)) ≤ room' → refusal (shape_checks sh pb' qb room') ≡ 0
unfolding shape_checks query_checks guard_checks refusal fails40
other-passes sh pb pb' qb room room' c l h33 b =
    refusal-skip (permit_checks sh pb') _ (permit-numbers sh pb') (passes-refusal (permit_checks sh pb') l)
    ∙ rw (c.p30, c.p31, c.p32, h33, le-ltb room' (length (rewritten_bytes sh (permits_of pb') (query_of qb))) b)

-- a permit p more, anywhere in the list
module _ (cb : List ℕ) (vs : List ℤ) (pb pb' qb rewritten rewritten' : List ℕ) (cells cells' : List ℤ) (xs : List Permit) (p : Permit) (ys : List Permit)
    (shorter : permits_of pb ≡ xs ++ ys) (longer : permits_of pb' ≡ xs ++ (p ∷ ys)) (accepted : (ask cb vs pb qb rewritten cells).answer.number ≡ 0) where
  abbrev sh : Shape
  sh = shape_of (catalogue_of cb)

  abbrev q : Query
  q = query_of qb

  -- the rows of a list of permits
  abbrev under : List Permit → List (List ℤ)
  under ps = answers q (permitted (tuples_at (catalogue_of cb) vs) (guards_of sh ps q))

  passes : refusal (ask_checks cb vs pb qb (length rewritten)) ≡ 0
  passes = accepted-passes cb vs pb qb rewritten cells accepted

  -- whatever the query: a permit other than NO ACCESS draws no refusal but its own
  pub still-accepted : no_access p ≡ false → Passes (permit_checks sh pb')
      → length (encode_query (rewritten_of cb pb' qb)) ≤ length rewritten'
      → length (rows_of cb vs (rewritten_of cb pb' qb)) ≤ length cells' / columns_of qb
      → (ask cb vs pb' qb rewritten' cells').answer.number ≡ 0
  unfolding rewritten_bytes
  still-accepted opens l bytes_fit rows_fit =
      let c = passed sh pb qb (length rewritten) (shape-passes cb vs pb qb rewritten passes) in
      let h33 : fails33 sh (permits_of pb') q ≡ false = ap (λ (ps : List Permit). fails33 sh ps q) longer ∙ still-33 sh q xs p ys opens (ap (λ (ps : List Permit). fails33 sh ps q) (sym shorter) ∙ c.p33) in
      let h = kept-refusal cb vs pb' qb (length rewritten') (passes_kept cb vs pb qb (length rewritten) passes) ∙ other-passes sh pb pb' qb (length rewritten) (length rewritten') c l h33 bytes_fit in
      same_number cb vs pb' qb rewritten' cells' h ∙ fits-give (columns_of qb) _ cells' rows_fit

  -- whatever the permit: where both calls are accepted, a query without NOT and aggregates loses no row
  pub rows-kept : (ask cb vs pb' qb rewritten' cells').answer.number ≡ 0 → positive_q q ≡ true
      → included (rows_given (ask cb vs pb qb rewritten cells)) (rows_given (ask cb vs pb' qb rewritten' cells')) ≡ true
  rows-kept accepted' positive =
      ap₂ included (accepted-rows cb vs pb qb rewritten cells accepted ∙ ap under shorter) (accepted-rows cb vs pb' qb rewritten' cells' accepted' ∙ ap under longer)
      ∙ within-included (under (xs ++ ys)) (under (xs ++ (p ∷ ys))) (more-answers _ _ (more-permitted sh q xs p ys (tuples_at (catalogue_of cb) vs)) q positive)

pub more-permits : MorePermits
more-permits cb vs pb pb' qb rewritten rewritten' cells cells' xs p ys e e' opens accepted positive l bytes_fit rows_fit =
    let a = still-accepted cb vs pb pb' qb rewritten rewritten' cells cells' xs p ys e e' accepted opens l bytes_fit rows_fit in
    (a, rows-kept cb vs pb pb' qb rewritten rewritten' cells cells' xs p ys e e' accepted a positive)

-- the same of two outcomes that are known to be those of ask, as the contract of an exported call says
pub more-permits-outcomes : (cb : List ℕ) (vs : List ℤ) (pb pb' qb rewritten rewritten' : List ℕ) (cells cells' : List ℤ) (xs : List Permit) (p : Permit) (ys : List Permit) (o o' : Outcome)
    → o ≡ ask cb vs pb qb rewritten cells → o' ≡ ask cb vs pb' qb rewritten' cells'
    → permits_of pb ≡ xs ++ ys → permits_of pb' ≡ xs ++ (p ∷ ys) → no_access p ≡ false
    → o.answer.number ≡ 0 → positive_q (query_of qb) ≡ true → Passes (permit_checks (shape_of (catalogue_of cb)) pb')
    → length (encode_query (rewritten_of cb pb' qb)) ≤ length rewritten'
    → length (rows_of cb vs (rewritten_of cb pb' qb)) ≤ length cells' / columns_of qb
    → (o'.answer.number ≡ 0) × (included (rows_given o) (rows_given o') ≡ true)
more-permits-outcomes cb vs pb pb' qb rewritten rewritten' cells cells' xs p ys o o' f f' e e' opens accepted positive l bytes_fit rows_fit =
    let number : Outcome → ℕ = λ o. o.answer.number in
    let i = more-permits cb vs pb pb' qb rewritten rewritten' cells cells' xs p ys e e' opens (ap number (sym f) ∙ accepted) positive l bytes_fit rows_fit in
    (ap number f' ∙ i.0, ap₂ (λ o o'. included (rows_given o) (rows_given o')) f f' ∙ i.1)
