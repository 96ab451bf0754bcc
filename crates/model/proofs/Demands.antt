-- The three demands, proved. The statements are in specs/Demands.antt.
use Prim.Native.Nat.{ℕ, zero, suc, ◌*◌, ◌/◌, ◌<◌, ◌≤◌, min}
use mathlib.Core.Bool.{Bool, true, false, cond}
use mathlib.Core.List.{List, [], ◌∷◌, ◌++◌, map}
use mathlib.Core.Path.{◌≡◌, refl, sym, ◌∙◌, ap, subst}
use native.Mathlib.Omega.{arith}
use lib.Dec.{leb}
use lib.IntN.{ℤ}
use lib.ListN.{length, take, drop}
use lib.Seq.{take_at, take-length}
use borrow.Author.Tests.{leb-true, leb-false, lt-leb}
use Rattle.model.specs.Lists.{any, concat_map, contains, Every}
use Rattle.model.specs.Syntax.{Term, Query, Permit, WellFormedPs, bindings_q}
use Rattle.model.specs.Encoding.{encode_query, encode_permits, ok, query_of, permits_of, permits_read}
use Rattle.model.specs.Meaning.{Tuple, answers}
use Rattle.model.specs.Catalogue.{catalogue_of, Shape, shape_of, tuples_at, all_rows}
use Rattle.model.specs.Permits.{used_of, Guards, guards_of, permitted, cut}
use Rattle.model.specs.Rewriting.{rewrite_targets, rewrite_query}
use Rattle.model.specs.Checks.{Check, plain_limits, keeper_checks, permit_checks, query_checks, guard_checks, shape_checks, ask_checks, evaluate_checks, refusal}
use Rattle.model.specs.Calls.{Answer, Outcome, refuse, give, evaluate_unless, evaluate, ask_unless, ask}
use Rattle.model.specs.Demands.{guards_in, rewritten_of, rows_of, columns_of, ask_numbers, evaluate_numbers, fails, Demand1, Demand2, Kept, permitted_cut, Demand3}
use Rattle.model.proofs.Tests.{clash}
use Rattle.model.proofs.ReadingQueries.{query-inverse, read-query, permits-inverse, read-permits}
use Rattle.model.proofs.Sizes.{size-query}
use Rattle.model.proofs.FirstMeeting.{first-meeting}
use Rattle.model.proofs.Permitted.{rewritten-answers}
use Rattle.model.proofs.NonInterference.{SameCut, non-interference}
use Rattle.model.proofs.Grounds.{Rising, fails-low, refusal-listed, refusal-ground, ground-refusal, refusal-passes, passes-refusal, fails-high, ground-positive, refusal-skip, refusal-first}
use Rattle.model.proofs.Passed.{narrow, slim, sound}
use Rattle.model.proofs.Accepted.{scope, sane, query-again, bounds, accepted}

-- the numbers of the checks rise, and are below 41
module _ (cb : List ℕ) (vs : List ℤ) (pb qb : List ℕ) (room : ℕ) where
  ask-rising : Rising 0 (ask_checks cb vs pb qb room)
  unfolding Rising ask_checks keeper_checks shape_checks permit_checks query_checks guard_checks
  ask-rising = (omega arith, (omega arith, (omega arith, (omega arith, (omega arith, (omega arith, (omega arith, (omega arith, (omega arith, (omega arith, (omega arith, tt)))))))))))

  ask-numbers : Every (λ c. 1 ≤ c.1) (ask_checks cb vs pb qb room)
  unfolding Every ask_checks keeper_checks shape_checks permit_checks query_checks guard_checks
  ask-numbers = (omega arith, (omega arith, (omega arith, (omega arith, (omega arith, (omega arith, (omega arith, (omega arith, (omega arith, (omega arith, (omega arith, tt)))))))))))

  pub ask-below : Every (λ c. c.1 < 41) (ask_checks cb vs pb qb room)
  unfolding Every ask_checks keeper_checks shape_checks permit_checks query_checks guard_checks
  ask-below = (omega arith, (omega arith, (omega arith, (omega arith, (omega arith, (omega arith, (omega arith, (omega arith, (omega arith, (omega arith, (omega arith, tt)))))))))))

  ask-listed : contains (refusal (ask_checks cb vs pb qb room)) ask_numbers ≡ true
  unfolding ask_checks keeper_checks shape_checks permit_checks query_checks guard_checks
  ask-listed = refusal-listed (ask_checks cb vs pb qb room) (41 ∷ [])

module _ (cb : List ℕ) (vs : List ℤ) (qb : List ℕ) where
  evaluate-rising : Rising 0 (evaluate_checks cb vs qb)
  unfolding Rising evaluate_checks keeper_checks query_checks
  evaluate-rising = (omega arith, (omega arith, (omega arith, (omega arith, (omega arith, tt)))))

  evaluate-numbers : Every (λ c. 1 ≤ c.1) (evaluate_checks cb vs qb)
  unfolding Every evaluate_checks keeper_checks query_checks
  evaluate-numbers = (omega arith, (omega arith, (omega arith, (omega arith, (omega arith, tt)))))

  evaluate-below : Every (λ c. c.1 < 41) (evaluate_checks cb vs qb)
  unfolding Every evaluate_checks keeper_checks query_checks
  evaluate-below = (omega arith, (omega arith, (omega arith, (omega arith, (omega arith, tt)))))

  evaluate-listed : contains (refusal (evaluate_checks cb vs qb)) evaluate_numbers ≡ true
  unfolding evaluate_checks keeper_checks query_checks
  evaluate-listed = refusal-listed (evaluate_checks cb vs qb) (41 ∷ [])

rewritten-length : (G : Guards) (ts : List Term) (n : ℕ) → length (rewrite_targets G ts n) ≡ length ts
unfolding rewrite_targets
rewritten-length G [] n = refl
rewritten-length G (t ∷ ts) n = ap suc (rewritten-length G ts _)

same-columns : (G : Guards) (q : Query) → length (rewrite_query G q).targets ≡ length q.targets
unfolding rewrite_query
same-columns G q = rewritten-length G q.targets 8

-- an answer is 0 or 41
give-number : (k : ℕ) (rows : List (List ℤ)) (cells : List ℤ) (n : ℕ) → (give k rows cells).number ≡ n → 1 ≤ n → n < 41 → ⊥
unfolding give
give-number k rows cells n e a b = go (leb (length rows) (length cells / k)) e
  where
    go : (t : Bool) → cond t 0 41 ≡ n → ⊥
    go true e = omega arith
    go false e = omega arith

give-short : (k : ℕ) (rows : List (List ℤ)) (cells : List ℤ) → (give k rows cells).number ≡ 41 → length cells / k < length rows
unfolding give
give-short k rows cells e = leb-false (length rows) (length cells / k) (go (leb (length rows) (length cells / k)) e)
  where
    go : (t : Bool) → ◌≡◌ {A = ℕ} (cond t 0 41) 41 → t ≡ false
    go true e = absurd (omega arith)
    go false e = refl

give-shorted : (k : ℕ) (rows : List (List ℤ)) (cells : List ℤ) → length cells / k < length rows
    → give k rows cells ≡ record { number = 41; rows = length cells / k; columns = k; cells = concat_map (λ r. r) (take (length cells / k) rows) ++ drop (length cells / k * k) cells }
unfolding give
give-shorted k rows cells h =
    let e : min (length rows) (length cells / k) ≡ length cells / k = omega arith in
    rw (lt-leb (length rows) (length cells / k) h, e)

give-accepted : (k : ℕ) (rows : List (List ℤ)) (cells : List ℤ) → (give k rows cells).number ≡ 0
    → give k rows cells ≡ record { number = 0; rows = length rows; columns = k; cells = concat_map (λ r. r) rows ++ drop (length rows * k) cells }
unfolding give
give-accepted k rows cells e = go (leb (length rows) (length cells / k)) refl e
  where
    go : (t : Bool) → leb (length rows) (length cells / k) ≡ t → ◌≡◌ {A = ℕ} (cond t 0 41) 0
        → give k rows cells ≡ record { number = 0; rows = length rows; columns = k; cells = concat_map (λ r. r) rows ++ drop (length rows * k) cells }
    go false f e = absurd (omega arith)
    go true f e =
        let h = leb-true (length rows) (length cells / k) f in
        let m : min (length rows) (length cells / k) ≡ length rows = omega arith in
        rw (f, m, take-length)

-- 0 or 41 is given, and both are among these numbers
give-numbered : (k : ℕ) (rows : List (List ℤ)) (cells : List ℤ) (ns : List ℕ) → contains 0 ns ≡ true → contains 41 ns ≡ true → contains (give k rows cells).number ns ≡ true
unfolding give
give-numbered k rows cells ns a b = go (leb (length rows) (length cells / k))
  where
    go : (t : Bool) → contains (cond t 0 41) ns ≡ true
    go true = a
    go false = b

-- the guarded call
module _ (cb : List ℕ) (vs : List ℤ) (pb qb rewritten : List ℕ) (cells : List ℤ) where
  abbrev checks : List Check
  checks = ask_checks cb vs pb qb (length rewritten)

  abbrev p : Query
  p = rewritten_of cb pb qb

  abbrev bs : List ℕ
  bs = encode_query p

  pub refused : (n : ℕ) → refusal checks ≡ suc n → ask cb vs pb qb rewritten cells ≡ record { answer = refuse (suc n) cells; count = 0; rewritten = rewritten }
  unfolding ask ask_unless
  refused n e = rw e

  pub given : refusal checks ≡ 0 → ask cb vs pb qb rewritten cells ≡ record { answer = give (columns_of qb) (rows_of cb vs p) cells; count = length bs; rewritten = bs ++ drop (length bs) rewritten }
  unfolding ask ask_unless evaluate_unless
  given e = rw e (ap (λ (k : ℕ). record { answer = give k (rows_of cb vs p) cells; count = length bs; rewritten = bs ++ drop (length bs) rewritten }) (same-columns (guards_in cb pb (query_of qb)) (query_of qb)))

  number-refusal : (n : ℕ) → (ask cb vs pb qb rewritten cells).answer.number ≡ n → 1 ≤ n → n < 41 → refusal checks ≡ n
  number-refusal n e a b = go (refusal checks) refl
    where
      go : (m : ℕ) → refusal checks ≡ m → m ≡ n
      go zero f = absurd (give-number (columns_of qb) (rows_of cb vs p) cells n (ap (λ (o : Outcome). o.answer.number) (sym (given f)) ∙ e) a b)
      go (suc m) f = ap (λ (o : Outcome). o.answer.number) (sym (refused m f)) ∙ e

  refusal-number : (n : ℕ) → refusal checks ≡ n → 1 ≤ n → ask cb vs pb qb rewritten cells ≡ record { answer = refuse n cells; count = 0; rewritten = rewritten }
  refusal-number zero f a = absurd (omega arith)
  refusal-number (suc m) f a = refused m f

  numbered : (ns : List ℕ) → contains 0 ns ≡ true → contains 41 ns ≡ true → contains (refusal checks) ns ≡ true → contains (ask cb vs pb qb rewritten cells).answer.number ns ≡ true
  numbered ns a b h = go (refusal checks) refl
    where
      go : (m : ℕ) → refusal checks ≡ m → contains (ask cb vs pb qb rewritten cells).answer.number ns ≡ true
      go zero f = rw (given f) (give-numbered (columns_of qb) (rows_of cb vs p) cells ns a b)
      go (suc m) f = rw (refused m f) (rw f at h)

  accepted-passes : (ask cb vs pb qb rewritten cells).answer.number ≡ 0 → refusal checks ≡ 0
  accepted-passes e = go (refusal checks) refl
    where
      go : (m : ℕ) → refusal checks ≡ m → m ≡ 0
      go zero f = refl
      go (suc m) f = ap (λ (o : Outcome). o.answer.number) (sym (refused m f)) ∙ e

  accepted-answer : (ask cb vs pb qb rewritten cells).answer.number ≡ 0
      → ask cb vs pb qb rewritten cells
      ≡ record {
        answer = record { number = 0; rows = length (rows_of cb vs p); columns = columns_of qb; cells = concat_map (λ r. r) (rows_of cb vs p) ++ drop (length (rows_of cb vs p) * columns_of qb) cells };
        count = length bs;
        rewritten = bs ++ drop (length bs) rewritten;
      }
  accepted-answer e =
      let g = given (accepted-passes e) in
      g ∙ ap (λ (a : Answer). record { answer = a; count = length bs; rewritten = bs ++ drop (length bs) rewritten }) (give-accepted (columns_of qb) (rows_of cb vs p) cells (ap (λ (o : Outcome). o.answer.number) (sym g) ∙ e))

  short-passes : (ask cb vs pb qb rewritten cells).answer.number ≡ 41 → refusal checks ≡ 0
  short-passes e = go (refusal checks) refl
    where
      go : (m : ℕ) → refusal checks ≡ m → m ≡ 0
      go zero f = refl
      go (suc m) f =
          let z : suc m ≡ 41 = ap (λ (o : Outcome). o.answer.number) (sym (refused m f)) ∙ e in
          let g = refusal-ground 0 41 checks (ask-rising cb vs pb qb (length rewritten)) (f ∙ z) (omega arith) in
          clash (sym (fails-high 41 checks (ask-below cb vs pb qb (length rewritten))) ∙ g.failing)

  short-rows : (ask cb vs pb qb rewritten cells).answer.number ≡ 41 → length cells / columns_of qb < length (rows_of cb vs p)
  short-rows e = give-short (columns_of qb) (rows_of cb vs p) cells (ap (λ (o : Outcome). o.answer.number) (sym (given (short-passes e))) ∙ e)

  shorted : refusal checks ≡ 0 → length cells / columns_of qb < length (rows_of cb vs p)
      → ask cb vs pb qb rewritten cells
      ≡ record {
        answer = record { number = 41; rows = length cells / columns_of qb; columns = columns_of qb; cells = concat_map (λ r. r) (take (length cells / columns_of qb) (rows_of cb vs p)) ++ drop (length cells / columns_of qb * columns_of qb) cells };
        count = length bs;
        rewritten = bs ++ drop (length bs) rewritten;
      }
  shorted e h = given e ∙ ap (λ (a : Answer). record { answer = a; count = length bs; rewritten = bs ++ drop (length bs) rewritten }) (give-shorted (columns_of qb) (rows_of cb vs p) cells h)

module _ (cb : List ℕ) (vs : List ℤ) (qb : List ℕ) (cells : List ℤ) where
  plain-refused : (n : ℕ) → refusal (evaluate_checks cb vs qb) ≡ n → 1 ≤ n → evaluate cb vs qb cells ≡ refuse n cells
  unfolding evaluate evaluate_unless
  plain-refused zero e a = absurd (omega arith)
  plain-refused (suc n) e a = rw e

  plain-given : refusal (evaluate_checks cb vs qb) ≡ 0 → evaluate cb vs qb cells ≡ give (columns_of qb) (rows_of cb vs (query_of qb)) cells
  unfolding evaluate evaluate_unless
  plain-given e = rw e

  plain-number : (n : ℕ) → (evaluate cb vs qb cells).number ≡ n → 1 ≤ n → n < 41 → refusal (evaluate_checks cb vs qb) ≡ n
  plain-number n e a b = go (refusal (evaluate_checks cb vs qb)) refl
    where
      go : (m : ℕ) → refusal (evaluate_checks cb vs qb) ≡ m → m ≡ n
      go zero f = absurd (give-number (columns_of qb) (rows_of cb vs (query_of qb)) cells n (ap (λ (o : Answer). o.number) (sym (plain-given f)) ∙ e) a b)
      go (suc m) f = ap (λ (o : Answer). o.number) (sym (plain-refused (suc m) f (omega arith))) ∙ e

  plain-numbered : (ns : List ℕ) → contains 0 ns ≡ true → contains 41 ns ≡ true → contains (refusal (evaluate_checks cb vs qb)) ns ≡ true → contains (evaluate cb vs qb cells).number ns ≡ true
  plain-numbered ns a b h = go (refusal (evaluate_checks cb vs qb)) refl
    where
      go : (m : ℕ) → refusal (evaluate_checks cb vs qb) ≡ m → contains (evaluate cb vs qb cells).number ns ≡ true
      go zero f = rw (plain-given f) (give-numbered (columns_of qb) (rows_of cb vs (query_of qb)) cells ns a b)
      go (suc m) f = rw (plain-refused (suc m) f (omega arith)) (rw f at h)

  -- 0 and 41 are no check's number
  plain_passes : (n : ℕ) → fails (evaluate_checks cb vs qb) n ≡ false → (evaluate cb vs qb cells).number ≡ n → refusal (evaluate_checks cb vs qb) ≡ 0
  plain_passes n k e = go (refusal (evaluate_checks cb vs qb)) refl
    where
      go : (m : ℕ) → refusal (evaluate_checks cb vs qb) ≡ m → m ≡ 0
      go zero f = refl
      go (suc m) f =
          let z : suc m ≡ n = ap (λ (a : Answer). a.number) (sym (plain-refused (suc m) f (omega arith))) ∙ e in
          let g = refusal-ground 0 n (evaluate_checks cb vs qb) (evaluate-rising cb vs qb) (f ∙ z) (omega arith) in
          clash (sym k ∙ g.failing)

  plain-short-passes : (evaluate cb vs qb cells).number ≡ 41 → refusal (evaluate_checks cb vs qb) ≡ 0
  plain-short-passes e = plain_passes 41 (fails-high 41 (evaluate_checks cb vs qb) (evaluate-below cb vs qb)) e

  plain-short-rows : (evaluate cb vs qb cells).number ≡ 41 → length cells / columns_of qb < length (rows_of cb vs (query_of qb))
  plain-short-rows e = give-short (columns_of qb) (rows_of cb vs (query_of qb)) cells (ap (λ (a : Answer). a.number) (sym (plain-given (plain-short-passes e))) ∙ e)

  plain-accepted : (evaluate cb vs qb cells).number ≡ 0
      → evaluate cb vs qb cells
      ≡ record { number = 0; rows = length (rows_of cb vs (query_of qb)); columns = columns_of qb; cells = concat_map (λ r. r) (rows_of cb vs (query_of qb)) ++ drop (length (rows_of cb vs (query_of qb)) * columns_of qb) cells }
  plain-accepted e =
      let g = plain-given (plain_passes 0 (fails-low 0 0 (evaluate_checks cb vs qb) (evaluate-rising cb vs qb) (omega arith)) e) in
      g ∙ give-accepted (columns_of qb) (rows_of cb vs (query_of qb)) cells (ap (λ (a : Answer). a.number) (sym g) ∙ e)

pub demand-1 : Demand1
unfolding contains any
demand-1 = record {
  numbered = λ cb vs pb qb rewritten cells. numbered cb vs pb qb rewritten cells ask_numbers refl refl (ask-listed cb vs pb qb (length rewritten));
  untouched = λ cb vs pb qb rewritten cells n e a b. refusal-number cb vs pb qb rewritten cells n (number-refusal cb vs pb qb rewritten cells n e a b) a;
  ground = λ cb vs pb qb rewritten cells n e a b. refusal-ground 0 n (ask_checks cb vs pb qb (length rewritten)) (ask-rising cb vs pb qb (length rewritten)) (number-refusal cb vs pb qb rewritten cells n e a b) a;
  grounded = λ cb vs pb qb rewritten cells n g.
      let r = ask-rising cb vs pb qb (length rewritten) in
      let cs = ask_checks cb vs pb qb (length rewritten) in
      ap (λ (o : Outcome). o.answer.number) (refusal-number cb vs pb qb rewritten cells n (ground-refusal 0 n cs r g) (ground-positive cs r n g));
  short = λ cb vs pb qb rewritten cells e. (refusal-passes (ask_checks cb vs pb qb (length rewritten)) (ask-numbers cb vs pb qb (length rewritten)) (short-passes cb vs pb qb rewritten cells e), short-rows cb vs pb qb rewritten cells e);
  shorted = λ cb vs pb qb rewritten cells h l. ap (λ (o : Outcome). o.answer.number) (shorted cb vs pb qb rewritten cells (passes-refusal (ask_checks cb vs pb qb (length rewritten)) h) l);
  short-answer = λ cb vs pb qb rewritten cells e. shorted cb vs pb qb rewritten cells (short-passes cb vs pb qb rewritten cells e) (short-rows cb vs pb qb rewritten cells e);
  plain-untouched = λ cb vs qb cells n e a b. plain-refused cb vs qb cells n (plain-number cb vs qb cells n e a b) a;
  plain-ground = λ cb vs qb cells n e a b. refusal-ground 0 n (evaluate_checks cb vs qb) (evaluate-rising cb vs qb) (plain-number cb vs qb cells n e a b) a;
  plain-grounded = λ cb vs qb cells n g.
      let r = evaluate-rising cb vs qb in
      ap (λ (a : Answer). a.number) (plain-refused cb vs qb cells n (ground-refusal 0 n (evaluate_checks cb vs qb) r g) (ground-positive (evaluate_checks cb vs qb) r n g));
  plain-numbered = λ cb vs qb cells. plain-numbered cb vs qb cells evaluate_numbers refl refl (evaluate-listed cb vs qb);
  plain-short = λ cb vs qb cells e. (refusal-passes (evaluate_checks cb vs qb) (evaluate-numbers cb vs qb) (plain-short-passes cb vs qb cells e), plain-short-rows cb vs qb cells e);
  plain-shorted = λ cb vs qb cells h l. ap (λ (a : Answer). a.number) (plain-given cb vs qb cells (passes-refusal (evaluate_checks cb vs qb) h) ∙ give-shorted (columns_of qb) (rows_of cb vs (query_of qb)) cells l);
  plain-short-answer = λ cb vs qb cells e. plain-given cb vs qb cells (plain-short-passes cb vs qb cells e) ∙ give-shorted (columns_of qb) (rows_of cb vs (query_of qb)) cells (plain-short-rows cb vs qb cells e);
}

-- 10 and 11 aside
keeper-numbers : (cb : List ℕ) (vs : List ℤ) → Every (λ c. 1 ≤ c.1) (keeper_checks cb vs)
unfolding Every keeper_checks
keeper-numbers cb vs = (omega arith, (omega arith, tt))

pub kept-refusal : (cb : List ℕ) (vs : List ℤ) (pb qb : List ℕ) (room : ℕ) → Kept cb vs → refusal (ask_checks cb vs pb qb room) ≡ refusal (shape_checks (shape_of (catalogue_of cb)) pb qb room)
unfolding ask_checks
kept-refusal cb vs pb qb room k = refusal-skip (keeper_checks cb vs) _ (keeper-numbers cb vs) k

pub passes_kept : (cb : List ℕ) (vs : List ℤ) (pb qb : List ℕ) (room : ℕ) → refusal (ask_checks cb vs pb qb room) ≡ 0 → Kept cb vs
unfolding ask_checks
passes_kept cb vs pb qb room h = refusal-first (keeper_checks cb vs) _ (keeper-numbers cb vs) h

plain-kept : (cb : List ℕ) (vs : List ℤ) (qb : List ℕ) → Kept cb vs → refusal (evaluate_checks cb vs qb) ≡ refusal (query_checks plain_limits (shape_of (catalogue_of cb)) qb)
unfolding evaluate_checks
plain-kept cb vs qb k = refusal-skip (keeper_checks cb vs) _ (keeper-numbers cb vs) k

module _ (cb : List ℕ) (vs : List ℤ) (pb qb rewritten : List ℕ) (h : refusal (ask_checks cb vs pb qb (length rewritten)) ≡ 0) where
  abbrev the_shape : Shape
  the_shape = shape_of (catalogue_of cb)

  pub shape-passes : refusal (shape_checks the_shape pb qb (length rewritten)) ≡ 0
  shape-passes = sym (kept-refusal cb vs pb qb (length rewritten) (passes_kept cb vs pb qb (length rewritten) h)) ∙ h

  pub over-permitted : rows_of cb vs (rewritten_of cb pb qb) ≡ answers (query_of qb) (permitted (tuples_at (catalogue_of cb) vs) (guards_in cb pb (query_of qb)))
  over-permitted =
      rewritten-answers the_shape (tuples_at (catalogue_of cb) vs) (guards_in cb pb (query_of qb)) (sane the_shape pb qb (length rewritten) shape-passes) (query_of qb) (sound the_shape (query_of qb) (scope the_shape pb qb (length rewritten) shape-passes))

  plain-again : (cells : List ℤ) → evaluate cb vs (encode_query (rewritten_of cb pb qb)) cells ≡ give (columns_of qb) (rows_of cb vs (rewritten_of cb pb qb)) cells
  plain-again cells =
      plain-given cb vs (encode_query (rewritten_of cb pb qb)) cells (plain-kept cb vs (encode_query (rewritten_of cb pb qb)) (passes_kept cb vs pb qb (length rewritten) h) ∙ accepted the_shape pb qb (length rewritten) shape-passes)
      ∙ ap (λ (q : Query). give (length q.targets) (rows_of cb vs q) cells) (query-again the_shape pb qb (length rewritten) shape-passes)
      ∙ ap (λ (k : ℕ). give k (rows_of cb vs (rewritten_of cb pb qb)) cells) (same-columns (guards_in cb pb (query_of qb)) (query_of qb))

  evaluated-again : (cells : List ℤ) → let o = ask cb vs pb qb rewritten cells in evaluate cb vs (take o.count o.rewritten) cells ≡ o.answer
  evaluated-again cells =
      let bs = encode_query (rewritten_of cb pb qb) in
      let e = given cb vs pb qb rewritten cells h in
      ap (λ (o : Outcome). evaluate cb vs (take o.count o.rewritten) cells) e
      ∙ ap (λ (l : List ℕ). evaluate cb vs l cells) (take_at bs (drop (length bs) rewritten) (length bs) refl)
      ∙ plain-again cells
      ∙ ap (λ (o : Outcome). o.answer) (sym e)

  short-bytes : length (encode_query (rewritten_of cb pb qb)) ≤ 17216
  short-bytes = omega (arith, size-query (rewritten_of cb pb qb), (bounds the_shape pb qb (length rewritten) shape-passes).0)

bounded : (cb : List ℕ) (vs : List ℤ) (pb qb rewritten : List ℕ) (cells : List ℤ) → (ask cb vs pb qb rewritten cells).count ≤ 17216
bounded cb vs pb qb rewritten cells = go (refusal (ask_checks cb vs pb qb (length rewritten))) refl
  where
    go : (n : ℕ) → refusal (ask_checks cb vs pb qb (length rewritten)) ≡ n → (ask cb vs pb qb rewritten cells).count ≤ 17216
    go zero e = omega (arith, ap (λ (o : Outcome). o.count) (given cb vs pb qb rewritten cells e), short-bytes cb vs pb qb rewritten e)
    go (suc n) e = omega (arith, ap (λ (o : Outcome). o.count) (refused cb vs pb qb rewritten cells n e))

permit-list : (bs : List ℕ) (ps : List Permit) (r : List ℕ) → permits_read bs ≡ ok ps r → WellFormedPs ps × (bs ≡ encode_permits ps)
unfolding permits_read
permit-list bs ps r e = permits-inverse (suc (length bs)) bs ps r e

list-permit : (ps : List Permit) → WellFormedPs ps → permits_read (encode_permits ps) ≡ ok ps []
unfolding permits_read
list-permit ps w = read-permits ps (suc (length (encode_permits ps))) w (omega arith)

pub demand-2 : Demand2
demand-2 = record {
  query-bytes = λ bs q r e. let i = query-inverse bs q r e in (i.bytes, i.well, i.whole);
  bytes-query = λ q w. read-query q w;
  permit-bytes = permit-list;
  bytes-permit = list-permit;
  in_order = first-meeting;
  accepted = λ cb vs pb qb rewritten cells e. accepted-answer cb vs pb qb rewritten cells e;
  rewriting = λ cb vs pb qb rewritten cells h. given cb vs pb qb rewritten cells (passes-refusal (ask_checks cb vs pb qb (length rewritten)) h);
  permitted-rows = λ cb vs pb qb rewritten cells h. over-permitted cb vs pb qb rewritten (passes-refusal (ask_checks cb vs pb qb (length rewritten)) h);
  again = λ cb vs pb qb rewritten cells h. evaluated-again cb vs pb qb rewritten (passes-refusal (ask_checks cb vs pb qb (length rewritten)) h) cells;
  bounded = λ cb vs pb qb rewritten cells. bounded cb vs pb qb rewritten cells;
  plain-accepted = λ cb vs qb cells e. plain-accepted cb vs qb cells e;
  evaluating = λ cb vs qb cells h. plain-given cb vs qb cells (passes-refusal (evaluate_checks cb vs qb) h);
}

pub demand-3 : Demand3
demand-3 cb cb' vs vs' pb qb rewritten cells k k' same premise = go (refusal (shape_checks sh pb qb room)) refl
  where
    sh : Shape
    sh = shape_of (catalogue_of cb)

    room : ℕ
    room = length rewritten

    q : Query
    q = query_of qb

    D : ℕ → List Tuple
    D = tuples_at (catalogue_of cb) vs

    D' : ℕ → List Tuple
    D' = tuples_at (catalogue_of cb') vs'

    bytes : Shape → List ℕ
    bytes s = encode_query (rewrite_query (guards_of s (permits_of pb) q) q)

    out : Shape → (ℕ → List Tuple) → Outcome
    out s E = record {
      answer = give (columns_of qb) (answers (rewrite_query (guards_of s (permits_of pb) q) q) (all_rows E)) cells;
      count = length (bytes s);
      rewritten = bytes s ++ drop (length (bytes s)) rewritten;
    }

    of-first : (n : ℕ) → refusal (shape_checks sh pb qb room) ≡ n → refusal (ask_checks cb vs pb qb room) ≡ n
    of-first n e = kept-refusal cb vs pb qb room k ∙ e

    of-second : (n : ℕ) → refusal (shape_checks sh pb qb room) ≡ n → refusal (ask_checks cb' vs' pb qb room) ≡ n
    of-second n e = kept-refusal cb' vs' pb qb room k' ∙ ap (λ (s : Shape). refusal (shape_checks s pb qb room)) (sym same) ∙ e

    go : (n : ℕ) → refusal (shape_checks sh pb qb room) ≡ n → ask cb vs pb qb rewritten cells ≡ ask cb' vs' pb qb rewritten cells
    go (suc n) e = refused cb vs pb qb rewritten cells n (of-first (suc n) e) ∙ sym (refused cb' vs' pb qb rewritten cells n (of-second (suc n) e))
    go zero e =
        let G = guards_of sh (permits_of pb) q in
        let n = (ask cb vs pb qb rewritten cells).answer.number in
        let f = given cb vs pb qb rewritten cells (of-first 0 e) in
        let unrefused : (20 ≤ n) × (n ≤ 40) → ⊥ = λ h. give-number (columns_of qb) (rows_of cb vs (rewritten_of cb pb qb)) cells n (ap (λ (o : Outcome). o.answer.number) (sym f)) (omega (arith, h.0)) (omega (arith, h.1)) in
        let alike : Every (SameCut D D' G q) (bindings_q q) = subst (λ (s : Shape). Every (λ b. permitted_cut cb vs pb q b ≡ map (cut (used_of q b.variable)) (permitted D' (guards_of s (permits_of pb) q) b.variable b.relation)) (bindings_q q)) (sym same) (premise unrefused) in
        let s = scope sh pb qb room e in
        f
        ∙ ap (λ (rows : List (List ℤ)). record { answer = give (columns_of qb) rows cells; count = length (bytes sh); rewritten = bytes sh ++ drop (length (bytes sh)) rewritten }) (non-interference sh D D' G (sane sh pb qb room e) q (sound sh q s) (narrow sh (slim cb) q s) alike)
        ∙ ap (λ (t : Shape). out t D') same
        ∙ sym (given cb' vs' pb qb rewritten cells (of-second 0 e))
