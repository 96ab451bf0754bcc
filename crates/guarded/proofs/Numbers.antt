-- The number of a guarded call, check by check.
use mathlib.Core.Path.{◌≡◌, refl, sym, ap, ◌∙◌}
use mathlib.Core.Bool.{Bool, true, false, not, cond}
use mathlib.Core.List.{List, [], ◌∷◌, ◌++◌}
use Prim.Native.Nat.{ℕ, zero, suc, ◌≤◌, ◌<◌}
use native.Mathlib.Omega.{arith}
use lib.IntN.{ℤ}
use lib.ListN.{length}
use lib.Dec.{ltb}
use borrow.Author.Tests.{lt-ltb, le-ltb}
use Rattle.model.specs.Lists.{all, Every}
use Rattle.model.specs.Encoding.{query_of, permits_of, encode_query}
use Rattle.model.specs.Catalogue.{catalogue_of, Shape, shape_of}
use Rattle.model.specs.Checks.{Check, guarded_limits, fails10, fails20, fails21, fails30, fails33, fails40, keeper_checks, permit_checks, query_checks, guard_checks, shape_checks, ask_checks, refusal}
use Rattle.model.specs.Calls.{Outcome, refuse, ask, ask_unless}
use Rattle.model.specs.Refusals.{number_of}
use Rattle.model.specs.declared.refusal.Refusal.{Refusal}
use Rattle.model.specs.declared.refusal.Refusal.TheVariants.{NoPermit}
use Rattle.std.specs.Prelude.{Result, Ok, Err}
use Rattle.model.proofs.Passed.{refusal-cons, query-read, query-length}
use Rattle.model.proofs.Grounds.{refusal-skip}
use Rattle.scans.specs.Flat.{flat_bindings}
use Rattle.permits.proofs.Reading.{listed}
use Rattle.grammar.specs.declared.Layout.{Layout}
use Rattle.queries.specs.Parts.{query_at}
use Rattle.guards.specs.Filled.{placed_from}
use Rattle.guards.specs.Counted.{served_by, rewritten_length, passed_if, check33}
use Rattle.guards.proofs.Counts.{served-all, length-all}
use Rattle.guarded.specs.Outcome.{bytes_of}
use Rattle.guarded.proofs.Outcomes.{Writable}

refusal-some : (xs ys : List Check) → (refusal xs ≡ 0 → ⊥) → refusal (xs ++ ys) ≡ refusal xs
unfolding refusal
refusal-some [] ys h = absurd (h refl)
refusal-some (c ∷ xs) ys h = go c.0 (λ k. refusal-some xs ys k) h
  where
    go : (b : Bool) → ((refusal xs ≡ 0 → ⊥) → refusal (xs ++ ys) ≡ refusal xs) → (cond b c.1 (refusal xs) ≡ 0 → ⊥) → cond b c.1 (refusal (xs ++ ys)) ≡ cond b c.1 (refusal xs)
    go true i k = refl
    go false i k = i k

-- what an outcome of 33 says
refuses : (b : Bool) (n : ℕ) (e : Refusal) → passed_if b n ≡ Err e → (b ≡ false) × (e ≡ NoPermit)
refuses true n e h = absurd (let z : ◌≡◌ {A = ℕ} 0 1 = cc in omega arith)
refuses false n e h = (refl, cc)

passes : (b : Bool) (m n : ℕ) → passed_if b m ≡ Ok n → (b ≡ true) × (m ≡ n)
passes true m n e = (refl, cc)
passes false m n e = absurd (let z : ◌≡◌ {A = ℕ} 0 1 = cc in omega arith)

module _ (cb : List ℕ) (vs : List ℤ) (pb qb rewritten : List ℕ) (cells : List ℤ) where
  abbrev sh : Shape
  sh = shape_of (catalogue_of cb)

  abbrev room : ℕ
  room = length rewritten

  keeper-numbers : Every (λ (c : Check). 1 ≤ c.1) (keeper_checks cb vs)
  unfolding Every keeper_checks
  keeper-numbers = (omega arith, (omega arith, tt))

  permit-numbers : Every (λ (c : Check). 1 ≤ c.1) (permit_checks sh pb)
  unfolding Every permit_checks
  permit-numbers = (omega arith, (omega arith, (omega arith, (omega arith, tt))))

  query-numbers : Every (λ (c : Check). 1 ≤ c.1) (query_checks guarded_limits sh qb)
  unfolding Every query_checks
  query-numbers = (omega arith, (omega arith, (omega arith, tt)))

  -- a refusal: its number with zero counts, and the buffers as they were
  abbrev refusing : ℕ → Outcome
  refusing n = record { answer = refuse n cells; count = 0; rewritten = rewritten }

  refuse-with : (n : ℕ) → refusal (ask_checks cb vs pb qb room) ≡ n → 1 ≤ n → refusing n ≡ ask cb vs pb qb rewritten cells
  unfolding ask ask_unless
  refuse-with zero e h = absurd (omega arith)
  refuse-with (suc n) e h = sym (rw e)

  -- 10, 11
  pub refused-kept : (n : ℕ) → n ≡ refusal (keeper_checks cb vs) → 1 ≤ n → refusing n ≡ ask cb vs pb qb rewritten cells
  unfolding ask_checks
  refused-kept n en h = refuse-with n (refusal-some (keeper_checks cb vs) _ (λ e. omega (arith, h, en ∙ e)) ∙ sym en) h

  pub catalogue-passes : refusal (keeper_checks cb vs) ≡ 0 → fails10 cb ≡ false
  unfolding keeper_checks
  catalogue-passes k = (refusal-cons (fails10 cb) 10 _ (omega arith) k).0

  module _ (k : refusal (keeper_checks cb vs) ≡ 0) where
    ask-shape : refusal (ask_checks cb vs pb qb room) ≡ refusal (shape_checks sh pb qb room)
    unfolding ask_checks
    ask-shape = refusal-skip (keeper_checks cb vs) _ keeper-numbers k

    -- 20 to 23
    pub refused-permits : (n : ℕ) → n ≡ refusal (permit_checks sh pb) → 1 ≤ n → refusing n ≡ ask cb vs pb qb rewritten cells
    unfolding shape_checks
    refused-permits n en h = refuse-with n (ask-shape ∙ refusal-some (permit_checks sh pb) _ (λ e. omega (arith, h, en ∙ e)) ∙ sym en) h

    module _ (p : refusal (permit_checks sh pb) ≡ 0) where
      shape-query : refusal (shape_checks sh pb qb room) ≡ refusal (query_checks guarded_limits sh qb ++ guard_checks sh pb qb room)
      unfolding shape_checks
      shape-query = refusal-skip (permit_checks sh pb) _ permit-numbers p

      -- 30 to 32
      pub refused-query : (n : ℕ) → n ≡ refusal (query_checks guarded_limits sh qb) → 1 ≤ n → refusing n ≡ ask cb vs pb qb rewritten cells
      refused-query n en h = refuse-with n (ask-shape ∙ shape-query ∙ refusal-some (query_checks guarded_limits sh qb) _ (λ e. omega (arith, h, en ∙ e)) ∙ sym en) h

      module _ (u : refusal (query_checks guarded_limits sh qb) ≡ 0) where
        shape-guard : refusal (shape_checks sh pb qb room) ≡ refusal (guard_checks sh pb qb room)
        shape-guard = shape-query ∙ refusal-skip (query_checks guarded_limits sh qb) _ query-numbers u

        p20 : fails20 pb ≡ false
        unfolding permit_checks
        p20 = (refusal-cons _ 20 _ (omega arith) p).0

        p30 : fails30 guarded_limits qb ≡ false
        unfolding query_checks
        p30 = (refusal-cons _ 30 _ (omega arith) u).0

        bytes : qb ≡ encode_query (query_of qb)
        bytes = (query-read guarded_limits qb p30).bytes

        pub short-query : length qb ≤ 1024
        short-query = query-length guarded_limits qb p30

        pub short-list : length pb ≤ 2048
        short-list = (listed pb p20).short

        p21 : fails21 (permits_of pb) ≡ false
        unfolding permit_checks
        p21 = (refusal-cons _ 21 _ (omega arith) (refusal-cons _ 20 _ (omega arith) p).1).0

        -- check 33 by the code's walk
        abbrev B : Bool
        B = all (served_by qb pb cb) (flat_bindings qb)

        served-is : not B ≡ fails33 sh (permits_of pb) (query_of qb)
        served-is = ap (λ (x : List ℕ). not (all (served_by x pb cb) (flat_bindings x))) bytes ∙ served-all cb pb (catalogue-passes k) p20 p21 (query_of qb)

        module _ (places₀ places : List ℕ) (ep : places ≡ placed_from 8 pb 0 0 places₀) (x : Result ℕ Refusal) (ex : x ≡ check33 qb pb cb places) where
          pub refused-33 : (e : Refusal) → x ≡ Err e → refusing (number_of e) ≡ ask cb vs pb qb rewritten cells
          unfolding guard_checks refusal
          refused-33 e h =
              let r = refuses B (rewritten_length qb pb cb places) e (sym ex ∙ h) in
              let f : fails33 sh (permits_of pb) (query_of qb) ≡ true = sym served-is ∙ ap not r.0 in
              ap (λ (x : Refusal). refusing (number_of x)) r.1 ∙ refuse-with 33 (ask-shape ∙ shape-guard ∙ rw f) (omega arith)

          module _ (n : ℕ) (h : x ≡ Ok n) (enough : 16 ≤ length places₀) where
            p33 : fails33 sh (permits_of pb) (query_of qb) ≡ false
            p33 = sym served-is ∙ ap not (passes B (rewritten_length qb pb cb places) n (sym ex ∙ h)).0

            pub length-is : n ≡ length (bytes_of cb pb qb)
            length-is =
                sym (passes B (rewritten_length qb pb cb places) n (sym ex ∙ h)).1
                ∙ ap (rewritten_length qb pb cb) ep
                ∙ ap (λ (y : List ℕ). rewritten_length y pb cb (placed_from 8 pb 0 0 places₀)) bytes
                ∙ length-all cb pb (catalogue-passes k) p20 p21 (query_of qb) p33 places₀ enough

            pub refused-40 : room < n → refusing 40 ≡ ask cb vs pb qb rewritten cells
            unfolding guard_checks refusal fails40
            refused-40 l =
                let f : ltb room (length (bytes_of cb pb qb)) ≡ true = lt-ltb room _ (omega (arith, l, length-is)) in
                refuse-with 40 (ask-shape ∙ shape-guard ∙ rw (p33, f)) (omega arith)

            module _ (l : n ≤ room) where
              pub all_pass : refusal (shape_checks sh pb qb room) ≡ 0
              unfolding guard_checks refusal fails40
              all_pass =
                  let f : ltb room (length (bytes_of cb pb qb)) ≡ false = le-ltb room _ (omega (arith, l, length-is)) in
                  shape-guard ∙ rw (p33, f)

              pub ask-passes : refusal (ask_checks cb vs pb qb room) ≡ 0
              ask-passes = ask-shape ∙ all_pass

              pub writable : (y : Layout) (z : List ℕ) → query_at y 32 qb z ≡ query_of qb → Writable y cb pb qb z room
              writable y z e = record { catalogue = catalogue-passes k; passed = all_pass; ready = e }
