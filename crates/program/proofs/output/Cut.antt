-- Files cut to their buffers print the same: a file that is cut was over its limit, and what is left of it still is.
use mathlib.Core.Path.{◌≡◌, refl, sym, ap, ◌∙◌}
use mathlib.Core.Bool.{Bool, true, false, cond, ◌||◌}
use mathlib.Core.List.{List}
use Prim.Native.Nat.{ℕ, zero, suc, ◌+◌, ◌≤◌, ◌<◌}
use native.Mathlib.Omega.{arith}
use lib.Dec.{leb}
use lib.IntN.{ℤ, pos}
use lib.ListN.{length, take, replicate}
use lib.Seq.{length-take-le, take_all}
use borrow.Author.Tests.{lt-ltb, leb-true, leb-false}
use Rattle.model.specs.Syntax.{Query}
use Rattle.model.specs.Meaning.{Tuple}
use Rattle.model.specs.Encoding.{permits_of}
use Rattle.model.specs.Catalogue.{catalogue_of, shape_of, tuples_at}
use Rattle.model.specs.Demands.{rewritten_of}
use Rattle.model.specs.Checks.{guarded_limits, fails10, fails11, fails20, fails21, fails22, fails23, fails30, refusal, ask_checks, keeper_checks, shape_checks, permit_checks, query_checks}
use Rattle.model.specs.Calls.{Outcome, ask_unless, ask}
use Rattle.catalogue.proofs.Reading.{refused}
use Rattle.program.specs.Output as O
use Rattle.program.specs.Cut.{CutFiles}

-- the two lists are equal, or both are longer than k
cut : {A : Type 0} (k n : ℕ) (xs : List ℕ) → n ≡ k + 1 → (take n xs ≡ xs → A) → (k < length (take n xs) → k < length xs → A) → A
cut {A} k n xs e same over = go (leb (length xs) n) refl
  where
    go : (b : Bool) → leb (length xs) n ≡ b → A
    go true h = same (take_all n xs (leb-true (length xs) n h))
    go false h = let l = leb-false (length xs) n h in over (omega (arith, length-take-le n xs (omega arith))) (omega arith)

or-true : (a b : Bool) → a ≡ true → a || b ≡ true
or-true a b h = rw h

-- over its limit, each file has its refusal
catalogue-over : (cb : List ℕ) → 64 < length cb → fails10 cb ≡ true
catalogue-over cb h = refused cb (λ v. omega (arith, v.size, v.few))

values-over : (fb : List ℕ) → 32768 < length fb → O.unreadable fb ≡ true
values-over fb h = or-true _ _ (lt-ltb 32768 (length fb) h)

permits-over : (pb : List ℕ) → 2048 < length pb → fails20 pb ≡ true
unfolding fails20
permits-over pb h = or-true _ _ (lt-ltb 2048 (length pb) h)

question-over : (qb : List ℕ) → 1024 < length qb → fails30 guarded_limits qb ≡ true
unfolding fails30
question-over qb h = or-true _ _ (lt-ltb 1024 (length qb) h)

-- the number of the refusal then
some_or : (b : Bool) (m n : ℕ) → 1 ≤ m → 1 ≤ n → 1 ≤ cond b m n
some_or true m n h k = h
some_or false m n h k = k

abbrev number20 : List ℕ → List ℤ → ℕ
number20 cb vs = cond (fails10 cb) 10 (cond (fails11 cb vs) 11 20)

abbrev number30 : List ℕ → List ℤ → List ℕ → ℕ
number30 cb vs pb =
    let sh = shape_of (catalogue_of cb) in
    let ps = permits_of pb in
    cond (fails10 cb) 10 (cond (fails11 cb vs) 11 (cond (fails20 pb) 20 (cond (fails21 ps) 21 (cond (fails22 sh ps) 22 (cond (fails23 sh ps) 23 30)))))

module _ (cb : List ℕ) (vs : List ℤ) (pb qb : List ℕ) (room : ℕ) where
  refusal10 : fails10 cb ≡ true → refusal (ask_checks cb vs pb qb room) ≡ 10
  unfolding refusal ask_checks keeper_checks
  refusal10 e = rw e

  refusal20 : fails20 pb ≡ true → refusal (ask_checks cb vs pb qb room) ≡ number20 cb vs
  unfolding refusal ask_checks keeper_checks shape_checks permit_checks
  refusal20 e = rw e

  refusal30 : fails30 guarded_limits qb ≡ true → refusal (ask_checks cb vs pb qb room) ≡ number30 cb vs pb
  unfolding refusal ask_checks keeper_checks shape_checks permit_checks query_checks
  refusal30 e = rw e

-- a refusal with a number tells nothing else of the inputs
refused-alike : (n : ℕ) (q q' : Query) (D D' : ℕ → List Tuple) (bs : List ℕ) (cs : List ℤ) → 1 ≤ n → ask_unless n q D bs cs ≡ ask_unless n q' D' bs cs
unfolding ask_unless
refused-alike zero q q' D D' bs cs h = absurd (omega arith)
refused-alike (suc n) q q' D D' bs cs h = refl

ask-alike : (cb cb' : List ℕ) (vs : List ℤ) (pb pb' qb qb' bs : List ℕ) (cs : List ℤ) (n : ℕ) → 1 ≤ n
    → refusal (ask_checks cb vs pb qb (length bs)) ≡ n → refusal (ask_checks cb' vs pb' qb' (length bs)) ≡ n → ask cb vs pb qb bs cs ≡ ask cb' vs pb' qb' bs cs
unfolding ask
ask-alike cb cb' vs pb pb' qb qb' bs cs n h e e' =
    ap (λ (k : ℕ). ask_unless k (rewritten_of cb pb qb) (tuples_at (catalogue_of cb) vs) bs cs) e
    ∙ refused-alike n (rewritten_of cb pb qb) (rewritten_of cb' pb' qb') (tuples_at (catalogue_of cb) vs) (tuples_at (catalogue_of cb') vs) bs cs h
    ∙ sym (ap (λ (k : ℕ). ask_unless k (rewritten_of cb' pb' qb') (tuples_at (catalogue_of cb') vs) bs cs) e')

abbrev bytes : List ℕ
bytes = replicate 17216 0

abbrev cells : List ℤ
cells = replicate 4096 (pos 0)

cut-catalogue : (cb fb pb qb : List ℕ) → O.output (take 65 cb) fb pb qb ≡ O.output cb fb pb qb
unfolding O.output
cut-catalogue cb fb pb qb = cut 64 65 cb (omega arith) (λ e. ap (λ (x : List ℕ). O.output x fb pb qb) e) λ l l'.
    let e = catalogue-over (take 65 cb) l in
    let e' = catalogue-over cb l' in
    let vs = O.numbers fb in
    let o = ask-alike (take 65 cb) cb vs pb pb qb qb bytes cells 10 (omega arith) (refusal10 (take 65 cb) vs pb qb (length bytes) e) (refusal10 cb vs pb qb (length bytes) e') in
    ap (λ (b : Bool). cond (O.unreadable fb) (O.refused (cond b 10 11)) (O.printed (ask (take 65 cb) vs pb qb bytes cells))) (e ∙ sym e')
    ∙ ap (λ (x : Outcome). cond (O.unreadable fb) (O.refused (O.unread cb)) (O.printed x)) o

cut-values : (cb fb pb qb : List ℕ) → O.output cb (take 32769 fb) pb qb ≡ O.output cb fb pb qb
unfolding O.output
cut-values cb fb pb qb = cut 32768 32769 fb (omega arith) (λ e. ap (λ (x : List ℕ). O.output cb x pb qb) e) λ l l'.
    ap (λ (b : Bool). cond b (O.refused (O.unread cb)) (O.printed (ask cb (O.numbers (take 32769 fb)) pb qb bytes cells))) (values-over (take 32769 fb) l)
    ∙ sym (ap (λ (b : Bool). cond b (O.refused (O.unread cb)) (O.printed (ask cb (O.numbers fb) pb qb bytes cells))) (values-over fb l'))

cut-permits : (cb fb pb qb : List ℕ) → O.output cb fb (take 2049 pb) qb ≡ O.output cb fb pb qb
unfolding O.output
cut-permits cb fb pb qb = cut 2048 2049 pb (omega arith) (λ e. ap (λ (x : List ℕ). O.output cb fb x qb) e) λ l l'.
    let vs = O.numbers fb in
    ap (λ (x : Outcome). cond (O.unreadable fb) (O.refused (O.unread cb)) (O.printed x))
    (ask-alike cb cb vs (take 2049 pb) pb qb qb bytes cells (number20 cb vs)
    (some_or (fails10 cb) 10 _ (omega arith) (some_or (fails11 cb vs) 11 20 (omega arith) (omega arith)))
    (refusal20 cb vs (take 2049 pb) qb (length bytes) (permits-over (take 2049 pb) l))
    (refusal20 cb vs pb qb (length bytes) (permits-over pb l')))

cut-question : (cb fb pb qb : List ℕ) → O.output cb fb pb (take 1025 qb) ≡ O.output cb fb pb qb
unfolding O.output
cut-question cb fb pb qb = cut 1024 1025 qb (omega arith) (λ e. ap (λ (x : List ℕ). O.output cb fb pb x) e) λ l l'.
    let vs = O.numbers fb in
    let sh = shape_of (catalogue_of cb) in
    let ps = permits_of pb in
    ap (λ (x : Outcome). cond (O.unreadable fb) (O.refused (O.unread cb)) (O.printed x))
    (ask-alike cb cb vs pb pb (take 1025 qb) qb bytes cells (number30 cb vs pb)
    (some_or (fails10 cb) 10 _ (omega arith) (some_or (fails11 cb vs) 11 _ (omega arith) (some_or (fails20 pb) 20 _ (omega arith)
    (some_or (fails21 ps) 21 _ (omega arith) (some_or (fails22 sh ps) 22 _ (omega arith) (some_or (fails23 sh ps) 23 30 (omega arith) (omega arith)))))))
    (refusal30 cb vs pb (take 1025 qb) (length bytes) (question-over (take 1025 qb) l))
    (refusal30 cb vs pb qb (length bytes) (question-over qb l')))

pub cut-files : CutFiles
cut-files cb fb pb qb =
    cut-catalogue cb (take 32769 fb) (take 2049 pb) (take 1025 qb)
    ∙ cut-values cb fb (take 2049 pb) (take 1025 qb)
    ∙ cut-permits cb fb pb (take 1025 qb)
    ∙ cut-question cb fb pb qb
