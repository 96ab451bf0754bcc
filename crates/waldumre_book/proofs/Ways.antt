-- The three ways of the call, each the model's.
use mathlib.Core.Path.{◌≡◌, sym, ap, ◌∙◌, subst}
use mathlib.Core.Bool.{Bool, true, false, cond}
use mathlib.Core.List.{List}
use Prim.Native.Nat.{ℕ, ◌*◌, ◌≤◌}
use lib.IntN.{ℤ}
use lib.ListN.{length, take}
use native.Mathlib.Omega.{arith}
use Rattle.std.specs.Prelude.{Ok, Err}
use Rattle.model.specs.Refusals.{number_of}
use Rattle.model.specs.declared.refusal.Refusal.{Refusal}
use Rattle.model.proofs.Refusals.{number-positive}
use Rattle.plain.specs.Reply.{number_in}
use Rattle.model.specs.Calls as M
use Rattle.model.specs.Book.{rows_in, Book, book_of, BookOutcome, fits, book_after}
use Rattle.model.proofs.Book.{book-refused, book-failed, book-written, rows_fit}
use Rattle.guarded.specs.Outcome as G
use Rattle.guarded.specs.declared.Reply.{Reply}
use Rattle.waldumre_book.specs.Outcome.{asked_as, book_outcome_of}
use Rattle.waldumre_book.specs.declared.Outcome.{Outcome}

abbrev pub counted : Reply → List ℤ → List ℤ
counted r answer = take (r.answer.rows * r.answer.columns) answer

-- r is what ask returned, answer and bytes are the buffers after it
module _ (r : Reply) {answer : List ℤ} {bytes : List ℕ} where
  pub rows_in_lem : (cb : List ℕ) (vs : List ℤ) (pb qb rewritten : List ℕ) (cells : List ℤ) → G.outcome_of r answer bytes ≡ M.ask cb vs pb qb rewritten cells → length answer ≡ length cells → r.answer.rows * r.answer.columns ≤ length answer
  rows_in_lem cb vs pb qb rewritten cells e l = let h : r.answer.rows * r.answer.columns ≤ length cells = subst (λ (o : M.Outcome). o.answer.rows * o.answer.columns ≤ length cells) (sym e) (rows_fit cb vs pb qb rewritten cells) in omega (arith, h, l)

-- b is the book as lent
module _ (r : Reply) (answer : List ℤ) (bytes : List ℕ) (b : Book) where
  module _ {a : Outcome} (ea : a ≡ asked_as r) where
    pub refused : r.answer.full ≡ true → book_outcome_of a answer bytes b ≡ book_after (G.outcome_of r answer bytes) b
    refused h =
        let n : number_in r.answer ≡ 41 = rw h in
        ap (λ (x : Outcome). book_outcome_of x answer bytes b) ea ∙ sym (book-refused (G.outcome_of r answer bytes) b (λ z. omega (arith, n, z)))

    pub written : r.answer.full ≡ false → {w : Bool} {c : Book} → (w ≡ fits r.answer.columns (counted r answer) b) × (c ≡ cond w (book_of (rows_in (counted r answer))) b) → w ≡ true
        → book_outcome_of a answer bytes c ≡ book_after (G.outcome_of r answer bytes) b
    written f {w} {c} k t =
        let h : number_in r.answer ≡ 0 = rw f in
        ap (λ (x : Outcome). book_outcome_of x answer bytes c) ea
        ∙ ap (λ (x : Book). record { outcome = G.outcome_of r answer bytes; book = x }) (k.1 ∙ ap (λ (x : Bool). cond x (book_of (rows_in (counted r answer))) b) t)
        ∙ sym (book-written (G.outcome_of r answer bytes) b h (sym k.0 ∙ t))

  pub failed : r.answer.full ≡ false → {w : Bool} {c : Book} {a : Outcome} → a ≡ record { number = 53; rows = 0; columns = 0; length = 0 } → (w ≡ fits r.answer.columns (counted r answer) b) × (c ≡ cond w (book_of (rows_in (counted r answer))) b) → w ≡ false
      → book_outcome_of a answer bytes c ≡ book_after (G.outcome_of r answer bytes) b
  failed f {w} {c} {a} ea k t =
      let h : number_in r.answer ≡ 0 = rw f in
      ap (λ (x : Outcome). book_outcome_of x answer bytes c) ea
      ∙ ap (book_outcome_of (record { number = 53; rows = 0; columns = 0; length = 0 }) answer bytes) (k.1 ∙ ap (λ (x : Bool). cond x (book_of (rows_in (counted r answer))) b) t)
      ∙ sym (book-failed (G.outcome_of r answer bytes) b h (sym k.0 ∙ t))

-- a refusal of ask
pub refused_first : (e : Refusal) (answer : List ℤ) (bytes : List ℕ) (b : Book) (a : Outcome) → a ≡ record { number = number_of e; rows = 0; columns = 0; length = 0 }
    → book_outcome_of a answer bytes b ≡ book_after (G.result_of (Err e) answer bytes) b
refused_first e answer bytes b a ea =
    ap (λ (x : Outcome). book_outcome_of x answer bytes b) ea
    ∙ sym (book-refused (G.result_of (Err e) answer bytes) b (λ z. omega (arith, number-positive e, z)))
