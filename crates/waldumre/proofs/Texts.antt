-- The ways of the call by text, and what follows for calls from C by their contracts' equations.
use Prim.Native.Nat.{ℕ, zero, suc, ◌≤◌}
use mathlib.Core.List.{List, []}
use mathlib.Core.Path.{◌≡◌, refl, sym, ap, ◌∙◌, subst}
use native.Mathlib.Omega.{arith}
use lib.IntN.{ℤ}
use lib.ListN.{length, take}
use lib.Seq.{take-append_seam}
use Rattle.model.specs.Lists.{Every}
use Rattle.model.specs.Syntax.{TRUE, Query, bindings_q}
use Rattle.model.specs.Encoding.{Read, ok, read_or, read_query, query_of, encode_query}
use Rattle.model.specs.Catalogue.{catalogue_of, shape_of}
use Rattle.model.specs.Calls as M
use Rattle.model.specs.Demands.{Kept, permitted_cut}
use Rattle.model.proofs.Demands.{demand-3}
use Rattle.quel.specs.ReadText as Q
use Rattle.quel.specs.ReadText.{read_text}
use Rattle.quel.specs.Demands as D
use Rattle.quel.proofs.Demands as P
use Rattle.waldumre.specs.AskText.{TextOutcome, unless_refused, ask_read, ask_text}
use Rattle.waldumre.specs.Outcome.{outcome_of, reading_of, text_outcome_of}
use Rattle.waldumre.specs.declared.Outcome.{Outcome}
use Rattle.waldumre.specs.declared.Reading.{Reading}

-- the reader's records lie within the buffer
pub within : (ns bs buffer : List ℕ) (r : Q.Reading) → r ≡ read_text ns bs buffer → r.count ≤ length buffer
within ns bs buffer r e = subst (λ (x : Q.Reading). x.count ≤ length buffer) (sym e) (go (read_text ns bs buffer) (P.outcome ns bs buffer))
  where
    go : (x : Q.Reading) → D.Outcome ns bs buffer x → x.count ≤ length buffer
    go x (D.outside h) = omega arith
    go x (D.unnamed i h) = omega arith
    go x (D.too_long i h l) = omega arith
    go x (D.read i h l) = l

module _ (cb : List ℕ) (vs : List ℤ) (pb bs ns buffer rewritten : List ℕ) (cells : List ℤ) (r : Q.Reading) (e : r ≡ read_text ns bs buffer) where
  after : {x : TextOutcome} → x ≡ ask_read cb vs pb r rewritten cells → x ≡ ask_text cb vs pb bs ns buffer rewritten cells
  unfolding ask_text
  after h = h ∙ ap (λ (x : Q.Reading). ask_read cb vs pb x rewritten cells) e

  pub refused : (r.number ≡ 0 → ⊥) → (n : ℕ) → n ≡ r.number → text_outcome_of (record { number = n; rows = 0; columns = 0; length = 0 }) cells rewritten r.records ≡ ask_text cb vs pb bs ns buffer rewritten cells
  refused h n k = after (ap (λ (x : M.Outcome). record { outcome = x; records = r.records }) (ap (λ (m : ℕ). record { answer = M.refuse m cells; count = 0; rewritten = rewritten }) k ∙ go r.number h))
    where
      go : (m : ℕ) → (m ≡ 0 → ⊥) → record { answer = M.refuse m cells; count = 0; rewritten = rewritten } ≡ unless_refused m (M.ask cb vs pb (take r.count r.records) rewritten cells) rewritten cells
      go zero h = absurd (h refl)
      go (suc m) h = refl

  pub asked : r.number ≡ 0 → (o : Outcome) (c : List ℤ) (w : List ℕ) → outcome_of o c w ≡ M.ask cb vs pb (take r.count r.records) rewritten cells
      → text_outcome_of o c w r.records ≡ ask_text cb vs pb bs ns buffer rewritten cells
  asked h o c w k =
      after (ap (λ (x : M.Outcome). record { outcome = x; records = r.records }) (k ∙ ap (λ (m : ℕ). unless_refused m (M.ask cb vs pb (take r.count r.records) rewritten cells) rewritten cells) (sym h)))

-- a reading from C and its end: r is returned, and the buffer then holds these records
abbrev ReadBy : List ℕ → List ℕ → List ℕ → Reading → List ℕ → Type 0
ReadBy text names buffer r records = reading_of r records ≡ read_text names text buffer

-- accepted exactly if the text is derived, its names are known and the records fit; else the ground of the number
pub read-called : (text names buffer : List ℕ) (r : Reading) (records : List ℕ) → ReadBy text names buffer r records → D.Outcome names text buffer (reading_of r records)
read-called text names buffer r records e = subst (D.Outcome names text buffer) (sym e) (P.outcome names text buffer)

read_whole : (bs : List ℕ) (q : Query) → read_query bs ≡ ok q [] → read_query bs ≡ ok (query_of bs) []
unfolding query_of
read_whole bs q e = e ∙ ap (λ (g : Read Query). ok (read_or (record { ranges = []; targets = []; condition = TRUE }) g) []) (sym e)

-- what was read passes the question's reader, so that ask's 30 can only be its length
pub read-passes : (text names buffer : List ℕ) (r : Reading) (records : List ℕ) → ReadBy text names buffer r records → r.number ≡ 0
    → read_query (take r.length records) ≡ ok (query_of (take r.length records)) []
read-passes text names buffer r records e h = go (reading_of r records) (read-called text names buffer r records e) h
  where
    go : (x : Q.Reading) → D.Outcome names text buffer x → x.number ≡ 0 → read_query (take x.count x.records) ≡ ok (query_of (take x.count x.records)) []
    go x (D.outside h) z = absurd (omega (arith, z))
    go x (D.unnamed i h) z = absurd (omega (arith, z))
    go x (D.too_long i h l) z = absurd (omega (arith, z))
    go x (D.read {t} {q} {n} i h l) z = subst (λ (bs : List ℕ). read_query bs ≡ ok (query_of bs) []) (sym (take-append_seam (encode_query q) _)) (read_whole (encode_query q) q (P.passes names t q n h))

-- a call by text and its end
abbrev AskedByText : List ℕ → List ℤ → List ℕ → List ℕ → List ℕ → List ℕ → List ℕ → List ℤ → Outcome → List ℤ → List ℕ → List ℕ → Type 0
AskedByText catalogue values permits text names buffer rewritten answer r cells bytes records = text_outcome_of r cells bytes records ≡ ask_text catalogue values permits text names buffer rewritten answer

-- the question that a text is read as
abbrev question_of : List ℕ → List ℕ → List ℕ → Query
question_of text names buffer = query_of (take (read_text names text buffer).count (read_text names text buffer).records)

-- demand 3 by text: over collections alike in the premises two calls return the same and leave the same in every buffer; where the reader refuses nothing is asked of them
pub same-text-calls : (catalogue catalogue' : List ℕ) (values values' : List ℤ) (permits text names buffer rewritten : List ℕ) (answer : List ℤ) (r r' : Outcome) (cells cells' : List ℤ) (bytes bytes' records records' : List ℕ)
    → AskedByText catalogue values permits text names buffer rewritten answer r cells bytes records → AskedByText catalogue' values' permits text names buffer rewritten answer r' cells' bytes' records'
    → Kept catalogue values → Kept catalogue' values' → shape_of (catalogue_of catalogue) ≡ shape_of (catalogue_of catalogue')
    → ((read_text names text buffer).number ≡ 0 → ((20 ≤ r.number) × (r.number ≤ 40) → ⊥)
    → Every (λ b. permitted_cut catalogue values permits (question_of text names buffer) b ≡ permitted_cut catalogue' values' permits (question_of text names buffer) b) (bindings_q (question_of text names buffer)))
    → (r ≡ r') × (cells ≡ cells') × (bytes ≡ bytes') × (records ≡ records')
unfolding ask_text
same-text-calls cb cb' vs vs' pb bs ns buffer rewritten answer r r' cells cells' bytes bytes' records records' e e' k k' same premise =
    let made : TextOutcome → Outcome = λ o. record { number = o.outcome.answer.number; rows = o.outcome.answer.rows; columns = o.outcome.answer.columns; length = o.outcome.count } in
    let all = e ∙ ap (λ (o : M.Outcome). record { outcome = o; records = rd.records }) (go rd.number refl) ∙ sym e' in
    (ap made all, ap (λ (o : TextOutcome). o.outcome.answer.cells) all, ap (λ (o : TextOutcome). o.outcome.rewritten) all, ap (λ (o : TextOutcome). o.records) all)
  where
    rd : Q.Reading
    rd = read_text ns bs buffer

    question : List ℕ
    question = take rd.count rd.records

    go : (m : ℕ) → rd.number ≡ m → unless_refused m (M.ask cb vs pb question rewritten answer) rewritten answer ≡ unless_refused m (M.ask cb' vs' pb question rewritten answer) rewritten answer
    go zero z =
        let n : r.number ≡ (M.ask cb vs pb question rewritten answer).answer.number = ap (λ (o : TextOutcome). o.outcome.answer.number) e ∙ ap (λ (m : ℕ). (unless_refused m (M.ask cb vs pb question rewritten answer) rewritten answer).answer.number) z in
        demand-3 cb cb' vs vs' pb question rewritten answer k k' same (λ h. premise z (λ i. h (rw (sym n) i)))
    go (suc m) z = refl
