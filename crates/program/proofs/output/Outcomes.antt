-- The text of a call's outcome is what the program prints.
use mathlib.Core.Path.{◌≡◌, refl, sym, ap, ◌∙◌, subst}
use mathlib.Core.Bool.{Bool, true, false, cond}
use mathlib.Core.List.{List}
use Prim.Native.Nat.{ℕ, ◌*◌, ◌≤◌, ◌<◌}
use native.Mathlib.Omega.{arith}
use lib.IntN.{ℤ, pos}
use lib.ListN.{length, replicate, length-replicate}
use borrow.Author.Tests.{eq-eqb, ne_eqb, ltb-false}
use Rattle.model.specs.Checks.{fails10, fails11, refusal, keeper_checks}
use Rattle.model.specs.Calls.{Outcome, ask}
use Rattle.model.proofs.Tests.{or_no}
use Rattle.model.proofs.Demands.{demand-2}
use Rattle.model.proofs.Book.{rows_fit}
use Rattle.program.specs.Output as O
use Rattle.program.proofs.output.Parts.{accepted-length}

-- whatever the values are, check 10 goes first
module _ (cb : List ℕ) (vs : List ℤ) (n : ℕ) (e : n ≡ refusal (keeper_checks cb vs)) where
  pub unread_as : 1 ≤ n → n ≡ O.unread cb
  unfolding refusal keeper_checks
  unread_as h = go (fails10 cb) (fails11 cb vs) e
    where
      go : (a b : Bool) → n ≡ cond a 10 (cond b 11 0) → n ≡ cond a 10 11
      go true b p = p
      go false true p = p
      go false false p = absurd (omega (arith, h, p))

  pub unread-none : n ≡ 0 → 11 ≡ O.unread cb
  unfolding refusal keeper_checks
  unread-none h = go (fails10 cb) (fails11 cb vs) e
    where
      go : (a b : Bool) → n ≡ cond a 10 (cond b 11 0) → ◌≡◌ {A = ℕ} 11 (cond a 10 11)
      go true b p = absurd (omega (arith, h, p))
      go false b p = refl

-- what a call returns, with both buffers after it
abbrev outcome : ℕ → ℕ → ℕ → ℕ → List ℤ → List ℕ → Outcome
outcome number rows columns count cells bytes = record { answer = record { number = number; rows = rows; columns = columns; cells = cells }; count = count; rewritten = bytes }

module _ (cb fb pb qb : List ℕ) (u : Bool) (eu : u ≡ O.unreadable fb) where
  pub readable-size : u ≡ false → length fb ≤ 32768
  readable-size h = ltb-false 32768 (length fb) (or_no _ _ (sym eu ∙ h)).0

  pub unread-text : u ≡ true → (n : ℕ) → n ≡ O.unread cb → O.refused n ≡ O.output cb fb pb qb
  unfolding O.output
  unread-text h n e =
      ap O.refused e
      ∙ sym (ap (λ (b : Bool). cond b (O.refused (O.unread cb)) (O.printed (ask cb (O.numbers fb) pb qb (replicate 17216 0) (replicate 4096 (pos 0))))) (sym eu ∙ h))

  read-text : u ≡ false → O.printed (ask cb (O.numbers fb) pb qb (replicate 17216 0) (replicate 4096 (pos 0))) ≡ O.output cb fb pb qb
  unfolding O.output
  read-text h = sym (ap (λ (b : Bool). cond b (O.refused (O.unread cb)) (O.printed (ask cb (O.numbers fb) pb qb (replicate 17216 0) (replicate 4096 (pos 0))))) (sym eu ∙ h))

  -- the reply to a call with both buffers zero
  module _ (h : u ≡ false) (number rows columns count : ℕ) (cells : List ℤ) (bytes : List ℕ) (vs : List ℤ) (bs : List ℕ) (cs : List ℤ)
      (ev : vs ≡ O.numbers fb) (eb : bs ≡ replicate 17216 0) (ec : cs ≡ replicate 4096 (pos 0)) (ea : outcome number rows columns count cells bytes ≡ ask cb vs pb qb bs cs) where
    abbrev told : Outcome
    told = outcome number rows columns count cells bytes

    replied : told ≡ ask cb (O.numbers fb) pb qb (replicate 17216 0) (replicate 4096 (pos 0))
    replied =
        ea
        ∙ ap (λ (x : List ℤ). ask cb x pb qb bs cs) ev
        ∙ ap (λ (x : List ℕ). ask cb (O.numbers fb) pb qb x cs) eb
        ∙ ap (λ (x : List ℤ). ask cb (O.numbers fb) pb qb (replicate 17216 0) x) ec

    text : O.printed told ≡ O.output cb fb pb qb
    text = ap O.printed replied ∙ read-text h

    pub refused-text : (n : ℕ) → n ≡ number → (number ≡ 0 → ⊥) → O.refused n ≡ O.output cb fb pb qb
    refused-text n e k =
        ap O.refused e
        ∙ sym (ap (λ (b : Bool). cond b (O.accepted rows columns count bytes cells) (O.refused number)) (ne_eqb number 0 k))
        ∙ text

    pub accepted-text : number ≡ 0 → O.accepted rows columns count bytes cells ≡ O.output cb fb pb qb
    accepted-text k =
        sym (ap (λ (b : Bool). cond b (O.accepted rows columns count bytes cells) (O.refused number)) (eq-eqb number 0 k))
        ∙ text

    zero-bytes : length bs ≡ 17216
    zero-bytes = ap length eb ∙ length-replicate {A = ℕ} 17216 0

    zero-cells : length cs ≡ 4096
    zero-cells = ap length ec ∙ length-replicate {A = ℤ} 4096 (pos 0)

    module _ (lc : length cells ≡ length cs) (lb : length bytes ≡ length bs) where
      pub cells_in : rows * columns ≤ length cells
      cells_in =
          subst (λ (n : ℕ). rows * columns ≤ n) (sym lc)
          (subst (λ (o : Outcome). o.answer.rows * o.answer.columns ≤ length cs) (sym ea) (rows_fit cb vs pb qb bs cs))

      pub bytes-in : count ≤ length bytes
      bytes-in =
          let k : count ≤ 17216 = subst (λ (o : Outcome). o.count ≤ 17216) (sym ea) (demand-2.bounded cb vs pb qb bs cs) in
          omega (arith, zero-bytes)

      pub text-room : length (O.accepted rows columns count bytes cells) < 9223372036854775808
      text-room = omega (arith, accepted-length rows columns count bytes cells, zero-bytes, zero-cells)

      pub text-short : length (O.accepted rows columns count bytes cells) ≤ 470000
      text-short = omega (arith, accepted-length rows columns count bytes cells, zero-bytes, zero-cells)
