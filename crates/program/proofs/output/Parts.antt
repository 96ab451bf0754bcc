-- The five parts of an accepted call's text, written one after the other.
use mathlib.Core.Path.{◌≡◌, refl, sym, ap, ◌∙◌}
use mathlib.Core.List.{List, ◌++◌}
use Prim.Native.Nat.{ℕ, ◌+◌, ◌*◌, ◌≤◌, ◌<◌}
use native.Mathlib.Omega.{arith}
use lib.IntN.{ℤ}
use lib.ListN.{length, take, drop, length-append, length-take}
use lib.Seq.{sets, sets-eq, length-sets, length-take-le, take_at}
use Rattle.copier.proofs.Sets.{Wrote, Left, left-then, left-room}
use Rattle.program.specs.Text as T
use Rattle.program.proofs.text.Lengths.{decimal-length, line-length, table-length, labelled-length}
use Rattle.program.specs.Output as O

module _ (w t1 t2 t3 t4 t5 : List ℕ) (e : w ≡ t1 ++ (t2 ++ (t3 ++ (t4 ++ t5)))) (h : length w < 9223372036854775808) (d : List ℕ) where
  room : 0 + length w < 9223372036854775808
  room = omega arith

  start : Left d 0 w d 0 w
  start = (refl, refl)

  pub room1 : 0 + length t1 < 9223372036854775808
  room1 = left-room d 0 w d 0 w t1 _ e start room

  module _ (x1 : List ℕ) (p1 : ℕ) (k1 : Wrote d 0 t1 x1 p1) where
    left1 : Left d 0 w x1 p1 (t2 ++ (t3 ++ (t4 ++ t5)))
    left1 = left-then d 0 w d 0 w t1 _ x1 p1 e start k1

    pub room2 : p1 + length t2 < 9223372036854775808
    room2 = left-room d 0 w x1 p1 _ t2 (t3 ++ (t4 ++ t5)) refl left1 room

    module _ (x2 : List ℕ) (p2 : ℕ) (k2 : Wrote x1 p1 t2 x2 p2) where
      left2 : Left d 0 w x2 p2 (t3 ++ (t4 ++ t5))
      left2 = left-then d 0 w x1 p1 _ t2 _ x2 p2 refl left1 k2

      pub room3 : p2 + length t3 < 9223372036854775808
      room3 = left-room d 0 w x2 p2 _ t3 (t4 ++ t5) refl left2 room

      module _ (x3 : List ℕ) (p3 : ℕ) (k3 : Wrote x2 p2 t3 x3 p3) where
        left3 : Left d 0 w x3 p3 (t4 ++ t5)
        left3 = left-then d 0 w x2 p2 _ t3 _ x3 p3 refl left2 k3

        pub room4 : p3 + length t4 < 9223372036854775808
        room4 = left-room d 0 w x3 p3 _ t4 t5 refl left3 room

        module _ (x4 : List ℕ) (p4 : ℕ) (k4 : Wrote x3 p3 t4 x4 p4) where
          left4 : Left d 0 w x4 p4 t5
          left4 = left-then d 0 w x3 p3 _ t4 t5 x4 p4 refl left3 k4

          pub room5 : p4 + length t5 < 9223372036854775808
          room5 = omega (arith, left4.0)

          pub parts : (x5 : List ℕ) (p5 : ℕ) → Wrote x4 p4 t5 x5 p5 → (p5 ≡ length w) × (x5 ≡ sets d 0 w)
          parts x5 p5 k5 = (omega (arith, left4.0, k5.0), k5.1 ∙ left4.1)

-- no text is longer than the buffer
pub refused-length : (n : ℕ) → length (O.refused n) ≤ 29
refused-length n = omega (arith, labelled-length O.refused_word n)

pub accepted-length : (rows columns count : ℕ) (bs : List ℕ) (cs : List ℤ) → length (O.accepted rows columns count bs cs) ≤ 85 + 22 * (length bs + length cs)
unfolding O.accepted
accepted-length rows columns count bs cs =
    let t1 = T.labelled O.rows_word rows in
    let t2 = T.labelled O.columns_word columns in
    let t3 = T.labelled O.question_word count in
    let t4 = T.line T.decimal (take count bs) in
    let t5 = T.table rows columns cs in
    omega (
      arith,
      length-append t1 (t2 ++ (t3 ++ (t4 ++ t5))),
      length-append t2 (t3 ++ (t4 ++ t5)),
      length-append t3 (t4 ++ t5),
      length-append t4 t5,
      labelled-length O.rows_word rows,
      labelled-length O.columns_word columns,
      labelled-length O.question_word count,
      line-length T.decimal decimal-length (take count bs),
      length-take count bs,
      table-length rows columns cs,
    )

-- what was written from the start of a buffer with room is its beginning
pub at-start : (d x w : List ℕ) (r : ℕ) → 470000 ≤ length d → r ≤ 470000 → r ≡ length w → x ≡ sets d 0 w → ((r ≤ length x) × (r ≡ length (take r x))) × (take r x ≡ w)
at-start d x w r room short e ex =
    let l : length x ≡ length d = ap length ex ∙ length-sets d 0 w in
    let h : r ≤ length x = omega arith in
    ((h, sym (length-take-le r x h)), ap (take r) (ex ∙ sets-eq w d 0 (omega arith)) ∙ take_at w (drop (0 + length w) d) r (sym e))
