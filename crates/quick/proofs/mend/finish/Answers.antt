use native.Mathlib.Omega.{arith}
use Prim.Native.Nat.{ℕ, ◌-◌}
use mathlib.Core.Path.{ap}
use Rattle.parts.proofs.Renumber.{used_low}
use Rattle.quick.proofs.mend.Laws.{no_room, with-room, table-length, put-part}
use Rattle.quick.proofs.mend.finish.Goals as goal

pub overflow_mul-length : goal.overflow_mul-length
overflow_mul-length c = record { fits = omega (arith, c.renumber-used.ensures.value, used_low c.args.symbols.now c.args.n, c.requires.1) }

pub overflow_add-length : goal.overflow_add-length
overflow_add-length c = record { fits = omega (arith, c.renumber-used.ensures.value, used_low c.args.symbols.now c.args.n, c.requires.1, c.requires.3) }

pub returns-then-out-length : goal.returns-then-out-length
returns-then-out-length c = no_room c.args.symbols.now c.renumber-used.new.symbols c.args.n c.renumber-used.ensures.renumbered c.requires.1 c.args.made.now c.args.out.now c.renumber-used.result c.args.to c.renumber-used.ensures.value (omega (arith, c.requires.2, c.requires.3)) c.if-out-length.true

pub overflow_sub-n : goal.overflow_sub-n
overflow_sub-n c = omega (arith, c.renumber-used.ensures.value, used_low c.args.symbols.now c.args.n)

pub mend_records-requires : goal.mend_records-requires
mend_records-requires c = record { n_bound = (c.requires.1, omega arith); made_len = (c.requires.2, c.requires.3) }

pub put_ranges-at-requires : goal.put_ranges-at-requires
put_ranges-at-requires c = (c.requires.1, omega (arith, table-length c.args.symbols.now c.renumber-used.new.symbols c.args.n c.renumber-used.ensures.renumbered c.requires.1, c.renumber-used.ensures.value, c.if-out-length.false))

pub overflow_add-at : goal.overflow_add-at
overflow_add-at c = record { fits = omega (arith, table-length c.args.symbols.now c.renumber-used.new.symbols c.args.n c.renumber-used.ensures.renumbered c.requires.1, c.renumber-used.ensures.value, c.if-out-length.false, c.put_ranges-at.ensures.value, used_low c.args.symbols.now c.args.n, c.requires.1, c.requires.3) }

pub slice_bounds-copy_from_slice-end : goal.slice_bounds-copy_from_slice-end
slice_bounds-copy_from_slice-end c = omega (arith, table-length c.args.symbols.now c.renumber-used.new.symbols c.args.n c.renumber-used.ensures.renumbered c.requires.1, c.renumber-used.ensures.value, c.if-out-length.false, c.put_ranges-at.ensures.value, c.put_ranges-at.auto.out)

pub returns : goal.returns
returns c =
    let symbols = c.args.symbols.now in
    let n = c.args.n in
    let out = c.put_ranges-at.new.out in
    with-room symbols c.renumber-used.new.symbols n c.renumber-used.ensures.renumbered c.requires.1 c.args.made.now c.args.out.now c.renumber-used.result c.args.to c.renumber-used.ensures.value (omega (arith, c.requires.2, c.requires.3)) c.mend_records.new.made out _ c.put_ranges-at.result c.if-out-length.false (omega (arith, c.requires.2, c.requires.3, c.mend_records.ensures.made_len_2))
    (c.mend_records.ensures.by_index symbols c.renumber-used.ensures.renumbered (ap (λ (u : ℕ). n - u) c.renumber-used.ensures.value)) c.put_ranges-at.ensures.value c.put_ranges-at.ensures.out_after
    (put-part out c.mend_records.new.made c.copy_from_slice.new.self c.put_ranges-at.result c.args.to _ (omega arith) c.copy_from_slice.ensures.after)
