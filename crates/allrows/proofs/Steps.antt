-- One step of each function as an equation over plain variables.
use mathlib.Core.Path.{◌≡◌, ◌∙◌}
use mathlib.Core.List.{List}
use Prim.Native.Nat.{ℕ, ◌+◌, ◌*◌, ◌/◌, ◌%◌}
use lib.ListN.{set}
use mathlib.Core.Bool.{cond}
use Rattle.catalogue.specs.Layout.{attributes_of, rows_of, latest_of, base_of}
use Rattle.walks.specs.declared.Walk.{Walk}
use Rattle.allrows.specs.Filled.{written, whole_of}

pub put_is : (ws : List ℕ) (v : ℕ) (x : Walk) (k i : ℕ) → k ≡ v → i ≡ 8 * k → (a b c d y : List ℕ) → a ≡ set ws i x.start → b ≡ set a (i + 1) x.count → c ≡ set b (i + 2) (x.base % 65536) → d ≡ set c (i + 3) (x.base / 65536) → y ≡ set d (i + 4) x.width → y ≡ written ws v x
unfolding written
put_is ws v x k i ek ei a b c d y ea eb ec ed ey = ey ∙ rw (ed, ec, eb, ea, ei, ek)

pub whole_is : (cb : List ℕ) (r n b w s : ℕ) → n ≡ rows_of cb r → b ≡ base_of cb r → w ≡ attributes_of cb r → s ≡ cond (latest_of cb r) 1 0 → record { start = s; count = n; base = b; width = w } ≡ whole_of cb r
whole_is cb r n b w s en eb ew es = rw (en, eb, ew, es)
