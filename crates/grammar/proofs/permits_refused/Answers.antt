use mathlib.Core.Path.{◌≡◌, refl, ap, ◌∙◌}
use mathlib.Core.Bool.{Bool, true, false, not}
use Prim.Native.Nat.{ℕ, ◌<◌, ◌≤◌}
use mathlib.Core.List.{List}
use lib.ListN.{length}
use borrow.Author.Tests.{lt-ltb, le-ltb}
use Rattle.model.specs.Encoding.{failed, permits_read}
use Rattle.model.specs.Checks.{fails20}
use Rattle.grammar.proofs.permits_refused.Goals as goal

too_long : (l : List ℕ) → 2048 < length l → true ≡ fails20 l
unfolding fails20
too_long l h = rw (lt-ltb 2048 (length l) h)

double : (b : Bool) → not (not b) ≡ b
double true = refl
double false = refl

tested : (l : List ℕ) (r : Bool) → length l ≤ 2048 → r ≡ not (failed (permits_read l)) → not r ≡ fails20 l
unfolding fails20
tested l r h e = rw (le-ltb 2048 (length l) h) (ap not e ∙ double (failed (permits_read l)))

pub returns-then-bytes-gt-LIST_BYTES : goal.returns-then-bytes-gt-LIST_BYTES
returns-then-bytes-gt-LIST_BYTES c = lt-ltb 2048 _ c.if-bytes-gt-LIST_BYTES.true ∙ too_long c.args.bytes.now c.if-bytes-gt-LIST_BYTES.true

pub returns-else-bytes-gt-LIST_BYTES : goal.returns-else-bytes-gt-LIST_BYTES
returns-else-bytes-gt-LIST_BYTES c = tested c.args.bytes.now c.permits.result c.if-bytes-gt-LIST_BYTES.false c.permits.ensures
