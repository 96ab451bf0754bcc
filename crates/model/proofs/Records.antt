-- The bytes of each record are as the table of kinds has them: by computation, kind by kind.
use Prim.Native.Nat.{ℕ}
use mathlib.Core.List.{List, [], ◌∷◌}
use mathlib.Core.Path.{refl}
use Rattle.model.specs.Syntax.{Condition, Term, TRUE, FALSE, NOT, AND, OR, COMPARE, SOME, CONSTANT, ATTRIBUTE, AGGREGATE, Binding, Permit}
use Rattle.model.specs.Encoding.{encode, encode_t, encode_targets, encode_ranges, encode_permit}
use Rattle.model.specs.Kinds.{k-range, k-permit}
use Rattle.model.specs.Records.{encode_all, IsRecord, kind_c, kind_t, ByTable}

of-condition : (c : Condition) (r : List ℕ) → IsRecord (kind_c c) (encode c r) r
unfolding encode encode_targets encode_all
of-condition TRUE r = record { body = []; terms = []; conditions = []; body-length = refl; term-count = refl; condition-count = refl; bytes = refl }
of-condition FALSE r = record { body = []; terms = []; conditions = []; body-length = refl; term-count = refl; condition-count = refl; bytes = refl }
of-condition (NOT c) r = record { body = []; terms = []; conditions = c ∷ []; body-length = refl; term-count = refl; condition-count = refl; bytes = refl }
of-condition (AND c d) r = record { body = []; terms = []; conditions = c ∷ d ∷ []; body-length = refl; term-count = refl; condition-count = refl; bytes = refl }
of-condition (OR c d) r = record { body = []; terms = []; conditions = c ∷ d ∷ []; body-length = refl; term-count = refl; condition-count = refl; bytes = refl }
of-condition (COMPARE o s t) r = record { body = o ∷ []; terms = s ∷ t ∷ []; conditions = []; body-length = refl; term-count = refl; condition-count = refl; bytes = refl }
of-condition (SOME v q c) r = record { body = v ∷ q ∷ []; terms = []; conditions = c ∷ []; body-length = refl; term-count = refl; condition-count = refl; bytes = refl }

of-term : (t : Term) (r : List ℕ) → IsRecord (kind_t t) (encode_t t r) r
unfolding encode encode_targets encode_all
of-term (CONSTANT a b c d) r = record { body = a ∷ b ∷ c ∷ d ∷ []; terms = []; conditions = []; body-length = refl; term-count = refl; condition-count = refl; bytes = refl }
of-term (ATTRIBUTE v a) r = record { body = v ∷ a ∷ []; terms = []; conditions = []; body-length = refl; term-count = refl; condition-count = refl; bytes = refl }
of-term (AGGREGATE f v q a c) r = record { body = f ∷ v ∷ q ∷ a ∷ []; terms = []; conditions = c ∷ []; body-length = refl; term-count = refl; condition-count = refl; bytes = refl }

of_range : (b : Binding) (bs : List Binding) (r : List ℕ) → IsRecord k-range (encode_ranges (b ∷ bs) r) (encode_ranges bs r)
unfolding encode_ranges encode_targets encode_all
of_range b bs r = record { body = b.variable ∷ b.relation ∷ []; terms = []; conditions = []; body-length = refl; term-count = refl; condition-count = refl; bytes = refl }

of-permit : (p : Permit) (r : List ℕ) → IsRecord k-permit (encode_permit p r) r
unfolding encode_permit encode_targets encode_all
of-permit p r = record { body = p.relation ∷ p.low ∷ p.high ∷ []; terms = []; conditions = p.condition ∷ []; body-length = refl; term-count = refl; condition-count = refl; bytes = refl }

pub by-table : ByTable
by-table = record { condition = of-condition; term = of-term; range = of_range; permit = of-permit }
