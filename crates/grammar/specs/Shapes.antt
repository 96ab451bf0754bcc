-- Where the parts of a whole query stand, and the checks 20 and 30 (document 01, "Who can cause a refusal").
use Rattle.std.specs.Prelude.{ℕ, suc, ◌+◌, ◌-◌, ◌*◌, Bool, cond, ◌||◌, List, [], eqb, ltb, length, Option, Some, None}
use Rattle.model.specs.Syntax.{Query}
use Rattle.model.specs.Checks.{fails20}
use Rattle.model.specs.Encoding.{Read, fail, ok, encode_targets, read_ranges, read_targets, read_query, failed}
use Rattle.grammar.specs.declared.Layout.{Layout}
use Rattle.grammar.specs.declared.Input.{Input}
use Rattle.grammar.specs.declared.Input.TheVariants as I

-- targets have kinds 33 and 34
abbrev pub is_target : ℕ → Bool
is_target k = eqb k 33 || eqb k 34

-- how many records or terms were read, and how many of the bytes
abbrev pub part_read : {A : Type 0} → List ℕ → Read (List A) → Option (ℕ × ℕ)
part_read q fail = None
part_read q (ok xs r) = Some (length xs, length q - length r)

unfoldable pub ranges_part : List ℕ → Option (ℕ × ℕ)
ranges_part q = part_read q (read_ranges (suc (length q)) q)

unfoldable pub targets_part : List ℕ → Option (ℕ × ℕ)
targets_part q = part_read q (read_targets (suc (length q)) q)

-- the counts of a query, and the places of its first target and of its final condition
unfoldable pub layout : Query → Layout
layout q = record {
  ranges = length q.ranges;
  targets = length q.targets;
  first = 3 * length q.ranges;
  condition = 3 * length q.ranges + length (encode_targets q.targets []);
}

abbrev pub shape_read : Read Query → Option Layout
shape_read fail = None
shape_read (ok q r) = Some (layout q)

unfoldable pub shape_of : List ℕ → Option Layout
shape_of q = shape_read (read_query q)

unfoldable pub shape_within : ℕ → List ℕ → Option Layout
shape_within limit q = cond (ltb limit (length q)) None (shape_of q)

-- 30, for any limit of bytes
unfoldable pub fails30_at : ℕ → List ℕ → Bool
fails30_at limit q = ltb limit (length q) || failed (read_query q)

-- document 01's number for each case, 0 where nothing is refused
abbrev pub number_of : Option Layout → ℕ
number_of (Some y) = 0
number_of None = 30

-- the check of what is not well formed: 30 of a query, 20 of permits
abbrev pub refused_as : Input → List ℕ → Bool
refused_as (I.Query limit) q = fails30_at limit q
refused_as I.Permits q = fails20 q
