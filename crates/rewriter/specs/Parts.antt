-- The bytes of a rewritten query, part by part (document 01, "Permits and the rewriting", step 4 and the numbering).
use Rattle.std.specs.Prelude.{ℕ, ◌+◌, List, [], ◌∷◌, ◌++◌, get_or, drop}
use Rattle.model.specs.Syntax.{Condition, Term, Binding, Query, bindings, bindings_t}
use Rattle.model.specs.Encoding.{encode_ranges}
use Rattle.sizes.specs.Decode.{decode}
use Rattle.sizes.specs.Parts.{targets_at}
use Rattle.grammar.specs.declared.Layout.{Layout}
use Rattle.queries.specs.Found.{head_ranges}
use Rattle.copier.specs.Guard.{opening, guard_bytes, guard_new}
use Rattle.rewriter.specs.Rewritten.{mask_of, new_of, rewritten, rewritten_t}

-- the query that bytes and their table stand for, its RANGE records read one at a time
abbrev pub query_read : Layout → ℕ → List ℕ → List ℕ → Query
query_read y l q z = record {
  ranges = head_ranges y.ranges q;
  targets = targets_at y.targets l (drop y.first q) (drop y.first z);
  condition = decode l (drop y.condition q) (drop y.condition z);
}

-- an AND for each RANGE with a guard, before the final condition
unfoldable pub openings : List ℕ → List Binding → List ℕ
openings masks [] = []
openings masks (b ∷ bs) = openings masks bs ++ opening (get_or masks b.variable 0)

module _ (masks : List ℕ) (f : ℕ → List ℕ) where
  unfoldable pub targets_bytes : List Term → ℕ → List ℕ
  targets_bytes [] n = []
  targets_bytes (t ∷ ts) n = rewritten_t masks f t n ++ targets_bytes ts (n + new_of masks f (bindings_t t))

  unfoldable pub targets_new : List Term → ℕ
  targets_new [] = 0
  targets_new (t ∷ ts) = new_of masks f (bindings_t t) + targets_new ts

  -- the guards of the RANGEs, in their order, after it
  unfoldable pub range_guards : List Binding → ℕ → List ℕ
  range_guards [] n = []
  range_guards (b ∷ bs) n = guard_bytes (mask_of masks f b.variable) f b.variable n ++ range_guards bs (n + guard_new (mask_of masks f b.variable) f)

  -- the final condition with the guards of the RANGEs
  abbrev pub final_bytes : List Binding → Condition → ℕ → List ℕ
  final_bytes bs c n = openings masks bs ++ (rewritten masks f c n ++ range_guards bs (n + new_of masks f (bindings c)))

  -- new numbers go from 8 up, in byte order of the rewritten query
  unfoldable pub query_bytes : Query → List ℕ
  query_bytes q = encode_ranges q.ranges [] ++ (targets_bytes q.targets 8 ++ final_bytes q.ranges q.condition (8 + targets_new q.targets))

  unfoldable pub query_new : Query → ℕ
  query_new q = targets_new q.targets + (new_of masks f (bindings q.condition) + new_of masks f q.ranges)
