-- The query that bytes and their table of sizes stand for, total for any bytes.
use Rattle.std.specs.Prelude.{ℕ, ◌<◌, ◌≤◌, ◌≡◌, List, [], ◌∷◌, length, drop, Result, Ok, Err}
use Rattle.std.proofs.Math.Option.{some}
use Rattle.model.specs.Lists.{update}
use Rattle.model.specs.Syntax.{Binding, Query}
use Rattle.model.specs.Encoding.{ok, read_query, query_of}
use Rattle.model.specs.Scope.{Scope}
use Rattle.model.specs.Limits as M
use Rattle.model.specs.declared.refusal.Refusal.{Refusal}
use Rattle.sizes.specs.Decode.{decode}
use Rattle.grammar.specs.declared.Layout.{Layout}
use Rattle.grammar.specs.Shapes.{layout}
use Rattle.queries.specs.declared.Limits.{Limits}
use Rattle.sizes.specs.Parts.{ranges_at, targets_at}

-- read to level l, its parts standing as the layout says
abbrev pub query_at : Layout → ℕ → List ℕ → List ℕ → Query
query_at y l q z = record {
  ranges = ranges_at y.ranges q;
  targets = targets_at y.targets l (drop y.first q) (drop y.first z);
  condition = decode l (drop y.condition q) (drop y.condition z);
}

-- a scope with range variables in reach
unfoldable pub reach_on : List Binding → Scope → Scope
reach_on [] σ = σ
reach_on (b ∷ bs) σ = update (reach_on bs σ) b.variable (some b.relation)

-- the model's limits; those of RANGEs and targets are the same for both calls
abbrev pub limits_of : Limits → M.Limits
limits_of l = record { bytes = l.bytes; nesting = l.levels; bound = l.variables; ranges = (M.limits).asked.ranges; targets = (M.limits).asked.targets }

-- a query that was read, and its layout
pub record Laid (y : Layout) (q : List ℕ) : Type 0 where
  pub read : read_query q ≡ ok (query_of q) []
  pub place : y ≡ layout (query_of q)

-- the table of sizes has room for it
pub record Room (q z : List ℕ) : Type 0 where
  pub room : length q ≤ length z
  pub short : length q < 65536

-- where the query passed: its layout, and the table with which its bytes stand for it
abbrev pub Ready : Result Layout Refusal → ℕ → List ℕ → List ℕ → Type 0
Ready (Err e) l q z = Unit
Ready (Ok y) l q z = Laid y q × (query_at y l q z ≡ query_of q)
