-- The numbers of the checks, from what the code finds.
use mathlib.Core.Path.{◌≡◌, ap, ap₂, ◌∙◌}
use mathlib.Core.List.{List, []}
use Prim.Native.Nat.{ℕ, ◌≤◌}
use native.Mathlib.Omega.{arith}
use lib.ListN.{length}
use Rattle.model.specs.Syntax.{Condition, Term, Binding, Query, levels_q}
use Rattle.model.specs.Encoding.{encode_targets, query_of}
use Rattle.model.proofs.ReadingQueries.{IsQ, query-inverse}
use Rattle.model.proofs.Sizes.{size_ts, size_q, size-targets, size-query}
use Rattle.grammar.specs.declared.Layout.{Layout}
use Rattle.grammar.specs.Shapes.{layout}
use Rattle.queries.specs.Tables.{query_measured}
use Rattle.queries.proofs.Prepared.{measured-prepared}
use Rattle.queries.specs.Parts.{query_at, Laid, Room}

module _ (y : Layout) (q : List ℕ) (laid : Laid y q) where
  abbrev u : Query
  u = query_of q

  is : IsQ q u []
  is = query-inverse q u [] laid.read

  pub first-room : y.first ≤ length q
  unfolding layout size_q
  first-room = omega (arith, ap (λ (x : Layout). x.first) laid.place, ap length is.bytes, size-query u)

  pub condition-room : y.condition ≤ length q
  unfolding layout size_q
  condition-room = omega (arith, ap (λ (x : Layout). x.condition) laid.place, ap length is.bytes, size-query u, size-targets u.targets [])

  -- with the table that was filled, the bytes stand for the query
  pub ready-is : (k : ℕ) (z x : List ℕ) → Room q z → levels_q u ≤ k → x ≡ (query_measured y.targets k q y.first z).table → query_at y k q x ≡ u
  unfolding layout
  ready-is k z x room deep ex =
      let p = measured-prepared k u is.well q is.bytes room.short z room.room deep in
      let e : length (encode_targets u.targets []) ≡ size_ts u.targets = omega (arith, size-targets u.targets []) in
      ap₂ (λ (s : Layout) (w : List ℕ). query_at s k q w) laid.place (ex ∙ ap (λ (s : Layout). (query_measured s.targets k q s.first z).table) laid.place)
      ∙ rw e (query-eq p.ranges p.targets p.condition)
    where
      query-eq : {a b : Query} → a.ranges ≡ b.ranges → a.targets ≡ b.targets → a.condition ≡ b.condition → a ≡ b
      query-eq {a} {b} e f g =
          ap (λ (x : List Binding). record { ranges = x; targets = a.targets; condition = a.condition }) e
          ∙ ap (λ (x : List Term). record { ranges = b.ranges; targets = x; condition = a.condition }) f
          ∙ ap (λ (x : Condition). record { ranges = b.ranges; targets = b.targets; condition = x }) g
