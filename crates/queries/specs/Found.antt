-- What the reading of a query says: where it found one, and where it found none.
use Rattle.std.specs.Prelude.{ℕ, zero, suc, ◌*◌, ◌≤◌, ◌<◌, Bool, true, false, not, cond, List, [], ◌∷◌, ◌≡◌, length, get_or, drop, Option, Some, None}
use Rattle.model.specs.Lists.{all}
use Rattle.model.specs.Syntax.{Binding, Condition, Term, Query, Targets, WellFormed, levels, levels_ts, levels_q}
use Rattle.model.specs.Encoding.{encode, encode_targets, ok, read_query, query_of}
use Rattle.model.specs.Catalogue.{Shape}
use Rattle.model.specs.Scope.{Scope, in_scope, in_scope_t}
use Rattle.model.specs.Checks.{fails30, fails31, fails32}
use Rattle.kinds.specs.Tables.{record_length}
use Rattle.kinds.specs.Places.{head_at}
use Rattle.kinds.specs.declared.HeadRecord.{HeadRecord}
use Rattle.kinds.specs.declared.HeadRecord.TheVariants as H
use Rattle.queries.specs.Tables.{targets_measured, query_measured}
use Rattle.grammar.specs.declared.Layout.{Layout}
use Rattle.queries.specs.declared.Limits.{Limits}
use Rattle.queries.specs.declared.Run.{Run}
use Rattle.queries.specs.declared.Found.{Found}
use Rattle.queries.specs.Parts.{query_at, limits_of, Laid}

-- a RANGE and those after it, none where another record stands
abbrev pub range_then : HeadRecord → List Binding → List Binding
range_then (H.Range v r) bs = record { variable = v; relation = r } ∷ bs
range_then H.Other bs = []

-- the RANGE records that bytes start with, at most k
unfoldable pub head_ranges : ℕ → List ℕ → List Binding
head_ranges zero q = []
head_ranges (suc k) q = range_then (head_at q) (head_ranges k (drop (record_length 1) q))

module _ (sh : Shape) (limit l : ℕ) (σ : Scope) (q : List ℕ) where
  -- n targets from p on, at most k, up to e, in scope where b says so; the table z before and w afterwards
  pub record Targeted (p k n e : ℕ) (b : Bool) (z w : List ℕ) : Type 0 where
    pub targets : List Term
    pub bytes : drop p q ≡ encode_targets targets (drop e q)
    pub well : Targets targets
    pub deep : levels_ts targets ≤ l
    pub scope : all (λ t. in_scope_t sh limit t σ) targets ≡ b
    pub counted : n ≡ length targets
    pub few : n ≤ k
    pub inside : e ≤ length q
    pub stops : get_or q e 0 < 33
    pub measured : (targets_measured n l q p z).size ≡ Some e
    pub table : w ≡ (targets_measured n l q p z).table

-- targets and a condition that stand at p, within the limits
pub record Standing (l : ℕ) (q : List ℕ) (p k : ℕ) (ts : List Term) (c : Condition) (s : List ℕ) : Type 0 where
  pub bytes : drop p q ≡ encode_targets ts (encode c s)
  pub well : Targets ts
  pub deep : levels_ts ts ≤ l
  pub few : length ts ≤ k

-- n targets up to e, in scope where b says so
abbrev pub run : ℕ → ℕ → Bool → Option Run
run n e b = Some (record { count = n; end = e; inside = b })

-- where targets and a condition stand at p, the targets are read, and the condition is where they end
abbrev pub Leads : Option Run → ℕ → List ℕ → ℕ → ℕ → Type 0
Leads (Some r) l q p k = (ts : List Term) (c : Condition) (s : List ℕ) → Standing l q p k ts c s → drop r.end q ≡ encode c s
Leads None l q p k = (ts : List Term) (c : Condition) (s : List ℕ) → Standing l q p k ts c s → ⊥

abbrev pub TargetsFound : Option Run → Shape → ℕ → ℕ → Scope → List ℕ → ℕ → ℕ → List ℕ → List ℕ → Type 0
TargetsFound (Some r) sh limit l σ q p k z w = Targeted sh limit l σ q p k r.count r.end r.inside z w
TargetsFound None sh limit l σ q p k z w = Unit

-- the targets and the condition after r RANGE records, to the last byte
pub record RestFound (sh : Shape) (limit l : ℕ) (σ : Scope) (q : List ℕ) (r : ℕ) (y : Layout) (b : Bool) (z w : List ℕ) : Type 0 where
  pub between : List ℕ
  pub condition : Condition
  pub first-in : Bool
  pub ranges : y.ranges ≡ r
  pub first : y.first ≡ 3 * r
  pub room : 3 * r ≤ length q
  pub some-target : 1 ≤ y.targets
  pub targeted : Targeted sh limit l σ q (3 * r) 8 y.targets y.condition first-in z between
  pub bytes : drop y.condition q ≡ encode condition []
  pub well : WellFormed condition
  pub deep : levels condition ≤ l
  pub scope : b ≡ cond first-in (in_scope sh limit condition σ) false
  pub table : w ≡ (query_measured y.targets l q (3 * r) z).table

-- a query with its layout, in scope where b says so
abbrev pub whole : Layout → Bool → Option Found
whole y b = Some (record { layout = y; inside = b })

-- or there is no query with so many RANGE records that keeps to the limits
abbrev pub Rest : Option Found → Shape → ℕ → ℕ → Scope → List ℕ → ℕ → List ℕ → List ℕ → Type 0
Rest (Some f) sh limit l σ q r z w = RestFound sh limit l σ q r f.layout f.inside z w
Rest None sh limit l σ q r z w = (u : Query) → read_query q ≡ ok u [] → length u.ranges ≡ r → length u.targets ≤ 8 → levels_q u ≤ l → ⊥

-- a query that passes 30 and 31, its layout and its table; b: it passes 32 too
pub record Read (y : Layout) (b : Bool) (l : Limits) (sh : Shape) (q w : List ℕ) : Type 0 where
  pub passes-30 : fails30 (limits_of l) q ≡ false
  pub passes-31 : fails31 (limits_of l) (query_of q) ≡ false
  pub number-32 : b ≡ not (fails32 (limits_of l) sh (query_of q))
  pub laid : Laid y q
  pub ready : query_at y l.levels q w ≡ query_of q

abbrev pub Told : Option Found → Limits → Shape → List ℕ → List ℕ → Type 0
Told (Some f) l sh q w = Read f.layout f.inside l sh q w
Told None l sh q w = fails30 (limits_of l) q ≡ false → fails31 (limits_of l) (query_of q) ≡ true
