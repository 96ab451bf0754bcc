-- The targets and the condition after the RANGE records: a law for each way to return.
use mathlib.Core.Path.{◌≡◌, refl, sym, ap, ap₂, ◌∙◌, subst}
use mathlib.Core.Bool.{Bool, true, false, cond, ◌&&◌}
use mathlib.Core.List.{List, [], ◌∷◌}
use Prim.Native.Nat.{ℕ, ◌+◌, ◌*◌, ◌≤◌, ◌<◌}
use native.Mathlib.Omega.{arith}
use lib.ListN.{length, get_or, drop, length-drop}
use Rattle.model.specs.Syntax.{Term, Query, Targets, levels_q}
use Rattle.model.proofs.Lists.{nothing_left, first-at}
use Rattle.model.specs.Encoding.{encode, encode_targets, ok, read_query}
use Rattle.model.specs.Catalogue.{Shape}
use Rattle.model.specs.Scope.{Scope, in_scope}
use Rattle.model.proofs.ReadingQueries.{query-inverse}
use Rattle.model.proofs.Sizes.{size_q, size-query, size-encode}
use Rattle.sizes.specs.Measured.{onward, condition_table}
use Rattle.conditions.specs.declared.Reading.{Reading}
use Rattle.conditions.specs.Answers.{reading, condition_reading}
use Rattle.conditions.proofs.Found.{Found as FoundC, found, unread, the-condition}
use Rattle.queries.specs.Tables.{condition_measured, query_measured}
use Rattle.grammar.specs.Shapes.{layout}
use Rattle.grammar.proofs.Whole.{targets-place}
use Rattle.queries.specs.declared.Run.{Run}
use Rattle.queries.specs.Found.{run, Targeted, Standing, Leads, TargetsFound, RestFound, Rest}
use Rattle.queries.proofs.Targeting.{target-byte}
use Rattle.std.specs.Prelude.{Option, Some, None}

module _ (sh : Shape) (limit l : ℕ) (σ : Scope) (q : List ℕ) (r : ℕ) (z w : List ℕ) where
  -- no query with so many RANGE records, at most 8 targets and l levels is there
  abbrev Missing : Type 0
  Missing = Rest None sh limit l σ q r z w

  standing : (u : Query) → read_query q ≡ ok u [] → length u.ranges ≡ r → length u.targets ≤ 8 → levels_q u ≤ l → Standing l q (3 * r) 8 u.targets u.condition []
  unfolding layout levels_q
  standing u e er et el = record { bytes = ap (λ n. drop (3 * n) q) (sym er) ∙ targets-place q u e; well = (query-inverse q u [] e).well.targets; deep = omega (arith, el); few = et }

  pub rest-short : length q < 3 * r → Missing
  unfolding size_q
  rest-short h u e er et el = absurd (omega (arith, ap length (query-inverse q u [] e).bytes, size-query u, er))

  module _ (m : Option Run) (y : List ℕ) (lm : Leads m l q (3 * r) 8) (fm : TargetsFound m sh limit l σ q (3 * r) 8 z y) where
    pub rest-unrun : m ≡ None → Missing
    rest-unrun h u e er et el = subst (λ x. Leads x l q (3 * r) 8) h lm u.targets u.condition [] (standing u e er et el)

    module _ (n c : ℕ) (b : Bool) (em : m ≡ run n c b) where
      abbrev reached : Targeted sh limit l σ q (3 * r) 8 n c b z y
      reached = subst (λ x. TargetsFound x sh limit l σ q (3 * r) 8 z y) em fm

      pub run_inside : c ≤ length q
      run_inside = reached.inside

      -- the condition is where the targets end
      place : (u : Query) → read_query q ≡ ok u [] → length u.ranges ≡ r → length u.targets ≤ 8 → levels_q u ≤ l → drop c q ≡ encode u.condition []
      place u e er et el = subst (λ x. Leads x l q (3 * r) 8) em lm u.targets u.condition [] (standing u e er et el)

      no_target : (ts us : List Term) (s v : List ℕ) → 1 ≤ length us → Targets us → length ts ≡ 0 → drop (3 * r) q ≡ encode_targets ts (drop c q) → drop (3 * r) q ≡ encode_targets us s → ⊥
      unfolding encode_targets
      no_target ts [] s v h w e f g = omega arith
      no_target (t ∷ ts) (u ∷ us) s v h w e f g = omega arith
      no_target [] (u ∷ us) s v h w e f g =
          omega (arith, target-byte u us (encode_targets us s) w, ap (λ x. get_or x 0 0) g, ap (λ x. get_or x 0 0) f, first-at c q, reached.stops)

      pub rest-none : n ≡ 0 → Missing
      rest-none h u e er et el =
          let i = query-inverse q u [] e in
          no_target reached.targets u.targets (encode u.condition []) [] i.well.some-target i.well.targets (sym reached.counted ∙ h) reached.bytes (standing u e er et el).bytes

      module _ (t : Option Reading) (et : t ≡ condition_reading sh limit l σ (drop c q)) where
        pub rest-unread : t ≡ None → Missing
        unfolding levels_q
        rest-unread h u e er ft el = unread sh limit l σ q c t et h u.condition [] (place u e er ft el) (query-inverse q u [] e).well.condition (omega (arith, el))

        module _ (k : ℕ) (d : Bool) (ek : t ≡ reading k d) where
          abbrev last : FoundC sh limit l σ q c k d
          last = found sh limit l σ q c t et k d ek

          last-ends : c + k + length last.rest ≡ length q
          last-ends = omega (arith, ap length last.bytes, size-encode last.condition last.rest, last.sized, length-drop c q, reached.inside)

          pub rest-longer : (c + k ≡ length q → ⊥) → Missing
          unfolding levels_q
          rest-longer h u e er ft el =
              let i = the-condition last u.condition [] (place u e er ft el) (query-inverse q u [] e).well.condition (omega (arith, el)) in
              absurd (h (omega (arith, last-ends, ap length i.1)))

          pub rest-whole : 3 * r ≤ length q → (n ≡ 0 → ⊥) → c + k ≡ length q → w ≡ condition_table l q c y → RestFound sh limit l σ q r (record { ranges = r; targets = n; first = 3 * r; condition = c }) (b && d) z w
          unfolding query_measured
          rest-whole hr hn hk ew = record {
            between = y;
            condition = last.condition;
            first-in = b;
            ranges = refl;
            first = refl;
            room = hr;
            some-target = omega (arith, hn);
            targeted = reached;
            bytes = last.bytes ∙ ap (encode last.condition) (nothing_left last.rest (omega (arith, last-ends, hk)));
            well = last.well;
            deep = last.deep;
            scope = scoped b;
            table = ew ∙ sym (ap₂ (λ (x : Option ℕ) (v : List ℕ). (onward x v (λ j g. condition_measured l q j g)).table) reached.measured (sym reached.table));
          }
            where
              scoped : (b : Bool) → (b && d) ≡ cond b (in_scope sh limit last.condition σ) false
              scoped true = sym last.scope
              scoped false = refl
