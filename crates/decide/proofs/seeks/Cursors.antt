-- Cursors that are made ready.
use mathlib.Core.Path.{◌≡◌, refl, sym, ◌∙◌}
use mathlib.Core.Bool.{Bool, true, false, cond}
use mathlib.Core.List.{List}
use Prim.Native.Nat.{ℕ, ◌≤◌}
use native.Mathlib.Omega.{arith}
use lib.Dec.{ltb}
use lib.IntN.{ℤ}
use Rattle.model.specs.Lists.{update}
use Rattle.model.specs.Meaning.{Tuple}
use Rattle.model.proofs.Tests.{clash, or_no}
use Rattle.branches.specs.Branches.{field, branch_holds}
use Rattle.branches.proofs.Running.{runs-1}
use Rattle.walks.specs.Assigned.{assigned}
use Rattle.decide.specs.Cursor.{passes, has, Prepared}
use Rattle.decide.specs.Keys.{equality, Enters, Follows}
use Rattle.decide.specs.declared.chains.Entry.{Entry}
use Rattle.decide.specs.declared.probes.Test.{Test}
use Rattle.decide.specs.declared.seeks.Stops.TheVariants.{Every, Tested, One, Two}
use Rattle.decide.proofs.seeks.Steps.{start-fails, onward-met, onward-low}

has-not : (b : Bool) → b ≡ false → b ≡ true → ⊥
has-not b h k = clash (sym h ∙ k)

module _ (t : List ℕ) (start v : ℕ) (ws : List ℕ) (vs m : List ℤ) (env chains : List ℕ) where
  -- every row
  pub every-row : Prepared (record { next = start; stops = Every }) t start v ws vs m env chains
  every-row = record { fails = λ q z us row h. clash (sym h); found = λ q z us row h. refl; ready = record { chained = tt }; low = omega arith }

  -- those that meet the first branch, which fails alone
  pub tested-rows : (x : Test) (n : ℕ) → 2 ≤ start → field t start 6 ≡ 1 → n ≡ cond (ltb (field t start 5) start) (field t start 5) 1
      → ((q z us : List ℕ) (row : Tuple) → branch_holds t q z us vs m start (update (assigned vs env) v row) ≡ passes x row) → Prepared (record { next = n; stops = Tested x }) t start v ws vs m env chains
  tested-rows x n l f e is =
      record {
        fails = λ q z us row h. start-fails t q z us vs m start 1 _ l (sym f) refl (is q z us row ∙ h);
        found = λ q z us row h. onward-met t q z us vs m start n _ l e (is q z us row ∙ h);
        ready = record { chained = tt };
        low = onward-low start (field t start 5) n l e;
      }

  -- those of a chain, which go on behind its equality, as far as it is the first branch
  pub one-chain : (x : Entry) (r p n a : ℕ) → r ≤ start → Enters x t start 1 v ws vs m env chains → Follows t start r v p n a
      → ((row : Tuple) → has x row ≡ true → equality t p n a m (assigned vs env) row ≡ true) → Prepared (record { next = r; stops = One x }) t start v ws vs m env chains
  one-chain x r p n a l e follows equals =
      record {
        fails = λ q z us row h. e.fails q z us row (has-not _ h) (runs-1 t q z us vs m _);
        found = λ q z us row h. follows q z us vs m (assigned vs env) row (equals row h);
        ready = record { chained = e.entered };
        low = l;
      }

  -- those of two chains
  pub two-chains : (x y : Entry) (o : ℕ) → Enters x t start o v ws vs m env chains → Enters y t o 1 v ws vs m env chains → Prepared (record { next = start; stops = Two x y }) t start v ws vs m env chains
  two-chains x y o e g =
      record {
        fails = λ q z us row h. let k = or_no (has x row) (has y row) h in e.fails q z us row (has-not _ k.0) (g.fails q z us row (has-not _ k.1) (runs-1 t q z us vs m _));
        found = λ q z us row h. refl;
        ready = record { chained = (e.entered, g.entered) };
        low = omega arith;
      }
