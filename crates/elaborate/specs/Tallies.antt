-- What a token of the RANGE list leaves: its symbols so far, and a buffer and a place at which the rest is still to be written.
use Rattle.std.specs.Prelude.{ℕ, ◌+◌, ◌*◌, ◌≤◌, ◌<◌, not, cond, List, [], ◌++◌, map, ◌≡◌, eqb, length, get_or, Some, None}
use Rattle.std.specs.Prelude as P
use Rattle.std.proofs.Math.Option.{Option, none, some}
use Rattle.model.specs.Encoding.{encode_ranges}
use Rattle.quel.specs.Results.{Read, fail, then, Word}
use Rattle.quel.specs.Names.{Entry}
use Rattle.quel.specs.Elaboration.{Symbol, ranges_of}
use Rattle.quel.specs.Writing.{Written, before}
use Rattle.tokens.specs.Table.{Table}
use Rattle.flat.specs.Flat.{uses, bound}
use Rattle.elaborate.specs.Places.{table, tokens_from, name_in}
use Rattle.elaborate.specs.Numbers.{Used}
use Rattle.elaborate.specs.Reach.{used_in, Bound, range_symbol}
use Rattle.elaborate.specs.Tables.{Same, Named, Holds}
use Rattle.elaborate.specs.After.{ended}
use Rattle.elaborate.specs.declared.binds.Tally.{Tally}

-- the records of symbols that are still to come, after those at hand; F is what follows the RANGE list
abbrev pub listing : List Entry → List Symbol → (List Symbol → ℕ → Written) → Read ℕ (List Symbol) → Written
listing es done F g = then g λ zs m. before (λ bs. encode_ranges (ranges_of es zs) bs) (F (done ++ zs) m)

-- an optional number of the code
abbrev pub stated : P.Option ℕ → Option ℕ
stated None = none
stated (Some r) = some r

abbrev pub open_relation : Tally → Option ℕ
open_relation s = stated s.relation

module _ (text : List ℕ) (t : Table) (es : List Entry) (main : ℕ) where
  abbrev pub symbols_in : List Bound → List Symbol
  symbols_in cs = map (range_symbol (name_in text t.kinds t.starts)) cs

  abbrev pub bound_from : Option ℕ → ℕ → ℕ → Read ℕ (List Symbol)
  bound_from o n i = bound es (uses 0 (tokens_from text t main)) o n (tokens_from text t i)

  abbrev pub to_do : (List Symbol → ℕ → Written) → ℕ → Tally → List Bound → Written
  to_do F i s cs = listing es (symbols_in cs) F (bound_from (open_relation s) s.n i)

  abbrev pub after_token : (List Symbol → ℕ → Written) → ℕ → P.Option Tally → List Bound → List ℕ → Written
  after_token F i None cs out = fail
  after_token F i (Some s) cs out = ended out s.at (to_do F i s cs)

  pub record Binds (i : ℕ) (s : Tally) (cs : List Bound) (out : List ℕ) (r : P.Option Tally) (ds : List Bound) (to : List ℕ) : Type 0 where
    pub ends : (F : List Symbol → ℕ → Written) → ended out s.at (to_do F i s cs) ≡ after_token F (i + 1) r ds to

  -- the whole RANGE list
  abbrev pub after_all : (List Symbol → ℕ → Written) → P.Option Tally → List Bound → List ℕ → Written
  after_all F None cs out = fail
  after_all F (Some s) cs out = ended out s.at (F (symbols_in cs) s.n)

  pub record Whole (out : List ℕ) (r : P.Option Tally) (ds : List Bound) (to : List ℕ) : Type 0 where
    pub ends : (F : List Symbol → ℕ → Written) → ended out 0 (listing es [] F (bound_from none 0 0)) ≡ after_all F r ds to

abbrev pub Counts : Tally → P.Option Tally → Type 0
Counts s None = Unit
Counts s (Some r) = (r.n ≤ s.n + 1) × (r.at ≤ s.at + 3)

-- what names stand for, by the symbols at hand
abbrev pub Stands : (ℕ → Word) → List ℕ → P.Option Tally → List Bound → List ℕ → Type 0
Stands w ids None cs known = Unit
Stands w ids (Some s) cs known = Holds w ids known 0 0 (map (range_symbol w) cs)

-- of k tokens
abbrev pub Most : ℕ → P.Option Tally → Type 0
Most k None = Unit
Most k (Some r) = (r.n ≤ k) × (r.at ≤ 3 * k)

-- what was marked before the first symbol was entered can still be told
abbrev pub Tells : List ℕ → List ℕ → Type 0
Tells marks known = (x : ℕ) → used_in (get_or known x 0) ≡ not (eqb (get_or marks x 0) 0)

-- a name at i, with the symbols cs before it: there are symbols after it, and what is left is still to be done with these
pub record Adds (ids marks codes : List ℕ) (es : List Entry) (i : ℕ) (s : Tally) (cs : List Bound) (known out : List ℕ) (r : P.Option Tally) (after to : List ℕ) : Type 0 where
  pub symbols : List Bound
  pub binds : (text ks ss ns : List ℕ) (main : ℕ) → i < length ks → get_or ks i 0 ≡ 0 → Named (name_in text ks ss) ids codes → Used text (table ks ss ns) ids main marks
      → Tells marks known → Binds text (table ks ss ns) es main i s cs out r symbols to
  pub stands : (w : ℕ → Word) → Same w ids → Holds w ids known 0 0 (map (range_symbol w) cs) → Stands w ids r symbols after
  pub tells : Tells marks known → Tells marks after

-- the whole RANGE list
pub record Fills (ks ids marks codes : List ℕ) (es : List Entry) (out : List ℕ) (r : P.Option Tally) (known to : List ℕ) : Type 0 where
  pub symbols : List Bound
  pub whole : (text ss ns : List ℕ) (main : ℕ) → Named (name_in text ks ss) ids codes → Used text (table ks ss ns) ids main marks → Whole text (table ks ss ns) es main out r symbols to
  pub stands : (w : ℕ → Word) → Same w ids → Stands w ids r symbols known
