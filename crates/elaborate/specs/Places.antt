-- A text's tokens from a place on, and what the code asks of one place.
use Rattle.std.specs.Prelude.{ℕ, ◌+◌, ◌-◌, Bool, true, cond, ◌&&◌, List, [], eqb, leb, ltb, length, get_or, drop}
use Rattle.quel.specs.Results.{Word}
use Rattle.quel.specs.Tokens.{Token, is_letter, run}
use Rattle.tokens.specs.Table.{Table, tokens_at}
use Rattle.flat.specs.Flat.{outside, enter, deeper, shallower, binding, opened, closed}

abbrev pub table : List ℕ → List ℕ → List ℕ → Table
table ks ss ns = record { kinds = ks; starts = ss; numbers = ns }

unfoldable pub tokens_from : List ℕ → Table → ℕ → List Token
tokens_from text t i = tokens_at text t i (length t.kinds - i)

-- the name at a place, no letters where there is none
unfoldable pub name_in : List ℕ → List ℕ → List ℕ → ℕ → Word
name_in text ks ss i = cond (ltb i (length ks) && eqb (get_or ks i 0) 0) (run is_letter (drop (get_or ss i 0) text)) []

unfoldable pub point_in : List ℕ → ℕ → Bool
point_in ks i = ltb i (length ks) && leb 25 (get_or ks i 0)

-- the depth in aggregates after a token of kind k
unfoldable pub depth_kind : ℕ → ℕ → ℕ
depth_kind k d = cond (leb 2 k && leb k 6) (enter d) (cond (eqb k 20) (deeper d) (cond (eqb k 21) (shallower d) d))

-- where symbols may be bound, after a token of kind k
unfoldable pub part_kind : ℕ → ℕ → ℕ
part_kind k p = cond (eqb k 14) 2 (cond (eqb k 20) (opened p) (cond (eqb k 21) (closed p) p))

-- whether the token at i, at depth d, is the X of an X.A outside all aggregates
unfoldable pub use_in : List ℕ → ℕ → ℕ → Bool
use_in ks d i = eqb (get_or ks i 0) 0 && (outside d && point_in ks (i + 1))

-- the place of the name that the token at i binds: after SOME, or its own
unfoldable pub bound_place : List ℕ → ℕ → ℕ
bound_place ks i = cond (eqb (get_or ks i 0) 16) (i + 1) i

-- whether a token of kind k binds a name
unfoldable pub binds_kind : ℕ → ℕ → Bool
binds_kind k p = cond (eqb k 16) true (eqb k 0 && binding p)
