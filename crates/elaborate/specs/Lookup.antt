-- One lent table by which names are looked up: the chains of the name list, and behind them the number of each token's name.
use Rattle.std.specs.Prelude.{ℕ, ◌≤◌, ◌<◌, cond, List, leb, length, get_or, take, drop}
use Rattle.names.specs.Search.{Indexed}
use Rattle.elaborate.specs.declared.lookups.Lookup.{Lookup}

-- what the chains take of so many places: there is a small table and a large one
unfoldable pub room_of : ℕ → ℕ
room_of n = cond (leb n 1023) 768 4608

unfoldable pub chains_in : List ℕ → List ℕ
chains_in t = take (room_of (length t)) t

unfoldable pub ids_in : List ℕ → List ℕ
ids_in t = drop (room_of (length t)) t

-- the numbers of the tokens' names
abbrev pub ids_of : Lookup → List ℕ
ids_of l = ids_in l.table.now

-- the chains are those of the name list
abbrev pub Listed : Lookup → Type 0
Listed l = Indexed l.list.now (chains_in l.table.now)

-- every name's number is at most n, or below it
abbrev pub NamesWithin : Lookup → ℕ → Type 0
NamesWithin l n = (x : ℕ) → get_or (ids_of l) x 0 ≤ n

abbrev pub NamesBelow : Lookup → ℕ → Type 0
NamesBelow l n = (x : ℕ) → get_or (ids_of l) x 0 < n
