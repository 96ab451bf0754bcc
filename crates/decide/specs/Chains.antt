-- The rows of a walk by the bucket of the value of one attribute, in a table of numbers from a place `at` on: 1,024 heads, then for each row the next of
-- its bucket. A link is 0, or one more than the number of a row in the walk, so it tells how far a walk would have gone.
use Rattle.std.specs.Prelude.{ℕ, zero, suc, ◌+◌, ◌-◌, ◌/◌, ◌%◌, ◌≤◌, ◌<◌, ◌≡◌, Bool, true, ◌&&◌, List, ℤ, nat_abs, get_or}
use Rattle.std.specs.Int.Signed.{le_z}
use Rattle.rows.specs.Chains.{mixed}
use Rattle.catalogue.specs.Layout.{tuple_at}
use Rattle.walks.specs.declared.Walk.{Walk}
use Rattle.walks.specs.Walks.{place_at}
use Rattle.decide.specs.declared.chains.Entry.{Entry}

abbrev pub same : ℤ → ℤ → Bool
same x y = le_z x y && le_z y x

-- the value of attribute a in row j of a walk
abbrev pub key_at : List ℤ → List ℕ → Walk → ℕ → ℕ → ℤ
key_at vs ws x a j = tuple_at vs (place_at ws x j) a

-- the bucket of a value: any function would do
unfoldable pub bucket_of : ℤ → ℕ
bucket_of z = mixed 0 z / 1024 % 1024

abbrev pub bucket_at : List ℤ → List ℕ → Walk → ℕ → ℕ → ℕ
bucket_at vs ws x a j = bucket_of (key_at vs ws x a j)

-- the link is to the first row from `from` on and below n for which P holds, and 0 where there is none
pub record First (P : ℕ → Type 0) (from n link : ℕ) : Type 0 where
  pub none : link ≡ 0 → (j : ℕ) → from ≤ j → j < n → P j → ⊥
  pub least : (j : ℕ) → from ≤ j → j + 1 < link → P j → ⊥
  pub here : (j : ℕ) → link ≡ j + 1 → P j
  pub low : 0 < link → from < link
  pub high : link ≤ n

-- a walk along a chain that has passed no row with the value x from `from` on: k has the values of the rows
pub record Passing (k : ℕ → ℤ) (x : ℤ) (from n link : ℕ) : Type 0 where
  pub none : link ≡ 0 → (j : ℕ) → from ≤ j → j < n → same (k j) x ≡ true → ⊥
  pub least : (j : ℕ) → from ≤ j → j + 1 < link → same (k j) x ≡ true → ⊥
  pub bucket : (j : ℕ) → link ≡ j + 1 → bucket_of (k j) ≡ bucket_of x
  pub high : link ≤ n

-- after each row the next of its bucket
abbrev pub Nexts : (ℕ → ℕ) → ℕ → ℕ → List ℕ → Type 0
Nexts b n nexts table = (i : ℕ) → i < n → First (λ (j : ℕ). b j ≡ b i) (i + 1) n (get_or table (nexts + i) 0)

-- for each bucket its first row, too
pub record Built (b : ℕ → ℕ) (n at : ℕ) (table : List ℕ) : Type 0 where
  pub first : (h : ℕ) → h < 1024 → First (λ (j : ℕ). b j ≡ h) 0 n (get_or table (at + h) 0)
  pub next : Nexts b n (at + 1024) table

-- where rows with a value stand in a chain
pub record Entered (x : Entry) (vs : List ℤ) (ws : List ℕ) (walk : Walk) (table : List ℕ) : Type 0 where
  pub place : x.at ≤ 65539
  pub small : nat_abs x.value ≤ 140735340871680
  pub built : Built (bucket_at vs ws walk x.attribute) walk.count x.at table

-- nothing but the numbers from a on and below e has changed
abbrev pub Outside : ℕ → ℕ → List ℕ → List ℕ → Type 0
Outside a e t t' = (i : ℕ) → (a ≤ i → i < e → ⊥) → get_or t' i 0 ≡ get_or t i 0

-- how many rows a link may still lead through
unfoldable pub left : ℕ → ℕ → ℕ
left n zero = 0
left n (suc i) = n - i
