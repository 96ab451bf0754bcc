use Rattle.std.proofs.Common.{◌≡◌, ℕ, ◌+◌, ◌≤◌, ◌<◌, Option, Some, None, arith}
use Rattle.std.specs.Option.{unwrap_or}
use Rattle.decide.specs.Linked as L
use Rattle.decide.proofs.chains.Steps.{found, found-has}
use Rattle.decide.proofs.chains.Chain.follow.Goals as goal

-- the row of a link, or the count of rows
row_is : (o : Option ℕ) (n i : ℕ) → i ≡ unwrap_or o n → L.link_of o ≤ n → (i ≤ n) × ((L.link_of o ≡ 0 → i ≡ n) × (0 < L.link_of o → i + 1 ≡ L.link_of o))
row_is None n i e h = (omega (arith, e), (λ z. e, λ k. absurd (omega (arith, k))))
row_is (Some j) n i e h = (omega (arith, e), (λ z. absurd (omega (arith, z)), λ k. omega (arith, e)))

pub returns : goal.returns
returns c =
    let s = c.args.self.now in
    let f = c.next_equal.ensures c.args.from c.start.ensures in
    let w = row_is c.next_equal.result s.rows.walk.count c.unwrap_or.result c.unwrap_or.ensures f.high in
    let u = found (L.value_in s) s.entry.value c.args.from _ _ _ _ c.start.ensures c.next_equal.ensures c.requires.0 w in
    record { lower_bound = u.0; by_index = u.1; value_value = found-has (L.value_in s) s.entry.value c.args.from _ _ _ f w }
