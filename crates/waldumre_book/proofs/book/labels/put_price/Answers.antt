use mathlib.Core.Path.{◌≡◌, ap, ◌∙◌}
use mathlib.Core.List.{[], ◌∷◌}
use Prim.Native.Nat.{ℕ, ◌/◌}
use lib.Seq.{sets}
use Rattle.model.specs.Book.{digit, lead, display_of}
use Rattle.waldumre_book.proofs.book.labels.put_price.Goals as goal

module _ (cents : ℕ) {a b c d e f : ℕ} where
  price-bytes : a ≡ lead (cents / 100 / 1000) → b ≡ lead (cents / 100 / 100) → c ≡ lead (cents / 100 / 10) → d ≡ digit (cents / 100) → e ≡ digit (cents / 10) → f ≡ digit cents
      → a ∷ b ∷ c ∷ d ∷ 46 ∷ e ∷ f ∷ [] ≡ display_of cents
  unfolding display_of
  price-bytes a b c d e f = rw (a, b, c, d, e, f)

pub returns : goal.returns
returns c = c.copy.ensures.out_after ∙ ap (sets c.args.display.now c.args.at) (price-bytes c.args.cents c.lead.ensures c.lead-2.ensures c.lead-3.ensures c.digit.ensures c.digit-2.ensures c.digit-3.ensures)
