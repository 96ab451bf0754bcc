-- What the reading of a permit, and of a list, says: where it found one, and where it found none.
use Rattle.std.specs.Prelude.{ℕ, ◌+◌, ◌≤◌, Bool, true, List, ◌≡◌, length, drop, Option, Some, None}
use Rattle.model.specs.Lists.{all}
use Rattle.model.specs.Syntax.{Permit, WellFormed, WellFormedPs}
use Rattle.model.specs.Encoding.{encode_permit, encode_permits}
use Rattle.model.specs.Catalogue.{Shape}
use Rattle.model.specs.Checks.{permit_fits, permit_known, permit_stored}
use Rattle.permits.specs.declared.Grant.{Grant}
use Rattle.permits.specs.declared.Listing.{Listing}

-- the permit of n bytes at p passes 20 and 21; b: it passes 22, d: it passes 23
pub record PermitRead (sh : Shape) (list : List ℕ) (p n : ℕ) (b d : Bool) : Type 0 where
  pub permit : Permit
  pub bytes : drop p list ≡ encode_permit permit (drop (p + n) list)
  pub inside : p + n ≤ length list
  pub well : WellFormed permit.condition
  pub fits : permit_fits permit ≡ true
  pub known : permit_known sh permit ≡ b
  pub stored : permit_stored sh permit ≡ d

-- n bytes, with the two answers
abbrev pub grant : ℕ → Bool → Bool → Option Grant
grant n b d = Some (record { length = n; known = b; stored = d })

-- or none that passes 21 stands there
abbrev pub Granted : Option Grant → Shape → List ℕ → ℕ → Type 0
Granted (Some g) sh list p = PermitRead sh list p g.length g.known g.stored
Granted None sh list p = (g : Permit) (r : List ℕ) → drop p list ≡ encode_permit g r → WellFormed g.condition → permit_fits g ≡ true → ⊥

-- the permits from p on, at most k
pub record ListRead (sh : Shape) (list : List ℕ) (p k : ℕ) (b d : Bool) : Type 0 where
  pub permits : List Permit
  pub bytes : drop p list ≡ encode_permits permits
  pub well : WellFormedPs permits
  pub count : length permits ≤ k
  pub fits : all permit_fits permits ≡ true
  pub known : all (permit_known sh) permits ≡ b
  pub stored : all (permit_stored sh) permits ≡ d

abbrev pub listing : Bool → Bool → Option Listing
listing b d = Some (record { known = b; stored = d })

-- or none that keeps to the limits stands there
abbrev pub Listed : Option Listing → Shape → List ℕ → ℕ → ℕ → Type 0
Listed (Some l) sh list p k = ListRead sh list p k l.known l.stored
Listed None sh list p k = (ps : List Permit) → drop p list ≡ encode_permits ps → WellFormedPs ps → length ps ≤ k → all permit_fits ps ≡ true → ⊥
