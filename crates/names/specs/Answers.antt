-- What is answered: the list is good, or what a name says.
use Rattle.std.specs.Prelude.{ℕ, Bool, true, false, List, Some, None}
use Rattle.std.specs.Prelude as P
use Rattle.std.proofs.Math.Option.{Option, none, some}
use Rattle.quel.specs.Results.{Read, fail, ok, Word}
use Rattle.quel.specs.Names.{Bytes, Entry, relation_named, attribute_named, value_named}
use Rattle.names.specs.declared.Sort.{Sort}
use Rattle.names.specs.declared.Sort.TheVariants as S

abbrev pub failed : {S A : Type 0} → Read S A → Bool
failed fail = true
failed (ok a r) = false

-- four bytes, or none
abbrev pub Found : Type 0
Found = P.Option (ℕ × ℕ × ℕ × ℕ)

abbrev pub found : Option ℕ → Found
found none = None
found (some n) = Some (n, 0, 0, 0)

abbrev pub valued : Option Bytes → Found
valued none = None
valued (some b) = Some (b.b0, b.b1, b.b2, b.b3)

-- what a name says
abbrev pub said : List Entry → Word → Sort → Found
said es w S.Relation = found (relation_named es w)
said es w (S.Attribute r) = found (attribute_named es r w)
said es w S.Value = valued (value_named es w)
