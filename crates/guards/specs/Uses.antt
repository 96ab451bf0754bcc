-- What the code finds in one record of the uses of variables.
use Rattle.std.specs.Prelude.{List, [], ◌∷◌, Option, None, Some}
use Rattle.model.specs.Syntax.{Use}
use Rattle.guards.specs.declared.uses.Used.{Used}

abbrev pub used_by : Option Used → List Use
used_by None = []
used_by (Some u) = record { variable = u.variable; attribute = u.attribute } ∷ []
