-- What C is told of a reply is the reply.
use mathlib.Core.List.{List}
use mathlib.Core.Path.{◌≡◌, refl}
use Prim.Native.Nat.{ℕ}
use lib.IntN.{ℤ}
use Rattle.std.specs.Prelude.{Result, Ok, Err}
use Rattle.model.specs.declared.refusal.Refusal.{Refusal}
use Rattle.plain.specs.Reply as P
use Rattle.plain.specs.declared.Reply as PR
use Rattle.guarded.specs.Outcome as G
use Rattle.guarded.specs.declared.Reply as GR
use Rattle.reader.specs.Readings as R
use Rattle.waldumre.specs.Outcome.{answer_of, outcome_of, reading_of, answered_as, asked_as, read_as}

pub answered-told : (r : Result PR.Reply Refusal) (cells : List ℤ) → answer_of (answered_as r) cells ≡ P.result_of r cells
answered-told (Ok r) cells = refl
answered-told (Err e) cells = refl

pub answered-length : (r : Result PR.Reply Refusal) → (answered_as r).length ≡ 0
answered-length (Ok r) = refl
answered-length (Err e) = refl

pub asked-told : (r : Result GR.Reply Refusal) (cells : List ℤ) (bytes : List ℕ) → outcome_of (asked_as r) cells bytes ≡ G.result_of r cells bytes
asked-told (Ok r) cells bytes = refl
asked-told (Err e) cells bytes = refl

pub read-told : (r : Result ℕ Refusal) (records : List ℕ) → reading_of (read_as r) records ≡ R.reading_of r records
read-told (Ok n) records = refl
read-told (Err e) records = refl
