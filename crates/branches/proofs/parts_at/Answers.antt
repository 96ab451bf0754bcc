use Rattle.std.proofs.Common.{◌≡◌, refl, Bool, false, not, inl, inr}
use denote.Enum.Bare.{sameb}
use Rattle.branches.specs.declared.Connective.{Connective}
use Rattle.branches.specs.declared.Connective.TheVariants as K
use Rattle.branches.specs.contracts.Connective.{the_type}
use Rattle.branches.proofs.Joining.{parted}
use Rattle.branches.proofs.parts_at.Goals as goal

is-not : (k : Connective) (b : Bool) → b ≡ not (sameb the_type k K.Not) → b ≡ false → k ≡ K.Not
is-not K.Not b e h = refl
is-not K.And b e h = cc
is-not K.Or b e h = cc

pub returns : goal.returns
returns c = parted _ c.args.room c.args.level c.args.place c.args.q.now c.args.z.now _ c.in_ok-kind.kind c.byte.result c.record_length.result c.size_at.result c.if-level-eq0.false c.tail-here.ensures c.in_ok-kind.ensures c.byte.ensures c.record_length.ensures.value c.size_at.ensures.value c.if-second-gt65535.false refl
    (λ g. elim c.else-ne.either [ inl w ↦ w.1 | inr w ↦ absurd (g (is-not c.in_ok-kind.kind c.ne.result c.ne.ensures w)) ])
