use Rattle.buckets.proofs.Laws.{heads-room, nexts-room, nexts-full}
use native.Mathlib.Omega.{arith}
use mathlib.Core.Path.{refl, sym, ap, subst, ◌∙◌}
use Prim.Native.Nat.{ℕ}
use Rattle.tokens.specs.Codes.{Spelt}
use Rattle.names.specs.Search.{name_of}
use lib.ListN.{drop, take}
use Prim.Native.Nat.{◌/◌, ◌%◌}
use Rattle.names.proofs.Once.{told_none, here-room, here-some, here-spelt, told-twice, told_fresh, told-past, past_is}
use Rattle.names.proofs.fresh.Goals as goal

pub known-requires : goal.known-requires
known-requires c = record {
  here = (c.requires.0, here-some c.args.list.now c.args.at c.args.code c.requires.1 c.requires.2);
  named = here-spelt c.args.list.now c.args.at c.args.code c.requires.1 c.requires.2;
  chained = c.requires.5;
}

pub like-sought-requires-clause-some : goal.like-sought-requires-clause-some
like-sought-requires-clause-some c = here-some c.args.list.now c.args.at c.args.code c.requires.1 c.requires.2

pub returns-then-known : goal.returns-then-known
returns-then-known c = let index = c.args.index.now in let list = c.args.list.now in
    λ xs f. told-twice list c.args.at (omega (arith, here-room list c.args.at c.args.code c.requires.1 c.requires.2)) xs (take 512 index) (drop 512 index) f (sym (c.known.ensures xs f) ∙ c.if-known.true)

pub returns-then-slot-index : goal.returns-then-slot-index
returns-then-slot-index c = let index = c.args.index.now in let list = c.args.list.now in let code = c.args.code in
    λ xs f. told_fresh list c.args.at (omega (arith, here-room list c.args.at code c.requires.1 c.requires.2)) xs (take 512 index) (drop 512 index) f c.bucket.result (c.bucket.ensures.value ∙ ap (λ (v : ℕ). v % 512) (here-spelt list c.args.at code c.requires.1 c.requires.2).code) c.bucket.ensures.upper_bound (heads-room index c.requires.3) (nexts-room index (c.args.at / 14) c.if-slot-index.true) (sym (c.known.ensures xs f) ∙ c.if-known.false) _ _ c.put.ensures.index_after c.put.ensures.index_after_2

pub returns : goal.returns
returns c = let index = c.args.index.now in let list = c.args.list.now in let code = c.args.code in
    λ xs f. told-past list c.args.at (omega (arith, here-room list c.args.at code c.requires.1 c.requires.2)) xs (take 512 index) (drop 512 index) f _ (told_none _ _ c.is_none.ensures ∙ past_is list c.args.at c.like-sought.result.kind c.like-sought.result.relation c.place.result c.find.result (name_of list c.args.at) c.like-sought.ensures.kind c.like-sought.ensures.relation c.place.ensures.value refl c.find.ensures.inside (c.find.ensures.value (name_of list c.args.at) (subst (Spelt (name_of list c.args.at)) (sym c.like-sought.ensures.code) (here-spelt list c.args.at code c.requires.1 c.requires.2)))) (nexts-full index (c.args.at / 14) c.if-slot-index.false) (sym (c.known.ensures xs f) ∙ c.if-known.false)
