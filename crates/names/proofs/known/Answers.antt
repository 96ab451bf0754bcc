use lib.Seq.{get_or-take, get_or-drop}
use native.Mathlib.Omega.{arith}
use mathlib.Core.Path.{sym, ap, ap₂, subst, ◌∙◌}
use Prim.Native.Nat.{ℕ, ◌-◌, ◌<◌}
use Rattle.tokens.specs.Codes.{Spelt}
use Rattle.names.specs.Search.{is_named, like, name_of}
use lib.ListN.{drop, take}
use Prim.Native.Nat.{◌/◌, ◌%◌}
use Rattle.buckets.specs.Chains.{bucket_of}
use Rattle.buckets.proofs.Laws.{walk_start, walk_none, walk-low, walk_here, walk-on, held_low}
use Rattle.names.proofs.Once.{like-bucket}
use Rattle.names.proofs.known.Goals as goal

pub loop-link-init : goal.loop-link-init
loop-link-init c = let index = c.args.index.now in let list = c.args.list.now in
    λ xs f. walk_start (λ (i : ℕ). i / 14) (drop 512 index) (λ (i : ℕ). like list c.args.at (drop i list)) (λ (i : ℕ). i < c.args.at) xs (λ (i : ℕ). bucket_of (name_of list i)) c.args.at (take 512 index) c.bucket.result _ c.bucket.ensures.upper_bound (c.size_at-link.ensures.value ∙ sym (get_or-take 512 index c.bucket.result 0 c.bucket.ensures.upper_bound)) (λ i e. like-bucket list c.args.at i e ∙ sym (c.bucket.ensures.value ∙ ap (λ (v : ℕ). v % 512) c.requires.named.code)) f (held_low _ (λ (i : ℕ). i / 14) c.args.at (take 512 index) (drop 512 index) xs f)

pub is_at-requires : goal.is_at-requires
is_at-requires c = let list = c.args.list.now in
    omega (arith, (walk-low (λ (i : ℕ). i / 14) (drop 512 c.args.index.now) (λ (i : ℕ). like list c.args.at (drop i list)) (λ (i : ℕ). i < c.args.at) c.requires.chained.places c.loop-link.link (c.loop-link.link - 1) (omega (arith, c.loop-link-test.true)) (c.loop-link.invariant c.requires.chained.places c.requires.chained.held)).0, c.requires.here.0)

pub returns-then-is_at : goal.returns-then-is_at
returns-then-is_at c = let list = c.args.list.now in
    λ xs f. sym (walk_here (λ (i : ℕ). i / 14) (drop 512 c.args.index.now) (λ (i : ℕ). like list c.args.at (drop i list)) (λ (i : ℕ). i < c.args.at) xs c.loop-link.link (c.loop-link.link - 1) (omega (arith, c.loop-link-test.true)) (c.loop-link.invariant xs f) ((sym (c.is_at.ensures.value (name_of list c.args.at) (subst (Spelt (name_of list c.args.at)) (sym c.like-sought.ensures.code) c.requires.named) ∙ ap₂ (λ (a b : ℕ). is_named a b (name_of list c.args.at) (drop (c.loop-link.link - 1) list)) c.like-sought.ensures.kind c.like-sought.ensures.relation)) ∙ c.if-is_at.true))

pub loop-link-smaller : goal.loop-link-smaller
loop-link-smaller c = let index = c.args.index.now in let list = c.args.list.now in
    omega (arith, (walk-low (λ (i : ℕ). i / 14) (drop 512 index) (λ (i : ℕ). like list c.args.at (drop i list)) (λ (i : ℕ). i < c.args.at) c.requires.chained.places c.loop-link.link (c.loop-link.link - 1) (omega (arith, c.loop-link-test.true)) (c.loop-link.invariant c.requires.chained.places c.requires.chained.held)).1, (c.size_at-link-in-loop-link.ensures.value ∙ sym (get_or-drop 512 index ((c.loop-link.link - 1) / 14) 0)), c.loop-link-test.true)

pub loop-link-preserved : goal.loop-link-preserved
loop-link-preserved c = let index = c.args.index.now in let list = c.args.list.now in
    λ xs f. walk-on (λ (i : ℕ). i / 14) (drop 512 index) (λ (i : ℕ). like list c.args.at (drop i list)) (λ (i : ℕ). i < c.args.at) xs c.loop-link.link (c.loop-link.link - 1) (omega (arith, c.loop-link-test.true)) (c.loop-link.invariant xs f) _ ((sym (c.is_at.ensures.value (name_of list c.args.at) (subst (Spelt (name_of list c.args.at)) (sym c.like-sought.ensures.code) c.requires.named) ∙ ap₂ (λ (a b : ℕ). is_named a b (name_of list c.args.at) (drop (c.loop-link.link - 1) list)) c.like-sought.ensures.kind c.like-sought.ensures.relation)) ∙ c.if-is_at.false) ((c.size_at-link-in-loop-link.ensures.value ∙ sym (get_or-drop 512 index ((c.loop-link.link - 1) / 14) 0)))

pub returns : goal.returns
returns c = let list = c.args.list.now in
    λ xs f. sym (walk_none (λ (i : ℕ). i / 14) (drop 512 c.args.index.now) (λ (i : ℕ). like list c.args.at (drop i list)) (λ (i : ℕ). i < c.args.at) xs c.loop-link.link (omega (arith, c.loop-link-test.false)) (c.loop-link.invariant xs f))
