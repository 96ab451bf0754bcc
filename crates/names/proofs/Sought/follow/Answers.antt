use Rattle.names.proofs.Once.{room_of}
use lib.Seq.{get_or-take, get_or-drop}
use native.Mathlib.Omega.{arith}
use mathlib.Core.Path.{refl, sym, ap, ◌∙◌}
use Prim.Native.Nat.{ℕ, ◌-◌}
use Rattle.names.specs.Search.{is_named, name_of}
use lib.ListN.{drop, take}
use mathlib.Core.Bool.{false}
use Prim.Native.Nat.{◌/◌, ◌%◌}
use Rattle.model.proofs.Tests.{clash}
use Rattle.buckets.specs.Chains.{bucket_of}
use Rattle.buckets.proofs.Laws.{walk_start, walk_none, walk-low, walk-on}
use Rattle.names.proofs.Once.{Sound, index-each, index-none, named-name}
use Rattle.names.proofs.Sought.follow.Goals as goal

pub loop-link-init : goal.loop-link-init
loop-link-init c = let index = c.args.index.now in let list = c.args.list.now in let kind = c.args.self.kind in let relation = c.args.self.relation in
    λ f l. (walk_start (λ (i : ℕ). i / 14) (drop 512 index) (λ (i : ℕ). false) (Sound list) f.places (λ (i : ℕ). bucket_of (name_of list i)) f.top (take 512 index) c.bucket.result _ c.bucket.ensures.upper_bound (c.size_at-link.ensures.value ∙ sym (get_or-take 512 index c.bucket.result 0 c.bucket.ensures.upper_bound)) (λ i e. clash e) f.held (index-each list (take 512 index) (drop 512 index) f l), λ w s. walk_start (λ (i : ℕ). i / 14) (drop 512 index) (λ (i : ℕ). is_named kind relation w (drop i list)) (Sound list) f.places (λ (i : ℕ). bucket_of (name_of list i)) f.top (take 512 index) c.bucket.result _ c.bucket.ensures.upper_bound (c.size_at-link.ensures.value ∙ sym (get_or-take 512 index c.bucket.result 0 c.bucket.ensures.upper_bound)) (λ i e. ap bucket_of (named-name list i kind relation w e) ∙ sym (c.bucket.ensures.value ∙ ap (λ (v : ℕ). v % 512) s.code)) f.held (index-each list (take 512 index) (drop 512 index) f l))

pub is_at-requires : goal.is_at-requires
is_at-requires c = let index = c.args.index.now in let list = c.args.list.now in
    (walk-low (λ (i : ℕ). i / 14) (drop 512 index) (λ (i : ℕ). false) (Sound list) c.requires.1.chains.places c.loop-link.link (c.loop-link.link - 1) (omega (arith, c.loop-link-test.true)) (c.loop-link.invariant c.requires.1.chains (room_of list index c.requires.0)).0).0.within

pub returns-then-is_at-clause-value : goal.returns-then-is_at-clause-value
returns-then-is_at-clause-value c = let index = c.args.index.now in let list = c.args.list.now in let kind = c.args.self.kind in let relation = c.args.self.relation in
    λ w s. sym ((walk-low (λ (i : ℕ). i / 14) (drop 512 index) (λ (i : ℕ). is_named kind relation w (drop i list)) (Sound list) c.requires.1.chains.places c.loop-link.link (c.loop-link.link - 1) (omega (arith, c.loop-link-test.true)) ((c.loop-link.invariant c.requires.1.chains (room_of list index c.requires.0)).1 w s)).0.hit kind relation w (sym (c.is_at.ensures.value w s) ∙ c.if-is_at.true))

pub loop-link-smaller : goal.loop-link-smaller
loop-link-smaller c = let index = c.args.index.now in let list = c.args.list.now in
    omega (arith, (walk-low (λ (i : ℕ). i / 14) (drop 512 index) (λ (i : ℕ). false) (Sound list) c.requires.1.chains.places c.loop-link.link (c.loop-link.link - 1) (omega (arith, c.loop-link-test.true)) (c.loop-link.invariant c.requires.1.chains (room_of list index c.requires.0)).0).1, (c.size_at-link-in-loop-link.ensures.value ∙ sym (get_or-drop 512 index ((c.loop-link.link - 1) / 14) 0)), c.loop-link-test.true)

pub loop-link-preserved : goal.loop-link-preserved
loop-link-preserved c = let index = c.args.index.now in let list = c.args.list.now in
    λ f l. (walk-on (λ (i : ℕ). i / 14) (drop 512 index) (λ (i : ℕ). false) (Sound list) f.places c.loop-link.link (c.loop-link.link - 1) (omega (arith, c.loop-link-test.true)) (c.loop-link.invariant f l).0 _ refl ((c.size_at-link-in-loop-link.ensures.value ∙ sym (get_or-drop 512 index ((c.loop-link.link - 1) / 14) 0))), λ w s. walk-on (λ (i : ℕ). i / 14) (drop 512 index) (λ (i : ℕ). is_named c.args.self.kind c.args.self.relation w (drop i list)) (Sound list) f.places c.loop-link.link (c.loop-link.link - 1) (omega (arith, c.loop-link-test.true)) ((c.loop-link.invariant f l).1 w s) _ (sym (c.is_at.ensures.value w s) ∙ c.if-is_at.false) ((c.size_at-link-in-loop-link.ensures.value ∙ sym (get_or-drop 512 index ((c.loop-link.link - 1) / 14) 0))))

pub returns-clause-value : goal.returns-clause-value
returns-clause-value c = let index = c.args.index.now in let list = c.args.list.now in let kind = c.args.self.kind in let relation = c.args.self.relation in
    λ w s. index-none list (take 512 index) (drop 512 index) c.requires.1.chains (room_of list index c.requires.0) kind relation w (walk_none (λ (i : ℕ). i / 14) (drop 512 index) (λ (i : ℕ). is_named kind relation w (drop i list)) (Sound list) c.requires.1.chains.places c.loop-link.link (omega (arith, c.loop-link-test.false)) ((c.loop-link.invariant c.requires.1.chains (room_of list index c.requires.0)).1 w s))
