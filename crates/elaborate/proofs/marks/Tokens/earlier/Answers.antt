use lib.ListN.{take, drop}
use lib.Seq.{get_or-take, get_or-drop}
use native.Mathlib.Omega.{arith}
use mathlib.Core.Path.{refl, sym, ap, ◌∙◌}
use Prim.Native.Nat.{ℕ, ◌-◌, ◌≤◌, ◌<◌}
use lib.ListN.{length}
use Rattle.quel.specs.Results.{same_word}
use Rattle.buckets.specs.Chains.{bucket_of}
use Rattle.buckets.proofs.Laws.{walk_start, walk_none, walk-low, walk-on, same_word_lem}
use Rattle.elaborate.specs.Places.{table, name_in}
use Rattle.elaborate.proofs.marks.Numbers.{spelt-at, named-spelt, named-code}
use Prim.Native.Nat.{◌%◌}
use Rattle.elaborate.proofs.marks.Tokens.earlier.Goals as goal

pub bounds-self-i : goal.bounds-self-i
bounds-self-i c = omega (arith, c.requires.0, c.args.self.now.numbered)

pub loop-link-init : goal.loop-link-init
loop-link-init c = let index = c.args.index.now in let kinds = c.args.self.now.kinds.now in let starts = c.args.self.now.starts.now in let text = c.args.self.now.text.now in let i = c.args.i in
    λ f. walk_start (λ (x : ℕ). x) (drop 512 index) (λ (x : ℕ). same_word (name_in text kinds starts x) (name_in text kinds starts i)) (λ (x : ℕ). (x < i) × (1 ≤ length (name_in text kinds starts x))) f.places (λ (x : ℕ). bucket_of (name_in text kinds starts x)) i (take 512 index) c.bucket.result _ c.bucket.ensures.upper_bound (c.size_at-link.ensures.value ∙ sym (get_or-take 512 index c.bucket.result 0 c.bucket.ensures.upper_bound)) (λ y e. ap bucket_of (same_word_lem _ _ e) ∙ sym (c.bucket.ensures.value ∙ ap (λ (v : ℕ). v % 512) (named-code text (table kinds starts c.args.self.now.numbers.now) c.args.self.now.coded i c.requires.0 c.requires.2))) f.held f.named

pub same_names-requires : goal.same_names-requires
same_names-requires c = let kinds = c.args.self.now.kinds.now in let numbers = c.args.self.now.numbers.now in let starts = c.args.self.now.starts.now in let text = c.args.self.now.text.now in let i = c.args.i in
    let h = (walk-low (λ (x : ℕ). x) (drop 512 c.args.index.now) (λ (x : ℕ). same_word (name_in text kinds starts x) (name_in text kinds starts i)) (λ (x : ℕ). (x < i) × (1 ≤ length (name_in text kinds starts x))) c.requires.3.places c.loop-link.link (c.loop-link.link - 1) (omega (arith, c.loop-link-test.true)) (c.loop-link.invariant c.requires.3)).0 in let s = spelt-at text (table kinds starts numbers) c.args.self.now.coded (c.loop-link.link - 1) h.1 in (omega (arith, s.0, c.args.self.now.numbered), omega (arith, c.requires.0, c.args.self.now.numbered), s.1, named-spelt text (table kinds starts numbers) c.args.self.now.coded i c.requires.0 c.requires.2)

pub returns-then-same_names : goal.returns-then-same_names
returns-then-same_names c = let kinds = c.args.self.now.kinds.now in let starts = c.args.self.now.starts.now in let text = c.args.self.now.text.now in let i = c.args.i in
    λ f. let h = (walk-low (λ (x : ℕ). x) (drop 512 c.args.index.now) (λ (x : ℕ). same_word (name_in text kinds starts x) (name_in text kinds starts i)) (λ (x : ℕ). (x < i) × (1 ≤ length (name_in text kinds starts x))) f.places c.loop-link.link (c.loop-link.link - 1) (omega (arith, c.loop-link-test.true)) (c.loop-link.invariant f)).0 in record { place = c.loop-link.link - 1; before = h.0; name = same_word_lem _ _ (sym c.same_names.ensures ∙ c.if-same_names.true); number = refl }

pub overflow_add-at : goal.overflow_add-at
overflow_add-at c = let kinds = c.args.self.now.kinds.now in let starts = c.args.self.now.starts.now in let text = c.args.self.now.text.now in let i = c.args.i in
    let h = (walk-low (λ (x : ℕ). x) (drop 512 c.args.index.now) (λ (x : ℕ). same_word (name_in text kinds starts x) (name_in text kinds starts i)) (λ (x : ℕ). (x < i) × (1 ≤ length (name_in text kinds starts x))) c.requires.3.places c.loop-link.link (c.loop-link.link - 1) (omega (arith, c.loop-link-test.true)) (c.loop-link.invariant c.requires.3)).0.0 in omega (arith, h, c.requires.0)

pub offset_bounds-ids-at : goal.offset_bounds-ids-at
offset_bounds-ids-at c = let kinds = c.args.self.now.kinds.now in let starts = c.args.self.now.starts.now in let text = c.args.self.now.text.now in let i = c.args.i in
    let h = (walk-low (λ (x : ℕ). x) (drop 512 c.args.index.now) (λ (x : ℕ). same_word (name_in text kinds starts x) (name_in text kinds starts i)) (λ (x : ℕ). (x < i) × (1 ≤ length (name_in text kinds starts x))) c.requires.3.places c.loop-link.link (c.loop-link.link - 1) (omega (arith, c.loop-link-test.true)) (c.loop-link.invariant c.requires.3)).0.0 in record { fits = omega (arith, h, c.requires.0, c.args.self.now.few) }

pub bounds-ids-at : goal.bounds-ids-at
bounds-ids-at c = let kinds = c.args.self.now.kinds.now in let starts = c.args.self.now.starts.now in let text = c.args.self.now.text.now in let i = c.args.i in
    let h = (walk-low (λ (x : ℕ). x) (drop 512 c.args.index.now) (λ (x : ℕ). same_word (name_in text kinds starts x) (name_in text kinds starts i)) (λ (x : ℕ). (x < i) × (1 ≤ length (name_in text kinds starts x))) c.requires.3.places c.loop-link.link (c.loop-link.link - 1) (omega (arith, c.loop-link-test.true)) (c.loop-link.invariant c.requires.3)).0.0 in omega (arith, h, c.requires.1)

pub loop-link-smaller : goal.loop-link-smaller
loop-link-smaller c = let index = c.args.index.now in let kinds = c.args.self.now.kinds.now in let starts = c.args.self.now.starts.now in let text = c.args.self.now.text.now in let i = c.args.i in
    let h = (walk-low (λ (x : ℕ). x) (drop 512 index) (λ (x : ℕ). same_word (name_in text kinds starts x) (name_in text kinds starts i)) (λ (x : ℕ). (x < i) × (1 ≤ length (name_in text kinds starts x))) c.requires.3.places c.loop-link.link (c.loop-link.link - 1) (omega (arith, c.loop-link-test.true)) (c.loop-link.invariant c.requires.3)).1 in omega (arith, h, (c.size_at-link-in-loop-link.ensures.value ∙ sym (get_or-drop 512 index (c.loop-link.link - 1) 0)), c.loop-link-test.true)

pub loop-link-preserved : goal.loop-link-preserved
loop-link-preserved c = let index = c.args.index.now in let kinds = c.args.self.now.kinds.now in let starts = c.args.self.now.starts.now in let text = c.args.self.now.text.now in let i = c.args.i in
    λ f. walk-on (λ (x : ℕ). x) (drop 512 index) (λ (x : ℕ). same_word (name_in text kinds starts x) (name_in text kinds starts i)) (λ (x : ℕ). (x < i) × (1 ≤ length (name_in text kinds starts x))) f.places c.loop-link.link (c.loop-link.link - 1) (omega (arith, c.loop-link-test.true)) (c.loop-link.invariant f) _ (sym c.same_names.ensures ∙ c.if-same_names.false) ((c.size_at-link-in-loop-link.ensures.value ∙ sym (get_or-drop 512 index (c.loop-link.link - 1) 0)))

pub returns : goal.returns
returns c = let kinds = c.args.self.now.kinds.now in let starts = c.args.self.now.starts.now in let text = c.args.self.now.text.now in let i = c.args.i in
    λ f. walk_none (λ (x : ℕ). x) (drop 512 c.args.index.now) (λ (x : ℕ). same_word (name_in text kinds starts x) (name_in text kinds starts i)) (λ (x : ℕ). (x < i) × (1 ≤ length (name_in text kinds starts x))) f.places c.loop-link.link (omega (arith, c.loop-link-test.false)) (c.loop-link.invariant f)
