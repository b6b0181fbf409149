use Rattle.std.proofs.Common.{below_more, rules, ◌≡◌, ◌<◌, ◌≤◌, ◌+◌, ℕ, List, Some, get_or, length, option_map, slice_get, subst, sym, ap, ◌∙◌, arith}
use Rattle.std.proofs.{lemmas.List.length-map, lemmas.Option.slice_get-get_or, lemmas.Option.slice_get-map, lemmas.Option.slice_get_within}
use Rattle.cred_many.specs.{Scribe.IsPending, Scribe.numbers, declared.open.Open.Open}
use Rattle.cred_many.proofs.open.OpenLines.place_of.Goals as goal

module _ (left : List Open) (n i : ℕ) (before : (k : ℕ) → k < i → slice_get (numbers left) k ≡ Some n → ⊥) where
  one_more : (line : Open) → i < length left → line ≡ get_or left i line → (line.number ≡ n → ⊥) → (k : ℕ) → k < i + 1 → slice_get (numbers left) k ≡ Some n → ⊥
  one_more line long is other =
      let there : slice_get (numbers left) i ≡ Some line.number = slice_get-map (λ (o : Open). o.number) left i ∙ ap (option_map (λ (o : Open). o.number)) (slice_get-get_or left i line long ∙ ap Some (sym is)) in
      below_more (λ k. slice_get (numbers left) k ≡ Some n → ⊥) i before (λ found. let same : Some n ≡ Some line.number = sym found ∙ there in other cc)

  none : length left ≤ i → IsPending n (numbers left) → ⊥
  none long (place, there) =
      let within = slice_get_within (numbers left) place n there in
      let many = length-map left (λ (o : Open). o.number) in
      before place (omega (arith, long, within, many)) there

pub loop-i-preserved : goal.loop-i-preserved
loop-i-preserved c =
    let line = c.index.result.now in
    let long : c.loop-i.i < length c.args.self.now = search rules in
    one_more c.args.self.now c.args.number c.loop-i.i c.loop-i.invariant line long (subst (λ (xs : List Open). line ≡ get_or xs c.loop-i.i line) c.self.view_is c.index.ensures) c.if-index-number.false

pub returns-clause-absent : goal.returns-clause-absent
returns-clause-absent c =
    let long : length c.args.self.now ≤ c.loop-i.i = search rules in
    none c.args.self.now c.args.number c.loop-i.i c.loop-i.invariant long
