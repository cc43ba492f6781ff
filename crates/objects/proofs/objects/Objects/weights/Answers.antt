-- What is left to show of `weights`.
use Rattle.std.proofs.Common.{◌≡◌, ℕ, ◌-◌, ◌^◌, ◌<◌, Bool, false, cond, get_or, sum_by, refl, sym, ap, ◌∙◌, arith, rules, tests}
use Rattle.std.specs.List.{range_with_len, filter}
use Rattle.std.proofs.lemmas.Iterator.{YieldsList-from_range, YieldsList-from_map}
use Rattle.std.proofs.lemmas.Iterator.Consumers.{YieldsList-from_filter, YieldsList-at, sum_by_from_yields_List, fits_by_from_yields_list}
use Rattle.forest.specs.Nodes.{Node}
use Rattle.forest.specs.Forest.{weight}
use Rattle.forest.proofs.Keeping.{weights_small}
use Rattle.forest.proofs.Tally.{sum_upto}
use Rattle.tables.specs.Objects.{look}
use Rattle.tables.proofs.Within.{look_past}
use Rattle.objects.proofs.Counting.{sum_marked}
use Rattle.objects.proofs.objects.Objects.weights.Goals as goal

pub sum-requires-clause-fits : goal.sum-requires-clause-fits
sum-requires-clause-fits c =
    let t = c.args.self.now.storage.table in
    let m : ℕ → Bool = λ k. get_or c.args.marks.now k false in
    let f : ℕ → ℕ = λ k. weight (look t k) in
    let n = c.len.result in
    let few = t.few in
    let end = c.len.ensures in
    let small = weights_small c.args.self.now.kept m n (omega arith) in
    let is = sum_marked m f n in
    let low : sum_by f (filter m (range_with_len 0 n)) < 2 ^ 32 = omega arith in
    fits_by_from_yields_list f (filter m (range_with_len 0 n)) c.map.result _
    (YieldsList-from_map _ f
    (YieldsList-at c.map.ensures.source
    (YieldsList-from_filter _ m (YieldsList-at c.filter-marked.ensures.source (YieldsList-from_range 0 n n refl (let e : n - 0 ≡ n = omega arith in e))) c.filter-marked.ensures.closure (λ x b q k. search (rules, tests))))
    c.map.ensures.closure (λ x r q k. search rules))
    low

pub returns : goal.returns
returns c =
    let t = c.args.self.now.storage.table in
    let m : ℕ → Bool = λ k. get_or c.args.marks.now k false in
    let f : ℕ → ℕ = λ k. weight (look t k) in
    let n = c.len.result in
    let few = t.few in
    let end = c.len.ensures in
    let added = sum_by_from_yields_List f (filter m (range_with_len 0 n)) c.map.result _ c.sum.ensures.ran
    (YieldsList-from_map _ f
    (YieldsList-at c.map.ensures.source
    (YieldsList-from_filter _ m (YieldsList-at c.filter-marked.ensures.source (YieldsList-from_range 0 n n refl (let e : n - 0 ≡ n = omega arith in e))) c.filter-marked.ensures.closure (λ x b q k. search (rules, tests))))
    c.map.ensures.closure (λ x r q k. search rules)) in
    added ∙ sum_marked m f n
    ∙ sym (sum_upto (λ k. cond (m k) (f k) 0) n 257 (omega arith) (λ k h. ap (λ (x : Node). cond (m k) (weight x) 0) (look_past t k (omega arith)) ∙ none (m k)))
  where
    none : (b : Bool) → cond {A = ℕ} b 0 0 ≡ 0
    none Bool.true = refl
    none Bool.false = refl
