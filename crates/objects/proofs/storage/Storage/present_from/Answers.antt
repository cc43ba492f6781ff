-- What is left to show of `present_from`.
use Rattle.std.proofs.Common.{◌≡◌, ℕ, ◌-◌, ◌^◌, ◌<◌, cond, is_some, Option, sum_by, refl, ◌∙◌, arith, rules}
use Rattle.std.proofs.lemmas.Iterator.{YieldsList-from_range, YieldsList-from_map}
use Rattle.std.proofs.lemmas.Iterator.Consumers.{YieldsList-at, sum_by_from_yields_List, fits_by_from_yields_list}
use Rattle.std.specs.List.{range_with_len}
use Rattle.tables.specs.Objects.{look}
use Rattle.objects.proofs.Counting.{count_present, few_counted}
use Rattle.objects.proofs.storage.Storage.present_from.Goals.{After-sum}
use Rattle.objects.proofs.storage.Storage.present_from.Goals as goal

pub sum-requires-clause-fits : goal.sum-requires-clause-fits
sum-requires-clause-fits c =
    let ps : ℕ → Option ℕ = (look c.args.self.now.table c.args.index).page in
    let n = 16 - c.args.keep in
    let few = few_counted (λ k. is_some (ps k)) c.args.keep n in
    let low : sum_by (λ k. cond (is_some (ps k)) 1 0) (range_with_len c.args.keep n) < 2 ^ 32 = omega arith in
    fits_by_from_yields_list (λ k. cond (is_some (ps k)) 1 0) (range_with_len c.args.keep n) c.map-present.result _
    (YieldsList-from_map _ (λ k. cond (is_some (ps k)) 1 0) (YieldsList-at c.map-present.ensures.source (YieldsList-from_range c.args.keep 16 n refl refl)) c.map-present.ensures.closure (λ x r q k. search rules))
    low

added : (c : After-sum) → c.sum.result ≡ sum_by (λ k. cond (is_some ((look c.args.self.now.table c.args.index).page k)) 1 0) (range_with_len c.args.keep (16 - c.args.keep))
added c =
    let ps : ℕ → Option ℕ = (look c.args.self.now.table c.args.index).page in
    sum_by_from_yields_List (λ k. cond (is_some (ps k)) 1 0) (range_with_len c.args.keep (16 - c.args.keep)) c.map-present.result _ c.sum.ensures.ran
    (YieldsList-from_map _ (λ k. cond (is_some (ps k)) 1 0) (YieldsList-at c.map-present.ensures.source (YieldsList-from_range c.args.keep 16 (16 - c.args.keep) refl refl)) c.map-present.ensures.closure (λ x r q k. search rules))

pub returns-clause-value : goal.returns-clause-value
returns-clause-value c =
    let low = c.requires.keep in
    added (goal.at.returns-clause-value c).After-sum ∙ count_present (look c.args.self.now.table c.args.index).page c.args.keep (16 - c.args.keep) 16 (omega arith)

pub returns-clause-few : goal.returns-clause-few
returns-clause-few c =
    let is = added (goal.at.returns-clause-few c).After-sum in
    let few = few_counted (λ k. is_some ((look c.args.self.now.table c.args.index).page k)) c.args.keep (16 - c.args.keep) in
    omega arith
