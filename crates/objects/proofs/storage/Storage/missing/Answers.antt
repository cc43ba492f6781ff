-- What is left to show of `missing`.
use Rattle.std.proofs.Common.{◌≡◌, ℕ, ◌^◌, ◌<◌, ◌&&◌, Bool, cond, not, is_some, Option, length, sum_by, refl, ◌∙◌, arith, rules}
use Rattle.std.proofs.lemmas.Iterator.{YieldsList-from_range, YieldsList-from_map}
use Rattle.std.proofs.lemmas.Iterator.Consumers.{YieldsList-at, sum_by_from_yields_List, fits_by_from_yields_list}
use Rattle.std.specs.List.{range_with_len}
use Rattle.rules.specs.Segments.{touched}
use Rattle.tables.specs.Objects.{look}
use Rattle.objects.specs.declared.extent.Extent.{Extent}
use Rattle.objects.proofs.Counting.{count_lacking, few_counted}
use Rattle.objects.proofs.storage.Storage.missing.Goals.{After-sum}
use Rattle.objects.proofs.storage.Storage.missing.Goals as goal

-- whether a page is absent and has one of the words
abbrev absent : (ℕ → Option ℕ) → ℕ → ℕ → ℕ → Bool
absent ps first m k = touched first m k && not (is_some (ps k))

pub sum-requires-clause-fits : goal.sum-requires-clause-fits
sum-requires-clause-fits c =
    let p : ℕ → Bool = absent (look c.args.self.now.table c.args.index).page c.args.extent.first (length c.args.extent.words.now) in
    let few = few_counted p 0 16 in
    let low : sum_by (λ k. cond (p k) 1 0) (range_with_len 0 16) < 2 ^ 32 = omega arith in
    fits_by_from_yields_list (λ k. cond (p k) 1 0) (range_with_len 0 16) c.map-missing.result _
    (YieldsList-from_map _ (λ k. cond (p k) 1 0) (YieldsList-at c.map-missing.ensures.source (YieldsList-from_range 0 16 16 refl refl)) c.map-missing.ensures.closure (λ x r q k. search rules))
    low

added : (c : After-sum) → c.sum.result ≡ sum_by (λ k. cond (absent (look c.args.self.now.table c.args.index).page c.args.extent.first (length c.args.extent.words.now) k) 1 0) (range_with_len 0 16)
added c =
    let p : ℕ → Bool = absent (look c.args.self.now.table c.args.index).page c.args.extent.first (length c.args.extent.words.now) in
    sum_by_from_yields_List (λ k. cond (p k) 1 0) (range_with_len 0 16) c.map-missing.result _ c.sum.ensures.ran
    (YieldsList-from_map _ (λ k. cond (p k) 1 0) (YieldsList-at c.map-missing.ensures.source (YieldsList-from_range 0 16 16 refl refl)) c.map-missing.ensures.closure (λ x r q k. search rules))

pub returns-clause-value : goal.returns-clause-value
returns-clause-value c =
    added (goal.at.returns-clause-value c).After-sum
    ∙ count_lacking c.args.extent.first (length c.args.extent.words.now) (look c.args.self.now.table c.args.index).page 16

pub returns-clause-few : goal.returns-clause-few
returns-clause-few c =
    let is = added (goal.at.returns-clause-few c).After-sum in
    let few = few_counted (absent (look c.args.self.now.table c.args.index).page c.args.extent.first (length c.args.extent.words.now)) 0 16 in
    omega arith
