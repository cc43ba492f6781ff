-- What the half that a page is in says of it. Assumes nothing.
use Rattle.std.proofs.Common.{◌≡◌, ℕ, ◌-◌, ◌<◌, ◌≤◌, false, List, Some, None, refl, arith}
use Rattle.std.proofs.lemmas.Bool.Decides.{nat_tests}
use Rattle.volumes.specs.Pages.{max_pages, pages_in, Whole, inside}
use Rattle.volumes.specs.Volumes.{joined, half_of}
use Rattle.volumes.specs.declared.joined.Half.TheVariants.{First, Second}
use Rattle.volumes.specs.Joins.{past_joined, first_page, second_page}
use Rattle.volumes.specs.Parts.{PartPage}

module _ (count page at : ℕ) where
  pub first_where : Some (First at) ≡ half_of count page → (page < count) × (at ≡ page)
  first_where found = grind (arith, nat_tests)

  pub second_where : Some (Second at) ≡ half_of count page → (count ≤ page) × (page < max_pages) × (at ≡ page - count)
  second_where found = grind (arith, nat_tests)

pub past_where : (count page : ℕ) → None ≡ half_of count page → (count ≤ page) × (max_pages ≤ page)
past_where count page found = grind (arith, nat_tests)

-- what is read and written there
module _ (xs ys : List ℕ) (first : Whole xs) (second : Whole ys) (page : ℕ) where
  pub first_part : (at : ℕ) → Some (First at) ≡ half_of (pages_in xs) page → PartPage (λ l. joined l ys) xs at page
  first_part at found = let w = first_where _ page at found in rw w.1 (first_page xs ys first second page w.0)

  pub second_part : (at : ℕ) → Some (Second at) ≡ half_of (pages_in xs) page → PartPage (joined xs) ys at page
  second_part at found = let w = second_where _ page at found in rw w.2 (second_page xs ys first second page (pages_in xs) refl w.0 w.1)

  pub no_page : None ≡ half_of (pages_in xs) page → (word : ℕ) → inside (joined xs ys) page word ≡ false
  no_page found word = past_joined xs ys first second page word (past_where _ page found).1
