-- The order of levels and categories at its edges. Assumes nothing.
use Rattle.std.specs.Prelude.{◌≡◌, true, false}
use Rattle.labels.specs.PartOrders.{level_category}

-- which words are below which, and the last valid word
pub record LevelEdges : Type 0 where
  pub lower_level : level_category.below 0x00003 0x10007 ≡ true
  pub missing_category : level_category.below 0x10003 0x10001 ≡ false
  pub last_valid : level_category.valid 0x7FFFF ≡ true
  pub first_invalid : level_category.valid 0x80000 ≡ false
