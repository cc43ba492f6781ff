-- What becomes of a known number when objects are deleted. Assumes nothing.
use Rattle.std.specs.Prelude.{Bool, false, cond, List, slice_index_or}
use Rattle.tables.specs.declared.known.Known.{Known}
use Rattle.tables.specs.declared.known.Known.TheVariants.{Free, Means, Gone}

-- a known number after the marked objects were deleted
abbrev pub forgotten : List Bool → Known → Known
forgotten marks Free = Free
forgotten marks (Means k) = cond (slice_index_or marks k false) Gone (Means k)
forgotten marks Gone = Gone
