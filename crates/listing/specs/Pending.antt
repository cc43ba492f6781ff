-- What a splitter has still to give. Assumes nothing.
use Rattle.std.specs.Prelude.{ℕ, suc, ◌-◌, List, take, vec_items}
use Rattle.listing.specs.declared.splitter.Splitter.{Splitter}
use Rattle.listing.specs.Lines.{line_in}
use Rattle.listing.specs.Listings.{Numbered, lines_from, numbered_from}

-- the line that has begun, as it is given where it ends here
abbrev pub begun_line : Splitter → Numbered
begun_line s = record { number = suc s.ended; call = line_in (vec_items s.begun) }

-- the lines to be given once the bytes follow: those of the line that has begun and of these, up to the 64th
abbrev pub pending : Splitter → List ℕ → List Numbered
pending s bs = numbered_from (suc s.ended) (take (64 - s.ended) (lines_from (vec_items s.begun) bs))
