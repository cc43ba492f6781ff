-- The values of plain and of joined volumes. Assumes nothing.
use Rattle.std.specs.Prelude.{ℕ, ◌-◌, ◌*◌, min, cond, if◌then◌else◌, ◌&&◌, List, ◌++◌, take, drop, Some, None, Option, vec_items, nat_le, nat_lt}
use Rattle.volumes.specs.declared.joined.Half.{Half}
use Rattle.volumes.specs.declared.joined.Half.TheVariants.{First, Second}
use Rattle.volumes.specs.declared.joined.Joined.{Joined}
use Rattle.volumes.specs.declared.plain.Plain.{Plain}
use Rattle.volumes.specs.declared.volume.Volume as Volume
use Rattle.volumes.specs.Pages.{page_words, max_pages, pages_in, written}

-- how many of the words handed in are used: those of whole pages, and of no more than a volume may have
abbrev pub used_count : List ℕ → ℕ
used_count ws = min (pages_in ws) max_pages * page_words

-- these words
abbrev pub used : List ℕ → List ℕ
used ws = take (used_count ws) ws

-- and the words behind them
abbrev pub unused : List ℕ → List ℕ
unused ws = drop (used_count ws) ws

-- the value of a plain volume
abbrev pub plain_words : Plain → List ℕ
plain_words v = used (vec_items v.words)

-- and the words that it holds beside it, which stay as they were handed in
abbrev pub unused_words : Plain → List ℕ
unused_words v = unused (vec_items v.words)

-- as many of the words as a volume may have
abbrev pub cut : List ℕ → List ℕ
cut ws = take (max_pages * page_words) ws

-- the words of one volume and then those of another
abbrev pub joined : List ℕ → List ℕ → List ℕ
joined xs ys = cut (xs ++ ys)

-- the value of two volumes, joined
abbrev pub joined_words : {A B : Type 0} → Volume.Ghosts A → Volume.Ghosts B → Joined A B → List ℕ
joined_words a b v = joined (a.words v.first) (b.words v.second)

-- the second volume's value after a write to both: it has the pages from `behind` on, up to the cut
abbrev pub written_behind : ℕ → List ℕ → ℕ → ℕ → ℕ → List ℕ
written_behind behind ys page word value = cond (nat_le behind page && nat_lt page max_pages) (written ys (page - behind) word value) ys

-- where a page of the whole is, when the first volume has so many: that page of the first, one of the second, or none past the cut
abbrev pub half_of : ℕ → ℕ → Option Half
half_of count page =
    if nat_lt page count then Some (First page) else (if nat_lt page max_pages then Some (Second (page - count)) else None)
