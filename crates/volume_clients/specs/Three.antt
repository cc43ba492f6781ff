-- The value of three volumes, joined. Assumes nothing.
use Rattle.std.specs.Prelude.{ℕ, List}
use Rattle.volumes.specs.declared.joined.Joined.{Joined}
use Rattle.volumes.specs.declared.volume.Volume as Volume
use Rattle.volumes.specs.Volumes.{joined, joined_words}

-- the words of the first two, joined, and then those of the third
abbrev pub three_joined : {A B C : Type 0} → Volume.Ghosts A → Volume.Ghosts B → Volume.Ghosts C → Joined (Joined A B) C → List ℕ
three_joined a b c v = joined (joined_words a b v.first) (c.words v.second)
