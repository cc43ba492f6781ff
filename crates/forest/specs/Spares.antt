-- What is not in use: objects of the table, and pages of the volume. Assumes nothing.
use Rattle.std.specs.Prelude.{◌≡◌, ℕ, suc, ◌+◌, ◌<◌, Some, ◌≢◌}
use Rattle.rules.specs.Indexed.{sum}
use Rattle.rules.specs.Calls.{flag}
use Rattle.forest.specs.Nodes.{unused, is_live, Nodes}
use Rattle.forest.specs.Forest.{has}

-- a stack of numbers that are free, each once
pub record Spare (Free : ℕ → Type 0) (item : ℕ → ℕ) (height : ℕ) : Type 0 where
  pub free : (x : ℕ) → x < height → Free (item x)
  pub distinct : (x y : ℕ) → x < height → y < height → item x ≡ item y → x ≡ y

-- Objects

-- how many objects of a table are in use
abbrev pub objects_in_use : Nodes → ℕ
objects_in_use a = sum 257 (λ i. flag (is_live (a i).body))

-- an object of a table of n + 1 that is not in use
abbrev pub Vacant : ℕ → Nodes → ℕ → Type 0
Vacant n a i = (i < suc n) × ((a i).body ≡ unused)

-- a stack has all objects that are not in use
pub record Stocked (n : ℕ) (item : ℕ → ℕ) (height : ℕ) (a : Nodes) : Type 0 where
  pub spare : Spare (Vacant n a) item height
  pub counted : height + objects_in_use a ≡ suc n

-- Pages

-- how many pages of all segments are present
abbrev pub pages_in_use : Nodes → ℕ
pages_in_use a = sum 257 (λ i. sum 16 (λ k. has ((a i).page k)))

-- a page of the volume, one of the first n, that serves no page of a segment
abbrev pub ServesNothing : ℕ → Nodes → ℕ → Type 0
ServesNothing n a v = (v < n) × ((i k : ℕ) → (a i).page k ≢ Some v)

-- a present page is served by one of the first n pages of the volume, which serves no other; and a stack has all pages that serve nothing
pub record Served (n : ℕ) (item : ℕ → ℕ) (height : ℕ) (a : Nodes) : Type 0 where
  pub used : (i k v : ℕ) → (a i).page k ≡ Some v → v < n
  pub alone : (i k j m v : ℕ) → (a i).page k ≡ Some v → (a j).page m ≡ Some v → (i ≡ j) × (k ≡ m)
  pub spare : Spare (ServesNothing n a) item height
  pub counted : height + pages_in_use a ≡ n
