-- A page that a write still lacks when its turn comes.
use Rattle.std.proofs.Common.{◌≡◌, ℕ, ◌-◌, cond, List, length, Option, ap}
use Rattle.rules.specs.Segments.{touched}
use Rattle.forest.specs.Forest.{pages_of}
use Rattle.forest.proofs.Write.{written_upto, still_has}
use Rattle.objects.specs.Writes.{lacks}

pub still_lacks : (v w : ℕ → ℕ) (P Q : ℕ → Option ℕ) (first : ℕ) (ds : List ℕ) (k : ℕ) → pages_of w Q ≡ written_upto k (pages_of v P) first ds → lacks first (length ds) Q k ≡ lacks first (length ds) P k
still_lacks v w P Q first ds k e = ap (λ (m : ℕ). cond (touched first (length ds) k) (1 - m) 0) (still_has v w P Q first ds k e)
