-- A table is well formed in one way only. Assumes nothing.

use Rattle.std.proofs.Common.{◌≡◌, ℕ, Some, None, Option, refl, ap, arith}
use mathlib.Core.Bool.{Bool-set}
use mathlib.Core.HLevel.{Discrete, hedberg}
use mathlib.Core.Logic.{∥∥₁_elim}
use native.Mathlib.Nat.{ℕ_set}
use native.Mathlib.Bridge.{le_prop}
use native.Mathlib.Decide.{ℕ_discrete}
use Rattle.forest.specs.Nodes.{Body, unused, seg, dir, Nodes, Holds, WellFormed, IsDir, IsSeg, IsLive}

option_discrete : Discrete (Option ℕ)
option_discrete None None = yes refl
option_discrete None (Some v) = no (λ e. let z : ◌≡◌ {A = ℕ} 0 1 = cc in omega arith)
option_discrete (Some u) None = no (λ e. let z : ◌≡◌ {A = ℕ} 0 1 = cc in omega arith)
option_discrete (Some u) (Some v) = by (ℕ_discrete u v)
  where
    by : Dec (u ≡ v) → Dec (◌≡◌ {A = Option ℕ} (Some u) (Some v))
    by (yes q) = yes (ap Some q)
    by (no q) = no (λ e. q cc)

pub option_set : IsSet (Option ℕ)
option_set = hedberg option_discrete

pub dir_prop : (b : Body) → IsProp (IsDir b)
dir_prop unused p q = absurd p
dir_prop seg p q = absurd p
dir_prop (dir l c) p q = refl

seg_prop : (b : Body) → IsProp (IsSeg b)
seg_prop unused p q = absurd p
seg_prop seg p q = refl
seg_prop (dir l c) p q = absurd p

pub live_prop : (b : Body) → IsProp (IsLive b)
live_prop unused p q = absurd p
live_prop seg p q = refl
live_prop (dir l c) p q = refl

holds_prop : (a : Nodes) (i e j : ℕ) → IsProp (Holds a i e j)
holds_prop a i e j p q = λ k. record { whole = dir_prop (a i).body p.whole q.whole k; within = le_prop p.within q.within k; live = live_prop (a j).body p.live q.live k; up = ℕ_set _ _ p.up q.up k; place = ℕ_set _ _ p.place q.place k; depth = ℕ_set _ _ p.depth q.depth k }

pub well_formed_prop : (a : Nodes) → IsProp (WellFormed a)
well_formed_prop a p q = λ i. record {
  root = dir_prop (a 0).body p.root q.root i;
  funds = Bool-set _ _ p.funds q.funds i;
  top = ℕ_set _ _ p.top q.top i;
  few = λ k l. le_prop (p.few k l) (q.few k l) i;
  down = λ x e j h. holds_prop a x e j (p.down x e j h) (q.down x e j h) i;
  mirror = λ j l n. option_set _ _ (p.mirror j l n) (q.mirror j l n) i;
  pages = λ x k v h. (seg_prop (a x).body (p.pages x k v h).0 (q.pages x k v h).0 i, le_prop (p.pages x k v h).1 (q.pages x k v h).1 i);
  pays = λ k l. ℕ_set _ _ (p.pays k l) (q.pays k l) i;
}

-- the table is well formed, with no bars round it
pub sound : (a : Nodes) → ∥ WellFormed a ∥₁ → WellFormed a
sound a s = ∥∥₁_elim s (well_formed_prop a) (λ w. w)
