-- What follows from what the memory of a store keeps.
use Rattle.std.proofs.Common.{◌≡◌, ℕ, ◌<◌, ◌≤◌, Bool, true, false, cond, ap, ◌∙◌, arith}
use mathlib.Core.Logic.{∥∥₁_elim, ∥∥₁_map}
use native.Mathlib.Bridge.{le_prop}
use native.Mathlib.Nat.{ℕ_set}
use Rattle.rules.specs.Indexed.{sum}
use Rattle.rules.specs.Tree.{at}
use Rattle.rules.specs.Cells.{cost}
use Rattle.forest.specs.Nodes.{Body, Nodes, IsLive, celled, WellFormed, Tells}
use Rattle.forest.specs.Forest.{tree_of, path_to, weight, cell_in, cell_at}
use Rattle.forest.specs.Accounts.{blank}
use Rattle.forest.specs.Steps.{Kept}
use Rattle.forest.proofs.Accounts.{table_records, weight_bound, subtree_cost, cost_at_any}
use Rattle.forest.proofs.Depth.{shallow}
use Rattle.forest.proofs.Pays.{uses_payer, payer_live, payer_celled, celled_dir, celled_is_dir}
use Rattle.forest.proofs.Moved.{cell_bounds}
use Rattle.forest.proofs.Tally.{sum_part}
use Rattle.forest.proofs.Props.{sound}
use Rattle.forest.proofs.Capacity.{object_there, pages_there}

module _ {n : ℕ} {a : Nodes} {object : ℕ → ℕ} {objects : ℕ} {page : ℕ → ℕ} {pages : ℕ} (k : ∥ Kept n a object objects page pages ∥₁) where
  pub formed : WellFormed a
  formed = sound a (∥∥₁_map k (λ x. x.formed))

  pub few_records : n ≤ 256
  few_records = ∥∥₁_elim k le_prop (λ x. x.accounted.few)

  -- the payer of an object

  pub payer_is_live : (d : ℕ) → IsLive (a d).body → IsLive (a (a d).payer).body
  payer_is_live d l = payer_live a formed d (a d).payer l (uses_payer a formed d l)

  pub payer_has_cell : (d : ℕ) → IsLive (a d).body → celled (a (a d).payer).body ≡ true
  payer_has_cell d l = payer_celled a formed d (a d).payer (uses_payer a formed d l)

  -- a cell has no more left than granted, and was granted no more than the store's records

  pub left_granted : (x : ℕ) → celled (a x).body ≡ true → (cell_at a x).left ≤ (cell_at a x).granted
  left_granted x h =
      let (m, y, was) = celled_dir (a x).body h in
      let l : (cell_at a x).left ≡ y.left = ap (λ (t : Body). (cell_in t).left) was in
      let g : (cell_at a x).granted ≡ y.granted = ap (λ (t : Body). (cell_in t).granted) was in
      ∥∥₁_elim k le_prop (λ z. let b = (cell_bounds a formed n z.root z.accounted x m y was).0 in omega arith)

  pub granted_small : (x : ℕ) → celled (a x).body ≡ true → (cell_at a x).granted ≤ n
  granted_small x h =
      let (m, y, was) = celled_dir (a x).body h in
      let g : (cell_at a x).granted ≡ y.granted = ap (λ (t : Body). (cell_in t).granted) was in
      ∥∥₁_elim k le_prop (λ z. let b = (cell_bounds a formed n z.root z.accounted x m y was).1 in omega arith)

  -- where a cell has a record left, an object is not in use, and as many pages serve nothing as it has left

  pub object_free : (d : ℕ) → IsLive (a d).body → 1 ≤ (cell_at a (a d).payer).left → 1 ≤ objects
  object_free d l h =
      ∥∥₁_elim k le_prop (λ z. object_there a formed n z.root z.accounted (a d).payer (celled_is_dir _ (payer_has_cell d l)) object objects z.stocked h)

  pub pages_free : (d m : ℕ) → IsLive (a d).body → m ≤ (cell_at a (a d).payer).left → m ≤ pages
  pages_free d m l h =
      ∥∥₁_elim k le_prop (λ z. pages_there a formed n z.root z.accounted (a d).payer (celled_is_dir _ (payer_has_cell d l)) page pages m z.served h)

  -- no object stands for more than the store's records and the root, and no more do marked ones together

  pub weight_small : (x : ℕ) → x < 257 → weight (a x) ≤ 257
  weight_small x l = ∥∥₁_elim k le_prop (λ z. let b = weight_bound a formed n z.root z.accounted x l in let f = z.accounted.few in omega arith)

  pub weights_small : (m : ℕ → Bool) (i : ℕ) → i ≤ 257 → sum i (λ x. cond (m x) (weight (a x)) 0) ≤ 257
  weights_small m i l =
      let part = sum_part (λ x. cond (m x) (weight (a x)) 0) (λ x. weight (a x)) (λ x. less (m x) (weight (a x))) i 257 l in
      ∥∥₁_elim k le_prop (λ z. let t = table_records a formed n z.root z.accounted in let f = z.accounted.few in omega arith)
    where
      less : (t : Bool) (w : ℕ) → cond t w 0 ≤ w
      less true w = omega arith
      less false w = omega arith

  -- what is below an object costs what its objects stand for
  pub subtree_records : (x : ℕ) → IsLive (a x).body → (m : ℕ → Bool) → ((i : ℕ) → Tells a x i (m i)) → (w : ℕ → ℕ) → sum 257 (λ i. cond (m i) (weight (a i)) 0) ≡ cost (at (path_to a x) (tree_of w a))
  subtree_records x l m tells w =
      ∥∥₁_elim k (ℕ_set _ _) (λ z. subtree_cost a formed n z.root z.accounted x l m tells) ∙ cost_at_any a formed blank w x l

  pub depth_small : (d : ℕ) → IsLive (a d).body → (a d).depth ≤ 256
  depth_small d l = let h = shallow a formed d l in omega arith
