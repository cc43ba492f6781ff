-- A new object, paid for by the cell that its directory uses. Assumes nothing.
use Rattle.std.proofs.Common.{◌≡◌, ℕ, suc, ◌<◌, ◌≤◌, cond, Some, None, Option, sym, refl, ap, ◌∙◌, subst, arith}
use native.Mathlib.Decide.{ℕ_discrete}
use Rattle.rules.proofs.Balance.{Fit, fit_at}
use Rattle.labels.specs.declared.label.Label.{Label}
use Rattle.rules.specs.Cells.{cost}
use Rattle.rules.specs.Changes.{create, change_place, changed, change, tree_after, modified}
use Rattle.rules.specs.Indexed.{assign}
use Rattle.rules.specs.Tree.{Tree, empty, at}
use Rattle.forest.specs.Nodes.{Body, unused, Node, Nodes, WellFormed, IsDir, IsLive, celled, charged_body, with_body, with_entry, with_place, Uses}
use Rattle.forest.specs.Forest.{object_tree, tree_of, reach, path_to, cell_at}
use Rattle.forest.specs.Accounts.{Accounted, blank}
use Rattle.forest.proofs.Depth.{dir_live}
use Rattle.forest.proofs.Beneath.{path_reaches}
use Rattle.forest.proofs.Levels.{directory_at}
use Rattle.forest.proofs.Pays.{payer_live, charge_sound, charge_other, charge_links, charge_dir, charge_live, charge_path, charge_pages, charge_payer, charge_tree}
use Rattle.forest.proofs.Created.{Created, created, created_sound, created_path, created_live, created_tree}
use Rattle.forest.proofs.Accounts.{accounted_after, fair_change, place_none}

module _ (a a₁ a₂ a₃ b : Nodes) (s : WellFormed a) (d e j c y depth n : ℕ) (N : Body)
    (whole : IsDir (a d).body) (within : e < 16) (vacant : (a d).entry e ≡ None) (free : (a j).body ≡ unused) (in_table : j < 257) (is_live : IsLive N) (uses : Uses a d c)
    (w₀ : a₁ ≡ assign a c (with_body (a c) (charged_body n 0 (a c).body)))
    (w₁ : a₂ ≡ assign a₁ d (with_entry (a₁ d) e (Some j)))
    (w₂ : a₃ ≡ assign a₂ j (with_body (a₂ j) N))
    (w₃ : b ≡ assign a₃ j (with_place (a₃ j) d e depth y))
    (deeper : depth ≡ suc (a d).depth) (pays : y ≡ cond (celled N) j (a d).payer) where
  live_d : IsLive (a d).body
  live_d = dir_live (a d).body whole

  s₁ : WellFormed a₁
  s₁ = charge_sound a a₁ s d c n 0 live_d uses w₀

  whole₁ : IsDir (a₁ d).body
  whole₁ = charge_dir a a₁ s d c n 0 live_d uses w₀ d whole

  vacant₁ : (a₁ d).entry e ≡ None
  vacant₁ = ap (λ (f : ℕ → Option ℕ). f e) (charge_links a a₁ s d c n 0 live_d uses w₀ d).3 ∙ vacant

  not_live : (k : ℕ) → IsLive (a k).body → j ≡ k → ⊥
  not_live k l q = subst IsLive (sym (ap (λ (x : ℕ). (a x).body) q) ∙ free) l

  free₁ : (a₁ j).body ≡ unused
  free₁ = ap (λ (x : Node). x.body) (charge_other a a₁ s d c n 0 live_d uses w₀ j (not_live c (payer_live a s d c live_d uses))) ∙ free

  pays₁ : y ≡ cond (celled N) j (a₁ d).payer
  pays₁ = pays ∙ ap (cond (celled N) j) (sym (charge_payer a a₁ s d c n 0 live_d uses w₀ d))

  it : Created a₁ b d e j y N
  it = created a₁ a₂ a₃ b d e j y depth N (λ q. not_live d live_d (sym q)) w₁ w₂ w₃ (deeper ∙ ap suc (sym (charge_links a a₁ s d c n 0 live_d uses w₀ d).2))

  pub inserted_sound : WellFormed b
  inserted_sound = created_sound a₁ b s₁ d e j y N it whole₁ within vacant₁ free₁ in_table is_live pays₁

  pub inserted_live : (i : ℕ) → IsLive (a i).body → IsLive (b i).body
  inserted_live i l = created_live a₁ b s₁ d e j y N it whole₁ within vacant₁ free₁ in_table is_live pays₁ i (charge_live a a₁ s d c n 0 live_d uses w₀ i l)

  pub inserted_path : (i : ℕ) → IsLive (a i).body → path_to b i ≡ path_to a i
  inserted_path i l =
      created_path a₁ b s₁ d e j y N it whole₁ within vacant₁ free₁ in_table is_live pays₁ i (charge_live a a₁ s d c n 0 live_d uses w₀ i l)
      ∙ charge_path a a₁ s d c n 0 live_d uses w₀ i l

  pub inserted_pages : (i : ℕ) → (b i).page ≡ (a i).page
  inserted_pages i = at_d (ℕ_discrete i d) ∙ charge_pages a a₁ s d c n 0 live_d uses w₀ i
    where
      at_j : (i ≡ d → ⊥) → Dec (i ≡ j) → (b i).page ≡ (a₁ i).page
      at_j q (yes r) = subst (λ (x : ℕ). (b x).page ≡ (a₁ x).page) (sym r) (ap (λ (x : Node). x.page) it.new)
      at_j q (no r) = ap (λ (x : Node). x.page) (it.rest i q r)

      at_d : Dec (i ≡ d) → (b i).page ≡ (a₁ i).page
      at_d (yes q) = subst (λ (x : ℕ). (b x).page ≡ (a₁ x).page) (sym q) (ap (λ (x : Node). x.page) it.here)
      at_d (no q) = at_j q (ℕ_discrete i j)

  -- the tree is the one that the rules name
  pub inserted_tree : (v : ℕ → ℕ) (t : Tree) → object_tree v N (λ _. None) (λ _. empty) ≡ t → tree_of v b ≡ tree_after (path_to a d) (change (change_place e (create t)) n 0) (tree_of v a)
  inserted_tree v t h =
      let path = charge_path a a₁ s d c n 0 live_d uses w₀ d live_d in
      created_tree a₁ b s₁ d e j y N it whole₁ within vacant₁ free₁ in_table is_live pays₁ v t h (path_to a d)
      (subst (λ p. reach a₁ 0 p ≡ Some d) path (path_reaches a₁ s₁ d (charge_live a a₁ s d c n 0 live_d uses w₀ d live_d)))
      ∙ ap (modified (changed (change_place e (create t))) (path_to a d)) (charge_tree a a₁ s d c n 0 live_d uses w₀ v)

  pub inserted_accounted : (r : ℕ) (root : Label) → Accounted r root a → Fit (object_tree blank N (λ _. None) (λ _. empty)) → cost (object_tree blank N (λ _. None) (λ _. empty)) ≡ n → n ≤ (cell_at a c).left → Accounted r root b
  inserted_accounted r root acc fit is enough =
      let t = object_tree blank N (λ _. None) (λ _. empty) in
      let u = at (path_to a d) (tree_of blank a) in
      let place_empty = place_none a s blank d whole e vacant in
      let no_cost = ap cost place_empty in
      accounted_after a s r root acc b (change_place e (create t)) n 0 d c live_d uses
      (fair_change u (cell_at a c) e (create t) n 0 (directory_at blank a (path_to a d) d s (path_reaches a s d live_d) whole) (fit_at (path_to a d) (tree_of blank a) acc.fit) within fit (omega arith) (omega arith))
      (inserted_tree blank t refl)
