-- The pages of a segment change, and the cell that it uses pays or has records back. Assumes nothing.
use Rattle.std.proofs.Common.{◌≡◌, ℕ, suc, ◌+◌, ◌<◌, ◌≤◌, true, Some, Option, sym, refl, ap, ◌∙◌, subst, true≢false}
use Rattle.labels.specs.declared.label.Label.{Label}
use Rattle.rules.proofs.Assign.{assign_same, assign_twice, assign_self}
use Rattle.rules.proofs.Balance.{Fit, Fair, Rooted, fit_tree, rooted_tree}
use Rattle.rules.proofs.Places.{On}
use Rattle.rules.specs.Cells.{no_cell}
use Rattle.rules.specs.Changes.{Change, pages_after, changed, change, tree_after, modified}
use Rattle.rules.specs.Indexed.{assign}
use Rattle.rules.specs.Segments.{present_pages}
use Rattle.rules.specs.Tree.{Tree, segment, at}
use Rattle.forest.specs.Nodes.{Body, unused, seg, dir, Node, Nodes, WellFormed, IsSeg, IsLive, celled, charged_body, with_body, with_pages, with_page, Uses}
use Rattle.forest.specs.Forest.{object_tree, entry_tree, tree_below, tree_of, reach, path_to, cell_at, label_at, pages_of}
use Rattle.forest.specs.Accounts.{Accounted, blank}
use Rattle.forest.proofs.Beneath.{path_reaches}
use Rattle.forest.proofs.Pays.{payer_celled, charge_sound, charge_other, charge_live, charge_path, charge_pages, charge_tree}
use Rattle.forest.proofs.Rebodied as rebodied
use Rattle.forest.proofs.Rebodied.{rebodied_sound, rebodied_path, rebodied_tree}
use Rattle.forest.proofs.Found.{found_at, stands}
use Rattle.forest.proofs.Accounts.{any_words}

pub seg_live : (t : Body) → IsSeg t → IsLive t
seg_live unused h = h
seg_live seg h = tt
seg_live (dir l c) h = absurd h

seg_is : (t : Body) → IsSeg t → t ≡ seg
seg_is unused h = absurd h
seg_is seg h = refl
seg_is (dir l c) h = absurd h

seg_uncelled : (t : Body) → IsSeg t → celled t ≡ true → ⊥
seg_uncelled unused h q = h
seg_uncelled seg h q = true≢false (sym q)
seg_uncelled (dir l c) h q = h

module _ (a a₁ b : Nodes) (s : WellFormed a) (i c p q : ℕ) (P : ℕ → Option ℕ) (is_seg : IsSeg (a i).body) (uses : Uses a i c)
    (w₀ : a₁ ≡ assign a c (with_body (a c) (charged_body p q (a c).body)))
    (w₁ : b ≡ assign a₁ i (with_pages (a₁ i) P)) (within : (k v : ℕ) → P k ≡ Some v → k < 16) where
  live_i : IsLive (a i).body
  live_i = seg_live (a i).body is_seg

  s₁ : WellFormed a₁
  s₁ = charge_sound a a₁ s i c p q live_i uses w₀

  not_payer : i ≡ c → ⊥
  not_payer e = seg_uncelled (a i).body is_seg (ap (λ (k : ℕ). celled (a k).body) e ∙ payer_celled a s i c uses)

  pub same_i : a₁ i ≡ a i
  same_i = charge_other a a₁ s i c p q live_i uses w₀ i not_payer

  seg₁ : IsSeg (a₁ i).body
  seg₁ = subst (λ (n : Node). IsSeg n.body) (sym same_i) is_seg

  pub paged_sound : WellFormed b
  paged_sound = rebodied_sound a₁ b s₁ i (a₁ i).body P w₁ (seg_live (a₁ i).body seg₁) (seg_live (a₁ i).body seg₁) (λ h. h) refl (λ k v h. (seg₁, within k v h))

  pub paged_live : (k : ℕ) → IsLive (a k).body → IsLive (b k).body
  paged_live k l = rebodied.live a₁ b s₁ i (a₁ i).body P w₁ (seg_live (a₁ i).body seg₁) (seg_live (a₁ i).body seg₁) (λ h. h) refl (λ k v h. (seg₁, within k v h)) k (charge_live a a₁ s i c p q live_i uses w₀ k l)

  pub paged_path : (k : ℕ) → IsLive (a k).body → path_to b k ≡ path_to a k
  paged_path k l =
      rebodied_path a₁ b s₁ i (a₁ i).body P w₁ (seg_live (a₁ i).body seg₁) (seg_live (a₁ i).body seg₁) (λ h. h) refl (λ k v h. (seg₁, within k v h)) k (charge_live a a₁ s i c p q live_i uses w₀ k l)
      ∙ charge_path a a₁ s i c p q live_i uses w₀ k l

  module _ (v w : ℕ → ℕ) (x : Change) (others : (k : ℕ) → (k ≡ i → ⊥) → pages_of w (a k).page ≡ pages_of v (a k).page) (own : pages_of w P ≡ pages_after x (pages_of v (a i).page)) where
    others₁ : (k : ℕ) → (k ≡ i → ⊥) → IsLive (a₁ k).body → pages_of w (a₁ k).page ≡ pages_of v (a₁ k).page
    others₁ k n l = subst (λ (ps : ℕ → Option ℕ). pages_of w ps ≡ pages_of v ps) (sym (charge_pages a a₁ s i c p q live_i uses w₀ k)) (others k n)

    turned : (places : ℕ → Tree) → object_tree w (a₁ i).body P places ≡ changed x (object_tree v (a₁ i).body (a₁ i).page places)
    turned places =
        subst (λ (t : Body). object_tree w t P places ≡ changed x (object_tree v t (a₁ i).page places)) (sym (seg_is (a₁ i).body seg₁))
        (ap segment (own ∙ ap (λ (n : Node). pages_after x (pages_of v n.page)) (sym same_i)))

    -- the tree is the one that the rules name
    pub paged_tree : tree_of w b ≡ tree_after (path_to a i) (change x p q) (tree_of v a)
    paged_tree =
        let path = charge_path a a₁ s i c p q live_i uses w₀ i live_i in
        rebodied_tree a₁ b s₁ i (a₁ i).body P w₁ (seg_live (a₁ i).body seg₁) (seg_live (a₁ i).body seg₁) (λ h. h) refl (λ k v h. (seg₁, within k v h)) v w (changed x) others₁ turned (path_to a i)
        (subst (λ r. reach a₁ 0 r ≡ Some i) path (path_reaches a₁ s₁ i (charge_live a a₁ s i c p q live_i uses w₀ i live_i)))
        ∙ ap (modified (changed x) (path_to a i)) (charge_tree a a₁ s i c p q live_i uses w₀ v)

    pub paged_accounted : (r : ℕ) (root : Label) → Accounted r root a → p ≤ (cell_at a c).left + q → present_pages (pages_after x (pages_of v (a i).page)) + q ≡ present_pages (pages_of v (a i).page) + p → Accounted r root b
    paged_accounted r root acc enough eq =
        let (f, o) = any_words blank v a r root (acc.fit, acc.rooted) in
        let (n, e) = stands a s v i live_i in
        let found' = found_at a s v (label_at a i) no_cell i c live_i uses in
        let here : at (path_to a i) (tree_of v a) ≡ segment (pages_of v (a i).page) = e ∙ ap (λ t. object_tree v t (a i).page (λ y. entry_tree (tree_below v (suc n) a) ((a i).entry y))) (seg_is (a i).body is_seg) in
        let fair : Fair x p q (cell_at a c) (at (path_to a i) (tree_of v a)) = subst (Fair x p q (cell_at a c)) (sym here) (enough, eq) in
        let fit' = fit_tree (path_to a i) (tree_of v a) (label_at a i) no_cell (change x p q) f (subst (On (λ m k t. Fair x p q k t)) (sym found') fair) in
        let back = any_words w blank b r root (subst Fit (sym paged_tree) fit', subst (Rooted r root) (sym paged_tree) (rooted_tree r root (path_to a i) (change x p q) (tree_of v a) o)) in
        record { fit = back.0; rooted = back.1; few = acc.few }

-- one page of one node, and then another
pub page_again : (a b b' : Nodes) (i k : ℕ) (P : ℕ → Option ℕ) (o : Option ℕ) → b ≡ assign a i (with_pages (a i) P) → b' ≡ assign b i (with_page (b i) k o) → b' ≡ assign a i (with_pages (a i) (assign P k o))
page_again a b b' i k P o e f =
    let bi : b i ≡ with_pages (a i) P = ap (λ (g : Nodes). g i) e ∙ assign_same a i _ in
    f ∙ ap (λ (n : Node). assign b i (with_page n k o)) bi ∙ ap (λ (g : Nodes). assign g i (with_pages (a i) (assign P k o))) e ∙ assign_twice a i _ _

pub page_self : (a : Nodes) (i : ℕ) (P : ℕ → Option ℕ) → P ≡ (a i).page → a ≡ assign a i (with_pages (a i) P)
page_self a i P e = sym (assign_self a i) ∙ ap (λ (Q : ℕ → Option ℕ). assign a i (with_pages (a i) Q)) (sym e)
