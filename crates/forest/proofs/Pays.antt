-- The cell that an object uses pays. Assumes nothing.
use Rattle.std.proofs.Common.{◌≡◌, ℕ, zero, suc, ◌<◌, Bool, true, false, cond, [], ◌∷◌, ◌++◌, Some, None, sym, refl, ap, ◌∙◌, subst, true≢false, arith}
use Rattle.labels.specs.declared.label.Label.{Label}
use Rattle.rules.specs.Cells.{charge, paying_path}
use Rattle.rules.specs.Changes.{map_own_cell, modified, charged}
use Rattle.rules.specs.Indexed.{assign}
use Rattle.rules.specs.Tree.{Tree, directory, Path, Cell}
use Rattle.forest.specs.Nodes.{Body, unused, seg, dir, Nodes, WellFormed, IsDir, IsSeg, IsLive, celled, with_body, charged_body, Uses, own, parents}
use Rattle.forest.specs.Forest.{object_tree, tree_of, reach, path_to}
use Rattle.forest.proofs.Beneath.{parent_live, parent_depth, path_reaches}
use Rattle.forest.proofs.Levels.{celled_at, directory_at, path_of_child}
use Rattle.forest.proofs.Paying.{paying_own, paying_up}
use Rattle.forest.proofs.Rebodied as rebodied
use Rattle.forest.proofs.Rebodied.{rebodied_sound, rebodied_tree, rebodied_path}

module _ (a : Nodes) (s : WellFormed a) where
  pub payer_celled : (d c : ℕ) → Uses a d c → celled (a c).body ≡ true
  payer_celled d c (own h) = h
  payer_celled d c (parents z h u) = payer_celled (a d).parent c u

  -- the root has a cell
  pub below_root : (k : ℕ) → celled (a k).body ≡ false → k ≡ 0 → ⊥
  below_root k h q = true≢false (sym s.funds ∙ ap (λ (i : ℕ). celled (a i).body) (sym q) ∙ h)

  pub payer_live : (d c : ℕ) → IsLive (a d).body → Uses a d c → IsLive (a c).body
  payer_live d c l (own h) = l
  payer_live d c l (parents z h u) = payer_live (a d).parent c (parent_live a s d l z) u

  -- the payer of an object is the one whose cell it uses
  uses_up : (n d : ℕ) → (a d).depth ≡ n → IsLive (a d).body → (t : Bool) → celled (a d).body ≡ t → Uses a d (cond t d (a (a d).parent).payer)
  uses_up n d h l true q = own q
  uses_up zero d h l false q = let e = parent_depth a s d l (below_root d q) in absurd (omega arith)
  uses_up (suc n) d h l false q =
      let nz = below_root d q in
      let up = parent_live a s d l nz in
      let e = parent_depth a s d l nz in
      parents nz q (subst (Uses a (a d).parent) (sym (s.pays (a d).parent up)) (uses_up n (a d).parent (omega arith) up (celled (a (a d).parent).body) refl))

  pub uses_payer : (d : ℕ) → IsLive (a d).body → Uses a d (a d).payer
  uses_payer d l = subst (Uses a d) (sym (s.pays d l)) (uses_up (a d).depth d refl l (celled (a d).body) refl)

  -- and its path is the paying path
  pub payer_path : (v : ℕ → ℕ) (d c : ℕ) → IsLive (a d).body → Uses a d c → paying_path (path_to a d) (tree_of v a) ≡ Some (path_to a c)
  payer_path v d c l (own h) = paying_own (path_to a d) (tree_of v a) (celled_at v a (path_to a d) d s (path_reaches a s d l) ∙ h)
  payer_path v d c l (parents z h u) =
      let up = parent_live a s d l z in
      let q = path_of_child a s d l z in
      let whole = (s.down (a d).parent (a d).place d (s.mirror d l z)).whole in
      ap (λ p. paying_path p (tree_of v a)) q
      ∙ paying_up (path_to a (a d).parent) (a d).place (tree_of v a)
      (directory_at v a (path_to a (a d).parent) (a d).parent s (path_reaches a s (a d).parent up) whole)
      (celled_at v a (path_to a (a d).parent ++ ((a d).place ∷ [])) d s (subst (λ p. reach a 0 p ≡ Some d) q (path_reaches a s d l)) ∙ h)
      ∙ payer_path v (a d).parent c up u

module _ (a b : Nodes) (s : WellFormed a) (c : ℕ) (l : Label) (x y : Cell) (was : (a c).body ≡ dir l (Some x)) (here : b ≡ assign a c (with_body (a c) (dir l (Some y)))) where
  live_c : IsLive (a c).body
  live_c = subst IsLive (sym was) tt

  celled_c : celled (dir l (Some y)) ≡ celled (a c).body
  celled_c = sym (ap celled was)

  pages_c : (k v : ℕ) → (a c).page k ≡ Some v → IsSeg (dir l (Some y)) × (k < 16)
  pages_c k v h = absurd (subst IsSeg was (s.pages c k v h).0)

  pub paid_sound : WellFormed b
  paid_sound = rebodied_sound a b s c (dir l (Some y)) (a c).page here live_c tt (λ _. tt) celled_c pages_c

  pub paid_path : (i : ℕ) → IsLive (a i).body → path_to b i ≡ path_to a i
  paid_path = rebodied_path a b s c (dir l (Some y)) (a c).page here live_c tt (λ _. tt) celled_c pages_c

  pub recelled_tree : (v : ℕ → ℕ) (F : Tree → Tree) → ((places : ℕ → Tree) → directory l (Some y) places ≡ F (directory l (Some x) places)) → (p : Path) → reach a 0 p ≡ Some c → tree_of v b ≡ modified F p (tree_of v a)
  recelled_tree v F h p f =
      rebodied_tree a b s c (dir l (Some y)) (a c).page here live_c tt (λ _. tt) celled_c pages_c v v F (λ k _ _. refl)
      (λ places. h places ∙ ap (λ (t : Body). F (object_tree v t (a c).page places)) (sym was)) p f

  -- d's payer pays
  pub paid_tree : (v : ℕ → ℕ) (g : Cell → Cell) → y ≡ g x → (d : ℕ) → IsLive (a d).body → Uses a d c
      → tree_of v b ≡ charged g (paying_path (path_to a d) (tree_of v a)) (tree_of v a)
  paid_tree v g e d ld u =
      recelled_tree v (map_own_cell g) (λ places. ap (λ z. directory l (Some z) places) e) (path_to a c) (path_reaches a s c live_c)
      ∙ ap (λ r. charged g r (tree_of v a)) (sym (payer_path a s v d c ld u))

-- the payer's body is that of a directory with a cell
pub celled_dir : (t : Body) → celled t ≡ true → (l : Label) × (x : Cell) × (t ≡ dir l (Some x))
celled_dir unused q = absurd (true≢false (sym q))
celled_dir seg q = absurd (true≢false (sym q))
celled_dir (dir m None) q = absurd (true≢false (sym q))
celled_dir (dir m (Some x)) q = (m, x, refl)

charged_live : (p q : ℕ) (t : Body) → IsLive t → IsLive (charged_body p q t)
charged_live p q unused l = l
charged_live p q seg l = l
charged_live p q (dir m c) l = l

charged_dir : (p q : ℕ) (t : Body) → IsDir t → IsDir (charged_body p q t)
charged_dir p q unused l = l
charged_dir p q seg l = l
charged_dir p q (dir m c) l = l

charged_celled : (p q : ℕ) (t : Body) → celled (charged_body p q t) ≡ celled t
charged_celled p q unused = refl
charged_celled p q seg = refl
charged_celled p q (dir m None) = refl
charged_celled p q (dir m (Some x)) = refl

charged_seg : (p q : ℕ) (t : Body) → IsSeg t → IsSeg (charged_body p q t)
charged_seg p q unused l = l
charged_seg p q seg l = l
charged_seg p q (dir m c) l = l

-- the cell that d uses gives p records and takes q back
module _ (a b : Nodes) (s : WellFormed a) (d c p q : ℕ) (live_d : IsLive (a d).body) (uses : Uses a d c) (here : b ≡ assign a c (with_body (a c) (charged_body p q (a c).body))) where
  live_payer : IsLive (a c).body
  live_payer = payer_live a s d c live_d uses

  own_pages : (k v : ℕ) → (a c).page k ≡ Some v → IsSeg (charged_body p q (a c).body) × (k < 16)
  own_pages k v h = (charged_seg p q (a c).body (s.pages c k v h).0, (s.pages c k v h).1)

  pub charge_sound : WellFormed b
  charge_sound = rebodied_sound a b s c (charged_body p q (a c).body) (a c).page here live_payer (charged_live p q (a c).body live_payer) (charged_dir p q (a c).body) (charged_celled p q (a c).body) own_pages

  pub charge_other : (k : ℕ) → (k ≡ c → ⊥) → b k ≡ a k
  charge_other = rebodied.other a b s c (charged_body p q (a c).body) (a c).page here live_payer (charged_live p q (a c).body live_payer) (charged_dir p q (a c).body) (charged_celled p q (a c).body) own_pages

  pub charge_links : (k : ℕ) → ((b k).parent ≡ (a k).parent) × ((b k).place ≡ (a k).place) × ((b k).depth ≡ (a k).depth) × ((b k).entry ≡ (a k).entry)
  charge_links = rebodied.links a b s c (charged_body p q (a c).body) (a c).page here live_payer (charged_live p q (a c).body live_payer) (charged_dir p q (a c).body) (charged_celled p q (a c).body) own_pages

  pub charge_dir : (k : ℕ) → IsDir (a k).body → IsDir (b k).body
  charge_dir = rebodied.whole a b s c (charged_body p q (a c).body) (a c).page here live_payer (charged_live p q (a c).body live_payer) (charged_dir p q (a c).body) (charged_celled p q (a c).body) own_pages

  pub charge_live : (k : ℕ) → IsLive (a k).body → IsLive (b k).body
  charge_live = rebodied.live a b s c (charged_body p q (a c).body) (a c).page here live_payer (charged_live p q (a c).body live_payer) (charged_dir p q (a c).body) (charged_celled p q (a c).body) own_pages

  pub charge_was : (k : ℕ) → IsLive (b k).body → IsLive (a k).body
  charge_was = rebodied.alive a b s c (charged_body p q (a c).body) (a c).page here live_payer (charged_live p q (a c).body live_payer) (charged_dir p q (a c).body) (charged_celled p q (a c).body) own_pages

  pub charge_path : (i : ℕ) → IsLive (a i).body → path_to b i ≡ path_to a i
  charge_path = rebodied_path a b s c (charged_body p q (a c).body) (a c).page here live_payer (charged_live p q (a c).body live_payer) (charged_dir p q (a c).body) (charged_celled p q (a c).body) own_pages

  pub charge_pages : (i : ℕ) → (b i).page ≡ (a i).page
  charge_pages i = rebodied.split a b s c (charged_body p q (a c).body) (a c).page here live_payer (charged_live p q (a c).body live_payer) (charged_dir p q (a c).body) (charged_celled p q (a c).body) own_pages (λ y n. n.page ≡ (a y).page) refl i (λ _. refl)

  pub charge_payer : (i : ℕ) → (b i).payer ≡ (a i).payer
  charge_payer i = rebodied.split a b s c (charged_body p q (a c).body) (a c).page here live_payer (charged_live p q (a c).body live_payer) (charged_dir p q (a c).body) (charged_celled p q (a c).body) own_pages (λ y n. n.payer ≡ (a y).payer) refl i (λ _. refl)

  pub charge_tree : (v : ℕ → ℕ) → tree_of v b ≡ charged (charge p q) (paying_path (path_to a d) (tree_of v a)) (tree_of v a)
  charge_tree v =
      let (l, x, was) = celled_dir (a c).body (payer_celled a s d c uses) in
      paid_tree a b s c l x (charge p q x) was (here ∙ ap (λ (t : Body). assign a c (with_body (a c) (charged_body p q t))) was) v (charge p q) refl d live_d uses

pub celled_is_dir : (t : Body) → celled t ≡ true → IsDir t
celled_is_dir unused q = absurd (true≢false (sym q))
celled_is_dir seg q = absurd (true≢false (sym q))
celled_is_dir (dir m c) q = tt
