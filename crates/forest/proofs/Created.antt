-- A new object in the table: the table stays well formed, and the tree has it at its place. Assumes nothing.
use Rattle.std.proofs.Common.{◌≡◌, ℕ, suc, ◌<◌, Bool, true, false, cond, eqb, [], Some, None, Option, sym, refl, ap, ◌∙◌, subst, true≢false, arith, eq-eqb, ne_eqb}
use mathlib.Core.Path.{fun_ext}
use native.Mathlib.Decide.{ℕ_discrete}
use Rattle.rules.proofs.Assign.{assign_same, assign_other}
use Rattle.rules.specs.Changes.{create, change_place, changed, modified}
use Rattle.rules.specs.Indexed.{assign}
use Rattle.rules.specs.Tree.{Tree, empty, directory, Path}
use Rattle.forest.specs.Nodes.{Body, unused, seg, dir, Node, Nodes, Holds, WellFormed, IsDir, IsSeg, IsLive, celled, with_body, with_entry, with_place}
use Rattle.forest.specs.Forest.{object_tree, entry_tree, tree_below, tree_of, reach, path_to}
use Rattle.forest.proofs.Refine.{reach_depth, same_below, modify_at, Kept}
use Rattle.forest.proofs.Depth.{dir_live}
use Rattle.forest.proofs.Levels.{at_levels, reach_live, root_live, short, path_kept}

-- b is a with a new object at j, of the body N, held by the place e of d
pub record Created (a b : Nodes) (d e j y : ℕ) (N : Body) : Type 0 where
  pub here : b d ≡ with_entry (a d) e (Some j)
  pub new : b j ≡ record { body = N; parent = d; place = e; depth = suc (a d).depth; payer = y; entry = (a j).entry; page = (a j).page }
  pub rest : (k : ℕ) → (k ≡ d → ⊥) → (k ≡ j → ⊥) → b k ≡ a k

pub none_not_some : (o : Option ℕ) (k : ℕ) → o ≡ None → o ≡ Some k → ⊥
none_not_some o k p q = let z : ◌≡◌ {A = ℕ} 0 1 = cc in omega arith

module _ (a b : Nodes) (s : WellFormed a) (d e j y : ℕ) (N : Body) (m : Created a b d e j y N)
    (whole : IsDir (a d).body) (within : e < 16) (vacant : (a d).entry e ≡ None) (free : (a j).body ≡ unused) (within_table : j < 257) (is_live : IsLive N)
    (pays : y ≡ cond (celled N) j (a d).payer) where
  live_other : (k : ℕ) → IsLive (a k).body → k ≡ j → ⊥
  live_other k l q = subst IsLive (ap (λ (x : ℕ). (a x).body) q ∙ free) l

  d_other : d ≡ j → ⊥
  d_other = live_other d (dir_live (a d).body whole)

  new_empty : (x : ℕ) → (a j).entry x ≡ None
  new_empty x = go ((a j).entry x) refl
    where
      go : (o : Option ℕ) → (a j).entry x ≡ o → o ≡ None
      go None q = refl
      go (Some k) q = absurd (subst IsDir free (s.down j x k q).whole)

  -- but for j, an object keeps its links
  keeps : (k : ℕ) → (k ≡ j → ⊥) → ((b k).parent ≡ (a k).parent) × ((b k).place ≡ (a k).place) × ((b k).depth ≡ (a k).depth)
  keeps k n = go (ℕ_discrete k d)
    where
      go : Dec (k ≡ d) → ((b k).parent ≡ (a k).parent) × ((b k).place ≡ (a k).place) × ((b k).depth ≡ (a k).depth)
      go (yes q) = subst (λ (x : ℕ). ((b x).parent ≡ (a x).parent) × ((b x).place ≡ (a x).place) × ((b x).depth ≡ (a x).depth)) (sym q) (ap (λ (v : Node). v.parent) m.here, ap (λ (v : Node). v.place) m.here, ap (λ (v : Node). v.depth) m.here)
      go (no q) = let r = m.rest k q n in (ap (λ (v : Node). v.parent) r, ap (λ (v : Node). v.place) r, ap (λ (v : Node). v.depth) r)

  keeps_directory : (k : ℕ) → IsDir (a k).body → IsDir (b k).body
  keeps_directory k h = go (ℕ_discrete k d)
    where
      go : Dec (k ≡ d) → IsDir (b k).body
      go (yes q) = subst (λ (x : ℕ). IsDir (b x).body) (sym q) (subst (λ (v : Node). IsDir v.body) (sym m.here) whole)
      go (no q) = subst (λ (v : Node). IsDir v.body) (sym (m.rest k q (live_other k (dir_live (a k).body h)))) h

  keeps_live : (k : ℕ) → IsLive (a k).body → IsLive (b k).body
  keeps_live k h = go (ℕ_discrete k d)
    where
      go : Dec (k ≡ d) → IsLive (b k).body
      go (yes q) = subst (λ (x : ℕ). IsLive (b x).body) (sym q) (subst (λ (v : Node). IsLive v.body) (sym m.here) (dir_live _ whole))
      go (no q) = subst (λ (v : Node). IsLive v.body) (sym (m.rest k q (live_other k h))) h

  lift : (i x y : ℕ) → Holds a i x y → Holds b i x y
  lift i x y h =
      let ny = live_other y h.live in
      let ni = live_other i (dir_live (a i).body h.whole) in
      let ky = keeps y ny in
      let ki = keeps i ni in
      record { whole = keeps_directory i h.whole; within = h.within; live = keeps_live y h.live; up = ky.0 ∙ h.up; place = ky.1 ∙ h.place; depth = ky.2 ∙ h.depth ∙ ap suc (sym ki.2) }

  held : Holds b d e j
  held =
      record {
        whole = keeps_directory d whole;
        within = within;
        live = subst (λ (v : Node). IsLive v.body) (sym m.new) is_live;
        up = ap (λ (v : Node). v.parent) m.new;
        place = ap (λ (v : Node). v.place) m.new;
        depth = ap (λ (v : Node). v.depth) m.new ∙ ap suc (sym (keeps d d_other).2);
      }

  -- the entries after, place by place
  entry_new : (x : ℕ) → (b j).entry x ≡ (a j).entry x
  entry_new x = ap (λ (v : Node). v.entry x) m.new

  entry_e : (x : ℕ) → x ≡ e → (b d).entry x ≡ Some j
  entry_e x q = ap (λ (v : Node). v.entry x) m.here ∙ ap (λ t. cond t (Some j) ((a d).entry x)) (eq-eqb x e q)

  entry_d : (x : ℕ) → (x ≡ e → ⊥) → (b d).entry x ≡ (a d).entry x
  entry_d x q = ap (λ (v : Node). v.entry x) m.here ∙ ap (λ t. cond t (Some j) ((a d).entry x)) (ne_eqb x e q)

  down' : (i x y : ℕ) → (b i).entry x ≡ Some y → Holds b i x y
  down' i x y h = at_d (ℕ_discrete i d)
    where
      at_e : i ≡ d → Dec (x ≡ e) → Holds b i x y
      at_e q (yes r) =
          let hd : (b d).entry x ≡ Some y = subst (λ (k : ℕ). (b k).entry x ≡ Some y) q h in
          let s = entry_e x r in
          let yj : j ≡ y = cc in
          subst (λ (k : ℕ). Holds b k x y) (sym q) (subst (λ (k : ℕ). Holds b d k y) (sym r) (subst (λ (k : ℕ). Holds b d e k) yj held))
      at_e q (no r) =
          let hd : (b d).entry x ≡ Some y = subst (λ (k : ℕ). (b k).entry x ≡ Some y) q h in
          subst (λ (k : ℕ). Holds b k x y) (sym q) (lift d x y (s.down d x y (sym (entry_d x r) ∙ hd)))

      at_j : (i ≡ d → ⊥) → Dec (i ≡ j) → Holds b i x y
      at_j q (yes r) =
          let hj : (b j).entry x ≡ Some y = subst (λ (k : ℕ). (b k).entry x ≡ Some y) r h in
          absurd (none_not_some ((b j).entry x) y (entry_new x ∙ new_empty x) hj)
      at_j q (no r) = lift i x y (s.down i x y (sym (ap (λ (v : Node). v.entry x) (m.rest i q r)) ∙ h))

      at_d : Dec (i ≡ d) → Holds b i x y
      at_d (yes q) = at_e q (ℕ_discrete x e)
      at_d (no q) = at_j q (ℕ_discrete i j)

  mirror' : (k : ℕ) → IsLive (b k).body → (k ≡ 0 → ⊥) → (b (b k).parent).entry (b k).place ≡ Some k
  mirror' k l n = at_j (ℕ_discrete k j)
    where
      was_live : (k ≡ j → ⊥) → Dec (k ≡ d) → IsLive (a k).body
      was_live q (yes r) = subst (λ (x : ℕ). IsLive (a x).body) (sym r) (dir_live (a d).body whole)
      was_live q (no r) = subst (λ (v : Node). IsLive v.body) (m.rest k r q) l

      onto : (p x : ℕ) → (a p).entry x ≡ Some k → Dec (p ≡ d) → Dec (x ≡ e) → (b p).entry x ≡ Some k
      onto p x h (yes q) (yes r) = absurd (none_not_some ((a d).entry e) k vacant (ap (λ (y : ℕ). (a d).entry y) (sym r) ∙ ap (λ (y : ℕ). (a y).entry x) (sym q) ∙ h))
      onto p x h (yes q) (no r) = ap (λ (y : ℕ). (b y).entry x) q ∙ entry_d x r ∙ ap (λ (y : ℕ). (a y).entry x) (sym q) ∙ h
      onto p x h (no q) r = ap (λ (v : Node). v.entry x) (m.rest p q (live_other p (dir_live (a p).body (s.down p x k h).whole))) ∙ h

      at_j : Dec (k ≡ j) → (b (b k).parent).entry (b k).place ≡ Some k
      at_j (yes q) =
          subst (λ (x : ℕ). (b (b x).parent).entry (b x).place ≡ Some x) (sym q)
          (ap (λ (v : Node). (b v.parent).entry v.place) m.new ∙ entry_e e refl)
      at_j (no q) =
          let ks = keeps k q in
          let h = s.mirror k (was_live q (ℕ_discrete k d)) n in
          ap (λ (p : ℕ). (b p).entry (b k).place) ks.0 ∙ ap (λ (x : ℕ). (b (a k).parent).entry x) ks.1 ∙ onto (a k).parent (a k).place h (ℕ_discrete (a k).parent d) (ℕ_discrete (a k).place e)

  -- what is in use after was in use, or is new
  was : (k : ℕ) → (k ≡ j → ⊥) → IsLive (b k).body → IsLive (a k).body
  was k n l = go (ℕ_discrete k d)
    where
      go : Dec (k ≡ d) → IsLive (a k).body
      go (yes q) = subst (λ (x : ℕ). IsLive (a x).body) (sym q) (dir_live (a d).body whole)
      go (no q) = subst (λ (v : Node). IsLive v.body) (m.rest k q n) l

  few' : (k : ℕ) → IsLive (b k).body → k < 257
  few' k l = go (ℕ_discrete k j)
    where
      go : Dec (k ≡ j) → k < 257
      go (yes q) = omega arith
      go (no q) = s.few k (was k q l)

  new_pageless : (k : ℕ) → (a j).page k ≡ None
  new_pageless k = go ((a j).page k) refl
    where
      go : (o : Option ℕ) → (a j).page k ≡ o → o ≡ None
      go None q = refl
      go (Some v) q = absurd (subst IsSeg free (s.pages j k v q).0)

  pages' : (i k v : ℕ) → (b i).page k ≡ Some v → IsSeg (b i).body × (k < 16)
  pages' i k v h = at_d (ℕ_discrete i d)
    where
      at_j : (i ≡ d → ⊥) → Dec (i ≡ j) → IsSeg (b i).body × (k < 16)
      at_j q (yes r) = absurd (none_not_some ((b j).page k) v (ap (λ (n : Node). n.page k) m.new ∙ new_pageless k) (subst (λ (x : ℕ). (b x).page k ≡ Some v) r h))
      at_j q (no r) = subst (λ (n : Node). n.page k ≡ Some v → IsSeg n.body × (k < 16)) (sym (m.rest i q r)) (s.pages i k v) h

      at_d : Dec (i ≡ d) → IsSeg (b i).body × (k < 16)
      at_d (yes q) = subst (λ (x : ℕ). (b x).page k ≡ Some v → IsSeg (b x).body × (k < 16)) (sym q) (subst (λ (n : Node). n.page k ≡ Some v → IsSeg n.body × (k < 16)) (sym m.here) (s.pages d k v)) h
      at_d (no q) = at_j q (ℕ_discrete i j)

  funds' : celled (b 0).body ≡ true
  funds' = go (ℕ_discrete 0 d)
    where
      go : Dec (0 ≡ d) → celled (b 0).body ≡ true
      go (yes q) = subst (λ (x : ℕ). celled (b x).body ≡ celled (a x).body) (sym q) (ap (λ (n : Node). celled n.body) m.here) ∙ s.funds
      go (no q) = ap (λ (n : Node). celled n.body) (m.rest 0 q (live_other 0 (dir_live (a 0).body s.root))) ∙ s.funds

  -- but for j, an object keeps its payer and whether it has a cell
  keeps_payer : (k : ℕ) → (k ≡ j → ⊥) → ((b k).payer ≡ (a k).payer) × (celled (b k).body ≡ celled (a k).body)
  keeps_payer k n = go (ℕ_discrete k d)
    where
      go : Dec (k ≡ d) → ((b k).payer ≡ (a k).payer) × (celled (b k).body ≡ celled (a k).body)
      go (yes q) = subst (λ (x : ℕ). ((b x).payer ≡ (a x).payer) × (celled (b x).body ≡ celled (a x).body)) (sym q) (ap (λ (v : Node). v.payer) m.here, ap (λ (v : Node). celled v.body) m.here)
      go (no q) = let r = m.rest k q n in (ap (λ (v : Node). v.payer) r, ap (λ (v : Node). celled v.body) r)

  pays' : (k : ℕ) → IsLive (b k).body → (b k).payer ≡ cond (celled (b k).body) k (b (b k).parent).payer
  pays' k l = go (ℕ_discrete k j)
    where
      above : (k ≡ j → ⊥) → (t : Bool) → celled (a k).body ≡ t → cond t k (a (a k).parent).payer ≡ cond t k (b (b k).parent).payer
      above q true h = refl
      above q false h =
          let nz : k ≡ 0 → ⊥ = λ z. true≢false (sym s.funds ∙ ap (λ (i : ℕ). celled (a i).body) (sym z) ∙ h) in
          let up = dir_live _ (s.down (a k).parent (a k).place k (s.mirror k (was k q l) nz)).whole in
          sym (keeps_payer (a k).parent (live_other (a k).parent up)).0 ∙ ap (λ (p : ℕ). (b p).payer) (sym (keeps k q).0)

      go : Dec (k ≡ j) → (b k).payer ≡ cond (celled (b k).body) k (b (b k).parent).payer
      go (yes q) =
          subst (λ (x : ℕ). (b x).payer ≡ cond (celled (b x).body) x (b (b x).parent).payer) (sym q)
          (ap (λ (v : Node). v.payer) m.new ∙ pays
          ∙ ap (cond (celled N) j) (sym (keeps_payer d d_other).0)
          ∙ sym (ap (λ (v : Node). cond (celled v.body) j (b v.parent).payer) m.new))
      go (no q) =
          (keeps_payer k q).0 ∙ s.pays k (was k q l) ∙ above q (celled (a k).body) refl
          ∙ ap (λ (t : Bool). cond t k (b (b k).parent).payer) (sym (keeps_payer k q).1)

  pub created_sound : WellFormed b
  created_sound =
      record {
        funds = funds';
        few = few';
        pages = pages';
        root = keeps_directory 0 s.root;
        top = (keeps 0 (live_other 0 (dir_live (a 0).body s.root))).2 ∙ s.top;
        down = down';
        mirror = mirror';
        pays = pays';
      }

  pub created_path : (i : ℕ) → IsLive (a i).body → path_to b i ≡ path_to a i
  created_path = path_kept a b s (λ k l. keeps k (live_other k l))

  pub created_live : (i : ℕ) → IsLive (a i).body → IsLive (b i).body
  created_live = keeps_live

  -- what a path leads to, other than d, did not change
  unchanged : (v : ℕ → ℕ) (i : ℕ) → IsLive (a i).body → (r : Path) (c : ℕ) → reach a i r ≡ Some c → (c ≡ d → ⊥) → Kept v v a b c
  unchanged v i l r c f q = (m.rest c q (live_other c (reach_live a s r i c l f)), refl)

  module _ (v : ℕ → ℕ) (new_tree : Tree) (stands : object_tree v N (λ _. None) (λ _. empty) ≡ new_tree) where
    -- d itself, to two levels at least
    created_here : (n : ℕ) → tree_below v (suc (suc n)) b d ≡ changed (change_place e (create new_tree)) (tree_below v (suc (suc n)) a d)
    unfolding tree_below
    created_here n =
        subst (λ (x : Node). object_tree v x.body x.page (λ y. entry_tree (tree_below v (suc n) b) (x.entry y)) ≡ changed (change_place e (create new_tree)) (tree_below v (suc (suc n)) a d)) (sym m.here) (planted (a d).body whole)
      where
        fresh : tree_below v (suc n) b j ≡ new_tree
        fresh =
            subst (λ (x : Node). object_tree v x.body x.page (λ y. entry_tree (tree_below v n b) (x.entry y)) ≡ new_tree) (sym m.new)
            (ap (λ (places : ℕ → Tree). object_tree v N (a j).page places) (fun_ext (λ x. ap (entry_tree (tree_below v n b)) (new_empty x)))
            ∙ ap (λ (ps : ℕ → Option ℕ). object_tree v N ps (λ _. empty)) (fun_ext new_pageless) ∙ stands)

        below : (x : ℕ) (o : Option ℕ) → (a d).entry x ≡ o → entry_tree (tree_below v (suc n) b) o ≡ entry_tree (tree_below v (suc n) a) o
        below x None q = refl
        below x (Some y) q =
            let h = s.down d x y q in
            same_below v v (suc n) a b y (λ r c f. unchanged v y h.live r c f (λ t. let g = reach_depth a s r y c f in let u = ap (λ (z : ℕ). (a z).depth) t in let z = h.depth in omega arith))

        each : (x : ℕ) (t : Bool) → eqb x e ≡ t → entry_tree (tree_below v (suc n) b) (cond t (Some j) ((a d).entry x)) ≡ cond t new_tree (entry_tree (tree_below v (suc n) a) ((a d).entry x))
        each x true q = fresh
        each x false q = below x ((a d).entry x) refl

        planted : (t : Body) → IsDir t → object_tree v t (a d).page (λ x. entry_tree (tree_below v (suc n) b) (assign (a d).entry e (Some j) x)) ≡ changed (change_place e (create new_tree)) (object_tree v t (a d).page (λ x. entry_tree (tree_below v (suc n) a) ((a d).entry x)))
        planted unused h = absurd h
        planted seg h = absurd h
        planted (dir l c) h = ap (directory l c) (fun_ext (λ x. each x (eqb x e) refl))

    -- the whole tree
    pub created_tree : (p : Path) → reach a 0 p ≡ Some d → tree_of v b ≡ modified (changed (change_place e (create new_tree))) p (tree_of v a)
    unfolding tree_of
    created_tree p f =
        at_levels v v 258 p a b _ (short a s p d f) (λ k. modify_at v v p (suc (suc k)) a b s 0 d _ f
        (λ r c fr out. unchanged v 0 (root_live a s) r c fr (λ q. out [] (ap Some (sym q)))) (created_here k))

-- what the three writes of a creation come to
module _ (a a₁ a₂ b : Nodes) (d e j y depth : ℕ) (N : Body) (apart : d ≡ j → ⊥)
    (w₁ : a₁ ≡ assign a d (with_entry (a d) e (Some j)))
    (w₂ : a₂ ≡ assign a₁ j (with_body (a₁ j) N))
    (w₃ : b ≡ assign a₂ j (with_place (a₂ j) d e depth y))
    (deeper : depth ≡ suc (a d).depth) where
  to : (f g : Nodes) → f ≡ g → (k : ℕ) → f k ≡ g k
  to f g q k = ap (λ (h : Nodes). h k) q

  flip : j ≡ d → ⊥
  flip q = apart (sym q)

  pub created : Created a b d e j y N
  created =
      record {
        here = to b _ w₃ d ∙ assign_other a₂ j d _ apart ∙ to a₂ _ w₂ d ∙ assign_other a₁ j d _ apart ∙ to a₁ _ w₁ d ∙ assign_same a d _;
        new =
            to b _ w₃ j ∙ assign_same a₂ j _ ∙ ap (λ (n : Node). with_place n d e depth y) (to a₂ _ w₂ j ∙ assign_same a₁ j _ ∙ ap (λ (n : Node). with_body n N) (to a₁ _ w₁ j ∙ assign_other a d j _ flip))
            ∙ ap (λ (k : ℕ). with_place (with_body (a j) N) d e k y) deeper;
        rest = λ k nd nj. to b _ w₃ k ∙ assign_other a₂ j k _ nj ∙ to a₂ _ w₂ k ∙ assign_other a₁ j k _ nj ∙ to a₁ _ w₁ k ∙ assign_other a d k _ nd;
      }
