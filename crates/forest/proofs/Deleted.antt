-- An object and all below it leave the table: it stays well formed, and the tree has nothing at that place. Assumes nothing.
use Rattle.std.proofs.Common.{◌≡◌, ℕ, suc, ◌<◌, Bool, true, false, cond, eqb, [], ◌∷◌, Some, None, Option, sym, refl, ap, ◌∙◌, subst, true≢false, arith, eq-eqb, ne_eqb}
use mathlib.Core.Path.{fun_ext}
use native.Mathlib.Decide.{ℕ_discrete}
use borrow.Author.Tests.{eqb-false}
use Rattle.rules.proofs.Assign.{assign_same, assign_other}
use Rattle.rules.specs.Changes.{remove, change_place, changed, modified}
use Rattle.rules.specs.Indexed.{assign}
use Rattle.rules.specs.Tree.{empty, directory, Path}
use Rattle.forest.specs.Nodes.{Body, unused, seg, dir, Node, Nodes, Holds, WellFormed, IsDir, IsSeg, IsLive, celled, with_entry, cleared, Under, itself, above, Tells}
use Rattle.forest.specs.Forest.{object_tree, entry_tree, tree_below, tree_of, reach, path_to}
use Rattle.forest.proofs.Refine.{reach_step, reach_depth, same_below, modify_at, Kept, Outside, apart}
use Rattle.forest.proofs.Depth.{dir_live}
use Rattle.forest.proofs.Beneath.{under_up, under_route, under_depth}
use Rattle.forest.proofs.Levels.{at_levels, reach_live, root_live, short, path_kept}
use Rattle.forest.proofs.Created.{none_not_some}

-- b is a without x, at place e of d, and without what m marks
pub record Deleted (a b : Nodes) (d e : ℕ) (m : ℕ → Bool) : Type 0 where
  pub here : b d ≡ with_entry (a d) e None
  pub gone : (k : ℕ) → m k ≡ true → b k ≡ cleared (a k)
  pub rest : (k : ℕ) → (k ≡ d → ⊥) → m k ≡ false → b k ≡ a k

not_both : (t : Bool) → t ≡ true → t ≡ false → ⊥
not_both t p q = let z : ◌≡◌ {A = ℕ} 0 1 = cc in omega arith

module _ (a b : Nodes) (s : WellFormed a) (d e x : ℕ) (m : ℕ → Bool) (del : Deleted a b d e m) (holds : (a d).entry e ≡ Some x) (tells : (k : ℕ) → Tells a x k (m k)) where
  link : Holds a d e x
  link = s.down d e x holds

  -- what is marked lies under x, and what lies under x is marked
  marked : (k : ℕ) → m k ≡ true → IsLive (a k).body × Under a x k
  marked k h = subst (Tells a x k) h (tells k)

  stays : (k : ℕ) → IsLive (a k).body → (Under a x k → ⊥) → m k ≡ false
  stays k l n = go (m k) refl
    where
      go : (t : Bool) → m k ≡ t → t ≡ false
      go true q = absurd (n (marked k q).1)
      go false q = refl

  not_under : (k : ℕ) → IsLive (a k).body → m k ≡ false → Under a x k → ⊥
  not_under k l h u = subst (Tells a x k) h (tells k) l u

  d_live : IsLive (a d).body
  d_live = dir_live (a d).body link.whole

  d_above : Under a x d → ⊥
  d_above u = let t = under_depth a s x d u d_live in let v = link.depth in omega arith

  d_stays : m d ≡ false
  d_stays = stays d d_live d_above

  -- but for its entries, what stays is as it was
  keeps : (k : ℕ) → m k ≡ false → ((b k).body ≡ (a k).body) × ((b k).parent ≡ (a k).parent) × ((b k).place ≡ (a k).place) × ((b k).depth ≡ (a k).depth)
  keeps k h = go (ℕ_discrete k d)
    where
      go : Dec (k ≡ d) → ((b k).body ≡ (a k).body) × ((b k).parent ≡ (a k).parent) × ((b k).place ≡ (a k).place) × ((b k).depth ≡ (a k).depth)
      go (yes q) = subst (λ (y : ℕ). ((b y).body ≡ (a y).body) × ((b y).parent ≡ (a y).parent) × ((b y).place ≡ (a y).place) × ((b y).depth ≡ (a y).depth)) (sym q) (ap (λ (v : Node). v.body) del.here, ap (λ (v : Node). v.parent) del.here, ap (λ (v : Node). v.place) del.here, ap (λ (v : Node). v.depth) del.here)
      go (no q) = let r = del.rest k q h in (ap (λ (v : Node). v.body) r, ap (λ (v : Node). v.parent) r, ap (λ (v : Node). v.place) r, ap (λ (v : Node). v.depth) r)

  entry_e : (y : ℕ) → y ≡ e → (b d).entry y ≡ None
  entry_e y q = ap (λ (v : Node). v.entry y) del.here ∙ ap (λ t. cond t None ((a d).entry y)) (eq-eqb y e q)

  entry_d : (y : ℕ) → (y ≡ e → ⊥) → (b d).entry y ≡ (a d).entry y
  entry_d y q = ap (λ (v : Node). v.entry y) del.here ∙ ap (λ t. cond t None ((a d).entry y)) (ne_eqb y e q)

  -- a child that is not x at e stays where its parent does
  child_stays : (i y k : ℕ) → m i ≡ false → (a i).entry y ≡ Some k → (i ≡ d → y ≡ e → ⊥) → m k ≡ false
  child_stays i y k h c n =
      let o = s.down i y k c in
      stays k o.live (λ u. go u (ℕ_discrete k x))
    where
      go : Under a x k → Dec (k ≡ x) → ⊥
      go u (yes q) =
          let o = s.down i y k c in
          n (sym o.up ∙ ap (λ (z : ℕ). (a z).parent) q ∙ link.up) (sym o.place ∙ ap (λ (z : ℕ). (a z).place) q ∙ link.place)
      go u (no q) =
          let o = s.down i y k c in
          not_under i (dir_live (a i).body o.whole) h (subst (λ (z : ℕ). Under a x z) o.up (under_up a x k u q).1)

  lift : (i y k : ℕ) → m i ≡ false → m k ≡ false → Holds a i y k → Holds b i y k
  lift i y k hi hk o =
      let ki = keeps i hi in
      let kk = keeps k hk in
      record { whole = subst IsDir (sym ki.0) o.whole; within = o.within; live = subst IsLive (sym kk.0) o.live; up = kk.1 ∙ o.up; place = kk.2 ∙ o.place; depth = kk.3 ∙ o.depth ∙ ap suc (sym ki.3) }

  down' : (i y k : ℕ) → (b i).entry y ≡ Some k → Holds b i y k
  down' i y k h = by_mark (m i) refl
    where
      at_e : i ≡ d → Dec (y ≡ e) → Holds b i y k
      at_e q (yes r) = absurd (none_not_some ((b d).entry y) k (entry_e y r) (subst (λ (z : ℕ). (b z).entry y ≡ Some k) q h))
      at_e q (no r) =
          let c : (a d).entry y ≡ Some k = sym (entry_d y r) ∙ subst (λ (z : ℕ). (b z).entry y ≡ Some k) q h in
          subst (λ (z : ℕ). Holds b z y k) (sym q) (lift d y k d_stays (child_stays d y k d_stays c (λ _ v. r v)) (s.down d y k c))

      at_d : m i ≡ false → Dec (i ≡ d) → Holds b i y k
      at_d f (yes q) = at_e q (ℕ_discrete y e)
      at_d f (no q) =
          let c : (a i).entry y ≡ Some k = sym (ap (λ (v : Node). v.entry y) (del.rest i q f)) ∙ h in
          lift i y k f (child_stays i y k f c (λ v _. q v)) (s.down i y k c)

      by_mark : (t : Bool) → m i ≡ t → Holds b i y k
      by_mark true q = absurd (none_not_some ((b i).entry y) k (ap (λ (v : Node). v.entry y) (del.gone i q)) h)
      by_mark false q = at_d q (ℕ_discrete i d)

  mirror' : (k : ℕ) → IsLive (b k).body → (k ≡ 0 → ⊥) → (b (b k).parent).entry (b k).place ≡ Some k
  mirror' k l n = by_mark (m k) refl
    where
      onto : m k ≡ false → IsLive (a k).body → (p y : ℕ) → (a k).parent ≡ p → (a p).entry y ≡ Some k → Dec (p ≡ d) → Dec (y ≡ e) → (b p).entry y ≡ Some k
      onto f la p y up c (yes q) (yes r) =
          let cd : (a d).entry e ≡ Some k = ap (λ (z : ℕ). (a d).entry z) (sym r) ∙ ap (λ (z : ℕ). (a z).entry y) (sym q) ∙ c in
          let xk : x ≡ k = cc in
          absurd (not_under k la f (subst (λ (z : ℕ). Under a x z) xk itself))
      onto f la p y up c (yes q) (no r) = ap (λ (z : ℕ). (b z).entry y) q ∙ entry_d y r ∙ ap (λ (z : ℕ). (a z).entry y) (sym q) ∙ c
      onto f la p y up c (no q) r =
          let o = s.down p y k c in
          ap (λ (v : Node). v.entry y) (del.rest p q (stays p (dir_live (a p).body o.whole) (λ u. not_under k la f (above n (subst (λ (z : ℕ). Under a x z) (sym up) u))))) ∙ c

      by_mark : (t : Bool) → m k ≡ t → (b (b k).parent).entry (b k).place ≡ Some k
      by_mark true q = absurd (subst (λ (v : Node). IsLive v.body) (del.gone k q) l)
      by_mark false q =
          let ks = keeps k q in
          let la = subst IsLive ks.0 l in
          ap (λ (z : ℕ). (b z).entry (b k).place) ks.1 ∙ ap (λ (z : ℕ). (b (a k).parent).entry z) ks.2
          ∙ onto q la (a k).parent (a k).place refl (s.mirror k la n) (ℕ_discrete (a k).parent d) (ℕ_discrete (a k).place e)

  root_stays : m 0 ≡ false
  root_stays = stays 0 (dir_live (a 0).body s.root) (λ u. let t = under_depth a s x 0 u (dir_live (a 0).body s.root) in let v = link.depth in let z = s.top in omega arith)

  -- pages are as they were, or gone
  pages' : (i k v : ℕ) → (b i).page k ≡ Some v → IsSeg (b i).body × (k < 16)
  pages' i k v h = by_mark (m i) refl
    where
      at_d : m i ≡ false → Dec (i ≡ d) → IsSeg (b i).body × (k < 16)
      at_d f (yes q) = subst (λ (z : ℕ). (b z).page k ≡ Some v → IsSeg (b z).body × (k < 16)) (sym q) (subst (λ (n : Node). n.page k ≡ Some v → IsSeg n.body × (k < 16)) (sym del.here) (s.pages d k v)) h
      at_d f (no q) = subst (λ (n : Node). n.page k ≡ Some v → IsSeg n.body × (k < 16)) (sym (del.rest i q f)) (s.pages i k v) h

      by_mark : (t : Bool) → m i ≡ t → IsSeg (b i).body × (k < 16)
      by_mark true q = absurd (none_not_some ((b i).page k) v (ap (λ (n : Node). n.page k) (del.gone i q)) h)
      by_mark false q = at_d q (ℕ_discrete i d)

  few' : (k : ℕ) → IsLive (b k).body → k < 257
  few' k l = go (m k) refl
    where
      go : (t : Bool) → m k ≡ t → k < 257
      go true q = absurd (subst (λ (n : Node). IsLive n.body) (del.gone k q) l)
      go false q = s.few k (subst IsLive (keeps k q).0 l)

  keeps_payer : (k : ℕ) → m k ≡ false → (b k).payer ≡ (a k).payer
  keeps_payer k h = go (ℕ_discrete k d)
    where
      go : Dec (k ≡ d) → (b k).payer ≡ (a k).payer
      go (yes q) = subst (λ (y : ℕ). (b y).payer ≡ (a y).payer) (sym q) (ap (λ (v : Node). v.payer) del.here)
      go (no q) = ap (λ (v : Node). v.payer) (del.rest k q h)

  pays' : (k : ℕ) → IsLive (b k).body → (b k).payer ≡ cond (celled (b k).body) k (b (b k).parent).payer
  pays' k l = go (m k) refl
    where
      above : m k ≡ false → IsLive (a k).body → (t : Bool) → celled (a k).body ≡ t → cond t k (a (a k).parent).payer ≡ cond t k (b (b k).parent).payer
      above q la true h = refl
      above q la false h =
          let nz : k ≡ 0 → ⊥ = λ z. true≢false (sym s.funds ∙ ap (λ (i : ℕ). celled (a i).body) (sym z) ∙ h) in
          let up = dir_live _ (s.down (a k).parent (a k).place k (s.mirror k la nz)).whole in
          let kept = stays (a k).parent up (λ u. not_under k la q (Under.above nz u)) in
          sym (keeps_payer (a k).parent kept) ∙ ap (λ (p : ℕ). (b p).payer) (sym (keeps k q).1)

      go : (t : Bool) → m k ≡ t → (b k).payer ≡ cond (celled (b k).body) k (b (b k).parent).payer
      go true q = absurd (subst (λ (n : Node). IsLive n.body) (del.gone k q) l)
      go false q =
          let la = subst IsLive (keeps k q).0 l in
          keeps_payer k q ∙ s.pays k la ∙ above q la (celled (a k).body) refl
          ∙ ap (λ (t : Bool). cond t k (b (b k).parent).payer) (sym (ap celled (keeps k q).0))

  pub deleted_sound : WellFormed b
  deleted_sound =
      let k = keeps 0 root_stays in
      record { funds = ap celled k.0 ∙ s.funds; few = few'; pages = pages'; root = subst IsDir (sym k.0) s.root; top = k.3 ∙ s.top; down = down'; mirror = mirror'; pays = pays' }

  -- every link is as it was
  links : (k : ℕ) → ((b k).parent ≡ (a k).parent) × ((b k).place ≡ (a k).place) × ((b k).depth ≡ (a k).depth)
  links k = go (m k) refl
    where
      go : (t : Bool) → m k ≡ t → ((b k).parent ≡ (a k).parent) × ((b k).place ≡ (a k).place) × ((b k).depth ≡ (a k).depth)
      go true q = let g = del.gone k q in (ap (λ (n : Node). n.parent) g, ap (λ (n : Node). n.place) g, ap (λ (n : Node). n.depth) g)
      go false q = let g = keeps k q in (g.1, g.2, g.3)

  pub deleted_path : (i : ℕ) → IsLive (a i).body → path_to b i ≡ path_to a i
  deleted_path = path_kept a b s (λ k _. links k)

  pub deleted_keeps : (k : ℕ) → IsLive (a k).body → m k ≡ false → IsLive (b k).body
  deleted_keeps k l h = subst IsLive (sym (keeps k h).0) l

  -- what does not lie under d did not change
  outside : (w : ℕ → ℕ) (i : ℕ) → IsLive (a i).body → (r : Path) (c : ℕ) → reach a i r ≡ Some c → Outside a d c → Kept w w a b c
  outside w i l r c f out =
      let lc = reach_live a s r i c l f in (
        del.rest c (λ q. out [] (ap Some (sym q)))
            (stays c lc (λ u. let (p, g) = under_route a s x c u lc in out (e ∷ p) (reach_step a d e x p holds ∙ g))),
        refl,
      )

  module _ (w : ℕ → ℕ) where
    deleted_here : (n : ℕ) → tree_below w (suc n) b d ≡ changed (change_place e remove) (tree_below w (suc n) a d)
    unfolding tree_below
    deleted_here n =
        subst (λ (v : Node). object_tree w v.body v.page (λ y. entry_tree (tree_below w n b) (v.entry y)) ≡ changed (change_place e remove) (tree_below w (suc n) a d)) (sym del.here) (planted (a d).body link.whole)
      where
        below : (y : ℕ) → (y ≡ e → ⊥) → (o : Option ℕ) → (a d).entry y ≡ o → entry_tree (tree_below w n b) o ≡ entry_tree (tree_below w n a) o
        below y ne None q = refl
        below y ne (Some k) q =
            let h = s.down d y k q in
            same_below w w n a b k (λ r c f.
            let lc = reach_live a s r k c h.live f in (
              del.rest c (λ v. let t = reach_depth a s r k c f in let u = ap (λ (z : ℕ). (a z).depth) v in let z = h.depth in omega arith)
                  (stays c lc (λ u. let (p, g) = under_route a s x c u lc in ne (apart a s d y e k x c r p q holds f g))),
              refl,
            ))

        each : (y : ℕ) (t : Bool) → eqb y e ≡ t → entry_tree (tree_below w n b) (cond t None ((a d).entry y)) ≡ cond t empty (entry_tree (tree_below w n a) ((a d).entry y))
        each y true q = refl
        each y false q = below y (eqb-false y e q) ((a d).entry y) refl

        planted : (t : Body) → IsDir t → object_tree w t (a d).page (λ y. entry_tree (tree_below w n b) (assign (a d).entry e None y)) ≡ changed (change_place e remove) (object_tree w t (a d).page (λ y. entry_tree (tree_below w n a) ((a d).entry y)))
        planted unused h = absurd h
        planted seg h = absurd h
        planted (dir l c) h = ap (directory l c) (fun_ext (λ y. each y (eqb y e) refl))

    pub deleted_tree : (p : Path) → reach a 0 p ≡ Some d → tree_of w b ≡ modified (changed (change_place e remove)) p (tree_of w a)
    unfolding tree_of
    deleted_tree p f = at_levels w w 258 p a b _ (short a s p d f) (λ k. modify_at w w p (suc (suc k)) a b s 0 d _ f (outside w 0 (root_live a s)) (deleted_here (suc k)))

-- what the writes of a deletion come to
module _ (a a₁ b : Nodes) (s : WellFormed a) (d e x : ℕ) (m : ℕ → Bool) (holds : (a d).entry e ≡ Some x) (tells : (k : ℕ) → Tells a x k (m k))
    (w₁ : a₁ ≡ assign a d (with_entry (a d) e None))
    (w₂ : (k : ℕ) → b k ≡ cond (m k) (cleared (a₁ k)) (a₁ k)) where
  to : (k : ℕ) → a₁ k ≡ assign a d (with_entry (a d) e None) k
  to k = ap (λ (f : Nodes). f k) w₁

  unmarked : m d ≡ false
  unmarked = go (m d) refl
    where
      go : (t : Bool) → m d ≡ t → t ≡ false
      go true q =
          let o = s.down d e x holds in
          let u = (subst (Tells a x d) q (tells d)).1 in
          let h = under_depth a s x d u (dir_live _ o.whole) in
          let g = o.depth in
          absurd (omega arith)
      go false q = refl

  pub deleted : Deleted a b d e m
  deleted =
      record {
        here = w₂ d ∙ ap (λ (t : Bool). cond t (cleared (a₁ d)) (a₁ d)) unmarked ∙ to d ∙ assign_same a d _;
        gone = λ k h. w₂ k ∙ ap (λ (t : Bool). cond t (cleared (a₁ k)) (a₁ k)) h ∙ ap cleared (to k ∙ assign_other a d k _ (λ q. not_both (m k) h (ap m q ∙ unmarked)));
        rest = λ k n h. w₂ k ∙ ap (λ (t : Bool). cond t (cleared (a₁ k)) (a₁ k)) h ∙ to k ∙ assign_other a d k _ n;
      }
