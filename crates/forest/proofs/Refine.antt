-- A change of one object changes the tree only at that object's route.
use Rattle.std.proofs.Common.{◌≡◌, ℕ, zero, suc, ◌+◌, Bool, true, false, cond, eqb, [], ◌∷◌, ◌++◌, length, Some, None, Option, sym, refl, ap, ◌∙◌, subst, arith, eqb-true}
use mathlib.Core.Path.{fun_ext}
use borrow.Author.Tests.{eqb-false}
use Rattle.rules.specs.Indexed.{assign}
use Rattle.rules.specs.Changes.{modified}
use Rattle.rules.specs.Tree.{Tree, segment, directory, Path}
use Rattle.forest.specs.Nodes.{Body, unused, seg, dir, Node, Nodes, WellFormed, IsDir}
use Rattle.forest.specs.Forest.{object_tree, entry_tree, tree_below, reach, pages_of}

-- one step down, and then on
pub reach_step : (a : Nodes) (i e j : ℕ) (p : Path) → (a i).entry e ≡ Some j → reach a i (e ∷ p) ≡ reach a j p
reach_step a i e j p h = subst (λ (o : Option ℕ). (elim o as (λ _. Option ℕ) [ None ↦ None | Some k ↦ reach a k p ]) ≡ reach a j p) (sym h) refl

-- a route that begins with e has an object there
pub reach_head : (a : Nodes) (i e d : ℕ) (p : Path) → reach a i (e ∷ p) ≡ Some d → (j : ℕ) × ((a i).entry e ≡ Some j) × (reach a j p ≡ Some d)
reach_head a i e d p = go ((a i).entry e) refl
  where
    go : (o : Option ℕ) → (a i).entry e ≡ o → (elim o as (λ _. Option ℕ) [ None ↦ None | Some k ↦ reach a k p ]) ≡ Some d → (j : ℕ) × ((a i).entry e ≡ Some j) × (reach a j p ≡ Some d)
    go None h f = let z : ◌≡◌ {A = ℕ} 0 1 = cc in absurd (omega arith)
    go (Some j) h f = (j, h, f)

module _ (a : Nodes) (w : WellFormed a) where
  -- an object lies as much deeper as the route is long
  pub reach_depth : (p : Path) (i d : ℕ) → reach a i p ≡ Some d → (a d).depth ≡ (a i).depth + length p
  reach_depth [] i d f = let e : i ≡ d = cc in let q = ap (λ (k : ℕ). (a k).depth) e in omega arith
  reach_depth (e ∷ p) i d f =
      let (j, h, g) = reach_head a i e d p f in
      let ih = reach_depth p j d g in
      let s = (w.down i e j h).depth in
      omega arith

  -- the ancestor n levels up
  abbrev climb : ℕ → ℕ → ℕ
  climb zero d = d
  climb (suc n) d = (a (climb n d)).parent

  reach_climb : (p : Path) (i d : ℕ) → reach a i p ≡ Some d → climb (length p) d ≡ i
  reach_climb [] i d f = let e : i ≡ d = cc in sym e
  reach_climb (e ∷ p) i d f =
      let (j, h, g) = reach_head a i e d p f in
      ap (λ (k : ℕ). (a k).parent) (reach_climb p j d g) ∙ (w.down i e j h).up

  -- two places of one directory do not lead to one object
  pub apart : (i x y j k d : ℕ) (p q : Path) → (a i).entry x ≡ Some j → (a i).entry y ≡ Some k → reach a j p ≡ Some d → reach a k q ≡ Some d → x ≡ y
  apart i x y j k d p q hj hk fj fk =
      let dj = reach_depth p j d fj in
      let dk = reach_depth q k d fk in
      let sj = (w.down i x j hj).depth in
      let sk = (w.down i y k hk).depth in
      let same : length p ≡ length q = omega arith in
      let jk : j ≡ k = sym (reach_climb p j d fj) ∙ ap (λ (n : ℕ). climb n d) same ∙ reach_climb q k d fk in
      sym (w.down i x j hj).place ∙ ap (λ (n : ℕ). (a n).place) jk ∙ (w.down i y k hk).place

-- the node c, and the words of its pages, are as they were
abbrev pub Kept : (ℕ → ℕ) → (ℕ → ℕ) → Nodes → Nodes → ℕ → Type 0
Kept v w a b c = (b c ≡ a c) × (pages_of w (a c).page ≡ pages_of v (a c).page)

object_kept : (v w : ℕ → ℕ) (t : Body) (ps : ℕ → Option ℕ) (f g : ℕ → Tree) → pages_of w ps ≡ pages_of v ps → f ≡ g → object_tree w t ps f ≡ object_tree v t ps g
object_kept v w unused ps f g p q = refl
object_kept v w seg ps f g p q = ap segment p
object_kept v w (dir l c) ps f g p q = ap (directory l c) q

-- where nothing below k changed, the tree below k did not
pub same_below : (v w : ℕ → ℕ) (n : ℕ) (a b : Nodes) (k : ℕ) → ((r : Path) (c : ℕ) → reach a k r ≡ Some c → Kept v w a b c) → tree_below w n b k ≡ tree_below v n a k
unfolding tree_below
same_below v w zero a b k h = refl
same_below v w (suc n) a b k h =
    subst (λ (x : Node). object_tree w x.body x.page (λ e. entry_tree (tree_below w n b) (x.entry e)) ≡ tree_below v (suc n) a k) (sym (h [] k refl).0)
    (object_kept v w (a k).body (a k).page _ _ (h [] k refl).1 (fun_ext (λ e. each (λ j g. same_below v w n a b j g) e ((a k).entry e) refl)))
  where
    each : ((j : ℕ) → ((r : Path) (c : ℕ) → reach a j r ≡ Some c → Kept v w a b c) → tree_below w n b j ≡ tree_below v n a j) → (e : ℕ) (o : Option ℕ) → (a k).entry e ≡ o → entry_tree (tree_below w n b) o ≡ entry_tree (tree_below v n a) o
    each ih e None q = refl
    each ih e (Some j) q = ih j (λ r c f. h (e ∷ r) c (reach_step a k e j r q ∙ f))

-- as many levels as the path has, and n more
abbrev pub fuel : Path → ℕ → ℕ
fuel [] n = n
fuel (e ∷ p) n = suc (fuel p n)

-- a directory whose places changed as `modified` says
modified_places : (v w : ℕ → ℕ) (e : ℕ) (p : Path) (F : Tree → Tree) (t : Body) (ps : ℕ → Option ℕ) (f g : ℕ → Tree) → IsDir t → ((x : ℕ) → f x ≡ assign g e (modified F p (g e)) x) → object_tree w t ps f ≡ modified F (e ∷ p) (object_tree v t ps g)
modified_places v w e p F unused ps f g d h = absurd d
modified_places v w e p F seg ps f g d h = absurd d
modified_places v w e p F (dir l c) ps f g d h = ap (directory l c) (fun_ext h)

-- by what a test says of two numbers
by_place : (x e : ℕ) (u v w : Tree) → (x ≡ e → u ≡ v) → ((x ≡ e → ⊥) → u ≡ w) → u ≡ cond (eqb x e) v w
by_place x e u v w yes' no' = go (eqb x e) refl
  where
    go : (t : Bool) → eqb x e ≡ t → u ≡ cond t v w
    go true q = yes' (eqb-true x e q)
    go false q = no' (eqb-false x e q)

-- a path, and then another
pub reach_append : (a : Nodes) (p q : Path) (i d : ℕ) → reach a i p ≡ Some d → reach a i (p ++ q) ≡ reach a d q
reach_append a [] q i d f = let e : i ≡ d = cc in ap (λ (k : ℕ). reach a k q) e
reach_append a (e ∷ p) q i d f = let (j, h, g) = reach_head a i e d p f in reach_step a i e j (p ++ q) h ∙ reach_append a p q j d g

-- no path leads from d to c
abbrev pub Outside : Nodes → ℕ → ℕ → Type 0
Outside a d c = (q : Path) → reach a d q ≡ Some c → ⊥

-- where only d and what lies below it changed, the tree changed at d's path alone
pub modify_at : (v w : ℕ → ℕ) (p : Path) (n : ℕ) (a b : Nodes) (s : WellFormed a) (i d : ℕ) (F : Tree → Tree)
    → reach a i p ≡ Some d
    → ((r : Path) (c : ℕ) → reach a i r ≡ Some c → Outside a d c → Kept v w a b c)
    → tree_below w n b d ≡ F (tree_below v n a d)
    → tree_below w (fuel p n) b i ≡ modified F p (tree_below v (fuel p n) a i)
unfolding tree_below
modify_at v w [] n a b s i d F f same here = let e : d ≡ i = cc in subst (λ (k : ℕ). tree_below w n b k ≡ F (tree_below v n a k)) e here
modify_at v w (e ∷ p) n a b s i d F f same here =
    let (j, h, g) = reach_head a i e d p f in
    let deep = reach_depth a s (e ∷ p) i d f in
    let out : Outside a d i = λ q fq. let t = reach_depth a s q d i fq in omega arith in
    let m = fuel p n in
    let below : tree_below w m b j ≡ modified F p (tree_below v m a j) = modify_at v w p n a b s j d F g (λ r c fr. same (e ∷ r) c (reach_step a i e j r h ∙ fr)) here in
    subst (λ (x : Node). object_tree w x.body x.page (λ y. entry_tree (tree_below w m b) (x.entry y)) ≡ modified F (e ∷ p) (tree_below v (suc m) a i)) (sym (same [] i refl out).0)
    (modified_places v w e p F (a i).body (a i).page _ _ (s.down i e j h).whole (λ x. by_place x e _ _ _
    (λ q. ap (λ (o : Option ℕ). entry_tree (tree_below w m b) o) (ap (a i).entry q ∙ h) ∙ below ∙ ap (λ (o : Option ℕ). modified F p (entry_tree (tree_below v m a) o)) (sym h))
    (λ q. other j h g x q ((a i).entry x) refl)))
  where
    other : (j : ℕ) → (a i).entry e ≡ Some j → reach a j p ≡ Some d → (x : ℕ) → (x ≡ e → ⊥) → (o : Option ℕ) → (a i).entry x ≡ o → entry_tree (tree_below w (fuel p n) b) o ≡ entry_tree (tree_below v (fuel p n) a) o
    other j h g x q None hx = refl
    other j h g x q (Some k) hx =
        same_below v w (fuel p n) a b k (λ r c fr. same (x ∷ r) c (reach_step a i x k r hx ∙ fr)
        (λ z fz. q (apart a s i x e k j c r (p ++ z) hx h fr (reach_append a p z j d g ∙ fz))))
