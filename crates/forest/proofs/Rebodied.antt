-- One object's body or pages change, and no link does. Assumes nothing.
use Rattle.std.proofs.Common.{◌≡◌, ℕ, suc, ◌<◌, cond, [], Some, None, Option, sym, refl, ap, ◌∙◌, subst, ap₂, arith}
use mathlib.Core.Path.{fun_ext}
use Rattle.rules.specs.Changes.{modified}
use native.Mathlib.Decide.{ℕ_discrete}
use Rattle.rules.proofs.Assign.{assign_same, assign_other}
use Rattle.rules.specs.Indexed.{assign}
use Rattle.rules.specs.Tree.{Tree, Path}
use Rattle.forest.specs.Nodes.{Body, Node, Nodes, WellFormed, IsDir, IsSeg, IsLive, celled, with_body, with_pages}
use Rattle.forest.specs.Forest.{object_tree, entry_tree, tree_below, tree_of, reach, path_to, pages_of}
use Rattle.forest.proofs.Refine.{reach_depth, same_below, modify_at}
use Rattle.forest.proofs.Levels.{at_levels, reach_live, root_live, short, path_kept}

module _ (a b : Nodes) (s : WellFormed a) (c : ℕ) (B : Body) (P : ℕ → Option ℕ) (here : b ≡ assign a c (with_pages (with_body (a c) B) P))
    (was_live : IsLive (a c).body) (is_live : IsLive B) (dirs : IsDir (a c).body → IsDir B) (cells : celled B ≡ celled (a c).body)
    (own : (k v : ℕ) → P k ≡ Some v → IsSeg B × (k < 16)) where
  pub at_c : b c ≡ with_pages (with_body (a c) B) P
  at_c = ap (λ (f : Nodes). f c) here ∙ assign_same a c _

  pub other : (k : ℕ) → (k ≡ c → ⊥) → b k ≡ a k
  other k n = ap (λ (f : Nodes). f k) here ∙ assign_other a c k _ n

  -- what holds at c and elsewhere
  pub split : (R : ℕ → Node → Type 0) → R c (with_pages (with_body (a c) B) P) → (k : ℕ) → ((k ≡ c → ⊥) → R k (a k)) → R k (b k)
  split R rc k rk = go (ℕ_discrete k c)
    where
      go : Dec (k ≡ c) → R k (b k)
      go (yes q) = subst (λ (y : ℕ). R y (b y)) (sym q) (subst (R c) (sym at_c) rc)
      go (no q) = subst (R k) (sym (other k q)) (rk q)

  pub links : (k : ℕ) → ((b k).parent ≡ (a k).parent) × ((b k).place ≡ (a k).place) × ((b k).depth ≡ (a k).depth) × ((b k).entry ≡ (a k).entry)
  links k = split (λ y n. (n.parent ≡ (a y).parent) × (n.place ≡ (a y).place) × (n.depth ≡ (a y).depth) × (n.entry ≡ (a y).entry)) (refl, refl, refl, refl) k (λ _. (refl, refl, refl, refl))

  payers : (k : ℕ) → (b k).payer ≡ (a k).payer
  payers k = split (λ y n. n.payer ≡ (a y).payer) refl k (λ _. refl)

  same_celled : (k : ℕ) → celled (b k).body ≡ celled (a k).body
  same_celled k = split (λ y n. celled n.body ≡ celled (a y).body) cells k (λ _. refl)

  pub whole : (k : ℕ) → IsDir (a k).body → IsDir (b k).body
  whole k h = split (λ y n. IsDir (a y).body → IsDir n.body) dirs k (λ _ g. g) h

  pub live : (k : ℕ) → IsLive (a k).body → IsLive (b k).body
  live k h = split (λ y n. IsLive (a y).body → IsLive n.body) (λ _. is_live) k (λ _ g. g) h

  pub alive : (k : ℕ) → IsLive (b k).body → IsLive (a k).body
  alive k h = split (λ y n. IsLive n.body → IsLive (a y).body) (λ _. was_live) k (λ _ g. g) h

  pub rebodied_sound : WellFormed b
  rebodied_sound =
      record {
        root = whole 0 s.root;
        funds = same_celled 0 ∙ s.funds;
        top = (links 0).2 ∙ s.top;
        few = λ k l. s.few k (alive k l);
        down = λ i e j h.
            let o = s.down i e j (sym (ap (λ (f : ℕ → Option ℕ). f e) (links i).3) ∙ h) in
            record { whole = whole i o.whole; within = o.within; live = live j o.live; up = (links j).0 ∙ o.up; place = (links j).1 ∙ o.place; depth = (links j).2 ∙ o.depth ∙ ap suc (sym (links i).2) };
        mirror = λ j l n.
            ap (λ (p : ℕ). (b p).entry (b j).place) (links j).0 ∙ ap (λ (x : ℕ). (b (a j).parent).entry x) (links j).1
            ∙ ap (λ (f : ℕ → Option ℕ). f (a j).place) (links (a j).parent).3 ∙ s.mirror j (alive j l) n;
        pages = λ i k v. split (λ y n. n.page k ≡ Some v → IsSeg n.body × (k < 16)) (own k v) i (λ _. s.pages i k v);
        pays = λ k l.
            payers k ∙ s.pays k (alive k l)
            ∙ ap₂ (λ t z. cond t k z) (sym (same_celled k)) (sym (payers (a k).parent) ∙ ap (λ (p : ℕ). (b p).payer) (sym (links k).0));
      }

  pub rebodied_path : (i : ℕ) → IsLive (a i).body → path_to b i ≡ path_to a i
  rebodied_path = path_kept a b s (λ k _. let l = links k in (l.0, l.1, l.2))

  module _ (v w : ℕ → ℕ) (F : Tree → Tree) (others : (k : ℕ) → (k ≡ c → ⊥) → IsLive (a k).body → pages_of w (a k).page ≡ pages_of v (a k).page)
      (turned : (places : ℕ → Tree) → object_tree w B P places ≡ F (object_tree v (a c).body (a c).page places)) where
    local : (n : ℕ) → tree_below w (suc n) b c ≡ F (tree_below v (suc n) a c)
    unfolding tree_below
    local n =
        subst (λ (x : Node). object_tree w x.body x.page (λ e. entry_tree (tree_below w n b) (x.entry e)) ≡ F (tree_below v (suc n) a c)) (sym at_c)
        (turned _ ∙ ap (λ places. F (object_tree v (a c).body (a c).page places)) (fun_ext (λ x. below x ((a c).entry x) refl)))
      where
        below : (x : ℕ) (o : Option ℕ) → (a c).entry x ≡ o → entry_tree (tree_below w n b) o ≡ entry_tree (tree_below v n a) o
        below x None q = refl
        below x (Some y) q =
            let h = s.down c x y q in
            same_below v w n a b y (λ r z f.
            let ne : z ≡ c → ⊥ = λ t. let u = reach_depth a s r y z f in let d = ap (λ (m : ℕ). (a m).depth) t in let e = h.depth in omega arith in
            (other z ne, others z ne (reach_live a s r y z h.live f)))

    pub rebodied_tree : (p : Path) → reach a 0 p ≡ Some c → tree_of w b ≡ modified F p (tree_of v a)
    unfolding tree_of
    rebodied_tree p f =
        at_levels v w 258 p a b F (short a s p c f) (λ k. modify_at v w p (suc (suc k)) a b s 0 c F f
        (λ r z fr out. let ne : z ≡ c → ⊥ = λ q. out [] (ap Some (sym q)) in (other z ne, others z ne (reach_live a s r 0 z (root_live a s) fr)))
        (local (suc k)))
