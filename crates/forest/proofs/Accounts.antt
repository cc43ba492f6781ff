-- Records are accounted for, in the tree and so in the table. Assumes nothing.
use Rattle.std.proofs.Common.{◌≡◌, ℕ, zero, suc, ◌+◌, ◌<◌, ◌≤◌, Bool, true, cond, Some, None, Option, sym, refl, ap, ◌∙◌, subst, true≢false, arith}
use Rattle.labels.specs.declared.label.Label.{Label}
use Rattle.rules.proofs.Balance.{Fit, Fits, Fair, Rooted, fit_at, fit_tree, rooted_tree, fair_place, census}
use Rattle.rules.proofs.Places.{On}
use Rattle.rules.proofs.Sums.{sum_ext}
use Rattle.rules.specs.Cells.{cost, no_cell}
use Rattle.rules.specs.Changes.{PlaceChange, place_after, Change, change_place, change, tree_after}
use Rattle.rules.specs.Indexed.{sum}
use Rattle.rules.specs.Segments.{presence}
use Rattle.rules.specs.Tree.{Tree, empty, segment, directory, Cell, at}
use Rattle.forest.specs.Nodes.{Body, unused, seg, dir, Nodes, WellFormed, IsDir, IsLive, is_live, Uses, Tells}
use Rattle.forest.specs.Forest.{object_tree, entry_tree, tree_below, tree_of, path_to, weight, weight_of, page_of, cell_at, cell_in, label_at}
use Rattle.forest.specs.Accounts.{Accounted, blank}
use Rattle.forest.proofs.Beneath.{path_reaches, under_root}
use Rattle.forest.proofs.Depth.{dir_live}
use Rattle.forest.proofs.Levels.{at_tree, root_live, path_at_place}
use Rattle.forest.proofs.Found.{found_at, stands, place_tree, at_place, place_object}
use Rattle.forest.proofs.Paying.{is_directory}
use Rattle.forest.proofs.Tally.{tally_table, burden, burden_tally}

-- The words of the volume do not count

module _ (v w : ℕ → ℕ) (a : Nodes) where
  presence_any : (o : Option ℕ) → presence (page_of v o) ≡ presence (page_of w o)
  presence_any None = refl
  presence_any (Some x) = refl

  cost_dir : (l : Label) (c : Option Cell) (f g : ℕ → Tree) → ((e : ℕ) → cost (f e) ≡ cost (g e)) → cost (directory l c f) ≡ cost (directory l c g)
  cost_dir l None f g h = ap (λ n. 1 + n) (sum_ext 16 h)
  cost_dir l (Some c) f g h = refl

  pub cost_any : (n i : ℕ) → cost (tree_below v n a i) ≡ cost (tree_below w n a i)
  unfolding tree_below
  cost_any zero i = refl
  cost_any (suc n) i = go (λ j. cost_any n j) (a i).body
    where
      each : ((j : ℕ) → cost (tree_below v n a j) ≡ cost (tree_below w n a j)) → (o : Option ℕ) → cost (entry_tree (tree_below v n a) o) ≡ cost (entry_tree (tree_below w n a) o)
      each ih None = refl
      each ih (Some j) = ih j

      go : ((j : ℕ) → cost (tree_below v n a j) ≡ cost (tree_below w n a j)) → (t : Body) → cost (object_tree v t (a i).page (λ e. entry_tree (tree_below v n a) ((a i).entry e))) ≡ cost (object_tree w t (a i).page (λ e. entry_tree (tree_below w n a) ((a i).entry e)))
      go ih unused = refl
      go ih seg = ap (λ n. 1 + n) (sum_ext 16 (λ k. presence_any ((a i).page k)))
      go ih (dir l c) = cost_dir l c _ _ (λ e. each ih ((a i).entry e))

  fits_alike : (c : Option Cell) (m n : ℕ) → m ≡ n → Fits c m → Fits c n
  fits_alike None m n e f = tt
  fits_alike (Some c) m n e f = omega arith

  pub fit_any : (n i : ℕ) → Fit (tree_below v n a i) → Fit (tree_below w n a i)
  unfolding tree_below
  fit_any zero i f = tt
  fit_any (suc n) i f = go (λ j. fit_any n j) (λ j. cost_any n j) (a i).body f
    where
      none_past : (e : ℕ) (o : Option ℕ) → entry_tree (tree_below v n a) o ≡ empty → entry_tree (tree_below w n a) o ≡ empty
      none_past e None q = refl
      none_past e (Some j) q = gone n j q
        where
          bare : (t : Body) (ps : ℕ → Option ℕ) (f g : ℕ → Tree) → object_tree v t ps f ≡ empty → object_tree w t ps g ≡ empty
          bare unused ps f g q = refl
          bare seg ps f g q = let z : ◌≡◌ {A = ℕ} 0 1 = cc in absurd (omega arith)
          bare (dir l c) ps f g q = let z : ◌≡◌ {A = ℕ} 0 1 = cc in absurd (omega arith)

          gone : (m j : ℕ) → tree_below v m a j ≡ empty → tree_below w m a j ≡ empty
          gone zero j q = refl
          gone (suc m) j q = bare (a j).body (a j).page _ _ q

      fit : ((j : ℕ) → Fit (tree_below v n a j) → Fit (tree_below w n a j)) → (o : Option ℕ) → Fit (entry_tree (tree_below v n a) o) → Fit (entry_tree (tree_below w n a) o)
      fit ih None g = tt
      fit ih (Some j) g = ih j g

      same : ((j : ℕ) → cost (tree_below v n a j) ≡ cost (tree_below w n a j)) → (o : Option ℕ) → cost (entry_tree (tree_below v n a) o) ≡ cost (entry_tree (tree_below w n a) o)
      same ih None = refl
      same ih (Some j) = ih j

      go : ((j : ℕ) → Fit (tree_below v n a j) → Fit (tree_below w n a j)) → ((j : ℕ) → cost (tree_below v n a j) ≡ cost (tree_below w n a j)) → (t : Body) → Fit (object_tree v t (a i).page (λ e. entry_tree (tree_below v n a) ((a i).entry e))) → Fit (object_tree w t (a i).page (λ e. entry_tree (tree_below w n a) ((a i).entry e)))
      go ih costs unused g = tt
      go ih costs seg g = tt
      go ih costs (dir l c) g = (
        fits_alike c _ _ (sum_ext 16 (λ e. same costs ((a i).entry e))) g.0,
        λ e. (fit ih ((a i).entry e) (g.1 e).0, λ h. none_past e ((a i).entry e) ((g.1 e).1 h)),
      )

  rooted_any : (r : ℕ) (m : Label) (n i : ℕ) → Rooted r m (tree_below v n a i) → Rooted r m (tree_below w n a i)
  unfolding tree_below
  rooted_any r m zero i h = h
  rooted_any r m (suc n) i h = go (a i).body h
    where
      go : (t : Body) → Rooted r m (object_tree v t (a i).page (λ e. entry_tree (tree_below v n a) ((a i).entry e))) → Rooted r m (object_tree w t (a i).page (λ e. entry_tree (tree_below w n a) ((a i).entry e)))
      go unused g = g
      go seg g = g
      go (dir l None) g = g
      go (dir l (Some c)) g = g

  pub any_words : (r : ℕ) (m : Label) → Fit (tree_of v a) × Rooted r m (tree_of v a) → Fit (tree_of w a) × Rooted r m (tree_of w a)
  unfolding tree_of
  any_words r m (f, h) = (fit_any 258 0 f, rooted_any r m 258 0 h)

-- The table

weight_free : (t : Body) (ps : ℕ → Option ℕ) → cond (is_live t) (weight_of t ps) 0 ≡ weight_of t ps
weight_free unused ps = refl
weight_free seg ps = refl
weight_free (dir l c) ps = refl

rooted_cost : (r : ℕ) (m : Label) (t : Tree) → Rooted r m t → cost t ≡ 1 + r
rooted_cost r m empty h = absurd h
rooted_cost r m (segment ps) h = absurd h
rooted_cost r m (directory l None places) h = absurd h
rooted_cost r m (directory l (Some c) places) h = ap (λ n. 1 + n) h.0

module _ (a : Nodes) (s : WellFormed a) (r : ℕ) (root : Label) (acc : Accounted r root a) where
  -- the objects of the table stand for the root and the store's records
  pub table_records : sum 257 (λ k. weight (a k)) ≡ 1 + r
  unfolding tree_of
  table_records =
      sum_ext 257 (λ k. sym (weight_free (a k).body (a k).page))
      ∙ sym (tally_table a s 258 0 (λ k. weight (a k)) (λ k. is_live (a k).body) (root_live a s) (omega arith) (λ k. tells k (a k).body refl))
      ∙ sym (burden_tally blank a s 258 0)
      ∙ census (tree_below blank 258 a 0) acc.fit
      ∙ rooted_cost r root (tree_below blank 258 a 0) acc.rooted
    where
      tells : (k : ℕ) (t : Body) → (a k).body ≡ t → Tells a 0 k (is_live t)
      tells k unused q = λ l u. subst IsLive q l
      tells k seg q = let l : IsLive (a k).body = subst IsLive (sym q) tt in (l, under_root a s (a k).depth k refl l)
      tells k (dir m c) q = let l : IsLive (a k).body = subst IsLive (sym q) tt in (l, under_root a s (a k).depth k refl l)

  one_of : (n : ℕ) (f : ℕ → ℕ) (k : ℕ) → k < n → f k ≤ sum n f
  unfolding sum
  one_of zero f k l = absurd (omega arith)
  one_of (suc n) f k l = go (native.Mathlib.Decide.ℕ_discrete k n) (λ m. one_of n f k m)
    where
      go : Dec (k ≡ n) → (k < n → f k ≤ sum n f) → f k ≤ f n + sum n f
      go (yes e) ih = let q = ap f e in omega arith
      go (no e) ih = let q = ih (omega arith) in omega arith

  -- no object stands for more
  pub weight_bound : (k : ℕ) → k < 257 → weight (a k) ≤ 1 + r
  weight_bound k l = let t = table_records in let o = one_of 257 (λ i. weight (a i)) k l in omega arith

  pub weight_cell : (t : Body) (ps : ℕ → Option ℕ) → 1 ≤ (cell_in t).left → weight_of t ps ≡ 1 + (cell_in t).left
  weight_cell unused ps h = absurd (omega arith)
  weight_cell seg ps h = absurd (omega arith)
  weight_cell (dir m None) ps h = absurd (omega arith)
  weight_cell (dir m (Some c)) ps h = refl

  -- what is below an object costs what its objects stand for
  pub subtree_cost : (x : ℕ) → IsLive (a x).body → (m : ℕ → Bool) → ((k : ℕ) → Tells a x k (m k)) → sum 257 (λ k. cond (m k) (weight (a k)) 0) ≡ cost (at (path_to a x) (tree_of blank a))
  subtree_cost x l m tells =
      let (n, h, deep) = at_tree blank a (path_to a x) x s (path_reaches a s x l) in
      sym (tally_table a s (suc (suc n)) x (λ k. weight (a k)) m l (omega arith) tells)
      ∙ sym (burden_tally blank a s (suc (suc n)) x)
      ∙ ap burden (sym h)
      ∙ census (at (path_to a x) (tree_of blank a)) (fit_at (path_to a x) (tree_of blank a) acc.fit)

  -- a change that the rules find fair keeps the accounts
  pub accounted_after : (b : Nodes) (x : Change) (p q d c : ℕ) → IsLive (a d).body → Uses a d c → Fair x p q (cell_at a c) (at (path_to a d) (tree_of blank a))
      → tree_of blank b ≡ tree_after (path_to a d) (change x p q) (tree_of blank a) → Accounted r root b
  accounted_after b x p q d c l u fair e =
      let found' = found_at a s blank (label_at a d) no_cell d c l u in
      record {
        fit = subst Fit (sym e) (fit_tree (path_to a d) (tree_of blank a) (label_at a d) no_cell (change x p q) acc.fit (subst (On (λ m k t. Fair x p q k t)) (sym found') fair));
        rooted = subst (Rooted r root) (sym e) (rooted_tree r root (path_to a d) (change x p q) (tree_of blank a) acc.rooted);
        few = acc.few;
      }

-- What is fair at a place

pub fair_change : (u : Tree) (pay : Cell) (e : ℕ) (t : PlaceChange) (p q : ℕ) → is_directory u ≡ true → Fit u → e < 16 → Fit (place_after t (place_tree e u)) → cost (place_after t (place_tree e u)) + q ≡ cost (place_tree e u) + p → p ≤ pay.left + q → Fair (change_place e t) p q pay u
fair_change empty pay e t p q d f lt ft eq en = absurd (true≢false (sym d))
fair_change (segment ps) pay e t p q d f lt ft eq en = absurd (true≢false (sym d))
fair_change (directory l c places) pay e t p q d f lt ft eq en = fair_place l c places pay e t p q lt f ft eq en

module _ (a : Nodes) (s : WellFormed a) (w : ℕ → ℕ) (d : ℕ) (whole : IsDir (a d).body) where
  -- what stands at a place of a directory
  pub place_none : (e : ℕ) → (a d).entry e ≡ None → place_tree e (at (path_to a d) (tree_of w a)) ≡ empty
  place_none e h =
      let (n, q) = stands a s w d (dir_live (a d).body whole) in
      ap (place_tree e) q ∙ place_object w (a d).body _ _ e whole ∙ ap (entry_tree (tree_below w (suc n) a)) h

  pub place_some : (e x : ℕ) → (a d).entry e ≡ Some x → place_tree e (at (path_to a d) (tree_of w a)) ≡ at (path_to a x) (tree_of w a)
  place_some e x h = sym (at_place (path_to a d) e (tree_of w a)) ∙ ap (λ p. at p (tree_of w a)) (sym (path_at_place a s d e x h))

-- what an object costs, whatever the words
pub cost_at_any : (a : Nodes) (s : WellFormed a) (v w : ℕ → ℕ) (x : ℕ) → IsLive (a x).body → cost (at (path_to a x) (tree_of v a)) ≡ cost (at (path_to a x) (tree_of w a))
cost_at_any a s v w x l =
    let (n, h, dn) = at_tree v a (path_to a x) x s (path_reaches a s x l) in
    let (m, k, dm) = at_tree w a (path_to a x) x s (path_reaches a s x l) in
    let nm : n ≡ m = omega arith in
    ap cost h ∙ ap (λ i. cost (tree_below v (suc (suc i)) a x)) nm ∙ cost_any v w a (suc (suc m)) x ∙ sym (ap cost k)
