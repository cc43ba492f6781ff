-- Paths and levels of the whole tree. Assumes nothing.
use Rattle.std.proofs.Common.{◌≡◌, ℕ, zero, suc, ◌+◌, ◌-◌, ◌≤◌, true, [], ◌∷◌, ◌++◌, length, Some, Option, refl, ap, ◌∙◌, subst, arith}
use mathlib.Core.Path.{fun_ext}
use Rattle.rules.specs.Changes.{PlaceChange, place_after, change_place, changed, modified}
use Rattle.rules.specs.Indexed.{assign}
use Rattle.rules.specs.Tree.{Tree, empty, segment, directory, Path, at}
use Rattle.forest.specs.Nodes.{Body, unused, seg, dir, Nodes, WellFormed, IsDir, IsLive, celled}
use Rattle.forest.specs.Forest.{object_tree, entry_tree, tree_below, tree_of, reach, path_up, path_to}
use Rattle.forest.proofs.Refine.{reach_head, reach_depth, fuel}
use Rattle.forest.proofs.Depth.{dir_live, shallow, fuel_is}
use Rattle.forest.proofs.Beneath.{parent_live, parent_depth}
use Rattle.forest.proofs.Paying.{holds_cell, is_directory}

-- at any number of levels that suffices
pub at_levels : (v w : ℕ → ℕ) (n : ℕ) (p : Path) (a b : Nodes) (F : Tree → Tree) → length p + 2 ≤ n
    → ((k : ℕ) → tree_below w (fuel p (suc (suc k))) b 0 ≡ modified F p (tree_below v (fuel p (suc (suc k))) a 0)) → tree_below w n b 0 ≡ modified F p (tree_below v n a 0)
at_levels v w n p a b F h all =
    let k = n - (length p + 2) in
    let f = fuel_is p (suc (suc k)) in
    let q : fuel p (suc (suc k)) ≡ n = omega arith in
    subst (λ (m : ℕ). tree_below w m b 0 ≡ modified F p (tree_below v m a 0)) q (all k)

-- what a path leads to is live
pub reach_live : (a : Nodes) → WellFormed a → (p : Path) (i c : ℕ) → IsLive (a i).body → reach a i p ≡ Some c → IsLive (a c).body
reach_live a w [] i c l f = let e : i ≡ c = cc in subst (λ (k : ℕ). IsLive (a k).body) e l
reach_live a w (e ∷ p) i c l f = let (j, h, g) = reach_head a i e c p f in reach_live a w p j c (w.down i e j h).live g

pub root_live : (a : Nodes) → WellFormed a → IsLive (a 0).body
root_live a w = dir_live (a 0).body w.root

-- no path is as long as there are levels
pub short : (a : Nodes) → WellFormed a → (p : Path) (d : ℕ) → reach a 0 p ≡ Some d → length p + 2 ≤ 258
short a w p d f =
    let deep = reach_depth a w p 0 d f in
    let top = w.top in
    let low = shallow a w d (reach_live a w p 0 d (root_live a w) f) in
    omega arith

pub modified_append : (p q : Path) (f : Tree → Tree) (t : Tree) → modified f (p ++ q) t ≡ modified (modified f q) p t
modified_append [] q f t = refl
modified_append (i ∷ p) q f empty = refl
modified_append (i ∷ p) q f (segment ps) = refl
modified_append (i ∷ p) q f (directory l c places) = ap (λ x. directory l c (assign places i x)) (modified_append p q f (places i))

modified_place : (e : ℕ) (x : PlaceChange) (t : Tree) → modified (place_after x) (e ∷ []) t ≡ changed (change_place e x) t
modified_place e x empty = refl
modified_place e x (segment ps) = refl
modified_place e x (directory l c places) = refl

-- the object at a place turns
pub modified_place_after : (p : Path) (e : ℕ) (x : PlaceChange) (t : Tree) → modified (place_after x) (p ++ (e ∷ [])) t ≡ modified (changed (change_place e x)) p t
modified_place_after p e x t = modified_append p (e ∷ []) (place_after x) t ∙ ap (λ f. modified f p t) (fun_ext (modified_place e x))

at_plant : (w : ℕ → ℕ) (t : Body) (ps : ℕ → Option ℕ) (places : ℕ → Tree) (e : ℕ) (p : Path) → IsDir t → at (e ∷ p) (object_tree w t ps places) ≡ at p (places e)
at_plant w unused ps places e p h = absurd h
at_plant w seg ps places e p h = absurd h
at_plant w (dir l c) ps places e p h = refl

-- what stands at the end of a path is the tree below the object there
pub at_reach : (w : ℕ → ℕ) (p : Path) (n : ℕ) (a : Nodes) (i d : ℕ) → WellFormed a → reach a i p ≡ Some d → at p (tree_below w (fuel p n) a i) ≡ tree_below w n a d
unfolding tree_below
at_reach w [] n a i d s f = let e : i ≡ d = cc in ap (tree_below w n a) e
at_reach w (e ∷ p) n a i d s f =
    let (j, h, g) = reach_head a i e d p f in
    at_plant w (a i).body (a i).page (λ x. entry_tree (tree_below w (fuel p n) a) ((a i).entry x)) e p (s.down i e j h).whole
    ∙ ap (λ (o : Option ℕ). at p (entry_tree (tree_below w (fuel p n) a) o)) h ∙ at_reach w p n a j d s g

pub at_tree : (w : ℕ → ℕ) (a : Nodes) (p : Path) (d : ℕ) → WellFormed a → reach a 0 p ≡ Some d → (n : ℕ) × (at p (tree_of w a) ≡ tree_below w (suc (suc n)) a d) × (n + (a d).depth ≡ 256)
unfolding tree_of
at_tree w a p d s f =
    let h = short a s p d f in
    let deep = reach_depth a s p 0 d f in
    let top = s.top in
    let n = 256 - length p in
    let q = fuel_is p (suc (suc n)) in
    let e : fuel p (suc (suc n)) ≡ 258 = omega arith in
    (n, subst (λ (m : ℕ). at p (tree_below w m a 0) ≡ tree_below w (suc (suc n)) a d) e (at_reach w p (suc (suc n)) a 0 d s f), omega arith)

celled_plant : (w : ℕ → ℕ) (n : ℕ) (a : Nodes) (d : ℕ) → holds_cell (tree_below w (suc n) a d) ≡ celled (a d).body
unfolding tree_below
celled_plant w n a d = go (a d).body
  where
    go : (t : Body) → holds_cell (object_tree w t (a d).page (λ x. entry_tree (tree_below w n a) ((a d).entry x))) ≡ celled t
    go unused = refl
    go seg = refl
    go (dir l c) = refl

directory_plant : (w : ℕ → ℕ) (n : ℕ) (a : Nodes) (d : ℕ) → IsDir (a d).body → is_directory (tree_below w (suc n) a d) ≡ true
unfolding tree_below
directory_plant w n a d = go (a d).body
  where
    go : (t : Body) → IsDir t → is_directory (object_tree w t (a d).page (λ x. entry_tree (tree_below w n a) ((a d).entry x))) ≡ true
    go unused h = absurd h
    go seg h = absurd h
    go (dir l c) h = refl

pub celled_at : (w : ℕ → ℕ) (a : Nodes) (p : Path) (d : ℕ) → WellFormed a → reach a 0 p ≡ Some d → holds_cell (at p (tree_of w a)) ≡ celled (a d).body
celled_at w a p d s f = let (n, h, _) = at_tree w a p d s f in ap holds_cell h ∙ celled_plant w (suc n) a d

pub directory_at : (w : ℕ → ℕ) (a : Nodes) (p : Path) (d : ℕ) → WellFormed a → reach a 0 p ≡ Some d → IsDir (a d).body → is_directory (at p (tree_of w a)) ≡ true
directory_at w a p d s f i = let (n, h, _) = at_tree w a p d s f in ap is_directory h ∙ directory_plant w (suc n) a d i

-- the path of an object is that of its directory, and then its place
pub path_of_child : (a : Nodes) (s : WellFormed a) (i : ℕ) → IsLive (a i).body → (i ≡ 0 → ⊥) → path_to a i ≡ path_to a (a i).parent ++ ((a i).place ∷ [])
unfolding path_up
path_of_child a s i l z = ap (λ n. path_up n a i) (parent_depth a s i l z)

pub path_at_place : (a : Nodes) (s : WellFormed a) (d e x : ℕ) → (a d).entry e ≡ Some x → path_to a x ≡ path_to a d ++ (e ∷ [])
path_at_place a s d e x h =
    let o = s.down d e x h in
    let nz : x ≡ 0 → ⊥ = λ q. let t = ap (λ (k : ℕ). (a k).depth) q in let u = s.top in let v = o.depth in omega arith in
    path_of_child a s x o.live nz ∙ ap (λ k. path_to a k ++ ((a x).place ∷ [])) o.up ∙ ap (λ y. path_to a d ++ (y ∷ [])) o.place

-- where every object in use keeps its links, it keeps its path
path_up_kept : (a b : Nodes) (s : WellFormed a) → ((k : ℕ) → IsLive (a k).body → ((b k).parent ≡ (a k).parent) × ((b k).place ≡ (a k).place) × ((b k).depth ≡ (a k).depth))
    → (n i : ℕ) → IsLive (a i).body → (a i).depth ≡ n → path_up n b i ≡ path_up n a i
unfolding path_up
path_up_kept a b s keeps zero i l h = refl
path_up_kept a b s keeps (suc n) i l h =
    let nz : i ≡ 0 → ⊥ = λ q. let t = ap (λ (k : ℕ). (a k).depth) q in let u = s.top in omega arith in
    let d = parent_depth a s i l nz in
    let k = keeps i l in
    ap (λ (x : ℕ). path_up n b (b i).parent ++ (x ∷ [])) k.1
    ∙ ap (λ (x : ℕ). path_up n b x ++ ((a i).place ∷ [])) k.0
    ∙ ap (λ (q : Path). q ++ ((a i).place ∷ [])) (path_up_kept a b s keeps n (a i).parent (parent_live a s i l nz) (omega arith))

pub path_kept : (a b : Nodes) (s : WellFormed a) → ((k : ℕ) → IsLive (a k).body → ((b k).parent ≡ (a k).parent) × ((b k).place ≡ (a k).place) × ((b k).depth ≡ (a k).depth))
    → (i : ℕ) → IsLive (a i).body → path_to b i ≡ path_to a i
path_kept a b s keeps i l = ap (λ n. path_up n b i) (keeps i l).2 ∙ path_up_kept a b s keeps (a i).depth i l refl
