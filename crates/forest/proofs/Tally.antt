-- A sum over what lies below an object is one over the table. Assumes nothing.
use Rattle.std.proofs.Common.{◌≡◌, ℕ, zero, suc, ◌+◌, ◌<◌, ◌≤◌, Bool, true, false, cond, eqb, [], ◌∷◌, length, Some, None, Option, sym, refl, ap, ◌∙◌, subst, ap₂, arith, eq-eqb, ne_eqb}
use native.Mathlib.Decide.{ℕ_discrete, dec_lt}
use Rattle.rules.proofs.Sums.{sum_ext, sum_add, sum_zero}
use Rattle.rules.specs.Balance.{left_in, records_left, all_pages, all_objects}
use Rattle.rules.specs.Indexed.{sum}
use Rattle.rules.specs.Segments.{presence}
use Rattle.rules.specs.Tree.{Tree, Path}
use Rattle.forest.specs.Nodes.{Body, unused, seg, dir, Nodes, WellFormed, IsDir, IsLive, Under, Tells}
use Rattle.forest.specs.Forest.{object_tree, entry_tree, tree_below, reach, has, weight, weight_of, page_of}
use Rattle.forest.proofs.Refine.{reach_step, reach_head, reach_depth, apart}
use Rattle.forest.proofs.Depth.{shallow}
use Rattle.forest.proofs.Beneath.{under_route, route_under}

-- Sums

pub sum_swap : (m n : ℕ) (f : ℕ → ℕ → ℕ) → sum m (λ i. sum n (λ k. f i k)) ≡ sum n (λ k. sum m (λ i. f i k))
unfolding sum
sum_swap zero n f = sym (sum_zero n)
sum_swap (suc m) n f = ap (λ x. sum n (λ k. f m k) + x) (sum_swap m n f) ∙ sym (sum_add n (λ k. f m k) (λ k. sum m (λ i. f i k)))

pub sum_below : (n : ℕ) (f g : ℕ → ℕ) → ((i : ℕ) → i < n → f i ≡ g i) → sum n f ≡ sum n g
unfolding sum
sum_below zero f g h = refl
sum_below (suc n) f g h = let a = h n (omega arith) in let b = sum_below n f g (λ i l. h i (omega arith)) in omega arith

-- where all but one are zero
pub sum_none : (n : ℕ) (f : ℕ → ℕ) → ((i : ℕ) → i < n → f i ≡ 0) → sum n f ≡ 0
sum_none n f h = sum_below n f (λ _. 0) h ∙ sum_zero n

pub sum_one : (n : ℕ) (f : ℕ → ℕ) (i : ℕ) → i < n → ((k : ℕ) → k < n → (k ≡ i → ⊥) → f k ≡ 0) → sum n f ≡ f i
unfolding sum
sum_one zero f i l h = absurd (omega arith)
sum_one (suc n) f i l h = go (λ m. sum_one n f i m (λ k q. h k (omega arith))) (ℕ_discrete i n)
  where
    go : (i < n → sum n f ≡ f i) → Dec (i ≡ n) → f n + sum n f ≡ f i
    go ih (yes e) = let a = ap f e in let b = sum_none n f (λ k q. h k (omega arith) (λ r. omega arith)) in omega arith
    go ih (no e) = let a = h n (omega arith) (λ q. e (sym q)) in let b = ih (omega arith) in omega arith

pub sum_le : (n : ℕ) (f g : ℕ → ℕ) → ((k : ℕ) → k < n → g k ≤ f k) → sum n g ≤ sum n f
unfolding sum
sum_le zero f g h = omega arith
sum_le (suc n) f g h = let a = h n (omega arith) in let b = sum_le n f g (λ k l. h k (omega arith)) in omega arith

-- a part of a sum
pub sum_part : (f g : ℕ → ℕ) → ((k : ℕ) → f k ≤ g k) → (i n : ℕ) → i ≤ n → sum i f ≤ sum n g
unfolding sum
sum_part f g h i zero l = let e : i ≡ 0 = omega arith in subst (λ (j : ℕ). sum j f ≤ 0) (sym e) (omega arith)
sum_part f g h i (suc n) l = go (dec_lt i (suc n)) (λ m. sum_part f g h i n m)
  where
    go : Dec (i < suc n) → (i ≤ n → sum i f ≤ sum n g) → sum i f ≤ g n + sum n g
    go (yes m) ih = let x = ih (omega arith) in omega arith
    go (no m) ih = let e : i ≡ suc n = omega arith in let w = sum_le (suc n) g f (λ k _. h k) in subst (λ (j : ℕ). sum j f ≤ g n + sum n g) (sym e) w

-- what is zero past i adds nothing
pub sum_upto : (f : ℕ → ℕ) (i n : ℕ) → i ≤ n → ((k : ℕ) → i ≤ k → f k ≡ 0) → sum n f ≡ sum i f
unfolding sum
sum_upto f i zero l h = let e : i ≡ 0 = omega arith in sym (ap (λ (j : ℕ). sum j f) e)
sum_upto f i (suc n) l h = go (dec_lt i (suc n)) (λ m. sum_upto f i n m h)
  where
    go : Dec (i < suc n) → (i ≤ n → sum n f ≡ sum i f) → f n + sum n f ≡ sum i f
    go (yes m) ih = let x = ih (omega arith) in let z = h n (omega arith) in omega arith
    go (no m) ih = let e : i ≡ suc n = omega arith in sym (ap (λ (j : ℕ). sum j f) e)

-- where each is at least one, and one is more
pub sum_ones : (n : ℕ) (f : ℕ → ℕ) → ((k : ℕ) → k < n → 1 ≤ f k) → n ≤ sum n f
unfolding sum
sum_ones zero f h = omega arith
sum_ones (suc n) f h = let a = h n (omega arith) in let b = sum_ones n f (λ k l. h k (omega arith)) in omega arith

pub sum_more : (n : ℕ) (f : ℕ → ℕ) (d : ℕ) → d < n → ((k : ℕ) → k < n → 1 ≤ f k) → n + f d ≤ sum n f + 1
unfolding sum
sum_more zero f d l h = absurd (omega arith)
sum_more (suc n) f d l h = go (λ m. sum_more n f d m (λ k q. h k (omega arith))) (ℕ_discrete d n)
  where
    go : (d < n → n + f d ≤ sum n f + 1) → Dec (d ≡ n) → suc n + f d ≤ f n + sum n f + 1
    go ih (yes e) = let a = ap f e in let b = sum_ones n f (λ k m. h k (omega arith)) in omega arith
    go ih (no e) = let a = h n (omega arith) in let b = ih (omega arith) in omega arith

-- one of them, and those before it
pub sum_before : (n : ℕ) (f : ℕ → ℕ) (k : ℕ) → k < n → sum k f + f k ≤ sum n f
unfolding sum
sum_before zero f k l = absurd (omega arith)
sum_before (suc n) f k l = go (λ m. sum_before n f k m) (ℕ_discrete k n)
  where
    go : (k < n → sum k f + f k ≤ sum n f) → Dec (k ≡ n) → sum k f + f k ≤ f n + sum n f
    go ih (yes e) = let a = ap f e in let b = ap (λ (m : ℕ). sum m f) e in omega arith
    go ih (no e) = let a = ih (omega arith) in omega arith

-- f at k, counted once
abbrev only : ℕ → ℕ → ℕ → ℕ
only k x i = cond (eqb i k) x 0

only_same : (k x : ℕ) → only k x k ≡ x
only_same k x = ap (λ t. cond t x 0) (eq-eqb k k refl)

only_other : (k x i : ℕ) → (i ≡ k → ⊥) → only k x i ≡ 0
only_other k x i n = ap (λ t. cond t x 0) (ne_eqb i k n)

-- Sums below an object

abbrev grown_sum : (ℕ → ℕ) → Option ℕ → ℕ
grown_sum f None = 0
grown_sum f (Some j) = f j

unfoldable pub tally : ℕ → Nodes → ℕ → (ℕ → ℕ) → ℕ
tally zero a x f = 0
tally (suc n) a x f = f x + sum 16 (λ e. grown_sum (λ j. tally n a j f) ((a x).entry e))

module _ (a : Nodes) (s : WellFormed a) where
  -- sums of sums
  tally_sum : (n x m : ℕ) (F : ℕ → ℕ → ℕ) → tally n a x (λ i. sum m (λ k. F k i)) ≡ sum m (λ k. tally n a x (F k))
  unfolding tally
  tally_sum zero x m F = sym (sum_zero m)
  tally_sum (suc n) x m F =
      ap (λ z. sum m (λ k. F k x) + z) (sum_ext 16 (λ e. each (λ j. tally_sum n j m F) ((a x).entry e)) ∙ sum_swap 16 m (λ e k. grown_sum (λ j. tally n a j (F k)) ((a x).entry e)))
      ∙ sym (sum_add m (λ k. F k x) (λ k. sum 16 (λ e. grown_sum (λ j. tally n a j (F k)) ((a x).entry e))))
    where
      each : ((j : ℕ) → tally n a j (λ i. sum m (λ k. F k i)) ≡ sum m (λ k. tally n a j (F k))) → (o : Option ℕ) → grown_sum (λ j. tally n a j (λ i. sum m (λ k. F k i))) o ≡ sum m (λ k. grown_sum (λ j. tally n a j (F k)) o)
      each ih None = sym (sum_zero m)
      each ih (Some j) = ih j

  -- alike on what is in use
  tally_alike : (n x : ℕ) (f g : ℕ → ℕ) → IsLive (a x).body → ((k : ℕ) → IsLive (a k).body → f k ≡ g k) → tally n a x f ≡ tally n a x g
  unfolding tally
  tally_alike zero x f g l h = refl
  tally_alike (suc n) x f g l h = ap₂ (λ y z. y + z) (h x l) (sum_ext 16 (λ e. each (λ j lj. tally_alike n j f g lj h) e ((a x).entry e) refl))
    where
      each : ((j : ℕ) → IsLive (a j).body → tally n a j f ≡ tally n a j g) → (e : ℕ) (o : Option ℕ) → (a x).entry e ≡ o → grown_sum (λ j. tally n a j f) o ≡ grown_sum (λ j. tally n a j g) o
      each ih e None q = refl
      each ih e (Some j) q = ih j (s.down x e j q).live

  -- an object that does not lie under x is not counted
  tally_out : (n x k v : ℕ) → ((p : Path) → reach a x p ≡ Some k → ⊥) → tally n a x (only k v) ≡ 0
  unfolding tally
  tally_out zero x k v h = refl
  tally_out (suc n) x k v h =
      let first = only_other k v x (λ q. h [] (ap Some q)) in
      let rest = sum_none 16 (λ e. grown_sum (λ j. tally n a j (only k v)) ((a x).entry e)) (λ e _. each (λ j g. tally_out n j k v g) e ((a x).entry e) refl) in
      omega arith
    where
      each : ((j : ℕ) → ((p : Path) → reach a j p ≡ Some k → ⊥) → tally n a j (only k v) ≡ 0) → (e : ℕ) (o : Option ℕ) → (a x).entry e ≡ o → grown_sum (λ j. tally n a j (only k v)) o ≡ 0
      each ih e None q = refl
      each ih e (Some j) q = ih j (λ p f. h (e ∷ p) (reach_step a x e j p q ∙ f))

  -- and one that does is counted once
  tally_in : (p : Path) (n x k v : ℕ) → reach a x p ≡ Some k → length p < n → tally n a x (only k v) ≡ v
  unfolding tally
  tally_in p zero x k v f l = absurd (omega arith)
  tally_in [] (suc n) x k v f l =
      let q : x ≡ k = cc in
      let first = ap (only k v) q ∙ only_same k v in
      let rest = sum_none 16 (λ e. grown_sum (λ j. tally n a j (only k v)) ((a x).entry e)) (λ e _. each e ((a x).entry e) refl) in
      omega arith
    where
      each : (e : ℕ) (o : Option ℕ) → (a x).entry e ≡ o → grown_sum (λ j. tally n a j (only k v)) o ≡ 0
      each e None q = refl
      each e (Some j) q = tally_out n j k v (λ p g. let d = reach_depth a s p j k g in let d₀ = reach_depth a s [] x k f in let d₁ = (s.down x e j q).depth in omega arith)
  tally_in (e ∷ p) (suc n) x k v f l =
      let (j, h, g) = reach_head a x e k p f in
      let deep = reach_depth a s (e ∷ p) x k f in
      let first = only_other k v x (λ q. let d = ap (λ (z : ℕ). (a z).depth) q in omega arith) in
      let one = sum_one 16 (λ y. grown_sum (λ i. tally n a i (only k v)) ((a x).entry y)) e (s.down x e j h).within (λ y _ ne. each j h g y ne ((a x).entry y) refl) in
      let here = ap (grown_sum (λ i. tally n a i (only k v))) h ∙ tally_in p n j k v g (omega arith) in
      omega arith
    where
      each : (j : ℕ) → (a x).entry e ≡ Some j → reach a j p ≡ Some k → (y : ℕ) → (y ≡ e → ⊥) → (o : Option ℕ) → (a x).entry y ≡ o → grown_sum (λ i. tally n a i (only k v)) o ≡ 0
      each j h g y ne None q = refl
      each j h g y ne (Some i) q = tally_out n i k v (λ r fr. ne (apart a s x y e i j k r p q h fr g))

  -- the sum below x, over the marked objects of the table
  pub tally_table : (n x : ℕ) (f : ℕ → ℕ) (m : ℕ → Bool) → IsLive (a x).body → 257 ≤ n + (a x).depth → ((k : ℕ) → Tells a x k (m k)) → tally n a x f ≡ sum 257 (λ k. cond (m k) (f k) 0)
  tally_table n x f m l deep tells =
      tally_alike n x f (λ i. sum 257 (λ k. only k (f k) i)) l (λ i li. sym (sum_one 257 (λ k. only k (f k) i) i (s.few i li) (λ k _ ne. only_other k (f k) i (λ q. ne (sym q))) ∙ only_same i (f i)))
      ∙ tally_sum n x 257 (λ k i. only k (f k) i)
      ∙ sum_ext 257 (λ k. by (m k) k (tells k))
    where
      inside : (k : ℕ) → IsLive (a k).body → Under a x k → tally n a x (only k (f k)) ≡ f k
      inside k lk u =
          let (p, g) = under_route a s x k u lk in
          let d = reach_depth a s p x k g in
          let low = shallow a s k lk in
          tally_in p n x k (f k) g (omega arith)

      live_under : (k : ℕ) (p : Path) → reach a x p ≡ Some k → IsLive (a k).body
      live_under k p g = go p x l g
        where
          go : (p : Path) (i : ℕ) → IsLive (a i).body → reach a i p ≡ Some k → IsLive (a k).body
          go [] i li h = let e : i ≡ k = cc in subst (λ (z : ℕ). IsLive (a z).body) e li
          go (e ∷ p) i li h = let (j, q, r) = reach_head a i e k p h in go p j (s.down i e j q).live r

      by : (t : Bool) (k : ℕ) → Tells a x k t → tally n a x (only k (f k)) ≡ cond t (f k) 0
      by true k h = inside k h.0 h.1
      by false k h = tally_out n x k (f k) (λ p g. h (live_under k p g) (route_under a s p x k g))

  -- what lies below x is part of the table
  pub tally_bound : (n x : ℕ) (f : ℕ → ℕ) → IsLive (a x).body → 257 ≤ n + (a x).depth → tally n a x f ≤ sum 257 f
  tally_bound n x f l deep =
      let e = tally_alike n x f (λ i. sum 257 (λ k. only k (f k) i)) l (λ i li. sym (sum_one 257 (λ k. only k (f k) i) i (s.few i li) (λ k _ ne. only_other k (f k) i (λ q. ne (sym q))) ∙ only_same i (f i))) ∙ tally_sum n x 257 (λ k i. only k (f k) i) in
      let b = sum_le 257 f (λ k. tally n a x (only k (f k))) (λ k _. small k (f k) (dec_lt (f k) (tally n a x (only k (f k))))) in
      omega arith
    where
      live_at : (k : ℕ) (p : Path) (i : ℕ) → IsLive (a i).body → reach a i p ≡ Some k → IsLive (a k).body
      live_at k [] i li h = let e : i ≡ k = cc in subst (λ (z : ℕ). IsLive (a z).body) e li
      live_at k (e ∷ p) i li h = let (j, q, r) = reach_head a i e k p h in live_at k p j (s.down i e j q).live r

      small : (k v : ℕ) → Dec (v < tally n a x (only k v)) → tally n a x (only k v) ≤ v
      small k v (yes h) =
          let out = tally_out n x k v (λ p g.
          let d = reach_depth a s p x k g in
          let low = shallow a s k (live_at k p x l g) in
          let is = tally_in p n x k v g (omega arith) in
          omega arith) in
          absurd (omega arith)
      small k v (no h) = omega arith

-- Records

abbrev pub burden : Tree → ℕ
burden t = records_left t + all_pages t + all_objects t

presence_has : (w : ℕ → ℕ) (o : Option ℕ) → presence (page_of w o) ≡ has o
presence_has w None = refl
presence_has w (Some v) = refl

burden_directory : (c : ℕ) (places : ℕ → Tree) → c + sum 16 (λ i. records_left (places i)) + sum 16 (λ i. all_pages (places i)) + (1 + sum 16 (λ i. all_objects (places i))) ≡ 1 + c + sum 16 (λ i. burden (places i))
burden_directory c places =
    let s₁ = sum_add 16 (λ i. records_left (places i) + all_pages (places i)) (λ i. all_objects (places i)) in
    let s₂ = sum_add 16 (λ i. records_left (places i)) (λ i. all_pages (places i)) in
    omega arith

-- the records below an object are those that the objects of the table stand for
pub burden_tally : (w : ℕ → ℕ) (a : Nodes) (s : WellFormed a) (n x : ℕ) → burden (tree_below w n a x) ≡ tally n a x (λ k. weight (a k))
unfolding tree_below tally
burden_tally w a s zero x = refl
burden_tally w a s (suc n) x = go (λ j. burden_tally w a s n j) (a x).body refl
  where
    each : ((j : ℕ) → burden (tree_below w n a j) ≡ tally n a j (λ k. weight (a k))) → (o : Option ℕ) → burden (entry_tree (tree_below w n a) o) ≡ grown_sum (λ j. tally n a j (λ k. weight (a k))) o
    each ih None = refl
    each ih (Some j) = ih j

    no_kids : (IsDir (a x).body → ⊥) → sum 16 (λ e. grown_sum (λ j. tally n a j (λ k. weight (a k))) ((a x).entry e)) ≡ 0
    no_kids h = sum_none 16 _ (λ e _. none_here e ((a x).entry e) refl)
      where
        none_here : (e : ℕ) (o : Option ℕ) → (a x).entry e ≡ o → grown_sum (λ j. tally n a j (λ k. weight (a k))) o ≡ 0
        none_here e None q = refl
        none_here e (Some j) q = absurd (h (s.down x e j q).whole)

    go : ((j : ℕ) → burden (tree_below w n a j) ≡ tally n a j (λ k. weight (a k))) → (t : Body) → (a x).body ≡ t → burden (object_tree w t (a x).page (λ e. entry_tree (tree_below w n a) ((a x).entry e))) ≡ weight_of (a x).body (a x).page + sum 16 (λ e. grown_sum (λ j. tally n a j (λ k. weight (a k))) ((a x).entry e))
    go ih unused q =
        let z = no_kids (λ h. subst IsDir q h) in
        let y = ap (λ t. weight_of t (a x).page) q in
        omega arith
    go ih seg q =
        let z = no_kids (λ h. subst IsDir q h) in
        let y = ap (λ t. weight_of t (a x).page) q in
        let p = sum_ext 16 (λ k. presence_has w ((a x).page k)) in
        omega arith
    go ih (dir l c) q =
        let y = ap (λ t. weight_of t (a x).page) q in
        let k = sum_ext 16 (λ e. each ih ((a x).entry e)) in
        let b = burden_directory (left_in c) (λ e. entry_tree (tree_below w n a) ((a x).entry e)) in
        omega arith
