-- No object lies as deep as there are objects.
use Rattle.std.proofs.Common.{◌≡◌, ℕ, zero, suc, ◌+◌, ◌<◌, ◌≤◌, [], ◌∷◌, length, sym, ap, ◌∙◌, arith}
use native.Mathlib.Decide.{ℕ_discrete, dec_lt}
use Rattle.rules.specs.Tree.{Path}
use Rattle.forest.specs.Nodes.{Body, unused, seg, dir, Nodes, WellFormed, IsDir, IsLive}
use Rattle.forest.proofs.Refine.{fuel}

-- n + 1 numbers below n are not all different
pigeon : (n : ℕ) (f : ℕ → ℕ) → ((i : ℕ) → i ≤ n → f i < n) → ((i j : ℕ) → i ≤ n → j ≤ n → f i ≡ f j → i ≡ j) → ⊥
pigeon zero f small inj = let h = small 0 (omega arith) in omega arith
pigeon (suc n) f small inj = pigeon n g small' inj'
  where
    v : ℕ
    v = f (suc n)

    pick : (x : ℕ) → Dec (x ≡ n) → ℕ
    pick x (yes q) = v
    pick x (no q) = x

    g : ℕ → ℕ
    g i = pick (f i) (ℕ_discrete (f i) n)

    last : (i : ℕ) → i ≤ n → f i ≡ f (suc n) → ⊥
    last i h q = let e = inj i (suc n) (omega arith) (omega arith) q in omega arith

    small' : (i : ℕ) → i ≤ n → g i < n
    small' i h = go (ℕ_discrete (f i) n)
      where
        go : (t : Dec (f i ≡ n)) → pick (f i) t < n
        go (yes q) = let a = small (suc n) (omega arith) in let b : f (suc n) ≡ n → ⊥ = λ r. last i h (q ∙ sym r) in omega arith
        go (no q) = let a = small i (omega arith) in omega arith

    inj' : (i j : ℕ) → i ≤ n → j ≤ n → g i ≡ g j → i ≡ j
    inj' i j hi hj = go (ℕ_discrete (f i) n) (ℕ_discrete (f j) n)
      where
        go : (s : Dec (f i ≡ n)) (t : Dec (f j ≡ n)) → pick (f i) s ≡ pick (f j) t → i ≡ j
        go (yes p) (yes q) e = inj i j (omega arith) (omega arith) (p ∙ sym q)
        go (yes p) (no q) e = absurd (last j hj (sym e))
        go (no p) (yes q) e = absurd (last i hi e)
        go (no p) (no q) e = inj i j (omega arith) (omega arith) e

pub dir_live : (b : Body) → IsDir b → IsLive b
dir_live unused d = absurd d
dir_live seg d = absurd d
dir_live (dir l c) d = tt

module _ (a : Nodes) (w : WellFormed a) where
  abbrev climb : ℕ → ℕ → ℕ
  climb zero d = d
  climb (suc k) d = (a (climb k d)).parent

  higher : (k d : ℕ) → IsLive (a d).body → k ≤ (a d).depth → IsLive (a (climb k d)).body × ((a (climb k d)).depth + k ≡ (a d).depth)
  higher zero d l h = (l, omega arith)
  higher (suc k) d l h =
      let (lk, dk) = higher k d l (omega arith) in
      let c = climb k d in
      let nz : c ≡ 0 → ⊥ = λ q. let t = ap (λ (x : ℕ). (a x).depth) q ∙ w.top in omega arith in
      let o = w.down (a c).parent (a c).place c (w.mirror c lk nz) in
      let s = o.depth in
      (dir_live _ o.whole, omega arith)

  pub shallow : (d : ℕ) → IsLive (a d).body → (a d).depth < 257
  shallow d l = go (dec_lt (a d).depth 257)
    where
      go : Dec ((a d).depth < 257) → (a d).depth < 257
      go (yes h) = h
      go (no h) =
          absurd (pigeon 257 (λ k. climb k d) (λ k hk. w.few (climb k d) (higher k d l (omega arith)).0)
          (λ i j hi hj q. let di = (higher i d l (omega arith)).1 in let dj = (higher j d l (omega arith)).1 in let t = ap (λ (x : ℕ). (a x).depth) q in omega arith))

-- a level for each place of the route
pub fuel_is : (p : Path) (n : ℕ) → fuel p n ≡ length p + n
fuel_is [] n = omega arith
fuel_is (e ∷ p) n = let h = fuel_is p n in omega arith
