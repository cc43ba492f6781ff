-- A segment is cut short, and the cell that it uses has the records back. Assumes nothing.
use Rattle.std.proofs.Common.{◌≡◌, ℕ, ◌+◌, ◌<◌, ◌≤◌, Bool, true, false, cond, eqb, ltb, Some, None, Option, sym, refl, ap, ◌∙◌, ap₂, arith, ltb-false, ltb-true, le-ltb, lt-ltb, eqb-true}
use mathlib.Core.Path.{fun_ext}
use Rattle.labels.specs.declared.label.Label.{Label}
use borrow.Author.Tests.{eqb-false}
use Rattle.rules.proofs.Sums.{sum_ext}
use Rattle.rules.proofs.Balance.{count_cut}
use Rattle.rules.specs.Changes.{keep_pages, change, tree_after}
use Rattle.rules.specs.Indexed.{assign, sum}
use Rattle.rules.specs.Segments.{made_absent, presence, present_pages, pages_truncated, absent}
use Rattle.forest.specs.Nodes.{Nodes, WellFormed, IsSeg, IsLive, charged_body, with_body, with_pages, Uses}
use Rattle.forest.specs.Forest.{cut_links, tree_of, path_to, pages_of, has, page_of}
use Rattle.forest.specs.Accounts.{Accounted, blank}
use Rattle.forest.proofs.Pays.{charge_pages}
use Rattle.forest.proofs.Paged.{seg_live, paged_sound, paged_live, paged_path, paged_tree, paged_accounted}

-- Pages numbered keep and up become absent

pub cut_within : (keep : ℕ) (P : ℕ → Option ℕ) → ((k v : ℕ) → P k ≡ Some v → k < 16) → (k v : ℕ) → cut_links keep P k ≡ Some v → k < 16
cut_within keep P h k v = go (ltb k keep)
  where
    go : (t : Bool) → cond t (P k) None ≡ Some v → k < 16
    go true q = h k v q
    go false q = let z : ◌≡◌ {A = ℕ} 0 1 = cc in absurd (omega arith)

pub cut_pages : (w : ℕ → ℕ) (keep : ℕ) (P : ℕ → Option ℕ) → pages_of w (cut_links keep P) ≡ pages_truncated (pages_of w P) keep
cut_pages w keep P = fun_ext (λ k. go k (ltb k keep))
  where
    go : (k : ℕ) (t : Bool) → page_of w (cond t (P k) None) ≡ cond t (page_of w (P k)) absent
    go k true = refl
    go k false = refl

presence_has : (w : ℕ → ℕ) (o : Option ℕ) → presence (page_of w o) ≡ has o
presence_has w None = refl
presence_has w (Some v) = refl

pub dropped_links : (w : ℕ → ℕ) (keep : ℕ) (P : ℕ → Option ℕ) → made_absent (pages_of w P) keep ≡ sum 16 (λ k. cond (ltb k keep) 0 (has (P k)))
dropped_links w keep P = sum_ext 16 (λ k. ap (cond (ltb k keep) 0) (presence_has w (P k)))

pub cut_count : (w : ℕ → ℕ) (keep : ℕ) (P : ℕ → Option ℕ) (n : ℕ) → n ≡ made_absent (pages_of w P) keep → present_pages (pages_truncated (pages_of w P) keep) + n ≡ present_pages (pages_of w P) + 0
cut_count w keep P n e = let h = count_cut (pages_of w P) keep in omega arith

-- as far as page k
abbrev pub cut_upto : ℕ → ℕ → (ℕ → Option ℕ) → ℕ → Option ℕ
cut_upto keep k P x = cond (ltb x keep) (P x) (cond (ltb x k) None (P x))

pub cut_start : (keep : ℕ) (P : ℕ → Option ℕ) → cut_upto keep keep P ≡ P
cut_start keep P = fun_ext (λ x. go x (ltb x keep))
  where
    go : (x : ℕ) (t : Bool) → cond t (P x) (cond t None (P x)) ≡ P x
    go x true = refl
    go x false = refl

pub cut_next : (keep k : ℕ) (P : ℕ → Option ℕ) → keep ≤ k → assign (cut_upto keep k P) k None ≡ cut_upto keep (k + 1) P
cut_next keep k P h = fun_ext (λ x. go x (eqb x k) refl)
  where
    past : (x : ℕ) → (x ≡ k → ⊥) → (t : Bool) → ltb x k ≡ t → ltb x (k + 1) ≡ t
    past x n true q = let l = ltb-true x k q in lt-ltb x (k + 1) (omega arith)
    past x n false q = let l = ltb-false x k q in le-ltb x (k + 1) (omega arith)

    go : (x : ℕ) (t : Bool) → eqb x k ≡ t → cond t None (cut_upto keep k P x) ≡ cut_upto keep (k + 1) P x
    go x true q =
        let e = eqb-true x k q in
        sym (ap₂ (λ t u. cond t (P x) (cond u None (P x))) (le-ltb x keep (omega arith)) (lt-ltb x (k + 1) (omega arith)))
    go x false q = ap (λ t. cond (ltb x keep) (P x) (cond t None (P x))) (sym (past x (eqb-false x k q) (ltb x k) refl))

pub cut_end : (keep k : ℕ) (P : ℕ → Option ℕ) → 16 ≤ k → ((x : ℕ) → 16 ≤ x → P x ≡ None) → cut_upto keep k P ≡ cut_links keep P
cut_end keep k P h short = fun_ext (λ x. go x (ltb x k) refl)
  where
    bare : (x : ℕ) (t : Bool) → P x ≡ None → cond t (P x) (P x) ≡ cond t (P x) None
    bare x true e = refl
    bare x false e = e

    go : (x : ℕ) (t : Bool) → ltb x k ≡ t → cut_upto keep k P x ≡ cut_links keep P x
    go x true q = ap (λ t. cond (ltb x keep) (P x) (cond t None (P x))) q
    go x false q = let l = ltb-false x k q in ap (λ t. cond (ltb x keep) (P x) (cond t None (P x))) q ∙ bare x (ltb x keep) (short x (omega arith))

module _ (a a₁ b : Nodes) (s : WellFormed a) (i c n keep : ℕ) (is_seg : IsSeg (a i).body) (uses : Uses a i c)
    (w₀ : a₁ ≡ assign a c (with_body (a c) (charged_body 0 n (a c).body)))
    (w₁ : b ≡ assign a₁ i (with_pages (a₁ i) (cut_links keep (a₁ i).page))) where
  pub same_pages : (k : ℕ) → (a₁ k).page ≡ (a k).page
  same_pages k = charge_pages a a₁ s i c 0 n (seg_live (a i).body is_seg) uses w₀ k

  abbrev P : ℕ → Option ℕ
  P = cut_links keep (a i).page

  w₁' : b ≡ assign a₁ i (with_pages (a₁ i) (cut_links keep (a i).page))
  w₁' = w₁ ∙ ap (λ (Q : ℕ → Option ℕ). assign a₁ i (with_pages (a₁ i) (cut_links keep Q))) (same_pages i)

  within : (k v : ℕ) → cut_links keep (a i).page k ≡ Some v → k < 16
  within = cut_within keep (a i).page (λ k v h. (s.pages i k v h).1)

  pub truncated_sound : WellFormed b
  truncated_sound = paged_sound a a₁ b s i c 0 n P is_seg uses w₀ w₁' within

  pub truncated_live : (k : ℕ) → IsLive (a k).body → IsLive (b k).body
  truncated_live = paged_live a a₁ b s i c 0 n P is_seg uses w₀ w₁' within

  pub truncated_path : (k : ℕ) → IsLive (a k).body → path_to b k ≡ path_to a k
  truncated_path = paged_path a a₁ b s i c 0 n P is_seg uses w₀ w₁' within

  pub truncated_tree : (w : ℕ → ℕ) → tree_of w b ≡ tree_after (path_to a i) (change (keep_pages keep) 0 n) (tree_of w a)
  truncated_tree w = paged_tree a a₁ b s i c 0 n P is_seg uses w₀ w₁' within w w (keep_pages keep) (λ k _. refl) (cut_pages w keep (a i).page)

  pub truncated_accounted : (r : ℕ) (root : Label) → Accounted r root a → n ≡ sum 16 (λ k. cond (ltb k keep) 0 (has ((a i).page k))) → Accounted r root b
  truncated_accounted r root acc e =
      paged_accounted a a₁ b s i c 0 n P is_seg uses w₀ w₁' within blank blank (keep_pages keep) (λ k _. refl) (cut_pages blank keep (a i).page) r root acc (omega arith)
      (cut_count blank keep (a i).page n (e ∙ sym (dropped_links blank keep (a i).page)))
