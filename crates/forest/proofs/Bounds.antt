-- A cell that gets records back has no more left then than it was granted.
use Rattle.std.proofs.Common.{◌≡◌, ℕ, ◌+◌, ◌<◌, ◌≤◌, Bool, true, false, cond, ltb, Some, None, sym, refl, ap, ◌∙◌, subst, true≢false, arith}
use mathlib.Core.Logic.{∥∥₁_elim}
use native.Mathlib.Bridge.{le_prop}
use native.Mathlib.Decide.{ℕ_discrete}
use Rattle.labels.specs.declared.label.Label.{Label}
use Rattle.rules.specs.Indexed.{assign, sum}
use Rattle.rules.specs.Cells.{charge}
use Rattle.rules.proofs.Assign.{assign_same, assign_other}
use Rattle.forest.specs.Nodes.{Body, unused, seg, dir, Node, Nodes, with_body, with_entry, with_pages, cleared, IsSeg, IsLive, celled, charged_body, regranted_body, WellFormed, Tells}
use Rattle.forest.specs.Forest.{cut_links, cell_in, cell_at, has, weight}
use Rattle.forest.specs.Accounts.{Accounted}
use Rattle.forest.specs.Steps.{Kept}
use Rattle.forest.proofs.Beneath.{under_depth}
use Rattle.forest.proofs.Depth.{dir_live}
use Rattle.forest.proofs.Keeping.{formed, payer_has_cell}
use Rattle.forest.proofs.Moved.{cell_bounds, payer_high}
use Rattle.forest.proofs.Paged.{seg_live}
use Rattle.forest.proofs.Pays.{celled_dir, uses_payer}
use Rattle.forest.proofs.Steps.{charging, removal_done, move_done, truncation_done}

charging_payer : (p q : ℕ) (a : Nodes) (i : ℕ) → (charging p q a i (a i).payer).body ≡ charged_body p q (a (a i).payer).body
charging_payer p q a i = ap (λ (n : Node). n.body) (assign_same a (a i).payer _)

module _ {n : ℕ} {a : Nodes} {object : ℕ → ℕ} {objects : ℕ} {page : ℕ → ℕ} {pages : ℕ} (k : ∥ Kept n a object objects page pages ∥₁) where
  -- after a step that keeps the accounts
  bounded_after : (b : Nodes) → WellFormed b → ((root : Label) → Accounted n root a → Accounted n root b) → (c p q : ℕ) → celled (a c).body ≡ true → (b c).body ≡ charged_body p q (a c).body
      → p ≤ (cell_at a c).left + q → (cell_at a c).left + q ≤ (cell_at a c).granted + p
  bounded_after b s acc c p q h same enough =
      let (m, y, was) = celled_dir (a c).body h in
      let is : (b c).body ≡ dir m (Some (charge p q y)) = same ∙ ap (charged_body p q) was in
      let l : (cell_at a c).left ≡ y.left = ap (λ (t : Body). (cell_in t).left) was in
      let g : (cell_at a c).granted ≡ y.granted = ap (λ (t : Body). (cell_in t).granted) was in
      ∥∥₁_elim k le_prop (λ z. let e = (cell_bounds b s n z.root (acc z.root z.accounted) c m (charge p q y) is).0 in omega arith)

  s : WellFormed a
  s = formed k

  pub truncation_gives : (i keep m : ℕ) → IsSeg (a i).body → m ≡ sum 16 (λ x. cond (ltb x keep) 0 (has ((a i).page x))) → (cell_at a (a i).payer).left + m ≤ (cell_at a (a i).payer).granted
  truncation_gives i keep m is_seg count =
      let b : Nodes = assign (charging 0 m a i) i (with_pages (charging 0 m a i i) (cut_links keep (charging 0 m a i i).page)) in
      let done = truncation_done a b s i m keep (record { is_seg = is_seg; cut = refl }) n count in
      let l = seg_live (a i).body is_seg in
      let h = payer_has_cell k i l in
      let bound = bounded_after b done.formed done.accounted (a i).payer 0 m h (ap (λ (x : Node). x.body) (assign_other (charging 0 m a i) i (a i).payer _ (apart h)) ∙ charging_payer 0 m a i) (omega arith) in
      omega arith
    where
      uncelled : (t : Body) → IsSeg t → celled t ≡ true → ⊥
      uncelled unused q h = q
      uncelled seg q h = true≢false (sym h)
      uncelled (dir l c) q h = q

      apart : celled (a (a i).payer).body ≡ true → (a i).payer ≡ i → ⊥
      apart h e = uncelled (a i).body is_seg (sym (ap (λ (x : ℕ). celled (a x).body) e) ∙ h)

  -- the payer of a directory does not lie below it
  high : (d e x : ℕ) → (a d).entry e ≡ Some x → (a (a d).payer).depth < (a x).depth
  high d e x holds =
      let l = dir_live (a d).body (s.down d e x holds).whole in
      let h = payer_high a s d (a d).payer l (uses_payer a s d l) in
      let v = (s.down d e x holds).depth in
      omega arith

  -- and so is none of what stands at its places
  pub payer_beside : (d e x : ℕ) → (a d).entry e ≡ Some x → x ≡ (a d).payer → ⊥
  payer_beside d e x holds q = let lower = high d e x holds in let t = ap (λ (z : ℕ). (a z).depth) q in omega arith

  pub move_gives : (d e x up down : ℕ) → (a d).entry e ≡ Some x → celled (a x).body ≡ true → up ≤ (cell_at a (a d).payer).left + down → down ≤ (cell_at a x).left + up
      → (cell_at a (a d).payer).left + down ≤ (cell_at a (a d).payer).granted + up
  move_gives d e x up down holds there pays owes =
      let b : Nodes = assign (charging up down a d) x (with_body (charging up down a d x) (regranted_body up down (charging up down a d x).body)) in
      let done = move_done a b s d e x up down (record { holds = holds; celled_there = there; regrant_there = refl }) n pays owes in
      let l = dir_live (a d).body (s.down d e x holds).whole in
      bounded_after b done.formed done.accounted (a d).payer up down (payer_has_cell k d l)
      (ap (λ (z : Node). z.body) (assign_other (charging up down a d) x (a d).payer _ (λ q. payer_beside d e x holds (sym q))) ∙ charging_payer up down a d) pays

  pub removal_gives : (d e x m : ℕ) (marks : ℕ → Bool) → (a d).entry e ≡ Some x → ((z : ℕ) → Tells a x z (marks z)) → m ≡ sum 257 (λ z. cond (marks z) (weight (a z)) 0)
      → (cell_at a (a d).payer).left + m ≤ (cell_at a (a d).payer).granted
  removal_gives d e x m marks holds tells count =
      let cut : Nodes = assign (charging 0 m a d) d (with_entry (charging 0 m a d d) e None) in
      let b : Nodes = λ z. cond (marks z) (cleared (cut z)) (cut z) in
      let done = removal_done a b s d e x m marks (record { holds = holds; marks = tells; unlinked = cut; unlink = refl; clear = λ z. refl }) n count in
      let l = dir_live (a d).body (s.down d e x holds).whole in
      let lower = high d e x holds in
      let bound = bounded_after b done.formed done.accounted (a d).payer 0 m (payer_has_cell k d l)
      (ap (λ (t : Bool). (cond t (cleared (cut (a d).payer)) (cut (a d).payer)).body) (unmarked l (marks (a d).payer) refl) ∙ entry_kept (a d).payer ∙ charging_payer 0 m a d) (omega arith) in
      omega arith
    where
      unmarked : IsLive (a d).body → (t : Bool) → marks (a d).payer ≡ t → t ≡ false
      unmarked l true q =
          let h = subst (Tells a x (a d).payer) q (tells (a d).payer) in
          let deep = under_depth a s x (a d).payer h.1 h.0 in
          let lower = high d e x holds in
          absurd (omega arith)
      unmarked l false q = refl

      entry_kept : (z : ℕ) → (assign (charging 0 m a d) d (with_entry (charging 0 m a d d) e None) z).body ≡ (charging 0 m a d z).body
      entry_kept z = go (ℕ_discrete z d)
        where
          go : Dec (z ≡ d) → (assign (charging 0 m a d) d (with_entry (charging 0 m a d d) e None) z).body ≡ (charging 0 m a d z).body
          go (yes q) = subst (λ (y : ℕ). (assign (charging 0 m a d) d (with_entry (charging 0 m a d d) e None) y).body ≡ (charging 0 m a d y).body) (sym q) (ap (λ (v : Node). v.body) (assign_same (charging 0 m a d) d _))
          go (no q) = ap (λ (v : Node). v.body) (assign_other (charging 0 m a d) d z _ q)
