-- A subtree removed, as the writes of a deletion make it.
use Rattle.std.proofs.Common.{◌≡◌, ℕ, Bool, cond, Some, None, sym, ap, ◌∙◌, subst}
use mathlib.Core.Logic.{∥∥₁_map₂}
use native.Mathlib.Decide.{ℕ_discrete}
use Rattle.rules.specs.Indexed.{assign, sum}
use Rattle.rules.proofs.Assign.{assign_same, assign_other}
use Rattle.forest.specs.Nodes.{Node, Nodes, with_body, with_entry, cleared, is_live, charged_body, Tells}
use Rattle.forest.specs.Forest.{weight}
use Rattle.forest.specs.Spares.{Stocked, Served}
use Rattle.forest.specs.Steps.{Kept}
use Rattle.forest.proofs.Keeping.{formed}
use Rattle.forest.proofs.Steps.{charging, charged_is, charging_live, charging_pages, Removal, removal_done}

-- the table after the payer was charged and the entry cleared
abbrev pub unlinking : ℕ → Nodes → ℕ → ℕ → Nodes
unlinking m a d e = assign (charging 0 m a d) d (with_entry (charging 0 m a d d) e None)

module _ (m : ℕ) (a : Nodes) (d e : ℕ) where
  split : (P : ℕ → Node → Type 0) → P d (with_entry (charging 0 m a d d) e None) → ((x : ℕ) → P x (charging 0 m a d x)) → (x : ℕ) → P x (unlinking m a d e x)
  split P here rest x = go (ℕ_discrete x d)
    where
      go : Dec (x ≡ d) → P x (unlinking m a d e x)
      go (yes q) = subst (λ (z : ℕ). P z (unlinking m a d e z)) (sym q) (subst (P d) (sym (assign_same (charging 0 m a d) d _)) here)
      go (no q) = subst (P x) (sym (assign_other (charging 0 m a d) d x _ q)) (rest x)

  pub unlinking_live : (x : ℕ) → is_live (unlinking m a d e x).body ≡ is_live (a x).body
  unlinking_live = split (λ x n. is_live n.body ≡ is_live (a x).body) (charging_live 0 m a d d) (charging_live 0 m a d)

  pub unlinking_pages : (x : ℕ) → (unlinking m a d e x).page ≡ (a x).page
  unlinking_pages = split (λ x n. n.page ≡ (a x).page) (charging_pages 0 m a d d) (charging_pages 0 m a d)

-- what the writes come to
pub unlinked_is : (a a₁ a₂ : Nodes) (d e c m : ℕ) → c ≡ (a d).payer → a₁ ≡ assign a c (with_body (a c) (charged_body 0 m (a c).body)) → a₂ ≡ assign a₁ d (with_entry (a₁ d) e None) → a₂ ≡ unlinking m a d e
unlinked_is a a₁ a₂ d e c m is w₀ w₁ = w₁ ∙ ap (λ (f : Nodes). assign f d (with_entry (f d) e None)) (charged_is a d c 0 m a₁ is w₀)

pub removal : (a a₂ b : Nodes) (d e x m : ℕ) (marks : ℕ → Bool) → (a d).entry e ≡ Some x → ((k : ℕ) → Tells a x k (marks k)) → a₂ ≡ unlinking m a d e → ((k : ℕ) → b k ≡ cond (marks k) (cleared (a₂ k)) (a₂ k)) → Removal a b d e x m marks
removal a a₂ b d e x m marks holds tells w₁ w₂ = record { holds = holds; marks = tells; unlinked = a₂; unlink = w₁; clear = w₂ }

module _ {n : ℕ} {a b : Nodes} {object : ℕ → ℕ} {objects : ℕ} {page : ℕ → ℕ} {pages : ℕ} (k : ∥ Kept n a object objects page pages ∥₁) (d e x m : ℕ) (marks : ℕ → Bool) (i : Removal a b d e x m marks) where
  pub removal_kept : (object' : ℕ → ℕ) (objects' : ℕ) (page' : ℕ → ℕ) (pages' : ℕ) → m ≡ sum 257 (λ z. cond (marks z) (weight (a z)) 0)
      → ∥ Stocked n object' objects' b ∥₁ → ∥ Served n page' pages' b ∥₁ → ∥ Kept n b object' objects' page' pages' ∥₁
  removal_kept object' objects' page' pages' count stocked served =
      let done = removal_done a b (formed k) d e x m marks i n count in
      let both : ∥ Stocked n object' objects' b × Served n page' pages' b ∥₁ = ∥∥₁_map₂ stocked served (λ u v. (u, v)) in
      ∥∥₁_map₂ k both (λ z w. record {
        formed = done.formed;
        root = z.root;
        accounted = done.accounted z.root z.accounted;
        stocked = w.0;
        served = w.1;
      })
