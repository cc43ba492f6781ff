-- A new object, as the writes of its creation make it.
use Rattle.std.proofs.Common.{◌≡◌, ℕ, suc, ◌+◌, ◌-◌, ◌<◌, ◌≤◌, cond, Some, None, sym, refl, ap, ◌∙◌, subst, ap₂, arith}
use mathlib.Core.Logic.{∥∥₁_elim, ∥∥₁_map}
use mathlib.Core.HLevel.{⊥_prop}
use native.Mathlib.Bridge.{le_prop}
use native.Mathlib.Decide.{ℕ_discrete}
use Rattle.rules.specs.Indexed.{assign}
use Rattle.rules.specs.Cells.{cost}
use Rattle.rules.proofs.Assign.{assign_same, assign_other}
use Rattle.rules.proofs.Balance.{Fit}
use Rattle.forest.specs.Nodes.{Body, unused, seg, dir, Node, Nodes, with_body, with_entry, with_place, IsDir, IsLive, celled, charged_body}
use Rattle.forest.specs.Forest.{bare_tree, cell_at}
use Rattle.forest.specs.Spares.{Stocked}
use Rattle.forest.specs.Steps.{Kept}
use Rattle.forest.proofs.Keeping.{formed}
use Rattle.forest.proofs.Serving.{served_kept}
use Rattle.forest.proofs.Steps.{charging, charged_is, charging_live, Insertion, insertion_done, insertion_pages}
use Rattle.forest.proofs.Stock.{stocked_kept, stock_taken}

not_live : (t : Body) → (IsLive t → ⊥) → t ≡ unused
not_live unused h = refl
not_live seg h = absurd (h tt)
not_live (dir l c) h = absurd (h tt)

module _ {n : ℕ} {a : Nodes} {object : ℕ → ℕ} {objects : ℕ} {page : ℕ → ℕ} {pages : ℕ} (k : ∥ Kept n a object objects page pages ∥₁) (j : ℕ) (some : 1 ≤ objects) (top : j ≡ object (objects - 1)) where
  -- the object on top of the stack is not in use
  pub top_unused : (a j).body ≡ unused
  top_unused =
      not_live (a j).body (λ l. ∥∥₁_elim k ⊥_prop (λ z. subst IsLive (ap (λ (i : ℕ). (a i).body) top ∙ (z.stocked.spare.free (objects - 1) (omega arith)).1) l))

  pub top_within : j < suc n
  top_within = ∥∥₁_elim k le_prop (λ z. subst (λ (i : ℕ). i < suc n) (sym top) (z.stocked.spare.free (objects - 1) (omega arith)).0)

-- what the four writes come to
pub insertion : (a a₁ a₂ a₃ b : Nodes) (d e j c depth y n : ℕ) (N : Body) → IsDir (a d).body → e < 16 → (a d).entry e ≡ None → (a j).body ≡ unused → j < 257 → IsLive N
    → c ≡ (a d).payer → depth ≡ (a d).depth → y ≡ cond (celled N) j c
    → a₁ ≡ assign a c (with_body (a c) (charged_body n 0 (a c).body)) → a₂ ≡ assign a₁ d (with_entry (a₁ d) e (Some j)) → a₃ ≡ assign a₂ j (with_body (a₂ j) N)
    → b ≡ assign a₃ j (with_place (a₃ j) d e (depth + 1) y) → Insertion a b d e j n N
insertion a a₁ a₂ a₃ b d e j c depth y n N whole within vacant free few live is_payer is_depth pays w₀ w₁ w₂ w₃ =
    let charge : a₁ ≡ charging n 0 a d = charged_is a d c n 0 a₁ is_payer w₀ in
    let deep : depth + 1 ≡ suc (a d).depth = omega arith in
    record {
      whole = whole;
      within = within;
      vacant = vacant;
      free = free;
      few = few;
      live = live;
      linked = a₂;
      bodied = a₃;
      link = w₁ ∙ ap (λ (f : Nodes). assign f d (with_entry (f d) e (Some j))) charge;
      body = w₂;
      place = w₃ ∙ ap₂ (λ (x z : ℕ). assign a₃ j (with_place (a₃ j) d e x z)) deep (pays ∙ ap (cond (celled N) j) is_payer);
    }

module _ {n : ℕ} {a b : Nodes} {object : ℕ → ℕ} {objects : ℕ} {page : ℕ → ℕ} {pages : ℕ} (k : ∥ Kept n a object objects page pages ∥₁)
    (d e j taken : ℕ) (N : Body) (i : Insertion a b d e j taken N) where
  at_entry : (x : ℕ) → (i.linked x).body ≡ (charging taken 0 a d x).body
  at_entry x = ap (λ (f : Nodes). (f x).body) i.link ∙ go (ℕ_discrete x d)
    where
      go : Dec (x ≡ d) → (assign (charging taken 0 a d) d (with_entry (charging taken 0 a d d) e (Some j)) x).body ≡ (charging taken 0 a d x).body
      go (yes q) = subst (λ (z : ℕ). (assign (charging taken 0 a d) d (with_entry (charging taken 0 a d d) e (Some j)) z).body ≡ (charging taken 0 a d z).body) (sym q) (ap (λ (v : Node). v.body) (assign_same (charging taken 0 a d) d _))
      go (no q) = ap (λ (v : Node). v.body) (assign_other (charging taken 0 a d) d x _ q)

  placed : (x : ℕ) → (b x).body ≡ (i.bodied x).body
  placed x = ap (λ (f : Nodes). (f x).body) i.place ∙ go (ℕ_discrete x j)
    where
      go : Dec (x ≡ j) → (assign i.bodied j (with_place (i.bodied j) d e (suc (a d).depth) (cond (celled N) j (a d).payer)) x).body ≡ (i.bodied x).body
      go (yes q) = subst (λ (z : ℕ). (assign i.bodied j (with_place (i.bodied j) d e (suc (a d).depth) (cond (celled N) j (a d).payer)) z).body ≡ (i.bodied z).body) (sym q) (ap (λ (v : Node). v.body) (assign_same i.bodied j _))
      go (no q) = ap (λ (v : Node). v.body) (assign_other i.bodied j x _ q)

  new_body : (b j).body ≡ N
  new_body = placed j ∙ ap (λ (f : Nodes). (f j).body) i.body ∙ ap (λ (v : Node). v.body) (assign_same i.linked j _)

  other_body : (x : ℕ) → (x ≡ j → ⊥) → (b x).body ≡ (charging taken 0 a d x).body
  other_body x q = placed x ∙ ap (λ (f : Nodes). (f x).body) i.body ∙ ap (λ (v : Node). v.body) (assign_other i.linked j x _ q) ∙ at_entry x

  -- the memory keeps what it kept, with one object less on the stack
  pub insertion_kept : (object' : ℕ → ℕ) (objects' : ℕ) → object' ≡ object → objects' + 1 ≡ objects → j ≡ object (objects - 1)
      → Fit (bare_tree N) → cost (bare_tree N) ≡ taken → taken ≤ (cell_at a (a d).payer).left → ∥ Kept n b object' objects' page pages ∥₁
  insertion_kept object' objects' items heights top fit is enough =
      let s = formed k in
      let done = insertion_done a b s d e j taken N i n fit is enough in
      let height : objects ≡ suc objects' = omega arith in
      ∥∥₁_map k (λ z. record {
        formed = done.formed;
        root = z.root;
        accounted = done.accounted z.root z.accounted;
        stocked =
            stock_taken (charging taken 0 a d) b n object' objects' j i.few other_body
            (top ∙ ap object (omega arith) ∙ sym (ap (λ (f : ℕ → ℕ). f objects') items)) (subst IsLive (sym new_body) i.live)
            (stocked_kept n object' (suc objects') a (charging taken 0 a d) (charging_live taken 0 a d) (subst (λ (f : ℕ → ℕ). Stocked n f (suc objects') a) (sym items) (subst (λ (h : ℕ). Stocked n object h a) height z.stocked)));
        served = served_kept n page pages a b (insertion_pages a b s d e j taken N i) z.served;
      })
