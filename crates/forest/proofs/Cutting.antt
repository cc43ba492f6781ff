-- A segment cut short, as the writes of a truncation make it.
use Rattle.std.proofs.Common.{◌≡◌, ℕ, cond, ltb, None, sym, refl, ap, ◌∙◌, subst, arith, le-ltb}
use mathlib.Core.Path.{fun_ext}
use mathlib.Core.Logic.{∥∥₁_map₂}
use native.Mathlib.Decide.{ℕ_discrete}
use Rattle.rules.specs.Indexed.{assign, sum}
use Rattle.rules.proofs.Assign.{assign_same, assign_other}
use Rattle.forest.specs.Nodes.{Node, Nodes, with_body, with_pages, cleared, IsSeg, is_live, charged_body}
use Rattle.forest.specs.Forest.{cut_links, has}
use Rattle.forest.specs.Spares.{Served}
use Rattle.forest.specs.Steps.{Kept}
use Rattle.forest.proofs.Keeping.{formed}
use Rattle.forest.proofs.Steps.{charging, charged_is, charging_live, Truncation, truncation_done}
use Rattle.forest.proofs.Stock.{stocked_kept}

-- what the two writes come to
pub truncation : (a a₁ b : Nodes) (i c m keep : ℕ) → IsSeg (a i).body → c ≡ (a i).payer → a₁ ≡ assign a c (with_body (a c) (charged_body 0 m (a c).body))
    → b ≡ assign a₁ i (with_pages (a₁ i) (cut_links keep (a₁ i).page)) → Truncation a b i m keep
truncation a a₁ b i c m keep is_seg is_payer w₀ w₁ =
    let charge : a₁ ≡ charging 0 m a i = charged_is a i c 0 m a₁ is_payer w₀ in
    record { is_seg = is_seg; cut = w₁ ∙ ap (λ (f : Nodes). assign f i (with_pages (f i) (cut_links keep (f i).page))) charge }

-- pages change no body
pub paged_live : (a b : Nodes) (i : ℕ) (f : Node → Node) → ((n : Node) → (f n).body ≡ n.body) → b ≡ assign a i (f (a i)) → (x : ℕ) → is_live (b x).body ≡ is_live (a x).body
paged_live a b i f keeps here x = ap (λ (g : Nodes). is_live (g x).body) here ∙ go (ℕ_discrete x i)
  where
    go : Dec (x ≡ i) → is_live (assign a i (f (a i)) x).body ≡ is_live (a x).body
    go (yes q) = subst (λ (z : ℕ). is_live (assign a i (f (a i)) z).body ≡ is_live (a z).body) (sym q) (ap (λ (n : Node). is_live n.body) (assign_same a i (f (a i))) ∙ ap is_live (keeps (a i)))
    go (no q) = ap (λ (n : Node). is_live n.body) (assign_other a i x (f (a i)) q)

module _ {n : ℕ} {a b : Nodes} {object : ℕ → ℕ} {objects : ℕ} {page : ℕ → ℕ} {pages : ℕ} (k : ∥ Kept n a object objects page pages ∥₁) (i m keep : ℕ) (t : Truncation a b i m keep) where
  pub truncation_kept : (page' : ℕ → ℕ) (pages' : ℕ) → m ≡ sum 16 (λ x. cond (ltb x keep) 0 (has ((a i).page x))) → ∥ Served n page' pages' b ∥₁ → ∥ Kept n b object objects page' pages' ∥₁
  truncation_kept page' pages' count served =
      let done = truncation_done a b (formed k) i m keep t n count in
      ∥∥₁_map₂ k served (λ z v. record {
        formed = done.formed;
        root = z.root;
        accounted = done.accounted z.root z.accounted;
        stocked =
            stocked_kept n object objects a b
            (λ x. paged_live (charging 0 m a i) b i (λ u. with_pages u (cut_links keep u.page)) (λ u. refl) t.cut x ∙ charging_live 0 m a i x)
            z.stocked;
        served = v;
      })

-- an object that lost all its pages has none when it is cleared
pub cleared_pages : (a a₁ b : Nodes) (i : ℕ) → a₁ ≡ assign a i (with_pages (a i) (cut_links 0 (a i).page)) → b ≡ assign a i (cleared (a i)) → (x : ℕ) → (b x).page ≡ (a₁ x).page
cleared_pages a a₁ b i w₀ w₁ x = ap (λ (f : Nodes). (f x).page) w₁ ∙ go (ℕ_discrete x i) ∙ sym (ap (λ (f : Nodes). (f x).page) w₀)
  where
    none : (k : ℕ) → None ≡ cut_links 0 (a i).page k
    none k = sym (ap (λ t. cond t ((a i).page k) None) (le-ltb k 0 (omega arith)))

    go : Dec (x ≡ i) → (assign a i (cleared (a i)) x).page ≡ (assign a i (with_pages (a i) (cut_links 0 (a i).page)) x).page
    go (yes q) =
        subst (λ (z : ℕ). (assign a i (cleared (a i)) z).page ≡ (assign a i (with_pages (a i) (cut_links 0 (a i).page)) z).page) (sym q)
        (ap (λ (n : Node). n.page) (assign_same a i _) ∙ fun_ext none ∙ sym (ap (λ (n : Node). n.page) (assign_same a i _)))
    go (no q) = ap (λ (n : Node). n.page) (assign_other a i x _ q) ∙ sym (ap (λ (n : Node). n.page) (assign_other a i x _ q))
