-- Quota moved, as the writes of a move make it.
use Rattle.std.proofs.Common.{◌≡◌, ℕ, ◌+◌, ◌≤◌, true, Some, sym, refl, ap, ◌∙◌, subst}
use mathlib.Core.Logic.{∥∥₁_map}
use native.Mathlib.Decide.{ℕ_discrete}
use Rattle.rules.specs.Indexed.{assign}
use Rattle.rules.proofs.Assign.{assign_same, assign_other}
use Rattle.forest.specs.Nodes.{Body, unused, seg, dir, Node, Nodes, with_body, is_live, celled, charged_body, regranted_body}
use Rattle.forest.specs.Forest.{cell_at}
use Rattle.forest.specs.Steps.{Kept}
use Rattle.forest.proofs.Keeping.{formed}
use Rattle.forest.proofs.Serving.{served_kept}
use Rattle.forest.proofs.Steps.{charging, charged_is, charging_live, Move, move_done, move_pages}
use Rattle.forest.proofs.Stock.{stocked_kept}

-- what the two writes come to
pub move : (a a₁ b : Nodes) (d e x c up down : ℕ) → (a d).entry e ≡ Some x → celled (a x).body ≡ true → c ≡ (a d).payer → a₁ ≡ assign a c (with_body (a c) (charged_body up down (a c).body))
    → b ≡ assign a₁ x (with_body (a₁ x) (regranted_body up down (a₁ x).body)) → Move a b d e x up down
move a a₁ b d e x c up down holds there is_payer w₀ w₁ =
    let charge : a₁ ≡ charging up down a d = charged_is a d c up down a₁ is_payer w₀ in
    record { holds = holds; celled_there = there; regrant_there = w₁ ∙ ap (λ (f : Nodes). assign f x (with_body (f x) (regranted_body up down (f x).body))) charge }

module _ {n : ℕ} {a b : Nodes} {object : ℕ → ℕ} {objects : ℕ} {page : ℕ → ℕ} {pages : ℕ} (k : ∥ Kept n a object objects page pages ∥₁) (d e x up down : ℕ) (i : Move a b d e x up down) where
  regranted_live : (y : ℕ) → is_live (b y).body ≡ is_live (charging up down a d y).body
  regranted_live y = ap (λ (f : Nodes). is_live (f y).body) i.regrant_there ∙ go (ℕ_discrete y x)
    where
      same : (t : Body) → is_live (regranted_body up down t) ≡ is_live t
      same unused = refl
      same seg = refl
      same (dir l c) = refl

      go : Dec (y ≡ x) → is_live (assign (charging up down a d) x (with_body (charging up down a d x) (regranted_body up down (charging up down a d x).body)) y).body ≡ is_live (charging up down a d y).body
      go (yes q) =
          subst (λ (z : ℕ). is_live (assign (charging up down a d) x (with_body (charging up down a d x) (regranted_body up down (charging up down a d x).body)) z).body ≡ is_live (charging up down a d z).body) (sym q)
          (ap (λ (v : Node). is_live v.body) (assign_same (charging up down a d) x _) ∙ same (charging up down a d x).body)
      go (no q) = ap (λ (v : Node). is_live v.body) (assign_other (charging up down a d) x y _ q)

  pub move_kept : up ≤ (cell_at a (a d).payer).left + down → down ≤ (cell_at a x).left + up → ∥ Kept n b object objects page pages ∥₁
  move_kept pays owes =
      let s = formed k in
      let done = move_done a b s d e x up down i n pays owes in
      ∥∥₁_map k (λ z. record {
        formed = done.formed;
        root = z.root;
        accounted = done.accounted z.root z.accounted;
        stocked = stocked_kept n object objects a b (λ y. regranted_live y ∙ charging_live up down a d y) z.stocked;
        served = served_kept n page pages a b (move_pages a b s d e x up down i) z.served;
      })

-- a cell beside the payer is as it was when the payer has been charged
pub charging_other : (a : Nodes) (d x up down : ℕ) → (x ≡ (a d).payer → ⊥) → charging up down a d x ≡ a x
charging_other a d x up down q = assign_other a (a d).payer x _ q
