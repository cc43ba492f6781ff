-- The cell that an object uses can be charged.
use Rattle.std.proofs.Common.{ℕ, ◌+◌, ◌≤◌, arith}
use Rattle.forest.specs.Nodes.{Nodes, IsLive}
use Rattle.forest.specs.Forest.{cell_at}
use Rattle.forest.specs.Steps.{Kept}
use Rattle.forest.proofs.Keeping.{payer_is_live, payer_has_cell, granted_small, few_records}
use Rattle.tables.specs.Cells.{CanCharge}

pub can_charge : {n : ℕ} (a : Nodes) {object : ℕ → ℕ} {objects : ℕ} {page : ℕ → ℕ} {pages : ℕ} → ∥ Kept n a object objects page pages ∥₁ → (d taken back : ℕ) → IsLive (a d).body
    → taken ≤ 512 → taken ≤ (cell_at a (a d).payer).left + back → (cell_at a (a d).payer).left + back ≤ (cell_at a (a d).payer).granted + taken
    → record { live : IsLive (a d).body; payer : IsLive (a (a d).payer).body; cell : CanCharge taken back (cell_at a (a d).payer) }
can_charge a k d taken back l small enough bound =
    let high = granted_small k (a d).payer (payer_has_cell k d l) in
    let few = few_records k in
    record { live = l; payer = payer_is_live k d l; cell = record { enough = enough; granted = bound; fits = omega arith } }
