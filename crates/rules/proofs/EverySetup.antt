-- The laws, of every setup that testing, formatting and admissions make.
use Rattle.std.proofs.Common.{◌≡◌, take, subst}
use Rattle.rules.specs.Setup.{Setup, opened, format, set_up}
use Rattle.rules.specs.Histories.{after_all}
use Rattle.rules.specs.Isolation.{Alike, Isolated, Isolation}
use Rattle.rules.specs.Exchange.{Exchange}
use Rattle.rules.specs.Balance.{Balanced, Balance}
use Rattle.rules.specs.Invariants.{InvariantsKept}
use Rattle.rules.proofs.Admissions.{records_kept, tested}
use Rattle.rules.proofs.Isolation.{isolated}
use Rattle.rules.proofs.Exchange.{exchanged}
use Rattle.rules.proofs.Balance.{balances}
use Rattle.rules.proofs.Invariants.{invariants}

-- alike setups are equal
alike_equal : (s s' : Setup) → Alike s s' → s ≡ s'
alike_equal s s' a = λ i. record { orders = a.orders i; root = a.root i; records = a.records i; admitted = a.admitted i }

pub isolation : Isolation
isolation b b' g g' a = subst (Isolated (set_up b)) (alike_equal (set_up b) (set_up b') a) (isolated (set_up b) (tested b g))

pub exchange_law : Exchange
exchange_law b g = exchanged (set_up b) (tested b g)

pub balance : Balance
balance b cs k =
    let s = set_up b in
    subst (λ n. Balanced n (after_all s (opened s) (take k cs)).tree) (records_kept (format b.orders b.root b.pages) b.asked) (balances s cs k)

pub invariants_kept : InvariantsKept
invariants_kept b g cs = invariants (set_up b) (tested b g) cs
