-- The nodes of a new store, of which only the root is in use.
use Rattle.std.proofs.Common.{◌≡◌, ℕ, ◌+◌, ◌-◌, ◌<◌, ◌≤◌, cond, Some, None, Option, sym, refl, ap, ◌∙◌, subst, arith}
use native.Mathlib.Decide.{ℕ_discrete}
use Rattle.labels.specs.declared.label.Label.{Label}
use Rattle.rules.specs.Calls.{flag}
use Rattle.rules.specs.Tree.{directory, empty}
use Rattle.rules.proofs.Assign.{assign_cases, assign_other}
use Rattle.rules.proofs.Balance.{Fit, Rooted}
use Rattle.rules.proofs.Sums.{sum_zero}
use Rattle.forest.specs.Nodes.{Node, Nodes, unused, dir, nowhere, with_body, is_live, IsLive, celled, WellFormed}
use Rattle.forest.specs.Forest.{tree_below, tree_of, has}
use Rattle.forest.specs.Accounts.{blank, Accounted}
use Rattle.forest.specs.Spares.{Stocked, Served, objects_in_use, pages_in_use}
use Rattle.forest.specs.Steps.{Kept}
use Rattle.forest.proofs.Tally.{sum_none, sum_one}
use Rattle.tables.specs.Cells.{full_cell}
use Rattle.tables.specs.Objects.{root_alone}

no_number : {v : ℕ} {o : Option ℕ} → o ≡ None → o ≡ Some v → ⊥
no_number none some = let z : ◌≡◌ {A = ℕ} 0 1 = cc in omega arith

module _ (l : Label) (n : ℕ) where
  -- the root has the label l, and its cell all n records
  abbrev pub fresh : Nodes
  fresh = root_alone (dir l (Some (full_cell n)))

  no_entry : (i e : ℕ) → (fresh i).entry e ≡ None
  no_entry i e = assign_cases (λ (x : Node). x.entry e ≡ None) (λ _. nowhere) 0 (with_body nowhere (dir l (Some (full_cell n)))) i (λ _. refl) refl

  no_page : (i k : ℕ) → (fresh i).page k ≡ None
  no_page i k = assign_cases (λ (x : Node). x.page k ≡ None) (λ _. nowhere) 0 (with_body nowhere (dir l (Some (full_cell n)))) i (λ _. refl) refl

  not_root : (i : ℕ) → (i ≡ 0 → ⊥) → (fresh i).body ≡ unused
  not_root i ne = ap (λ (x : Node). x.body) (assign_other (λ _. nowhere) 0 i (with_body nowhere (dir l (Some (full_cell n)))) ne)

  live_root : (i : ℕ) → IsLive (fresh i).body → i ≡ 0
  live_root i live = go (ℕ_discrete i 0)
    where
      go : Dec (i ≡ 0) → i ≡ 0
      go (yes e) = e
      go (no ne) = absurd (subst IsLive (not_root i ne) live)

  fresh_formed : WellFormed fresh
  fresh_formed = record {
    root = tt;
    funds = refl;
    top = refl;
    few = λ k live. let z = live_root k live in omega arith;
    down = λ i e j h. absurd (no_number (no_entry i e) h);
    mirror = λ j live ne. absurd (ne (live_root j live));
    pages = λ i k v h. absurd (no_number (no_page i k) h);
    pays = λ k live. subst (λ (j : ℕ). (fresh j).payer ≡ cond (celled (fresh j).body) j (fresh (fresh j).parent).payer) (sym (live_root k live)) refl;
  }

  pub fresh_tree : (w : ℕ → ℕ) → tree_of w fresh ≡ directory l (Some (full_cell n)) (λ i. empty)
  unfolding tree_of tree_below
  fresh_tree w = refl

  fresh_accounted : n ≤ 256 → Accounted n l fresh
  fresh_accounted few = record {
    fit = subst Fit (sym (fresh_tree blank)) (ap (λ (m : ℕ). n + m) (sum_zero 16) ∙ omega arith, λ i. (tt, λ h. refl));
    rooted = subst (Rooted n l) (sym (fresh_tree blank)) (refl, refl);
    few = few;
  }

  one_object : objects_in_use fresh ≡ 1
  one_object = sum_one 257 (λ i. flag (is_live (fresh i).body)) 0 (omega arith) (λ i _ ne. ap (λ b. flag (is_live b)) (not_root i ne))

  no_pages : pages_in_use fresh ≡ 0
  no_pages = sum_none 257 _ (λ i _. sum_none 16 _ (λ k _. ap has (no_page i k)))

  fresh_stocked : (item : ℕ → ℕ) → ((x : ℕ) → x < n → item x ≡ n - x) → Stocked n item n fresh
  fresh_stocked item is =
      let one = one_object in
      record {
        spare = record {
          free = λ x h. let e = is x h in (omega arith, not_root (item x) (λ z. omega arith));
          distinct = λ x y h h' same. let e = is x h in let e' = is y h' in omega arith;
        };
        counted = omega arith;
      }

  fresh_served : (page : ℕ → ℕ) → ((x : ℕ) → x < n → page x ≡ n - 1 - x) → Served n page n fresh
  fresh_served page is =
      let none = no_pages in
      record {
        used = λ i k v h. absurd (no_number (no_page i k) h);
        alone = λ i k j m v h _. absurd (no_number (no_page i k) h);
        spare = record {
          free = λ x h. let e = is x h in (omega arith, λ i k some. no_number (no_page i k) some);
          distinct = λ x y h h' same. let e = is x h in let e' = is y h' in omega arith;
        };
        counted = omega arith;
      }

  pub fresh_kept : (item page : ℕ → ℕ) → n ≤ 256 → ((x : ℕ) → x < n → item x ≡ n - x) → ((x : ℕ) → x < n → page x ≡ n - 1 - x) → Kept n fresh item n page n
  fresh_kept item page few items pages = record {
    formed = fresh_formed;
    root = l;
    accounted = fresh_accounted few;
    stocked = fresh_stocked item items;
    served = fresh_served page pages;
  }

  -- the same, of what is equal to it
  pub kept_as : {m : ℕ} {a : Nodes} {item page : ℕ → ℕ} {objects pages : ℕ} → m ≡ n → a ≡ fresh → objects ≡ n → pages ≡ n
      → n ≤ 256 → ((x : ℕ) → x < n → item x ≡ n - x) → ((x : ℕ) → x < n → page x ≡ n - 1 - x) → Kept m a item objects page pages
  kept_as {item = item} {page = page} em ea eo ep few items numbers =
      subst (λ (k : ℕ × (Nodes × (ℕ × ℕ))). Kept k.0 k.1.0 item k.1.1.0 page k.1.1.1) (sym (λ i. (em i, (ea i, (eo i, ep i))))) (fresh_kept item page few items numbers)
