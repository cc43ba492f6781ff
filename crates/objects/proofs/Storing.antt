-- What storage keeps while one page of an object changes, and facts carried over to equal stacks.
use Rattle.std.proofs.Common.{◌≡◌, ℕ, suc, ◌<◌, Option, sym, refl, ap, ◌∙◌, subst, arith}
use mathlib.Core.Logic.{∥∥₁_map}
use Rattle.rules.specs.Indexed.{assign}
use Rattle.rules.proofs.Assign.{assign_cases}
use Rattle.forest.specs.Nodes.{Node, Nodes, with_entry, with_page, is_live, IsLive}
use Rattle.forest.specs.Spares.{Stocked, Served}
use Rattle.forest.specs.Steps.{Kept}
use Rattle.forest.proofs.Cutting.{paged_live}
use Rattle.forest.proofs.Stock.{stocked_kept}
use Rattle.forest.proofs.Serving.{served_kept}
use Rattle.tables.specs.declared.stack.Stack.{Stack}
use Rattle.tables.specs.declared.table.Table.{Table}
use Rattle.tables.specs.Objects.{look, table_size}
use Rattle.tables.specs.Stacks.{stack_item, stack_height, stack_room}
use Rattle.tables.proofs.Within.{live_within}
use Rattle.objects.specs.declared.storage.Storage.{Storage}
use Rattle.objects.specs.Storing.{IsStocked, IsServed, IsKept}

pub stocked_as : {n m : ℕ} {f g : ℕ → ℕ} {h l : ℕ} {a : Nodes} → n ≡ m → f ≡ g → h ≡ l → ∥ Stocked m g l a ∥₁ → ∥ Stocked n f h a ∥₁
stocked_as {a = a} e d p s = subst (λ (k : ℕ × ((ℕ → ℕ) × ℕ)). ∥ Stocked k.0 k.1.0 k.1.1 a ∥₁) (sym (λ i. (e i, (d i, p i)))) s

pub served_as : {n m : ℕ} {f g : ℕ → ℕ} {h l : ℕ} {a : Nodes} → n ≡ m → f ≡ g → h ≡ l → ∥ Served m g l a ∥₁ → ∥ Served n f h a ∥₁
served_as {a = a} e d p s = subst (λ (k : ℕ × ((ℕ → ℕ) × ℕ)). ∥ Served k.0 k.1.0 k.1.1 a ∥₁) (sym (λ i. (e i, (d i, p i)))) s

pub stocked_page : {n m : ℕ} {f : ℕ → ℕ} {h : ℕ} (a b : Nodes) (i k : ℕ) (o : Option ℕ) → b ≡ assign a i (with_page (a i) k o) → n ≡ m → ∥ Stocked m f h a ∥₁ → ∥ Stocked n f h b ∥₁
stocked_page a b i k o is e s = stocked_as e refl refl (∥∥₁_map s (stocked_kept _ _ _ a b (paged_live a b i (λ n. with_page n k o) (λ n. refl) is)))

pub kept_over : {n m : ℕ} {a : Nodes} {u v : Stack} {f : ℕ → ℕ} {h : ℕ} → n ≡ m → u ≡ v → ∥ Kept m a (stack_item v) (stack_height v) f h ∥₁ → ∥ Kept n a (stack_item u) (stack_height u) f h ∥₁
kept_over {a = a} {f = f} {h = h} e q s = subst (λ (k : ℕ × Stack). ∥ Kept k.0 a (stack_item k.1) (stack_height k.1) f h ∥₁) (sym (λ i. (e i, q i))) s

pub spares_over : {n : ℕ} {a : Nodes} {f : ℕ → ℕ} {h : ℕ} {u v : Stack} → u ≡ v → ∥ Kept n a f h (stack_item v) (stack_height v) ∥₁ → ∥ Kept n a f h (stack_item u) (stack_height u) ∥₁
spares_over {n = n} {a = a} {f = f} {h = h} q s = subst (λ (k : Stack). ∥ Kept n a f h (stack_item k) (stack_height k) ∥₁) (sym q) s

-- the table is as long as the stacks say
pub same_size : (s t : Storage) → stack_room t.spare ≡ stack_room s.spare → table_size t.table ≡ table_size s.table
same_size s t room = let one = s.sized in let two = t.sized in omega arith

-- an object of one is an object of the other
pub within_both : (s t : Storage) (i : ℕ) → t.spare ≡ s.spare → IsLive (look s.table i).body → i < table_size t.table
within_both s t i same live = let low = live_within s.table i live in let size = same_size s t (ap stack_room same) in omega arith

-- what storage keeps, where its objects are kept
pub stored : (t : Table) (u s : Stack) → table_size t ≡ suc (stack_room s) → stack_room u ≡ suc (stack_room s)
    → IsKept t u s → record {
      sized : table_size t ≡ suc (stack_room s);
      roomy : stack_room u ≡ suc (stack_room s);
      stocked : IsStocked t u s;
      served : IsServed t s;
    }
stored t u s size room k = record {
  sized = size;
  roomy = room;
  stocked = ∥∥₁_map k (λ z. z.stocked);
  served = ∥∥₁_map k (λ z. z.served);
}

-- what storage keeps, where no page changes, and no object comes into use or leaves it
pub stored_same : (s : Storage) (t : Table) → table_size t ≡ table_size s.table → ((x : ℕ) → (look t x).page ≡ (look s.table x).page) → ((x : ℕ) → is_live (look t x).body ≡ is_live (look s.table x).body)
    → record {
      sized : table_size t ≡ suc (stack_room s.spare);
      roomy : stack_room s.unused ≡ suc (stack_room s.spare);
      stocked : IsStocked t s.unused s.spare;
      served : IsServed t s.spare;
    }
stored_same s t size pages lives = record {
  sized = size ∙ s.sized;
  roomy = s.roomy;
  stocked = ∥∥₁_map s.stocked (stocked_kept _ _ _ (look s.table) (look t) lives);
  served = ∥∥₁_map s.served (served_kept _ _ _ (look s.table) (look t) pages);
}

-- an entry changes no page
pub entry_pages : (a b : Nodes) (d e : ℕ) (o : Option ℕ) → b ≡ assign a d (with_entry (a d) e o) → (x : ℕ) → (b x).page ≡ (a x).page
entry_pages a b d e o is x = ap (λ (f : Nodes). (f x).page) is ∙ assign_cases (λ (n : Node). n.page ≡ (a x).page) a d (with_entry (a d) e o) x (λ q. ap (λ (z : ℕ). (a z).page) (sym q)) refl
