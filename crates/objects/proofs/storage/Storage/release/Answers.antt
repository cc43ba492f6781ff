-- What is left to show of `release`.
use Rattle.std.proofs.Common.{◌≡◌, suc, refl, ap, ◌∙◌, arith}
use mathlib.Core.Logic.{∥∥₁_elim, ∥∥₁_map}
use native.Mathlib.Bridge.{le_prop}
use Rattle.rules.specs.Indexed.{assign}
use Rattle.rules.proofs.Assign.{assign_same, assign_other, assign_twice}
use Rattle.forest.specs.Nodes.{Node, Nodes, with_pages, cleared, IsLive}
use Rattle.forest.specs.Forest.{cut_links}
use Rattle.forest.proofs.Cutting.{paged_live, cleared_pages}
use Rattle.forest.proofs.Serving.{served_kept}
use Rattle.forest.proofs.Stock.{alive, stocked_room, stock_returned}
use Rattle.tables.specs.Objects.{look}
use Rattle.tables.specs.Stacks.{stack_item, stack_height, stack_room}
use Rattle.tables.proofs.Within.{live_within}
use Rattle.objects.proofs.Storing.{stocked_as}
use Rattle.objects.proofs.storage.Storage.release.Goals.{After-drop_pages, After-clear}
use Rattle.objects.proofs.storage.Storage.release.Goals as goal

-- without its pages the object is still in use
still_live : (c : After-drop_pages) → IsLive (look c.drop_pages.new.self.table c.args.index).body
still_live c =
    alive _ _ (paged_live (look c.args.self.now.table) (look c.drop_pages.new.self.table) c.args.index (λ n. with_pages n (cut_links 0 n.page)) (λ n. refl) c.drop_pages.ensures.after c.args.index) c.requires

pub push-requires : goal.push-requires
push-requires c =
    let s = c.drop_pages.new.self in
    let live = still_live (goal.at.push-requires c).After-drop_pages in
    let low = live_within s.table c.args.index live in
    let few = s.table.few in
    let sized = s.sized in
    let roomy = s.roomy in
    let free = ∥∥₁_elim s.stocked le_prop (stocked_room (stack_room s.spare) (stack_item s.unused) (stack_height s.unused) (look s.table) c.args.index (omega arith) (omega arith) live) in
    omega arith

-- the two writes are one
cleared_is : (c : After-clear) → look c.clear.new.self ≡ assign (look c.args.self.now.table) c.args.index (cleared (look c.args.self.now.table c.args.index))
cleared_is c =
    let a = look c.args.self.now.table in
    let i = c.args.index in
    c.clear.ensures.after
    ∙ ap (λ (f : Nodes). assign f i (cleared (f i))) c.drop_pages.ensures.after
    ∙ ap (λ (x : Node). assign (assign a i (with_pages (a i) (cut_links 0 (a i).page))) i (cleared x)) (assign_same a i _)
    ∙ assign_twice a i _ _

pub invariant_of-self : goal.invariant_of-self
invariant_of-self c =
    let s = c.drop_pages.new.self in
    let a = look s.table in
    let b = look c.clear.new.self in
    let i = c.args.index in
    let after = c.clear.ensures.after in
    let live = still_live (goal.at.invariant_of-self c).After-drop_pages in
    let low = live_within s.table i live in
    let few = s.table.few in
    let size = c.clear.ensures.size in
    let room = c.push.ensures.room in
    let sized = s.sized in
    let roomy = s.roomy in
    let height : stack_height c.push.new.self ≡ suc (stack_height s.unused) = let h = c.push.ensures.height in omega arith in
    record {
      sized = omega arith;
      roomy = omega arith;
      stocked =
          stocked_as refl c.push.ensures.items height
          (∥∥₁_map s.stocked (stock_returned a b (stack_room s.spare) (stack_item s.unused) (stack_height s.unused) i (omega arith)
          (λ x q. ap (λ (f : Nodes). (f x).body) after ∙ ap (λ (n : Node). n.body) (assign_other a i x _ q)) (omega arith) live
          (ap (λ (f : Nodes). (f i).body) after ∙ ap (λ (n : Node). n.body) (assign_same a i _))));
      served = ∥∥₁_map s.served (served_kept _ _ _ a b (cleared_pages (look c.args.self.now.table) a b i c.drop_pages.ensures.after (cleared_is (goal.at.invariant_of-self c).After-clear)));
    }

pub returns-clause-after : goal.returns-clause-after
returns-clause-after c = cleared_is (goal.at.returns-clause-after c).After-clear
