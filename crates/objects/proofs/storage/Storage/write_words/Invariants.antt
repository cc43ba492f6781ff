-- What stays true while the pages are written.
use Rattle.std.proofs.Common.{◌≡◌, ℕ, ◌+◌, ◌*◌, ◌≤◌, length}
use Rattle.volumes.specs.Pages.{pages_in}
use Rattle.rules.specs.Indexed.{sum}
use Rattle.forest.specs.Nodes.{with_pages}
use Rattle.forest.specs.Forest.{pages_of}
use Rattle.forest.proofs.Write.{written_upto}
use Rattle.tables.specs.Objects.{look}
use Rattle.tables.specs.Stacks.{stack_height, stack_room}
use Rattle.objects.specs.PageChanges.{ChangesPages}
use Rattle.objects.specs.Writes.{told, lacks}
use Rattle.objects.proofs.storage.Storage.write_words.Given as goal

-- the pages still to be taken are on the stack
abbrev pub invariant-loop-page : goal.invariant-loop-page
invariant-loop-page g l = record {
  changed : ChangesPages l.initial.self l.self l.index (λ n. with_pages n (look l.self.table l.index).page);
  height : stack_height l.self.spare + sum l.page (lacks l.extent.first (length l.extent.words.now) (look l.initial.self.table l.index).page) ≡ stack_height l.initial.self.spare;
  own : pages_of (told (g.V.Volume.words l.volume)) (look l.self.table l.index).page ≡ written_upto l.page (pages_of (told (g.V.Volume.words l.initial.volume)) (look l.initial.self.table l.index).page) l.extent.first l.extent.words.now;
  others : (j : ℕ) → (j ≡ l.index → ⊥) → pages_of (told (g.V.Volume.words l.volume)) (look l.self.table j).page ≡ pages_of (told (g.V.Volume.words l.initial.volume)) (look l.initial.self.table j).page;
  pages : pages_in (g.V.Volume.words l.volume) ≡ pages_in (g.V.Volume.words l.initial.volume);
  beyond : (x : ℕ) → 16 * stack_room l.initial.self.spare ≤ x → told (g.V.Volume.words l.volume) x ≡ told (g.V.Volume.words l.initial.volume) x;
}
