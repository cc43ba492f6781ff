-- What stays true while a page is written.
use Rattle.std.proofs.Common.{◌≡◌, ℕ}
use Rattle.volumes.specs.Pages.{pages_in}
use Rattle.forest.specs.Words.{page_written}
use Rattle.objects.specs.VolumePages.{number_of, is_fresh}
use Rattle.objects.specs.Writes.{told}
use Rattle.objects.proofs.volume_page.VolumePage.write.Given as goal

abbrev pub invariant-loop-word : goal.invariant-loop-word
invariant-loop-word g l =
    (pages_in (g.V.Volume.words l.volume) ≡ pages_in (g.V.Volume.words l.initial.volume))
    × ((x : ℕ) → told (g.V.Volume.words l.volume) x ≡ page_written (told (g.V.Volume.words l.initial.volume)) (number_of l.self) (is_fresh l.self) l.page.value l.extent.first l.extent.words.now l.word x)
