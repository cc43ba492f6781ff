-- What stays true while pages are dropped.
use Rattle.forest.specs.Nodes.{with_pages}
use Rattle.forest.proofs.Truncate.{cut_upto}
use Rattle.objects.specs.PageChanges.{ChangesPages}
use Rattle.objects.proofs.storage.Storage.drop_pages.Given as goal

abbrev pub invariant-loop-page : goal.invariant-loop-page
invariant-loop-page l = ChangesPages l.initial.self l.self l.index (λ n. with_pages n (cut_upto l.keep l.page n.page))
