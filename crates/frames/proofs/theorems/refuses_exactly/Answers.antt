-- What is left to show of `refuses_exactly`.
use Rattle.frames.proofs.Ranges.{in_range, passes, not_refused, passes_both}
use Rattle.frames.proofs.theorems.refuses_exactly.Goals as goal

pub returns : goal.returns
returns c =
    record {
      writes = λ q room r fits. not_refused q room (passes q r) fits;
      only = λ q room e. let p = passes_both q room e in (in_range q p.0, p.1);
    }
