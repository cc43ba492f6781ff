-- What is left to show of `put_arguments`.
use Rattle.std.proofs.Common.{◌≡◌, length, sym, ◌∙◌, ◌⊎◌, inl, inr}
use Rattle.std.specs.Iterator.Adapters.{enumerate_source, zip_first, zip_second}
use Rattle.std.specs.Slice.Iter.{iter_rest}
use Rattle.frames.proofs.Arguments.{none_put}
use Rattle.frames.proofs.encoder.Parts.put_arguments.Goals as goal

pub returns : goal.returns
returns c =
    let e : (length (iter_rest (zip_first (enumerate_source c.loop-i.i-iterator))) ≡ 0) ⊎ (length (iter_rest (zip_second (enumerate_source c.loop-i.i-iterator))) ≡ 0) =
    elim c.in-None.ensures.steps.0 [ inl x ↦ inl x.1.0 | inr x ↦ inr x.1.0 ] in
    sym (none_put _ _ _ _ e) ∙ c.loop-i.invariant.words
