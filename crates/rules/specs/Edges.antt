-- The edges of the label order and of frames. Assumes nothing.
use Rattle.labels.specs.Edges.{LevelEdges}
use Rattle.frames.specs.Theorems.{FrameEdges}

pub record Edges : Type 0 where
  -- which words are below which, and the last valid word
  pub levels : LevelEdges
  -- signed amounts and reads
  pub frames : FrameEdges
