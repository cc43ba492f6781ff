-- All worked runs, and the root labels that are denied. Assumes nothing.
use Rattle.std.specs.Prelude.{◌≡◌}
use Rattle.labels.specs.PartOrders.{level_category, reversed, single}
use Rattle.rules.specs.Setup.{test_root}
use Rattle.worked_runs.specs.Runs.{label, refused, Answered, told}
use Rattle.worked_runs.specs.SevenCalls.{seven_calls}
use Rattle.worked_runs.specs.Creations.{creations}
use Rattle.worked_runs.specs.MakingKnown.{making_known}
use Rattle.worked_runs.specs.SegmentCalls.{segment_calls}
use Rattle.worked_runs.specs.DeletionsAndMoves.{deletions_and_moves}
use Rattle.worked_runs.specs.QuotaChain.{quota_chain}
use Rattle.worked_runs.specs.NoRecords.{no_records}
use Rattle.worked_runs.specs.ThreeRecords.{three_records}
use Rattle.worked_runs.specs.LargeVolume.{large_volume}
use Rattle.worked_runs.specs.WritingAgain.{writing_again}
use Rattle.worked_runs.specs.PageEdges.{page_edges}
use Rattle.worked_runs.specs.FrameHeads.{frame_heads}
use Rattle.worked_runs.specs.FrameLengths.{frame_lengths}
use Rattle.worked_runs.specs.FrameKinds.{frame_kinds}
use Rattle.worked_runs.specs.FrameRanges.{frame_ranges}
use Rattle.worked_runs.specs.DeletionSeen.{deletion_seen}
use Rattle.worked_runs.specs.EightProcesses.{eight_processes}
use Rattle.worked_runs.specs.ReversedIntegrity.{reversed_integrity}
use Rattle.worked_runs.specs.ReversedSecurity.{reversed_security}
use Rattle.worked_runs.specs.SingleWord.{single_word}
use Rattle.worked_runs.specs.AskingAdmission.{asking_admission}

pub record Worked : Type 0 where
  pub seven_calls_holds : Answered seven_calls
  pub creations_holds : Answered creations
  pub making_known_holds : Answered making_known
  pub segment_calls_holds : Answered segment_calls
  pub deletions_and_moves_holds : Answered deletions_and_moves
  pub quota_chain_holds : Answered quota_chain
  pub no_records_holds : Answered no_records
  pub three_records_holds : Answered three_records
  pub large_volume_holds : Answered large_volume
  pub writing_again_holds : Answered writing_again
  pub page_edges_holds : Answered page_edges
  pub frame_heads_holds : Answered frame_heads
  pub frame_lengths_holds : Answered frame_lengths
  pub frame_kinds_holds : Answered frame_kinds
  pub frame_ranges_holds : Answered frame_ranges
  pub deletion_seen_holds : Answered deletion_seen
  pub eight_processes_holds : Answered eight_processes
  pub reversed_integrity_holds : Answered reversed_integrity
  pub reversed_security_holds : Answered reversed_security
  pub single_word_holds : Answered single_word
  pub asking_admission_holds : Answered asking_admission
  pub security_word_denied : told (λ l. 0) (test_root (record { security = level_category; integrity = single }) (label 0x80000 0x0)) ≡ refused 11 2 0
  pub integrity_word_denied : told (λ l. 0) (test_root (record { security = level_category; integrity = single }) (label 0x0 0x1)) ≡ refused 11 2 0
  pub reversed_word_denied : told (λ l. 0) (test_root (record { security = single; integrity = reversed level_category }) (label 0x0 0x80000000)) ≡ refused 11 2 0
