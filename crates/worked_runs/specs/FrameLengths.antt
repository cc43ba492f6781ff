-- How many words: data words of a write, the end of a segment, and the reply buffer. Assumes nothing.
use Rattle.std.specs.Prelude.{[], ◌∷◌}
use Rattle.labels.specs.PartOrders.{level_category, single}
use Rattle.worked_runs.specs.Runs.{Run, label, asks, process, step, gets, reads, denied}

abbrev pub frame_lengths : Run
frame_lengths = record {
  security = level_category;
  integrity = single;
  root = label 0x0 0x0;
  pages = 6;
  admissions =
      asks 0x0 0x0 (process 0)
      ∷ [];
  steps =
      step 0 0 (0x80010002 ∷ 0x10000000 ∷ 0x2000000C ∷ []) (gets 1 0 0 0)
      ∷ step 0 0 (0x80030003 ∷ 0x10000000 ∷ 0x2000000C ∷ 0x1000000A ∷ []) (gets 1 1 0 0)
      ∷ step 0 0 (0x80060000 ∷ []) (denied 3 1 0)
      ∷ step 0 0 (0x80060001 ∷ 0x1000000A ∷ []) (denied 3 1 0)
      -- no data words
      ∷ step 0 0 (0x80060002 ∷ 0x1000000A ∷ 0x30000004 ∷ []) (denied 3 1 0)
      -- 17 data words
      ∷ step 0 0 (0x80060013 ∷ 0x1000000A ∷ 0x30000004 ∷ 0x00000001 ∷ 0x00000002 ∷ 0x00000003 ∷ 0x00000004 ∷ 0x00000005 ∷ 0x00000006 ∷ 0x00000007 ∷ 0x00000008 ∷ 0x00000009 ∷ 0x0000000A ∷ 0x0000000B ∷ 0x0000000C ∷ 0x0000000D ∷ 0x0000000E ∷ 0x0000000F ∷ 0x00000010 ∷ 0x00000011 ∷ []) (denied 3 1 0)
      ∷ step 0 0 (0x80060003 ∷ 0x1000000A ∷ 0x30000004 ∷ 0x00000001 ∷ 0x00000002 ∷ []) (denied 3 1 0)
      ∷ step 0 0 (0x80060004 ∷ 0x1000000A ∷ 0x30000004 ∷ 0x00000001 ∷ []) (denied 3 1 0)
      -- no data words: 3 before 4 and 5
      ∷ step 0 0 (0x80060002 ∷ 0x2000000A ∷ 0x30000100 ∷ []) (denied 3 1 0)
      -- word 255 alone
      ∷ step 0 0 (0x80060003 ∷ 0x1000000A ∷ 0x300000FF ∷ 0x00000FF1 ∷ []) (gets 1 0 0 0)
      -- passes word 255
      ∷ step 0 0 (0x80060004 ∷ 0x1000000A ∷ 0x300000FF ∷ 0x00000FF1 ∷ 0x00000FF2 ∷ []) (denied 5 1 2)
      -- 240 + 16 = 256
      ∷ step 0 0 (0x80060012 ∷ 0x1000000A ∷ 0x300000F0 ∷ 0x00000F00 ∷ 0x00000F01 ∷ 0x00000F02 ∷ 0x00000F03 ∷ 0x00000F04 ∷ 0x00000F05 ∷ 0x00000F06 ∷ 0x00000F07 ∷ 0x00000F08 ∷ 0x00000F09 ∷ 0x00000F0A ∷ 0x00000F0B ∷ 0x00000F0C ∷ 0x00000F0D ∷ 0x00000F0E ∷ 0x00000F0F ∷ []) (gets 0 0 0 0)
      -- 241 + 16 = 257
      ∷ step 0 0 (0x80060012 ∷ 0x1000000A ∷ 0x300000F1 ∷ 0x00000E00 ∷ 0x00000E01 ∷ 0x00000E02 ∷ 0x00000E03 ∷ 0x00000E04 ∷ 0x00000E05 ∷ 0x00000E06 ∷ 0x00000E07 ∷ 0x00000E08 ∷ 0x00000E09 ∷ 0x00000E0A ∷ 0x00000E0B ∷ 0x00000E0C ∷ 0x00000E0D ∷ 0x00000E0E ∷ 0x00000E0F ∷ []) (denied 5 1 2)
      -- number 5 is free: the frame before the store
      ∷ step 0 0 (0x80060004 ∷ 0x10000005 ∷ 0x300000FF ∷ 0x00000001 ∷ 0x00000002 ∷ []) (denied 5 1 2)
      -- number out of range before the end passed
      ∷ step 0 0 (0x80060004 ∷ 0x10000010 ∷ 0x300000FF ∷ 0x00000001 ∷ 0x00000002 ∷ []) (denied 5 1 1)
      -- 240 + 16 = 256, and count = room
      ∷ step 0 16 (0x80050003 ∷ 0x1000000A ∷ 0x300000F0 ∷ 0x30000010 ∷ []) (reads 16 (0x00000F00 ∷ 0x00000F01 ∷ 0x00000F02 ∷ 0x00000F03 ∷ 0x00000F04 ∷ 0x00000F05 ∷ 0x00000F06 ∷ 0x00000F07 ∷ 0x00000F08 ∷ 0x00000F09 ∷ 0x00000F0A ∷ 0x00000F0B ∷ 0x00000F0C ∷ 0x00000F0D ∷ 0x00000F0E ∷ 0x00000F0F ∷ []))
      -- 257
      ∷ step 0 16 (0x80050003 ∷ 0x1000000A ∷ 0x300000F1 ∷ 0x30000010 ∷ []) (denied 5 1 3)
      ∷ step 0 16 (0x80050003 ∷ 0x1000000A ∷ 0x300000FF ∷ 0x30000001 ∷ []) (reads 1 (0x00000F0F ∷ []))
      ∷ step 0 16 (0x80050003 ∷ 0x1000000A ∷ 0x300000FF ∷ 0x30000002 ∷ []) (denied 5 1 3)
      -- count = room + 1
      ∷ step 0 15 (0x80050003 ∷ 0x1000000A ∷ 0x300000F0 ∷ 0x30000010 ∷ []) (denied 5 1 3)
      ∷ step 0 15 (0x80050003 ∷ 0x1000000A ∷ 0x300000F0 ∷ 0x3000000F ∷ []) (reads 15 (0x00000F00 ∷ 0x00000F01 ∷ 0x00000F02 ∷ 0x00000F03 ∷ 0x00000F04 ∷ 0x00000F05 ∷ 0x00000F06 ∷ 0x00000F07 ∷ 0x00000F08 ∷ 0x00000F09 ∷ 0x00000F0A ∷ 0x00000F0B ∷ 0x00000F0C ∷ 0x00000F0D ∷ 0x00000F0E ∷ []))
      ∷ step 0 1 (0x80050003 ∷ 0x1000000A ∷ 0x300000F7 ∷ 0x30000001 ∷ []) (reads 1 (0x00000F07 ∷ []))
      ∷ step 0 1 (0x80050003 ∷ 0x1000000A ∷ 0x300000F7 ∷ 0x30000002 ∷ []) (denied 5 1 3)
      -- no reply buffer: no read passes
      ∷ step 0 0 (0x80050003 ∷ 0x1000000A ∷ 0x300000F7 ∷ 0x30000001 ∷ []) (denied 5 1 3)
      -- number 5 is free: the frame before the store
      ∷ step 0 0 (0x80050003 ∷ 0x10000005 ∷ 0x300000F7 ∷ 0x30000001 ∷ []) (denied 5 1 3)
      ∷ step 0 1000 (0x80050003 ∷ 0x1000000A ∷ 0x300000FE ∷ 0x30000002 ∷ []) (reads 2 (0x00000F0E ∷ 0x00000F0F ∷ []))
      -- 17 words are too many for any buffer
      ∷ step 0 1000 (0x80050003 ∷ 0x1000000A ∷ 0x30000010 ∷ 0x30000011 ∷ []) (denied 5 1 3)
      ∷ step 0 2 (0x80050003 ∷ 0x1000000A ∷ 0x300000EE ∷ 0x30000002 ∷ []) (reads 2 (0x00000000 ∷ 0x00000000 ∷ []))
      -- a data word that looks like a head
      ∷ step 0 0 (0x80060003 ∷ 0x1000000A ∷ 0x300000EF ∷ 0x80060003 ∷ []) (gets 1 0 0 0)
      ∷ step 0 3 (0x80050003 ∷ 0x1000000A ∷ 0x300000EE ∷ 0x30000003 ∷ []) (reads 3 (0x00000000 ∷ 0x80060003 ∷ 0x00000F00 ∷ []))
      ∷ step 0 0 (0x800A0002 ∷ 0x10000000 ∷ 0x2000000C ∷ []) (gets 1 0 0 2)
      ∷ [];
}
