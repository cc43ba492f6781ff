-- What holds of all frames and calls, and at the edges. Assumes nothing.
use Rattle.std.specs.Prelude.{◌≡◌, ℕ, ◌≤◌, List, [], ◌∷◌, length, negsuc, None, Ok, Err}
use Rattle.frames.specs.declared.fault.Flaw.TheVariants.{OutOfRange}
use Rattle.frames.specs.Faults.{blame}
use Rattle.frames.specs.Words.{value_of, signed}
use Rattle.frames.specs.Requests.{Request, read, move_quota, reply_words}
use Rattle.frames.specs.Decode.{decode}
use Rattle.frames.specs.Encode.{encode, refusal}
use Rattle.frames.specs.Ranges.{InRange}

-- a decoded call is in range, and its words fit into the reply buffer
abbrev pub DecodesInRange : Type 0
DecodesInRange = (frame : List ℕ) (room : ℕ) (c : Request) → decode frame room ≡ Ok c → InRange c × (reply_words c ≤ room)

-- the frame of a call in range reads back as that call, with every reply buffer that its words fit into
abbrev pub ReadsBack : Type 0
ReadsBack = (c : Request) (room : ℕ) → InRange c → reply_words c ≤ room → decode (encode c) room ≡ Ok c

-- the writer refuses exactly the calls out of range and the short buffers
pub record RefusesExactly : Type 0 where
  pub writes : (c : Request) (room : ℕ) → InRange c → length (encode c) ≤ room → refusal c room ≡ None
  pub only : (c : Request) (room : ℕ) → refusal c room ≡ None → InRange c × (length (encode c) ≤ room)

-- frames that ask for one call are one frame
abbrev pub OneFrame : Type 0
OneFrame = (f g : List ℕ) (room room' : ℕ) (c : Request) → decode f room ≡ Ok c → decode g room' ≡ Ok c → f ≡ g

-- a move of quota with a last word, and a read with the two words behind its segment
abbrev pub moving : ℕ → List ℕ
moving w = 0x80090003 ∷ 0x10000000 ∷ 0x20000000 ∷ w ∷ []

abbrev pub reading : ℕ → ℕ → List ℕ
reading v w = 0x80050003 ∷ 0x10000000 ∷ v ∷ w ∷ []

-- the edges of amounts and of reads
pub record FrameEdges : Type 0 where
  pub minus_one : signed (value_of 0x4FFFFFFF) ≡ negsuc 0
  pub moves_minus_one : decode (moving 0x4FFFFFFF) 16 ≡ Ok (move_quota 0 0 (negsuc 0))
  pub least_amount : decode (moving 0x4FFFFF00) 16 ≡ Ok (move_quota 0 0 (negsuc 255))
  pub below_least : decode (moving 0x4FFFFEFF) 16 ≡ Err (blame OutOfRange 3)
  pub last_word : decode (reading 0x300000FF 0x30000001) 16 ≡ Ok (read 0 255 1)
  pub past_last : decode (reading 0x300000FF 0x30000002) 16 ≡ Err (blame OutOfRange 3)
