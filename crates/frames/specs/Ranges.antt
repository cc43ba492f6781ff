-- The ranges of a call's arguments, call by call. Assumes nothing.
use Rattle.std.specs.Prelude.{◌+◌, ◌^◌, ◌<◌, ◌≤◌, length, ℤ, pos, negsuc, ◌≤ℤ◌, ◌≢◌}
use Rattle.frames.specs.Requests.{Request, create_segment, create_directory, make_known, terminate, read, write, truncate, delete, move_quota, status, quota}

-- from -256 to 256, and not 0
abbrev pub Movable : ℤ → Type 0
Movable amount = (negsuc 255 ≤ℤ amount) × (amount ≤ℤ pos 256) × (amount ≢ pos 0)

-- every argument is in its range, and no read or write passes word 255
abbrev pub InRange : Request → Type 0
InRange (create_segment d e) = (d ≤ 15) × (e ≤ 15)
InRange (create_directory d e security integrity grant) = (d ≤ 15) × (e ≤ 15) × (security < 2 ^ 28) × (integrity < 2 ^ 28) × (grant ≤ 256)
InRange (make_known d e n) = (d ≤ 15) × (e ≤ 15) × (n ≤ 15)
InRange (terminate n) = (1 ≤ n) × (n ≤ 15)
InRange (read s first count) = (s ≤ 15) × (first ≤ 255) × (1 ≤ count) × (count ≤ 16) × (first + count ≤ 256)
InRange (write s first words) = (s ≤ 15) × (first ≤ 255) × (1 ≤ length words) × (length words ≤ 16) × (first + length words ≤ 256)
InRange (truncate s keep) = (s ≤ 15) × (keep ≤ 16)
InRange (delete d e) = (d ≤ 15) × (e ≤ 15)
InRange (move_quota d e amount) = (d ≤ 15) × (e ≤ 15) × Movable amount
InRange (status d e) = (d ≤ 15) × (e ≤ 15)
InRange (quota d) = d ≤ 15
