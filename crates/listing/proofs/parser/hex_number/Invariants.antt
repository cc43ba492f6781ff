-- What `hex_number` keeps true: the digits so far spell the number.
use Rattle.std.proofs.Common.{◌≡◌, ◌^◌, ◌<◌, drop}
use Rattle.listing.specs.Lines.{hex_from}
use Rattle.listing.proofs.parser.hex_number.Given as goal

abbrev pub invariant-loop-digit : goal.invariant-loop-digit
invariant-loop-digit l = record { fits : l.number < 16 ^ l.digit-index; spelled : hex_from l.number (drop l.digit-index l.digits) ≡ hex_from 0 l.digits }
