-- The page of a volume that serves a page of a segment. Assumes nothing.
use Rattle.std.specs.Prelude.{ℕ, Bool, true, false}
use Rattle.objects.specs.declared.volume_page.VolumePage.{VolumePage}
use Rattle.objects.specs.declared.volume_page.VolumePage.TheVariants.{Held, Fresh}

-- its number in the volume
abbrev pub number_of : VolumePage → ℕ
number_of (Held v) = v
number_of (Fresh v) = v

-- whether it has only just begun to serve
abbrev pub is_fresh : VolumePage → Bool
is_fresh (Held v) = false
is_fresh (Fresh v) = true
