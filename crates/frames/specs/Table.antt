-- What each of the eleven calls takes: kinds, bounds and data words. Assumes nothing.
use Rattle.std.specs.Prelude.{ℕ, ◌-◌, ◌^◌, Bool, cond, ◌&&◌, List, [], ◌∷◌, length, ◌==◌, nat_le, nat_lt, slice_index_or}
use Rattle.frames.specs.declared.table.Kind.{Kind}
use Rattle.frames.specs.declared.table.Kind.TheVariants.{KnownNumber, Place, Count, Amount, Security, Integrity}
use Rattle.frames.specs.declared.table.Parameter.{Parameter}

-- the top 4 bits of an argument
abbrev pub kind_code : Kind → ℕ
kind_code KnownNumber = 1
kind_code Place = 2
kind_code Count = 3
kind_code Amount = 4
kind_code Security = 5
kind_code Integrity = 6

-- what the bounds of a kind hold of: the value, or the distance of a signed amount from 0
abbrev pub size_of : Kind → ℕ → ℕ
size_of KnownNumber v = v
size_of Place v = v
size_of Count v = v
size_of Amount v = cond (nat_lt v (2 ^ 27)) v (2 ^ 28 - v)
size_of Security v = v
size_of Integrity v = v

-- whether a value lies within the bounds
abbrev pub within : Parameter → ℕ → Bool
within p v = nat_le p.least (size_of p.kind v) && nat_le (size_of p.kind v) p.most

abbrev pub parameter : Kind → ℕ → ℕ → Parameter
parameter k low high = record { kind = k; least = low; most = high }

abbrev pub known : Parameter
known = parameter KnownNumber 0 15

abbrev pub freeable : Parameter
freeable = parameter KnownNumber 1 15

abbrev pub place : Parameter
place = parameter Place 0 15

abbrev pub security : Parameter
security = parameter Security 0 0x0FFF_FFFF

abbrev pub integrity : Parameter
integrity = parameter Integrity 0 0x0FFF_FFFF

abbrev pub grant : Parameter
grant = parameter Count 0 256

abbrev pub first : Parameter
first = parameter Count 0 255

abbrev pub count : Parameter
count = parameter Count 1 16

abbrev pub keep : Parameter
keep = parameter Count 0 16

-- an amount is not 0, and at most 256 away from it
abbrev pub amount : Parameter
amount = parameter Amount 1 256

-- what a call takes: its arguments, and the most data words behind them
pub record Row : Type 0 where
  pub parameters : List Parameter
  pub payload : ℕ

abbrev pub row : List Parameter → ℕ → Row
row ps most = record { parameters = ps; payload = most }

-- calls 1 to 11, in order
abbrev pub rows : List Row
rows =
    row (known ∷ place ∷ []) 0
    ∷ row (known ∷ place ∷ security ∷ integrity ∷ grant ∷ []) 0
    ∷ row (known ∷ place ∷ known ∷ []) 0
    ∷ row (freeable ∷ []) 0
    ∷ row (known ∷ first ∷ count ∷ []) 0
    ∷ row (known ∷ first ∷ []) 16
    ∷ row (known ∷ keep ∷ []) 0
    ∷ row (known ∷ place ∷ []) 0
    ∷ row (known ∷ place ∷ amount ∷ []) 0
    ∷ row (known ∷ place ∷ []) 0
    ∷ row (known ∷ []) 0
    ∷ []

abbrev pub row_of : ℕ → Row
row_of n = slice_index_or rows (n - 1) (row [] 0)

abbrev pub parameters_of : ℕ → List Parameter
parameters_of n = (row_of n).parameters

abbrev pub arity : ℕ → ℕ
arity n = length (parameters_of n)

abbrev pub data_of : ℕ → ℕ
data_of n = (row_of n).payload

-- whether a call with at most so many data words takes n of them: one at least, where it takes any
abbrev pub takes_data : ℕ → ℕ → Bool
takes_data most n = cond (most == 0) (n == 0) (nat_le 1 n && nat_le n most)

-- whether a call with so many arguments and at most so many data words takes n words behind its head
abbrev pub takes : ℕ → ℕ → ℕ → Bool
takes arguments most n = nat_le arguments n && takes_data most (n - arguments)
