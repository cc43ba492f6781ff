-- The rows of a table of signatures. Assumes nothing.
use Rattle.std.proofs.Common.{◌≡◌, ℕ, ◌<◌, List, [], map, length, get_or, sym, ap}
use Rattle.std.proofs.lemmas.List.{get_or-map}
use Rattle.frames.specs.declared.table.Signature.{Signature}
use Rattle.frames.specs.Table.{Row, row}

-- the row that a signature is
abbrev of : Signature → Row
of s = row s.parameters.now s.payload

row_at : (calls : List Signature) (i : ℕ) (d : Signature) → i < length calls → of (get_or calls i d) ≡ get_or (map of calls) i (row [] 0)
row_at calls i d h = sym (get_or-map of calls i d (row [] 0) h)

parameters_at : (calls : List Signature) (i : ℕ) (d : Signature) → i < length calls → (get_or calls i d).parameters.now ≡ (get_or (map of calls) i (row [] 0)).parameters
parameters_at calls i d h = ap (λ (r : Row). r.parameters) (row_at calls i d h)

payload_at : (calls : List Signature) (i : ℕ) (d : Signature) → i < length calls → (get_or calls i d).payload ≡ (get_or (map of calls) i (row [] 0)).payload
payload_at calls i d h = ap (λ (r : Row). r.payload) (row_at calls i d h)
