-- What a table says of indices past its objects, and of those in use.
use Rattle.std.proofs.Common.{◌≡◌, ℕ, ◌<◌, ◌≤◌, map, vec_items, subst, arith}
use native.Mathlib.Decide.{dec_lt}
use Rattle.std.proofs.lemmas.List.{get_or_past, length-map}
use Rattle.forest.specs.Nodes.{Node, nowhere, IsLive}
use Rattle.tables.specs.declared.table.Table.{Table}
use Rattle.tables.specs.Objects.{node_of, look, table_size}

pub look_past : (t : Table) (i : ℕ) → table_size t ≤ i → look t i ≡ nowhere
look_past t i h =
    let long = t.objects.ok.0 in
    let same = length-map (vec_items t.objects) node_of in
    get_or_past (map node_of (vec_items t.objects)) i nowhere (omega arith)

pub live_within : (t : Table) (i : ℕ) → IsLive (look t i).body → i < table_size t
live_within t i live = go (dec_lt i (table_size t))
  where
    go : Dec (i < table_size t) → i < table_size t
    go (yes h) = h
    go (no h) = absurd (subst (λ (n : Node). IsLive n.body) (look_past t i (omega arith)) live)
