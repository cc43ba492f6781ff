-- A table of objects as nodes. Assumes nothing.
use Rattle.std.specs.Prelude.{◌≡◌, ℕ, List, map, vec_items, vec_len, slice_index_or}
use Rattle.rules.specs.Indexed.{assign}
use Rattle.forest.specs.Nodes.{Node, Nodes, nowhere, with_body}
use Rattle.forest.specs.Nodes as forest
use Rattle.tables.specs.declared.body.Body.{Body}
use Rattle.tables.specs.declared.object.Object.{Object}
use Rattle.tables.specs.declared.table.Table.{Table}
use Rattle.tables.specs.Bodies.{body_of}
use Rattle.tables.specs.Links.{link}

-- the node that an object stands for
abbrev pub node_of : Object → Node
node_of o = record { body = body_of o.body; parent = o.parent; place = o.place; depth = o.depth; payer = o.payer; entry = link o.entries; page = link o.pages }

-- the node at each index of a list of objects
abbrev pub view : List Object → Nodes
view os i = slice_index_or (map node_of os) i nowhere

-- the node at each index of a table
abbrev pub look : Table → Nodes
look t = view (vec_items t.objects)

-- how many objects a table has, in use or not
abbrev pub table_size : Table → ℕ
table_size t = vec_len t.objects

-- the nodes, but f of what is at i
abbrev pub change_at : Nodes → ℕ → (Node → Node) → Nodes
change_at a i f = assign a i (f (a i))

-- a root alone
abbrev pub root_alone : forest.Body → Nodes
root_alone b = assign (λ _. nowhere) 0 (with_body nowhere b)

-- the table, but f of what is at i, and as many objects as before
pub record Changed (old new : Table) (i : ℕ) (f : Node → Node) : Type 0 where
  pub after : look new ≡ change_at (look old) i f
  pub size : table_size new ≡ table_size old

-- the table, but with another body at i, to which R relates the one that was there
pub record ChangesBody (R : Body → Body → Type 0) (old new : Table) (i : ℕ) : Type 0 where
  pub was : Body
  pub is : Body
  pub read : body_of was ≡ (look old i).body
  pub related : R was is
  pub changed : Changed old new i (λ n. with_body n (body_of is))
