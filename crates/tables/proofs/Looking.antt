-- What one read or write of a table of objects is to its nodes.
use Rattle.std.proofs.Common.{◌≡◌, ℕ, ◌<◌, List, map, length, get_or, set, vec_items, vec_len, Vec, None, Option, sym, ap, ◌∙◌, subst, arith}
use Rattle.std.proofs.lemmas.List.{map-set, get_or-map, length-map}
use Rattle.std.specs.Vec.{with_item}
use Rattle.std.specs.declared.alloc.Global.{Global}
use Rattle.rules.specs.Indexed.{assign}
use Rattle.forest.specs.Nodes.{unused, Node, nowhere, with_entry, with_page, cleared}
use Rattle.tables.specs.declared.body.Body.TheVariants.{Unused}
use Rattle.tables.specs.declared.object.Object.{Object}
use Rattle.tables.specs.declared.sixteen.Sixteen.{Sixteen}
use Rattle.tables.specs.declared.table.Table.{Table}
use Rattle.tables.specs.Bodies.{body_of}
use Rattle.tables.specs.Links.{link, no_links}
use Rattle.tables.specs.Objects.{node_of, view, look, table_size, change_at, Changed}
use Rattle.tables.specs.Sixteens.{with_value}
use Rattle.tables.proofs.Items.{items_set, value_changed}

table_long : (t : Table) (i : ℕ) → i < table_size t → i < length (vec_items t.objects)
table_long t i h = let a = t.objects.ok.0 in omega arith

view_read : (os : List Object) (i : ℕ) (o : Object) → i < length os → o ≡ get_or os i o → view os i ≡ node_of o
view_read os i o h e = get_or-map node_of os i o nowhere h ∙ ap node_of (sym e)

view_set : (os : List Object) (i : ℕ) (o : Object) → i < length os → view (set os i o) ≡ assign (view os) i (node_of o)
view_set os i o h =
    ap (λ (ns : List Node). λ k. get_or ns k nowhere) (map-set node_of os i o)
    ∙ items_set (map node_of os) i (node_of o) nowhere (subst (λ (n : ℕ). i < n) (sym (length-map os node_of)) h)

-- o was read at i
pub looked : (t : Table) (i : ℕ) (o : Object) → i < table_size t → o ≡ get_or (vec_items t.objects) i o → node_of o ≡ look t i
looked t i o h e = sym (view_read (vec_items t.objects) i o (table_long t i h) e)

-- o was read at i, and o', which as a node is f of it, stands there
pub look_changed : (t : Table) (i : ℕ) (o o' : Object) (f : Node → Node) → i < table_size t → o ≡ get_or (vec_items t.objects) i o → node_of o' ≡ f (node_of o) → view (set (vec_items t.objects) i o') ≡ change_at (look t) i f
look_changed t i o o' f h e q = view_set (vec_items t.objects) i o' (table_long t i h) ∙ ap (assign (look t) i) (q ∙ ap f (looked t i o h e))

-- o was read at i, and became o', which as a node is f of it
pub changed_at : (t u : Table) (i : ℕ) (o o' : Object) (f : Node → Node) → i < table_size t → o ≡ get_or (vec_items t.objects) i o → u.objects ≡ with_item t.objects i o' → node_of o' ≡ f (node_of o) → Changed t u i f
changed_at t u i o o' f h e is q = record {
  after = ap (λ (v : Vec Object Global). view (vec_items v)) is ∙ look_changed t i o o' f h e q;
  size = ap (λ (v : Vec Object Global). vec_len v) is;
}

-- Objects as nodes

pub node_entry : (o : Object) (e : ℕ) (v : Option ℕ) → e < 16 → node_of (record { body = o.body; parent = o.parent; place = o.place; depth = o.depth; payer = o.payer; entries = with_value o.entries e v; pages = o.pages }) ≡ with_entry (node_of o) e v
node_entry o e v h i = record { body = body_of o.body; parent = o.parent; place = o.place; depth = o.depth; payer = o.payer; entry = value_changed o.entries e v None h i; page = link o.pages }

pub node_page : (o : Object) (k : ℕ) (v : Option ℕ) → k < 16 → node_of (record { body = o.body; parent = o.parent; place = o.place; depth = o.depth; payer = o.payer; entries = o.entries; pages = with_value o.pages k v }) ≡ with_page (node_of o) k v
node_page o k v h i = record { body = body_of o.body; parent = o.parent; place = o.place; depth = o.depth; payer = o.payer; entry = link o.entries; page = value_changed o.pages k v None h i }

pub node_cleared : (o : Object) (entries pages : Sixteen (Option ℕ)) → link entries ≡ no_links → link pages ≡ no_links → node_of (record { body = Unused; parent = o.parent; place = o.place; depth = o.depth; payer = o.payer; entries = entries; pages = pages }) ≡ cleared (node_of o)
node_cleared o entries pages p q i = record { body = unused; parent = o.parent; place = o.place; depth = o.depth; payer = o.payer; entry = p i; page = q i }
