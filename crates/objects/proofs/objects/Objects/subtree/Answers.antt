-- What is left to show of `subtree`.
use Rattle.std.proofs.Common.{◌≡◌, ℕ, ◌<◌, false, get_or, replicate, sym, refl, subst, arith}
use native.Mathlib.Decide.{dec_lt}
use lib.ListN.{get_or-replicate}
use Rattle.std.proofs.lemmas.List.{get_or_past, length-replicate}
use Rattle.forest.specs.Nodes.{Tells}
use Rattle.tables.specs.Objects.{look}
use Rattle.tables.proofs.Within.{live_within}
use Rattle.objects.proofs.objects.Objects.subtree.Goals as goal

-- nothing is marked at first
unmarked : (k : ℕ) → get_or (replicate 257 false) k false ≡ false
unmarked k = go (dec_lt k 257)
  where
    go : Dec (k < 257) → get_or (replicate 257 false) k false ≡ false
    go (yes l) = get_or-replicate 257 k false false l
    go (no l) = get_or_past (replicate 257 false) k false (let e = length-replicate 257 false in omega arith)

pub loop-index-init : goal.loop-index-init
loop-index-init c = (refl, λ k l. absurd (omega arith), λ k l. unmarked k)

pub returns : goal.returns
returns c k = go (dec_lt k c.loop-index.index)
  where
    go : Dec (k < c.loop-index.index) → Tells (look c.args.self.now.storage.table) c.args.top k (get_or c.loop-index.marks k false)
    go (yes l) = c.loop-index.invariant.1 k l
    go (no n) =
        subst (Tells (look c.args.self.now.storage.table) c.args.top k) (sym (c.loop-index.invariant.2 k (omega arith)))
        (λ l u. let w = live_within c.args.self.now.storage.table k l in let e = c.len-index-end.ensures in n (omega arith))
