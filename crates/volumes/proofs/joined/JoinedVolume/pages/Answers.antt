-- What is left to show of `pages`.
use Rattle.std.proofs.Common.{arith}
use Rattle.volumes.specs.Joins.{joined_pages}
use Rattle.volumes.proofs.joined.JoinedVolume.pages.Goals as goal

pub returns : goal.returns
returns g c =
    let v = c.args.self.now in
    omega (arith, joined_pages _ _ (g.met.A.Volume.whole v.first) (g.met.B.Volume.whole v.second))
