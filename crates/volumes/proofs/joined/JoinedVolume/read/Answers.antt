-- What is left to show of `read`.
use Rattle.std.proofs.Common.{◌∙◌}
use Rattle.volumes.specs.Insides.{outside_read}
use Rattle.volumes.specs.Parts.{part_read}
use Rattle.volumes.proofs.Halves.{first_part, second_part, no_page}
use Rattle.volumes.proofs.joined.JoinedVolume.read.Goals as goal

pub returns-in-First : goal.returns-in-First
returns-in-First g c =
    let v = c.args.self.now in
    let page = first_part _ _ (g.met.A.Volume.whole v.first) (g.met.B.Volume.whole v.second) c.args.page _ (rw c.in-First.is at c.in_ok-at.ensures) in
    part_read _ _ _ c.args.page page c.args.word _ c.read.ensures

pub returns-in-Second : goal.returns-in-Second
returns-in-Second g c =
    let v = c.args.self.now in
    let page = second_part _ _ (g.met.A.Volume.whole v.first) (g.met.B.Volume.whole v.second) c.args.page _ (rw c.in-Second.is at c.in_ok-at.ensures) in
    part_read _ _ _ c.args.page page c.args.word _ c.read-in-Second.ensures

pub returns-in_err-at : goal.returns-in_err-at
returns-in_err-at g c =
    let v = c.args.self.now in
    let outside = no_page _ _ (g.met.A.Volume.whole v.first) (g.met.B.Volume.whole v.second) c.args.page c.in_err-at.ensures c.args.word in
    c.from_residual.ensures ∙ outside_read _ c.args.page c.args.word outside
