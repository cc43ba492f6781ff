-- What is left to show of `new`.
use Rattle.std.proofs.Common.{ℕ, ap, ◌∙◌, arith}
use Rattle.rules.specs.Indexed.{assign}
use Rattle.tables.specs.declared.known.Known.{Known}
use Rattle.tables.specs.declared.known.Known.TheVariants.{Free, Means}
use Rattle.tables.proofs.Items.{value_changed}
use Rattle.tables.proofs.known_table.KnownTable.new.Goals as goal

pub returns : goal.returns
returns c =
    value_changed c.filled-table.result 0 (Means 0) Free (omega arith)
    ∙ ap (λ (f : ℕ → Known). assign f 0 (Means 0)) c.filled-table.ensures
