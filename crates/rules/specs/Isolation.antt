-- Isolation: what is done above a label, or beside it, is not seen at or below it. Assumes nothing.
use Rattle.std.specs.Prelude.{◌≡◌, ℕ, Bool, true, false, cond, List, [], ◌∷◌, Some, None, Option}
use Rattle.labels.specs.declared.label.Label.{Label}
use Rattle.labels.specs.Labels.{Orders, below}
use Rattle.rules.specs.Segments.{Pages}
use Rattle.rules.specs.Tree.{Cell, Tree, empty, segment, directory, Path, at, grant_of}
use Rattle.rules.specs.Changes.{Store}
use Rattle.rules.specs.Setup.{Setup, opened, process_label, Beginning, Granted, set_up}
use Rattle.rules.specs.Responses.{RawCall, Response, response, after}
use Rattle.rules.specs.Histories.{after_all}

-- two setups are alike: the same orders, root label, number of records, and labels admitted in order
pub record Alike (s s' : Setup) : Type 0 where
  pub orders : s.orders ≡ s'.orders
  pub root : s.root ≡ s'.root
  pub records : s.records ≡ s'.records
  pub admitted : s.admitted ≡ s'.admitted

-- Processes and calls at or below a label, the bound

-- a label, if there is one, is at or below the bound
abbrev pub at_or_below : Orders → Label → Option Label → Bool
at_or_below o bound None = false
at_or_below o bound (Some l) = below o l bound

-- the process is admitted, with a label at or below the bound
abbrev pub low_process : Setup → Label → ℕ → Bool
low_process s bound p = at_or_below s.orders bound (process_label s p)

-- a list with x before the rest, where the test holds
abbrev pub keep_if {ℓ} : {A : Type ℓ} → Bool → A → List A → List A
keep_if b x xs = cond b (x ∷ xs) xs

-- the calls of processes at or below the bound
abbrev pub low_calls : Setup → Label → List RawCall → List RawCall
low_calls s bound [] = []
low_calls s bound (c ∷ cs) = keep_if (low_process s bound c.process) c (low_calls s bound cs)

-- what these are answered, among all calls of a list
abbrev pub low_responses : Setup → Label → Store → List RawCall → List Response
low_responses s bound w [] = []
low_responses s bound w (c ∷ cs) =
    keep_if (low_process s bound c.process) (response s w c) (low_responses s bound (after s w c) cs)

-- What stands at or below the bound

-- an entry of a directory: nothing, a segment with its present pages and their words, or a directory with its label and grant
pub data Entry : Type 0 where
  no_entry : Entry
  segment_entry : (pages : Pages) → Entry
  directory_entry : (label : Label) (grant : ℕ) → Entry

-- what a directory tells of a place
abbrev pub entry : Tree → Entry
entry empty = no_entry
entry (segment ps) = segment_entry ps
entry (directory l c places) = directory_entry l (grant_of c)

-- a directory with its label, cell and entries, or none
pub data Shown : Type 0 where
  not_shown : Shown
  shown : (label : Label) (cell : Option Cell) (entries : ℕ → Entry) → Shown

-- a directory is shown where its label is at or below the bound
abbrev pub shows : Orders → Label → Tree → Shown
shows o bound empty = not_shown
shows o bound (segment ps) = not_shown
shows o bound (directory l c places) = cond (below o l bound) (shown l c (λ i. entry (places i))) not_shown

-- the same stands at or below the bound in two stores: at each path, and in the known numbers of each process
pub record SameBelow (s s' : Setup) (bound : Label) (w w' : Store) : Type 0 where
  pub tree : (q : Path) → shows s.orders bound (at q w.tree) ≡ shows s'.orders bound (at q w'.tree)
  pub numbers : (p n : ℕ) → low_process s bound p ≡ true → w.numbers p n ≡ w'.numbers p n

-- The law

-- in two histories with the same calls at or below a label, in the same order,
-- these calls get equal replies and words, and the same stands at or below the label at the end
abbrev pub Isolated : Setup → Setup → Type 0
Isolated s s' =
    (bound : Label) (cs cs' : List RawCall) → low_calls s bound cs ≡ low_calls s' bound cs' →
    (low_responses s bound (opened s) cs ≡ low_responses s' bound (opened s') cs')
    × SameBelow s s' bound (after_all s (opened s) cs) (after_all s' (opened s') cs')

-- this holds of every two alike setups
abbrev pub Isolation : Type 0
Isolation = (b b' : Beginning) → Granted b → Granted b' → Alike (set_up b) (set_up b') → Isolated (set_up b) (set_up b')
