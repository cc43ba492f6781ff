-- Words written into a segment, as the writes of the table and of the volume make it.
use Rattle.std.proofs.Common.{◌≡◌, ℕ, ◌+◌, ◌<◌, ◌≤◌, List, length, Some, Option, sym, refl, ap, ◌∙◌}
use mathlib.Core.Logic.{∥∥₁_map₂}
use Rattle.labels.specs.declared.label.Label.{Label}
use Rattle.rules.specs.Indexed.{assign}
use Rattle.rules.specs.Segments.{pages_written, made_present}
use Rattle.rules.specs.Changes.{write_words, change, tree_after}
use Rattle.rules.proofs.Assign.{assign_other}
use Rattle.forest.specs.Nodes.{Node, Nodes, with_body, with_pages, IsSeg, charged_body, WellFormed, Uses}
use Rattle.forest.specs.Forest.{tree_of, path_to, cell_at, pages_of}
use Rattle.forest.specs.Accounts.{Accounted}
use Rattle.forest.specs.Spares.{Served}
use Rattle.forest.specs.Steps.{Stays, Kept}
use Rattle.forest.proofs.Cutting.{paged_live}
use Rattle.forest.proofs.Keeping.{formed}
use Rattle.forest.proofs.Paged.{seg_live}
use Rattle.forest.proofs.Pays.{uses_payer}
use Rattle.forest.proofs.Steps.{charging, charged_is, charging_live, charging_pages}
use Rattle.forest.proofs.Stock.{stocked_kept}
use Rattle.forest.proofs.Write.{written_short, written_sound, written_live, written_path, written_tree, written_accounted}

-- the table a becomes b, and the words v of the volume become w: ds are written into the segment i from first on, and its payer pays m records
pub record Writing (a b : Nodes) (v w : ℕ → ℕ) (i m first : ℕ) (ds : List ℕ) : Type 0 where
  pub is_seg : IsSeg (a i).body
  pub fits : first + length ds ≤ 256
  pub paged : b ≡ assign (charging m 0 a i) i (with_pages (charging m 0 a i i) (b i).page)
  pub own : pages_of w (b i).page ≡ pages_written (pages_of v (a i).page) first ds
  pub others : (j : ℕ) → (j ≡ i → ⊥) → pages_of w (a j).page ≡ pages_of v (a j).page

-- what the charge and the writes of all pages come to
pub writing : (a a₁ b : Nodes) (v w : ℕ → ℕ) (i c m first : ℕ) (ds : List ℕ) → IsSeg (a i).body → first + length ds ≤ 256 → c ≡ (a i).payer → a₁ ≡ assign a c (with_body (a c) (charged_body m 0 (a c).body))
    → b ≡ assign a₁ i (with_pages (a₁ i) (b i).page) → pages_of w (b i).page ≡ pages_written (pages_of v (a₁ i).page) first ds
    → ((j : ℕ) → (j ≡ i → ⊥) → pages_of w (b j).page ≡ pages_of v (a₁ j).page) → Writing a b v w i m first ds
writing a a₁ b v w i c m first ds is_seg fits is_payer w₀ w₁ own others =
    let charge : a₁ ≡ charging m 0 a i = charged_is a i c m 0 a₁ is_payer w₀ in
    let same : (j : ℕ) → (a₁ j).page ≡ (a j).page = λ j. ap (λ (f : Nodes). (f j).page) charge ∙ charging_pages m 0 a i j in
    let kept : (j : ℕ) → (j ≡ i → ⊥) → (b j).page ≡ (a j).page = λ j ne. ap (λ (f : Nodes). (f j).page) w₁ ∙ ap (λ (z : Node). z.page) (assign_other a₁ i j _ ne) ∙ same j in
    record {
      is_seg = is_seg;
      fits = fits;
      paged = w₁ ∙ ap (λ (f : Nodes). assign f i (with_pages (f i) (b i).page)) charge;
      own = own ∙ ap (λ (ps : ℕ → Option ℕ). pages_written (pages_of v ps) first ds) (same i);
      others = λ j ne. ap (pages_of w) (sym (kept j ne)) ∙ others j ne ∙ ap (pages_of v) (same j);
    }

module _ (a b : Nodes) (v w : ℕ → ℕ) (s : WellFormed a) (i m first : ℕ) (ds : List ℕ) (t : Writing a b v w i m first ds) where
  abbrev uses : Uses a i (a i).payer
  uses = uses_payer a s i (seg_live (a i).body t.is_seg)

  short : (k u : ℕ) → (b i).page k ≡ Some u → k < 16
  short = written_short v w (a i).page (b i).page first ds t.fits (λ k u h. (s.pages i k u h).1) t.own

  pub writing_formed : WellFormed b
  writing_formed = written_sound a (charging m 0 a i) b s i (a i).payer m first ds (b i).page t.is_seg uses refl t.paged short

  pub writing_stays : Stays a b
  writing_stays k l = (
    written_live a (charging m 0 a i) b s i (a i).payer m first ds (b i).page t.is_seg uses refl t.paged short k l,
    written_path a (charging m 0 a i) b s i (a i).payer m first ds (b i).page t.is_seg uses refl t.paged short k l,
  )

  pub writing_tree : tree_of w b ≡ tree_after (path_to a i) (change (write_words first ds) m 0) (tree_of v a)
  writing_tree = written_tree a (charging m 0 a i) b s i (a i).payer m first ds (b i).page t.is_seg uses refl t.paged short v w t.others t.own

  pub writing_accounted : (r : ℕ) (root : Label) → m ≤ (cell_at a (a i).payer).left → m ≡ made_present (pages_of v (a i).page) first ds → Accounted r root a → Accounted r root b
  writing_accounted r root enough count acc =
      written_accounted a (charging m 0 a i) b s i (a i).payer m first ds (b i).page t.is_seg uses refl t.paged short v w t.others t.own r root acc enough count

module _ {n : ℕ} {a b : Nodes} {v w : ℕ → ℕ} {object : ℕ → ℕ} {objects : ℕ} {page : ℕ → ℕ} {pages : ℕ} (k : ∥ Kept n a object objects page pages ∥₁) (i m first : ℕ) (ds : List ℕ) (t : Writing a b v w i m first ds) where
  pub writing_kept : (page' : ℕ → ℕ) (pages' : ℕ) → m ≤ (cell_at a (a i).payer).left → m ≡ made_present (pages_of v (a i).page) first ds → ∥ Served n page' pages' b ∥₁ → ∥ Kept n b object objects page' pages' ∥₁
  writing_kept page' pages' enough count served =
      ∥∥₁_map₂ k served (λ z x. record {
        formed = writing_formed a b v w (formed k) i m first ds t;
        root = z.root;
        accounted = writing_accounted a b v w (formed k) i m first ds t n z.root enough count z.accounted;
        stocked =
            stocked_kept n object objects a b
            (λ y. paged_live (charging m 0 a i) b i (λ u. with_pages u (b i).page) (λ u. refl) t.paged y ∙ charging_live m 0 a i y)
            z.stocked;
        served = x;
      })
