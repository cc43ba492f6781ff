-- Words are written into a segment, and the cell that it uses pays for the pages that become present. Assumes nothing.
use Rattle.std.proofs.Common.{◌≡◌, ℕ, ◌+◌, ◌-◌, ◌*◌, ◌/◌, ◌<◌, ◌≤◌, Bool, true, false, cond, ltb, leb, List, length, Some, None, Option, sym, refl, ap, ◌∙◌, arith, ltb-false, le-ltb}
use mathlib.Core.Path.{fun_ext}
use native.Mathlib.Decide.{dec_lt}
use Rattle.std.proofs.lemmas.Bool.{and_right}
use Rattle.labels.specs.declared.label.Label.{Label}
use Rattle.rules.proofs.Balance.{count_written}
use Rattle.rules.proofs.Sums.{sum_ext}
use Rattle.rules.specs.Changes.{write_words, change, tree_after}
use Rattle.rules.specs.Indexed.{assign, tabulate, sum}
use Rattle.rules.specs.Segments.{Pages, present, presence, touched, word_after, pages_written, made_present}
use Rattle.forest.specs.Nodes.{Nodes, WellFormed, IsSeg, IsLive, charged_body, with_body, with_pages, Uses}
use Rattle.forest.specs.Forest.{tree_of, path_to, cell_at, pages_of, page_of, has}
use Rattle.forest.specs.Accounts.{Accounted}
use Rattle.forest.proofs.Paged.{paged_sound, paged_live, paged_path, paged_tree, paged_accounted}

-- no page past the sixteenth is touched
pub untouched : (first n k : ℕ) → first + n ≤ 256 → 16 ≤ k → touched first n k ≡ false
untouched first n k h l = and_right (leb (first / 16) k) (ltb (16 * k) (first + n)) (le-ltb (16 * k) (first + n) (omega arith))

-- the pages as far as page k
abbrev pub written_upto : ℕ → Pages → ℕ → List ℕ → Pages
written_upto k ps first ds x = cond (ltb x k) (pages_written ps first ds x) (ps x)

pub written_end : (ps : Pages) (first : ℕ) (ds : List ℕ) (k : ℕ) → 16 ≤ k → first + length ds ≤ 256 → written_upto k ps first ds ≡ pages_written ps first ds
written_end ps first ds k h fits = fun_ext (λ x. go x (ltb x k) refl)
  where
    go : (x : ℕ) (t : Bool) → ltb x k ≡ t → cond t (pages_written ps first ds x) (ps x) ≡ pages_written ps first ds x
    go x true q = refl
    go x false q =
        let l = ltb-false x k q in
        sym (ap (λ t. cond t (present (tabulate 16 (λ j. word_after ps first ds (16 * x + j)))) (ps x)) (untouched first (length ds) x fits (omega arith)))

module _ (a a₁ b : Nodes) (s : WellFormed a) (i c n first : ℕ) (ds : List ℕ) (P : ℕ → Option ℕ) (is_seg : IsSeg (a i).body) (uses : Uses a i c)
    (w₀ : a₁ ≡ assign a c (with_body (a c) (charged_body n 0 (a c).body)))
    (w₁ : b ≡ assign a₁ i (with_pages (a₁ i) P)) (within : (k v : ℕ) → P k ≡ Some v → k < 16) where
  pub written_sound : WellFormed b
  written_sound = paged_sound a a₁ b s i c n 0 P is_seg uses w₀ w₁ within

  pub written_live : (k : ℕ) → IsLive (a k).body → IsLive (b k).body
  written_live = paged_live a a₁ b s i c n 0 P is_seg uses w₀ w₁ within

  pub written_path : (k : ℕ) → IsLive (a k).body → path_to b k ≡ path_to a k
  written_path = paged_path a a₁ b s i c n 0 P is_seg uses w₀ w₁ within

  module _ (v w : ℕ → ℕ) (others : (k : ℕ) → (k ≡ i → ⊥) → pages_of w (a k).page ≡ pages_of v (a k).page) (own : pages_of w P ≡ pages_written (pages_of v (a i).page) first ds) where
    -- the tree is the one that the rules name: v tells the volume's words before, w those after
    pub written_tree : tree_of w b ≡ tree_after (path_to a i) (change (write_words first ds) n 0) (tree_of v a)
    written_tree = paged_tree a a₁ b s i c n 0 P is_seg uses w₀ w₁ within v w (write_words first ds) others own

    pub written_accounted : (r : ℕ) (root : Label) → Accounted r root a → n ≤ (cell_at a c).left → n ≡ made_present (pages_of v (a i).page) first ds → Accounted r root b
    written_accounted r root acc enough is =
        let h = count_written (pages_of v (a i).page) first ds in
        paged_accounted a a₁ b s i c n 0 P is_seg uses w₀ w₁ within v w (write_words first ds) others own r root acc (omega arith) (omega arith)

presence_has : (w : ℕ → ℕ) (o : Option ℕ) → presence (page_of w o) ≡ has o
presence_has w None = refl
presence_has w (Some v) = refl

pub made_links : (w : ℕ → ℕ) (P : ℕ → Option ℕ) (first : ℕ) (ds : List ℕ) → made_present (pages_of w P) first ds ≡ sum 16 (λ x. cond (touched first (length ds) x) (1 - has (P x)) 0)
made_links w P first ds = sum_ext 16 (λ x. ap (λ m. cond (touched first (length ds) x) (1 - m) 0) (presence_has w (P x)))

-- a page is as it was until its turn comes
pub still_has : (v w : ℕ → ℕ) (P Q : ℕ → Option ℕ) (first : ℕ) (ds : List ℕ) (k : ℕ) → pages_of w Q ≡ written_upto k (pages_of v P) first ds → has (Q k) ≡ has (P k)
still_has v w P Q first ds k e =
    sym (presence_has w (Q k)) ∙ ap (λ (f : Pages). presence (f k)) e
    ∙ ap (λ t. presence (cond t (pages_written (pages_of v P) first ds k) (page_of v (P k)))) (le-ltb k k (omega arith)) ∙ presence_has v (P k)

-- no page past the sixteenth becomes present
pub written_short : (v w : ℕ → ℕ) (P Q : ℕ → Option ℕ) (first : ℕ) (ds : List ℕ) → first + length ds ≤ 256 → ((k u : ℕ) → P k ≡ Some u → k < 16) → pages_of w Q ≡ pages_written (pages_of v P) first ds → (k u : ℕ) → Q k ≡ Some u → k < 16
written_short v w P Q first ds fits short e k u h = go (dec_lt k 16)
  where
    same : 16 ≤ k → has (P k) ≡ 1
    same l =
        sym (presence_has v (P k))
        ∙ ap (λ t. presence (cond t (present (tabulate 16 (λ j. word_after (pages_of v P) first ds (16 * k + j)))) (page_of v (P k)))) (sym (untouched first (length ds) k fits l))
        ∙ ap (λ (f : Pages). presence (f k)) (sym e) ∙ presence_has w (Q k) ∙ ap has h

    there : (o : Option ℕ) → P k ≡ o → has o ≡ 1 → k < 16
    there None q one = let z : ◌≡◌ {A = ℕ} 0 1 = one in absurd (omega arith)
    there (Some x) q one = short k x q

    go : Dec (k < 16) → k < 16
    go (yes l) = l
    go (no l) = there (P k) refl (same (omega arith))
