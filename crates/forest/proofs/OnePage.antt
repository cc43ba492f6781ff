-- One page of a segment is written: the segment's pages change there, and no other object's do. Assumes nothing.
use Rattle.std.proofs.Common.{◌≡◌, ℕ, ◌+◌, ◌-◌, ◌*◌, ◌/◌, ◌%◌, ◌<◌, Bool, true, false, cond, ◌&&◌, eqb, ltb, List, length, Some, None, Option, sym, refl, ap, ◌∙◌, arith, ltb-false, ltb-true, le-ltb, lt-ltb, eqb-true}
use mathlib.Core.Path.{fun_ext}
use borrow.Author.Tests.{eqb-false}
use Rattle.rules.proofs.Assign.{assign_same, assign_other, assign_twice}
use Rattle.rules.specs.Indexed.{assign, tabulate}
use Rattle.rules.specs.Segments.{Pages, absent, present, touched, word_after, word_of_page, pages_written}
use Rattle.forest.specs.Nodes.{Node, Nodes, with_page, with_pages}
use Rattle.forest.specs.Forest.{content, page_of, pages_of}
use Rattle.forest.specs.Words.{page_written}
use Rattle.forest.proofs.PageWords.{page_content, content_other, row_below}
use Rattle.forest.proofs.Write.{written_upto}

-- page k of i has the volume page v, now or before; that page alone was written
module _ (a b : Nodes) (i k v first : ℕ) (ds : List ℕ) (fresh : Bool) (w w' : ℕ → ℕ)
    (here : b ≡ assign a i (with_page (a i) k (Some v))) (alone : (j x j' x' u : ℕ) → (b j).page x ≡ Some u → (b j').page x' ≡ Some u → (j ≡ j') × (x ≡ x')) (was : (a i).page k ≡ cond fresh None (Some v))
    (words : (x : ℕ) → w' x ≡ page_written w v fresh k first ds 16 x) where
  b_i : (b i).page ≡ assign (a i).page k (Some v)
  b_i = ap (λ (f : Nodes). (f i).page) here ∙ ap (λ (z : Node). z.page) (assign_same a i _)

  b_j : (j : ℕ) → (j ≡ i → ⊥) → (b j).page ≡ (a j).page
  b_j j ne = ap (λ (f : Nodes). (f j).page) here ∙ ap (λ (z : Node). z.page) (assign_other a i j _ ne)

  -- no other page has v
  elsewhere : (j x u : ℕ) → ((j ≡ i) × (x ≡ k) → ⊥) → (b j).page x ≡ Some u → u ≡ v → ⊥
  elsewhere j x u ne h e = ne (alone j x i k v (h ∙ ap Some e) (ap (λ (f : ℕ → Option ℕ). f k) b_i ∙ assign_same (a i).page k (Some v)))

  kept_page : (j x : ℕ) → ((j ≡ i) × (x ≡ k) → ⊥) → (o : Option ℕ) → (b j).page x ≡ o → page_of w' o ≡ page_of w o
  kept_page j x ne None q = refl
  kept_page j x ne (Some u) q = ap present (content_other w w' v k first ds fresh words u (elsewhere j x u ne q))

  pub one_others : (j : ℕ) → (j ≡ i → ⊥) → pages_of w' (b j).page ≡ pages_of w (a j).page
  one_others j ne = fun_ext (λ x. kept_page j x (λ h. ne h.0) ((b j).page x) refl ∙ ap (λ (f : ℕ → Option ℕ). page_of w (f x)) (b_j j ne))

  old : pages_of w (a i).page k ≡ cond fresh absent (present (content w v))
  old = ap (page_of w) was ∙ go fresh
    where
      go : (t : Bool) → page_of w (cond t None (Some v)) ≡ cond t absent (present (content w v))
      go true = refl
      go false = refl

  pub one_page : pages_of w' (b i).page ≡ assign (pages_of w (a i).page) k (present (tabulate 16 (λ j. word_after (pages_of w (a i).page) first ds (16 * k + j))))
  one_page = fun_ext (λ x. go x (eqb x k) refl)
    where
      at : (x : ℕ) → (b i).page x ≡ assign (a i).page k (Some v) x
      at x = ap (λ (f : ℕ → Option ℕ). f x) b_i

      go : (x : ℕ) (t : Bool) → eqb x k ≡ t → page_of w' ((b i).page x) ≡ cond t (present (tabulate 16 (λ j. word_after (pages_of w (a i).page) first ds (16 * k + j)))) (pages_of w (a i).page x)
      go x true q =
          ap (page_of w') (at x ∙ ap (λ (t : Bool). cond t (Some v) ((a i).page x)) q)
          ∙ ap present (page_content w w' (pages_of w (a i).page) v k first ds fresh old words)
      go x false q =
          kept_page i x (λ h. eqb-false x k q h.1) ((b i).page x) refl ∙ ap (page_of w) (at x ∙ ap (λ (t : Bool). cond t (Some v) ((a i).page x)) q)

-- the loop over the pages: what page k writes is what the rules write there
pub upto_touched : (ps : Pages) (first : ℕ) (ds : List ℕ) (k : ℕ) → touched first (length ds) k ≡ true
    → assign (written_upto k ps first ds) k (present (tabulate 16 (λ j. word_after (written_upto k ps first ds) first ds (16 * k + j)))) ≡ written_upto (k + 1) ps first ds
upto_touched ps first ds k t = fun_ext (λ x. go x (eqb x k) refl)
  where
    unwritten : written_upto k ps first ds k ≡ ps k
    unwritten = ap (λ b. cond b (pages_written ps first ds k) (ps k)) (le-ltb k k (omega arith))

    over_same : (j : ℕ) → j < 16 → word_after (written_upto k ps first ds) first ds (16 * k + j) ≡ word_after ps first ds (16 * k + j)
    over_same j l =
        let d : (16 * k + j) / 16 ≡ k = omega arith in
        ap (λ z. cond (lib.Dec.leb first (16 * k + j) && ltb (16 * k + j) (first + length ds)) (lib.ListN.get_or ds ((16 * k + j) - first) 0) z)
        (ap (λ (y : ℕ). word_of_page (written_upto k ps first ds y) ((16 * k + j) % 16)) d ∙ ap (λ p. word_of_page p ((16 * k + j) % 16)) unwritten ∙ ap (λ (y : ℕ). word_of_page (ps y) ((16 * k + j) % 16)) (sym d))

    past : (x : ℕ) → (x ≡ k → ⊥) → (b : Bool) → ltb x k ≡ b → ltb x (k + 1) ≡ b
    past x n true q = let l = ltb-true x k q in lt-ltb x (k + 1) (omega arith)
    past x n false q = let l = ltb-false x k q in le-ltb x (k + 1) (omega arith)

    go : (x : ℕ) (b : Bool) → eqb x k ≡ b → cond b (present (tabulate 16 (λ j. word_after (written_upto k ps first ds) first ds (16 * k + j)))) (written_upto k ps first ds x) ≡ written_upto (k + 1) ps first ds x
    go x true q =
        let e = eqb-true x k q in
        ap present (row_below 16 _ _ over_same)
        ∙ sym (ap (λ b. cond b (present (tabulate 16 (λ j. word_after ps first ds (16 * k + j)))) (ps k)) t)
        ∙ sym (ap (λ b. cond b (pages_written ps first ds k) (ps k)) (lt-ltb k (k + 1) (omega arith)))
        ∙ ap (written_upto (k + 1) ps first ds) (sym e)
    go x false q = ap (λ b. cond b (pages_written ps first ds x) (ps x)) (sym (past x (eqb-false x k q) (ltb x k) refl))

pub upto_untouched : (ps : Pages) (first : ℕ) (ds : List ℕ) (k : ℕ) → touched first (length ds) k ≡ false → written_upto k ps first ds ≡ written_upto (k + 1) ps first ds
upto_untouched ps first ds k t = fun_ext (λ x. go x (eqb x k) refl)
  where
    both : (x : ℕ) (b : Bool) → pages_written ps first ds x ≡ ps x → cond b (pages_written ps first ds x) (ps x) ≡ ps x
    both x true e = e
    both x false e = refl

    past : (x : ℕ) → (x ≡ k → ⊥) → (b : Bool) → ltb x k ≡ b → ltb x (k + 1) ≡ b
    past x n true q = let l = ltb-true x k q in lt-ltb x (k + 1) (omega arith)
    past x n false q = let l = ltb-false x k q in le-ltb x (k + 1) (omega arith)

    go : (x : ℕ) (b : Bool) → eqb x k ≡ b → written_upto k ps first ds x ≡ written_upto (k + 1) ps first ds x
    go x true q =
        let e = eqb-true x k q in
        let keep : pages_written ps first ds x ≡ ps x = ap (λ (y : ℕ). cond (touched first (length ds) y) (present (tabulate 16 (λ j. word_after ps first ds (16 * x + j)))) (ps x)) e ∙ ap (λ b. cond b (present (tabulate 16 (λ j. word_after ps first ds (16 * x + j)))) (ps x)) t in
        both x (ltb x k) keep ∙ sym (both x (ltb x (k + 1)) keep)
    go x false q = ap (λ b. cond b (pages_written ps first ds x) (ps x)) (sym (past x (eqb-false x k q) (ltb x k) refl))

-- the pages after such a write
pub slot_pages : (a b : Nodes) (i k : ℕ) (o : Option ℕ) → b ≡ assign a i (with_page (a i) k o) → b ≡ assign a i (with_pages (a i) (b i).page)
slot_pages a b i k o h = h ∙ ap (λ (Q : ℕ → Option ℕ). assign a i (with_pages (a i) Q)) (sym (ap (λ (f : Nodes). (f i).page) h ∙ ap (λ (z : Node). z.page) (assign_same a i _)))

pub pages_again : (a b b' : Nodes) (i : ℕ) (P Q : ℕ → Option ℕ) → b ≡ assign a i (with_pages (a i) P) → b' ≡ assign b i (with_pages (b i) Q) → b' ≡ assign a i (with_pages (a i) Q)
pages_again a b b' i P Q e f =
    let bi : b i ≡ with_pages (a i) P = ap (λ (g : Nodes). g i) e ∙ assign_same a i _ in
    f ∙ ap (λ (z : Node). assign b i (with_pages z Q)) bi ∙ ap (λ (g : Nodes). assign g i (with_pages (a i) Q)) e ∙ assign_twice a i _ _

pub upto_step : (ps qs : Pages) (first : ℕ) (ds : List ℕ) (k : ℕ) → qs ≡ written_upto k ps first ds
    → cond (touched first (length ds) k) (assign qs k (present (tabulate 16 (λ j. word_after qs first ds (16 * k + j))))) qs ≡ written_upto (k + 1) ps first ds
upto_step ps qs first ds k e = ap (λ (us : Pages). cond (touched first (length ds) k) (assign us k (present (tabulate 16 (λ j. word_after us first ds (16 * k + j))))) us) e ∙ go (touched first (length ds) k) refl
  where
    go : (t : Bool) → touched first (length ds) k ≡ t → cond t (assign (written_upto k ps first ds) k (present (tabulate 16 (λ j. word_after (written_upto k ps first ds) first ds (16 * k + j))))) (written_upto k ps first ds) ≡ written_upto (k + 1) ps first ds
    go true q = upto_touched ps first ds k q
    go false q = upto_untouched ps first ds k q

pub upto_none : (ps : Pages) (first : ℕ) (ds : List ℕ) → ps ≡ written_upto 0 ps first ds
upto_none ps first ds = fun_ext (λ x. sym (ap (λ b. cond b (pages_written ps first ds x) (ps x)) (le-ltb x 0 (omega arith))))
