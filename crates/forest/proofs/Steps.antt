-- Each step as one change of the table: what it writes, and that it is the one that the rules give.
use Rattle.std.proofs.Common.{◌≡◌, ℕ, suc, ◌+◌, ◌<◌, ◌≤◌, Bool, true, false, cond, ltb, Some, None, sym, refl, ap, ◌∙◌, subst, arith}
use Rattle.labels.specs.declared.label.Label.{Label}
use Rattle.rules.specs.Indexed.{assign, sum}
use Rattle.rules.specs.Tree.{empty, Path}
use Rattle.rules.specs.Cells.{cost}
use Rattle.rules.specs.Changes.{create, remove, regrant, change_place, keep_pages, Effect, change}
use Rattle.rules.proofs.Balance.{Fit}
use native.Mathlib.Decide.{ℕ_discrete}
use Rattle.rules.proofs.Assign.{assign_same, assign_other}
use Rattle.forest.specs.Nodes.{Body, unused, seg, dir, Node, Nodes, is_live, with_body, with_entry, with_pages, with_place, cleared, IsDir, IsSeg, IsLive, celled, charged_body, regranted_body, WellFormed, Tells, Uses}
use Rattle.forest.specs.Forest.{cut_links, object_tree, bare_tree, path_to, has, weight, cell_in, cell_at}
use Rattle.forest.specs.Accounts.{Accounted}
use Rattle.forest.specs.Steps.{Enacted, Stays}
use Rattle.forest.proofs.Depth.{dir_live}
use Rattle.forest.proofs.Pays.{uses_payer, celled_dir}
use Rattle.forest.proofs.Paged.{seg_live}
use Rattle.forest.proofs.Insert as insert
use Rattle.forest.proofs.Remove as removal
use Rattle.forest.proofs.Moved as moved
use Rattle.forest.proofs.Truncate as truncation

-- what holds of a table after a step
pub record Done (n : ℕ) (a b : Nodes) (q : Path) (x : Effect) : Type 0 where
  pub formed : WellFormed b
  pub accounted : (root : Label) → Accounted n root a → Accounted n root b
  pub tree : Enacted a b q x

-- the payer of i is charged
abbrev pub charging : ℕ → ℕ → Nodes → ℕ → Nodes
charging taken back a i = assign a (a i).payer (with_body (a (a i).payer) (charged_body taken back (a (a i).payer).body))

-- as the code charges it
pub charged_is : (a : Nodes) (i c taken back : ℕ) (b : Nodes) → c ≡ (a i).payer → b ≡ assign a c (with_body (a c) (charged_body taken back (a c).body)) → b ≡ charging taken back a i
charged_is a i c taken back b is e = e ∙ ap (λ (x : ℕ). assign a x (with_body (a x) (charged_body taken back (a x).body))) is

module _ (taken back : ℕ) (a : Nodes) (i : ℕ) where
  -- one body is charged, and nothing else changes
  charging_split : (P : ℕ → Node → Type 0) → P (a i).payer (with_body (a (a i).payer) (charged_body taken back (a (a i).payer).body)) → ((x : ℕ) → P x (a x)) → (x : ℕ) → P x (charging taken back a i x)
  charging_split P here rest x = go (ℕ_discrete x (a i).payer)
    where
      go : Dec (x ≡ (a i).payer) → P x (charging taken back a i x)
      go (yes q) = subst (λ (z : ℕ). P z (charging taken back a i z)) (sym q) (subst (P (a i).payer) (sym (assign_same a (a i).payer _)) here)
      go (no q) = subst (P x) (sym (assign_other a (a i).payer x _ q)) (rest x)

  pub charging_live : (x : ℕ) → is_live (charging taken back a i x).body ≡ is_live (a x).body
  charging_live = charging_split (λ x n. is_live n.body ≡ is_live (a x).body) (same (a (a i).payer).body) (λ x. refl)
    where
      same : (t : Body) → is_live (charged_body taken back t) ≡ is_live t
      same unused = refl
      same seg = refl
      same (dir l c) = refl

  pub charging_pages : (x : ℕ) → (charging taken back a i x).page ≡ (a x).page
  charging_pages = charging_split (λ x n. n.page ≡ (a x).page) refl (λ x. refl)

-- A new object

bare_any : (w : ℕ → ℕ) (N : Body) → object_tree w N (λ _. None) (λ _. empty) ≡ bare_tree N
bare_any w unused = refl
bare_any w seg = refl
bare_any w (dir l c) = refl

-- an object takes at least a record
pub bare_cost : (N : Body) → IsLive N → 1 ≤ cost (bare_tree N)
bare_cost unused l = absurd l
bare_cost seg l = omega arith
bare_cost (dir m None) l = omega arith
bare_cost (dir m (Some c)) l = omega arith

pub record Insertion (a b : Nodes) (d e j n : ℕ) (N : Body) : Type 0 where
  pub whole : IsDir (a d).body
  pub within : e < 16
  pub vacant : (a d).entry e ≡ None
  pub free : (a j).body ≡ unused
  pub few : j < 257
  pub live : IsLive N
  pub linked : Nodes
  pub bodied : Nodes
  pub link : linked ≡ assign (charging n 0 a d) d (with_entry (charging n 0 a d d) e (Some j))
  pub body : bodied ≡ assign linked j (with_body (linked j) N)
  pub place : b ≡ assign bodied j (with_place (bodied j) d e (suc (a d).depth) (cond (celled N) j (a d).payer))

module _ (a b : Nodes) (s : WellFormed a) (d e j n : ℕ) (N : Body) (i : Insertion a b d e j n N) where
  abbrev live_d : IsLive (a d).body
  live_d = dir_live (a d).body i.whole

  pub insertion_done : (r : ℕ) → Fit (bare_tree N) → cost (bare_tree N) ≡ n → n ≤ (cell_at a (a d).payer).left → Done r a b (path_to a d) (change (change_place e (create (bare_tree N))) n 0)
  insertion_done r fit is enough =
      let uses = uses_payer a s d live_d in
      record {
        formed = insert.inserted_sound a (charging n 0 a d) i.linked i.bodied b s d e j (a d).payer _ _ n N i.whole i.within i.vacant i.free i.few i.live uses refl i.link i.body i.place refl refl;
        accounted = λ root acc. insert.inserted_accounted a (charging n 0 a d) i.linked i.bodied b s d e j (a d).payer _ _ n N i.whole i.within i.vacant i.free i.few i.live uses refl i.link i.body i.place refl refl r root acc fit is enough;
        tree = λ w. insert.inserted_tree a (charging n 0 a d) i.linked i.bodied b s d e j (a d).payer _ _ n N i.whole i.within i.vacant i.free i.few i.live uses refl i.link i.body i.place refl refl w (bare_tree N) (bare_any w N);
      }

  pub insertion_stays : Stays a b
  insertion_stays k l =
      let uses = uses_payer a s d live_d in (
        insert.inserted_live a (charging n 0 a d) i.linked i.bodied b s d e j (a d).payer _ _ n N i.whole i.within i.vacant i.free i.few i.live uses refl i.link i.body i.place refl refl k l,
        insert.inserted_path a (charging n 0 a d) i.linked i.bodied b s d e j (a d).payer _ _ n N i.whole i.within i.vacant i.free i.few i.live uses refl i.link i.body i.place refl refl k l,
      )

  pub insertion_pages : (k : ℕ) → (b k).page ≡ (a k).page
  insertion_pages =
      insert.inserted_pages a (charging n 0 a d) i.linked i.bodied b s d e j (a d).payer _ _ n N i.whole i.within i.vacant i.free i.few i.live (uses_payer a s d live_d) refl i.link i.body i.place refl refl

-- A subtree removed

pub record Removal (a b : Nodes) (d e x n : ℕ) (m : ℕ → Bool) : Type 0 where
  pub holds : (a d).entry e ≡ Some x
  pub marks : (k : ℕ) → Tells a x k (m k)
  pub unlinked : Nodes
  pub unlink : unlinked ≡ assign (charging 0 n a d) d (with_entry (charging 0 n a d d) e None)
  pub clear : (k : ℕ) → b k ≡ cond (m k) (cleared (unlinked k)) (unlinked k)

module _ (a b : Nodes) (s : WellFormed a) (d e x n : ℕ) (m : ℕ → Bool) (i : Removal a b d e x n m) where
  abbrev live_above : IsLive (a d).body
  live_above = dir_live (a d).body (s.down d e x i.holds).whole

  pub removal_done : (r : ℕ) → n ≡ sum 257 (λ k. cond (m k) (weight (a k)) 0) → Done r a b (path_to a d) (change (change_place e remove) 0 n)
  removal_done r is =
      let uses = uses_payer a s d live_above in
      record {
        formed = removal.removed_sound a (charging 0 n a d) i.unlinked b s d e x (a d).payer n m i.holds i.marks uses refl i.unlink i.clear;
        accounted = λ root acc. removal.removed_accounted a (charging 0 n a d) i.unlinked b s d e x (a d).payer n m i.holds i.marks uses refl i.unlink i.clear r root acc is;
        tree = removal.removed_tree a (charging 0 n a d) i.unlinked b s d e x (a d).payer n m i.holds i.marks uses refl i.unlink i.clear;
      }

  -- what is not marked stays
  pub removal_stays : (k : ℕ) → IsLive (a k).body → (m k ≡ false → IsLive (b k).body) × (path_to b k ≡ path_to a k)
  removal_stays k l =
      let uses = uses_payer a s d live_above in (
        removal.removed_live a (charging 0 n a d) i.unlinked b s d e x (a d).payer n m i.holds i.marks uses refl i.unlink i.clear k l,
        removal.removed_path a (charging 0 n a d) i.unlinked b s d e x (a d).payer n m i.holds i.marks uses refl i.unlink i.clear k l,
      )

-- Quota moved

pub record Move (a b : Nodes) (d e x up down : ℕ) : Type 0 where
  pub holds : (a d).entry e ≡ Some x
  pub celled_there : celled (a x).body ≡ true
  pub regrant_there : b ≡ assign (charging up down a d) x (with_body (charging up down a d x) (regranted_body up down (charging up down a d x).body))

module _ (a b : Nodes) (s : WellFormed a) (d e x up down : ℕ) (i : Move a b d e x up down) where
  abbrev live_payer : IsLive (a d).body
  live_payer = dir_live (a d).body (s.down d e x i.holds).whole

  pub move_done : (r : ℕ) → up ≤ (cell_at a (a d).payer).left + down → down ≤ (cell_at a x).left + up → Done r a b (path_to a d) (change (change_place e (regrant up down)) up down)
  move_done r pays owes =
      let uses = uses_payer a s d live_payer in
      let (m, y, was) = celled_dir (a x).body i.celled_there in
      let left : (cell_at a x).left ≡ y.left = ap (λ (t : Body). (cell_in t).left) was in
      record {
        formed = moved.moved_sound a (charging up down a d) b s d e x (a d).payer up down m y i.holds was uses refl i.regrant_there;
        accounted = λ root acc. moved.moved_accounted a (charging up down a d) b s d e x (a d).payer up down m y i.holds was uses refl i.regrant_there r root acc pays (omega arith);
        tree = moved.moved_tree a (charging up down a d) b s d e x (a d).payer up down m y i.holds was uses refl i.regrant_there;
      }

  pub move_stays : Stays a b
  move_stays k l =
      let uses = uses_payer a s d live_payer in
      let (m, y, was) = celled_dir (a x).body i.celled_there in (
        moved.moved_live a (charging up down a d) b s d e x (a d).payer up down m y i.holds was uses refl i.regrant_there k l,
        moved.moved_path a (charging up down a d) b s d e x (a d).payer up down m y i.holds was uses refl i.regrant_there k l,
      )

  pub move_pages : (k : ℕ) → (b k).page ≡ (a k).page
  move_pages =
      let (m, y, was) = celled_dir (a x).body i.celled_there in
      moved.moved_pages a (charging up down a d) b s d e x (a d).payer up down m y i.holds was (uses_payer a s d live_payer) refl i.regrant_there

-- A segment cut short

pub record Truncation (a b : Nodes) (i n keep : ℕ) : Type 0 where
  pub is_seg : IsSeg (a i).body
  pub cut : b ≡ assign (charging 0 n a i) i (with_pages (charging 0 n a i i) (cut_links keep (charging 0 n a i i).page))

module _ (a b : Nodes) (s : WellFormed a) (i n keep : ℕ) (t : Truncation a b i n keep) where
  abbrev uses_cut : Uses a i (a i).payer
  uses_cut = uses_payer a s i (seg_live (a i).body t.is_seg)

  pub truncation_done : (r : ℕ) → n ≡ sum 16 (λ k. cond (ltb k keep) 0 (has ((a i).page k))) → Done r a b (path_to a i) (change (keep_pages keep) 0 n)
  truncation_done r is = record {
    formed = truncation.truncated_sound a (charging 0 n a i) b s i (a i).payer n keep t.is_seg uses_cut refl t.cut;
    accounted = λ root acc. truncation.truncated_accounted a (charging 0 n a i) b s i (a i).payer n keep t.is_seg uses_cut refl t.cut r root acc is;
    tree = truncation.truncated_tree a (charging 0 n a i) b s i (a i).payer n keep t.is_seg uses_cut refl t.cut;
  }

  pub truncation_stays : Stays a b
  truncation_stays k l = (
    truncation.truncated_live a (charging 0 n a i) b s i (a i).payer n keep t.is_seg uses_cut refl t.cut k l,
    truncation.truncated_path a (charging 0 n a i) b s i (a i).payer n keep t.is_seg uses_cut refl t.cut k l,
  )
