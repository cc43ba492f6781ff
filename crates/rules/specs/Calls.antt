-- What each call comes to: its tests in order, each with its denial and the index of the frame's word to blame,
-- and then the four values, the words for the reply buffer and what is done. Assumes nothing.
-- The denials are NumberFree 6, NumberGone 7, WrongSort 8, OtherLabel 9, WrongPlace 10, WrongLabel 11, NumberTaken 12,
-- WrongGrant 13 and TooFewLeft 14.
use Rattle.std.specs.Prelude.{ℕ, suc, ◌+◌, ◌-◌, Bool, true, false, cond, not, ◌&&◌, ◌||◌, List, [], ◌∷◌, ℤ, pos, negsuc, Some, None, Ok, Err, Result, ◌==◌, nat_le, nat_lt}
use Rattle.labels.specs.declared.label.Label.{Label}
use Rattle.labels.specs.Labels.{Orders, valid, below, same_label}
use Rattle.frames.specs.Requests.{Request, create_segment, create_directory, make_known, terminate, read, write, truncate, delete, move_quota, status, quota}
use Rattle.rules.specs.declared.denial.Denial.{Denial}
use Rattle.rules.specs.declared.denial.Denial.TheVariants.{NumberFree, NumberGone, WrongSort, OtherLabel, WrongPlace, WrongLabel, NumberTaken, WrongGrant, TooFewLeft}
use Rattle.rules.specs.Denials.{StoreFault}
use Rattle.rules.specs.Denials.{fault}
use Rattle.rules.specs.Indexed.{tabulate}
use Rattle.rules.specs.Segments.{Pages, segment_word, present_pages, made_present, made_absent}
use Rattle.rules.specs.Tree.{Cell, Tree, empty, segment, directory, is_empty, sort_of, label_in, grant_of, new_segment, new_directory}
use Rattle.rules.specs.Cells.{cost, Found, nothing, found, find, no_cell}
use Rattle.rules.specs.KnownNumbers.{Known, free, means, gone, is_free}
use Rattle.rules.specs.Changes.{create, remove, regrant, change_place, write_words, keep_pages, Effect, no_change, set_number, free_number, change}

-- what a granted call gets and does
pub record Outcome : Type 0 where
  pub values : List ℕ
  pub words : List ℕ
  pub effect : Effect

-- a call is granted, or denied with the word to blame
abbrev pub Verdict : Type 0
Verdict = Result Outcome StoreFault

-- a denial with the word to blame; or the values, words and effect of a call that is done;
-- or a test that must hold, or else denies, and what follows it
pub data Judgement : Type 0 where
  deny : Denial → (place : ℕ) → Judgement
  done : (values words : List ℕ) → Effect → Judgement
  require : Bool → Denial → (place : ℕ) → Judgement → Judgement

-- the first test that fails denies
abbrev pub settled : Judgement → Verdict
settled (deny d k) = Err (fault d k)
settled (done vs ws x) = Ok (record { values = vs; words = ws; effect = x })
settled (require b d k rest) = cond b (settled rest) (Err (fault d k))

-- The object of a call

-- what the first argument of a call, a known number, means: nothing, a deleted object,
-- or a segment or a directory, with its label and the cell that it uses
pub data Subject : Type 0 where
  is_free_number : Subject
  is_gone : Subject
  is_segment : (label : Label) (cell : Cell) (pages : Pages) → Subject
  is_directory : (label : Label) (cell : Cell) (places : ℕ → Tree) → Subject

-- what was found at a path, as a subject
abbrev pub found_subject : Found → Subject
found_subject nothing = is_gone
found_subject (found l c empty) = is_gone
found_subject (found l c (segment ps)) = is_segment l c ps
found_subject (found l c (directory m c' places)) = is_directory m c places

-- what a known number means in a tree whose root has the label r
abbrev pub subject : Label → Known → Tree → Subject
subject r free t = is_free_number
subject r gone t = is_gone
subject r (means q) t = found_subject (find r no_cell q t)

-- a call on a directory: its number is not free, not gone, and of the right sort
abbrev pub on_directory : Subject → (Label → Cell → (ℕ → Tree) → Judgement) → Judgement
on_directory is_free_number k = deny NumberFree 1
on_directory is_gone k = deny NumberGone 1
on_directory (is_segment l c ps) k = deny WrongSort 1
on_directory (is_directory l c places) k = k l c places

-- a call on a segment: its number is not free, not gone, and of the right sort
abbrev pub on_segment : Subject → (Label → Cell → Pages → Judgement) → Judgement
on_segment is_free_number k = deny NumberFree 1
on_segment is_gone k = deny NumberGone 1
on_segment (is_segment l c ps) k = k l c ps
on_segment (is_directory l c places) k = deny WrongSort 1

-- Values

-- the four values of a reply
abbrev pub values : ℕ → ℕ → ℕ → ℕ → List ℕ
values a b c d = a ∷ b ∷ c ∷ d ∷ []

-- 1 for true
abbrev pub flag : Bool → ℕ
flag true = 1
flag false = 0

-- what status tells of a place in a directory with the label l
abbrev pub status_values : Label → Tree → List ℕ
status_values l empty = values 0 0 0 0
status_values l (segment ps) = values 1 l.security l.integrity (present_pages ps)
status_values l (directory m c places) = values 2 m.security m.integrity (grant_of c)

-- The eleven calls

-- a move of quota between the cell c, which a directory with the label l uses, and the cell of the object at its place e;
-- negsuc a is the amount -(a + 1)
abbrev pub judge_move : Label → Cell → ℕ → Tree → ℤ → Judgement
judge_move l c e empty amount = deny WrongPlace 2
judge_move l c e (segment ps) amount = deny WrongSort 2
judge_move l c e (directory m None places) amount = deny WrongGrant 3
judge_move l c e (directory m (Some c') places) (pos a) =
    require (nat_le a c.left) TooFewLeft 0
    (done (values (c'.granted + a) 0 0 0) [] (change (change_place e (regrant a 0)) a 0))
judge_move l c e (directory m (Some c') places) (negsuc a) =
    require (same_label l m) WrongGrant 3
    (require (nat_lt (suc a) c'.granted) WrongGrant 3
    (require (nat_le (suc a) c'.left) TooFewLeft 0
    (done (values (c'.granted - suc a) 0 0 0) [] (change (change_place e (regrant 0 (suc a))) 0 (suc a)))))

-- what a call comes to, of a process with the label me and these known numbers, by what its first argument means
unfoldable pub judge : Orders → Label → (ℕ → Known) → Subject → Request → Judgement
-- 1: puts a segment without pages at e
judge o me known x (create_segment d e) =
    on_directory x λ l c places.
    require (same_label me l) OtherLabel 1
    (require (is_empty (places e)) WrongPlace 2
    (require (nat_le 1 c.left) TooFewLeft 0
    (done (values 1 0 0 0) [] (change (change_place e (create new_segment)) 1 0))))
-- 2: puts a directory at e, with a cell if the grant is not 0
judge o me known x (create_directory d e security integrity grant) =
    on_directory x λ l c places.
    let m : Label = record { security = security; integrity = integrity } in
    require (same_label me l) OtherLabel 1
    (require (is_empty (places e)) WrongPlace 2
    (require (valid o m && below o l m) WrongLabel 3
    (require (same_label l m || not (grant == 0)) WrongGrant 5
    (require (nat_le (1 + grant) c.left) TooFewLeft 0
    (done (values (1 + grant) 0 0 0) [] (change (change_place e (create (new_directory m grant))) (1 + grant) 0))))))
-- 3: n means the object at e
judge o me known x (make_known d e n) =
    on_directory x λ l c places.
    require (not (is_empty (places e))) WrongPlace 2
    (require (below o (label_in l (places e)) me) WrongLabel 2
    (require (is_free (known n)) NumberTaken 3
    (done (values (sort_of (places e)) (flag (same_label (label_in l (places e)) me)) 0 0) [] (set_number n e))))
-- 4: frees n, gone or not
judge o me known x (terminate n) =
    require (not (is_free (known n))) NumberFree 1
    (done (values 0 0 0 0) [] (free_number n))
-- 5: words into the reply buffer
judge o me known x (read s first count) =
    on_segment x λ l c ps.
    done (values count 0 0 0) (tabulate count (λ j. segment_word ps (first + j))) no_change
-- 6: writes; absent pages touched become present
judge o me known x (write s first words) =
    on_segment x λ l c ps.
    require (same_label me l) OtherLabel 1
    (require (nat_le (made_present ps first words) c.left) TooFewLeft 0
    (done (values (made_present ps first words) 0 0 0) [] (change (write_words first words) (made_present ps first words) 0)))
-- 7: pages numbered keep and up become absent
judge o me known x (truncate s keep) =
    on_segment x λ l c ps.
    require (same_label me l) OtherLabel 1
    (done (values (made_absent ps keep) 0 0 0) [] (change (keep_pages keep) 0 (made_absent ps keep)))
-- 8: removes the object at e and all below it
judge o me known x (delete d e) =
    on_directory x λ l c places.
    require (same_label me l) OtherLabel 1
    (require (not (is_empty (places e))) WrongPlace 2
    (done (values (cost (places e)) 0 0 0) [] (change (change_place e remove) 0 (cost (places e)))))
-- 9: moves amount from the cell that d uses to the cell at e
judge o me known x (move_quota d e amount) =
    on_directory x λ l c places.
    require (same_label me l) OtherLabel 1
    (judge_move l c e (places e) amount)
-- 10: tells the entry at e
judge o me known x (status d e) =
    on_directory x λ l c places.
    done (status_values l (places e)) [] no_change
-- 11: tells the cell that d uses
judge o me known x (quota d) =
    on_directory x λ l c places.
    done (values c.granted c.left 0 0) [] no_change

-- the known number that is a call's first argument
abbrev pub first_number : Request → ℕ
first_number (create_segment d e) = d
first_number (create_directory d e security integrity grant) = d
first_number (make_known d e n) = d
first_number (terminate n) = n
first_number (read s first count) = s
first_number (write s first words) = s
first_number (truncate s keep) = s
first_number (delete d e) = d
first_number (move_quota d e amount) = d
first_number (status d e) = d
first_number (quota d) = d
