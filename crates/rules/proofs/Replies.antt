-- What holds of every response: a denied call changes nothing, each denial has its layer, and words fit their buffer.
use Rattle.std.proofs.lemmas.Grind.{common_steps}
use Rattle.std.proofs.lemmas.Bool.Decides.{nat_tests}
use Rattle.std.proofs.Common.{◌≡◌, ℕ, zero, suc, ◌+◌, ◌≤◌, Bool, true, false, cond, List, [], length, ℤ, Some, None, Ok, Err, Option, Result, sym, refl, ap, subst, arith}
use Rattle.labels.specs.declared.label.Label.{Label}
use Rattle.frames.specs.declared.fault.Flaw.{Flaw}
use Rattle.frames.specs.Faults.{FrameFault, flaw_number}
use Rattle.frames.specs.Requests.{Request, create_segment, create_directory, make_known, terminate, read, write, truncate, delete, move_quota, status, quota, reply_words}
use Rattle.frames.specs.Decode.{decode}
use Rattle.labels.specs.Labels.{Orders}
use Rattle.rules.specs.declared.denial.Denial.{Denial}
use Rattle.rules.specs.Denials.{denial_number, fault}
use Rattle.rules.specs.Indexed.{tabulate}
use Rattle.rules.specs.Segments.{Pages, segment_word}
use Rattle.rules.specs.Tree.{Cell, Tree, Path}
use Rattle.rules.specs.KnownNumbers.{Known}
use Rattle.rules.specs.Changes.{Store, store_after}
use Rattle.rules.specs.Calls.{Verdict, Judgement, deny, done, require, Subject, subject, on_directory, on_segment, values, status_values, judge_move, judge, first_number, settled}
use Rattle.rules.specs.Setup.{Setup, nth}
use Rattle.rules.specs.Responses.{RawCall, Response, response, judged, effect_of, response_to, left_by}
use Rattle.rules.specs.Histories.{layer_of, RepliesExact}
use Rattle.frames.proofs.Frames.{decodes_in_range}

-- Denials

-- what a call leaves where it is denied
abbrev Unchanged : Store → Response → Store → Type 0
Unchanged w y w' = (y.reply.answer ≡ 0 → ⊥) → (w' ≡ w) × (y.reply.values ≡ values 0 0 0 0) × (y.words ≡ [])

unchanged_by : (w : Store) (p : ℕ) (q : Path) (v : Verdict) → Unchanged w (judged v) (store_after p q (effect_of v) w)
unchanged_by a1 a2 a3 a4 a5 = grind (arith, common_steps, nat_tests)

unchanged : (s : Setup) (w : Store) (m : Option Label) (p : ℕ) (d : Result Request FrameFault) → Unchanged w (response_to s w m p d) (left_by s w m p d)
unchanged a1 a2 a3 a4 a5 a6 = grind (arith, common_steps, nat_tests)

layer_of_flaw : (f : Flaw) → 1 ≡ layer_of (flaw_number f)
layer_of_flaw a1 = grind (arith, common_steps, nat_tests)

layer_of_denial : (d : Denial) → 2 ≡ layer_of (denial_number d)
layer_of_denial a1 = grind (arith, common_steps, nat_tests)

judged_layer : (v : Verdict) → (judged v).reply.layer ≡ layer_of (judged v).reply.answer
judged_layer a1 = grind (arith, common_steps, nat_tests)

layered : (s : Setup) (w : Store) (m : Option Label) (p : ℕ) (d : Result Request FrameFault) → (response_to s w m p d).reply.layer ≡ layer_of (response_to s w m p d).reply.answer
layered a1 a2 a3 a4 a5 = grind (arith, common_steps, nat_tests)

-- Values and words

-- P of the values and words, however the tests come out
abbrev Says : (List ℕ → List ℕ → Type 0) → Judgement → Type 0
Says P (deny d k) = Unit {0}
Says P (done vs ws x) = P vs ws
Says P (require b d k rest) = Says P rest

abbrev Of : (List ℕ → List ℕ → Type 0) → Response → Type 0
Of P y = P y.reply.values y.words

says : (P : List ℕ → List ℕ → Type 0) → P (values 0 0 0 0) [] → (j : Judgement) → Says P j → Of P (judged (settled j))
says P none (deny d k) h = none
says P none (done vs ws x) h = h
says P none (require b d k rest) h = go b (says P none rest h)
  where
    go : (t : Bool) → Of P (judged (settled rest)) → Of P (judged (cond t (settled rest) (Err (fault d k))))
    go true f = f
    go false f = none

module _ (P : List ℕ → List ℕ → Type 0) where
  on_directory_says : (x : Subject) (k : Label → Cell → (ℕ → Tree) → Judgement) → ((l : Label) (c : Cell) (places : ℕ → Tree) → Says P (k l c places)) → Says P (on_directory x k)
  on_directory_says a1 a2 a3 = grind (arith, common_steps, nat_tests)

  on_segment_says : (x : Subject) (k : Label → Cell → Pages → Judgement) → ((l : Label) (c : Cell) (ps : Pages) → Says P (k l c ps)) → Says P (on_segment x k)
  on_segment_says a1 a2 a3 = grind (arith, common_steps, nat_tests)

tabulate_length : (n : ℕ) (f : ℕ → ℕ) → length (tabulate n f) ≡ n
tabulate_length zero f = refl
tabulate_length (suc n) f = ap suc (tabulate_length n (λ k. f (suc k)))

module _ (room : ℕ) where
  -- four values, and words that fit
  abbrev FitIn : List ℕ → List ℕ → Type 0
  FitIn vs ws = (length vs ≡ 4) × (length ws ≤ room)

  no_words : 0 ≤ room
  no_words = omega arith

  status_fits : (l : Label) (t : Tree) → FitIn (status_values l t) []
  status_fits a1 a2 = grind (arith, common_steps, nat_tests)

  move_fits : (l : Label) (c : Cell) (e : ℕ) (y : Tree) (a : ℤ) → Says FitIn (judge_move l c e y a)
  move_fits a1 a2 a3 a4 a5 = grind (arith, common_steps, nat_tests)

  judge_fits : (o : Orders) (me : Label) (known : ℕ → Known) (x : Subject) (r : Request) → reply_words r ≤ room → Says FitIn (judge o me known x r)
  unfolding judge
  judge_fits o me known x (create_segment d e) h = on_directory_says FitIn x _ (λ l c places. (refl, no_words))
  judge_fits o me known x (create_directory d e s i g) h = on_directory_says FitIn x _ (λ l c places. (refl, no_words))
  judge_fits o me known x (make_known d e n) h = on_directory_says FitIn x _ (λ l c places. (refl, no_words))
  judge_fits o me known x (terminate n) h = (refl, no_words)
  judge_fits o me known x (read s first n) h =
      on_segment_says FitIn x _ (λ l c ps. (refl, subst (λ k. k ≤ room) (sym (tabulate_length n (λ j. segment_word ps (first + j)))) h))
  judge_fits o me known x (write s first ws) h = on_segment_says FitIn x _ (λ l c ps. (refl, no_words))
  judge_fits o me known x (truncate s n) h = on_segment_says FitIn x _ (λ l c ps. (refl, no_words))
  judge_fits o me known x (delete d e) h = on_directory_says FitIn x _ (λ l c places. (refl, no_words))
  judge_fits o me known x (move_quota d e a) h = on_directory_says FitIn x _ (λ l c places. move_fits l c e (places e) a)
  judge_fits o me known x (status d e) h = on_directory_says FitIn x _ (λ l c places. status_fits l (places e))
  judge_fits o me known x (quota d) h = on_directory_says FitIn x _ (λ l c places. (refl, no_words))

  response_fits : (s : Setup) (w : Store) (m : Option Label) (p : ℕ) (d : Result Request FrameFault) → ((r : Request) → d ≡ Ok r → reply_words r ≤ room) → Of FitIn (response_to s w m p d)
  response_fits s w None p d h = (refl, no_words)
  response_fits s w (Some me) p (Err f) h = (refl, no_words)
  response_fits s w (Some me) p (Ok r) h =
      let x = subject s.root (w.numbers p (first_number r)) w.tree in
      says FitIn (refl, no_words) (judge s.orders me (w.numbers p) x r) (judge_fits s.orders me (w.numbers p) x r (h r refl))

fits : (s : Setup) (w : Store) (c : RawCall) → Of (FitIn c.room) (response s w c)
fits s w c =
    response_fits c.room s w (nth s.admitted c.process) c.process (decode c.frame c.room)
    (λ r e. (decodes_in_range c.frame c.room r e).1)

pub replies_exact : RepliesExact
replies_exact = record {
  denied = λ s w c. unchanged s w (nth s.admitted c.process) c.process (decode c.frame c.room);
  layered = λ s w c. layered s w (nth s.admitted c.process) c.process (decode c.frame c.room);
  four_values = λ s w c. (fits s w c).0;
  words_fit = λ s w c. (fits s w c).1;
}
