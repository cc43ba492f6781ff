-- What holds of a call's effect, however its tests come out.
use Rattle.std.proofs.lemmas.Grind.{common_steps}
use Rattle.std.proofs.lemmas.Bool.Decides.{nat_tests}
use Rattle.std.proofs.Common.{arith, ◌≡◌, ℕ, Bool, true, false, cond, Err, refl}
use Rattle.rules.specs.Denials.{fault}
use Rattle.labels.specs.declared.label.Label.{Label}
use Rattle.frames.specs.Requests.{Request}
use Rattle.labels.specs.Labels.{Orders}
use Rattle.rules.specs.Segments.{Pages}
use Rattle.rules.specs.Tree.{Cell, Tree}
use Rattle.rules.specs.KnownNumbers.{Known}
use Rattle.rules.specs.Changes.{Effect, no_change, free_number}
use Rattle.rules.specs.Calls.{Judgement, deny, done, require, Subject, is_free_number, is_gone, on_directory, on_segment, judge, settled}
use Rattle.rules.specs.Responses.{effect_of}

-- P of the effect_of, from the tests that passed
abbrev pub Holds : (Effect → Type 0) → Judgement → Type 0
Holds P (deny d k) = Unit {0}
Holds P (done vs ws x) = P x
Holds P (require b d k rest) = b ≡ true → Holds P rest

pub holds : (P : Effect → Type 0) → P no_change → (j : Judgement) → Holds P j → P (effect_of (settled j))
holds P pk (deny d k) h = pk
holds P pk (done vs ws x) h = h
holds P pk (require b d k rest) h = go b (λ e. holds P pk rest (h e))
  where
    go : (t : Bool) → (t ≡ true → P (effect_of (settled rest))) → P (effect_of (cond t (settled rest) (Err (fault d k))))
    go true f = f refl
    go false f = pk

module _ (P : Effect → Type 0) where
  -- a call on a directory
  pub on_directory_holds : (x : Subject) (k : Label → Cell → (ℕ → Tree) → Judgement) → ((l : Label) (c : Cell) (places : ℕ → Tree) → Holds P (k l c places)) → Holds P (on_directory x k)
  on_directory_holds a1 a2 a3 = grind (arith, common_steps, nat_tests)

  -- a call on a segment
  pub on_segment_holds : (x : Subject) (k : Label → Cell → Pages → Judgement) → ((l : Label) (c : Cell) (ps : Pages) → Holds P (k l c ps)) → Holds P (on_segment x k)
  on_segment_holds a1 a2 a3 = grind (arith, common_steps, nat_tests)

  module _ (frees : (n : ℕ) → P (free_number n)) (o : Orders) (me : Label) (known : ℕ → Known) where
    -- through a free number nothing is done but freeing
    pub free_holds : (r : Request) → Holds P (judge o me known is_free_number r)
    unfolding judge
    free_holds a1 = grind (arith, common_steps, nat_tests)

    -- nor through one that is gone
    pub gone_holds : (r : Request) → Holds P (judge o me known is_gone r)
    unfolding judge
    gone_holds a1 = grind (arith, common_steps, nat_tests)
