-- The walk over a call's arguments, one word at a time. Assumes nothing.
use Rattle.std.proofs.lemmas.Grind.{common_steps}
use Rattle.std.proofs.lemmas.Bool.Decides.{nat_tests}
use Rattle.std.proofs.Common.{◌≡◌, ℕ, suc, ◌+◌, ◌-◌, ◌<◌, ◌≤◌, Bool, cond, List, [], ◌∷◌, ◌++◌, map, length, get_or, take, drop, set, replicate, Some, None, Ok, Err, Option, Result, sym, ap, ◌∙◌, arith}
use Rattle.std.proofs.lemmas.List.{append_assoc, length_push, set_at}
use Rattle.frames.specs.declared.table.Parameter.{Parameter}
use Rattle.frames.specs.Words.{value_of}
use Rattle.frames.specs.Faults.{FrameFault}
use Rattle.frames.specs.Decode.{argument, err_or, argument_fault}
use Rattle.frames.specs.Walks.{padded, Walked}

-- one word more, from place a on
more : (a i : ℕ) (ps : List Parameter) (f : List ℕ) (d : Parameter) → i < length ps → a + i < length f → argument_fault (a + i) (drop i ps) (drop (a + i) f) ≡ err_or (argument (a + i) (get_or ps i d) (get_or f (a + i) 0)) (argument_fault (a + (i + 1)) (drop (i + 1) ps) (drop (a + (i + 1)) f))
more a i ps f d hp hf = grind (arith, common_steps, nat_tests)

-- what is known as a turn begins: the i words from place a on have no fault
module _ (a i at : ℕ) (ps : List Parameter) (f g : List ℕ) (d : Parameter) (same : g ≡ f) (here : at ≡ a + i) (left : i < length ps) (room : a + length ps ≤ length f) (whole : Option FrameFault) (so_far : argument_fault (a + i) (drop i ps) (drop (a + i) f) ≡ whole) where
  rest : Option FrameFault
  rest = argument_fault (a + (i + 1)) (drop (i + 1) ps) (drop (a + (i + 1)) f)

  at_word : argument at (get_or ps i d) (get_or g at 0) ≡ argument (a + i) (get_or ps i d) (get_or f (a + i) 0)
  at_word = cc

  turned : whole ≡ err_or (argument at (get_or ps i d) (get_or g at 0)) rest
  unfolding rest
  turned = sym so_far ∙ more a i ps f d left (omega arith) ∙ ap (λ r. err_or r rest) (sym at_word)

  pub goes_on : (v : ℕ) → Ok v ≡ argument at (get_or ps i d) (get_or g at 0) → argument_fault (a + (i + 1)) (drop (i + 1) ps) (drop (a + (i + 1)) f) ≡ whole
  unfolding rest
  goes_on v e = sym (turned ∙ ap (λ r. err_or r rest) (sym e))

  pub stops : (x : FrameFault) → Err x ≡ argument at (get_or ps i d) (get_or g at 0) → whole ≡ Some x
  stops x e = turned ∙ ap (λ r. err_or r rest) (sym e)

-- at the end no argument is left
pub walked_all : (a i : ℕ) (ps : List Parameter) (f : List ℕ) → i ≡ length ps → argument_fault (a + i) (drop i ps) (drop (a + i) f) ≡ None
walked_all a i ps f e = grind (arith, common_steps, nat_tests)

-- a walk that stops answers its fault
pub walked_err : (place : ℕ) (ps : List Parameter) (ws : List ℕ) (r : Result (List ℕ) FrameFault) (x : FrameFault) → r ≡ Err x → argument_fault place ps ws ≡ Some x → Walked place ps ws r
walked_err place ps ws r x h k = grind (arith, common_steps, nat_tests)

-- one word more without a fault
pub fault_more : (at i : ℕ) (ps : List Parameter) (f : List ℕ) (v : ℕ) (d : Parameter) → i < length ps → at < length f → Ok v ≡ argument at (get_or ps i d) (get_or f at 0) → argument_fault (at + 1) (drop (i + 1) ps) (drop (at + 1) f) ≡ argument_fault at (drop i ps) (drop at f)
fault_more at i ps f v d hp hf e = grind (arith, common_steps, nat_tests)

-- what two tests answer where they answer Ok
ok_is : (b c : Bool) (x v : ℕ) (y z : FrameFault) → Ok v ≡ cond b (cond c (Ok x) (Err y)) (Err z) → v ≡ x
ok_is b c x v y z e = grind (arith, common_steps, nat_tests)

pub value_is : (place : ℕ) (p : Parameter) (w v : ℕ) → Ok v ≡ argument place p w → v ≡ value_of w
value_is place p w v e = grind (arith, common_steps, nat_tests)

-- one value more in the place of a zero
padded_more : (xs : List ℕ) (v i : ℕ) → length xs ≡ i → i < 5 → set (padded xs) i v ≡ padded (xs ++ v ∷ [])
padded_more xs v i l h =
    let n : 5 - length xs ≡ suc (4 - i) = omega arith in
    let m : 5 - length (xs ++ v ∷ []) ≡ 4 - i = omega (arith, length_push xs v) in
    ap (λ (k : ℕ). set (xs ++ replicate k 0) i v) n
    ∙ set_at xs 0 (replicate (4 - i) 0) v i l
    ∙ sym (append_assoc xs (v ∷ []) (replicate (4 - i) 0))
    ∙ ap (λ (k : ℕ). (xs ++ v ∷ []) ++ replicate k 0) (sym m)

pub values_more : (a i at v : ℕ) (f g vs : List ℕ) → g ≡ f → at ≡ a + i → i < 5 → a + i < length f → v ≡ value_of (get_or g at 0) → vs ≡ padded (map value_of (take i (drop a f))) → set vs i v ≡ padded (map value_of (take (i + 1) (drop a f)))
values_more a i at v f g vs same here short room e so_far =
    let l : length (map value_of (take i (drop a f))) ≡ i = grind (arith, common_steps) in
    let m : map value_of (take (i + 1) (drop a f)) ≡ map value_of (take i (drop a f)) ++ v ∷ [] = grind (arith, common_steps) in
    ap (λ (xs : List ℕ). set xs i v) so_far ∙ padded_more (map value_of (take i (drop a f))) v i l short ∙ ap padded (sym m)
