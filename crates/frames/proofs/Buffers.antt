-- Words put into a buffer: all at once, or one after the other. Assumes nothing.
use Rattle.std.proofs.lemmas.Grind.{common_steps}
use Rattle.std.proofs.lemmas.Bool.Decides.{nat_tests}
use Rattle.std.proofs.Common.{◌≡◌, ℕ, suc, ◌+◌, ◌-◌, ◌<◌, ◌≤◌, List, [], ◌∷◌, ◌++◌, length, get_or, take, drop, set, sym, ap, ◌∙◌, ap₂, arith}
use borrow.Rule.Slice.PartMut.{put_mid}
use Rattle.std.proofs.lemmas.List.{append_assoc, drop_more, drop-drop, take_more, length-take-le, length-append, set_at, drop_at, take_at}
use Rattle.frames.specs.Encode.{put}

-- a copy into a part of the buffer
pub put_part : (a : ℕ) (ws ys buffer : List ℕ) → ys ≡ ws → put_mid a (a + length ws - a) buffer ys ≡ put a ws buffer
put_part a ws ys buffer e =
    let n : a + length ws - a ≡ length ws = omega arith in
    ap₂ (λ (k : ℕ) (zs : List ℕ). put_mid a k buffer zs) n e
    ∙ ap (λ (zs : List ℕ). take a buffer ++ (ws ++ zs)) (drop-drop (length ws) a buffer)

-- every word
pub put_all : (a i : ℕ) (ws buffer : List ℕ) → length ws ≤ i → put a (take i ws) buffer ≡ put a ws buffer
put_all a i ws buffer h = grind (arith, common_steps, nat_tests)

-- one word more
pub put_more : (a i : ℕ) (ws buffer : List ℕ) (x : ℕ) → i < length ws → a + length ws ≤ length buffer → x ≡ get_or ws i 0 → set (put a (take i ws) buffer) (a + i) x ≡ put a (take (i + 1) ws) buffer
put_more a i ws buffer x h room is =
    let l : length (take i ws) ≡ i = length-take-le i ws (omega arith) in
    let m : length (take (i + 1) ws) ≡ i + 1 = length-take-le (i + 1) ws (omega arith) in
    let f : length (take a buffer) ≡ a = length-take-le a buffer (omega arith) in
    let p : length (take a buffer ++ take i ws) ≡ a + i = length-append (take a buffer) (take i ws) ∙ ap₂ (λ (j k : ℕ). j + k) f l in
    let n : (a + i) + 1 ≡ a + length (take (i + 1) ws) = omega arith in
    let t : take (i + 1) ws ≡ take i ws ++ x ∷ [] = take_more ws i 0 h ∙ ap (λ (y : ℕ). take i ws ++ y ∷ []) (sym is) in
    ap (λ (bs : List ℕ). set bs (a + i) x) (sym (append_assoc (take a buffer) (take i ws) _))
    ∙ ap (λ (k : ℕ). set ((take a buffer ++ take i ws) ++ drop (a + k) buffer) (a + i) x) l
    ∙ ap (λ (bs : List ℕ). set ((take a buffer ++ take i ws) ++ bs) (a + i) x) (drop_more buffer (a + i) 0 (omega arith))
    ∙ set_at (take a buffer ++ take i ws) (get_or buffer (a + i) 0) (drop ((a + i) + 1) buffer) x (a + i) p
    ∙ sym (append_assoc (take a buffer ++ take i ws) (x ∷ []) (drop ((a + i) + 1) buffer))
    ∙ ap₂ (λ (ys : List ℕ) (k : ℕ). ys ++ drop k buffer) (append_assoc (take a buffer) (take i ws) (x ∷ []) ∙ ap (λ (ys : List ℕ). take a buffer ++ ys) (sym t)) n
    ∙ append_assoc (take a buffer) (take (i + 1) ws) _

-- no word
pub put_none : (a : ℕ) (buffer : List ℕ) → put a [] buffer ≡ buffer
put_none a buffer = grind (arith, common_steps, nat_tests)

-- a head, then the arguments, then the data words
module _ (h x n : ℕ) (arguments ws t : List ℕ) (long : length arguments ≡ n) where
  behind : put 1 arguments (h ∷ t) ≡ h ∷ (arguments ++ drop n t)
  behind = grind (arith, common_steps, nat_tests)

  rest : drop (n + length ws) (arguments ++ drop n t) ≡ drop (n + length ws) t
  rest =
      sym (drop-drop (length ws) n (arguments ++ drop n t))
      ∙ ap (drop (length ws)) (drop_at arguments (drop n t) n long)
      ∙ drop-drop (length ws) n t

  behind_both : put (1 + n) ws (put 1 arguments (h ∷ t)) ≡ put 0 (h ∷ (arguments ++ ws)) (x ∷ t)
  behind_both =
      let e : 1 + n ≡ suc n = omega arith in
      let k : (1 + n) + length ws ≡ suc (n + length ws) = omega arith in
      let l : suc (n + length ws) ≡ 0 + length (h ∷ (arguments ++ ws)) = omega (arith, length-append arguments ws) in
      ap (put (1 + n) ws) behind
      ∙ ap₂ (λ (i j : ℕ). take i (h ∷ (arguments ++ drop n t)) ++ (ws ++ drop j (h ∷ (arguments ++ drop n t)))) e k
      ∙ ap₂ (λ (xs ys : List ℕ). (h ∷ xs) ++ (ws ++ ys)) (take_at arguments (drop n t) n long) rest
      ∙ sym (append_assoc (h ∷ arguments) ws (drop (n + length ws) t))
      ∙ ap (λ (j : ℕ). (h ∷ (arguments ++ ws)) ++ drop j (x ∷ t)) l

pub filled : (h n : ℕ) (arguments ws buffer : List ℕ) → length arguments ≡ n → (1 + n) + length ws ≤ length buffer → put (1 + n) ws (put 1 arguments (set buffer 0 h)) ≡ put 0 (h ∷ (arguments ++ ws)) buffer
filled h n arguments ws [] long room = let z : ⊥ = omega arith in absurd z
filled h n arguments ws (x ∷ t) long room = behind_both h x n arguments ws t long
