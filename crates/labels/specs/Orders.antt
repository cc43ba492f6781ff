-- An order of words, or of labels, and the laws that it keeps. Assumes nothing.
use Rattle.std.specs.Prelude.{◌≡◌, ℕ, ◌^◌, ◌<◌, Bool, true, not, ◌&&◌}

-- which items are valid, and which are below which
pub record Order (T : Type 0) : Type 0 where
  pub valid : T → Bool
  pub below : T → T → Bool

-- neither is below the other
abbrev pub incomparable : {T : Type 0} → Order T → T → T → Bool
incomparable o a b = not (o.below a b) && not (o.below b a)

-- an invalid item is below nothing
abbrev pub LowValid : {T : Type 0} → Order T → Type 0
LowValid {T} o = (a b : T) → o.below a b ≡ true → o.valid a ≡ true

-- an invalid item has nothing below it
abbrev pub HighValid : {T : Type 0} → Order T → Type 0
HighValid {T} o = (a b : T) → o.below a b ≡ true → o.valid b ≡ true

-- each valid item is below itself
abbrev pub Reflexive : {T : Type 0} → Order T → Type 0
Reflexive {T} o = (a : T) → o.valid a ≡ true → o.below a a ≡ true

-- where a is below b and b is below c, a is below c
abbrev pub Transitive : {T : Type 0} → Order T → Type 0
Transitive {T} o = (a b c : T) → o.below a b ≡ true → o.below b c ≡ true → o.below a c ≡ true

-- two different items are never each below the other
abbrev pub Antisymmetric : {T : Type 0} → Order T → Type 0
Antisymmetric {T} o = (a b : T) → o.below a b ≡ true → o.below b a ≡ true → a ≡ b

-- all of these laws
pub record Laws {T : Type 0} (o : Order T) : Type 0 where
  pub low : LowValid o
  pub high : HighValid o
  pub reflexive : Reflexive o
  pub transitive : Transitive o
  pub antisymmetric : Antisymmetric o

-- a word of 2 ^ 28 or more is never valid
abbrev pub Small : Order ℕ → Type 0
Small o = (a : ℕ) → o.valid a ≡ true → a < 2 ^ 28

-- the laws of an order of words
pub record Lawful (o : Order ℕ) : Type 0 where
  pub small : Small o
  pub low : LowValid o
  pub high : HighValid o
  pub reflexive : Reflexive o
  pub transitive : Transitive o
  pub antisymmetric : Antisymmetric o
