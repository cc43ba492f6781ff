-- Lists of calls, and what holds of every call. Assumes nothing.
use Rattle.std.specs.Prelude.{◌≡◌, ℕ, ◌≤◌, cond, List, [], ◌∷◌, length, ◌==◌, ◌≢◌, nat_le}
use Rattle.rules.specs.Changes.{Store}
use Rattle.rules.specs.Calls.{values}
use Rattle.rules.specs.Setup.{Setup}
use Rattle.rules.specs.Responses.{RawCall, Response, response, after}

-- what the calls of a list are answered
abbrev pub responses : Setup → Store → List RawCall → List Response
responses s w [] = []
responses s w (c ∷ cs) = response s w c ∷ responses s (after s w c) cs

-- the store after a list of calls
abbrev pub after_all : Setup → Store → List RawCall → Store
after_all s w [] = w
after_all s w (c ∷ cs) = after_all s (after s w c) cs

-- a granted call has layer 0, denials 1 to 5 are of layer 1, the others of layer 2
abbrev pub layer_of : ℕ → ℕ
layer_of n = cond (n == 0) 0 (cond (nat_le n 5) 1 2)

-- in any store, of any call
pub record RepliesExact : Type 0 where
  -- a denied call changes nothing, and gets four zero values and no words
  pub denied : (s : Setup) (w : Store) (c : RawCall) → ((response s w c).reply.answer ≢ 0)
      → (after s w c ≡ w) × ((response s w c).reply.values ≡ values 0 0 0 0) × ((response s w c).words ≡ [])
  -- each reply tells the layer of its answer
  pub layered : (s : Setup) (w : Store) (c : RawCall) → (response s w c).reply.layer ≡ layer_of (response s w c).reply.answer
  -- there are four values
  pub four_values : (s : Setup) (w : Store) (c : RawCall) → length (response s w c).reply.values ≡ 4
  -- and no more words than fit into the reply buffer
  pub words_fit : (s : Setup) (w : Store) (c : RawCall) → length (response s w c).words ≤ c.room
