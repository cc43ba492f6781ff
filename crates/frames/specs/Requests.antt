-- A call as the rules see it: the data words of a write are a list, and not a part of some frame. Assumes nothing.
use Rattle.std.specs.Prelude.{ℕ, List, [], ◌∷◌, ℤ}
use Rattle.frames.specs.declared.call.Call.{Call}
use Rattle.frames.specs.declared.call.Call.TheVariants.{CreateSegment, CreateDirectory, MakeKnown, Terminate, Read, Write, Truncate, Delete, MoveQuota, Status, Quota}
use Rattle.frames.specs.Words.{unsigned}

pub data Request : Type 0 where
  create_segment : (d e : ℕ) → Request
  create_directory : (d e security integrity grant : ℕ) → Request
  make_known : (d e n : ℕ) → Request
  terminate : (n : ℕ) → Request
  read : (s first count : ℕ) → Request
  write : (s first : ℕ) (words : List ℕ) → Request
  truncate : (s keep : ℕ) → Request
  delete : (d e : ℕ) → Request
  move_quota : (d e : ℕ) (amount : ℤ) → Request
  status : (d e : ℕ) → Request
  quota : (d : ℕ) → Request

-- what a call of the code asks, wherever its words lie
abbrev pub request : Call → Request
request (CreateSegment d e) = create_segment d e
request (CreateDirectory d e security integrity grant) = create_directory d e security integrity grant
request (MakeKnown d e n) = make_known d e n
request (Terminate n) = terminate n
request (Read s first count) = read s first count
request (Write s first words) = write s first words.now
request (Truncate s keep) = truncate s keep
request (Delete d e) = delete d e
request (MoveQuota d e amount) = move_quota d e amount
request (Status d e) = status d e
request (Quota d) = quota d

-- a call taken apart: its number, the values of its arguments in the order of the frame, and its data words
pub record Parts : Type 0 where
  pub number : ℕ
  pub arguments : List ℕ
  pub words : List ℕ

abbrev pub parts : ℕ → List ℕ → List ℕ → Parts
parts n vs ws = record { number = n; arguments = vs; words = ws }

abbrev pub parts_of : Request → Parts
parts_of (create_segment d e) = parts 1 (d ∷ e ∷ []) []
parts_of (create_directory d e security integrity grant) = parts 2 (d ∷ e ∷ security ∷ integrity ∷ grant ∷ []) []
parts_of (make_known d e n) = parts 3 (d ∷ e ∷ n ∷ []) []
parts_of (terminate n) = parts 4 (n ∷ []) []
parts_of (read s first count) = parts 5 (s ∷ first ∷ count ∷ []) []
parts_of (write s first words) = parts 6 (s ∷ first ∷ []) words
parts_of (truncate s keep) = parts 7 (s ∷ keep ∷ []) []
parts_of (delete d e) = parts 8 (d ∷ e ∷ []) []
parts_of (move_quota d e amount) = parts 9 (d ∷ e ∷ unsigned amount ∷ []) []
parts_of (status d e) = parts 10 (d ∷ e ∷ []) []
parts_of (quota d) = parts 11 (d ∷ []) []

abbrev pub call_number : Request → ℕ
call_number c = (parts_of c).number

abbrev pub arguments_of : Request → List ℕ
arguments_of c = (parts_of c).arguments

abbrev pub data_in : Request → List ℕ
data_in c = (parts_of c).words

-- how many words of the reply buffer a call fills: a read its count, and any other call none
abbrev pub reply_words : Request → ℕ
reply_words (create_segment d e) = 0
reply_words (create_directory d e security integrity grant) = 0
reply_words (make_known d e n) = 0
reply_words (terminate n) = 0
reply_words (read s first count) = count
reply_words (write s first words) = 0
reply_words (truncate s keep) = 0
reply_words (delete d e) = 0
reply_words (move_quota d e amount) = 0
reply_words (status d e) = 0
reply_words (quota d) = 0
