-- What a frame means: the call that it asks for, or why it is denied. Assumes nothing.
use Rattle.std.specs.Prelude.{ℕ, suc, ◌+◌, ◌-◌, Bool, cond, ◌&&◌, List, [], ◌∷◌, map, length, take, drop, Some, None, Ok, Err, Option, Result, ◌==◌, nat_le, nat_lt, slice_index}
use Rattle.frames.specs.declared.fault.Flaw.TheVariants.{NotACall, WrongCount, WrongKind, OutOfRange}
use Rattle.frames.specs.Faults.{FrameFault}
use Rattle.frames.specs.declared.table.Parameter.{Parameter}
use Rattle.frames.specs.Words.{kind_of, value_of, number_in, count_in, signed}
use Rattle.frames.specs.Faults.{blame}
use Rattle.frames.specs.Table.{kind_code, within, parameters_of, arity, data_of, takes}
use Rattle.frames.specs.Requests.{Request, create_segment, create_directory, make_known, terminate, read, write, truncate, delete, move_quota, status, quota, reply_words}

abbrev pub bind : {A B E : Type 0} → Result A E → (A → Result B E) → Result B E
bind (Ok x) k = k x
bind (Err e) k = Err e

abbrev pub map_ok : {A B E : Type 0} → (A → B) → Result A E → Result B E
map_ok f (Ok x) = Ok (f x)
map_ok f (Err e) = Err e

-- a value, unless there is a fault
abbrev pub unless : {A : Type 0} → Option FrameFault → A → Result A FrameFault
unless None x = Ok x
unless (Some f) x = Err f

-- the first of two faults
abbrev pub or_else : Option FrameFault → Option FrameFault → Option FrameFault
or_else None o = o
or_else (Some f) o = Some f

-- no fault where the test holds
abbrev pub deny_unless : Bool → FrameFault → Option FrameFault
deny_unless b f = cond b None (Some f)

-- a head is of kind 8 and names a call from 1 to 11
abbrev pub is_head : ℕ → Bool
is_head h = kind_of h == 8 && (nat_le 1 (number_in h) && nat_le (number_in h) 11)

-- the words that follow are as many as the head says, and as the call takes
abbrev pub is_counted : ℕ → ℕ → Bool
is_counted h words = count_in h == words && takes (arity (number_in h)) (data_of (number_in h)) words

-- the number of the call: first there is a head, then its count is right
abbrev pub call_in : List ℕ → Result ℕ FrameFault
call_in frame =
    cond (nat_lt 0 (length frame) && is_head (slice_index frame 0))
    (cond (is_counted (slice_index frame 0) (length frame - 1)) (Ok (number_in (slice_index frame 0))) (Err (blame WrongCount 0)))
    (Err (blame NotACall 0))

-- the argument in the word of that index: its kind is tested before its value
abbrev pub argument : ℕ → Parameter → ℕ → Result ℕ FrameFault
argument place p w =
    cond (kind_of w == kind_code p.kind)
    (cond (within p (value_of w)) (Ok (value_of w)) (Err (blame OutOfRange place)))
    (Err (blame WrongKind place))

abbrev pub err_or : Result ℕ FrameFault → Option FrameFault → Option FrameFault
err_or (Ok v) rest = rest
err_or (Err f) rest = Some f

-- the first fault of the arguments, word by word
abbrev pub argument_fault : ℕ → List Parameter → List ℕ → Option FrameFault
argument_fault place [] ws = None
argument_fault place (p ∷ ps) [] = None
argument_fault place (p ∷ ps) (w ∷ ws) = err_or (argument place p w) (argument_fault (suc place) ps ws)

-- the call of a number, its values in order and its data words
abbrev pub request_of : ℕ → (ℕ → ℕ) → List ℕ → Request
request_of n value words =
    cond (n == 1) (create_segment (value 0) (value 1))
    (cond (n == 2) (create_directory (value 0) (value 1) (value 2) (value 3) (value 4))
    (cond (n == 3) (make_known (value 0) (value 1) (value 2))
    (cond (n == 4) (terminate (value 0))
    (cond (n == 5) (read (value 0) (value 1) (value 2))
    (cond (n == 6) (write (value 0) (value 1) words)
    (cond (n == 7) (truncate (value 0) (value 1))
    (cond (n == 8) (delete (value 0) (value 1))
    (cond (n == 9) (move_quota (value 0) (value 1) (signed (value 2)))
    (cond (n == 10) (status (value 0) (value 1))
    (quota (value 0)))))))))))

-- the call of a number that the words behind the head ask for: its arguments, then its data words
abbrev pub request_in : ℕ → List ℕ → Request
request_in n ws = request_of n (λ i. slice_index (map value_of (take (arity n) ws)) i) (drop (arity n) ws)

-- the call that the words of a frame spell: its head, then its arguments
abbrev pub spelled : List ℕ → Result Request FrameFault
spelled frame = bind (call_in frame) (λ n. unless (argument_fault 1 (parameters_of n) (drop 1 frame)) (request_in n (drop 1 frame)))

-- a read or a write does not pass word 255 of its segment
abbrev pub past_end : Request → Option FrameFault
past_end (create_segment d e) = None
past_end (create_directory d e security integrity grant) = None
past_end (make_known d e n) = None
past_end (terminate n) = None
past_end (read s first count) = deny_unless (nat_le (first + count) 256) (blame OutOfRange 3)
past_end (write s first words) = deny_unless (nat_le (first + length words) 256) (blame OutOfRange 2)
past_end (truncate s keep) = None
past_end (delete d e) = None
past_end (move_quota d e amount) = None
past_end (status d e) = None
past_end (quota d) = None

-- the words of a read fit into a reply buffer of `room` words
abbrev pub past_room : Request → ℕ → Option FrameFault
past_room c room = deny_unless (nat_le (reply_words c) room) (blame OutOfRange 3)

-- the call that a frame asks for, or why it is denied, with a reply buffer of `room` words
abbrev pub decode : List ℕ → ℕ → Result Request FrameFault
decode frame room = bind (spelled frame) (λ c. unless (or_else (past_end c) (past_room c room)) c)
