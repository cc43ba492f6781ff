-- The frame of a call, and why it may not be written. Assumes nothing.
use Rattle.std.specs.Prelude.{ℕ, suc, ◌+◌, List, [], ◌∷◌, ◌++◌, length, take, drop, Some, None, Option, nat_le}
use Rattle.frames.specs.declared.fault.Flaw.TheVariants.{WrongCount, OutOfRange}
use Rattle.frames.specs.Faults.{FrameFault}
use Rattle.frames.specs.declared.table.Parameter.{Parameter}
use Rattle.frames.specs.Words.{word_of, head_of}
use Rattle.frames.specs.Faults.{blame}
use Rattle.frames.specs.Table.{kind_code, within, parameters_of, data_of, takes_data}
use Rattle.frames.specs.Requests.{Request, call_number, arguments_of, data_in}
use Rattle.frames.specs.Decode.{or_else, deny_unless, past_end}

-- a word for each argument
abbrev pub argument_words : List Parameter → List ℕ → List ℕ
argument_words [] vs = []
argument_words (p ∷ ps) [] = []
argument_words (p ∷ ps) (v ∷ vs) = word_of (kind_code p.kind) v ∷ argument_words ps vs

-- head, arguments and data words
abbrev pub frame_of : ℕ → List Parameter → List ℕ → List ℕ → List ℕ
frame_of n ps vs words = head_of n (length ps + length words) ∷ (argument_words ps vs ++ words)

-- the frame of a call
abbrev pub encode : Request → List ℕ
encode c = frame_of (call_number c) (parameters_of (call_number c)) (arguments_of c) (data_in c)

-- the first value that is out of its range, from the word of that index on
abbrev pub value_fault : ℕ → List Parameter → List ℕ → Option FrameFault
value_fault place [] vs = None
value_fault place (p ∷ ps) [] = None
value_fault place (p ∷ ps) (v ∷ vs) = or_else (deny_unless (within p v) (blame OutOfRange place)) (value_fault (suc place) ps vs)

-- why a frame is not written into a buffer of `room` words: data words, values, word 255, and last the buffer
abbrev pub refusal : Request → ℕ → Option FrameFault
refusal c room =
    or_else (deny_unless (takes_data (data_of (call_number c)) (length (data_in c))) (blame WrongCount 0))
    (or_else (value_fault 1 (parameters_of (call_number c)) (arguments_of c))
    (or_else (past_end c)
    (deny_unless (nat_le (length (encode c)) room) (blame WrongCount 0))))

-- a buffer with words put into it from a place on
abbrev pub put : ℕ → List ℕ → List ℕ → List ℕ
put a ws buffer = take a buffer ++ (ws ++ drop (a + length ws) buffer)

-- the buffer after: the frame at its start and the rest as it was, or all of it as it was
abbrev pub buffer_after : Option FrameFault → List ℕ → List ℕ → List ℕ
buffer_after None frame buffer = put 0 frame buffer
buffer_after (Some f) frame buffer = buffer
