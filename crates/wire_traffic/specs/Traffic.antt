-- What a bus carries, the samples of clean wires that carry it, and the bus events that it stands for (document 02, W7).
use Rattle.std.specs.Prelude.{Bool, true, false, cond, not, ◌&&◌, ◌||◌, List, [], ◌∷◌, ◌++◌, map, ℕ, ◌/◌, ◌%◌, eqb, leb, ltb, length, replicate}
use Rattle.wire_samples.specs.declared.Stage.{Stage}
use Rattle.wire_samples.specs.declared.Stage.TheVariants.{Outside, Waiting, First, Writing, Reading}
use Rattle.wire_samples.specs.declared.Wires.{Wires}
use Rattle.wire_samples.specs.Signal.{both_change}
use Rattle.wire_samples.specs.Sample.{wires, is_waiting}
use Rattle.wire_samples.specs.Feed.{Feed}

-- START, STOP, or a byte: its value and its ninth bit, which is low where the byte is acknowledged. In a byte that is written the ninth bit is the
-- chip's, in a byte that is read the value is: either may be anything.
pub data Carried : Type 0 where
  start : Carried
  stop : Carried
  byte : ℕ → Bool → Carried

-- a value is a byte
abbrev pub is_byte : Carried → Bool
is_byte start = true
is_byte stop = true
is_byte (byte v b) = ltb v 256

unfoldable pub are_bytes : List Carried → Bool
are_bytes [] = true
are_bytes (c ∷ cs) = is_byte c && are_bytes cs

-- ---- the wires

-- the lines where nothing is under way: both high, or the clock held low and the data line high or low
pub data Lines : Type 0 where
  idle : Lines
  held : Bool → Lines

-- the samples with the data line there and the clock low, or high
abbrev pub low : Bool → ℕ
low d = cond d 1 0

abbrev pub high : Bool → ℕ
high d = cond d 3 2

abbrev pub level_of : Lines → ℕ
level_of idle = 3
level_of (held d) = low d

-- the data line moves while the clock is low; the clock rises and falls
abbrev pub bit_samples : Bool → List ℕ
bit_samples b = low b ∷ high b ∷ low b ∷ []

unfoldable pub bits_samples : List Bool → List ℕ
bits_samples [] = []
bits_samples (b ∷ bs) = bit_samples b ++ bits_samples bs

abbrev pub is_odd : ℕ → Bool
is_odd n = eqb (n % 2) 1

-- the high bit first
abbrev pub bits_of : ℕ → List Bool
bits_of v =
    is_odd (v / 128)
    ∷ is_odd (v / 64)
    ∷ is_odd (v / 32)
    ∷ is_odd (v / 16)
    ∷ is_odd (v / 8)
    ∷ is_odd (v / 4)
    ∷ is_odd (v / 2)
    ∷ is_odd v
    ∷ []

abbrev pub byte_samples : ℕ → Bool → List ℕ
byte_samples v b = bits_samples (bits_of v) ++ bit_samples b

-- START: the data line falls while the clock is high; STOP: it rises then. It makes every other move while the clock is low.
unfoldable pub samples_for : Lines → Carried → List ℕ
samples_for idle start = 2 ∷ 0 ∷ []
samples_for idle stop = 1 ∷ 0 ∷ 2 ∷ 3 ∷ []
samples_for idle (byte v b) = 1 ∷ byte_samples v b
samples_for (held d) start = 1 ∷ 3 ∷ 2 ∷ 0 ∷ []
samples_for (held d) stop = 0 ∷ 2 ∷ 3 ∷ []
samples_for (held d) (byte v b) = byte_samples v b

abbrev pub lines_after : Carried → Lines
lines_after start = held false
lines_after stop = idle
lines_after (byte v b) = held b

unfoldable pub samples_of : Lines → List Carried → List ℕ
samples_of l [] = []
samples_of l (c ∷ cs) = samples_for l c ++ samples_of (lines_after c) cs

unfoldable pub lines_after_all : Lines → List Carried → Lines
lines_after_all l [] = l
lines_after_all l (c ∷ cs) = lines_after_all (lines_after c) cs

-- ---- the events

-- by the stage that it comes upon: a byte outside a message tells nothing, and while START is waited for STOP does not either
unfoldable pub events_for : Stage → Carried → List ℕ
events_for st start = 256 ∷ []
events_for st stop = cond (is_waiting st) [] (257 ∷ [])
events_for Outside (byte v b) = []
events_for Waiting (byte v b) = []
events_for First (byte v b) = v ∷ []
events_for Writing (byte v b) = v ∷ []
events_for Reading (byte v b) = cond b 259 258 ∷ []

-- the low bit of the first byte says whether those that follow are read
abbrev pub stage_on_byte : Stage → ℕ → Stage
stage_on_byte Outside v = Outside
stage_on_byte Waiting v = Waiting
stage_on_byte First v = cond (is_odd v) Reading Writing
stage_on_byte Writing v = Writing
stage_on_byte Reading v = Reading

unfoldable pub stage_for : Stage → Carried → Stage
stage_for st start = First
stage_for st stop = cond (is_waiting st) Waiting Outside
stage_for st (byte v b) = stage_on_byte st v

unfoldable pub events_by : Stage → List Carried → List ℕ
events_by st [] = []
events_by st (c ∷ cs) = events_for st c ++ events_by (stage_for st c) cs

unfoldable pub stage_by : Stage → List Carried → Stage
stage_by st [] = st
stage_by st (c ∷ cs) = stage_by (stage_for st c) cs

-- ---- which events wires can tell

-- the next event: START at every stage, STOP but while START is waited for, in a message 0 to 255 where bytes are written and 258 or 259 where
-- they are read
abbrev pub can_tell : Stage → ℕ → Bool
can_tell Outside e = eqb e 256 || eqb e 257
can_tell Waiting e = eqb e 256
can_tell First e = leb e 257
can_tell Writing e = leb e 257
can_tell Reading e = leb 256 e && leb e 259

-- the stage after it
abbrev pub stage_told : Stage → ℕ → Stage
stage_told st e = cond (eqb e 256) First (cond (eqb e 257) Outside (stage_on_byte st e))

unfoldable pub can_be_told : Stage → List ℕ → Bool
can_be_told st [] = true
can_be_told st (e ∷ es) = can_tell st e && can_be_told (stage_told st e) es

-- what may carry it: a byte written is acknowledged, and of a byte read all bits are high
abbrev pub carried_of : ℕ → Carried
carried_of e =
    cond (eqb e 256) start
    (cond (eqb e 257) stop
    (cond (eqb e 258) (byte 255 false)
    (cond (eqb e 259) (byte 255 true) (byte e false))))

abbrev pub carried_by : List ℕ → List Carried
carried_by es = map carried_of es

-- ---- clean wires, and how often they are sampled

-- 0 to 3, and at most one line changes from the sample before
abbrev pub is_clean : ℕ → ℕ → Bool
is_clean before s = leb s 3 && not (both_change before s)

unfoldable pub are_clean : ℕ → List ℕ → Bool
are_clean before [] = true
are_clean before (s ∷ ss) = is_clean before s && are_clean s ss

-- the level before the first sample is seen so many times, then each sample so many times more; where the numbers end, the rest as it is
unfoldable pub stretched : ℕ → List ℕ → List ℕ → List ℕ
stretched before [] ss = ss
stretched before (n ∷ ns) [] = replicate n before
stretched before (n ∷ ns) (s ∷ ss) = replicate n before ++ s ∷ stretched s ns ss

-- ---- from the start

-- clean samples that carry these events, seen so many times each
abbrev pub clean_samples : List ℕ → List ℕ → List ℕ
clean_samples es ns = stretched 3 ns (samples_of idle (carried_by es))

-- the wires after them: no sample was unclear, and no bit is taken
abbrev pub clean_end : List ℕ → Wires
clean_end es = wires 0 (level_of (lines_after_all idle (carried_by es))) (stage_by Outside (carried_by es)) 0 0

-- a call that consumes every sample, and refuses nothing
abbrev pub all_consumed : Wires → List ℕ → List ℕ → Feed
all_consumed w ss es = record { wires = w; consumed = length ss; events = es; refusal = 0 }
