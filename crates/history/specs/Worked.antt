-- Worked steps: small jobs on a RAM of 256 bytes from 1000h on, and what the written rules make of each.
use Rattle.std.specs.Prelude.{◌≡◌, ℕ, Bool, true, false, cond, List, [], ◌∷◌, ◌++◌, map, length, replicate, slice_index}
use Rattle.board.specs.declared.Right.{Right}
use Rattle.board.specs.declared.Right.TheVariants.{ReadWrite}
use Rattle.board.specs.Meaning.{covers, over, held}
use Rattle.bus.specs.Sheets.{All}
use Rattle.processor.specs.Registers.{register}
use Rattle.history.specs.declared.call.Call.{Call}
use Rattle.history.specs.declared.call.Call.TheVariants.{Preset, Start, Step}
use Rattle.history.specs.declared.call.Reply.{Reply}
use Rattle.history.specs.declared.call.Reply.TheVariants.{Accepted, Refused, Ran, OutOfPlace}
use Rattle.machine.specs.Asked.{answer_number, answer_place}
use Rattle.session.specs.Calls.{State}
use Rattle.history.specs.History.{reached, answered}

-- the RAM's rights, and its bytes where some stretches of it are filled and all else is 0
abbrev pub ram : ℕ → Right
ram a = over ReadWrite 0x1000 256 a

abbrev pub filled : List (ℕ × List ℕ) → ℕ → ℕ
filled [] a = 0
filled (x ∷ xs) a = cond (covers x.0 (length x.1) a) (held x.0 (length x.1) (slice_index x.1) a) (filled xs a)

-- what is told of the end of a job
pub data Fact : Type 0 where
  -- a register holds a number
  register_is : ℕ → ℕ → Fact
  pc_is : ℕ → Fact
  -- the flags OV, S and Z
  flags_are : Bool → Bool → Bool → Fact
  -- so many reads lines are used
  reads_are : ℕ → Fact
  -- the bytes on the writes lines, each with its address
  writes_are : List (ℕ × ℕ) → Fact
  -- the board holds a byte at an address
  holds : ℕ → ℕ → Fact

abbrev pub Told : State → Fact → Type 0
Told s (register_is n v) = register s.machine.cpu n ≡ v
Told s (pc_is v) = s.machine.cpu.pc ≡ v
Told s (flags_are ov sign z) = (s.machine.cpu.flags.ov ≡ ov) × (s.machine.cpu.flags.s ≡ sign) × (s.machine.cpu.flags.z ≡ z)
Told s (reads_are n) = length s.reads ≡ n
Told s (writes_are ws) = map (λ l. (l.address, l.byte)) s.writes ≡ ws
Told s (holds a b) = s.bytes a ≡ b

-- a job: presets, filled stretches, the PC, and what each of its steps answers by number and place; then the facts
pub record Job : Type 0 where
  pub presets : List (ℕ × ℕ)
  pub memory : List (ℕ × List ℕ)
  pub pc : ℕ
  pub answers : List (ℕ × ℕ)
  pub facts : List Fact

-- the job's calls, beside sheets of 600 lines
abbrev pub calls_of : Job → List Call
calls_of j = map (λ p. Preset p.0 p.1) j.presets ++ (Start j.pc ∷ replicate (length j.answers) (Step (record { reads = 600; writes = 600 })))

-- the number and the place that a step answered
abbrev pub told_by : Reply → List (ℕ × ℕ)
told_by Accepted = []
told_by (Refused e) = []
told_by (Ran a) = (answer_number a.refusal, answer_place a.refusal) ∷ []
told_by OutOfPlace = []

abbrev pub steps_of : List Reply → List (ℕ × ℕ)
steps_of [] = []
steps_of (r ∷ rs) = told_by r ++ steps_of rs

-- the job comes to what is told of it
pub record Agrees (j : Job) : Type 0 where
  pub answers : steps_of (answered ram (filled j.memory) (calls_of j)) ≡ j.answers
  pub facts : All (Told (reached ram (filled j.memory) (calls_of j)).state) j.facts

abbrev pub jobs : List Job
jobs =
    -- MOV.w #5, R1
    record {
      presets = [];
      memory = (0x1000, 0x2d ∷ 0x21 ∷ 0xe5 ∷ []) ∷ [];
      pc = 0x1000;
      answers = (0, 0) ∷ [];
      facts = register_is 1 5 ∷ pc_is 0x1003 ∷ reads_are 3 ∷ [];
    }
    -- the third byte of the instruction lies past the RAM; a second try lists nothing more
    ∷ record {
      presets = [];
      memory = (0x10fe, 0x2d ∷ 0x21 ∷ []) ∷ [];
      pc = 0x10fe;
      answers = (10, 0x1100) ∷ (10, 0x1100) ∷ [];
      facts = reads_are 2 ∷ pc_is 0x10fe ∷ [];
    }
    -- MOV.w R1, /1010h
    ∷ record {
      presets = (1, 0x11223344) ∷ [];
      memory = (0x1000, 0x2d ∷ 0x01 ∷ 0xf3 ∷ 0x10 ∷ 0x10 ∷ 0x00 ∷ 0x00 ∷ []) ∷ [];
      pc = 0x1000;
      answers = (0, 0) ∷ [];
      facts = writes_are ((0x1010, 0x44) ∷ (0x1011, 0x33) ∷ (0x1012, 0x22) ∷ (0x1013, 0x11) ∷ []) ∷ pc_is 0x1007 ∷ [];
    }
    -- XOR.w R1, [R2+]
    ∷ record {
      presets = (1, 0xffffffff) ∷ (2, 0x1020) ∷ [];
      memory = (0x1000, 0xb4 ∷ 0x41 ∷ 0x82 ∷ []) ∷ (0x1020, 0xff ∷ 0xff ∷ 0xff ∷ 0xff ∷ []) ∷ [];
      pc = 0x1000;
      answers = (0, 0) ∷ [];
      facts = writes_are ((0x1020, 0) ∷ (0x1021, 0) ∷ (0x1022, 0) ∷ (0x1023, 0) ∷ []) ∷ register_is 2 0x1024 ∷ flags_are false false true ∷ [];
    }
    -- MOVEA.w 8[R2](R3), R4
    ∷ record {
      presets = (2, 0x2000) ∷ (3, 0xffffffff) ∷ [];
      memory = (0x1000, 0x44 ∷ 0x64 ∷ 0xc3 ∷ 0x02 ∷ 0x08 ∷ []) ∷ [];
      pc = 0x1000;
      answers = (0, 0) ∷ [];
      facts = register_is 4 0x2004 ∷ [];
    }
    -- MOVS.bh R1, R2
    ∷ record {
      presets = (1, 128) ∷ (2, 0x12345678) ∷ [];
      memory = (0x1000, 0x0a ∷ 0x41 ∷ 0x62 ∷ []) ∷ [];
      pc = 0x1000;
      answers = (0, 0) ∷ [];
      facts = register_is 2 0x1234ff80 ∷ [];
    }
    -- MOV.w R1, #5 writes an immediate
    ∷ record {
      presets = [];
      memory = (0x1000, 0x2d ∷ 0x01 ∷ 0xe5 ∷ []) ∷ [];
      pc = 0x1000;
      answers = (19, 0x1002) ∷ [];
      facts = pc_is 0x1000 ∷ reads_are 3 ∷ [];
    }
    -- a mode byte that is not listed
    ∷ record {
      presets = [];
      memory = (0x1000, 0x2d ∷ 0x41 ∷ 0xe0 ∷ []) ∷ [];
      pc = 0x1000;
      answers = (18, 0x1002) ∷ [];
      facts = pc_is 0x1000 ∷ reads_are 3 ∷ [];
    }
    -- MOVC.b [R1] of R3 characters, [R2] of R2: 129 are too many
    ∷ record {
      presets = (2, 0) ∷ (3, 129) ∷ [];
      memory = (0x1000, 0x58 ∷ 0x08 ∷ 0x61 ∷ 0x83 ∷ 0x62 ∷ 0x82 ∷ []) ∷ [];
      pc = 0x1000;
      answers = (70, 0x1003) ∷ [];
      facts = pc_is 0x1000 ∷ reads_are 6 ∷ [];
    }
    -- 128 are not
    ∷ record {
      presets = (2, 0) ∷ (3, 128) ∷ [];
      memory = (0x1000, 0x58 ∷ 0x08 ∷ 0x61 ∷ 0x83 ∷ 0x62 ∷ 0x82 ∷ []) ∷ [];
      pc = 0x1000;
      answers = (0, 0) ∷ [];
      facts = pc_is 0x1006 ∷ [];
    }
    -- MOVC.b [R1] of 3 characters, [R2] of 2, one byte further up: each copied character is copied again
    ∷ record {
      presets = (1, 0x1020) ∷ (2, 0x1021) ∷ [];
      memory = (0x1000, 0x58 ∷ 0x08 ∷ 0x61 ∷ 0x03 ∷ 0x62 ∷ 0x02 ∷ []) ∷ (0x1020, 0x41 ∷ 0x42 ∷ 0x43 ∷ []) ∷ [];
      pc = 0x1000;
      answers = (0, 0) ∷ [];
      facts = holds 0x1020 0x41 ∷ holds 0x1021 0x41 ∷ holds 0x1022 0x41 ∷ register_is 28 0x1022 ∷ register_is 27 0x1023 ∷ reads_are 7 ∷ [];
    }
    ∷ []
