-- What may be asked of a session, and of what a run answers.
use Rattle.std.specs.Prelude.{ℕ, cond, Some, None, Ok, Err, Option, Result, nat_lt}
use Rattle.bus.specs.declared.refusal.Refusal.{Refusal}
use Rattle.bus.specs.declared.refusal.Refusal.TheVariants.{NoSuchRegister}
use Rattle.bus.specs.Refusals.{number_of, place_of}
use Rattle.processor.specs.Registers.{register}
use Rattle.machine.specs.declared.held.Machine.{Machine}

-- a register by its number; there is none above 31
abbrev pub register_answer : ℕ → Machine → Result ℕ Refusal
register_answer n m = cond (nat_lt n 32) (Ok (register m.cpu n)) (Err NoSuchRegister)

-- the number of an answer's refusal, and its place: 0 for none
abbrev pub answer_number : Option Refusal → ℕ
answer_number None = 0
answer_number (Some e) = number_of e

abbrev pub answer_place : Option Refusal → ℕ
answer_place None = 0
answer_place (Some e) = place_of e
