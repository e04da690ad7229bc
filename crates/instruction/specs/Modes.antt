-- The addressing modes, by their bytes.
use Rattle.std.specs.Prelude.{ℕ, ◌-◌, ◌/◌, ◌%◌, Bool, true, false, cond, List, [], ◌∷◌, Some, None, Ok, Err, Option, Result, ◌==◌, nat_lt, slice_index_or}
use Rattle.number.specs.declared.width.Size.{Size}
use Rattle.number.specs.declared.width.Size.TheVariants.{Byte, Halfword, Word, Doubleword}
use Rattle.instruction.specs.declared.operation.Access.{Access}
use Rattle.instruction.specs.declared.operation.Access.TheVariants.{Read, Write, Modify, Address}
use Rattle.instruction.specs.declared.operand.Base.TheVariants.{Register as On, Pc, Zero}
use Rattle.instruction.specs.declared.mode.Shape.TheVariants.{Indirect, Displaced, Deferred}
use Rattle.instruction.specs.declared.mode.Mode.{Mode}
use Rattle.instruction.specs.declared.mode.Mode.TheVariants.{At, Quick, Immediate, Register, Increment, Decrement, Double, Index}
use Rattle.instruction.specs.declared.mode.Misfit.{Misfit}
use Rattle.instruction.specs.declared.mode.Misfit.TheVariants.{Reserved, Forbidden}
use Rattle.bus.specs.declared.refusal.Refusal.{Refusal}
use Rattle.bus.specs.declared.refusal.Refusal.TheVariants.{ReservedEncoding, ForbiddenMode}

-- the list of modes that a byte with 7 in its top three bits chooses from by its low five, where m is 0: 0 to 15 are quick immediates, and from 16 on
abbrev pub list : List (Option Mode)
list =
    Some (At (Displaced Pc Byte)) ∷ Some (At (Displaced Pc Halfword)) ∷ Some (At (Displaced Pc Word)) ∷ Some (At (Displaced Zero Word)) ∷ Some Immediate ∷ None ∷ None ∷ None
    ∷ Some (At (Deferred Pc Byte)) ∷ Some (At (Deferred Pc Halfword)) ∷ Some (At (Deferred Pc Word)) ∷ Some (At (Deferred Zero Word))
    ∷ Some (Double Pc Byte) ∷ Some (Double Pc Halfword) ∷ Some (Double Pc Word) ∷ None ∷ []

abbrev pub listed_mode : ℕ → Option Mode
listed_mode n = cond (nat_lt n 16) (Some (Quick n)) (slice_index_or list (n - 16) None)

-- the mode of byte b where m is 0: its top three bits choose, the low five are n
abbrev pub plain_modes : ℕ → List (Option Mode)
plain_modes n =
    Some (At (Displaced (On n) Byte)) ∷ Some (At (Displaced (On n) Halfword)) ∷ Some (At (Displaced (On n) Word)) ∷ Some (At (Indirect n))
    ∷ Some (At (Deferred (On n) Byte)) ∷ Some (At (Deferred (On n) Halfword)) ∷ Some (At (Deferred (On n) Word)) ∷ listed_mode n ∷ []

abbrev pub plain_mode : ℕ → Option Mode
plain_mode b = slice_index_or (plain_modes (b % 32)) (b / 32) None

-- where m is 1
abbrev pub register_modes : ℕ → List (Option Mode)
register_modes n =
    Some (Double (On n) Byte) ∷ Some (Double (On n) Halfword) ∷ Some (Double (On n) Word)
    ∷ Some (Register n) ∷ Some (Increment n) ∷ Some (Decrement n) ∷ Some (Index n) ∷ None ∷ []

abbrev pub register_mode : ℕ → Option Mode
register_mode b = slice_index_or (register_modes (b % 32)) (b / 32) None

abbrev pub mode_of : Bool → ℕ → Option Mode
mode_of false b = plain_mode b
mode_of true b = register_mode b

-- an immediate may only be read, and not as a doubleword
abbrev pub immediate_verdict : Access → Size → Result (Unit {0}) Misfit
immediate_verdict Read Byte = Ok tt
immediate_verdict Read Halfword = Ok tt
immediate_verdict Read Word = Ok tt
immediate_verdict Read Doubleword = Err Reserved
immediate_verdict Write s = Err Forbidden
immediate_verdict Modify s = Err Forbidden
immediate_verdict Address s = Err Forbidden

-- a register has no address, and R31 is no doubleword
abbrev pub whole_register : Size → ℕ → Result (Unit {0}) Misfit
whole_register Byte n = Ok tt
whole_register Halfword n = Ok tt
whole_register Word n = Ok tt
whole_register Doubleword n = cond (n == 31) (Err Reserved) (Ok tt)

abbrev pub register_verdict : Access → Size → ℕ → Result (Unit {0}) Misfit
register_verdict Read s n = whole_register s n
register_verdict Write s n = whole_register s n
register_verdict Modify s n = whole_register s n
register_verdict Address s n = Err Forbidden

-- what an operand at p that does not fit is refused with
abbrev pub refusal_at : ℕ → Misfit → Refusal
refusal_at p Reserved = ReservedEncoding p
refusal_at p Forbidden = ForbiddenMode p
